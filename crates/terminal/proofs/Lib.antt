-- Numbers as they are printed, and what a read gave.
mod Numbers
mod Fronts
