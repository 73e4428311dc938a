-- What the loops keep of an array, and the whole record by its parts.
mod Laws
mod Whole
