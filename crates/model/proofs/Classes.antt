-- The classes at the ends of the ranges, and how many bytes have each: antt computes them.
use mathlib.Core.Path.{refl}
use Rattle.model.specs.Text.{bytes, class_of, count}
use Rattle.model.specs.Classes.{ClassesTold, numbers_from, members}

pub classes-told : ClassesTold
unfolding bytes class_of count numbers_from members
classes-told = record { digits = refl; signs = refl; small = refl; capital = refl; others = refl; forbidden = refl; counts = refl }
