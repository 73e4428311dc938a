-- Document 02, Note 6: "The contract of the class is the same." However it is found, the class of a byte is `Text.class_of`: at the ends of the ranges and next
-- to them, and counted over all bytes.
use Rattle.std.specs.Prelude.{◌≡◌, List, [], ◌∷◌, map, ℕ, zero, suc}
use Rattle.model.specs.Text.{bytes, class_of, count}

-- n numbers from b on
unfoldable pub numbers_from : ℕ → ℕ → List ℕ
numbers_from b zero = []
numbers_from b (suc n) = b ∷ numbers_from (suc b) n

-- how many bytes have the class c
unfoldable pub members : ℕ → ℕ
members c = count c (map class_of (numbers_from 0 256))

pub record ClassesTold : Type 0 where
  pub digits : map class_of (bytes "/09:") ≡ 9 ∷ 0 ∷ 0 ∷ 3 ∷ []
  pub signs : map class_of (bytes "-,:= \n") ≡ 1 ∷ 2 ∷ 3 ∷ 4 ∷ 5 ∷ 6 ∷ []
  pub small : map class_of (bytes "`az{") ≡ 9 ∷ 7 ∷ 7 ∷ 9 ∷ []
  pub capital : map class_of (bytes "@AZ[") ≡ 9 ∷ 8 ∷ 8 ∷ 9 ∷ []
  pub others : map class_of (bytes "!;~") ≡ 9 ∷ 9 ∷ 9 ∷ []
  pub forbidden : map class_of (0 ∷ 9 ∷ 13 ∷ 31 ∷ 127 ∷ 255 ∷ []) ≡ 10 ∷ 10 ∷ 10 ∷ 10 ∷ 10 ∷ 10 ∷ []
  pub counts : map members (numbers_from 0 11) ≡ 10 ∷ 1 ∷ 1 ∷ 1 ∷ 1 ∷ 1 ∷ 1 ∷ 26 ∷ 26 ∷ 28 ∷ 160 ∷ []
