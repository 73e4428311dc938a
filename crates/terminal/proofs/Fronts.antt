-- What was read behind the front of a buffer.
use Rattle.std.proofs.Common.{◌≡◌, ℕ, ◌+◌, ◌≤◌, List, ◌++◌, length, take, sym, ap, ◌∙◌, length-take-le}
use Rattle.std.proofs.Math.Seq.{take-append-add}
use Rattle.std.proofs.lemmas.List.{take-append-le}
use borrow.Rule.Slice.PartMut.{put_mid, post_of}

-- the front stays, and what was read follows it
pub take-put_mid_part : (a k n : ℕ) (xs ys : List ℕ) → a ≤ length xs → n ≤ length ys → take (a + n) (put_mid a k xs ys) ≡ take a xs ++ take n ys
take-put_mid_part a k n xs ys within fits =
    let front = take a xs in
    let behind = ys ++ post_of a k xs in
    ap (λ m. take (m + n) (front ++ behind)) (sym (length-take-le a xs within)) ∙ take-append-add front behind n ∙ ap (λ l. front ++ l) (take-append-le n ys (post_of a k xs) fits)
