-- The rows of an export are all of its bytes, and the fields of a row all of the row's.
use mathlib.Core.Path.{◌≡◌, refl, sym, ap, ◌∙◌}
use mathlib.Core.Bool.{Bool, true, false, cond, ◌&&◌}
use mathlib.Core.List.{List, [], ◌∷◌}
use Prim.Native.Nat.{ℕ}
use lib.Dec.{eqb}
use borrow.Author.Tests.{eqb-true}
use Rattle.model.specs.{Parsed.got, Text.line_feed, Text.comma, Text.split, Text.grow as grow_field}
use Rattle.model.proofs.Parsed.{need-got}
use Rattle.model_text.specs.Text.{joined}
use Rattle.model_text.proofs.{TextLaws.and_both, LineLaws.split-some}
use Rattle.model_log.specs.Log.{Row, ended, unfinished, grow, rows, clean, fields, carriage_return}
use Rattle.model_log.specs.Claims.{AllEnded, rows_text, RowsWhole, FieldsWhole}

grow-text : (b : ℕ) (rs : List Row) (s : List ℕ) → AllEnded (grow b rs) → (AllEnded rs → rows_text rs ≡ s) → rows_text (grow b rs) ≡ b ∷ s
grow-text b [] s h i = absurd h
grow-text b (ended t ∷ rs) s h i = ap (λ (x : List ℕ). b ∷ x) (i h)
grow-text b (unfinished ∷ rs) s h i = absurd h

pub rows_whole : RowsWhole
unfolding rows
rows_whole [] h = refl
rows_whole (b ∷ []) h = absurd h
rows_whole (b ∷ c ∷ bs) h = go (eqb b carriage_return && eqb c line_feed) refl (rows_whole bs) (rows_whole (c ∷ bs)) h
  where
    go : (t : Bool) → (eqb b carriage_return && eqb c line_feed) ≡ t → (AllEnded (rows bs) → rows_text (rows bs) ≡ bs)
        → (AllEnded (rows (c ∷ bs)) → rows_text (rows (c ∷ bs)) ≡ c ∷ bs)
        → AllEnded (cond t (ended [] ∷ rows bs) (grow b (rows (c ∷ bs)))) → rows_text (cond t (ended [] ∷ rows bs) (grow b (rows (c ∷ bs)))) ≡ b ∷ c ∷ bs
    go true p i j h =
        let q = and_both (eqb b carriage_return) (eqb c line_feed) p in
        let x = eqb-true b carriage_return q.0 in
        let y = eqb-true c line_feed q.1 in
        let z = i h in
        cc
    go false p i j h = grow-text b (rows (c ∷ bs)) (c ∷ bs) h j

grow-joined : (c b : ℕ) (t : Bool) → eqb b c ≡ t → (p : List ℕ) (ps : List (List ℕ)) → joined c (grow_field t b (p ∷ ps)) ≡ b ∷ joined c (p ∷ ps)
unfolding joined
grow-joined c b true e p ps = ap (λ (x : ℕ). x ∷ joined c (p ∷ ps)) (sym (eqb-true b c e))
grow-joined c b false e p [] = refl
grow-joined c b false e p (q ∷ ps) = refl

split-whole : (c : ℕ) (s : List ℕ) → joined c (split c s) ≡ s
unfolding split joined
split-whole c [] = refl
split-whole c (b ∷ s) =
    let k = split-some c s in
    ap (λ (x : List (List ℕ)). joined c (grow_field (eqb b c) b x)) k.2
    ∙ grow-joined c b (eqb b c) refl k.0 k.1
    ∙ ap (λ (x : List (List ℕ)). b ∷ joined c x) (sym k.2)
    ∙ ap (λ (x : List ℕ). b ∷ x) (split-whole c s)

pub fields-whole : FieldsWhole
unfolding fields
fields-whole t fs e =
    let p = need-got (clean t) 41 (got (split comma t)) fs e in
    let q = p.1 in
    let r : split comma t ≡ fs = cc in
    (p.0, ap (joined comma) (sym r) ∙ split-whole comma t)
