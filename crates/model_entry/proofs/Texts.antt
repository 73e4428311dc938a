-- An entry that writes a text: what it leaves, and what is answered of what it leaves.
use Prim.Native.Nat.{ℕ}
use mathlib.Core.Path.{◌≡◌, refl, ap, ◌∙◌}
use mathlib.Core.List.{List}
use lib.ListN.{length}
use Rattle.model.specs.{Answer.After, Answer.answered, Answer.all_le32, Answer.bytes_for, Written.Written, Written.text_numbers, Written.text_number_count, Written.text_entry}
use Rattle.model_entry.specs.{Entry.Leaves, Texts.ThreeNumbers}
use Rattle.model_entry.proofs.Laws.{entered-sized, entered-other, leaves}

module _ (o a : List ℕ) (w : Written) where
  pub text-other : (length a ≡ bytes_for text_number_count → ⊥) → Leaves (text_entry o a w) 10 o a
  unfolding text_entry
  text-other e = leaves (entered-other text_number_count o a _ e) refl refl refl

  module _ (e : length a ≡ bytes_for text_number_count) where
    sized : text_entry o a w ≡ answered (text_numbers w.answer) w.memory
    unfolding text_entry
    sized = entered-sized text_number_count o a (answered (text_numbers w.answer) w.memory) e

    -- what was written is v, its number is returned, and the bytes of its numbers are in the answer memory
    pub text-leaves : {v : Written} {r : ℕ} {a' : List ℕ} → v ≡ w → (r ≡ v.answer.number) × (a' ≡ all_le32 (text_numbers v.answer)) → Leaves (text_entry o a w) r v.memory a'
    text-leaves q n =
        leaves sized (n.0 ∙ ap (λ (x : Written). x.answer.number) q) (ap (λ (x : Written). x.memory) q) (n.1 ∙ ap (λ (x : Written). all_le32 (text_numbers x.answer)) q)

    -- once it is known what is written
    module _ {r : ℕ} {o' a' : List ℕ} (met : Leaves (text_entry o a w) r o' a') {v : Written} (q : w ≡ v) where
      entry : text_entry o a w ≡ answered (text_numbers v.answer) v.memory
      entry = sized ∙ ap (λ (x : Written). answered (text_numbers x.answer) x.memory) q

      pub text-answers : ThreeNumbers v.answer.number v.answer.line v.answer.bytes r a'
      text-answers = (met.returns ∙ ap (λ (x : After). x.returned) entry, met.answers ∙ ap (λ (x : After). x.answer) entry)

      pub text-memory : o' ≡ v.memory
      text-memory = met.outputs ∙ ap (λ (x : After). x.output) entry
