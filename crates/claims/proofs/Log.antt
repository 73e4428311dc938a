-- The claims of Note 1, from the entry's contract and the theorems about its definitions.
use Prim.Native.Nat.{ℕ, ◌≤◌, ◌<◌}
use mathlib.Core.Path.{◌≡◌, refl, ap, ◌∙◌}
use mathlib.Core.Logic.{◌≢◌, ⊎_elim}
use mathlib.Core.List.{List, ◌++◌}
use native.Mathlib.Omega.{arith}
use lib.ListN.{length, drop}
use Rattle.model.specs.{Text.bytes, Placed.front, Answer.entered, Answer.le32, Answer.all_le32, Written.Written}
use Rattle.model.specs.Written.{write, text_entry}
use Rattle.model.specs.declared.Entry.{Entry}
use Rattle.model.proofs.Written.{write-refused, write-fits, write-short}
use Rattle.model_text.specs.Text.{message_lines}
use Rattle.model_log.specs.Log.{Logged, messages, refused, read_log, draft, write_log, log_entry}
use Rattle.model_log.specs.Claims.{most_log_bytes}
use Rattle.model_log.proofs.{Lines.whole-or-nothing, Lines.log-short, Refusals.only-these, Examples.opened}
use Rattle.model_entry.specs.{Entry.Leaves, Texts.ThreeNumbers}
use Rattle.claims.specs.{Log.LogCalled, Log.LogWrittenHolds, Log.LogTelling}
use Rattle.model_entry.proofs.Texts.{text-answers, text-memory}

-- ---- A call, by the definition of the entry

module _ {s o a : List ℕ} {r : ℕ} {o' a' : List ℕ} (c : LogCalled s o a r o' a') where
  met : Leaves (text_entry o a (write_log s o)) r o' a'
  unfolding log_entry
  met = c.met

  answers : {w : Written} → write_log s o ≡ w → ThreeNumbers w.answer.number w.answer.line w.answer.bytes r a'
  answers e = text-answers o a (write_log s o) c.sized met e

  memory : {w : Written} → write_log s o ≡ w → o' ≡ w.memory
  memory e = text-memory o a (write_log s o) c.sized met e

  drafted : (l : Logged) → read_log s ≡ l → write_log s o ≡ write 43 o (draft l)
  drafted l e = (whole-or-nothing s o).0 ∙ ap (λ (x : Logged). write 43 o (draft x)) e

  refuses : (n row : ℕ) → read_log s ≡ refused n row → ThreeNumbers n row 0 r a' × (o' ≡ o)
  refuses n row e = let w = drafted (refused n row) e ∙ write-refused 43 o n row in (answers w, memory w)

  module _ (ms : List (List Entry)) (e : read_log s ≡ messages ms) where
    abbrev lines : List ℕ
    lines = message_lines ms

    writes : length lines ≤ length o → ThreeNumbers 0 0 (length lines) r a' × (o' ≡ lines ++ drop (length lines) o)
    unfolding front
    writes h = let w = drafted (messages ms) e ∙ write-fits 43 o lines h in (answers w, memory w)

    lacks : length o < length lines → ThreeNumbers 43 0 0 r a' × (o' ≡ o)
    lacks h = let w = drafted (messages ms) e ∙ write-short 43 o lines h in (answers w, memory w)

  -- none of 8, 41 and 42 is 43, and all lines fit 3,712 bytes
  enough : most_log_bytes ≤ length o → r ≢ 43
  enough h is = go (read_log s) refl
    where
      go : (l : Logged) → read_log s ≡ l → ⊥
      go (messages ms) e = let w = writes ms e (omega (arith, log-short s ms e)) in omega (arith, w.0.0)
      go (refused n row) e =
          let w = refuses n row e in
          let z : n ≡ 43 = omega (arith, w.0.0) in
          ⊎_elim (λ k. omega (arith, k.0)) (λ k. ⊎_elim (λ x. omega arith) (λ x. omega arith) k.0) (only-these s n row e)

  size : length o' ≡ length o
  size = let w = whole-or-nothing s o in ap length (memory w.0) ∙ w.1.size

pub log-written : LogWrittenHolds
log-written s o a r o' a' c = record { refuses = refuses c; writes = writes c; lacks = lacks c; enough = enough c; size = size c }

-- ---- The claim speaks of something

pub log-telling : LogTelling
unfolding opened bytes entered text_entry log_entry le32 all_le32
log-telling =
    record {
      called = λ s lent. record { sized = refl; met = record { returns = refl; outputs = refl; answers = refl } };
      writes = refl;
      exact = refl;
      lacks = refl;
      refuses = refl;
    }
