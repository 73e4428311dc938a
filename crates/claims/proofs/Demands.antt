-- Demands 1, 2 and 3, the seventh number and what honest programs send, from the entry's contract and the theorems about the model.
use Prim.Native.Nat.{ℕ, ◌-◌, ◌≤◌}
use mathlib.Core.Path.{◌≡◌, refl, sym, ap, ◌∙◌}
use mathlib.Core.List.{List, []}
use native.Mathlib.Omega.{arith}
use lib.ListN.{length, get_or, drop}
use Rattle.model.specs.{Answer.After, Answer.numbers_of, Answer.bytes_for, Answer.bytes_written, Answer.all_le32, Answer.number_count, Answer.entered, Answer.le32, Job.Job}
use Rattle.model.specs.{Placed.front, Sheet.Reading, Sheet.accepted, Sheet.read_sheet}
use Rattle.model_run.specs.{Whole.Left, Whole.answered_by, Whole.left_by, Whole.run_sheet, Whole.run_entry, Line.bytes_of, Line.memory_after, Run.run_job}
use Rattle.model_run.specs.{Secrecy.of, Secrecy.both, Secrecy.Indistinguishable, Witness.sheet2, Witness.sheet3, Witness.job2, Witness.job3, Witness.lent}
use Rattle.model.specs.Sheet as Sheet
use Rattle.model.specs.SheetTwo as SheetTwo
use Rattle.model.specs.SheetTwo.{sheet_both, sheet_less, sheet_other, job_both, job_less, job_other}
use Rattle.model_run.specs.HonestExamples.{Comparison, job, doubles}
use Rattle.model.specs.declared.Owner.TheVariants.{A, B}
use Rattle.model.specs.RunAnswer.{Answer, Ended, Refused}
use Rattle.model.proofs.{Placed.front_length}
use Rattle.model_run.proofs.{Counted.counts_of, Examples.opened, Secrecy.secrecy, Witness.telling as witness, Honest.honest-sheet-loses-nothing, Owners.telling-b, Owners.telling-both, Owners.clear-a}
use Rattle.model_run.proofs.{HonestExamples.opened_plain, HonestExamples.honest-example}
use Rattle.whole_sheet.proofs.Laws.{accepted-left, refused-left}
use Rattle.model_entry.proofs.Laws.{entered-sized}
use Rattle.claims.specs.Demands.{Called, Demand2, Demand1Holds, Demand2Holds, SeventhHolds, fifth, HonestSendsHolds, Demand3Holds, answer_lent, CalledOn, Telling}
use Rattle.claims.specs.Demands.{lent_honest, HonestTelling, OwnersTelling}

-- ---- What a run sends fits the memory that is lent to it

sent-length : (j : Job) (room : ℕ) → length (bytes_of (run_job j room).lines) ≤ room
sent-length j room = let c = counts_of j room in omega (arith, c.sent, c.room)

memory-size : (j : Job) (m : List ℕ) → length (memory_after m (run_job j (length m)).lines) ≡ length m
unfolding memory_after
memory-size j m = front_length m (bytes_of (run_job j (length m)).lines) (sent-length j (length m))

-- ---- A call, by the definition of the entry

module _ {s o a : List ℕ} {r : ℕ} {o' a' : List ℕ} (c : Called s o a r o' a') where
  sized : run_entry s o a ≡ answered_by (run_sheet s o)
  unfolding run_entry
  sized = entered-sized number_count o a (answered_by (run_sheet s o)) c.sized

  second : Demand2 s o a r o' a'
  second =
      record {
        numbers = c.met.answers ∙ ap (λ (x : After). x.answer) sized;
        first = c.met.returns ∙ ap (λ (x : After). x.returned) sized;
        memory = c.met.outputs ∙ ap (λ (x : After). x.output) sized;
      }

-- either way the memory keeps its length
left-size : (s o : List ℕ) (x : Reading) → read_sheet s ≡ x → length (run_sheet s o).memory ≡ length o
left-size s o (accepted j) e = ap (λ (x : Left). length x.memory) (accepted-left s o j e) ∙ memory-size j o
left-size s o (Sheet.refused n l) e = ap (λ (x : Left). length x.memory) (refused-left s o n l e)

pub demand-1 : Demand1Holds
unfolding memory_after front numbers_of
demand-1 s o a r o' a' c =
    let d = second c in
    record {
      accepts = λ j e. d.memory ∙ ap (λ (x : Left). x.memory) (accepted-left s o j e);
      refuses = λ n l e. (
        d.memory ∙ ap (λ (x : Left). x.memory) (refused-left s o n l e),
        d.first ∙ ap (λ (x : Left). get_or (numbers_of x.answer) 0 0) (refused-left s o n l e),
        d.numbers ∙ ap (λ (x : Left). all_le32 (numbers_of x.answer)) (refused-left s o n l e),
      );
      size = ap length d.memory ∙ left-size s o (read_sheet s) refl;
    }

pub demand-2 : Demand2Holds
demand-2 s o a r o' a' c = second c

pub demand-3 : Demand3Holds
unfolding numbers_of
demand-3 w s t j k o a₁ a₂ r₁ r₂ o₁ o₂ b₁ b₂ es et h c₁ c₂ =
    let d₁ = second c₁ in
    let d₂ = second c₂ in
    let x = accepted-left s o j es in
    let y = accepted-left t o k et in
    let i : Indistinguishable w j.keys (left_by o (run_job j (length o))) (left_by o (run_job k (length o))) = secrecy w j k o h in
    record {
      returns = d₁.first ∙ ap (λ (z : Left). get_or (numbers_of z.answer) 0 0) x ∙ ap (λ (ns : List ℕ). get_or ns 0 0) i.numbers ∙ sym (d₂.first ∙ ap (λ (z : Left). get_or (numbers_of z.answer) 0 0) y);
      answers = d₁.numbers ∙ ap (λ (z : Left). all_le32 (numbers_of z.answer)) x ∙ ap all_le32 i.numbers ∙ sym (d₂.numbers ∙ ap (λ (z : Left). all_le32 (numbers_of z.answer)) y);
      size = ap length (d₁.memory ∙ ap (λ (z : Left). z.memory) x) ∙ i.size ∙ sym (ap length (d₂.memory ∙ ap (λ (z : Left). z.memory) y));
      byte = λ p clear. ap (λ (m : List ℕ). get_or m p 0) (d₁.memory ∙ ap (λ (z : Left). z.memory) x) ∙ i.byte p clear ∙ sym (ap (λ (m : List ℕ). get_or m p 0) (d₂.memory ∙ ap (λ (z : Left). z.memory) y));
    }

pub honest-sends : HonestSendsHolds
unfolding numbers_of all_le32 le32
honest-sends s o a r o' a' c j N read form turns honest room =
    let d = second c in
    let p = honest-sheet-loses-nothing s j N o read form turns honest room in
    record {
      lines = d.memory ∙ p.memory;
      written = ap fifth d.numbers ∙ is-written (run_sheet s o).answer ∙ ap le32 p.written;
    }
  where
    is-written : (x : Answer) → fifth (all_le32 (numbers_of x)) ≡ le32 (bytes_written (numbers_of x))
    is-written (Ended e n) = refl
    is-written (Refused n l) = refl

-- ---- The demands speak of something

on : (o s : List ℕ) → CalledOn o s
on o s = record { sized = refl; met = record { returns = refl; outputs = refl; answers = refl } }

pub seventh : SeventhHolds
unfolding numbers_of all_le32 le32
seventh s o a r o' a' c =
    let d = second c in
    record {
      accepts = λ j e.
          ap (drop (bytes_for 6)) (d.numbers ∙ ap (λ (x : Left). all_le32 (numbers_of x.answer)) (accepted-left s o j e))
          ∙ ap le32 (counts_of j (length o)).clamped;
      refuses = λ n l e. ap (drop (bytes_for 6)) (d.numbers ∙ ap (λ (x : Left). all_le32 (numbers_of x.answer)) (refused-left s o n l e));
    }

pub telling : Telling
unfolding opened entered run_entry le32 all_le32
telling =
    record {
      second = on lent sheet2;
      third = on lent sheet3;
      empty = on lent [];
      holds = demand-3 (of A) sheet2 sheet3 job2 job3 lent answer_lent answer_lent _ _ _ _ _ _ witness.accepts2 witness.accepts3 witness.alike (on lent sheet2) (on lent sheet3);
      differs = λ e. omega arith;
      apart = λ d. omega (arith, d.byte 20 (λ h. omega (arith, witness.clear 20 h)));
      ended = refl;
      refuses = refl;
      old = refl;
    }

pub owners-telling : OwnersTelling
unfolding opened entered run_entry le32 all_le32 SheetTwo.sheet_two SheetTwo.with_messages
owners-telling =
    record {
      first = on lent sheet_both;
      second = on lent sheet_less;
      third = on lent sheet_other;
      holds_b =
          demand-3 (of B) sheet_both sheet_less job_both job_less lent answer_lent answer_lent _ _ _ _ _ _ telling-b.accepts_both telling-b.accepts_less telling-b.alike
          (on lent sheet_both) (on lent sheet_less);
      holds_both =
          demand-3 both sheet_both sheet_other job_both job_other lent answer_lent answer_lent _ _ _ _ _ _ telling-b.accepts_both telling-both.accepts_other
          telling-both.alike (on lent sheet_both) (on lent sheet_other);
      differs_b = λ e. omega arith;
      differs_both = (λ e. omega arith, λ e. omega arith);
      apart = λ d. omega (arith, d.byte 43 (λ h. omega (arith, clear-a 43 h)));
      not_a = λ d. omega (arith, d.byte 44 (λ h. omega (arith, clear-a 44 h)));
      not_b = λ d. omega (arith, d.byte 31 (λ h. omega (arith, telling-b.clear 31 h)));
    }

pub honest-telling : HonestTelling
unfolding opened_plain entered run_entry le32 all_le32
honest-telling =
    record {
      called = on lent_honest doubles.sheet;
      holds =
          honest-sends doubles.sheet lent_honest answer_lent _ _ _ (on lent_honest doubles.sheet) (job doubles) 12
          honest-example.shown.accepts refl (ap (λ (c : Comparison). c.turns) honest-example.shown.compares) honest-example.honest (omega arith);
      output = refl;
    }
