-- What the parts make of the record and the message is what the command does.
use mathlib.Core.Path.{◌≡◌, refl, ap, ap₂, ◌∙◌}
use Prim.Native.Nat.{ℕ, zero, suc, ◌+◌}
use mathlib.Core.List.{List, [], ◌∷◌}
use borrow.Author.Rules.{rules}
use lib.{IntN.ℤ, IntN.pos, ListN.get_or, ListN.set}
use mir.{Syntax.w32, ValLaws.to_z-of_z}
use Rattle.model.specs.{Execution.after_of, Execution.calls_by, Stored.side, Stored.with_side, Stored.absent_field}
use Rattle.model.specs.declared.{Call.Call, Command.Command, Effect.Effect, Entry.Entry, Execution.Execution, Field.Field, Level.Level}
use Rattle.model_run.specs.{Step.variable, Step.effect_of, Step.does, Step.call_of}
use Rattle.run_job.specs.Command.{moved_by}
use Rattle.run_job.proofs.step.Goals as goal

-- the record x with a variable, the place and the counts of the next record is that record
set_back : (xs : List ℤ) (v : ℕ) (z d : ℤ) → set xs v (get_or (set xs v z) v d) ≡ set xs v z
set_back [] v z d = refl
set_back (x ∷ xs) zero z d = refl
set_back (x ∷ xs) (suc v) z d = ap (λ (l : List ℤ). x ∷ l) (set_back xs v z d)

changed-is : (x : Execution) (v : ℕ) (k : Call) (f : Effect) (next : Execution) (z : ℤ) → next ≡ after_of x v k f → z ≡ variable next v
    → record { place = next.place; vars = set x.vars v z; calls = next.calls; clamped = next.clamped } ≡ after_of x v k f
changed-is x v k f next z en ez =
    ap₂ (λ (y : ℤ) (n : Execution). record { place = n.place; vars = set x.vars v y; calls = n.calls; clamped = n.clamped })
    (ez ∙ ap (λ (y : Execution). variable y v) en) en
    ∙ ap (λ (vs : List ℤ). record { place = f.place; vars = vs; calls = x.calls + calls_by k; clamped = f.clamped }) (set_back x.vars v f.value (pos 0))

step-is : (n : ℕ) (c : Command) (l : Level) (x : Execution) (m : List Field) {k v w : ℕ} → k ≡ c.k → v ≡ c.v → w ≡ c.w
    → {a b : ℤ} → a ≡ variable x v → b ≡ variable x w → {e : Entry} → e ≡ side l (get_or m k absent_field)
    → {r : Effect} → r ≡ effect_of c x.place a b e x.clamped n → {i : Call} → i ≡ call_of c.op → {x' : Execution} → x' ≡ after_of x v i r
    → {f : Field} → f ≡ with_side l r.entry (get_or m k absent_field) → record { execution = x'; message = set m k f } ≡ moved_by n c l x m
unfolding does
step-is n c l x m ek ev ew ea eb ee er ei ex ef = rw (ef, ex, er, ee, ea, eb, ei, ek, ev, ew)

pub returns : goal.returns
returns c =
    let x = c.args.x.now in
    step-is c.args.end c.args.c c.args.level x c.args.message.now c.from-k.ensures c.from-v.ensures c.from-w.ensures
    (to_z-of_z w32 (variable x c.from-v.result) (search rules)) (to_z-of_z w32 (variable x c.from-w.result) (search rules))
    c.side-e.ensures c.effect_at-effect.ensures c.requires.kind
    (changed-is x c.from-v.result c.args.call c.effect_at-effect.result c.after-next.result _ c.after-next.ensures (to_z-of_z w32 c.holds.result (search rules) ∙ c.holds.ensures)) c.with.ensures
