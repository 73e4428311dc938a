-- Nothing, a number, or a fault.
use Rattle.std.proofs.Common.{◌≡◌, ◌≢◌, ◌∙◌, sym, ap, arith, rules, ℤ, length, Err}
use Rattle.std.proofs.lemmas.Bool.Decides.{nat_tests}
use Rattle.model.specs.{Parsed.got, Refusal.parsed}
use Rattle.model.specs.declared.Entry.TheVariants.{Number}
use Rattle.model.specs.declared.Refusal.{Refusal}
use Rattle.model.specs.declared.Refusal.TheVariants.{BadField}
use Rattle.model.proofs.Handed.{refused-handed}
use Rattle.read_log.proofs.Named.{named_ok, named-err}
use Rattle.read_log.proofs.Fields.{field-empty, field-number, field-bad}
use Rattle.read_log.proofs.read_field.Goals as goal
use Rattle.read_log.proofs.read_field.Goals.{After-from_residual}

pub returns-then-is_empty : goal.returns-then-is_empty
returns-then-is_empty c = sym (field-empty _ (grind (arith, nat_tests, c.if-is_empty.ensures)))

-- the refusal of a number, whatever its fault
bad : (c : After-from_residual) → (e : Refusal) × (c.number_of.result ≡ Err e) × (c.in_err-v.field-0.0 ≡ BadField)
bad c = let m = named-err _ _ _ _ c.map_err.ensures.cases c.in_err-v.was in (m.0, m.1, search rules)

pub returns-in_err-v : goal.returns-in_err-v
returns-in_err-v c =
    let some : length c.args.f.now ≢ 0 = grind (arith, nat_tests, c.if-is_empty.ensures) in
    let m = bad c in
    rw m.2 at (refused-handed _ _ c.from_residual.ensures.1) ∙ sym (field-bad _ _ some (sym c.number_of.ensures ∙ ap parsed m.1))

pub returns : goal.returns
returns c =
    let some : length c.args.f.now ≢ 0 = grind (arith, nat_tests, c.if-is_empty.ensures) in
    let m = named_ok _ _ _ _ c.map_err.ensures.cases c.in_ok-v.was in
    ap (λ (z : ℤ). got (Number z)) (search rules) ∙ sym (field-number _ _ some (sym c.number_of.ensures ∙ ap parsed m))
