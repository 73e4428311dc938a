-- The refusals of the whole text, and then what ends its lines.
use Rattle.std.proofs.Common.{◌≡◌, ◌≤◌, ◌∙◌, refl, sym, ap, arith}
use mathlib.Core.Logic.{inl, inr}
use Rattle.model.specs.declared.Form.{Form}
use Rattle.model.specs.Limits.{most_keys}
use Rattle.model_blocks.specs.Dialect.{refused}
use Rattle.model_text.specs.Found.{spoilt_line}
use Rattle.read_blocks.specs.Blocks.{Goes, StopsAt, ProgramRead}
use Rattle.read_blocks.specs.declared.Close.{Close}
use Rattle.read_blocks.proofs.Items.{exits, body-as, body-refused}
use Rattle.read_blocks.proofs.Whole.{top, keys_none, keys-many, whole-spoilt, whole-refused, whole-read, whole-else, whole-end}
use Rattle.read_blocks.proofs.read_blocks.Goals as goal
use Rattle.read_blocks.proofs.read_blocks.Goals.{After-read_block, In_ok-body, After-spoilt_line-line}
use Rattle.read_blocks.proofs.read_blocks.Goals.{then-keys-lt-FEWEST_KEYS-via-then-keys-lt-FEWEST_KEYS, then-keys-lt-FEWEST_KEYS-via-else-keys-lt-FEWEST_KEYS+then-one-keys}

pub returns-then-keys-lt-FEWEST_KEYS : goal.returns-then-keys-lt-FEWEST_KEYS
unfolding ProgramRead
returns-then-keys-lt-FEWEST_KEYS c =
    elim c.then-keys-lt-FEWEST_KEYS.branch [
      | then-keys-lt-FEWEST_KEYS-via-then-keys-lt-FEWEST_KEYS w ↦ keys_none _ _ w.if-keys-lt-FEWEST_KEYS.true
      | then-keys-lt-FEWEST_KEYS-via-else-keys-lt-FEWEST_KEYS+then-one-keys w ↦ keys-many _ _ (omega (arith, w.if-one-keys.true, ap (λ (f : Form). f.keys) w.one.ensures))
    ]

-- the number of keys is within its limits
keyed : (c : After-spoilt_line-line) → (1 ≤ c.args.keys) × (c.args.keys ≤ most_keys)
keyed c = (c.if-keys-lt-FEWEST_KEYS.false, omega (arith, c.if-one-keys.false, ap (λ (f : Form). f.keys) c.one.ensures))

pub returns-then-line-ne0 : goal.returns-then-line-ne0
unfolding ProgramRead
returns-then-line-ne0 c =
    let h = keyed (goal.at.returns-then-line-ne0 c).After-spoilt_line-line in
    let e = c.spoilt_line-line.ensures in
    whole-spoilt _ _ h.0 h.1 (omega (arith, c.if-line-ne0.true, e)) ∙ ap (refused 2) (sym e)

pub read_block-requires : goal.read_block-requires
read_block-requires c =
    let h = keyed (goal.at.read_block-requires c).After-spoilt_line-line in
    record {
      starts = record { inside = omega arith; near = omega arith; few = omega arith };
      some = h.0;
      most = h.1;
      shallow = omega arith;
      short = c.requires;
    }

-- the text has passed what is tested of the whole of it
whole : (c : After-read_block) → spoilt_line c.args.s.now ≡ 0
whole c = omega (arith, c.if-line-ne0.false, c.spoilt_line-line.ensures)

-- its lines, by what ends them
ended : (c : In_ok-body) {x : Close} → c.in_ok-body.body.stop ≡ x
    → Goes c.args.keys 0 c.args.s.now top c.in_ok-body.body.place c.args.out.now c.read_block.new.out × StopsAt c.args.s.now c.in_ok-body.body.place x
ended c e = body-as _ _ _ _ _ _ _ c.in_ok-body.ensures refl e

pub returns-in_err-body : goal.returns-in_err-body
unfolding ProgramRead
returns-in_err-body c =
    let at = goal.at.returns-in_err-body c in
    let h = keyed at.After-spoilt_line-line in
    exits (ProgramRead _ _ _ _) c.from_residual.ensures.1
    (whole-refused _ _ h.0 h.1 (whole at.After-read_block) _ (body-refused _ _ _ _ _ _ _ c.in_err-body.ensures refl))

pub returns-in-Over : goal.returns-in-Over
unfolding StopsAt
returns-in-Over c =
    let at = goal.at.returns-in-Over c in
    let h = keyed at.After-spoilt_line-line in
    let b = ended at.In_ok-body c.in-Over.is in
    whole-read _ _ h.0 h.1 (whole at.After-read_block) b.0 b.1

pub returns-in-Else : goal.returns-in-Else
unfolding StopsAt ProgramRead
returns-in-Else c =
    let at = goal.at.returns-in-Else c in
    let h = keyed at.After-spoilt_line-line in
    let w = whole at.After-read_block in
    elim c.in-Else.is [
      | inl e ↦ let b = ended at.In_ok-body e.1 in whole-else _ _ h.0 h.1 w b.0 b.1 c.fault.ensures
      | inr e ↦ let b = ended at.In_ok-body e.1 in whole-end _ _ h.0 h.1 w b.0 b.1 c.fault.ensures
    ]
