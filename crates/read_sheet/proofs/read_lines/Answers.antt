-- Phase after phase, each on what the one before it left.
use Rattle.std.proofs.Common.{◌≡◌, ◌≤◌, ◌∙◌, ℕ, sym, ap, arith}
use mathlib.Core.Path.{subst⁻¹}
use Rattle.model.specs.Form.{Fits, form_of}
use Rattle.model.specs.declared.Form.{Form}
use Rattle.model.proofs.{Forms.every-form-fits, Handed.handed}
use Rattle.model_text.proofs.TextLaws.{rest}
use Rattle.read_pair.specs.Pair.{by_key}
use Rattle.read_head.specs.Head.{secrets_as}
use Rattle.read_sheet.proofs.Laws.{answers, denied, from, first-phase, keys-phase, bounded, stop-first, stop-keys, stop-secrets, heads-read}
use Rattle.read_sheet.proofs.read_lines.Goals as goal

pub returns-in_err-number : goal.returns-in_err-number
returns-in_err-number c = rw (handed _ _ c.from_residual.ensures.1) (denied (stop-first (first-phase c.in_err-number.ensures)))

pub slice_bounds-t-count : goal.slice_bounds-t-count
slice_bounds-t-count c = (first-phase c.in_ok-number.ensures).ahead.0

pub slice_bounds-t-start : goal.slice_bounds-t-start
slice_bounds-t-start c = (first-phase c.in_ok-number.ensures).ahead.0

-- the form that the first line chose can be read, and the keys by it
fits : (f : Form) (n : ℕ) → f ≡ form_of n → Fits f
fits f n e = subst⁻¹ Fits e (every-form-fits n)

pub number_line-requires-2 : goal.number_line-requires-2
number_line-requires-2 c =
    let b = bounded (first-phase c.in_ok-number.ensures) (rest c.args.s.now c.in_ok-number.second.at) in
    let h = fits _ _ c.of-form.ensures in
    (h.some_keys, omega (arith, h.keys), omega (arith, b, c.requires))

pub returns-in_err-keys : goal.returns-in_err-keys
returns-in_err-keys c =
    rw (handed _ _ c.from_residual-in_err-keys.ensures.1)
    (denied (stop-keys (first-phase c.in_ok-number.ensures) (rest c.args.s.now _) _ c.of-form.ensures (keys-phase _ c.in_err-keys.ensures)))

pub slice_bounds-u-count : goal.slice_bounds-u-count
slice_bounds-u-count c = (keys-phase c.of-form.result c.in_ok-keys.ensures).ahead.0

pub slice_bounds-u-start : goal.slice_bounds-u-start
slice_bounds-u-start c = (keys-phase c.of-form.result c.in_ok-keys.ensures).ahead.0

pub read_secrets-requires : goal.read_secrets-requires
read_secrets-requires c =
    let s = c.args.s.now in
    let t = from c.in_ok-number.second.at s in
    let b = bounded (first-phase c.in_ok-number.ensures) (rest s c.in_ok-number.second.at) in
    let d = bounded (keys-phase c.of-form.result c.in_ok-keys.ensures) (rest t c.in_ok-keys.third.at) in
    let k = c.in_ok-keys.ensures.range in
    (k.0, omega (arith, k.1, (fits _ _ c.of-form.ensures).keys), omega (arith, b, d, c.requires))

pub returns-in_err-secrets : goal.returns-in_err-secrets
returns-in_err-secrets c =
    let s = c.args.s.now in
    let t = from c.in_ok-number.second.at s in
    rw (handed _ _ c.from_residual-in_err-secrets.ensures.1)
    (denied
    (stop-secrets (first-phase c.in_ok-number.ensures) (rest s _) _ c.of-form.ensures (keys-phase _ c.in_ok-keys.ensures) (rest t c.in_ok-keys.third.at) (secrets_as c.in_ok-keys.keys)
    c.in_err-secrets.ensures.read))

pub read_body-requires : goal.read_body-requires
read_body-requires c =
    let s = c.args.s.now in
    let t = from c.in_ok-number.second.at s in
    let u = from c.in_ok-keys.third.at t in
    let b = bounded (first-phase c.in_ok-number.ensures) (rest s c.in_ok-number.second.at) in
    let d = bounded (keys-phase c.of-form.result c.in_ok-keys.ensures) (rest t c.in_ok-keys.third.at) in
    let e = bounded c.in_ok-secrets.ensures.read (rest u c.in_ok-secrets.top.at) in
    let k = c.in_ok-keys.ensures.range in
    (fits _ _ c.of-form.ensures, k.0, k.1, omega (arith, b, d, e, c.requires))

pub returns : goal.returns
unfolding by_key
returns c =
    let s = c.args.s.now in
    let t = from c.in_ok-number.second.at s in
    let u = from c.in_ok-keys.third.at t in
    answers
    (heads-read (first-phase c.in_ok-number.ensures) (rest s _) _ c.of-form.ensures (keys-phase _ c.in_ok-keys.ensures) (rest t c.in_ok-keys.third.at) (secrets_as c.in_ok-keys.keys)
    c.in_ok-secrets.ensures.read (rest u c.in_ok-secrets.top.at))
    c.read_body.ensures
