-- The `secret` lines that are left, read into what the array holds, give what the whole phase gives.
use Rattle.std.proofs.Common.{◌∙◌, sym, ap, refl, arith, Err}
use Rattle.model.specs.{Refusal.parsed, Head.read_secrets, Stored.key_capacity, Stored.key_in, Stored.open_slot}
use Rattle.model.proofs.{Accepted.secret-below, Handed.handed}
use Rattle.model_text.proofs.TextLaws.{rest}
use Rattle.read_line.proofs.Laws.{going_on, going-left, going-bad, going_more, read-faulted, refused-faulted}
use Rattle.read_pair.proofs.Laws.{by-key-blank}
use Rattle.read_head.specs.Head.{secrets_as}
use Rattle.read_head.proofs.Laws.{secret-word, secret-bad, secret-ok}
use Rattle.read_head.proofs.read_secrets.Goals as goal

pub loop-v-init : goal.loop-v-init
loop-v-init c = going_on _ (rw c.open_keys-slots.ensures (by-key-blank key_in _ key_capacity open_slot c.requires.1))

pub returns-in_default : goal.returns-in_default
unfolding read_secrets
returns-in_default c =
    record { read = going-left secret-word c.first_line.ensures c.loop-v.invariant (rest c.args.s.now c.loop-v.at) (secrets_as c.args.keys) _ refl c.in_default.is }

pub returns-in_err-k : goal.returns-in_err-k
unfolding read_secrets
returns-in_err-k c =
    let q = refused-faulted _ _ _ c.in_err-k.ensures in
    rw (handed _ _ c.from_residual.ensures.1 ∙ ap Err q.2)
    (record {
      read =
          going-bad secret-word c.first_line.ensures c.loop-v.invariant (rest c.args.s.now c.loop-v.at) c.in-Some.is (secrets_as c.args.keys)
          (secret-bad _ _ _ _ _ _ (sym c.read_secret.ensures ∙ ap parsed q.1));
    })

pub offset_bounds-slots-k : goal.offset_bounds-slots-k
offset_bounds-slots-k c =
    let b = secret-below _ _ _ _ _ c.requires.0 (sym c.read_secret.ensures ∙ ap parsed (read-faulted _ _ _ c.in_ok-k.ensures)) in
    omega arith

pub bounds-slots-k : goal.bounds-slots-k
bounds-slots-k c =
    let b = secret-below _ _ _ _ _ c.requires.0 (sym c.read_secret.ensures ∙ ap parsed (read-faulted _ _ _ c.in_ok-k.ensures)) in
    omega arith

pub overflow_add-least : goal.overflow_add-least
overflow_add-least c =
    let b = secret-below _ _ _ _ _ c.requires.0 (sym c.read_secret.ensures ∙ ap parsed (read-faulted _ _ _ c.in_ok-k.ensures)) in
    omega arith

pub loop-v-preserved : goal.loop-v-preserved
loop-v-preserved c =
    let f = sym c.read_secret.ensures ∙ ap parsed (read-faulted _ _ _ c.in_ok-k.ensures) in
    let o = secret-ok _ _ _ c.loop-v.slots _ _ _ c.requires.0 f in
    going_more secret-word c.first_line.ensures c.loop-v.invariant (rest c.args.s.now c.loop-v.at) c.in-Some.is _ o
