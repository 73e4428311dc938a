-- The messages of an export hold exactly its fields that are not empty.
use mathlib.Core.Path.{◌≡◌, refl, sym, ap, ◌∙◌, subst}
use mathlib.Core.List.{List, [], ◌∷◌, ◌++◌, append-nil}
use Prim.Native.Nat.{ℕ, ◌+◌, ◌≤◌}
use native.Mathlib.Omega.{arith}
use lib.{ListN.length, ListN.length-append, Seq.append_snoc}
use Rattle.model.specs.{Limits.most_messages, Parsed.Parsed, Parsed.got, Phase.one_more}
use Rattle.model.specs.Parsed as Parsed
use Rattle.model.specs.declared.Entry.{Entry}
use Rattle.model_log.specs.Log.{Row, rows, header, message_row, Logged, messages, refused, at_row, further, read_rows, read_log}
use Rattle.model_log.specs.Claims.{EachHeld, LogHeld, LosesNothing}
use Rattle.model_log.proofs.{Passed.more-got, Keys.Climbs, Keys.climbs-rising, Keys.header-climbs, Fields.row-held}

refuses : {B : Type 0} {n row : ℕ} {ms : List (List Entry)} → refused n row ≡ messages ms → B
refuses e = absurd (let z : ◌≡◌ {A = ℕ} 0 1 = cc in omega arith)

at-row-got : {A : Type 0} (n : ℕ) (x : Parsed A) (f : A → Logged) (ms : List (List Entry)) → at_row n x f ≡ messages ms
    → (a : A) × (x ≡ got a) × (f a ≡ messages ms)
at-row-got n (got a) f ms e = (a, refl, e)
at-row-got n (Parsed.refused r) f ms e = refuses e

-- a message more, and those behind it
one_more-is : (ms : List (List Entry)) (es : List Entry) (new more all : List (List Entry)) → ms ++ (es ∷ []) ≡ more → more ++ new ≡ all → ms ++ (es ∷ new) ≡ all
one_more-is ms es new more all p q = sym (append_snoc ms es new) ∙ ap (λ (x : List (List Entry)). x ++ new) p ∙ q

-- behind the messages ms, a message for each further row
module _ (ks : List ℕ) (h : Climbs 0 ks) where
  further-held : (n : ℕ) (ms : List (List Entry)) (rs : List Row) (all : List (List Entry)) → length ms ≤ most_messages → further ks n ms rs ≡ messages all
      → (new : List (List Entry)) × (ms ++ new ≡ all) × EachHeld ks rs new × (length all ≤ most_messages)
  unfolding further
  further-held n ms [] all l e = let p : ms ≡ all = cc in ([], append-nil ms ∙ p, tt, omega (arith, ap length p))
  further-held n ms (r ∷ rs) all l e =
      let p = at-row-got n (one_more most_messages (message_row ks) ms r) _ all e in
      let q = more-got most_messages (message_row ks) ms r p.0 p.1 in
      let es = q.1.0 in
      let s = ap length q.1.2 in
      let i = further-held (n + 1) p.0 rs all (omega (arith, q.0, length-append ms (es ∷ []))) p.2 in
      (es ∷ i.0, one_more-is ms es i.0 p.0 all q.1.2 i.1, (row-held 0 ks r es h q.1.1, i.2), i.3)

rows-held : (s : List ℕ) (ms : List (List Entry)) (rs : List Row) → rows s ≡ rs → read_rows rs ≡ messages ms → LogHeld s ms
unfolding read_rows
rows-held s ms [] p e = refuses e
rows-held s ms (r ∷ rs) p e =
    let q = at-row-got 1 (header r) _ ms e in
    let ks = q.0 in
    let c = header-climbs r ks q.1 in
    let i = further-held ks c 2 [] rs ms (omega arith) q.2 in
    record {
      first = r;
      others = rs;
      keys = ks;
      split = p;
      header = q.1;
      rising = climbs-rising 0 ks c;
      each = subst (EachHeld ks rs) i.1 i.2;
      few = i.3;
    }

pub loses-nothing : LosesNothing
unfolding read_log
loses-nothing s ms e = rows-held s ms (rows s) refl e
