-- The lines of an export: how they are written, how long they are, and what they are in a sheet.
use mathlib.Core.Path.{◌≡◌, refl, sym, subst}
use mathlib.Core.List.{List, [], ◌∷◌, ◌++◌}
use Prim.Native.Nat.{ℕ}
use native.Mathlib.Omega.{arith}
use lib.ListN.{length-append}
use Rattle.model.specs.{Text.bytes, Accepted.Every, Accepted.Full}
use Rattle.model.specs.declared.Entry.{Entry}
use Rattle.model.proofs.{Written.always-writes}
use Rattle.model.proofs.Opened.{reading_opened as opened}
use Rattle.model_text.specs.{Text.message_lines, Pasted.CutAtTurns}
use Rattle.model_text.proofs.{Pasted.pasted, Short.lines-short}
use Rattle.model_log.specs.Log.{Row, key_count, messages, read_log, draft, write_log}
use Rattle.model_log.specs.Claims.{EachHeld, WholeOrNothing, LogShort, LogPasted, smallest_head, smallest_tail, smallest_job, LogInSmallest}
use Rattle.model_log.proofs.Held.{loses-nothing}

pub whole-or-nothing : WholeOrNothing
unfolding write_log
whole-or-nothing s m = (refl, always-writes 43 m (draft (read_log s)))

held-full : (ks : List ℕ) (rs : List Row) (ms : List (List Entry)) → EachHeld ks rs ms → Every (Full key_count) ms
held-full ks [] [] h = tt
held-full ks [] (es ∷ ms) h = absurd h
held-full ks (r ∷ rs) [] h = absurd h
held-full ks (r ∷ rs) (es ∷ ms) h = (h.0.2.full, held-full ks rs ms h.1)

-- an entry or none for each of eight keys
log-full : (s : List ℕ) (ms : List (List Entry)) → read_log s ≡ messages ms → Every (Full key_count) ms
log-full s ms e = let h = loses-nothing s ms e in held-full h.keys h.others ms h.each

pub log-pasted : LogPasted
log-pasted s ms e head tail j cut keys room short = pasted head tail j cut ms (subst (λ (n : ℕ). Every (Full n) ms) (sym keys) (log-full s ms e)) room short

smallest-cut : CutAtTurns smallest_head smallest_tail smallest_job
unfolding opened
smallest-cut = record { accepts = refl; ends = refl; letters = bytes "L\n"; turns = refl }

pub log-short : LogShort
log-short s ms e = omega (arith, lines-short key_count ms (omega arith) (log-full s ms e), (loses-nothing s ms e).few)

pub log-in-smallest : LogInSmallest
unfolding bytes
log-in-smallest s ms e =
    let h = loses-nothing s ms e in
    let l = length-append (message_lines ms) smallest_tail in
    let m = length-append smallest_head (message_lines ms ++ smallest_tail) in
    log-pasted s ms e smallest_head smallest_tail smallest_job smallest-cut refl (omega (arith, h.few)) (omega (arith, log-short s ms e))
