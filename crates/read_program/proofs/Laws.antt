-- Laws of the commands' phase of a sheet of the form f, and of the targets from the place i on.
use mathlib.Core.Path.{◌≡◌, refl, sym, ap, ◌∙◌}
use mathlib.Core.List.{List, [], ◌∷◌, map}
use Prim.Native.Nat.{ℕ, ◌+◌, ◌<◌, ◌≤◌, zero-le}
use native.Mathlib.{Numerals.add-one, Omega.arith}
use lib.{ListN.length, ListN.take, ListN.drop, ListN.get_or, ListN.drop_of_length-le, Seq.drop-cons, Seq.get_or-take, Seq.length-take-le}
use borrow.Author.Tests.{lt-ltb, le-ltb}
use Rattle.model.specs.{Text.bytes, Text.lines, Command.limits, Command.read_command, Job.Job, Phase.many, Phase.one_more, Phase.some, Text.free}
use Rattle.model.specs.{Program.read_commands, Sheet.refused, Sheet.targets}
use Rattle.model.specs.Phase as Model
use Rattle.model.specs.declared.{Form.Form, Command.Command, Fault.Fault, Refusal.TheVariants.Misplaced}
use Rattle.model_text.specs.Found.{Word}
use Rattle.read_line.specs.Phase.{Reads}
use Rattle.read_program.specs.Program.{far_as, FirstFar}
use Rattle.std.proofs.lemmas.List.Quantifiers.{position-Some}
use lib.IntN.{pos}
use Rattle.model.specs.declared.Op.TheVariants.{Stop}
use Rattle.std.proofs.Common.{Ok, Err, Option, None, Some, Bool, true, false, cond, add_assoc, add-zero}
use Rattle.std.specs.List.{position, position_from}
use Rattle.std.proofs.lemmas.Iterator.Adapters.{position_from-zero}
use lib.Dec.{ltb}

pub do-word : Word (bytes "do") (100 ∷ 111 ∷ 61 ∷ [])
unfolding bytes free
do-word = record { sign = refl; no_sign = refl; no-feed = refl }

-- ---- The phase, with one command at least

abbrev pub itself : Command → Command
itself c = c

map-itself : (cs : List Command) → map itself cs ≡ cs
map-itself [] = refl
map-itself (c ∷ cs) = ap (λ (ds : List Command). c ∷ ds) (map-itself cs)

some-none : (n : ℕ) (ls : List (List ℕ)) (cs : List Command) → length cs ≡ 0 → some (Model.got cs n ls) ≡ Model.refused 3 n
some-none n ls [] h = refl
some-none n ls (c ∷ cs) h = absurd (omega arith)

some-some : (n : ℕ) (ls : List (List ℕ)) (cs : List Command) → (length cs ≡ 0 → ⊥) → some (Model.got cs n ls) ≡ Model.got cs n ls
some-some n ls [] h = absurd (h refl)
some-some n ls (c ∷ cs) h = refl

abbrev pub do_lines : Form → ℕ → ℕ → List (List ℕ) → Model.Phase (List Command)
do_lines f K n ls = many (bytes "do") (one_more f.commands (read_command (limits K f.commands))) n [] ls

-- what the array holds, each command as it stands
abbrev pub lines_as : List Command → ℕ → List Command
lines_as cs n = map itself (take n cs)

pub commands-refused : (f : Form) (K : ℕ) (cs : List Command) {first : ℕ} {e : Fault} {s : List ℕ} → Reads (do_lines f K) (lines_as cs) s first (Err e) → Reads (read_commands f K) (λ n. take n cs) s first (Err e)
unfolding read_commands
commands-refused f K cs h = record { read = ap some h.read; ahead = tt }

module _ (f : Form) (K : ℕ) (cs : List Command) (m : ℕ) {first n b : ℕ} {s : List ℕ} (h : Reads (do_lines f K) (lines_as cs) s first (Ok (m, record { line = n; at = b }))) (l : m ≤ length cs) where
  pub commands-none : m ≡ 0 → Reads (read_commands f K) (λ k. take k cs) s first (Err (record { refusal = Misplaced; line = n }))
  unfolding read_commands
  commands-none z = record { read = sym (some-none n (lines (drop b s)) (lines_as cs m) (rw (map-itself, length-take-le m cs l) z)) ∙ ap some h.read; ahead = tt }

  pub commands-some : (m ≡ 0 → ⊥) → Reads (read_commands f K) (λ k. take k cs) s first (Ok (m, record { line = n; at = b }))
  unfolding read_commands
  commands-some z =
      let e = map-itself (take m cs) in
      record { read = ap (λ (ds : List Command). Model.got ds n (lines (drop b s))) (sym e) ∙ sym (some-some n (lines (drop b s)) (lines_as cs m) (λ q. z (sym (length-take-le m cs l) ∙ sym (ap length e) ∙ q))) ∙ ap some h.read; ahead = h.ahead }

-- ---- The targets of the commands, at most m each

-- of those from the place i on
targets-from : (m top i : ℕ) (cs : List Command) (j : Job) → targets (top + i) m cs j ≡ far_as top j (position_from (λ c. ltb m c.t) i cs)
unfolding targets
targets-from m top i [] j = refl
targets-from m top i (c ∷ cs) j = go (ltb m c.t) (rw (add_assoc top i 1) (targets-from m top (i + 1) cs j))
  where
    go : (b : Bool) → targets (top + i + 1) m cs j ≡ far_as top j (position_from (λ c. ltb m c.t) (i + 1) cs)
        → cond b (refused 7 (top + i)) (targets (top + i + 1) m cs j) ≡ far_as top j (cond b (Some i) (position_from (λ c. ltb m c.t) (i + 1) cs))
    go true e = refl
    go false e = e

pub targets-position : (m top : ℕ) (cs : List Command) (j : Job) → targets top m cs j ≡ far_as top j (position (λ c. ltb m c.t) cs)
targets-position m top cs j = rw (position_from-zero (λ (c : Command). ltb m c.t) cs, ← (targets-from m top 0 cs j), add-zero) refl

pub first-far : (cs : List Command) (r : Option ℕ) → r ≡ position (λ c. ltb (length cs) c.t) cs → FirstFar cs r
first-far cs None e = record { reading = λ top j. targets-position (length cs) top cs j ∙ ap (far_as top j) (sym e); place = tt }
first-far cs (Some i) e =
    let w : Command = record { op = Stop; v = 0; w = 0; k = 0; t = 0; n = pos 0 } in
    record {
      reading = λ top j. targets-position (length cs) top cs j ∙ ap (far_as top j) (sym e);
      place = (position-Some (λ (c : Command). ltb (length cs) c.t) cs i w (sym e)).0;
    }
