-- Command lines in the place of those that a sheet has are read as the commands that they were written for.
use mathlib.Core.Path.{◌≡◌, refl, sym, ap, ◌∙◌, subst}
use mathlib.Core.Bool.{true, false}
use mathlib.Core.List.{List, [], ◌∷◌, ◌++◌, map}
use Prim.Native.Nat.{ℕ, ◌<◌, ◌≤◌}
use native.Mathlib.{Omega.arith, Decide.dec_lt}
use lib.ListN.{length, drop, length-map}
use Rattle.model.specs.{Limits.most_commands, Text.bytes, Text.free, Text.same, Text.find, Text.lines, Text.line_feed, Form.form_of, Job.Job, Parsed.Parsed}
use Rattle.model.specs.{Phase.Phase, Phase.got, Phase.many, Phase.one_more, Phase.some, Command.read_command, Command.limits, Program.read_commands, Messages.read_messages}
use Rattle.model.specs.{Messages.message_line as read_message, Sheet.accepted, Sheet.next, Sheet.read_body, Sheet.read_lines}
use Rattle.model.specs.Accepted.{Every, Within, Bare}
use Rattle.model.specs.declared.{Form.Form, Key.Key, Entry.Entry, Command.Command}
use Rattle.model.proofs.Accepted.{accepted-sound, every-both}
use Rattle.model_text.proofs.LineLaws.{lines_none, lines_more, starts-split, starts-take, after-other}
use Rattle.model_text.specs.{Text.named, Text.command_text, Text.command_line, Text.command_lines}
use Rattle.model_text.specs.Pasted.{with_commands, starts_do, CutAtProgram, ProgramPasted}
use Rattle.model_text.proofs.{Bytes.Spans, Bytes.every_made, Bytes.every-imply, Bytes.every-last, Numbers.Small, Texts.lines-closed, Texts.closed-lines}
use Rattle.model_text.proofs.{Commands.command-read, Commands.command-printed, Phases.Named, Phases.Other, Phases.other-line, Phases.never, Phases.many-other}
use Rattle.model_text.proofs.{Phases.many-all, Phases.many-again, Phases.many-written, Phases.some-got}
use Rattle.model_text.proofs.Readings.{next-got, targets-within, after_messages, messages-got, ended-instead, Passes, accepted-passes, passes-accepted, passes-instead}
use Rattle.model_text.proofs.Opening.{Beyond, form-least, opening-through}
use Rattle.model.proofs.Forms.{every-form-fits}

-- a line of another name than `do`
abbrev Foreign : List ℕ → Type 0
Foreign l = Other (bytes "do") (l ∷ [])

abbrev read_one : Form → ℕ → List Command → List ℕ → Parsed (List Command)
read_one f K = one_more f.commands (read_command (limits K f.commands))

-- ---- Reading the commands

-- they begin where the first line of the name `do` is, and end behind the last
commands-between : (f : Form) (K n m : ℕ) (ls old tail rest : List (List ℕ)) (ds : List Command)
    → Every Foreign ls → Every (Named (bytes "do")) old → Other (bytes "do") tail
    → read_commands f K n (ls ++ (old ++ tail)) ≡ got ds m rest → (ls ≡ []) × (rest ≡ tail)
unfolding read_commands bytes free
commands-between f K n m [] old tail rest ds none all other e =
    (refl, many-all (bytes "do") (read_one f K) n m [] ds old tail rest refl all other (some-got (many (bytes "do") (read_one f K) n [] (old ++ tail)) ds m rest e).0)
commands-between f K n m (l ∷ ls) old tail rest ds none all other e =
    never (sym (ap some (many-other (bytes "do") (read_one f K) n [] (l ∷ (ls ++ (old ++ tail))) none.0)) ∙ e)

some-commands : (cs : List Command) (n : ℕ) (ls : List (List ℕ)) → 1 ≤ length cs → some (got cs n ls) ≡ got cs n ls
some-commands [] n ls h = absurd (omega arith)
some-commands (c ∷ cs) n ls h = refl

-- a command that its line is read as, where there are K keys and so many commands may stand
abbrev Readable : ℕ → ℕ → Command → Type 0
Readable K most c = Within K most c × Bare c

-- written commands, before other lines
pub commands-written : (f : Form) (K n : ℕ) (cs : List Command) (tail : List (List ℕ)) → Small K → Small f.commands → 1 ≤ length cs → length cs ≤ f.commands
    → Every (Readable K f.commands) cs → Other (bytes "do") tail → (m : ℕ) × (read_commands f K n (map command_line cs ++ tail) ≡ got cs m tail)
unfolding read_commands bytes free
commands-written f K n cs tail small target any few readable other =
    let l = limits K f.commands in
    let fit = Readable K f.commands in
    let w = many-written (bytes "do") f.commands (read_command l) command_text fit (λ c h. command-read l c small target h.0 h.1) n [] cs tail refl (omega arith) readable other in
    (w.0, ap some w.1 ∙ some-commands cs w.0 tail any)

-- ---- The lines

module _ (old tail : List (List ℕ)) (all : Every (Named (bytes "do")) old) (other : Other (bytes "do") tail) (j : Job) (cs : List Command) where
  abbrev new : List (List ℕ)
  new = map command_line cs ++ tail

  -- the messages are read from another line on, and then the letters
  rest-instead : (f : Form) (ks : List Key) (K top n k : ℕ) (ds : List Command) → Every (λ (c : Command). c.t ≤ length cs) cs
      → next (read_messages f K n tail) (after_messages f ks top ds) ≡ accepted j → read_commands f K top new ≡ got cs k tail
      → read_body f ks K top new ≡ accepted (with_commands j cs)
  unfolding read_body read_messages
  rest-instead f ks K top n k ds near e w =
      let g = messages-got f ks top ds K n tail j e in
      let r = many-again (bytes "msg") (one_more f.messages (read_message K)) n g.1 [] g.0 tail g.2 g.3 k in
      ap (λ (x : Phase (List Command)). next x (λ es m ms. next (read_messages f K m ms) (after_messages f ks top es))) w
      ∙ ap (λ (x : Phase (List (List Entry))). next x (after_messages f ks top cs)) r.1
      ∙ ended-instead f ks top ds cs g.0 g.2 j g.4 r.0 (targets-within top (length cs) cs near)

  keys-same : (f : Form) (ks : List Key) (K top n : ℕ) (ds : List Command) → next (read_messages f K n tail) (after_messages f ks top ds) ≡ accepted j → j.keys ≡ ks
  keys-same f ks K top n ds e = let g = messages-got f ks top ds K n tail j e in ap (λ (x : Job). x.keys) (sym g.4.job)

  module _ (any : 1 ≤ length cs) (within : Every (Within (length j.keys) (length cs)) cs) (bare : Every Bare cs) where
    pub near : Every (λ (c : Command). c.t ≤ length cs) cs
    near = every-imply (Within (length j.keys) (length cs)) (λ c. c.t ≤ length cs) (λ c h. h.t) cs within

    pub readable : (most : ℕ) → length cs ≤ most → Every (Readable (length j.keys) most) cs
    readable most few =
        every-both (Within (length j.keys) (length cs)) Bare (Readable (length j.keys) most)
        (λ c h b. (record { v = h.v; w = h.w; k = h.k; t = omega (arith, h.t); n = h.n }, b)) cs within bare

    body-instead : (f : Form) (ks : List Key) (K top : ℕ) (ls : List (List ℕ)) → length ks ≡ K → Every Foreign ls → Small (length j.keys) → Small f.commands
        → length cs ≤ f.commands → read_body f ks K top (ls ++ (old ++ tail)) ≡ accepted j → read_body f ks K top (ls ++ new) ≡ accepted (with_commands j cs)
    unfolding read_body
    body-instead f ks K top ls q none small target few e =
        next-got _ (read_commands f K top (ls ++ (old ++ tail))) j e (λ ds m rest r e₁.
        let b = commands-between f K top m ls old tail rest ds none all other r in
        let e₂ = subst (λ (x : List (List ℕ)). next (read_messages f K m x) (after_messages f ks top ds) ≡ accepted j) b.1 e₁ in
        let k : length j.keys ≡ K = ap length (keys-same f ks K top m ds e₂) ∙ q in
        let fit = subst (λ (x : ℕ). Every (Readable x f.commands) cs) k (readable f.commands few) in
        let w = commands-written f K top cs tail (omega arith) target any few fit other in
        ap (λ (x : List (List ℕ)). read_body f ks K top (x ++ new)) b.0 ∙ rest-instead f ks K top m w.0 ds near e₂ w.1)

    lines-instead : (ls : List (List ℕ)) → Every Foreign ls → Beyond (old ++ tail) → Beyond new → Small (length j.keys) → length cs ≤ most_commands
        → read_lines (ls ++ (old ++ tail)) ≡ accepted j → read_lines (ls ++ new) ≡ accepted (with_commands j cs)
    lines-instead ls none p r small few e =
        opening-through (old ++ tail) new p r ls j (with_commands j cs) e (λ number K top ks ms q last e₁.
        body-instead (form_of number) ks K top ms q (every-last Foreign last.0 ms (subst (Every Foreign) last.1 none)) small (omega (arith, (every-form-fits number).commands)) (omega (arith, few, (form-least number).0)) e₁)

-- ---- The sheet

-- a line that begins with `do=`, and one that does not
do-named : (l : List ℕ) → starts_do l ≡ true → Named (bytes "do") l
unfolding bytes named
do-named l h = (drop 3 l, starts-split (bytes "do=") l h)

do-foreign : (l : List ℕ) → starts_do l ≡ false → Foreign l
unfolding bytes free
do-foreign l h = (3, after-other (bytes "do") l refl h)

do-other : (s : List ℕ) → starts_do s ≡ false → Other (bytes "do") (lines s)
unfolding bytes
do-other s h = go (dec_lt (find line_feed s) (length s))
  where
    go : Dec (find line_feed s < length s) → Other (bytes "do") (lines s)
    go (yes l) = rw (lines_more s l) (do-foreign _ (starts-take (bytes "do=") s (find line_feed s) h))
    go (no l) = let m : length s ≤ find line_feed s = omega arith in rw (lines_none s m) tt

pub do-next : (w : List ℕ) (ls tail : List (List ℕ)) → 1 ≤ length ls → Every (Named (bytes "do")) ls → same (bytes "do") w ≡ false → Other w (ls ++ tail)
unfolding bytes free
do-next w [] tail any h differ = absurd (omega arith)
do-next w (l ∷ ls) tail any h differ = subst (λ (x : List ℕ). Other w (x ∷ (ls ++ tail))) (sym h.0.1) (other-line w (bytes "do") h.0.0 (ls ++ tail) refl differ)

-- where a command line comes next, none of the first lines does
do-beyond : (ls tail : List (List ℕ)) → 1 ≤ length ls → Every (Named (bytes "do")) ls → Beyond (ls ++ tail)
unfolding bytes same
do-beyond ls tail any h =
    record {
      sheet = do-next (bytes "sheet") ls tail any h refl;
      keys = do-next (bytes "keys") ls tail any h refl;
      secret = do-next (bytes "secret") ls tail any h refl;
    }

module _ (head old tail : List ℕ) (j : Job) (cut : CutAtProgram head old tail j) where
  lines_cut : lines (head ++ (old ++ tail)) ≡ lines head ++ (lines old ++ lines tail)
  lines_cut = lines-closed head cut.head_ends (old ++ tail) ∙ ap (λ (x : List (List ℕ)). lines head ++ x) (lines-closed old cut.old_ends tail)

  old-named : Every (Named (bytes "do")) (lines old)
  old-named = every-imply (λ l. starts_do l ≡ true) (Named (bytes "do")) do-named (lines old) cut.inside

  old-beyond : Beyond (lines old ++ lines tail)
  old-beyond = let k = closed-lines old cut.old_ends in do-beyond (lines old) (lines tail) (rw k.2 (omega arith)) old-named

  passes-cut : (cs : List Command) → 1 ≤ length cs → length cs ≤ most_commands → Every (Within (length j.keys) (length cs)) cs → Every Bare cs
      → Passes (head ++ (old ++ tail)) j → Passes (head ++ (command_lines cs ++ tail)) (with_commands j cs)
  unfolding command_lines
  passes-cut cs any few within bare p =
      let keys = (accepted-sound (head ++ (old ++ tail)) j cut.accepts).most_keys in
      let none = every-imply (λ l. starts_do l ≡ false) Foreign do-foreign (lines head) cut.before in
      let new-named = every_made command_line (Named (bytes "do")) (λ c. (command_text c, refl)) cs in
      let new-beyond = do-beyond (map command_line cs) (lines tail) (rw (length-map cs command_line) any) new-named in
      passes-instead head old tail (map command_line cs) j (with_commands j cs) cut.head_ends cut.tail_ends (every_made command_line (Spans 32 126) command-printed cs) p
      (lines-instead (lines old) (lines tail) old-named (do-other tail cut.behind) j cs any within bare (lines head) none old-beyond new-beyond (omega (arith, (every-form-fits j.form).keys)) few
      (ap read_lines (sym lines_cut) ∙ p.reads))

pub program-pasted : ProgramPasted
program-pasted head old tail j cut cs any few within bare short =
    passes-accepted (head ++ (command_lines cs ++ tail)) (with_commands j cs) short
    (passes-cut head old tail j cut cs (omega arith) (omega arith) within bare (accepted-passes (head ++ (old ++ tail)) j cut.accepts))
