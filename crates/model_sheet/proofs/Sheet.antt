-- The whole sheet: reading and writing are inverse.
use mathlib.Core.Path.{◌≡◌, refl, sym, ap, ◌∙◌}
use mathlib.Core.Bool.{Bool, true, false}
use mathlib.Core.List.{List, [], ◌∷◌, ◌++◌, map, append-nil}
use Prim.Native.Nat.{ℕ, suc}
use native.Mathlib.Omega.{arith}
use lib.{IntN.ℤ, ListN.length}
use Rattle.model.specs.{Form.form_of, Text.colon, Text.bytes, Text.lines, Text.split, Text.init, Text.line_feed, Decimal.natural, Job.Job}
use Rattle.model.specs.{Sheet.forbidden_line, Sheet.closed, Sheet.read_lines, Sheet.read_sheet, Accepted.Every, Accepted.Sound}
use Rattle.model.specs.declared.{Key.Key, Owner.Owner}
use Rattle.model.specs.declared.Key.TheVariants.{Open, Secret}
use Rattle.model.specs.declared.Owner.TheVariants.{A, B}
use Rattle.model.proofs.Accepted.{accepted-sound}
use Rattle.model_text.specs.Text.{unlines, named, pair_text, command_line, command_lines, message_line, message_lines}
use Rattle.model_text.proofs.Bytes.{Spans, Free, spans-free, spans-wider, every_append, every-imply, every_made}
use Rattle.model_text.proofs.{Numbers.natural-spans, Texts.named-printed, Texts.lines-unlines, Texts.lines-allowed, Texts.closed-behind, Texts.closed-append}
use Rattle.model_text.proofs.{Messages.pair-spans, Messages.line-printed, Commands.command-printed}
use Rattle.model_text.proofs.Readings.{Passes, accepted-passes, passes-accepted}
use Rattle.model_sheet.specs.Sheet.{owner_text, secret_text, secrets_from, secret_line, letter_of, head_lines, secret_lines, turns_lines, sheet_text}
use Rattle.model_sheet.specs.Claims.{ReadsBack, WritesBack, Exactly}
use Rattle.model_sheet.proofs.{Texts.unlines-append, Texts.unlines-lines, Turns.turns-printed, Secrets.secrets_of, Short.most-of-all}
use Rattle.model_sheet.proofs.Lines.{turns_of, lines_of, lines-read, lines-back}

-- ---- The text of the lines

-- the sheet is the text of its lines
text-lines : (j : Job) → unlines (lines_of j) ≡ sheet_text j
unfolding sheet_text head_lines secret_lines command_lines message_lines turns_lines
text-lines j = simp unlines-append

-- the bytes of a number are printed
natural-printed : (n : ℕ) → Spans 32 126 (natural n)
natural-printed n = spans-wider 48 57 32 126 (omega arith) (omega arith) (natural n) (natural-spans n)

-- and those of a secret
owner-printed : (two : Bool) (o : Owner) → Spans 32 126 (owner_text two o)
owner-printed false o = tt
owner-printed true A = ((omega arith, omega arith), ((omega arith, omega arith), tt))
owner-printed true B = ((omega arith, omega arith), ((omega arith, omega arith), tt))

secrets-printed : (two : Bool) (i : ℕ) (ks : List Key) → Every (Spans 32 126) (map secret_line (secrets_from two i ks))
unfolding secrets_from secret_text bytes
secrets-printed two i [] = tt
secrets-printed two i (Open ∷ ks) = secrets-printed two (suc i) ks
secrets-printed two i (Secret o d ∷ ks) = (
  named-printed (bytes "secret") (pair_text (i, d) ++ owner_text two o) (omega arith)
      (every_append _ (pair_text (i, d)) (owner_text two o) (spans-wider 45 58 32 126 (omega arith) (omega arith) (pair_text (i, d)) (pair-spans (i, d))) (owner-printed two o)),
  secrets-printed two (suc i) ks,
)

-- and those of every line
lines-printed : (j : Job) → Every (Spans 32 126) (lines_of j)
unfolding bytes
lines-printed j =
    let ks = j.keys in
    let cs = j.commands in
    let ms = j.messages in
    let f = form_of j.form in
    let app = every_append (Spans 32 126) in (
      named-printed (bytes "sheet") (natural j.form) (omega arith) (natural-printed j.form),
      (
        named-printed (bytes "keys") (natural (length ks)) (omega arith) (natural-printed (length ks)),
        app (secrets_of f.owners ks) _ (secrets-printed f.owners 0 ks)
            (app (map command_line cs) _ (every_made command_line (Spans 32 126) command-printed cs)
            (app (map message_line ms) (turns_of f j.turns) (every_made message_line (Spans 32 126) line-printed ms)
            (named-printed (bytes "turns") _ (omega arith) (turns-printed j.form j.turns), tt))),
      ),
    )

-- the sheet ends with a line feed
text-ends : (j : Job) → closed (sheet_text j) ≡ true
unfolding sheet_text turns_lines unlines closed
text-ends j =
    let f = form_of j.form in
    closed-append (head_lines j.form (length j.keys)) _ (closed-append (secret_lines f.owners j.keys) _ (closed-append (command_lines j.commands) _
    (closed-append (message_lines j.messages) (turns_lines f j.turns) (closed-behind (named (bytes "turns") (map (letter_of f) j.turns)) line_feed []))))

-- it has no forbidden byte, and its lines are read as the job
written-passes : (j : Job) → Sound j → Passes (sheet_text j) j
unfolding forbidden_line lines split init
written-passes j h =
    let ls = lines_of j in
    let printed = lines-printed j in
    let text : unlines ls ++ [] ≡ sheet_text j = append-nil (unlines ls) ∙ text-lines j in
    let free = every-imply (Spans 32 126) (Free line_feed) (spans-free 32 126 line_feed (λ p. omega (arith, p.0))) ls printed in
    record {
      allowed = ap (forbidden_line 1) (sym text) ∙ lines-allowed [] [] ls [] printed refl;
      ends = text-ends j;
      reads = ap (λ (x : List ℕ). read_lines (lines x)) (sym text) ∙ ap read_lines (lines-unlines ls [] free ∙ append-nil ls) ∙ lines-read j h;
    }

-- ---- Both directions

pub reads-back : ReadsBack
reads-back j h = passes-accepted (sheet_text j) j (omega (arith, most-of-all j h)) (written-passes j h)

pub writes-back : WritesBack
writes-back s j e =
    let p = accepted-passes s j e in
    sym (text-lines j) ∙ ap unlines (lines-back (lines s) j p.reads) ∙ unlines-lines s p.ends

pub exactly : Exactly
exactly s j = ((λ e. (accepted-sound s j e, writes-back s j e)), (λ p. ap read_sheet (sym p.1) ∙ reads-back j p.0))
