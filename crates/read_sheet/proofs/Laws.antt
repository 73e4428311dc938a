-- Laws of the lines in their order: what is read after a phase, and what its refusal is.
use mathlib.Core.Path.{◌≡◌, refl, sym, ap, ◌∙◌, subst}
use mathlib.Core.List.{List, [], ◌∷◌}
use Prim.Native.Nat.{ℕ, ◌+◌, ◌-◌, ◌<◌, ◌≤◌}
use native.Mathlib.Omega.{arith}
use lib.{ListN.length, ListN.take, ListN.drop, ListN.length-drop}
use borrow.Author.Tests.{lt-ltb, le-ltb}
use Rattle.model.specs.{Limits.most_bytes, Text.bytes, Text.lines, Pair.ByKey, Form.form_of, Head.sheet_line, Head.keys_line, Text.free}
use Rattle.model.specs.{Head.read_first, Head.read_keys, Head.read_secrets, Program.read_commands, Messages.read_messages, Turns.read_turns, Job.Job, Sheet.Reading}
use Rattle.model.specs.{Sheet.accepted, Sheet.refused, Sheet.next, Sheet.targets, Sheet.read_body, Sheet.read_lines, Sheet.read_sheet}
use Rattle.model.specs.Phase as Model
use Rattle.model.specs.declared.{Form.Form, Entry.Entry, Key.Key, Command.Command, Level.Level}
use Rattle.model_text.specs.Found.{Word, spoilt_line}
use Rattle.model_text.proofs.TextLaws.{text-spoilt, text-whole}
use Rattle.std.specs.Prelude.{Option, None, Some, Result, Ok, Err}
use Rattle.model.specs.Refusal.{number_of}
use Rattle.model.specs.declared.{Fault.Fault, StoredJob.StoredJob}
use Rattle.read_line.specs.Phase.{Reads, Ahead, phase_as}
use Rattle.read_line.specs.declared.Mark.{Mark}
use Rattle.read_head.specs.Head.{NumberRead, itself}
use Rattle.read_sheet.specs.Sheet.{Answers}

sheet-word : Word (bytes "sheet") (115 ∷ 104 ∷ 101 ∷ 101 ∷ 116 ∷ 61 ∷ [])
unfolding bytes free
sheet-word = record { sign = refl; no_sign = refl; no-feed = refl }

keys-word : Word (bytes "keys") (107 ∷ 101 ∷ 121 ∷ 115 ∷ 61 ∷ [])
unfolding bytes free
keys-word = record { sign = refl; no_sign = refl; no-feed = refl }

-- the two lines of a number as phases
module _ {s : List ℕ} {n : ℕ} {r : Result (ℕ × Mark) Fault} where
  pub first-phase : NumberRead (115 ∷ 104 ∷ 101 ∷ 101 ∷ 116 ∷ 61 ∷ []) 2 s n r → Reads read_first itself s n r
  unfolding read_first sheet_line
  first-phase h = h.read (bytes "sheet") sheet-word

  pub keys-phase : (f : Form) → NumberRead (107 ∷ 101 ∷ 121 ∷ 115 ∷ 61 ∷ []) f.keys s n r → Reads (read_keys f) itself s n r
  unfolding read_keys keys_line
  keys-phase f h = h.read (bytes "keys") keys-word

-- the same answer to an equal reading
pub answers : {x y : Reading} {r : Result StoredJob Fault} → y ≡ x → Answers x r → Answers y r
answers e a = record { reading = a.reading ∙ sym e; stored = a.stored }

-- a refusal that is handed on
pub denied : {x : Reading} {e : Fault} → x ≡ refused (number_of e.refusal) e.line → Answers x (Err e)
denied q = record { reading = sym q; stored = tt }

-- a part of a text from a to its end
abbrev pub from : ℕ → List ℕ → List ℕ
from a s = take (length s - a) (drop a s)

-- ---- A phase P over s, which came to c and read what f shows, and the reading k of that and of the lines left: t is what is left of s behind it

module _ {X A : Type 0} {P : ℕ → List (List ℕ) → Model.Phase A} {f : X → A} {s : List ℕ} {first : ℕ} where
  stops : {e : Fault} → Reads P f s first (Err e) → (k : A → ℕ → List (List ℕ) → Reading) → next (P first (lines s)) k ≡ refused (number_of e.refusal) e.line
  stops h k = ap (λ (p : Model.Phase A). next p k) (sym h.read)

  goes_on : {x : X} {m : Mark} → Reads P f s first (Ok (x, m)) → (k : A → ℕ → List (List ℕ) → Reading) → {t : List ℕ} → t ≡ drop m.at s → next (P first (lines s)) k ≡ k (f x) m.line (lines t)
  goes_on {x} {m} h k d = ap (λ (p : Model.Phase A). next p k) (sym h.read) ∙ ap (λ (u : List ℕ). k (f x) m.line (lines u)) (sym d)

  -- the lines left stand within s, and their numbers within those of s
  pub bounded : {x : X} {m : Mark} → Reads P f s first (Ok (x, m)) → {t : List ℕ} → t ≡ drop m.at s → m.line + length t ≤ first + length s
  bounded {x} {m} h {t} d =
      let r = h.ahead in
      let l : length t ≡ length s - m.at = rw d (length-drop m.at s) in
      omega arith

-- ---- The first line, the keys and the secrets

abbrev after_secrets : Form → ℕ → ByKey Key → ℕ → List (List ℕ) → Reading
after_secrets f K ks top ls₃ = read_body f ks.at K top ls₃

abbrev after_keys : Form → ℕ → ℕ → List (List ℕ) → Reading
after_keys f K n₁ ls₂ = next (read_secrets f K n₁ ls₂) (after_secrets f K)

abbrev after_form : Form → ℕ → List (List ℕ) → Reading
after_form f n₀ ls₁ = next (read_keys f n₀ ls₁) (after_keys f)

module _ {s : List ℕ} where
  pub stop-first : {e : Fault} → Reads read_first itself s 1 (Err e) → read_lines (lines s) ≡ refused (number_of e.refusal) e.line
  unfolding read_lines read_body
  stop-first h = stops h (λ number. after_form (form_of number))

  module _ {n₀ : ℕ} {m₀ : Mark} (h₀ : Reads read_first itself s 1 (Ok (n₀, m₀))) {t : List ℕ} (d₀ : t ≡ drop m₀.at s) (f : Form) (e : f ≡ form_of n₀) where
    -- the lines after the first one are read by its form
    chosen : read_lines (lines s) ≡ after_form f m₀.line (lines t)
    unfolding read_lines read_body
    chosen = goes_on h₀ (λ number. after_form (form_of number)) d₀ ∙ ap (λ (g : Form). after_form g m₀.line (lines t)) (sym e)

    pub stop-keys : {e : Fault} → Reads (read_keys f) itself t m₀.line (Err e) → read_lines (lines s) ≡ refused (number_of e.refusal) e.line
    stop-keys h = chosen ∙ stops h (after_keys f)

    module _ {K : ℕ} {m₁ : Mark} (h₁ : Reads (read_keys f) itself t m₀.line (Ok (K, m₁))) {u : List ℕ} (d₁ : u ≡ drop m₁.at t) {X : Type 0} (g : X → ByKey Key) where
      pub stop-secrets : {e : Fault} → Reads (read_secrets f K) g u m₁.line (Err e) → read_lines (lines s) ≡ refused (number_of e.refusal) e.line
      stop-secrets h = chosen ∙ goes_on h₁ (after_keys f) d₁ ∙ stops h (after_secrets f K)

      pub heads-read : {x : X} {m₂ : Mark} → Reads (read_secrets f K) g u m₁.line (Ok (x, m₂)) → {v : List ℕ} → v ≡ drop m₂.at u → read_lines (lines s) ≡ read_body f (g x).at K m₂.line (lines v)
      heads-read h d₂ = chosen ∙ goes_on h₁ (after_keys f) d₁ ∙ goes_on h (after_secrets f K) d₂

-- ---- The commands, the messages and the turns

abbrev job : ℕ → List Key → List Command → List (List Entry) → List Level → Job
job n ks cs ms ts = record { form = n; keys = ks; commands = cs; messages = ms; turns = ts }

module _ (f : Form) (ks : List Key) (K top : ℕ) {X : Type 0} (g₀ : X → List Command) where
  abbrev after_messages : List Command → List (List Entry) → ℕ → List (List ℕ) → Reading
  after_messages cs ms n₂ ls₂ = next (read_turns f n₂ ls₂) (λ ts n₃ ls₃. targets top (length cs) cs (job f.number ks cs ms ts))

  abbrev after_commands : List Command → ℕ → List (List ℕ) → Reading
  after_commands cs n₂ ls₄ = next (read_messages f K n₂ ls₄) (after_messages cs)

  pub stop-commands : {s : List ℕ} {e : Fault} → Reads (read_commands f K) g₀ s top (Err e) → read_body f ks K top (lines s) ≡ refused (number_of e.refusal) e.line
  unfolding read_body
  stop-commands h = stops h after_commands

  module _ {s : List ℕ} {x : X} {m₀ : Mark} (h₀ : Reads (read_commands f K) g₀ s top (Ok (x, m₀))) {t : List ℕ} (d₀ : t ≡ drop m₀.at s) {Y : Type 0} (g₁ : Y → List (List Entry)) where
    pub stop-messages : {e : Fault} → Reads (read_messages f K) g₁ t m₀.line (Err e) → read_body f ks K top (lines s) ≡ refused (number_of e.refusal) e.line
    unfolding read_body
    stop-messages h = goes_on h₀ after_commands d₀ ∙ stops h (after_messages (g₀ x))

    module _ {y : Y} {m₁ : Mark} (h₁ : Reads (read_messages f K) g₁ t m₀.line (Ok (y, m₁))) {u : List ℕ} (d₁ : u ≡ drop m₁.at t) {Z : Type 0} (g₂ : Z → List Level) where
      abbrev finished : List Level → ℕ → List (List ℕ) → Reading
      finished ls n ls₃ = targets top (length (g₀ x)) (g₀ x) (job f.number ks (g₀ x) (g₁ y) ls)

      pub stop-turns : {e : Fault} → Reads (read_turns f) g₂ u m₁.line (Err e) → read_body f ks K top (lines s) ≡ refused (number_of e.refusal) e.line
      unfolding read_body
      stop-turns h = goes_on h₀ after_commands d₀ ∙ goes_on h₁ (after_messages (g₀ x)) d₁ ∙ stops h finished

      pub body-read : {z : Z} {m₂ : Mark} → Reads (read_turns f) g₂ u m₁.line (Ok (z, m₂)) → read_body f ks K top (lines s) ≡ targets top (length (g₀ x)) (g₀ x) (job f.number ks (g₀ x) (g₁ y) (g₂ z))
      unfolding read_body
      body-read {m₂ = m₂} h = goes_on h₀ after_commands d₀ ∙ goes_on h₁ (after_messages (g₀ x)) d₁ ∙ goes_on h finished {t = drop m₂.at u} refl

-- ---- The whole sheet

module _ (s : List ℕ) where
  pub sheet-long : most_bytes < length s → read_sheet s ≡ refused 1 0
  unfolding read_sheet
  sheet-long h = rw (lt-ltb _ _ h)

  module _ (h : length s ≤ most_bytes) where
    pub sheet-spoilt : 1 ≤ spoilt_line s → read_sheet s ≡ refused 2 (spoilt_line s)
    unfolding read_sheet
    sheet-spoilt f = rw (le-ltb _ _ h) (text-spoilt refused s (read_lines (lines s)) f)

    pub sheet-lines : spoilt_line s ≡ 0 → read_sheet s ≡ read_lines (lines s)
    unfolding read_sheet
    sheet-lines f = rw (le-ltb _ _ h) (text-whole refused s (read_lines (lines s)) f)
