-- "The lines come in this order": a phase reads the lines of one name, and hands on what it read, the number of the next line, and the lines left.
use Rattle.std.specs.Prelude.{List, [], ◌∷◌, ◌++◌, ℕ, ◌+◌}
use lib.{Dec.ltb, ListN.length}
use Rattle.model.specs.Parsed as Parsed
use Rattle.model.specs.{Parsed.Parsed, Parsed.need, Parsed.◌>>=◌, Parsed.◌>>◌, Text.same, Text.divide, Text.equals_sign}

-- read, the number of the next line, the lines left; or a refusal's number and line
pub data Phase (A : Type 0) : Type 0 where
  got : A → ℕ → List (List ℕ) → Phase A
  refused : ℕ → ℕ → Phase A

-- What follows the first `=`, where the name before it is w. Refusal 3: "the name before the first `=` may not stand here, or there is no `=`"
unfoldable pub after : List ℕ → List ℕ → Parsed (List ℕ)
after w l = do
  ws ← divide equals_sign 3 l
  need (same ws.0 w) 3
  Parsed.got ws.1

abbrev pub numbered : {A : Type 0} → ℕ → List (List ℕ) → Parsed A → Phase A
numbered n ls (Parsed.got a) = got a (n + 1) ls
numbered n ls (Parsed.refused r) = refused r n

-- Exactly one line of the name w, line n, read by f. "an early end of the sheet names the line after the last"
unfoldable pub one : {A : Type 0} → List ℕ → (List ℕ → Parsed A) → ℕ → List (List ℕ) → Phase A
one w f n [] = refused 3 n
one w f n (l ∷ ls) = numbered n ls (after w l >>= f)

abbrev pub onward : {A : Type 0} → ℕ → Parsed A → (A → Phase A) → Phase A
onward n (Parsed.got b) go = go b
onward n (Parsed.refused r) go = refused r n

abbrev pub each_line : {A : Type 0} → ℕ → A → List (List ℕ) → Parsed (List ℕ) → (List ℕ → Parsed A) → (A → Phase A) → Phase A
each_line n a ls (Parsed.got v) f go = onward n (f v) go
each_line n a ls (Parsed.refused r) f go = got a n ls

-- The lines of the name w from line n on, each taken by f into what was read before it; the first line of another name ends the phase.
unfoldable pub many : {A : Type 0} → List ℕ → (A → List ℕ → Parsed A) → ℕ → A → List (List ℕ) → Phase A
many w f n a [] = got a n []
many w f n a (l ∷ ls) = each_line n a (l ∷ ls) (after w l) (f a) (λ b. many w f (n + 1) b ls)

-- One line more, at most limit of them. Refusal 8: "a 65th command, a 33rd message"; "3, then 8, then the rest"
unfoldable pub one_more : {A B : Type 0} → ℕ → (B → Parsed A) → List A → B → Parsed (List A)
one_more limit f cs v = do
  need (ltb (length cs) limit) 8
  c ← f v
  Parsed.got (cs ++ (c ∷ []))

-- at least one line: where none stands, the line that stands in its place may not stand there
abbrev pub some : {A : Type 0} → Phase (List A) → Phase (List A)
some (got [] n ls) = refused 3 n
some (got (c ∷ cs) n ls) = got (c ∷ cs) n ls
some (refused r n) = refused r n
