-- What the readers of the first lines answer: s is the text that one is given, and first the number of its first line.
use Rattle.std.specs.Prelude.{Result, IfOk, List, ℕ, ◌≤◌}
use Rattle.model.specs.{Number.from_one, Phase.one, Head.read_secrets, Stored.key_in, Pair.ByKey}
use Rattle.model_text.specs.Found.{Word}
use Rattle.read_line.specs.Phase.{Reads}
use Rattle.read_line.specs.declared.Mark.{Mark}
use Rattle.read_pair.specs.Pair.{by_key}
use Rattle.model.specs.declared.{Form.Form, Fault.Fault, Key.Key}
use Rattle.read_head.specs.declared.Secrets.{Secrets}

-- a number as it stands
abbrev pub itself : ℕ → ℕ
itself n = n

-- a line of the name that p has, with a number from 1 to the limit
pub record NumberRead (p : List ℕ) (limit : ℕ) (s : List ℕ) (first : ℕ) (r : Result (ℕ × Mark) Fault) : Type 0 where
  pub read : (w : List ℕ) → Word w p → Reads (one w (from_one limit)) itself s first r
  pub range : IfOk r (λ x. (1 ≤ x.0) × (x.0 ≤ limit))

-- what the keys that were read stand for, and the least that may come next
abbrev pub secrets_as : ℕ → Secrets → ByKey Key
secrets_as K x = by_key key_in K x.least x.slots

pub record SecretsRead (f : Form) (K : ℕ) (s : List ℕ) (first : ℕ) (r : Result (Secrets × Mark) Fault) : Type 0 where
  pub read : Reads (read_secrets f K) (secrets_as K) s first r
