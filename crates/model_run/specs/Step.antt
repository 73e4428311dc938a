-- One command of one execution: what it makes of the execution's record and of the one entry that it may read or change.
use lib.{IntN.ℤ, IntN.pos, ListN.get_or, Signed.lt_z}
use Rattle.std.specs.Prelude.{ℕ, ◌+◌, cond}
use Rattle.model_run.specs.{Arith.sum, Arith.difference, Arith.product, Arith.quotient}
use Rattle.model.specs.{Number.is_zero}
use Rattle.model_run.specs.Data.{Entry, Absent, Number, Op, Set, Add, Sub, Mul, Div, Read, Has, Put, Drop, IfNeg, IfZero, Jump, Receive, Send, Stop, Command}
use Rattle.model_run.specs.Data.{Call, Neither, Receives, Sends, Computed, Execution, Effect}
use Rattle.model.specs.Execution.{after_of}

-- "v becomes the entry at k, 0 if absent"
abbrev pub number_of : Entry → ℤ
number_of Absent = pos 0
number_of (Number n) = n

-- "1 if the entry at k is present, else 0"
abbrev pub presence : Entry → ℤ
presence Absent = pos 0
presence (Number n) = pos 1

-- what a variable holds
abbrev pub variable : Execution → ℕ → ℤ
variable x v = get_or x.vars v (pos 0)

-- What a command does, in numbers and one entry. Where it gives its variable no value, that is the one it holds; where it leaves the entry, that is
-- the one it finds. Where it is none of the four operations, the clamped results are as many as there were.
abbrev pub made : ℕ → ℤ → Entry → ℕ → Effect
made p z e m = record { place = p; value = z; clamped = m; entry = e }

-- Note 3: "Each of `add`, `sub`, `mul` and `div` shall say whether its exact result lay outside the range": what one of these does, where there were m clamped
-- results before it
abbrev pub computes : ℕ → Computed → Entry → ℕ → Effect
computes p r e m = record { place = p; value = r.value; clamped = m + r.clamps; entry = e }

-- The meanings of the words, in the table's order: of a command at the place p, in a program that ends at the place end; a and b are what the variables
-- v and w hold, e is the entry at k, m the execution's clamped results so far. A call only moves the execution on here: what else it does is said with the
-- turns.
abbrev pub effect_by : Op → Command → ℕ → ℤ → ℤ → Entry → ℕ → ℕ → Effect
effect_by Set c p a b e m end = made (p + 1) c.n e m
effect_by Add c p a b e m end = computes (p + 1) (sum a b) e m
effect_by Sub c p a b e m end = computes (p + 1) (difference a b) e m
effect_by Mul c p a b e m end = computes (p + 1) (product a b) e m
effect_by Div c p a b e m end = computes (p + 1) (quotient a b) e m
effect_by Read c p a b e m end = made (p + 1) (number_of e) e m
effect_by Has c p a b e m end = made (p + 1) (presence e) e m
effect_by Put c p a b e m end = made (p + 1) a (Number a) m
effect_by Drop c p a b e m end = made (p + 1) a Absent m
effect_by IfNeg c p a b e m end = made (cond (lt_z a (pos 0)) c.t (p + 1)) a e m
effect_by IfZero c p a b e m end = made (cond (is_zero a) c.t (p + 1)) a e m
effect_by Jump c p a b e m end = made c.t a e m
effect_by Receive c p a b e m end = made (p + 1) a e m
effect_by Send c p a b e m end = made (p + 1) a e m
effect_by Stop c p a b e m end = made end a e m

abbrev pub effect_of : Command → ℕ → ℤ → ℤ → Entry → ℕ → ℕ → Effect
effect_of c p a b e m end = effect_by c.op c p a b e m end

-- "`receive`, `send`: the two calls"
unfoldable pub call_of : Op → Call
call_of Set = Neither
call_of Add = Neither
call_of Sub = Neither
call_of Mul = Neither
call_of Div = Neither
call_of Read = Neither
call_of Has = Neither
call_of Put = Neither
call_of Drop = Neither
call_of IfNeg = Neither
call_of IfZero = Neither
call_of Jump = Neither
call_of Receive = Receives
call_of Send = Sends
call_of Stop = Neither

-- What a command leaves: the next record of its execution, and the entry at its key
pub record Stepped : Type 0 where
  pub execution : Execution
  pub entry : Entry

-- an effect in the record, after a command of this kind of call, and beside it
abbrev pub stepped_by : Execution → ℕ → Call → Effect → Stepped
stepped_by x v k f = record { execution = after_of x v k f; entry = f.entry }

-- "Each command is one step.": in a program of n commands
unfoldable pub does : ℕ → Command → Execution → Entry → Stepped
does n c x e = stepped_by x c.v (call_of c.op) (effect_of c x.place (variable x c.v) (variable x c.w) e x.clamped n)
