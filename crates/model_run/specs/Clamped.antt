-- Document 02, Note 3, "Tell us when a speed was clamped": what is claimed of what a command says (`Arith.computed`), and of the answer's seventh number.
use Rattle.std.specs.Prelude.{ℕ, ◌+◌, ◌≡◌, ◌≢◌, Bool, true, false, cond, List, [], ◌∷◌, ◌++◌}
use Prim.Native.String.{String}
use lib.{IntN.ℤ, IntN.negsuc, IntN.pos, IntN.◌+ℤ◌, IntN.◌-ℤ◌, IntN.◌*ℤ◌, ListN.replicate, Signed.quot_z}
use Rattle.model_run.specs.{Arith.least, Arith.outside, Arith.clamps_by, Arith.computed, Arith.quotient, Step.variable, Step.effect_of, Process.Process}
use Rattle.model_run.specs.{Process.command, State.process, Run.state_after, Whole.run_sheet, Secrecy.of, Secrecy.Alike, Examples.Example, Examples.prints}
use Rattle.model_run.specs.{Examples.lent_by_runsheet}
use Rattle.model.specs.{Number.is_zero, Text.bytes, Command.blank, Job.Job, Sheet.accepted, Sheet.read_sheet, Answer.numbers_of}
use Rattle.model_run.specs.Data.{Entry, Number, Secret, Op, Set, Add, Sub, Mul, Div, Read, Has, Put, Drop, IfNeg, IfZero, Jump, Receive, Send, Stop, Command, Low}
use Rattle.model_run.specs.Data.{High, A}

-- ---- "Each of `add`, `sub`, `mul` and `div` shall say whether its exact result lay outside the range"

-- The exact result of a word, where a and b are what its variables hold. "a zero divisor doesn't count": it gives none, and neither does any other word.
pub data Exact : Type 0 where
  exactly : ℤ → Exact
  none : Exact

unfoldable pub exact_of : Op → ℤ → ℤ → Exact
exact_of Add a b = exactly (a +ℤ b)
exact_of Sub a b = exactly (a -ℤ b)
exact_of Mul a b = exactly (a *ℤ b)
exact_of Div a b = cond (is_zero b) none (exactly (quot_z a b))
exact_of Set a b = none
exact_of Read a b = none
exact_of Has a b = none
exact_of Put a b = none
exact_of Drop a b = none
exact_of IfNeg a b = none
exact_of IfZero a b = none
exact_of Jump a b = none
exact_of Receive a b = none
exact_of Send a b = none
exact_of Stop a b = none

-- whether it lay outside the range
abbrev pub lay_outside : Exact → Bool
lay_outside (exactly z) = outside z
lay_outside none = false

-- What a command says is so, whatever its word: of m clamped results it makes one more, or none; and of an exact result it stores what is computed of that
pub record Says (c : Command) (p : ℕ) (a b : ℤ) (e : Entry) (m end : ℕ) : Type 0 where
  pub says : (effect_of c p a b e m end).clamped ≡ m + clamps_by (lay_outside (exact_of c.op a b))
  pub stores : (z : ℤ) → exact_of c.op a b ≡ exactly z → (effect_of c p a b e m end).value ≡ (computed z).value

abbrev pub AlwaysSays : Type 0
AlwaysSays = (c : Command) (p : ℕ) (a b : ℤ) (e : Entry) (m end : ℕ) → Says c p a b e m end

-- An exact result lay outside the range exactly where it is not the value that is stored; that is one clamped result
pub record Clamps (z : ℤ) : Type 0 where
  pub beyond : outside z ≡ true → ((computed z).value ≢ z) × ((computed z).clamps ≡ 1)
  pub within : outside z ≡ false → ((computed z).value ≡ z) × ((computed z).clamps ≡ 0)

abbrev pub AlwaysClamps : Type 0
AlwaysClamps = (z : ℤ) → Clamps z

-- One that just reaches an end did not, and the next one did
pub record AtTheEnds : Type 0 where
  pub least : outside (negsuc 2147483647) ≡ false
  pub below : outside (negsuc 2147483648) ≡ true
  pub greatest : outside (pos 2147483647) ≡ false
  pub above : outside (pos 2147483648) ≡ true

-- Of the quotients of a number of the range, that of the least number by -1 did, and no other
pub record OneQuotient : Type 0 where
  pub does : (quotient least (negsuc 0)).clamps ≡ 1
  pub only : (a b : ℤ) → outside a ≡ false → (quotient a b).clamps ≡ 1 → (a ≡ least) × (b ≡ negsuc 0)

-- ---- "the clamped results of the low execution alone"

-- the exact result of the command at which an execution stands
abbrev pub exact_at : List Command → Process → Exact
exact_at cs p = let c = command cs p in exact_of c.op (variable p.execution c.v) (variable p.execution c.w)

-- The clamped results in these turns of an execution: of the exact results of its commands, those that lay outside the range. That the seventh number counts
-- those in the low execution's turns, and so is never above the low steps, is said with the other counts (`Counted`).
unfoldable pub clamped_in : List Command → List Process → ℕ
clamped_in cs [] = 0
clamped_in cs (p ∷ ps) = clamps_by (lay_outside (exact_at cs p)) + clamped_in cs ps

-- "The secrecy rule covers the new number": two sheets to which demand 3 applies, in which the high execution doubles the secret entry
unfoldable pub doubling : String → List ℕ
doubling n = bytes "sheet=1\nkeys=1\nsecret=0:0\ndo=receive\ndo=read 0 0\ndo=add 0 0\ndo=stop\nmsg=0:" ++ (bytes n ++ bytes "\nturns=LHLHLHLH\n")

abbrev pub doubling_job : ℤ → Job
doubling_job n =
    record {
      form = 1;
      keys = Secret A (pos 0) ∷ [];
      commands =
          blank Receive ∷ record { op = Read; v = 0; w = 0; k = 0; t = 0; n = pos 0 } ∷ record { op = Add; v = 0; w = 0; k = 0; t = 0; n = pos 0 } ∷ blank Stop ∷ [];
      messages = (Number n ∷ []) ∷ [];
      turns = Low ∷ High A ∷ Low ∷ High A ∷ Low ∷ High A ∷ Low ∷ High A ∷ [];
    }

-- Of one the high execution has a clamped result, of the other none, and the seven numbers of both are the same
pub record HighUntold : Type 0 where
  pub accepts_great : read_sheet (doubling "2147483647") ≡ accepted (doubling_job (pos 2147483647))
  pub accepts_small : read_sheet (doubling "1") ≡ accepted (doubling_job (pos 1))
  pub alike : Alike (of A) (doubling_job (pos 2147483647)) (doubling_job (pos 1))
  pub great : (process (High A) (state_after (doubling_job (pos 2147483647)) 7)).execution.clamped ≡ 1
  pub small : (process (High A) (state_after (doubling_job (pos 1)) 7)).execution.clamped ≡ 0
  pub numbers : numbers_of (run_sheet (doubling "2147483647") (replicate lent_by_runsheet 0)).answer ≡ numbers_of (run_sheet (doubling "1") (replicate lent_by_runsheet 0)).answer

-- ---- Whole texts

-- a sheet with these commands
unfoldable pub sums : String → List ℕ
sums commands = bytes "sheet=1\nkeys=1\nsecret=0:0\n" ++ (bytes commands ++ bytes "msg=0:2147483647\nturns=LLLLLLLL\n")

-- Two sums beyond the greatest number, and a difference that is not; the least number by -1, a zero divisor, and the square of the 0 that it gives; a sum that
-- just reaches the greatest number; the high execution's clamped result; a refusal. (Sheet A and the empty sheet are P1 and P11.)
unfoldable pub examples : List Example
examples =
    prints (sums "do=set 0 2147483647\ndo=set 1 1\ndo=add 0 1\ndo=add 0 1\ndo=sub 0 1\n") lent_by_runsheet "end=0 0 5 5 0 0 2\n"
    ∷ prints (sums "do=set 0 -2147483648\ndo=set 1 -1\ndo=div 0 1\ndo=div 0 2\ndo=mul 0 0\n") lent_by_runsheet "end=0 0 5 5 0 0 1\n"
    ∷ prints (sums "do=set 0 2147483646\ndo=set 1 1\ndo=add 0 1\ndo=stop\n") lent_by_runsheet "end=0 0 4 4 0 0 0\n"
    ∷ prints (doubling "2147483647") lent_by_runsheet "end=0 0 7 4 0 1 0\n"
    ∷ prints (sums "do=jump 2\n") lent_by_runsheet "end=7 4 0 0 0 0 0\n"
    ∷ []
