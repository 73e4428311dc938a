-- What is found before a turn: one of the endings "From the state", or that the turn is taken; and whether a high execution's turn passes idle.
use Rattle.std.specs.Prelude.{ℕ, ◌-◌, List, [], ◌∷◌, Bool, false, true, cond}
use lib.{Dec.ltb, ListN.get_or}
use Rattle.model_run.specs.{Step.call_of, Process.command, Process.stopped, Line.line_length, State.Role, State.leads, State.follows, State.role, State.leader}
use Rattle.model_run.specs.{State.State, State.process}
use Rattle.model_run.specs.Data.{Key, Command, Call, Neither, Receives, Sends, Level, Ending, Stopped, LettersUsed, NoRoom}

pub data Verdict : Type 0 where
  GoesOn : Verdict
  Ends : Ending → Verdict

-- "its command is `send`, and fewer bytes are left than a line needs"
unfoldable pub short : Call → ℕ → ℕ → Bool
short Neither left line = false
short Receives left line = false
short Sends left line = ltb left line

-- "all letters are used"
abbrev pub all_used : List Level → Bool
all_used [] = true
all_used (l ∷ ls) = false

-- "a letter L is next, its command is `send`, and fewer bytes are left than a line needs": of the next letter's role, and the leader's call
abbrev pub lacking : Role → Call → ℕ → ℕ → Bool
lacking leads call left line = short call left line
lacking follows call left line = false

-- of room bytes lent, those that are written are not left
unfoldable pub no_room : List Key → List Command → ℕ → List Level → State → Bool
no_room ks cs room [] s = false
no_room ks cs room (l ∷ ls) s = lacking (role l) (call_of (command cs (process leader s)).op) (room - s.outgoing.bytes) (line_length ks)

-- The table of endings, "Before each turn", "tested in that order": 0 "the low execution has stopped"; 31 "it has not, and all letters are used"; 32
abbrev pub verdict_by : Bool → Bool → Bool → Verdict
verdict_by at_end used full = cond at_end (Ends Stopped) (cond used (Ends LettersUsed) (cond full (Ends NoRoom) GoesOn))

-- the letters are those that are left
unfoldable pub verdict : List Key → List Command → ℕ → List Level → State → Verdict
verdict ks cs room ls s = verdict_by (stopped cs (process leader s)) (all_used ls) (no_room ks cs room ls s)

-- the kind of the leader's call number j, counted from 0; Neither where it has not been made
abbrev pub kind_at : List Call → ℕ → Call
kind_at kinds j = get_or kinds j Neither

-- Document 02, Note 2: "the j-th high call moves on only if the j-th low call has been made and was of the same kind." Whether a command of the first kind waits,
-- where the low call of its number was of the second, or Neither if it has not been made. (One that is no call never waits.)
unfoldable pub waits : Call → Call → Bool
waits Neither low = false
waits Receives Neither = true
waits Receives Receives = false
waits Receives Sends = true
waits Sends Neither = true
waits Sends Receives = true
waits Sends Sends = false

-- "Otherwise the turn passes idle. A stopped high execution also idles."
unfoldable pub idles : Bool → Bool → Bool
idles at_end waiting = cond at_end true waiting
