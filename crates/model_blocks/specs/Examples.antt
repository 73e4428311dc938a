-- Texts with what they give: the number, the line, the bytes written, and the `do` lines; and programs with their steps.
use Rattle.std.specs.Prelude.{ℕ, ◌-◌, ◌≡◌, Bool, true, false, List, [], ◌∷◌, ◌++◌}
use Prim.Native.String.{String}
use lib.{IntN.ℤ, IntN.pos, IntN.negsuc, ListN.length}
use Rattle.model.specs.{Text.bytes, Command.blank}
use Rattle.model_run.specs.{Process.stopped, Plain.plain_at, Plain.call_at_step, HonestExamples.steps_from}
use Rattle.model.specs.declared.{Command.Command, Call.Call, Op.TheVariants.Set, Op.TheVariants.Add, Op.TheVariants.Send, Op.TheVariants.Receive}
use Rattle.model.specs.declared.{Op.TheVariants.Stop, Call.TheVariants.Neither, Call.TheVariants.Receives, Call.TheVariants.Sends}
use Rattle.model_text.specs.Examples.{Example, example, times}
use Rattle.model_blocks.specs.Block.{Block, empty, own, if_only, if_else, while, commands_of}
use Rattle.model_blocks.specs.{Dialect.tree, Dialect.read_blocks, Dialect.write_blocks, Meaning.BlockJob, Meaning.block_stopped, Meaning.block_call, Agreement.translated}

-- ---- Texts

abbrev pub gives : ℕ → List ℕ → ℕ → ℕ → ℕ → ℕ → List ℕ → Example
gives K s lent number line count t = example (write_blocks K s) lent number line count t

abbrev pub refuses : List ℕ → ℕ → ℕ → Example
refuses s number line = gives 2 s 99 number line 0 []

-- eight blocks opened, and so many closed
abbrev pub deep : List ℕ → ℕ → List ℕ
deep s n = times 8 (bytes "if 0\n") ++ (s ++ times n (bytes "end\n"))

-- so many commands, and a line behind them
abbrev pub sends : ℕ → String → List ℕ
sends n s = times n (bytes "send\n") ++ bytes s

unfoldable pub list : List Example
list =
    gives 1 (bytes "while 0\nif 1\nelse\nset 0 1\nend\nend\n") 99 0 0 59 (bytes "do=ifzero 0 5\ndo=ifzero 1 3\ndo=jump 4\ndo=set 0 1\ndo=jump 0\n")
    ∷ gives 1 (bytes "if 2\nend\n") 99 0 0 14 (bytes "do=ifzero 2 1\n")
    ∷ gives 1 (bytes "if 0\nif 1\nstop\nend\nelse\nend\n") 99 0 0 46 (bytes "do=ifzero 0 4\ndo=ifzero 1 3\ndo=stop\ndo=jump 4\n")
    ∷ gives 8 (bytes "read 7 7\n") 99 0 0 12 (bytes "do=read 7 7\n")
    ∷ gives 0 (bytes "send\n") 99 4 0 0 []
    ∷ gives 9 (bytes "send\n") 99 4 0 0 []
    ∷ gives 9 [] 99 4 0 0 []
    -- over the whole text
    ∷ refuses [] 2 1
    ∷ refuses (bytes "\n") 6 1
    ∷ refuses (bytes "send") 2 1
    ∷ refuses (bytes "send\n" ++ (128 ∷ [])) 2 2
    ∷ refuses (bytes "se\tnd\n") 2 1
    ∷ refuses (bytes "if 0\r\nend\n") 2 1
    ∷ refuses (bytes "end\nsend") 2 2
    -- 51, by the first word and before 6
    ∷ refuses (bytes "else 7\n") 51 1
    ∷ refuses (bytes "if 0\nelse 7\nend\n") 6 2
    ∷ refuses (bytes "if 0\nelse\nelse x\nend\n") 51 3
    ∷ refuses (bytes "if 0\nwhile 1\nelse\nend\nend\n") 51 3
    ∷ refuses (bytes "end\n") 51 1
    ∷ refuses (bytes "nope\nend\n") 6 1
    ∷ refuses (bytes "end \n") 51 1
    ∷ refuses (bytes "if 0\nend \n") 6 2
    ∷ refuses (bytes "if 0\nnope\n") 6 2
    ∷ refuses (bytes "if 0\n") 51 2
    -- 6 and 4 as in `do` lines
    ∷ refuses (bytes "if\nend\n") 6 1
    ∷ refuses (bytes "if \nend\n") 4 1
    ∷ refuses (bytes "if 8\nend\n") 4 1
    ∷ refuses (bytes "jump 0\n") 6 1
    ∷ refuses (bytes "read 0 2\n") 4 1
    -- 52, for a ninth level
    ∷ refuses (deep (bytes "if 1\n") 9) 52 9
    ∷ refuses (deep (bytes "while\n") 9) 52 9
    ∷ refuses (deep (bytes "if 9 9\n") 9) 52 9
    ∷ refuses (deep (bytes "send\n") 9) 51 18
    ∷ gives 2 (deep [] 8) 999 0 0 112 (times 8 (bytes "do=ifzero 0 8\n"))
    -- 53, last
    ∷ gives 2 (sends 64 "") 999 0 0 512 (times 64 (bytes "do=send\n"))
    ∷ gives 2 (sends 65 "") 999 53 0 0 []
    ∷ gives 2 (sends 65 "nope\n") 999 6 66 0 []
    ∷ gives 2 (sends 65 "if 0\n") 999 51 67 0 []
    ∷ gives 2 (sends 1 "") 7 53 0 0 []
    ∷ gives 2 (sends 1 "") 8 0 0 8 (bytes "do=send\n")
    -- the longest lines
    ∷ gives 1 (times 64 (bytes "set 0 -2147483648\n")) 1344 0 0 1344 (times 64 (bytes "do=set 0 -2147483648\n"))
    ∷ gives 1 (times 64 (bytes "set 0 -2147483648\n")) 1343 53 0 0 []
    ∷ []

-- ---- Programs

-- A program: its text, its tree, and the call of each step until it has stopped
pub record Course : Type 0 where
  pub text : String
  pub program : Block
  pub calls : List Call

-- with one key and no messages
abbrev pub silent_job : Block → BlockJob
silent_job b = record { keys = 1; program = b; messages = [] }

abbrev pub plain_stopped : BlockJob → ℕ → Bool
plain_stopped j s = stopped (commands_of j.program) (plain_at (translated j) s).process

-- The text says the tree; it stops after so many steps and not before, and makes these calls; and so does its translation
abbrev pub CourseHolds : Course → Type 0
CourseHolds c =
    let j = silent_job c.program in
    let n = length c.calls in
    (read_blocks 1 (bytes c.text) ≡ tree c.program)
    × (steps_from (block_call j) 0 n ≡ c.calls) × (block_stopped j (n - 1) ≡ false) × (block_stopped j n ≡ true)
    × (steps_from (call_at_step (translated j)) 0 n ≡ c.calls) × (plain_stopped j (n - 1) ≡ false) × (plain_stopped j n ≡ true)

abbrev pub AllGo : List Course → Type 0
AllGo [] = Unit {0}
AllGo (c ∷ cs) = CourseHolds c × AllGo cs

abbrev set : ℕ → ℤ → Command
set v n = record { op = Set; v = v; w = 0; k = 0; t = 0; n = n }

abbrev add : ℕ → ℕ → Command
add v w = record { op = Add; v = v; w = w; k = 0; t = 0; n = pos 0 }

abbrev one : Command → Block
one c = own c empty

unfoldable pub courses : List Course
courses =
    -- two `set`; three tests, of which two let `add` and a jump back follow; `send`
    record {
      text = "set 0 2\nset 1 -1\nwhile 0\nadd 0 1\nend\nsend\n";
      program = own (set 0 (pos 2)) (own (set 1 (negsuc 0)) (while 0 (one (add 0 1)) (one (blank Send))));
      calls = Neither ∷ Neither ∷ Neither ∷ Neither ∷ Neither ∷ Neither ∷ Neither ∷ Neither ∷ Neither ∷ Sends ∷ [];
    }
    -- `set`, a test, `send`, a jump past the other body, `send`
    ∷ record {
      text = "set 0 1\nif 0\nsend\nelse\nreceive\nend\nsend\n";
      program = own (set 0 (pos 1)) (if_else 0 (one (blank Send)) (one (blank Receive)) (one (blank Send)));
      calls = Neither ∷ Neither ∷ Sends ∷ Neither ∷ Sends ∷ [];
    }
    -- the same with 0 in the variable: a test, `receive`, and `send` with no jump before it
    ∷ record {
      text = "if 0\nsend\nelse\nreceive\nend\nsend\n";
      program = if_else 0 (one (blank Send)) (one (blank Receive)) (one (blank Send));
      calls = Neither ∷ Receives ∷ Sends ∷ [];
    }
    -- `set`, two tests, and `stop` from two blocks
    ∷ record {
      text = "set 0 1\nwhile 0\nif 0\nstop\nend\nend\nsend\n";
      program = own (set 0 (pos 1)) (while 0 (if_only 0 (one (blank Stop)) empty) (one (blank Send)));
      calls = Neither ∷ Neither ∷ Neither ∷ Neither ∷ [];
    }
    -- an empty block: a test alone
    ∷ record { text = "if 0\nend\n"; program = if_only 0 empty empty; calls = Neither ∷ [] }
    ∷ []
