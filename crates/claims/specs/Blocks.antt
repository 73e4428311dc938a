-- What document 02, Note 5, claims of what `pavebox_blocks` returns and leaves.
use Rattle.std.specs.Prelude.{ℕ, ◌≤◌, ◌<◌, ◌≡◌, List, [], ◌∷◌, ◌++◌, length, take, drop, replicate}
use Rattle.model.specs.{Text.bytes, Limits.most_commands, Answer.bytes_for, Sheet.accepted, Sheet.read_sheet, Written.text_number_count}
use Rattle.model.specs.declared.Entry.{Entry}
use Rattle.model_text.specs.{Text.command_lines, Pasted.with_commands}
use Rattle.model_blocks.specs.{Block.Block, Block.places, Block.commands_of, Dialect.tree, Dialect.refused, Dialect.read_blocks, Dialect.blocks_entry}
use Rattle.model_blocks.specs.Agreement.{Agrees}
use Rattle.model_blocks.specs.Claims.{most_block_bytes, least_head, least_tail, least_job}
use Rattle.model_entry.specs.{Entry.BlocksAnswered, Texts.ThreeNumbers}

-- A call with an answer memory of 12 bytes
pub record BlocksCalled (text : List ℕ) (keys : ℕ) (output answer : List ℕ) (returned : ℕ) (output' answer' : List ℕ) : Type 0 where
  pub sized : length answer ≡ bytes_for text_number_count
  pub met : BlocksAnswered text keys output answer returned output' answer'

-- the `do` lines of a program
abbrev pub program_lines : Block → List ℕ
program_lines b = command_lines (commands_of b)

pub record BlocksWritten (text : List ℕ) (keys : ℕ) (output : List ℕ) (returned : ℕ) (output' answer' : List ℕ) : Type 0 where
  -- 4 at line 0, 2, 51, 52, 6 and 4 with their lines depend on the text and the number of keys alone, and "a refusal
  -- writes nothing"
  pub refuses : (n l : ℕ) → read_blocks keys text ≡ refused n l → ThreeNumbers n l 0 returned answer' × (output' ≡ output)
  -- "53, last and at line 0, for more than 64 commands after translation"
  pub many : (b : Block) → read_blocks keys text ≡ tree b → most_commands < places b → ThreeNumbers 53 0 0 returned answer' × (output' ≡ output)
  -- "or too little lent memory"
  pub lacks : (b : Block) → read_blocks keys text ≡ tree b → places b ≤ most_commands → length output < length (program_lines b)
      → ThreeNumbers 53 0 0 returned answer' × (output' ≡ output)
  -- "Out come `do` lines.": exactly those of the translation, and behind them stand the old bytes; exactly enough
  -- memory is enough
  pub writes : (b : Block) → read_blocks keys text ≡ tree b → places b ≤ most_commands → length (program_lines b) ≤ length output
      → ThreeNumbers 0 0 (length (program_lines b)) returned answer' × (output' ≡ program_lines b ++ drop (length (program_lines b)) output)
  -- with 1,344 bytes lent it is never too little
  pub enough : most_block_bytes ≤ length output → returned ≡ 53 → (b : Block) × (read_blocks keys text ≡ tree b) × (most_commands < places b)
  -- what came out, put into the least sheet with as many keys, is accepted and read as exactly the translated commands
  -- (of any other sheet `BlocksPasted` says it), and every plain run of these agrees with the program step by step
  pub sheet : returned ≡ 0
      → (b : Block) × (read_blocks keys text ≡ tree b)
      × (read_sheet (least_head keys ++ (take (length (program_lines b)) output' ++ least_tail)) ≡ accepted (with_commands (least_job keys) (commands_of b)))
      × ((ms : List (List Entry)) (n : ℕ) → Agrees (record { keys = keys; program = b; messages = ms }) n)
  pub size : length output' ≡ length output

abbrev pub BlocksWrittenHolds : Type 0
BlocksWrittenHolds = (s : List ℕ) (K : ℕ) (o a : List ℕ) (r : ℕ) (o' a' : List ℕ) → BlocksCalled s K o a r o' a' → BlocksWritten s K o r o' a'

-- ---- The claim speaks of something: a call writes the lines of a loop and returns 0, another is refused, a third lacks memory

abbrev pub loop_text : List ℕ
loop_text = bytes "while 0\nsub 0 1\nend\n"

abbrev pub loop_lines : List ℕ
loop_lines = bytes "do=ifzero 0 3\ndo=sub 0 1\ndo=jump 0\n"

-- a call with this text for so many keys on so much memory, that returns and leaves just what the entry does
abbrev pub BlocksCalledOn : List ℕ → ℕ → ℕ → Type 0
BlocksCalledOn s K lent =
    let x = blocks_entry K s (replicate lent 0) (replicate (bytes_for text_number_count) 0) in
    BlocksCalled s K (replicate lent 0) (replicate (bytes_for text_number_count) 0) x.returned x.output x.answer

pub record BlocksTelling : Type 0 where
  pub called : (s : List ℕ) (K lent : ℕ) → BlocksCalledOn s K lent
  pub writes : (blocks_entry 1 loop_text (replicate 37 0) (replicate 12 0)).output ≡ loop_lines ++ (0 ∷ 0 ∷ [])
  pub exact : (blocks_entry 1 loop_text (replicate 35 0) (replicate 12 0)).returned ≡ 0
  pub lacks : (blocks_entry 1 loop_text (replicate 34 0) (replicate 12 0)).returned ≡ 53
  pub refuses : (blocks_entry 1 (bytes "while 0\nsub 0 1\n") (replicate 35 0) (replicate 12 0)).returned ≡ 51
