-- What document 02, Note 1, claims of what `pavebox_csv` returns and leaves.
use Rattle.std.specs.Prelude.{ℕ, ◌≤◌, ◌<◌, ◌≡◌, ◌≢◌, List, [], ◌∷◌, ◌++◌, length, drop, replicate}
use Rattle.model.specs.{Text.bytes, Answer.bytes_for, Written.text_number_count}
use Rattle.model.specs.declared.Entry.{Entry}
use Rattle.model_text.specs.Text.{message_lines}
use Rattle.model_log.specs.{Log.messages, Log.refused, Log.read_log, Log.log_entry, Claims.most_log_bytes}
use Rattle.model_entry.specs.{Entry.LogAnswered, Texts.ThreeNumbers}

-- A call with an answer memory of 12 bytes
pub record LogCalled (log output answer : List ℕ) (returned : ℕ) (output' answer' : List ℕ) : Type 0 where
  pub sized : length answer ≡ bytes_for text_number_count
  pub met : LogAnswered log output answer returned output' answer'

pub record LogWritten (log output answer : List ℕ) (returned : ℕ) (output' answer' : List ℕ) : Type 0 where
  -- 8, 41 and 42 with their rows depend on the export alone, and "a refusal writes nothing"
  pub refuses : (n row : ℕ) → read_log log ≡ refused n row → ThreeNumbers n row 0 returned answer' × (output' ≡ output)
  -- success writes exactly the lines, and behind them stand the old bytes; exactly enough memory is enough
  pub writes : (ms : List (List Entry)) → read_log log ≡ messages ms → length (message_lines ms) ≤ length output
      → ThreeNumbers 0 0 (length (message_lines ms)) returned answer' × (output' ≡ message_lines ms ++ drop (length (message_lines ms)) output)
  -- "43, last, where the lent memory is too short"
  pub lacks : (ms : List (List Entry)) → read_log log ≡ messages ms → length output < length (message_lines ms) → ThreeNumbers 43 0 0 returned answer' × (output' ≡ output)
  -- with 3,712 bytes lent it never is
  pub enough : most_log_bytes ≤ length output → returned ≢ 43
  pub size : length output' ≡ length output

abbrev pub LogWrittenHolds : Type 0
LogWrittenHolds = (s o a : List ℕ) (r : ℕ) (o' a' : List ℕ) → LogCalled s o a r o' a' → LogWritten s o a r o' a'

-- ---- The claim speaks of something: a call writes two lines and returns 0, another is refused, a third lacks memory

abbrev pub log_of : List ℕ
log_of = bytes "0,3\r\n1,\r\n,-5\r\n"

abbrev pub lines_of : List ℕ
lines_of = bytes "msg=0:1\nmsg=3:-5\n"

-- a call with this export on so much memory, that returns and leaves just what the entry does
abbrev pub CalledOn : List ℕ → ℕ → Type 0
CalledOn s lent =
    let x = log_entry s (replicate lent 0) (replicate (bytes_for text_number_count) 0) in
    LogCalled s (replicate lent 0) (replicate (bytes_for text_number_count) 0) x.returned x.output x.answer

pub record LogTelling : Type 0 where
  pub called : (s : List ℕ) (lent : ℕ) → CalledOn s lent
  pub writes : (log_entry log_of (replicate 20 0) (replicate 12 0)).output ≡ lines_of ++ (0 ∷ 0 ∷ 0 ∷ [])
  pub exact : (log_entry log_of (replicate 17 0) (replicate 12 0)).returned ≡ 0
  pub lacks : (log_entry log_of (replicate 16 0) (replicate 12 0)).returned ≡ 43
  pub refuses : (log_entry (bytes "0,3\r\n1\r\n") (replicate 20 0) (replicate 12 0)).returned ≡ 41
