-- Document 02, Note 7: "The planner's screen holds a job as a record and must write it as a sheet." What a record says, which records pass, the job of a record,
-- and the record of a job.
use Rattle.std.specs.Prelude.{ℕ, suc, ◌+◌, ◌-◌, List, [], ◌∷◌, map, Bool, true, false, cond, ◌&&◌, ◌||◌}
use lib.{IntN.ℤ, Signed.mag, Dec.eqb, Dec.leb, Dec.ltb, ListN.length, ListN.take, ListN.set, ListN.replicate}
use Rattle.model.specs.{Limits.forms, Turns.letter_a, Turns.letter_b, Limits.variables, Limits.greatest_number, Text.between, Number.is_zero, Command.table, Form.form_of}
use Rattle.model.specs.{Accepted.row_at, Accepted.place_of, Accepted.has, Accepted.all, Job.Job, Stored.level_of, Placed.front}
use Rattle.model.specs.declared.{Form.Form, Entry.Entry, Key.Key, Owner.Owner, Command.Command, Operand.Operand}
use Rattle.model.specs.declared.Entry.TheVariants.{Absent, Number}
use Rattle.model.specs.declared.Key.TheVariants.{Open, Secret}
use Rattle.model.specs.declared.Owner.TheVariants.{A, B}
use Rattle.model.specs.declared.Operand.TheVariants.{InV, InW, InK, InT, InN}
use Rattle.model_text.specs.Text.{pairs}
use Rattle.model_sheet.specs.Sheet.{letter_of, sheet_text}
use Rattle.model_record.specs.Data.{SecretRecord, CommandRecord, EntryRecord, MessageRecord, JobRecord}

-- ---- The places of a record: the constants of src/lib.rt

abbrev pub key_places : ℕ
key_places = 16

abbrev pub command_places : ℕ
command_places = 256

abbrev pub message_places : ℕ
message_places = 32

abbrev pub letter_places : ℕ
letter_places = 1024

-- ---- What a record says

-- a count, and what it covers of an array
abbrev pub covered : {A : Type 0} → ℕ → List A → ℕ × List A
covered n xs = (n, take n xs)

-- "all that its counts cover"
pub record Said : Type 0 where
  pub form : ℕ
  pub keys : ℕ
  pub secrets : ℕ × List SecretRecord
  pub commands : ℕ × List CommandRecord
  pub messages : ℕ × List (ℕ × List EntryRecord)
  pub letters : ℕ × List ℕ

abbrev pub entries_said : MessageRecord → ℕ × List EntryRecord
entries_said m = covered m.entry_count m.entries

unfoldable pub said : JobRecord → Said
said r =
    record {
      form = r.form;
      keys = r.keys;
      secrets = covered r.secret_count r.secrets;
      commands = covered r.command_count r.commands;
      messages = covered r.message_count (map entries_said r.messages);
      letters = covered r.letter_count r.letters;
    }

-- ---- Which records pass: of what the counts cover, "54 if a number or count in the record is outside its limits in document 01, a turn letter is neither `L`
-- nor `H`, keys don't rise, or a target exceeds the count of commands"

-- keys below K that rise, where next is the least that may come
unfoldable pub rising : ℕ → ℕ → List ℕ → Bool
rising K next [] = true
rising K next (k ∷ ks) = (leb next k && ltb k K) && rising K (k + 1) ks

-- "from -2147483648 to 2147483647", which every number of 32 bits with a sign is
abbrev pub in_range : ℤ → Bool
in_range z = leb (mag z) greatest_number

-- Note 8: "The writer of Note 7 takes both forms, each with its own letters and limits." Where owners are named, the
-- byte of `A` or `B`; else none, 0: "gives the same record", and another owner would not come back.
abbrev pub owner_fits : Bool → ℕ → Bool
owner_fits false o = eqb o 0
owner_fits true o = eqb o letter_a || eqb o letter_b

abbrev pub secret_key : SecretRecord → ℕ
secret_key s = s.key

abbrev pub secret_fits : Bool → SecretRecord → Bool
secret_fits two s = owner_fits two s.owner && in_range s.dummy

unfoldable pub secrets_fit : Bool → ℕ → List SecretRecord → Bool
secrets_fit two K ss = rising K 0 (map secret_key ss) && all (secret_fits two) ss

-- the limit of an operand, where the word has these: of one that it lacks, which would not come back either, 0
abbrev pub limit_of : List Operand → Operand → ℕ → ℕ
limit_of os o most = cond (has os o) most 0

-- "v and w are variables 0 to 7, k a key, n a number, t a target from 0 to the count of commands": K keys, and so many commands
unfoldable pub command_fits : ℕ → ℕ → CommandRecord → Bool
command_fits K count c =
    let os = (row_at c.word).parts in
    ltb c.word (length table)
    && (leb c.v (limit_of os InV (variables - 1))
    && (leb c.w (limit_of os InW (variables - 1))
    && (leb c.k (limit_of os InK (K - 1))
    && (leb c.t (limit_of os InT count)
    && cond (has os InN) (in_range c.n) (is_zero c.n)))))

abbrev pub entry_key : EntryRecord → ℕ
entry_key e = e.key

abbrev pub entry_fits : EntryRecord → Bool
entry_fits e = in_range e.value

unfoldable pub entries_fit : ℕ → List EntryRecord → Bool
entries_fit K es = rising K 0 (map entry_key es) && all entry_fits es

unfoldable pub message_fits : ℕ → MessageRecord → Bool
message_fits K m = leb m.entry_count K && entries_fit K (take m.entry_count m.entries)

unfoldable pub letter_fits : Form → ℕ → Bool
letter_fits f b = eqb b f.low || (eqb b f.high || (f.owners && eqb b letter_b))

-- the counts, before anything that they cover: none is above its places then
unfoldable pub counts_fit : JobRecord → Bool
counts_fit r =
    let f = form_of r.form in
    between 1 forms r.form
    && (between 1 f.keys r.keys
    && (leb r.secret_count r.keys
    && (between 1 f.commands r.command_count
    && (leb r.message_count f.messages
    && between 1 f.letters r.letter_count))))

unfoldable pub passes : JobRecord → Bool
passes r =
    counts_fit r
    && (secrets_fit (form_of r.form).owners r.keys (take r.secret_count r.secrets)
    && (all (command_fits r.keys r.command_count) (take r.command_count r.commands)
    && (all (message_fits r.keys) (take r.message_count r.messages)
    && all (letter_fits (form_of r.form)) (take r.letter_count r.letters))))

-- ---- The job of a record

-- values at their keys, where at first there is the same at every key
unfoldable pub enters_all : {A : Type 0} → (ℤ → A) → List A → List (ℕ × ℤ) → List A
enters_all f xs [] = xs
enters_all f xs (kv ∷ ps) = enters_all f (set xs kv.0 (f kv.1)) ps

-- secrets at their keys
abbrev pub owner_of : ℕ → Owner
owner_of n = cond (eqb n letter_b) B A

abbrev pub key_of : SecretRecord → Key
key_of s = Secret (owner_of s.owner) s.dummy

unfoldable pub hides : List Key → List SecretRecord → List Key
hides xs [] = xs
hides xs (s ∷ ss) = hides (set xs s.key (key_of s)) ss

abbrev pub entry_pair : EntryRecord → ℕ × ℤ
entry_pair e = (e.key, e.value)

-- the keys, the command and the entries that the numbers stand for
unfoldable pub keys_of : ℕ → List SecretRecord → List Key
keys_of K ss = hides (replicate K Open) ss

unfoldable pub command_of : CommandRecord → Command
command_of c = record { op = (row_at c.word).op; v = c.v; w = c.w; k = c.k; t = c.t; n = c.n }

unfoldable pub entries_of : ℕ → MessageRecord → List Entry
entries_of K m = enters_all Number (replicate K Absent) (map entry_pair (take m.entry_count m.entries))

unfoldable pub job_in : JobRecord → Job
job_in r =
    record {
      form = r.form;
      keys = keys_of r.keys (take r.secret_count r.secrets);
      commands = map command_of (take r.command_count r.commands);
      messages = map (entries_of r.keys) (take r.message_count r.messages);
      turns = map level_of (take r.letter_count r.letters);
    }

-- the text of a record: the sheet of its job
abbrev pub text_of : JobRecord → List ℕ
text_of r = sheet_text (job_in r)

-- ---- The record of a job

abbrev pub owner_number : Bool → Owner → ℕ
owner_number false o = 0
owner_number true A = letter_a
owner_number true B = letter_b

abbrev pub secret_record : Bool → ℕ → Owner → ℤ → SecretRecord
secret_record two k o d = record { key = k; dummy = d; owner = owner_number two o }

abbrev pub entry_record : ℕ × ℤ → EntryRecord
entry_record kv = record { key = kv.0; value = kv.1 }

-- of the secret keys from key k on
unfoldable pub records_from : Bool → ℕ → List Key → List SecretRecord
records_from two k [] = []
records_from two k (Open ∷ ks) = records_from two (suc k) ks
records_from two k (Secret o d ∷ ks) = secret_record two k o d ∷ records_from two (suc k) ks

abbrev pub secret_records : Bool → List Key → List SecretRecord
secret_records two ks = records_from two 0 ks

unfoldable pub command_record : Command → CommandRecord
command_record c = record { word = place_of c.op; v = c.v; w = c.w; k = c.k; t = c.t; n = c.n }

unfoldable pub entry_records : List Entry → List EntryRecord
entry_records es = map entry_record (pairs 0 es)

-- over an old record: what the counts do not cover is as it was, in a message too
unfoldable pub message_over : List Entry → MessageRecord → MessageRecord
message_over es m = record { entry_count = length (entry_records es); entries = front m.entries (entry_records es) }

unfoldable pub messages_over : List (List Entry) → List MessageRecord → List MessageRecord
messages_over [] rs = rs
messages_over (es ∷ ms) [] = []
messages_over (es ∷ ms) (r ∷ rs) = message_over es r ∷ messages_over ms rs

unfoldable pub record_over : Job → JobRecord → JobRecord
record_over j r =
    record {
      form = j.form;
      keys = length j.keys;
      secret_count = length (secret_records (form_of j.form).owners j.keys);
      secrets = front r.secrets (secret_records (form_of j.form).owners j.keys);
      command_count = length j.commands;
      commands = front r.commands (map command_record j.commands);
      message_count = length j.messages;
      messages = messages_over j.messages r.messages;
      letter_count = length j.turns;
      letters = front r.letters (map (letter_of (form_of j.form)) j.turns);
    }
