-- Every claim, by document and Note, in the papers' order: a record for each, in it a field for each claim, with
-- what it says above it. The name before a dot is a module of specs/ in the crate that its `use` line names, where
-- the claim stands in full; those without a dot are of this crate, of what the C entries return and leave.
-- proofs/Index.antt has each of them proved, and the gate sees that none is missing here.
use Rattle.std.specs.Prelude.{ℕ}
use Rattle.model.specs.Form as Form
use Rattle.model.specs.Accepted as Accepted
use Rattle.model.specs.Classes as Classes
use Rattle.model.specs.Written as Written
use Rattle.model.specs.Owners as OwnersRead
use Rattle.model.specs.{Job.Job}
use Rattle.model_run.specs.Secrecy as Secrecy
use Rattle.model_run.specs.Counted as Counted
use Rattle.model_run.specs.Examples as Examples
use Rattle.model_run.specs.Witness as Witness
use Rattle.model_run.specs.CallKinds as CallKinds
use Rattle.model_run.specs.Clamped as Clamped
use Rattle.model_run.specs.Honest as Honest
use Rattle.model_run.specs.HonestExamples as HonestExamples
use Rattle.model_run.specs.Owners as Owners
use Rattle.model_text.specs.Pasted as Pasted
use Rattle.model_text.specs.Examples as TextExamples
use Rattle.model_log.specs.Claims as LogClaims
use Rattle.model_log.specs.Examples as LogExamples
use Rattle.model_blocks.specs.Agreement as Agreement
use Rattle.model_blocks.specs.Claims as BlockClaims
use Rattle.model_blocks.specs.Examples as BlockExamples
use Rattle.model_sheet.specs.Claims as SheetClaims
use Rattle.model_sheet.specs.Examples as SheetExamples
use Rattle.model_record.specs.Claims as RecordClaims
use Rattle.model_record.specs.Examples as RecordExamples
use Rattle.model_change.specs.Claims as ChangeClaims
use Rattle.model_forms.specs.Claims as FormClaims
use Rattle.model_forms.specs.Examples as FormExamples
use Rattle.claims.specs.Demands.{Demand1Holds, Demand2Holds, Demand3Holds, SeventhHolds, HonestSendsHolds, Telling, HonestTelling, OwnersTelling}
use Rattle.claims.specs.Log.{LogWrittenHolds, LogTelling}
use Rattle.claims.specs.Blocks.{BlocksWrittenHolds, BlocksTelling}
use Rattle.claims.specs.Record.{SheetWrittenHolds, RecordReadHolds, SavedThenOpened, OpenedThenSaved, SavedRuns, RecordTelling}
use Rattle.claims.specs.Change.{SheetChangedHolds, RefusedAlone, ChangedRuns}
use Rattle.claims.specs.Forms.{FormTurnedHolds, FormRefusedAlone, FormsTelling}

-- ---- Document 01

pub record Document01 : Type 0 where
  -- Demand 1: what any sheet at all leaves in the output memory, and what a faulty one gets
  pub demand1 : Demand1Holds
  -- Demand 2: the answer, the return and the output memory are the paired model's
  pub demand2 : Demand2Holds
  -- Demand 3: two accepted sheets that differ in secret entries only are the same outside the secret columns; of one
  -- owner's entries and columns, and of both owners'
  pub demand3 : Demand3Holds
  -- calls of which the demands speak, and what demand 3 shuts out
  pub calls : Telling
  -- demand 3 over jobs, and over sheets as texts
  pub secrecy : Secrecy.JobsSecret
  pub sheet_secrecy : Secrecy.SheetsSecret
  -- two sheets to which demand 3 applies, and whose outputs differ
  pub telling : Witness.Telling
  -- what each count of a run is, and the bounds of the counts; runs that reach them
  pub counts : (j : Job) (lent : ℕ) → Counted.Counted j lent
  pub bounds : Witness.BoundsReached
  -- an accepted job is within the limits and has no operand that a word lacks; keys rise
  pub accepted : Accepted.AcceptedSound
  pub keys_rise : Accepted.KeysRise
  pub no_target : Witness.StopHasNoTarget
  -- every form of sheets fits what a job has room for
  pub forms : Form.EveryFormFits
  -- P1 to P11
  pub examples : Examples.AllHold Examples.list

-- ---- Document 02, Note 1: messages out of the belt log

pub record Note1 : Type 0 where
  -- of what `pavebox_csv` returns and leaves: refusals, the lines, enough memory
  pub calls : LogWrittenHolds
  pub telling : LogTelling
  -- every text that is written into lent memory is written whole or not at all; the lines of an export so
  pub writes : Written.AlwaysWrites
  pub whole_or_nothing : LogClaims.WholeOrNothing
  -- no byte of an export is passed over, and the messages hold exactly the fields that are not empty
  pub rows : LogClaims.RowsWhole
  pub fields : LogClaims.FieldsWhole
  pub loses_nothing : LogClaims.LosesNothing
  -- the refusals are 8, 41 and 42 with their rows, and depend on the export alone
  pub only_these : LogClaims.OnlyThese
  pub export_alone : LogClaims.ExportAlone
  -- message lines, and those of an export, put into a sheet are read as those messages
  pub pasted : Pasted.Pasted
  pub log_pasted : LogClaims.LogPasted
  pub in_smallest : LogClaims.LogInSmallest
  -- the longest message line; with 3,712 bytes 43 never comes
  pub lines_short : Pasted.LinesShort
  pub short : LogClaims.LogShort
  pub examples : TextExamples.AllHold LogExamples.list

-- ---- Document 02, Note 2: a high execution at the wrong call

pub record Note2 : Type 0 where
  -- a high call moves on exactly if the low call of its number has been made and was of its kind
  pub moves_on : CallKinds.AlwaysMovesOn
  -- the kinds that are kept are those of all low calls
  pub kept : CallKinds.AlwaysKept
  -- at a call of the other kind an execution idles, from any state and for the rest of the run
  pub idles_on : CallKinds.IdlesOn
  pub idles : CallKinds.AlwaysIdles
  -- by whatever rule an owner's execution goes, only its columns can tell; by whatever rule both go, only secret ones
  pub theirs : CallKinds.OnlyTheirs
  pub columns : CallKinds.OnlySecretColumns
  pub sheet_columns : CallKinds.OnlySecretColumnsOfSheets
  pub makers_sheet : CallKinds.MakersSheet
  pub examples : Examples.AllHold CallKinds.examples

-- ---- Document 02, Note 3: tell us when a speed was clamped

pub record Note3 : Type 0 where
  -- of what `pavebox_run` leaves: the seventh number. (That it is never above the low steps: `Document01.counts`.)
  pub seventh : SeventhHolds
  -- what a command says of its exact result is so
  pub says : Clamped.AlwaysSays
  -- a result lay outside exactly where another number is stored; at the ends of the range; of the quotients one
  pub clamps : Clamped.AlwaysClamps
  pub ends : Clamped.AtTheEnds
  pub quotient : Clamped.OneQuotient
  -- the high execution's clamped results are told nowhere
  pub high_untold : Clamped.HighUntold
  pub examples : Examples.AllHold Clamped.examples

-- ---- Document 02, Note 4: honest programs lose nothing

pub record Note4 : Type 0 where
  -- of what `pavebox_run` leaves, of jobs, and of sheets as texts: the lines are the plain run's
  pub calls : HonestSendsHolds
  pub telling : HonestTelling
  pub loses_nothing : Honest.HonestLosesNothing
  pub sheets : Honest.HonestSheetLosesNothing
  -- N of an accepted sheet is from 1 to 512
  pub pairs : Honest.PairsWithin
  -- an honest program that sends secrets, one that is honest so far, and for each weaker hypothesis one that is spoilt
  pub honest : HonestExamples.HonestExample
  pub before : HonestExamples.OrderBefore
  pub spoilt : HonestExamples.AllSpoilt

-- ---- Document 02, Note 5: programs with blocks

pub record Note5 : Type 0 where
  -- of what `pavebox_blocks` returns and leaves: refusals, the lines, enough memory, the sheet that they make
  pub calls : BlocksWrittenHolds
  pub telling : BlocksTelling
  -- every plain run of the translation agrees with the program step by step; of the program of a text
  pub step_by_step : Agreement.StepByStep
  pub text_agrees : BlockClaims.TextAgrees
  -- what is read is a program within its limits, no line is passed over, and no such program is refused
  pub well_read : BlockClaims.WellRead
  pub lines_kept : BlockClaims.LinesKept
  pub every_program : BlockClaims.EveryProgram
  -- 6 and 4 as in `do` lines; the words that the dialect lacks
  pub as_in_do_lines : BlockClaims.AsInDoLines
  pub left_out : BlockClaims.LeftOut
  -- the refusals are these, depend on K and the text alone, and 53 comes after them
  pub only_these : BlockClaims.OnlyThese
  pub text_alone : BlockClaims.TextAlone
  pub limit_last : BlockClaims.LimitLast
  -- as many commands as places, each one of a sheet with K keys
  pub places : BlockClaims.CountIsPlaces
  pub within : BlockClaims.CommandsWithin
  -- written whole or not at all; the longest command line; with 1,344 bytes memory is never too little
  pub whole_or_nothing : BlockClaims.WholeOrNothing
  pub lines_short : Pasted.CommandLinesShort
  pub short : BlockClaims.BlocksShort
  pub enough : BlockClaims.Enough
  -- command lines, and those of a program, put into a sheet are read as those commands
  pub pasted : Pasted.ProgramPasted
  pub blocks_pasted : BlockClaims.BlocksPasted
  pub in_smallest : BlockClaims.BlocksInSmallest
  -- texts with what they give, programs with what they do step by step
  pub examples : TextExamples.AllHold BlockExamples.list
  pub courses : BlockExamples.AllGo BlockExamples.courses

-- ---- Document 02, Note 6: less read-only memory

pub record Note6 : Type 0 where
  -- the classes at the ends of their ranges, and how many bytes have each
  pub classes : Classes.ClassesTold

-- ---- Document 02, Note 7: save the sheet from the screen

pub record Note7 : Type 0 where
  -- of what `pavebox_write` and `pavebox_read` return and leave, one by one and one after the other
  pub saved : SheetWrittenHolds
  pub opened : RecordReadHolds
  pub saved_then_opened : SavedThenOpened
  pub opened_then_saved : OpenedThenSaved
  -- the saved sheet runs, through `pavebox_run`, as the record's job does
  pub saved_runs : SavedRuns
  pub telling : RecordTelling
  -- of sheets and jobs: a sheet says a job exactly if the job is sound and the sheet is its text
  pub reads_back : SheetClaims.ReadsBack
  pub writes_back : SheetClaims.WritesBack
  pub exactly : SheetClaims.Exactly
  pub sheet_short : SheetClaims.Short
  pub sheets : SheetExamples.AllHold SheetExamples.list
  -- of sheets and records: written and read, read and written, one to one
  pub written_then_read : RecordClaims.WrittenThenRead
  pub read_then_written : RecordClaims.ReadThenWritten
  pub one_to_one : RecordClaims.OneToOne
  -- 54 exactly if no accepted sheet has this record; what stands beyond the counts changes nothing; 6,270 bytes
  pub refused_exactly : RecordClaims.RefusedExactly
  pub beyond_counts : RecordClaims.BeyondCounts
  pub short : RecordClaims.Short
  pub runs_alike : RecordClaims.RunsAlike
  -- sheet A's record and that of a sheet of two owners, and 36 more
  pub worked : RecordExamples.Worked
  pub examples : RecordExamples.AllHold RecordExamples.list
  pub of_two : RecordExamples.AllHold RecordExamples.of_two

-- ---- Document 02, Note 8: two owners of secrets. (The secrecy rule "for either owner by one proof":
-- `Document01.demand3`.)

pub record Note8 : Type 0 where
  -- calls with sheets of two owners: demand 3 for B and for both, and what it does not say
  pub calls : OwnersTelling
  -- exactly which numbers of forms, owners and letters are read, and what the others get
  pub forms : OwnersRead.FormsTold
  pub owners : OwnersRead.OwnersTold
  pub letters : OwnersRead.LettersTold
  -- each execution reads and changes its own fields
  pub fields : OwnersRead.FieldsApart
  -- sheets of both forms that are accepted, those that are refused in the order of the tests, and the limits
  pub accepts : OwnersRead.AllHold OwnersRead.accepts
  pub refuses : OwnersRead.AllHold OwnersRead.refuses
  pub limits : OwnersRead.AllHold OwnersRead.limits
  -- what each execution sees of a message line, what with no line left, and whose column is whose
  pub sees : Owners.AlwaysSees
  pub no_line_left : Owners.NoLineLeft
  pub shows : Owners.AlwaysShows
  -- `sheet=1` runs as before: no run looks at the form, nor at the execution of an owner without keys, as B is there
  pub runs_alike : Owners.RunsAlike
  pub not_looked_at : Owners.NotLookedAt
  pub one_owner : Owners.OneOwner
  -- runs of three executions; sheets that differ in B's entry and in entries of both
  pub examples : Examples.AllHold Owners.examples
  pub telling_b : Owners.TellingB
  pub telling_both : Owners.TellingBoth

-- ---- Note 9, "Old sheets to new and back"

pub record Note9 : Type 0 where
  -- what each call of `pavebox_to_sheet2` and `pavebox_to_sheet1` returns and leaves; calls of which this speaks
  pub calls : FormTurnedHolds
  pub telling : FormsTelling
  -- but for 49, a refusal is the sheet's alone
  pub alone : FormRefusedAlone
  -- the same of every entry that makes a sheet of a sheet: what is refused, and what is written; that but for too
  -- little memory a refusal is the sheet's alone; that what was written runs as the sheet does, where a job does
  pub changes : SheetChangedHolds
  pub refused_alone : RefusedAlone
  pub changed_runs : ChangedRuns
  -- over sheets as texts; and the numbers with which a sheet may be refused on reading
  pub always_changes : ChangeClaims.AlwaysChanges
  pub always_runs_same : ChangeClaims.AlwaysRunsSame
  pub refusals : ChangeClaims.RefusalsTold
  -- over jobs: a sound one stays sound, runs as it did and comes back; exactly which get 48 and 47; every one of the
  -- first form converts; one of the second goes back exactly if the first form can say it
  pub keeps : FormClaims.AlwaysKeeps
  pub jobs_run : FormClaims.JobsRunSame
  pub jobs_back : FormClaims.JobsTurnBack
  pub gets : FormClaims.AlwaysGets
  pub turns : FormClaims.AlwaysTurns
  pub unsayable : FormClaims.Unsayable
  -- over sheets as texts: both forms run to the same bytes and numbers; back to the first bytes; the bytes, and the
  -- memory that is enough; that every `sheet=1` converts; exactly which sheets get 48, 47 and 49; what becomes of each
  -- line
  pub runs : FormClaims.RunsSame
  pub back : FormClaims.TurnsBack
  pub sized : FormClaims.AlwaysSized
  pub converts : FormClaims.AlwaysConverts
  pub answers : FormClaims.AlwaysAnswers
  pub lines : FormClaims.LineByLine
  -- sheets turned and refused
  pub examples : FormExamples.Examples

-- ---- All of them

pub record Index : Type 0 where
  pub document01 : Document01
  pub note1 : Note1
  pub note2 : Note2
  pub note3 : Note3
  pub note4 : Note4
  pub note5 : Note5
  pub note6 : Note6
  pub note7 : Note7
  pub note8 : Note8
  pub note9 : Note9
