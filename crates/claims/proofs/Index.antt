-- Every claim of the index, proved.
use Rattle.model.proofs.{Forms.every-form-fits, Accepted.accepted-sound, Accepted.keys-rise, Classes.classes-told, Written.always-writes}
use Rattle.model_run.proofs.Secrecy as Secrecy
use Rattle.model_run.proofs.Examples as Examples
use Rattle.model_run.proofs.Witness as Witness
use Rattle.model_run.proofs.CallKinds as CallKinds
use Rattle.model_run.proofs.Clamped as Clamped
use Rattle.model_run.proofs.Honest as Honest
use Rattle.model_run.proofs.{Counted.counts_of}
use Rattle.model_run.proofs.HonestExamples as HonestExamples
use Rattle.model_run.proofs.Owners as Owners
use Rattle.model.proofs.Owners as OwnersRead
use Rattle.model_text.proofs.{Pasted.pasted, Replaced.program-pasted, Short.lines-short, Short.command-lines-short}
use Rattle.model_log.proofs.Rows as LogRows
use Rattle.model_log.proofs.Refusals as LogRefusals
use Rattle.model_log.proofs.Lines as LogLines
use Rattle.model_log.proofs.Examples as LogExamples
use Rattle.model_log.proofs.{Held.loses-nothing}
use Rattle.model_blocks.proofs.DoLines as DoLines
use Rattle.model_blocks.proofs.Read as BlockRead
use Rattle.model_blocks.proofs.Refusals as BlockRefusals
use Rattle.model_blocks.proofs.Sheet as BlockSheet
use Rattle.model_blocks.proofs.Within as Within
use Rattle.model_blocks.proofs.{Agreement.step-by-step, Texts.every-program}
use Rattle.model_blocks.proofs.Examples as BlockExamples
use Rattle.model_sheet.proofs.Sheet as SheetText
use Rattle.model_sheet.proofs.Short as SheetShort
use Rattle.model_sheet.proofs.Examples as SheetExamples
use Rattle.model_record.proofs.Record as RecordText
use Rattle.model_record.proofs.Examples as RecordExamples
use Rattle.model_change.proofs.Change as ChangeLaws
use Rattle.model_change.proofs.{Told.refusals-told}
use Rattle.model_forms.proofs.Forms as FormJobs
use Rattle.model_forms.proofs.Sheets as FormSheets
use Rattle.model_forms.proofs.Examples as FormExamples
use Rattle.claims.proofs.Demands as Demands
use Rattle.claims.proofs.Log as Log
use Rattle.claims.proofs.Blocks as Blocks
use Rattle.claims.proofs.Record as Record
use Rattle.claims.proofs.Change as Change
use Rattle.claims.proofs.Forms as Forms
use Rattle.claims.specs.Index.{Document01, Note1, Note2, Note3, Note4, Note5, Note6, Note7, Note8, Note9, Index}

pub document-01 : Document01
document-01 =
    record {
      demand1 = Demands.demand-1;
      demand2 = Demands.demand-2;
      demand3 = Demands.demand-3;
      calls = Demands.telling;
      secrecy = Secrecy.secrecy;
      sheet_secrecy = Secrecy.sheet-secrecy;
      telling = Witness.telling;
      counts = counts_of;
      bounds = Witness.bounds-reached;
      accepted = accepted-sound;
      keys_rise = keys-rise;
      no_target = Witness.stop-has-no-target;
      forms = every-form-fits;
      examples = Examples.examples;
    }

pub note-1 : Note1
note-1 =
    record {
      calls = Log.log-written;
      telling = Log.log-telling;
      writes = always-writes;
      whole_or_nothing = LogLines.whole-or-nothing;
      rows = LogRows.rows_whole;
      fields = LogRows.fields-whole;
      loses_nothing = loses-nothing;
      only_these = LogRefusals.only-these;
      export_alone = LogRefusals.export-alone;
      pasted = pasted;
      log_pasted = LogLines.log-pasted;
      in_smallest = LogLines.log-in-smallest;
      lines_short = lines-short;
      short = LogLines.log-short;
      examples = LogExamples.examples;
    }

pub note-2 : Note2
note-2 =
    record {
      moves_on = CallKinds.always-moves-on;
      kept = CallKinds.always-kept;
      idles_on = CallKinds.idles-on;
      idles = CallKinds.always-idles;
      theirs = CallKinds.only-theirs;
      columns = CallKinds.only-secret-columns;
      sheet_columns = CallKinds.only-secret-columns-of-sheets;
      makers_sheet = CallKinds.makers-sheet;
      examples = CallKinds.texts;
    }

pub note-3 : Note3
note-3 =
    record {
      seventh = Demands.seventh;
      says = Clamped.always-says;
      clamps = Clamped.always-clamps;
      ends = Clamped.at-the-ends;
      quotient = Clamped.one-quotient;
      high_untold = Clamped.high-untold;
      examples = Clamped.texts;
    }

pub note-4 : Note4
note-4 =
    record {
      calls = Demands.honest-sends;
      telling = Demands.honest-telling;
      loses_nothing = Honest.honest-loses-nothing;
      sheets = Honest.honest-sheet-loses-nothing;
      pairs = Honest.pairs-within;
      honest = HonestExamples.honest-example;
      before = HonestExamples.order-before;
      spoilt = HonestExamples.all-spoilt;
    }

pub note-5 : Note5
note-5 =
    record {
      calls = Blocks.blocks-written;
      telling = Blocks.blocks-telling;
      step_by_step = step-by-step;
      text_agrees = BlockRead.text-agrees;
      well_read = BlockRead.well-read;
      lines_kept = BlockRead.lines-kept;
      every_program = every-program;
      as_in_do_lines = DoLines.as-in-do-lines;
      left_out = DoLines.left_out;
      only_these = BlockRefusals.only-these;
      text_alone = BlockRefusals.text-alone;
      limit_last = BlockRefusals.limit-last;
      places = Within.count-is-places;
      within = Within.commands-within;
      whole_or_nothing = BlockSheet.whole-or-nothing;
      lines_short = command-lines-short;
      short = BlockSheet.blocks-short;
      enough = BlockRefusals.enough;
      pasted = program-pasted;
      blocks_pasted = BlockSheet.blocks-pasted;
      in_smallest = BlockSheet.blocks-in-smallest;
      examples = BlockExamples.examples;
      courses = BlockExamples.courses-go;
    }

pub note-6 : Note6
note-6 = record { classes = classes-told }

pub note-7 : Note7
note-7 =
    record {
      saved = Record.sheet-written;
      opened = Record.record-read;
      saved_then_opened = Record.saved-then-opened;
      opened_then_saved = Record.opened-then-saved;
      saved_runs = Record.saved-runs;
      telling = Record.record-telling;
      reads_back = SheetText.reads-back;
      writes_back = SheetText.writes-back;
      exactly = SheetText.exactly;
      sheet_short = SheetShort.short;
      sheets = SheetExamples.examples;
      written_then_read = RecordText.written-then-read;
      read_then_written = RecordText.read-then-written;
      one_to_one = RecordText.one-to-one;
      refused_exactly = RecordText.refused-exactly;
      beyond_counts = RecordText.beyond-counts;
      short = RecordText.short;
      runs_alike = RecordText.runs-alike;
      worked = RecordExamples.worked;
      examples = RecordExamples.examples;
      of_two = RecordExamples.of_two-hold;
    }

pub note-8 : Note8
note-8 =
    record {
      calls = Demands.owners-telling;
      forms = OwnersRead.forms-told;
      owners = OwnersRead.owners-told;
      letters = OwnersRead.letters-told;
      fields = OwnersRead.fields-apart;
      accepts = OwnersRead.reads;
      refuses = OwnersRead.gets;
      limits = OwnersRead.at-limits;
      sees = Owners.always-sees;
      no_line_left = Owners.no-line-left;
      shows = Owners.always-shows;
      runs_alike = Owners.runs-alike;
      not_looked_at = Owners.not-looked-at;
      one_owner = Owners.one-owner;
      examples = Owners.texts;
      telling_b = Owners.telling-b;
      telling_both = Owners.telling-both;
    }

pub note-9 : Note9
note-9 =
    record {
      calls = Forms.form-turned;
      telling = Forms.forms-telling;
      alone = Forms.form-refused-alone;
      changes = Change.sheet-changed;
      refused_alone = Change.refused-alone;
      changed_runs = Change.changed-runs;
      always_changes = ChangeLaws.always-changes;
      always_runs_same = ChangeLaws.always-runs-same;
      refusals = refusals-told;
      keeps = FormJobs.always-keeps;
      jobs_run = FormJobs.jobs-run-same;
      jobs_back = FormJobs.jobs-turn-back;
      gets = FormJobs.always-gets;
      turns = FormJobs.always-turns;
      unsayable = FormJobs.unsayable;
      runs = FormSheets.runs_same;
      back = FormSheets.turns-back;
      sized = FormSheets.always-sized;
      converts = FormSheets.always-converts;
      answers = FormSheets.always-answers;
      lines = FormSheets.by_lines;
      examples = FormExamples.examples;
    }

pub index : Index
index =
    record {
      document01 = document-01;
      note1 = note-1;
      note2 = note-2;
      note3 = note-3;
      note4 = note-4;
      note5 = note-5;
      note6 = note-6;
      note7 = note-7;
      note8 = note-8;
      note9 = note-9;
    }
