-- Each array by its own loop.
use Rattle.write_record.proofs.Laws.{record_is}
use Rattle.write_record.proofs.record_over.Goals as goal

pub returns : goal.returns
returns c =
    record_is c.args.job c.args.r.now c.requires.0 c.of-form.result c.of-form.ensures c.secrets_over-r.ensures c.commands_over.ensures c.messages_over.ensures c.letters_over.ensures
