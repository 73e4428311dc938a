-- Every definition that the reading of a sheet goes through.
use Rattle.model.specs.Text as Text
use Rattle.model.specs.Number as Number
use Rattle.model.specs.Command as Command
use Rattle.model.specs.Head as Head
use Rattle.model.specs.Pair as Pair
use Rattle.model.specs.Messages as Messages
use Rattle.model.specs.Turns as Turns
use Rattle.model.specs.Phase as Phase
use Rattle.model.specs.Program as Program
use Rattle.model.specs.Form as Form
use Rattle.model.specs.Sheet as Sheet
use Rattle.model.specs.Decimal as Decimal
use Rattle.model.specs.Placed as Placed
use Rattle.model.specs.Answer as Answer

unfoldable pub reading_opened : Unit {0}
unfolding Text.bytes Text.class_of Text.same Text.find Text.divide Text.split Text.init Text.lines Text.count
    Number.digits Number.natural Number.within Number.up_to Number.from_one Number.negative Number.positive Number.number
    Phase.after Phase.one Phase.many Phase.one_more
    Pair.pair Pair.part
    Head.sheet_line Head.keys_line Head.apart Head.owner Head.secret Head.secret_line Head.read_first Head.read_keys Head.read_secrets
    Command.table Command.operand Command.operands Command.row_of Command.by_row Command.words Command.read_command
    Program.read_commands
    Messages.parts Messages.message Messages.message_line Messages.read_messages
    Turns.letter Turns.letters Turns.turns_line Turns.read_turns
    Form.form_of
    Sheet.targets Sheet.read_body Sheet.read_lines Sheet.forbidden_line Sheet.closed Sheet.read_sheet
    Decimal.digits Decimal.width_to Decimal.width Decimal.natural Placed.front
    Answer.numbers_of Answer.spaced Answer.report
reading_opened = tt
