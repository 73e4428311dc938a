-- What has room in a stored command.
use Rattle.std.specs.Prelude.{◌<◌, length}
use Rattle.model.specs.Command.{table}
use Rattle.model_record.specs.declared.CommandRecord.{CommandRecord}

-- a command whose operands have room in a stored one
pub record Narrow (c : CommandRecord) : Type 0 where
  pub word : c.word < length table
  pub v : c.v < 256
  pub w : c.w < 256
  pub k : c.k < 256
