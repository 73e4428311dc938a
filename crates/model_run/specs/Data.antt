-- The plain data of `model`, passed on under one name.
pub use Rattle.model.specs.declared.Entry.{Entry}
pub use Rattle.model.specs.declared.Entry.TheVariants.{Absent, Number}
pub use Rattle.model.specs.declared.Owner.{Owner}
pub use Rattle.model.specs.declared.Owner.TheVariants.{A, B}
pub use Rattle.model.specs.declared.Key.{Key}
pub use Rattle.model.specs.declared.Key.TheVariants.{Open, Secret}
pub use Rattle.model.specs.declared.Op.{Op}
pub use Rattle.model.specs.declared.Op.TheVariants.{Set, Add, Sub, Mul, Div, Read, Has, Put, Drop, IfNeg, IfZero, Jump, Receive, Send, Stop}
pub use Rattle.model.specs.declared.Command.{Command}
pub use Rattle.model.specs.declared.Call.{Call}
pub use Rattle.model.specs.declared.Call.TheVariants.{Neither, Receives, Sends}
pub use Rattle.model.specs.declared.Computed.{Computed}
pub use Rattle.model.specs.declared.Level.{Level}
pub use Rattle.model.specs.declared.Level.TheVariants.{Low, High}
pub use Rattle.model.specs.declared.Execution.{Execution}
pub use Rattle.model.specs.declared.Effect.{Effect}
pub use Rattle.model.specs.declared.Clock.{Clock}
pub use Rattle.model.specs.declared.Ending.{Ending}
pub use Rattle.model.specs.declared.Ending.TheVariants.{Stopped, LettersUsed, NoRoom}
pub use Rattle.model.specs.declared.Counts.{Counts}
pub use Rattle.model.specs.RunAnswer.{Answer, Ended, Refused}
