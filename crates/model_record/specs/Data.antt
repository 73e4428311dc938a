-- The plain data of src/lib.rt, passed on under one name.
pub use Rattle.model_record.specs.declared.SecretRecord.{SecretRecord}
pub use Rattle.model_record.specs.declared.CommandRecord.{CommandRecord}
pub use Rattle.model_record.specs.declared.EntryRecord.{EntryRecord}
pub use Rattle.model_record.specs.declared.MessageRecord.{MessageRecord}
pub use Rattle.model_record.specs.declared.JobRecord.{JobRecord}
