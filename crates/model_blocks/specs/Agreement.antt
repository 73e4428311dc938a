-- "A test or jump counts one step in the dialect's own meaning, so every plain run of the translation agrees with it step by step."
use Rattle.std.specs.Prelude.{ℕ, ◌≡◌, true}
use Rattle.model_run.specs.{Process.stopped, Plain.PlainJob, Plain.plain_at, Plain.call_at_step, Plain.entries_at_step}
use Rattle.model_blocks.specs.Block.{Block, empty, own, if_only, if_else, while, way_of, allowed, commands_of}
use Rattle.model_blocks.specs.Meaning.{BlockJob, block_at, block_stopped, block_call, block_entries}

-- every command that a tree has of its own is one of the dialect
abbrev pub InDialect : Block → Type 0
InDialect empty = Unit {0}
InDialect (own c b) = (allowed (way_of c.op) ≡ true) × InDialect b
InDialect (if_only v a b) = InDialect a × InDialect b
InDialect (if_else v a o b) = InDialect a × InDialect o × InDialect b
InDialect (while v a b) = InDialect a × InDialect b

-- the plain run of a program's translation
abbrev pub translated : BlockJob → PlainJob
translated j = record { keys = j.keys; commands = commands_of j.program; messages = j.messages }

-- Before step s the plain run of the translation has the same variables and fields, counts the same calls and clamped results, has the same message lines to
-- receive, and has stopped or not; at step s it makes the same call or none, and receives or sends the same entries.
pub record Agrees (j : BlockJob) (s : ℕ) : Type 0 where
  pub variables : (plain_at (translated j) s).process.execution.vars ≡ (block_at j s).state.process.execution.vars
  pub fields : (plain_at (translated j) s).process.fields ≡ (block_at j s).state.process.fields
  pub calls : (plain_at (translated j) s).process.execution.calls ≡ (block_at j s).state.process.execution.calls
  pub clamped : (plain_at (translated j) s).process.execution.clamped ≡ (block_at j s).state.process.execution.clamped
  pub rest : (plain_at (translated j) s).rest ≡ (block_at j s).state.rest
  pub stops : stopped (commands_of j.program) (plain_at (translated j) s).process ≡ block_stopped j s
  pub call : call_at_step (translated j) s ≡ block_call j s
  pub entries : entries_at_step (translated j) s ≡ block_entries j s

-- for every program, every number of keys, every list of messages and any number of steps
abbrev pub StepByStep : Type 0
StepByStep = (j : BlockJob) → InDialect j.program → (s : ℕ) → Agrees j s
