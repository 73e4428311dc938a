-- What is made of a sound job can be saved.
use Rattle.model_forms.specs.Forms.{turn}
use Rattle.model_forms.proofs.Forms.{always-keeps}
use Rattle.save_job.proofs.Laws.{comes-savable}
use Rattle.whole_forms.proofs.save_turned.Goals as goal

pub try_save_changed-requires : goal.try_save_changed-requires
try_save_changed-requires c = let a = c.args.asked in comes-savable (turn a) (always-keeps a) _ c.requires.0 _ c.turn-turned.ensures
