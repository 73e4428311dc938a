-- The bytes that stand for calls, computed: 0, the one behind it, and the last.
use Rattle.std.proofs.Common.{◌≡◌, refl}
use Rattle.model.specs.declared.Call.TheVariants.{Receives, Sends}
use Rattle.run_verdict.specs.Verdict.{kind_of}

pub bytes-of-calls : (kind_of 0 ≡ Receives) × (kind_of 1 ≡ Sends) × (kind_of 255 ≡ Sends)
bytes-of-calls = (refl, refl, refl)
