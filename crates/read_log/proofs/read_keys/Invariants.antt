-- The fields that are left, behind the keys that the array holds, give what the whole row gives.
use Rattle.std.proofs.Common.{◌≡◌, ◌≤◌, length, take, drop}
use Rattle.model.specs.{Text.comma, Text.split}
use Rattle.model_log.specs.Log.{key_count, key_numbers}
use Rattle.read_log.specs.Log.{KeysHeld}
use Rattle.read_log.proofs.Fields.{behind}
use Rattle.read_log.proofs.read_keys.Given as goal

abbrev pub invariant-loop-part : goal.invariant-loop-part
invariant-loop-part l =
    record {
      few : l.count ≤ l.next;
      within : l.next ≤ key_count;
      all : length l.keys ≡ key_count;
      held : KeysHeld (take l.count l.keys);
      same : behind (take l.count l.keys) (key_numbers l.next (drop (length l.yielded) (split comma l.t))) ≡ key_numbers 0 (split comma l.t);
    }
