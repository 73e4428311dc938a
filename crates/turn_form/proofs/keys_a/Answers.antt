-- The library's test of every element is the model's.
use mathlib.Core.Path.{◌∙◌}
use Rattle.std.proofs.Common.{rules, tests}
use Rattle.std.proofs.lemmas.Iterator.{YieldsList-from_slice}
use Rattle.std.proofs.lemmas.Iterator.Search.{all_from_yields_List}
use Rattle.model.specs.Stored.{key_in}
use Rattle.model.specs.declared.KeySlot.{KeySlot}
use Rattle.model_forms.specs.Forms.{key_a}
use Rattle.turn_form.proofs.Laws.{all-shown}
use Rattle.turn_form.proofs.keys_a.Goals as goal

pub returns : goal.returns
returns c =
    let xs = c.args.slots.now in
    all_from_yields_List (λ (s : KeySlot). key_a s.key) _ _ _ c.all.ensures.ran (YieldsList-from_slice xs cc) (λ x b q k. search (rules, tests))
    ∙ all-shown key_a key_in xs
