-- What is written for a text with blocks, case by case.
use Prim.Native.Nat.{ℕ, ◌<◌, ◌≤◌}
use mathlib.Core.Path.{◌≡◌, refl, ap, ◌∙◌}
use mathlib.Core.List.{List}
use lib.ListN.{length}
use borrow.Author.Tests.{le-leb, lt-leb}
use Rattle.model.specs.{Limits.most_commands, Placed.front, Written.Draft, Written.written, Written.untouched, Written.write}
use Rattle.model.specs.Written as Written
use Rattle.model.proofs.Written.{write-refused, write-fits, write-short}
use Rattle.model_text.specs.Text.{command_lines}
use Rattle.model_blocks.specs.{Block.Block, Block.places, Block.commands_of, Dialect.BlocksRead, Dialect.tree, Dialect.refused, Dialect.read_blocks, Dialect.draft, Dialect.write_blocks}

module _ (K : ℕ) (s m : List ℕ) where
  drafted : (r : BlocksRead) → read_blocks K s ≡ r → (d : Draft) → draft r ≡ d → write_blocks K s m ≡ write 53 m d
  unfolding write_blocks
  drafted r e d f = ap (λ (x : BlocksRead). write 53 m (draft x)) e ∙ ap (write 53 m) f

  pub when-refused : (n l : ℕ) → read_blocks K s ≡ refused n l → write_blocks K s m ≡ untouched n l m
  when-refused n l e = drafted (refused n l) e (Written.refused n l) refl ∙ write-refused 53 m n l

  module _ (b : Block) (e : read_blocks K s ≡ tree b) where
    pub when-many : most_commands < places b → write_blocks K s m ≡ untouched 53 0 m
    when-many h = drafted (tree b) e (Written.refused 53 0) (rw (lt-leb _ _ h)) ∙ write-refused 53 m 53 0

    module _ (few : places b ≤ most_commands) where
      lines : write_blocks K s m ≡ write 53 m (Written.text (command_lines (commands_of b)))
      lines = drafted (tree b) e (Written.text (command_lines (commands_of b))) (rw (le-leb _ _ few))

      pub when-short : length m < length (command_lines (commands_of b)) → write_blocks K s m ≡ untouched 53 0 m
      when-short h = lines ∙ write-short 53 m (command_lines (commands_of b)) h

      pub when-fits : length (command_lines (commands_of b)) ≤ length m
          → write_blocks K s m ≡ written (record { number = 0; line = 0; bytes = length (command_lines (commands_of b)) }) (front m (command_lines (commands_of b)))
      when-fits h = lines ∙ write-fits 53 m (command_lines (commands_of b)) h
