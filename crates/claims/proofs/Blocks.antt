-- The claims of Note 5, from the entry's contract and the theorems about its definitions.
use Prim.Native.Nat.{ℕ, ◌≤◌, ◌<◌}
use mathlib.Core.Path.{◌≡◌, refl, sym, ap, ◌∙◌}
use mathlib.Core.Logic.{⊎_elim}
use mathlib.Core.List.{List, ◌++◌}
use native.Mathlib.{Omega.arith, Decide.dec_lt}
use lib.{ListN.length, ListN.take, ListN.drop, Seq.take-append_seam}
use Rattle.model.specs.{Text.bytes, Limits.most_commands, Placed.front, Answer.entered, Answer.le32, Answer.all_le32, Sheet.accepted, Sheet.read_sheet, Written.Written}
use Rattle.model.specs.Written.{text_entry}
use Rattle.model.specs.declared.Entry.{Entry}
use Rattle.model_text.specs.Pasted.{with_commands}
use Rattle.model_blocks.specs.{Block.Block, Block.places, Block.commands_of, Dialect.BlocksRead, Dialect.tree, Dialect.refused, Dialect.read_blocks}
use Rattle.model_blocks.specs.{Dialect.write_blocks, Dialect.blocks_entry, Claims.most_block_bytes, Claims.least_head, Claims.least_tail, Claims.least_job, Claims.OfALine, Agreement.Agrees}
use Rattle.model_blocks.proofs.{Sheet.whole-or-nothing, Sheet.blocks-in-smallest, Cases.when-refused, Cases.when-many, Cases.when-short, Cases.when-fits, Refusals.only-these, Read.text-agrees, Examples.opened}
use Rattle.model_blocks.proofs.Refusals as Refusals
use Rattle.model_entry.specs.{Entry.Leaves, Texts.ThreeNumbers}
use Rattle.claims.specs.{Blocks.BlocksCalled, Blocks.program_lines, Blocks.BlocksWrittenHolds, Blocks.BlocksTelling}
use Rattle.model_entry.proofs.Texts.{text-answers, text-memory}

module _ {s : List ℕ} {K : ℕ} {o a : List ℕ} {r : ℕ} {o' a' : List ℕ} (c : BlocksCalled s K o a r o' a') where
  met : Leaves (text_entry o a (write_blocks K s o)) r o' a'
  unfolding blocks_entry
  met = c.met

  answers : {w : Written} → write_blocks K s o ≡ w → ThreeNumbers w.answer.number w.answer.line w.answer.bytes r a'
  answers e = text-answers o a (write_blocks K s o) c.sized met e

  memory : {w : Written} → write_blocks K s o ≡ w → o' ≡ w.memory
  memory e = text-memory o a (write_blocks K s o) c.sized met e

  refuses : (n l : ℕ) → read_blocks K s ≡ refused n l → ThreeNumbers n l 0 r a' × (o' ≡ o)
  refuses n l e = let w = when-refused K s o n l e in (answers w, memory w)

  module _ (b : Block) (e : read_blocks K s ≡ tree b) where
    many : most_commands < places b → ThreeNumbers 53 0 0 r a' × (o' ≡ o)
    many h = let w = when-many K s o b e h in (answers w, memory w)

    module _ (few : places b ≤ most_commands) where
      writes : length (program_lines b) ≤ length o → ThreeNumbers 0 0 (length (program_lines b)) r a' × (o' ≡ program_lines b ++ drop (length (program_lines b)) o)
      unfolding front
      writes h = let w = when-fits K s o b e few h in (answers w, memory w)

      lacks : length o < length (program_lines b) → ThreeNumbers 53 0 0 r a' × (o' ≡ o)
      lacks h = let w = when-short K s o b e few h in (answers w, memory w)

  enough : most_block_bytes ≤ length o → r ≡ 53 → (b : Block) × (read_blocks K s ≡ tree b) × (most_commands < places b)
  enough h is = Refusals.enough K s o h (sym (answers refl).0 ∙ is)

  -- none of the refusals is 0
  refused-not : (n l : ℕ) → read_blocks K s ≡ refused n l → n ≡ 0 → ⊥
  refused-not n l e z = ⊎_elim (λ k. omega (arith, k.0)) (λ k. line-not n k.0 z) (only-these K s n l e)
    where
      line-not : (n : ℕ) → OfALine n → n ≡ 0 → ⊥
      line-not n k z = ⊎_elim (λ x. omega arith) (λ k. ⊎_elim (λ x. omega arith) (λ k. ⊎_elim (λ x. omega arith) (λ k. ⊎_elim (λ x. omega arith) (λ x. omega arith) k) k) k) k

  module _ (z : r ≡ 0) where
    abbrev InSheet : Type 0
    InSheet =
        (b : Block) × (read_blocks K s ≡ tree b)
        × (read_sheet (least_head K ++ (take (length (program_lines b)) o' ++ least_tail)) ≡ accepted (with_commands (least_job K) (commands_of b)))
        × ((ms : List (List Entry)) (n : ℕ) → Agrees (record { keys = K; program = b; messages = ms }) n)

    stands : (b : Block) → read_blocks K s ≡ tree b → Dec (most_commands < places b) → Dec (length o < length (program_lines b)) → InSheet
    stands b e (yes h) x = absurd (omega (arith, (many b e h).0.0))
    stands b e (no h) (yes x) = absurd (omega (arith, (lacks b e (omega arith) x).0.0))
    stands b e (no h) (no x) =
        let few : places b ≤ most_commands = omega arith in
        let w = (writes b e few (omega arith)).1 in (
          b,
          e,
          ap (λ (l : List ℕ). read_sheet (least_head K ++ (l ++ least_tail))) (ap (take (length (program_lines b))) w ∙ take-append_seam (program_lines b) _)
              ∙ blocks-in-smallest K s b e few,
          text-agrees K s b e,
        )

    sheet : InSheet
    sheet = go (read_blocks K s) refl
      where
        go : (x : BlocksRead) → read_blocks K s ≡ x → InSheet
        go (tree b) e = stands b e (dec_lt most_commands (places b)) (dec_lt (length o) (length (program_lines b)))
        go (refused n l) e = absurd (refused-not n l e (sym (refuses n l e).0.0 ∙ z))

  size : length o' ≡ length o
  size = let w = whole-or-nothing K s o in ap length (memory w.0) ∙ w.1.size

pub blocks-written : BlocksWrittenHolds
blocks-written s K o a r o' a' c =
    record {
      refuses = refuses c;
      many = many c;
      lacks = lacks c;
      writes = writes c;
      enough = enough c;
      sheet = sheet c;
      size = size c;
    }

-- ---- The claim speaks of something

pub blocks-telling : BlocksTelling
unfolding opened bytes entered text_entry blocks_entry le32 all_le32
blocks-telling =
    record {
      called = λ s K lent. record { sized = refl; met = record { returns = refl; outputs = refl; answers = refl } };
      writes = refl;
      exact = refl;
      lacks = refl;
      refuses = refl;
    }
