-- Each shape of a row: its numbers are read within their limits, and the command is made of them.
use Rattle.std.proofs.Common.{◌∙◌, sym, rules}
use Rattle.model.proofs.Handed.{refused-handed}
use Rattle.read_command.proofs.Laws.{one-bound, two-bound, mapped-got, mapped-refused, alone-not, at-shape}
use Rattle.read_command.proofs.read_parts.Goals as goal

pub returns-in-Alone : goal.returns-in-Alone
returns-in-Alone c = sym (at-shape _ _ c.in-Alone.is _ ∙ alone-not _ _ _)

pub returns-in-VN : goal.returns-in-VN
returns-in-VN c = c.read_set.ensures ∙ sym (at-shape _ _ c.in-VN.is _)

pub command_of-requires : goal.command_of-requires
command_of-requires c = let b = one-bound _ _ _ (sym c.in_ok-k-in-K.ensures) in search rules

pub returns-in_err-k-in-K : goal.returns-in_err-k-in-K
returns-in_err-k-in-K c = refused-handed _ _ c.from_residual.ensures.1 ∙ mapped-refused _ _ (at-shape _ _ c.in-K.is _) (sym c.in_err-k-in-K.ensures)

pub returns-in_ok-k-in-K : goal.returns-in_ok-k-in-K
returns-in_ok-k-in-K c = mapped-got _ _ (at-shape _ _ c.in-K.is _) (sym c.in_ok-k-in-K.ensures) c.command_of.ensures

pub command_of-requires-in-T : goal.command_of-requires-in-T
command_of-requires-in-T c = let b = one-bound _ _ _ (sym c.in_ok-x-in-T.ensures) in search rules

pub returns-in_err-x-in-T : goal.returns-in_err-x-in-T
returns-in_err-x-in-T c = refused-handed _ _ c.from_residual-in_err-x-in-T.ensures.1 ∙ mapped-refused _ _ (at-shape _ _ c.in-T.is _) (sym c.in_err-x-in-T.ensures)

pub returns-in_ok-x-in-T : goal.returns-in_ok-x-in-T
returns-in_ok-x-in-T c = mapped-got _ _ (at-shape _ _ c.in-T.is _) (sym c.in_ok-x-in-T.ensures) c.command_of-in-T.ensures

pub command_of-requires-in-VW : goal.command_of-requires-in-VW
command_of-requires-in-VW c = let b = two-bound _ _ _ _ _ (sym c.in_ok-v-in-VW.ensures) in search rules

pub returns-in_err-v-in-VW : goal.returns-in_err-v-in-VW
returns-in_err-v-in-VW c = refused-handed _ _ c.from_residual-in_err-v-in-VW.ensures.1 ∙ mapped-refused _ _ (at-shape _ _ c.in-VW.is _) (sym c.in_err-v-in-VW.ensures)

pub returns-in_ok-v-in-VW : goal.returns-in_ok-v-in-VW
returns-in_ok-v-in-VW c = mapped-got _ _ (at-shape _ _ c.in-VW.is _) (sym c.in_ok-v-in-VW.ensures) c.command_of-in-VW.ensures

pub command_of-requires-in-VK : goal.command_of-requires-in-VK
command_of-requires-in-VK c = let b = two-bound _ _ _ _ _ (sym c.in_ok-v-in-VK.ensures) in search rules

pub returns-in_err-v-in-VK : goal.returns-in_err-v-in-VK
returns-in_err-v-in-VK c = refused-handed _ _ c.from_residual-in_err-v-in-VK.ensures.1 ∙ mapped-refused _ _ (at-shape _ _ c.in-VK.is _) (sym c.in_err-v-in-VK.ensures)

pub returns-in_ok-v-in-VK : goal.returns-in_ok-v-in-VK
returns-in_ok-v-in-VK c = mapped-got _ _ (at-shape _ _ c.in-VK.is _) (sym c.in_ok-v-in-VK.ensures) c.command_of-in-VK.ensures

pub command_of-requires-in-KV : goal.command_of-requires-in-KV
command_of-requires-in-KV c = let b = two-bound _ _ _ _ _ (sym c.in_ok-k-in-KV.ensures) in search rules

pub returns-in_err-k-in-KV : goal.returns-in_err-k-in-KV
returns-in_err-k-in-KV c = refused-handed _ _ c.from_residual-in_err-k-in-KV.ensures.1 ∙ mapped-refused _ _ (at-shape _ _ c.in-KV.is _) (sym c.in_err-k-in-KV.ensures)

pub returns-in_ok-k-in-KV : goal.returns-in_ok-k-in-KV
returns-in_ok-k-in-KV c = mapped-got _ _ (at-shape _ _ c.in-KV.is _) (sym c.in_ok-k-in-KV.ensures) c.command_of-in-KV.ensures

pub command_of-requires-in-VT : goal.command_of-requires-in-VT
command_of-requires-in-VT c = let b = two-bound _ _ _ _ _ (sym c.in_ok-v-in-VT.ensures) in search rules

pub returns-in_err-v-in-VT : goal.returns-in_err-v-in-VT
returns-in_err-v-in-VT c = refused-handed _ _ c.from_residual-in_err-v-in-VT.ensures.1 ∙ mapped-refused _ _ (at-shape _ _ c.in-VT.is _) (sym c.in_err-v-in-VT.ensures)

pub returns-in_ok-v-in-VT : goal.returns-in_ok-v-in-VT
returns-in_ok-v-in-VT c = mapped-got _ _ (at-shape _ _ c.in-VT.is _) (sym c.in_ok-v-in-VT.ensures) c.command_of-in-VT.ensures
