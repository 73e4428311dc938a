-- What is written for an export, case by case.
use Prim.Native.Nat.{ℕ, ◌<◌, ◌≤◌}
use mathlib.Core.Path.{◌≡◌, ap, ◌∙◌}
use mathlib.Core.List.{List}
use lib.ListN.{length}
use Rattle.model.specs.Written.{written, untouched}
use Rattle.model.specs.declared.Entry.{Entry}
use Rattle.model.proofs.Written.{write-refused, write-short}
use Rattle.model_text.specs.Text.{message_lines}
use Rattle.model_log.specs.Log.{Logged, messages, refused, read_log, draft, write_log}
use Rattle.write_text.specs.Put.{Put}
use Rattle.write_text.proofs.Laws.{put_written}
use Rattle.model.specs.Written.{write}

module _ (s m : List ℕ) where
  pub log-refused : (n row : ℕ) → read_log s ≡ refused n row → write_log s m ≡ untouched n row m
  unfolding write_log
  log-refused n row e = ap (λ (l : Logged). write 43 m (draft l)) e ∙ write-refused 43 m n row

  module _ (ms : List (List Entry)) (e : read_log s ≡ messages ms) where
    pub log-lacks : length m < length (message_lines ms) → write_log s m ≡ untouched 43 0 m
    unfolding write_log
    log-lacks h = ap (λ (l : Logged). write 43 m (draft l)) e ∙ write-short 43 m (message_lines ms) h

    pub log-written : {m' : List ℕ} {n : ℕ} → Put m 0 (message_lines ms) m' n → length (message_lines ms) ≤ length m
        → write_log s m ≡ written (record { number = 0; line = 0; bytes = length (message_lines ms) }) m'
    unfolding write_log
    log-written p fits = ap (λ (l : Logged). write 43 m (draft l)) e ∙ put_written 43 p fits
