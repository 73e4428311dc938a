-- What a refusal that is handed on says.
use Rattle.std.specs.Prelude.{◌≡◌, Result, Ok, Err}
use Rattle.std.specs.Result.{IsErrAnd}
use Rattle.std.proofs.Common.{ap}
use Rattle.model.specs.{Parsed.refused, Refusal.number_of, Refusal.parsed, Refusal.parsed_by}
use Rattle.model.specs.declared.Refusal.{Refusal}

-- what the exit of a `?` returns
pub handed : {X E : Type 0} (e : E) (r : Result X E) → IsErrAnd r (λ y. y ≡ e) → r ≡ Err e
handed e (Ok x) h = absurd h
handed e (Err y) h = ap Err h

-- and what it stands for
pub refused-handed : {X : Type 0} (e : Refusal) (r : Result X Refusal) → IsErrAnd r (λ y. y ≡ e) → parsed r ≡ refused (number_of e)
refused-handed e (Ok x) h = absurd h
refused-handed e (Err y) h = ap (λ (z : Refusal). refused (number_of z)) h

pub refused_by-handed : {X A : Type 0} (f : X → A) (e : Refusal) (r : Result X Refusal) → IsErrAnd r (λ y. y ≡ e) → parsed_by f r ≡ refused (number_of e)
refused_by-handed f e (Ok x) h = absurd h
refused_by-handed f e (Err y) h = ap (λ (z : Refusal). refused (number_of z)) h
