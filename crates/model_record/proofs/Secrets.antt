-- The secrets of a record and the keys of a job: each gives the other back.
use mathlib.Core.Path.{◌≡◌, refl, sym, ap, ◌∙◌, subst}
use mathlib.Core.Bool.{Bool, true, false, cond, ◌||◌}
use mathlib.Core.List.{List, [], ◌∷◌, ◌++◌, map, append-nil}
use Prim.Native.Nat.{ℕ, zero, suc, ◌+◌, ◌<◌, ◌≤◌}
use native.Mathlib.Omega.{arith}
use lib.{Dec.eqb, Dec.leb, Dec.ltb, IntN.ℤ, Signed.mag, ListN.length, ListN.set, ListN.replicate, ListN.length-set, ListN.length-append, ListN.length-replicate, Seq.append_snoc, Seq.set_at}
use borrow.Author.Tests.{eqb-true, leb-true, ltb-true, le-leb, lt-ltb}
use Rattle.model.specs.{Limits.greatest_number, Turns.letter_a, Turns.letter_b, Accepted.Every, Accepted.InRange, Accepted.KeyInRange, Accepted.OwnerBy, Accepted.KeyBy}
use Rattle.model.specs.declared.{Key.Key, Owner.Owner}
use Rattle.model.specs.declared.Key.TheVariants.{Open, Secret}
use Rattle.model.specs.declared.Owner.TheVariants.{A, B}
use Rattle.model.proofs.Accepted.{every_set, every-replicate}
use Rattle.model_sheet.proofs.Secrets.{OpenFrom, open-later, open-all, open-set}
use Rattle.model_text.proofs.TextLaws.{and_both}
use Rattle.model_record.specs.Data.{SecretRecord}
use Rattle.model_record.specs.Record.{rising, owner_fits, secret_key, secret_fits, secrets_fit, owner_of, key_of, hides, keys_of, owner_number, secret_record, records_from, secret_records}
use Rattle.model_text.proofs.Tests.{and-made, Pass, all-every, every-all}

-- ---- From a record

hides-length : (xs : List Key) (ss : List SecretRecord) → length (hides xs ss) ≡ length xs
unfolding hides
hides-length xs [] = refl
hides-length xs (s ∷ ss) = hides-length (set xs s.key (key_of s)) ss ∙ length-set xs s.key (key_of s)

-- there are K keys
pub keys-count : (K : ℕ) (ss : List SecretRecord) → length (keys_of K ss) ≡ K
unfolding keys_of
keys-count K ss = hides-length (replicate K Open) ss ∙ length-replicate K Open

-- what holds of an open key and of each secret holds of all keys
hides-every : (P : Key → Type 0) (xs : List Key) (ss : List SecretRecord) → Every P xs → Every (λ (s : SecretRecord). P (key_of s)) ss → Every P (hides xs ss)
unfolding hides
hides-every P xs [] h k = h
hides-every P xs (s ∷ ss) h k = hides-every P (set xs s.key (key_of s)) ss (every_set P xs s.key (key_of s) h k.0) k.1

-- the keys of secrets that fit rise, and each fits
secrets-told : (two : Bool) (K : ℕ) (ss : List SecretRecord) → secrets_fit two K ss ≡ true → (rising K 0 (map secret_key ss) ≡ true) × Every (Pass (secret_fits two)) ss
unfolding secrets_fit
secrets-told two K ss h = let a = and_both (rising K 0 (map secret_key ss)) _ h in (a.0, all-every (secret_fits two) ss a.1)

-- the owner of a secret that fits is one of the form's, and comes back
owner-fitting : (two : Bool) (n : ℕ) → owner_fits two n ≡ true → OwnerBy two (owner_of n) × (owner_number two (owner_of n) ≡ n)
owner-fitting false n h = let e = eqb-true n 0 h in subst (λ (m : ℕ). OwnerBy false (owner_of m) × (0 ≡ m)) (sym e) (tt, refl)
owner-fitting true n h = go (eqb n letter_a) refl h
  where
    go : (t : Bool) → eqb n letter_a ≡ t → (t || eqb n letter_b) ≡ true → OwnerBy true (owner_of n) × (owner_number true (owner_of n) ≡ n)
    go true q k = let e = eqb-true n letter_a q in subst (λ (m : ℕ). OwnerBy true (owner_of m) × (owner_number true (owner_of m) ≡ m)) (sym e) (tt, refl)
    go false q k = let e = eqb-true n letter_b k in subst (λ (m : ℕ). OwnerBy true (owner_of m) × (owner_number true (owner_of m) ≡ m)) (sym e) (refl, refl)

dummy-fitting : (two : Bool) (s : SecretRecord) → secret_fits two s ≡ true → InRange s.dummy
dummy-fitting two s h = leb-true (mag s.dummy) greatest_number (and_both (owner_fits two s.owner) _ h).1

owner-of-fitting : (two : Bool) (s : SecretRecord) → secret_fits two s ≡ true → OwnerBy two (owner_of s.owner) × (owner_number two (owner_of s.owner) ≡ s.owner)
owner-of-fitting two s h = owner-fitting two s.owner (and_both (owner_fits two s.owner) _ h).0

every-imply : {A : Type 0} (P Q : A → Type 0) → ((x : A) → P x → Q x) → (xs : List A) → Every P xs → Every Q xs
every-imply P Q f [] h = tt
every-imply P Q f (x ∷ xs) h = (f x h.0, every-imply P Q f xs h.1)

-- the dummies of secrets that fit are in range, and their owners those of the form
pub keys-range : (two : Bool) (K : ℕ) (ss : List SecretRecord) → secrets_fit two K ss ≡ true → Every KeyInRange (keys_of K ss)
unfolding keys_of
keys-range two K ss h =
    hides-every KeyInRange (replicate K Open) ss (every-replicate KeyInRange K Open tt)
    (every-imply (Pass (secret_fits two)) (λ (s : SecretRecord). InRange s.dummy) (dummy-fitting two) ss (secrets-told two K ss h).1)

pub keys-owned : (two : Bool) (K : ℕ) (ss : List SecretRecord) → secrets_fit two K ss ≡ true → Every (KeyBy two) (keys_of K ss)
unfolding keys_of
keys-owned two K ss h =
    hides-every (KeyBy two) (replicate K Open) ss (every-replicate (KeyBy two) K Open tt)
    (every-imply (Pass (secret_fits two)) (λ (s : SecretRecord). OwnerBy two (owner_of s.owner)) (λ s f. (owner-of-fitting two s f).0) ss (secrets-told two K ss h).1)

-- ---- Secrets that fit come back

open_none : (two : Bool) (i : ℕ) (ks : List Key) → OpenFrom zero ks → records_from two i ks ≡ []
unfolding records_from
open_none two i [] h = refl
open_none two i (Open ∷ ks) h = open_none two (suc i) ks h.1
open_none two i (Secret o d ∷ ks) h = absurd h.0

records-set : (two : Bool) (n i k : ℕ) (ks : List Key) (o : Owner) (d : ℤ) → n ≡ i + k → k < length ks → OpenFrom k ks
    → records_from two i (set ks k (Secret o d)) ≡ records_from two i ks ++ (secret_record two n o d ∷ [])
unfolding records_from
records-set two n i k [] o d q l h = absurd (omega arith)
records-set two n i zero (Open ∷ ks) o d q l h =
    let same : i ≡ n = omega arith in
    rw (open_none two (suc i) ks h.1) (ap (λ (m : ℕ). secret_record two m o d ∷ []) same)
records-set two n i zero (Secret w z ∷ ks) o d q l h = absurd h.0
records-set two n i (suc k) (Open ∷ ks) o d q l h = records-set two n (suc i) k ks o d (omega arith) (omega arith) h
records-set two n i (suc k) (Secret w z ∷ ks) o d q l h = ap (λ (x : List SecretRecord). secret_record two i w z ∷ x) (records-set two n (suc i) k ks o d (omega arith) (omega arith) h)

record-back : (two : Bool) (s : SecretRecord) → secret_fits two s ≡ true → secret_record two s.key (owner_of s.owner) s.dummy ≡ s
record-back two s h i = record { key = s.key; dummy = s.dummy; owner = (owner-of-fitting two s h).1 i }

hides-back : (two : Bool) (K n : ℕ) (xs : List Key) (ss : List SecretRecord) → length xs ≡ K → OpenFrom n xs → rising K n (map secret_key ss) ≡ true → Every (Pass (secret_fits two)) ss
    → records_from two 0 (hides xs ss) ≡ records_from two 0 xs ++ ss
unfolding hides rising
hides-back two K n xs [] len free up fit = sym (append-nil (records_from two 0 xs))
hides-back two K n xs (s ∷ ss) len free up fit =
    let k = s.key in
    let a = and_both _ _ up in
    let b = and_both (leb n k) _ a.0 in
    let later = open-later n k xs (leb-true n k b.0) free in
    let below : k < length xs = omega (arith, ltb-true k K b.1, len) in
    let next : suc k ≡ k + 1 = omega arith in
    let one = records-set two k 0 k xs (owner_of s.owner) s.dummy (omega arith) below later in
    hides-back two K (k + 1) (set xs k (key_of s)) ss (length-set xs k (key_of s) ∙ len) (subst (λ (m : ℕ). OpenFrom m (set xs k (key_of s))) next (open-set k xs (key_of s) later)) a.1 fit.1
    ∙ ap (λ (x : List SecretRecord). x ++ ss) (one ∙ ap (λ (x : SecretRecord). records_from two 0 xs ++ (x ∷ [])) (record-back two s fit.0))
    ∙ append_snoc (records_from two 0 xs) s ss

pub secrets-back : (two : Bool) (K : ℕ) (ss : List SecretRecord) → secrets_fit two K ss ≡ true → secret_records two (keys_of K ss) ≡ ss
unfolding keys_of
secrets-back two K ss h =
    let told = secrets-told two K ss h in
    hides-back two K 0 (replicate K Open) ss (length-replicate K Open) (open-all 0 K) told.0 told.1
    ∙ ap (λ (x : List SecretRecord). x ++ ss) (open_none two 0 (replicate K Open) (open-all 0 K))

-- ---- From a job

owner-back : (two : Bool) (o : Owner) → OwnerBy two o → owner_of (owner_number two o) ≡ o
owner-back false A h = refl
owner-back false B h = absurd (let z : ◌≡◌ {A = ℕ} 0 1 = cc in omega arith)
owner-back true A h = refl
owner-back true B h = refl

hides-made : (two : Bool) (ks front : List Key) (i : ℕ) → length front ≡ i → Every (KeyBy two) ks
    → hides (front ++ replicate (length ks) Open) (records_from two i ks) ≡ front ++ ks
unfolding hides records_from
hides-made two [] front i q h = refl
hides-made two (Open ∷ ks) front i q h =
    let len = length-append front (Open ∷ []) in
    let r = hides-made two ks (front ++ (Open ∷ [])) (suc i) (omega arith) h.1 in
    simp append_snoc at r
hides-made two (Secret o d ∷ ks) front i q h =
    let len = length-append front (Secret o d ∷ []) in
    let rs = replicate (length ks) Open in
    let r = hides-made two ks (front ++ (Secret o d ∷ [])) (suc i) (omega arith) h.1 in
    let key : key_of (secret_record two i o d) ≡ Secret o d = ap (λ (w : Owner). Secret w d) (owner-back two o h.0) in
    let placed = ap (set (front ++ (Open ∷ rs)) i) key ∙ set_at front Open rs (Secret o d) i q in
    ap (λ (x : List Key). hides x (records_from two (suc i) ks)) placed ∙ simp append_snoc at r

-- the keys of a job come back
pub keys-back : (two : Bool) (ks : List Key) → Every (KeyBy two) ks → keys_of (length ks) (secret_records two ks) ≡ ks
unfolding keys_of
keys-back two ks h = hides-made two ks [] 0 refl h

-- there are no more secrets than keys
records-count : (two : Bool) (i : ℕ) (ks : List Key) → length (records_from two i ks) ≤ length ks
unfolding records_from
records-count two i [] = omega arith
records-count two i (Open ∷ ks) = omega (arith, records-count two (suc i) ks)
records-count two i (Secret o d ∷ ks) = omega (arith, records-count two (suc i) ks)

pub secrets-count : (two : Bool) (ks : List Key) → length (secret_records two ks) ≤ length ks
secrets-count two ks = records-count two 0 ks

-- the secrets of keys in range fit
owner-fits : (two : Bool) (o : Owner) → OwnerBy two o → owner_fits two (owner_number two o) ≡ true
owner-fits false o h = refl
owner-fits true A h = refl
owner-fits true B h = refl

records-rise : (two : Bool) (K n i : ℕ) (ks : List Key) → n ≤ i → i + length ks ≤ K → rising K n (map secret_key (records_from two i ks)) ≡ true
unfolding rising records_from
records-rise two K n i [] l m = refl
records-rise two K n i (Open ∷ ks) l m = records-rise two K n (suc i) ks (omega arith) (omega arith)
records-rise two K n i (Secret o d ∷ ks) l m = and-made (and-made (le-leb n i l) (lt-ltb i K (omega arith))) (records-rise two K (i + 1) (suc i) ks (omega arith) (omega arith))

records-fit : (two : Bool) (i : ℕ) (ks : List Key) → Every KeyInRange ks → Every (KeyBy two) ks → Every (Pass (secret_fits two)) (records_from two i ks)
unfolding records_from
records-fit two i [] h w = tt
records-fit two i (Open ∷ ks) h w = records-fit two (suc i) ks h.1 w.1
records-fit two i (Secret o d ∷ ks) h w = (and-made (owner-fits two o w.0) (le-leb (mag d) greatest_number h.0), records-fit two (suc i) ks h.1 w.1)

pub secrets-fit : (two : Bool) (ks : List Key) → Every KeyInRange ks → Every (KeyBy two) ks → secrets_fit two (length ks) (secret_records two ks) ≡ true
unfolding secrets_fit
secrets-fit two ks h w = and-made (records-rise two (length ks) 0 0 ks (omega arith) (omega arith)) (every-all (secret_fits two) (secret_records two ks) (records-fit two 0 ks h w))
