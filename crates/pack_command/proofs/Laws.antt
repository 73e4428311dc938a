-- The parts of a number that a command makes: each comes back from it.
use mathlib.Core.Path.{◌≡◌, refl, sym, ap, ap₂, ◌∙◌}
use mathlib.Core.List.{List, [], ◌∷◌, ◌++◌, map}
use Prim.Native.Nat.{ℕ, zero, suc, ◌+◌, ◌*◌, ◌/◌, ◌%◌, ◌<◌, ◌≤◌}
use native.Mathlib.{Omega.arith, Numerals.add-one, Nat.mod-eq_of_lt, Nat.mul-add-mod_self_right, Nat.add-mul-div_right, Nat.div-eq_of_lt}
use lib.{IntN.ℤ, IntN.pos, IntN.negsuc, ListN.length, ListN.get_or, ListN.take, ListN.set, ListN.length-set, ListN.length-map}
use lib.Seq.{take-suc, take-suc-set}
use Rattle.model.specs.{Accepted.place_of, Accepted.InRange, Stored.command_capacity, declared.Command.Command}
use Rattle.model.proofs.Accepted.{every-at}
use Rattle.pack_command.specs.Pack.{Packable, Unpacked, command_number, shifted}

-- ---- The number: the least one is kept as 0

shifted-small : (z : ℤ) → InRange z → shifted z < 4294967296
shifted-small (pos n) h = omega arith
shifted-small (negsuc n) h = omega arith

-- ---- The parts

-- the last part, of m values, and those before it
last-part : (m a b : ℕ) → b < m → (x : ℕ) → x ≡ a * m + b → (x / m ≡ a) × (x % m ≡ b)
last-part m a b h x e =
    let turned : x ≡ b + a * m = omega arith in
    let none : b / m + a ≡ a = omega (arith, div-eq_of_lt h) in
    (ap (λ (y : ℕ). y / m) turned ∙ add-mul-div_right b a (omega arith) ∙ none, ap (λ (y : ℕ). y % m) e ∙ mul-add-mod_self_right a m b ∙ mod-eq_of_lt h)

-- the parts of x from the low end on, as the machine takes them
pub record Parts (x : ℕ) (c : Command) : Type 0 where
  pub op : x / 4294967296 / 65536 / 16 / 8 / 8 ≡ place_of c.op
  pub v : x / 4294967296 / 65536 / 16 / 8 % 8 ≡ c.v
  pub w : x / 4294967296 / 65536 / 16 % 8 ≡ c.w
  pub k : x / 4294967296 / 65536 % 16 ≡ c.k
  pub t : x / 4294967296 % 65536 ≡ c.t
  pub n : x % 4294967296 ≡ shifted c.n

pub parts : (x : ℕ) (c : Command) → Packable c → x ≡ command_number c → Parts x c
unfolding command_number
parts x c p e =
    let n = last-part 4294967296 _ _ (shifted-small c.n p.n) x e in
    let t = last-part 65536 _ _ p.t _ n.0 in
    let k = last-part 16 _ _ p.k _ t.0 in
    let w = last-part 8 _ _ p.w _ k.0 in
    let v = last-part 8 _ _ p.v _ w.0 in
    record { op = v.0; v = v.1; w = w.1; k = k.1; t = t.1; n = n.1 }

-- ---- Commands one after the other

packed-at : (cs : List Command) (i : ℕ) (c : Command) → i < length cs → get_or (map command_number cs) i 0 ≡ command_number (get_or cs i c)
packed-at [] i c h = absurd (omega arith)
packed-at (d ∷ cs) zero c h = refl
packed-at (d ∷ cs) (suc i) c h = packed-at cs i c (omega arith)

module _ (held : List ℕ) where
  pub unpacked-more : {commands : List Command} {i : ℕ} {c : Command} → Unpacked held i commands → i < length held → length held ≤ command_capacity
      → ((d : Command) → Packable d → get_or held i 0 ≡ command_number d → c ≡ d) → Unpacked held (i + 1) (set commands i c)
  unpacked-more {commands} {i} {c} u l most is =
      record {
        size = length-set commands i c ∙ u.size;
        are = λ cs p h.
            let n : length cs ≡ length held = sym (length-map cs command_number) ∙ ap length (sym h) in
            let d = get_or cs i c in
            let x : get_or held i 0 ≡ command_number d = ap (λ (z : List ℕ). get_or z i 0) h ∙ packed-at cs i c (omega (arith, n)) in
            ap (λ (k : ℕ). take k (set commands i c)) (add-one i)
            ∙ take-suc-set commands i c (omega (arith, u.size))
            ∙ ap₂ (λ (z : List Command) (e : Command). z ++ (e ∷ [])) (u.are cs p h) (is d (every-at Packable cs i c p (omega (arith, n))) x)
            ∙ sym (take-suc cs i c (omega (arith, n)))
            ∙ ap (λ (k : ℕ). take k cs) (sym (add-one i));
      }
