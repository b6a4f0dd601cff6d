-- How great products and quotients are.
use Rattle.std.proofs.Common.{ℕ, suc, ◌*◌, ◌/◌, ◌^◌, ◌≤◌, arith}
use Rattle.std.specs.Prelude.{ℤ, pos, negsuc, neg_ℤ, ◌*ℤ◌, ◌+ℤ◌, ◌-ℤ◌, ◌≤ℤ◌, int_div}
use Rattle.std.proofs.lemmas.Int.{clamps, ints}
use Rattle.std.proofs.Math.Nat.{div-le_self, div-le_of_le-mul, mul-le-mul}
use Rattle.sim_vehicle.specs.Steering.{clamped, Lies}

-- a product of numbers within two limits is within the product of these
product_lies : (a b : ℤ) (m n : ℕ) → Lies (neg_ℤ (pos m)) (pos m) a → Lies (neg_ℤ (pos n)) (pos n) b → Lies (neg_ℤ (pos (m * n))) (pos (m * n)) (a *ℤ b)
product_lies (pos x) (pos y) m n h k =
    let one : x ≤ m = omega (arith, ints, h.1) in
    let other : y ≤ n = omega (arith, ints, k.1) in
    let both : x * y ≤ m * n = mul-le-mul one other in
    (omega (arith, ints), omega (arith, ints, both))
product_lies (pos x) (negsuc y) m n h k =
    let one : x ≤ m = omega (arith, ints, h.1) in
    let other : suc y ≤ n = omega (arith, ints, k.0) in
    let both : x * suc y ≤ m * n = mul-le-mul one other in
    (omega (arith, ints, both), omega (arith, ints))
product_lies (negsuc x) (pos y) m n h k =
    let one : suc x ≤ m = omega (arith, ints, h.0) in
    let other : y ≤ n = omega (arith, ints, k.1) in
    let both : suc x * y ≤ m * n = mul-le-mul one other in
    (omega (arith, ints, both), omega (arith, ints))
product_lies (negsuc x) (negsuc y) m n h k =
    let one : suc x ≤ m = omega (arith, ints, h.0) in
    let other : suc y ≤ n = omega (arith, ints, k.0) in
    let both : suc x * suc y ≤ m * n = mul-le-mul one other in
    (omega (arith, ints), omega (arith, ints, both))

-- a product that an i64 holds
pub product_within : (a b : ℤ) → Lies (neg_ℤ (pos (10 ^ 12))) (pos (10 ^ 12)) a → Lies (neg_ℤ (pos (10 ^ 6))) (pos (10 ^ 6)) b → Lies (neg_ℤ (pos (10 ^ 18))) (pos (10 ^ 18)) (a *ℤ b)
product_within a b h k = product_lies a b (10 ^ 12) (10 ^ 6) h k

-- a product that an i128 holds
pub wide_within : (a b : ℤ) → Lies (neg_ℤ (pos (10 ^ 18))) (pos (10 ^ 18)) a → Lies (neg_ℤ (pos (10 ^ 18))) (pos (10 ^ 18)) b → Lies (neg_ℤ (pos (10 ^ 36))) (pos (10 ^ 36)) (a *ℤ b)
wide_within a b h k = product_lies a b (10 ^ 18) (10 ^ 18) h k

-- a speed goes toward its target and not beyond: it stays above 0, and below what both are below
pub toward_low : (speed target down up : ℤ) → pos 0 ≤ℤ speed → pos 0 ≤ℤ target → pos 0 ≤ℤ down → pos 0 ≤ℤ up → pos 0 ≤ℤ (speed +ℤ clamped (neg_ℤ down) up (target -ℤ speed))
toward_low speed target down up a b c d = omega (arith, ints, clamps)

pub toward_high : (speed target down up top : ℤ) → pos 0 ≤ℤ down → pos 0 ≤ℤ up → speed ≤ℤ top → target ≤ℤ top → (speed +ℤ clamped (neg_ℤ down) up (target -ℤ speed)) ≤ℤ top
toward_high speed target down up top c d a b = omega (arith, ints, clamps)

-- a quotient is no greater than what is divided
pub quotient_within : (a d : ℤ) → Lies (neg_ℤ (pos (10 ^ 36))) (pos (10 ^ 36)) a → pos 1 ≤ℤ d → Lies (neg_ℤ (pos (10 ^ 36))) (pos (10 ^ 36)) (int_div a d)
quotient_within (pos n) (pos d) h some = let part = div-le_self n d in (omega (arith, ints), omega (arith, ints, part, h.1))
quotient_within (negsuc n) (pos d) h some = let part = div-le_self (suc n) d in (omega (arith, ints, part, h.0), omega (arith, ints))
quotient_within a (negsuc d) h some = absurd (omega (arith, ints, some))

-- a share of a whole of at most the whole
part_most : (t m : ℕ) → t ≤ 100000 → t * m / 100000 ≤ m
part_most t m h = let same : m ≤ m = omega arith in let all : t * m ≤ 100000 * m = mul-le-mul h same in div-le_of_le-mul 100000 all

-- the same of whole numbers with signs
pub share_within : (thrust top : ℤ) → Lies (pos 0) (pos 100000) thrust → pos 0 ≤ℤ top → Lies (pos 0) top (int_div (thrust *ℤ top) (pos 100000))
share_within (pos t) (pos m) h some = let part = part_most t m (omega (arith, ints, h.1)) in (omega (arith, ints), omega (arith, ints, part))
share_within (pos t) (negsuc m) h some = absurd (omega (arith, ints, some))
share_within (negsuc t) top h some = absurd (omega (arith, ints, h.0))
