-- How far a step leads along the degrees of its quarter and of the others.
use Rattle.std.proofs.Common.{◌≡◌, ℕ, zero, suc, Bool, true, false, ◌&&◌, ◌+◌, ◌-◌, ◌*◌, ◌%◌, ◌<◌, ◌≤◌, inl, inr, ℤ, pos, negsuc, neg_ℤ, ◌+ℤ◌, ◌*ℤ◌, ◌<ℤ◌, ◌≤ℤ◌, nat_abs, refl, sym, ◌∙◌, ap, subst, arith}
use Rattle.std.proofs.Math.Nat.{mul-add, mul_assoc, mul_comm, mul-le-mul_left, mul-le-mul_right, le_of_mul-le-mul_right}
use Rattle.std.proofs.Math.IntN.{neg_ℤ-neg_ℤ, *ℤ-zero, zero-*ℤ, pos-*ℤ-pos, pos-*ℤ-negsuc, negsuc-*ℤ-pos, negsuc-*ℤ-negsuc}
use Rattle.std.proofs.lemmas.Bool.{and_parts, cases_eq, leb-true, ltb-true}
use Rattle.std.proofs.lemmas.Int.{ints}
use Rattle.std.specs.Ordering.{int_eq}
use Rattle.std.specs.Prelude.{int_lt, nat_le, nat_lt, slice_index}
use Rattle.helm_geo.proofs.Bearings.{below, not_below}
use Rattle.helm_geo.specs.Angles.{along, cos4, half_sine, sin4, sines}

-- a test passes at each number below this one
abbrev pub every : ℕ → (ℕ → Bool) → Bool
every zero test = true
every (suc count) test = test count && every count test

pub every_at : (count : ℕ) (test : ℕ → Bool) → every count test ≡ true → (place : ℕ) → place < count → test place ≡ true
every_at zero test all place inside = absurd (omega (arith, inside))
every_at (suc count) test all place inside =
    let both = and_parts (test count) (every count test) all in
    elim (cases_eq place count) [ inl same ↦ ap test same ∙ both.0 | inr apart ↦ every_at count test both.1 place (omega (arith, inside, apart)) ]

-- the sine and the cosine of at most 90 degrees
abbrev pub sine : ℕ → ℕ
sine degree = slice_index sines degree

abbrev pub cosine : ℕ → ℕ
cosine degree = slice_index sines (90 - degree)

-- how far a step leads, whose parts are these, along a degree of its quarter
abbrev value : ℕ → ℕ → ℕ → ℕ
value across ahead degree = across * sine degree + ahead * cosine degree

in_table : ℕ → Bool
in_table degree = int_eq (sin4 degree) (pos (sine degree)) && int_eq (cos4 degree) (pos (cosine degree))

all_in_table : every 91 in_table ≡ true
unfolding in_table half_sine sines
all_in_table = refl

table_at : (degree : ℕ) → degree ≤ 90 → (sin4 degree ≡ pos (sine degree)) × (cos4 degree ≡ pos (cosine degree))
unfolding in_table
table_at degree within =
    let both = and_parts _ (int_eq (cos4 degree) (pos (cosine degree))) (every_at 91 in_table all_in_table degree (omega (arith, within))) in
    (grind (arith, ints, both.0), grind (arith, ints, both.1))

-- the sines grow and the cosines fall, and the one's steps to the other's get less
grows : ℕ → Bool
grows degree = nat_le (sine degree) (sine (degree + 1)) && nat_lt (cosine (degree + 1)) (cosine degree)

all_grow : every 90 grows ≡ true
unfolding grows sines
all_grow = refl

turns : ℕ → Bool
turns degree =
    nat_le ((sine (degree + 1 + 1) - sine (degree + 1)) * (cosine degree - cosine (degree + 1))) ((sine (degree + 1) - sine degree) * (cosine (degree + 1) - cosine (degree + 1 + 1)))

all_turn : every 89 turns ≡ true
unfolding turns sines
all_turn = refl

record Grows (degree : ℕ) : Type 0 where
  sines : sine degree ≤ sine (degree + 1)
  cosines : cosine (degree + 1) < cosine degree

grows_at : (degree : ℕ) → degree < 90 → Grows degree
unfolding grows
grows_at degree within =
    let both = and_parts _ (nat_lt (cosine (degree + 1)) (cosine degree)) (every_at 90 grows all_grow degree within) in
    record { sines = leb-true _ _ both.0; cosines = ltb-true _ _ both.1 }

turns_at : (degree : ℕ) → degree < 89 → (sine (degree + 1 + 1) - sine (degree + 1)) * (cosine degree - cosine (degree + 1)) ≤ (sine (degree + 1) - sine degree) * (cosine (degree + 1) - cosine (degree + 1 + 1))
unfolding turns
turns_at degree within = leb-true _ _ (every_at 89 turns all_turn degree within)

-- a part that grows by steps that get less against another's
less_on : (a b u v more less : ℕ) → a * u ≤ b * v → 0 < v → more * v ≤ u * less → a * more ≤ b * less
less_on a b u v more less falls some turn =
    le_of_mul-le-mul_right {m = a * more} {n = b * less} {k = v}
    (let one : a * (more * v) ≤ a * (u * less) = mul-le-mul_left a turn in
    let two : a * u * less ≤ b * v * less = mul-le-mul_right less falls in
    let left : a * more * v ≡ a * (more * v) = mul_assoc a more v in
    let middle : a * u * less ≡ a * (u * less) = mul_assoc a u less in
    let right : b * v * less ≡ b * less * v = mul_assoc b v less ∙ ap (λ n. b * n) (mul_comm v less) ∙ sym (mul_assoc b less v) in
    omega (arith, one, two, left, middle, right))
    some

-- along the next degree a step leads no farther exactly where its part across grows by no more than the other falls
steps : (across ahead low high more less : ℕ) → low ≤ high → less ≤ more → (across * high + ahead * less ≡ across * low + ahead * less + across * (high - low)) × (across * low + ahead * more ≡ across * low + ahead * less + ahead * (more - less))
steps across ahead low high more less rise fall =
    let one : across * high ≡ across * low + across * (high - low) = ap (λ n. across * n) (omega (arith, rise)) ∙ mul-add across low (high - low) in
    let two : ahead * more ≡ ahead * less + ahead * (more - less) = ap (λ n. ahead * n) (omega (arith, fall)) ∙ mul-add ahead less (more - less) in
    (omega (arith, one), omega (arith, two))

falls_on : (across ahead degree : ℕ) → degree < 89 → value across ahead (degree + 1) ≤ value across ahead degree → value across ahead (degree + 1 + 1) ≤ value across ahead (degree + 1)
falls_on across ahead degree within falls =
    let here = grows_at degree (omega (arith, within)) in
    let next = grows_at (degree + 1) (omega (arith, within)) in
    let one = steps across ahead (sine degree) (sine (degree + 1)) (cosine degree) (cosine (degree + 1)) here.sines (omega (arith, here.cosines)) in
    let two = steps across ahead (sine (degree + 1)) (sine (degree + 1 + 1)) (cosine (degree + 1)) (cosine (degree + 1 + 1)) next.sines (omega (arith, next.cosines)) in
    let before : across * (sine (degree + 1) - sine degree) ≤ ahead * (cosine degree - cosine (degree + 1)) = omega (arith, falls, one.0, one.1) in
    let after : across * (sine (degree + 1 + 1) - sine (degree + 1)) ≤ ahead * (cosine (degree + 1) - cosine (degree + 1 + 1)) =
    less_on across ahead _ _ _ _ before (omega (arith, here.cosines)) (turns_at degree within) in
    omega (arith, after, two.0, two.1)

falls_far : (across ahead low count : ℕ) → low + count < 90 → value across ahead (low + 1) ≤ value across ahead low → value across ahead (low + count + 1) ≤ value across ahead (low + count)
falls_far across ahead low zero within falls =
    let at : low ≡ low + zero = omega arith in
    subst (λ n. value across ahead (n + 1) ≤ value across ahead n) at falls
falls_far across ahead low (suc count) within falls =
    let at : low + count + 1 ≡ low + suc count = omega arith in
    subst (λ n. value across ahead (n + 1) ≤ value across ahead n) at
    (falls_on across ahead (low + count) (omega (arith, within)) (falls_far across ahead low count (omega (arith, within)) falls))

-- how far a step leads along a degree of its quarter
along_value : (across ahead : ℤ) → pos 0 ≤ℤ across → pos 0 ≤ℤ ahead → (degree : ℕ) → degree ≤ 90 → along across ahead degree ≡ pos (value (nat_abs across) (nat_abs ahead) degree)
along_value across ahead a b degree within =
    let table = table_at degree within in
    let one : across ≡ pos (nat_abs across) = omega (arith, ints, a) in
    let two : ahead ≡ pos (nat_abs ahead) = omega (arith, ints, b) in
    ap (λ n. n *ℤ sin4 degree +ℤ ahead *ℤ cos4 degree) one
    ∙ ap (λ n. pos (nat_abs across) *ℤ sin4 degree +ℤ n *ℤ cos4 degree) two
    ∙ ap (λ n. pos (nat_abs across) *ℤ n +ℤ pos (nat_abs ahead) *ℤ cos4 degree) table.0
    ∙ ap (λ n. pos (nat_abs across) *ℤ pos (sine degree) +ℤ pos (nat_abs ahead) *ℤ n) table.1
    ∙ ap (λ n. n +ℤ pos (nat_abs ahead) *ℤ pos (cosine degree)) (pos-*ℤ-pos (nat_abs across) (sine degree))
    ∙ ap (λ n. pos (nat_abs across * sine degree) +ℤ n) (pos-*ℤ-pos (nat_abs ahead) (cosine degree))
    ∙ omega (arith, ints)

-- where a step leads no farther one degree on, it doesn't behind that
pub falls_behind : (across ahead : ℤ) → pos 0 ≤ℤ across → pos 0 ≤ℤ ahead → (low degree : ℕ) → along across ahead (low + 1) ≤ℤ along across ahead low → low ≤ degree → degree < 90 → along across ahead (degree + 1) ≤ℤ along across ahead degree
falls_behind across ahead a b low degree falls behind within =
    let first = along_value across ahead a b low (omega (arith, behind, within)) in
    let second = along_value across ahead a b (low + 1) (omega (arith, behind, within)) in
    let at : low + (degree - low) ≡ degree = omega (arith, behind) in
    let far = falls_far (nat_abs across) (nat_abs ahead) low (degree - low) (omega (arith, behind, within)) (omega (arith, ints, falls, first, second)) in
    let there : value (nat_abs across) (nat_abs ahead) (degree + 1) ≤ value (nat_abs across) (nat_abs ahead) degree =
    subst (λ n. value (nat_abs across) (nat_abs ahead) (n + 1) ≤ value (nat_abs across) (nat_abs ahead) n) at far in
    let one = along_value across ahead a b degree (omega (arith, within)) in
    let two = along_value across ahead a b (degree + 1) (omega (arith, within)) in
    omega (arith, ints, there, one, two)

-- a degree is sought from which a step leads no farther: it does before one, and doesn't from the other on
pub record IsSought (across ahead : ℤ) (low high : ℕ) : Type 0 where
  pub within : low ≤ high
  pub most : high ≤ 90
  pub rises : (degree : ℕ) → degree < low → along across ahead degree <ℤ along across ahead (degree + 1)
  pub falls : (degree : ℕ) → high ≤ degree → degree < 90 → along across ahead (degree + 1) ≤ℤ along across ahead degree

pub sought_up : (across ahead now next : ℤ) (low high middle : ℕ) → pos 0 ≤ℤ across → pos 0 ≤ℤ ahead → IsSought across ahead low high → middle < high →
    now ≡ along across ahead middle → next ≡ along across ahead (middle + 1) → int_lt now next ≡ true → IsSought across ahead (middle + 1) high
sought_up across ahead now next low high middle a b sought inside is_now is_next rises = record {
  within = omega (arith, inside);
  most = sought.most;
  rises = λ degree less. by degree less (int_lt (along across ahead degree) (along across ahead (degree + 1))) refl;
  falls = sought.falls;
}
  where
    by : (degree : ℕ) → degree < middle + 1 → (b : Bool) → int_lt (along across ahead degree) (along across ahead (degree + 1)) ≡ b → along across ahead degree <ℤ along across ahead (degree + 1)
    by degree less true is = below _ _ is
    by degree less false is =
        let falls = falls_behind across ahead a b degree middle (not_below _ _ is) (omega (arith, less)) (omega (arith, inside, sought.most)) in
        absurd (omega (arith, ints, falls, is_now, is_next, below now next rises))

pub sought_down : (across ahead now next : ℤ) (low high middle : ℕ) → pos 0 ≤ℤ across → pos 0 ≤ℤ ahead → IsSought across ahead low high → low ≤ middle → middle < high →
    now ≡ along across ahead middle → next ≡ along across ahead (middle + 1) → int_lt now next ≡ false → IsSought across ahead low middle
sought_down across ahead now next low high middle a b sought behind inside is_now is_next falls = record {
  within = behind;
  most = omega (arith, inside, sought.most);
  rises = sought.rises;
  falls = λ degree more less. falls_behind across ahead a b middle degree (omega (arith, ints, is_now, is_next, not_below now next falls)) more less;
}

-- the same of equal parts
pub same_sought : (across ahead x y : ℤ) (low high : ℕ) → x ≡ across → y ≡ ahead → IsSought x y low high → IsSought across ahead low high
same_sought across ahead x y low high one two sought = subst (λ n. IsSought across n low high) two (subst (λ n. IsSought n y low high) one sought)

pub same_parts : (dx dy x y : ℤ) (degree : ℕ) → x ≡ dx → y ≡ dy → along dx dy degree ≡ along x y degree
same_parts dx dy x y degree one two = ap (λ n. along n dy degree) (sym one) ∙ ap (λ n. along x n degree) (sym two)

-- a quarter further the sine is the cosine, and the cosine the sine the other way
quartered : ℕ → Bool
quartered degree = int_eq (sin4 ((degree + 90) % 360)) (cos4 degree) && int_eq (cos4 ((degree + 90) % 360)) (neg_ℤ (sin4 degree))

all_quartered : every 360 quartered ≡ true
unfolding quartered half_sine sines
all_quartered = refl

times_neg : (x y : ℤ) → x *ℤ neg_ℤ y ≡ neg_ℤ x *ℤ y
times_neg x (pos zero) = *ℤ-zero x ∙ sym (*ℤ-zero (neg_ℤ x))
times_neg (pos zero) (pos (suc n)) = zero-*ℤ (negsuc n) ∙ sym (zero-*ℤ (pos (suc n)))
times_neg (pos (suc m)) (pos (suc n)) = pos-*ℤ-negsuc (suc m) n ∙ sym (negsuc-*ℤ-pos m (suc n))
times_neg (negsuc m) (pos (suc n)) = negsuc-*ℤ-negsuc m n ∙ sym (pos-*ℤ-pos (suc m) (suc n))
times_neg (pos zero) (negsuc n) = zero-*ℤ (pos (suc n)) ∙ sym (zero-*ℤ (negsuc n))
times_neg (pos (suc m)) (negsuc n) = pos-*ℤ-pos (suc m) (suc n) ∙ sym (negsuc-*ℤ-negsuc m n)
times_neg (negsuc m) (negsuc n) = negsuc-*ℤ-pos m (suc n) ∙ sym (pos-*ℤ-negsuc (suc m) n)

pub times_neg_pos : (m n : ℕ) → pos m *ℤ neg_ℤ (pos n) ≡ neg_ℤ (pos (m * n))
times_neg_pos m zero = *ℤ-zero (pos m) ∙ omega (arith, ints)
times_neg_pos m (suc n) = pos-*ℤ-negsuc m n

pub quarter_on : (dx dy : ℤ) (degree : ℕ) → degree < 360 → along dx dy ((degree + 90) % 360) ≡ along (neg_ℤ dy) dx degree
unfolding quartered
quarter_on dx dy degree within =
    let both = and_parts _ (int_eq (cos4 ((degree + 90) % 360)) (neg_ℤ (sin4 degree))) (every_at 360 quartered all_quartered degree within) in
    let one : sin4 ((degree + 90) % 360) ≡ cos4 degree = grind (arith, ints, both.0) in
    let two : cos4 ((degree + 90) % 360) ≡ neg_ℤ (sin4 degree) = grind (arith, ints, both.1) in
    ap (λ n. dx *ℤ n +ℤ dy *ℤ cos4 ((degree + 90) % 360)) one
    ∙ ap (λ n. dx *ℤ cos4 degree +ℤ dy *ℤ n) two
    ∙ ap (λ n. dx *ℤ cos4 degree +ℤ n) (times_neg dy (sin4 degree))
    ∙ omega (arith, ints)

pub twice_on : (dx dy : ℤ) (degree : ℕ) → degree < 360 → along dx dy ((degree + 180) % 360) ≡ along (neg_ℤ dx) (neg_ℤ dy) degree
twice_on dx dy degree within =
    let on : ((degree + 90) % 360 + 90) % 360 ≡ (degree + 180) % 360 = omega arith in
    ap (along dx dy) (sym on) ∙ quarter_on dx dy ((degree + 90) % 360) (omega arith) ∙ quarter_on (neg_ℤ dy) dx degree within

pub thrice_on : (dx dy : ℤ) (degree : ℕ) → degree < 360 → along dx dy ((degree + 270) % 360) ≡ along dy (neg_ℤ dx) degree
thrice_on dx dy degree within =
    let on : ((degree + 90) % 360 + 180) % 360 ≡ (degree + 270) % 360 = omega arith in
    ap (along dx dy) (sym on) ∙ twice_on dx dy ((degree + 90) % 360) (omega arith) ∙ quarter_on (neg_ℤ dx) (neg_ℤ dy) degree within
    ∙ ap (λ x. along x (neg_ℤ dx) degree) (neg_ℤ-neg_ℤ dy)
