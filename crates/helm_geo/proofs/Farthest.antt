-- The degree of its quarter along which a step leads farthest is the first such of all 360.
use Rattle.std.proofs.Common.{◌≡◌, ℕ, zero, suc, Bool, true, false, ◌&&◌, ◌+◌, ◌-◌, ◌*◌, ◌%◌, ◌<◌, ◌≤◌, inl, inr, ℤ, pos, neg_ℤ, ◌+ℤ◌, ◌*ℤ◌, ◌<ℤ◌, ◌≤ℤ◌, nat_abs, ◌⊎◌, Some, None, refl, sym, ◌∙◌, ap, subst, arith}
use Rattle.std.proofs.Math.Nat.{mul-add, mul-le-mul, mul-le-mul_left}
use Rattle.std.proofs.Math.IntN.{pos-*ℤ-pos}
use Rattle.std.proofs.lemmas.Bool.{and_parts, cases_lt, leb-true, ltb-true}
use Rattle.std.proofs.lemmas.Int.{ints}
use Rattle.std.specs.Ordering.{int_eq}
use Rattle.std.specs.Prelude.{int_lt, nat_le, nat_lt, if◌then◌else◌}
use Rattle.helm_geo.proofs.Bearings.{below, not_below, IsFirstMost, farthest_is}
use Rattle.helm_geo.specs.Angles.{along, bearing, farthest, cos4, half_sine, sin4, sines}
use Rattle.helm_geo.proofs.Quarters.{every, every_at, same_sought, same_parts, times_neg_pos, IsSought}

same_int : (x y : ℤ) → int_eq x y ≡ true → x ≡ y
same_int x y e = grind (arith, ints)

-- sine and cosine in the other three quarters, by their first degrees
in_second : ℕ → Bool
in_second place =
    int_eq (sin4 (place + 91)) (pos (half_sine (place + 91))) && (nat_le (half_sine (place + 91)) 10000 && (int_eq (cos4 (place + 91)) (neg_ℤ (pos (half_sine (place + 1)))) && nat_lt 0 (half_sine (place + 1))))

all_in_second : every 90 in_second ≡ true
unfolding in_second half_sine sines
all_in_second = refl

in_third : ℕ → Bool
in_third place = int_eq (sin4 (place + 181)) (neg_ℤ (pos (half_sine (place + 1)))) && int_eq (cos4 (place + 181)) (neg_ℤ (pos (half_sine (place + 91))))

all_in_third : every 90 in_third ≡ true
unfolding in_third half_sine sines
all_in_third = refl

in_fourth : ℕ → Bool
in_fourth place = int_eq (sin4 (place + 271)) (neg_ℤ (pos (half_sine (place + 91)))) && (int_eq (cos4 (place + 271)) (pos (half_sine (place + 1))) && nat_lt (half_sine (place + 1)) 10000)

all_in_fourth : every 89 in_fourth ≡ true
unfolding in_fourth half_sine sines
all_in_fourth = refl

-- a step along a degree of another quarter leads less far than along an end of its own
abbrev IsLess : ℤ → ℤ → ℕ → Type 0
IsLess across ahead degree = (along across ahead degree <ℤ along across ahead 0) ⊎ (along across ahead degree <ℤ along across ahead 90)

ends : (across ahead : ℕ) → 0 < ahead → (along (pos across) (pos ahead) 0 ≡ pos (ahead * 10000)) × (along (pos across) (pos ahead) 90 ≡ pos (across * 10000))
unfolding half_sine sines
ends across ahead some = (omega (arith, ints), omega (arith, ints))

second : (across ahead sin cos : ℕ) → 0 < ahead → sin ≤ 10000 → 0 < cos → (pos across *ℤ pos sin +ℤ pos ahead *ℤ neg_ℤ (pos cos)) <ℤ pos (across * 10000)
second across ahead sin cos some most less =
    let one : across * sin ≤ across * 10000 = mul-le-mul_left across most in
    let two : 1 * 1 ≤ ahead * cos = mul-le-mul some less in
    let three : pos across *ℤ pos sin ≡ pos (across * sin) = pos-*ℤ-pos across sin in
    let four : pos ahead *ℤ neg_ℤ (pos cos) ≡ neg_ℤ (pos (ahead * cos)) = times_neg_pos ahead cos in
    omega (arith, ints, one, two, three, four)

third : (across ahead sin cos : ℕ) → 0 < ahead → (pos across *ℤ neg_ℤ (pos sin) +ℤ pos ahead *ℤ neg_ℤ (pos cos)) <ℤ pos (ahead * 10000)
third across ahead sin cos some =
    let three : pos across *ℤ neg_ℤ (pos sin) ≡ neg_ℤ (pos (across * sin)) = times_neg_pos across sin in
    let four : pos ahead *ℤ neg_ℤ (pos cos) ≡ neg_ℤ (pos (ahead * cos)) = times_neg_pos ahead cos in
    omega (arith, ints, three, four)

fourth : (across ahead sin cos : ℕ) → 0 < ahead → cos < 10000 → (pos across *ℤ neg_ℤ (pos sin) +ℤ pos ahead *ℤ pos cos) <ℤ pos (ahead * 10000)
fourth across ahead sin cos some less =
    let one : ahead * (cos + 1) ≤ ahead * 10000 = mul-le-mul_left ahead (omega (arith, less)) in
    let two : ahead * (cos + 1) ≡ ahead * cos + ahead * 1 = mul-add ahead cos 1 in
    let three : pos across *ℤ neg_ℤ (pos sin) ≡ neg_ℤ (pos (across * sin)) = times_neg_pos across sin in
    let four : pos ahead *ℤ pos cos ≡ pos (ahead * cos) = pos-*ℤ-pos ahead cos in
    omega (arith, ints, one, two, three, four)

led : (across ahead : ℕ) (degree : ℕ) (sin cos bound : ℤ) → sin4 degree ≡ sin → cos4 degree ≡ cos → (pos across *ℤ sin +ℤ pos ahead *ℤ cos) <ℤ bound → along (pos across) (pos ahead) degree <ℤ bound
led across ahead degree sin cos bound one two less =
    subst (λ n. (pos across *ℤ n +ℤ pos ahead *ℤ cos4 degree) <ℤ bound) (sym one) (subst (λ n. (pos across *ℤ sin +ℤ pos ahead *ℤ n) <ℤ bound) (sym two) less)

in_second_away : (across ahead place : ℕ) → 0 < ahead → place < 90 → IsLess (pos across) (pos ahead) (place + 91)
unfolding in_second
in_second_away across ahead place some inside =
    let one = and_parts _ _ (every_at 90 in_second all_in_second place inside) in
    let two = and_parts _ _ one.1 in
    let three = and_parts _ _ two.1 in
    inr (subst (λ n. along (pos across) (pos ahead) (place + 91) <ℤ n) (sym (ends across ahead some).1)
    (led across ahead (place + 91) _ _ _ (same_int _ _ one.0) (same_int _ _ three.0) (second across ahead (half_sine (place + 91)) (half_sine (place + 1)) some (leb-true _ _ two.0) (ltb-true _ _ three.1))))

in_third_away : (across ahead place : ℕ) → 0 < ahead → place < 90 → IsLess (pos across) (pos ahead) (place + 181)
unfolding in_third
in_third_away across ahead place some inside =
    let one = and_parts _ _ (every_at 90 in_third all_in_third place inside) in
    inl (subst (λ n. along (pos across) (pos ahead) (place + 181) <ℤ n) (sym (ends across ahead some).0)
    (led across ahead (place + 181) _ _ _ (same_int _ _ one.0) (same_int _ _ one.1) (third across ahead (half_sine (place + 1)) (half_sine (place + 91)) some)))

in_fourth_away : (across ahead place : ℕ) → 0 < ahead → place < 89 → IsLess (pos across) (pos ahead) (place + 271)
unfolding in_fourth
in_fourth_away across ahead place some inside =
    let one = and_parts _ _ (every_at 89 in_fourth all_in_fourth place inside) in
    let two = and_parts _ _ one.1 in
    inl (subst (λ n. along (pos across) (pos ahead) (place + 271) <ℤ n) (sym (ends across ahead some).0)
    (led across ahead (place + 271) _ _ _ (same_int _ _ one.0) (same_int _ _ two.0) (fourth across ahead (half_sine (place + 91)) (half_sine (place + 1)) some (ltb-true _ _ two.1))))

away : (across ahead degree : ℕ) → 0 < ahead → 90 < degree → degree < 360 → IsLess (pos across) (pos ahead) degree
away across ahead degree some behind inside =
    elim (cases_lt degree 181) [
      | inl less ↦ at 91 (degree - 91) (omega (arith, behind)) (in_second_away across ahead (degree - 91) some (omega (arith, behind, less)))
      | inr more ↦ elim (cases_lt degree 271) [
        | inl less ↦ at 181 (degree - 181) (omega (arith, more)) (in_third_away across ahead (degree - 181) some (omega (arith, more, less)))
        | inr most ↦ at 271 (degree - 271) (omega (arith, most)) (in_fourth_away across ahead (degree - 271) some (omega (arith, most, inside)))
      ]
    ]
  where
    at : (first place : ℕ) → place + first ≡ degree → IsLess (pos across) (pos ahead) (place + first) → IsLess (pos across) (pos ahead) degree
    at first place is less = subst (IsLess (pos across) (pos ahead)) is less

less_less : (x y z : ℤ) → x <ℤ y → y <ℤ z → x <ℤ z
less_less x y z one two = omega (arith, ints, one, two)

most_most : (x y z : ℤ) → x ≤ℤ y → y ≤ℤ z → x ≤ℤ z
most_most x y z one two = omega (arith, ints, one, two)

climb : (f : ℕ → ℤ) (low count : ℕ) → ((place : ℕ) → place < low + suc count → f place <ℤ f (place + 1)) → f low <ℤ f (low + suc count)
climb f low zero rises =
    let at : low + 1 ≡ low + suc zero = omega arith in
    subst (λ n. f low <ℤ f n) at (rises low (omega arith))
climb f low (suc count) rises =
    let before = climb f low count (λ place less. rises place (omega (arith, less))) in
    let last = rises (low + suc count) (omega arith) in
    let at : low + suc count + 1 ≡ low + suc (suc count) = omega arith in
    subst (λ n. f low <ℤ f n) at (less_less (f low) (f (low + suc count)) (f (low + suc count + 1)) before last)

decline : (f : ℕ → ℤ) (low count : ℕ) → ((place : ℕ) → low ≤ place → place < low + count → f (place + 1) ≤ℤ f place) → f (low + count) ≤ℤ f low
decline f low zero falls =
    let at : low ≡ low + zero = omega arith in
    let here : f low ≤ℤ f low = omega (arith, ints) in
    subst (λ n. f n ≤ℤ f low) at here
decline f low (suc count) falls =
    let before = decline f low count (λ place more less. falls place more (omega (arith, less))) in
    let last = falls (low + count) (omega arith) (omega arith) in
    let at : low + count + 1 ≡ low + suc count = omega arith in
    subst (λ n. f n ≤ℤ f low) at (most_most (f (low + count + 1)) (f (low + count)) (f low) last before)

-- how far a step leads along a degree, to how far along the best of its quarter
record IsReached (f : ℕ → ℤ) (place degree : ℕ) : Type 0 where
  most : f degree ≤ℤ f place
  before : degree < place → f degree <ℤ f place
  beside : 90 < degree → f degree <ℤ f place

quarter_most : (across ahead : ℕ) (place : ℕ) → 0 < ahead → place ≤ 90 → IsSought (pos across) (pos ahead) place place → (degree : ℕ) → degree < 360 → IsReached (along (pos across) (pos ahead)) place degree
quarter_most across ahead place some within sought degree inside =
    elim (cases_lt degree place) [
      | inl less ↦ let there = rising degree less in record { most = omega (arith, ints, there); before = λ it. there; beside = λ it. absurd (omega (arith, it, less, within)) }
      | inr more ↦ elim (cases_lt 90 degree) [
        | inl far ↦ let there = farther far in record { most = omega (arith, ints, there); before = λ it. there; beside = λ it. there }
        | inr near ↦ record { most = falling degree more near; before = λ it. absurd (omega (arith, it, more)); beside = λ it. absurd (omega (arith, it, near)) }
      ]
    ]
  where
    rising : (degree : ℕ) → degree < place → along (pos across) (pos ahead) degree <ℤ along (pos across) (pos ahead) place
    rising degree less =
        let at : degree + suc (place - degree - 1) ≡ place = omega (arith, less) in
        subst (λ n. along (pos across) (pos ahead) degree <ℤ along (pos across) (pos ahead) n) at
        (climb (along (pos across) (pos ahead)) degree (place - degree - 1) (λ at before. sought.rises at (omega (arith, before, less))))

    falling : (degree : ℕ) → place ≤ degree → degree ≤ 90 → along (pos across) (pos ahead) degree ≤ℤ along (pos across) (pos ahead) place
    falling degree more near =
        let at : place + (degree - place) ≡ degree = omega (arith, more) in
        subst (λ n. along (pos across) (pos ahead) n ≤ℤ along (pos across) (pos ahead) place) at
        (decline (along (pos across) (pos ahead)) place (degree - place) (λ at behind less. sought.falls at behind (omega (arith, less, more, near))))

    first : along (pos across) (pos ahead) 0 ≤ℤ along (pos across) (pos ahead) place
    first = elim (cases_lt 0 place) [ inl less ↦ let it = rising 0 less in omega (arith, ints, it) | inr none ↦ falling 0 none (omega arith) ]

    farther : 90 < degree → along (pos across) (pos ahead) degree <ℤ along (pos across) (pos ahead) place
    farther far =
        let last = falling 90 within (omega arith) in
        elim (away across ahead degree some far inside) [ inl less ↦ omega (arith, ints, less, first) | inr less ↦ omega (arith, ints, less, last) ]

-- the degree of a quarter that this one is of all
own_degree : (number degree : ℕ) → number < 4 → degree < 360 → (own : ℕ) × (own < 360) × ((own + 90 * number) % 360 ≡ degree) × ((own + 90 * number ≡ degree) ⊎ (own + 90 * number ≡ degree + 360))
own_degree number degree few inside =
    elim (cases_lt degree (90 * number)) [
      | inl less ↦ (degree + 360 - 90 * number, omega (arith, less, inside), omega (arith, less, inside, few), inr (omega (arith, less, few)))
      | inr more ↦ (degree - 90 * number, omega (arith, more, inside), omega (arith, more, inside), inl (omega (arith, more)))
    ]

-- the same of all degrees
all_most : (dx dy : ℤ) (across ahead number place : ℕ) → number < 4 → 0 < ahead → place ≤ 90 →
    ((degree : ℕ) → degree < 360 → along dx dy ((degree + 90 * number) % 360) ≡ along (pos across) (pos ahead) degree) → IsSought (pos across) (pos ahead) place place → (degree : ℕ) → degree < 360 →
    (along dx dy degree ≤ℤ along dx dy ((place + 90 * number) % 360)) × (0 < degree → degree < (place + 90 * number) % 360 → along dx dy degree <ℤ along dx dy ((place + 90 * number) % 360))
all_most dx dy across ahead number place few some within turned sought degree inside =
    let own = own_degree number degree few inside in
    let most = quarter_most across ahead place some within sought own.0 own.1 in
    let here : along dx dy degree ≡ along (pos across) (pos ahead) own.0 = ap (along dx dy) (sym own.2) ∙ turned own.0 own.1 in
    let best : along dx dy ((place + 90 * number) % 360) ≡ along (pos across) (pos ahead) place = turned place (omega (arith, within)) in
    let reached = most.most in (
      omega (arith, ints, here, best, reached),
      λ some less. elim own.3 [
        | inl same ↦ (let it = most.before (omega (arith, same, some, less, within, few)) in omega (arith, ints, here, best, it))
        | inr past ↦ (let it = most.beside (omega (arith, past, some, less, within, few)) in omega (arith, ints, here, best, it))
      ],
    )

pub first_most : (dx dy across ahead : ℤ) (number place best : ℕ) → number < 4 → pos 0 ≤ℤ across → pos 0 <ℤ ahead → place ≤ 90 →
    ((degree : ℕ) → degree < 360 → along dx dy ((degree + 90 * number) % 360) ≡ along across ahead degree) → IsSought across ahead place place →
    best ≡ (if int_lt (along dx dy 0) (along dx dy ((place + 90 * number) % 360)) then (place + 90 * number) % 360 else 0) → IsFirstMost (along dx dy) 360 best
first_most dx dy across ahead number place best few a b within turned sought is = by (int_lt (along dx dy 0) (along dx dy ((place + 90 * number) % 360))) refl is
  where
    one : across ≡ pos (nat_abs across)
    one = omega (arith, ints, a)

    two : ahead ≡ pos (nat_abs ahead)
    two = omega (arith, ints, b)

    all : (degree : ℕ) → degree < 360 →
        (along dx dy degree ≤ℤ along dx dy ((place + 90 * number) % 360)) × (0 < degree → degree < (place + 90 * number) % 360 → along dx dy degree <ℤ along dx dy ((place + 90 * number) % 360))
    all = all_most dx dy (nat_abs across) (nat_abs ahead) number place few (omega (arith, ints, b)) within
        (λ degree inside. turned degree inside ∙ same_parts across ahead (pos (nat_abs across)) (pos (nat_abs ahead)) degree (sym one) (sym two))
        (same_sought (pos (nat_abs across)) (pos (nat_abs ahead)) across ahead place place one two sought)

    first : (degree : ℕ) → degree < (place + 90 * number) % 360 → along dx dy 0 <ℤ along dx dy ((place + 90 * number) % 360) → along dx dy degree <ℤ along dx dy ((place + 90 * number) % 360)
    first zero less rises = rises
    first (suc degree) less rises = (all (suc degree) (omega (arith, less))).1 (omega arith) less

    by : (b : Bool) → int_lt (along dx dy 0) (along dx dy ((place + 90 * number) % 360)) ≡ b → best ≡ (if b then (place + 90 * number) % 360 else 0) → IsFirstMost (along dx dy) 360 best
    by true holds is = subst (IsFirstMost (along dx dy) 360) (sym is) (record {
      inside = omega arith;
      most = λ degree inside. (all degree inside).0;
      first = λ degree less. first degree less (below _ _ holds);
    })
    by false holds is = subst (IsFirstMost (along dx dy) 360) (sym is) (record {
      inside = omega arith;
      most = λ degree inside. most_most (along dx dy degree) (along dx dy ((place + 90 * number) % 360)) (along dx dy 0) (all degree inside).0 (not_below _ _ holds);
      first = λ degree less. absurd (omega (arith, less));
    })

one_first : (f : ℕ → ℤ) (count one other : ℕ) → IsFirstMost f count one → IsFirstMost f count other → one ≡ other
one_first f count one other first second =
    elim (cases_lt one other) [
      | inl less ↦ (let it = second.first one less in let that = first.most other second.inside in absurd (omega (arith, ints, it, that)))
      | inr more ↦ elim (cases_lt other one) [
        | inl less ↦ (let it = first.first other less in let that = second.most one first.inside in absurd (omega (arith, ints, it, that)))
        | inr same ↦ omega (arith, more, same)
      ]
    ]

-- the first of all degrees along which a step leads farthest is the definition's
farthest_first : (dx dy : ℤ) (best : ℕ) → IsFirstMost (along dx dy) 360 best → best ≡ farthest dx dy 360
farthest_first dx dy best first = one_first (along dx dy) 360 best (farthest dx dy 360) first (farthest_is dx dy 359)

pub bearing_is : (dx dy : ℤ) (best : ℕ) → (int_eq dx (pos 0) && int_eq dy (pos 0)) ≡ false → IsFirstMost (along dx dy) 360 best → Some best ≡ bearing dx dy
bearing_is dx dy best some first = ap Some (farthest_first dx dy best first) ∙ ap (λ b. if b then None else Some (farthest dx dy 360)) (sym some)

pub not_both : (x y : ℤ) → (x ≡ pos 0 → y ≡ pos 0 → ⊥) → (int_eq x (pos 0) && int_eq y (pos 0)) ≡ false
not_both x y apart = by (int_eq x (pos 0)) (int_eq y (pos 0)) refl refl
  where
    by : (b c : Bool) → int_eq x (pos 0) ≡ b → int_eq y (pos 0) ≡ c → (b && c) ≡ false
    by false c one two = refl
    by true false one two = refl
    by true true one two = absurd (apart (same_int x (pos 0) one) (same_int y (pos 0) two))

-- the same for parts that are equal
pub same_most : (dx dy x y : ℤ) (best : ℕ) → x ≡ dx → y ≡ dy → IsFirstMost (along x y) 360 best → IsFirstMost (along dx dy) 360 best
same_most dx dy x y best one two most = subst (λ n. IsFirstMost (along n dy) 360 best) one (subst (λ n. IsFirstMost (along x n) 360 best) two most)
