-- The nearest place is one of three: the first, the first of those below the number with the greatest number, the first of the others.
use Rattle.std.proofs.Common.{◌≡◌, ℕ, Bool, zero, suc, true, false, ◌+◌, ◌-◌, ◌*◌, ◌/◌, ◌^◌, ◌<◌, ◌≤◌, ◌⊎◌, inl, inr, ℤ, pos, negsuc, neg_ℤ, ◌-ℤ◌, ◌*ℤ◌, ◌<ℤ◌, ◌≤ℤ◌, nat_abs, to_z, of_z, w64, refl, sym, ◌∙◌, ap, subst, arith}
use Rattle.std.proofs.Math.Nat.{div-le_of_le-mul, div-mul-le_self, le-div_iff_mul-le, mul-le-mul}
use Rattle.std.proofs.lemmas.Bool.{and_parts, cases_lt, cases_Bool, lt-ltb, le-ltb}
use Rattle.std.proofs.lemmas.Bool.Decides.{nat_tests, Decides-int_eq}
use Rattle.std.proofs.lemmas.Int.{ints}
use Rattle.std.specs.Int.{abs_diff}
use Rattle.std.specs.List.{fold}
use Rattle.std.specs.Ordering.{int_eq}
use Rattle.std.specs.Prelude.{codes, min, if◌then◌else◌, ◌&&◌}
use Rattle.std.specs.Str.{bytes_eq}
use Rattle.ivp_domain.specs.declared.axis.Axis.{Axis}
use Rattle.ivp_domain.specs.Axes.{is_end, is_good_axis, value_on}
use Rattle.ivp_domain.specs.Boxes.{numbers_from}
use Rattle.ivp_build.specs.Places.{course_of, last_place, miss, near, nearer, shorter_way, wraps}
use Rattle.ivp_build.proofs.Circles.{circle_way, course_within}

-- the least of a list by a measure, the first of several
first_kept : (m : ℕ → ℕ) (a b : ℕ) → m a ≤ m b → nearer m a b ≡ a
first_kept m a b h = rw (le-ltb (m b) (m a) h) refl

second_taken : (m : ℕ → ℕ) (a b : ℕ) → m b < m a → nearer m a b ≡ b
second_taken m a b h = rw (lt-ltb (m b) (m a) h) refl

-- the same, where both measures are known
pub first_nearer : (m : ℕ → ℕ) (x y a b : ℕ) → x ≡ m b → y ≡ m a → y ≤ x → a ≡ nearer m a b
first_nearer m x y a b e e' h = sym (first_kept m a b (omega arith))

pub second_nearer : (m : ℕ → ℕ) (x y a b : ℕ) → x ≡ m b → y ≡ m a → x < y → b ≡ nearer m a b
second_nearer m x y a b e e' h = sym (second_taken m a b (omega arith))

-- how far a number is from that at a place
pub miss_round : (axis : Axis) (number : ℤ) (place : ℕ) → wraps axis ≡ true → miss axis number place ≡ shorter_way 360000 (nat_abs (value_on axis place -ℤ number))
miss_round axis number place h = rw h refl

pub miss_along : (axis : Axis) (number : ℤ) (place : ℕ) → wraps axis ≡ false → miss axis number place ≡ nat_abs (value_on axis place -ℤ number)
miss_along axis number place h = rw h refl

abbrev least_from : (ℕ → ℕ) → ℕ → ℕ → ℕ → ℕ
least_from m low count best = fold (nearer m) best (numbers_from low count)

stays : (m : ℕ → ℕ) (best low count : ℕ) → ((j : ℕ) → low ≤ j → j < low + count → m best ≤ m j) → fold (nearer m) best (numbers_from low count) ≡ best
stays m best low zero least = refl
stays m best low (suc count) least =
    ap (least_from m (suc low) count) (first_kept m best low (least low (omega arith) (omega arith))) ∙ stays m best (suc low) count (λ j h h'. least j (omega arith) (omega arith))

moves : (m : ℕ → ℕ) (best r low count : ℕ) → ((j : ℕ) → low ≤ j → j < low + count → m r ≤ m j) → ((j : ℕ) → low ≤ j → j < r → m r < m j) → low ≤ r → r < low + count → m r < m best
    → fold (nearer m) best (numbers_from low count) ≡ r
moves m best r low zero least first h h' less = absurd (omega arith)
moves m best r low (suc count) least first h h' less = elim (cases_lt low r) [
  | inl before ↦
      let here = first low (omega arith) before in
      elim (cases_lt (m low) (m best)) [
        | inl lower ↦ ap (least_from m (suc low) count) (second_taken m best low lower)
            ∙ moves m low r (suc low) count (λ j a b. least j (omega arith) (omega arith)) (λ j a b. first j (omega arith) b) before (omega arith) here
        | inr higher ↦ ap (least_from m (suc low) count) (first_kept m best low higher)
            ∙ moves m best r (suc low) count (λ j a b. least j (omega arith) (omega arith)) (λ j a b. first j (omega arith) b) before (omega arith) less
      ]
  | inr there ↦
      let same : r ≡ low = omega arith in
      let lower : m low < m best = subst (λ k. m k < m best) same less in
      ap (least_from m (suc low) count) (second_taken m best low lower)
      ∙ (stays m low (suc low) count (λ j a b. subst (λ k. m k ≤ m j) same (least j (omega arith) (omega arith))) ∙ sym same)
]

least_is : (m : ℕ → ℕ) (count r : ℕ) → r < count → ((j : ℕ) → j < count → m r ≤ m j) → ((j : ℕ) → j < r → m r < m j) → fold (nearer m) 0 (numbers_from 0 count) ≡ r
least_is m count r h least first = elim (cases_lt 0 r) [
  | inl some ↦ moves m 0 r 0 count (λ j a b. least j (omega arith)) (λ j a b. first j b) (omega arith) (omega arith) (first 0 some)
  | inr none ↦ let same : r ≡ 0 = omega arith in stays m 0 0 count (λ j a b. subst (λ k. m k ≤ m j) same (least j (omega arith))) ∙ sym same
]

-- three candidates, to one of which each other place is no nearer
record Three (m : ℕ → ℕ) (count below above : ℕ) : Type 0 where
  order : below ≤ above
  inside : above < count
  low : (j : ℕ) → j < below → (m below < m j) ⊎ (m 0 ≤ m j)
  level : (j : ℕ) → below ≤ j → j < above → m j ≡ m below
  high : (j : ℕ) → above ≤ j → j < count → (m above ≤ m j) ⊎ (m 0 ≤ m j)

record Chosen (m : ℕ → ℕ) (below above r : ℕ) : Type 0 where
  within : r ≤ above
  to_zero : m r ≤ m 0
  to_below : m r ≤ m below
  to_above : m r ≤ m above
  first : 0 < r → m r < m 0
  second : below < r → m r < m below

chosen : (m : ℕ → ℕ) (below above : ℕ) → below ≤ above → Chosen m below above (nearer m (nearer m 0 below) above)
chosen m below above order = elim (cases_lt (m below) (m 0)) [
  | inl b ↦ rw (lt-ltb (m below) (m 0) b) (elim (cases_lt (m above) (m below)) [
    | inl a ↦ rw (lt-ltb (m above) (m below) a) (record { within = omega arith; to_zero = omega arith; to_below = omega arith; to_above = omega arith; first = λ h. omega arith; second = λ h. omega arith })
    | inr a ↦ rw (le-ltb (m above) (m below) a) (record { within = order; to_zero = omega arith; to_below = omega arith; to_above = omega arith; first = λ h. omega arith; second = λ h. absurd (omega arith) })
  ])
  | inr b ↦ rw (le-ltb (m below) (m 0) b) (elim (cases_lt (m above) (m 0)) [
    | inl a ↦ rw (lt-ltb (m above) (m 0) a) (record { within = omega arith; to_zero = omega arith; to_below = omega arith; to_above = omega arith; first = λ h. omega arith; second = λ h. omega arith })
    | inr a ↦ rw (le-ltb (m above) (m 0) a) (record { within = omega arith; to_zero = omega arith; to_below = omega arith; to_above = omega arith; first = λ h. absurd (omega arith); second = λ h. absurd (omega arith) })
  ])
]

chosen_is : (m : ℕ → ℕ) (count below above r : ℕ) → Three m count below above → Chosen m below above r → fold (nearer m) 0 (numbers_from 0 count) ≡ r
chosen_is m count below above r t c =
    let order = t.order in
    let inside = t.inside in
    let within = c.within in
    let to_zero = c.to_zero in
    let to_below = c.to_below in
    let to_above = c.to_above in
    least_is m count r (omega arith)
    (λ j h. elim (cases_lt j below) [
      | inl b ↦ elim (t.low j b) [
        | inl x ↦ omega arith
        | inr x ↦ omega arith
      ]
      | inr b ↦ elim (cases_lt j above) [
        | inl a ↦ let same = t.level j b a in omega arith
        | inr a ↦ elim (t.high j a h) [
          | inl x ↦ omega arith
          | inr x ↦ omega arith
        ]
      ]
    ])
    (λ j h. elim (cases_lt j below) [
      | inl b ↦ elim (t.low j b) [
        | inl x ↦ omega arith
        | inr x ↦ let first = c.first (omega arith) in omega arith
      ]
      | inr b ↦ let same = t.level j b (omega arith) in let second = c.second (omega arith) in omega arith
    ])

-- the values on an axis rise
abbrev part_on : Axis → ℕ → ℕ
part_on axis place = place * nat_abs (axis.high -ℤ axis.low) / (axis.points - 1)

part_rises : (axis : Axis) (i j : ℕ) → 2 ≤ axis.points → i ≤ j → part_on axis i ≤ part_on axis j
part_rises axis i j h le =
    let span = nat_abs (axis.high -ℤ axis.low) in
    let one = div-mul-le_self (i * span) (axis.points - 1) in
    let two = mul-le-mul {n₁ = i} {m₁ = span} {n₂ = j} {m₂ = span} le (omega arith) in
    (le-div_iff_mul-le {k = axis.points - 1} {x = part_on axis i} {y = j * span} (omega arith)).1 (omega arith)

part_within : (axis : Axis) (i : ℕ) → 2 ≤ axis.points → i < axis.points → part_on axis i ≤ nat_abs (axis.high -ℤ axis.low)
part_within axis i h inside =
    let span = nat_abs (axis.high -ℤ axis.low) in
    div-le_of_le-mul (axis.points - 1) (mul-le-mul {n₁ = i} {m₁ = span} {n₂ = axis.points - 1} {m₂ = span} (omega arith) (omega arith))

two_points : (axis : Axis) → is_good_axis axis ≡ true → 2 ≤ axis.points
two_points axis h = grind (arith, nat_tests, ints)

value_rises : (axis : Axis) (i j : ℕ) → 2 ≤ axis.points → i ≤ j → value_on axis i ≤ℤ value_on axis j
value_rises axis i j h le = let part = part_rises axis i j h le in omega (arith, ints)

pub value_within : (axis : Axis) (i : ℕ) → is_good_axis axis ≡ true → i < axis.points → is_end (value_on axis i) ≡ true
value_within axis i good inside = by (part_within axis i (two_points axis good) inside)
  where
    by : part_on axis i ≤ nat_abs (axis.high -ℤ axis.low) → is_end (value_on axis i) ≡ true
    by part = grind (arith, nat_tests, ints)

-- a number of 64 bits that is an end
pub end_cast : (v : ℤ) → is_end v ≡ true → to_z w64 (of_z w64 v) ≡ v
end_cast v h = by (grind (arith, nat_tests, ints)) (grind (arith, nat_tests, ints))
  where
    by : neg_ℤ (pos (10 ^ 12)) ≤ℤ v → v ≤ℤ pos (10 ^ 12) → to_z w64 (of_z w64 v) ≡ v
    by a b = omega (arith, ints)

-- where the places about a number lie
pub record Around (axis : Axis) (sought : ℤ) (below above : ℕ) : Type 0 where
  pub under : (j : ℕ) → j < above → value_on axis j <ℤ sought
  pub over : above < axis.points - 1 → sought ≤ℤ value_on axis above
  pub inside : above < axis.points
  pub none : above ≡ 0 → below ≡ 0
  pub less : (j : ℕ) → j < below → value_on axis j <ℤ value_on axis (above - 1)
  pub reached : 0 < above → below < axis.points - 1 → value_on axis (above - 1) ≤ℤ value_on axis below
  pub within : below < axis.points

-- below the greatest of them, with its number, and beyond
record Ordered (axis : Axis) (sought : ℤ) (below above : ℕ) : Type 0 where
  order : below ≤ above
  strict : 0 < above → below < above
  inside : above < axis.points
  rising : (j : ℕ) → j < below → value_on axis j <ℤ value_on axis below
  under : (j : ℕ) → j < above → value_on axis j <ℤ sought
  level : (j : ℕ) → below ≤ j → j < above → value_on axis j ≡ value_on axis below
  high : (j : ℕ) → above ≤ j → j < axis.points → (j ≡ above) ⊎ ((sought ≤ℤ value_on axis above) × (value_on axis above ≤ℤ value_on axis j))

below_less : (a b c : ℤ) → a <ℤ b → b ≤ℤ c → a <ℤ c
below_less a b c h h' = omega (arith, ints)

same_from : (a b c : ℤ) → a ≤ℤ b → b ≤ℤ c → c ≤ℤ a → b ≡ a
same_from a b c h h' h'' = omega (arith, ints)

not_less : (a : ℤ) → a <ℤ a → ⊥
not_less a h = omega (arith, ints)

strictly : (axis : Axis) (sought : ℤ) (below above : ℕ) → Around axis sought below above → 0 < above → below < above
strictly axis sought below above a some = elim (cases_lt below above) [
  | inl h ↦ h
  | inr h ↦ absurd (not_less (value_on axis (above - 1)) (a.less (above - 1) (omega arith)))
]

ordered : (axis : Axis) (sought : ℤ) (below above : ℕ) → 2 ≤ axis.points → Around axis sought below above → Ordered axis sought below above
ordered axis sought below above two a = record {
  order = elim (cases_lt 0 above) [
    | inl some ↦ let strict = strictly axis sought below above a some in omega arith
    | inr none ↦ let same = a.none (omega arith) in omega arith
  ];
  strict = strictly axis sought below above a;
  inside = a.inside;
  rising = λ j h. elim (cases_lt 0 above) [
    | inl some ↦ let strict = strictly axis sought below above a some in let inside = a.inside in
        below_less (value_on axis j) (value_on axis (above - 1)) (value_on axis below) (a.less j h) (a.reached some (omega arith))
    | inr none ↦ let same = a.none (omega arith) in absurd (omega arith)
  ];
  under = a.under;
  level = λ j h h'. let strict = strictly axis sought below above a (omega arith) in let inside = a.inside in
      same_from (value_on axis below) (value_on axis j) (value_on axis (above - 1)) (value_rises axis below j two h) (value_rises axis j (above - 1) two (omega arith)) (a.reached (omega arith) (omega arith));
  high = λ j h h'. elim (cases_lt above (axis.points - 1)) [
    | inl more ↦ inr (a.over more, value_rises axis above j two h)
    | inr last ↦ inl (omega arith)
  ];
}

-- on a line
farther_below : (a b n : ℤ) → a <ℤ b → b <ℤ n → nat_abs (b -ℤ n) < nat_abs (a -ℤ n)
farther_below a b n h h' = grind (arith, ints)

farther_above : (a b n : ℤ) → n ≤ℤ a → a ≤ℤ b → nat_abs (a -ℤ n) ≤ nat_abs (b -ℤ n)
farther_above a b n h h' = grind (arith, ints)

on_line : (axis : Axis) (number : ℤ) (below above : ℕ) → Ordered axis number below above → Three (λ place. nat_abs (value_on axis place -ℤ number)) axis.points below above
on_line axis number below above o = record {
  order = o.order;
  inside = o.inside;
  low = λ j h. let order = o.order in let strict = o.strict in inl (farther_below (value_on axis j) (value_on axis below) number (o.rising j h) (o.under below (strict (omega arith))));
  level = λ j h h'. ap (λ v. nat_abs (v -ℤ number)) (o.level j h h');
  high = λ j h h'. elim (o.high j h h') [
    | inl same ↦ inl (subst (λ k. nat_abs (value_on axis above -ℤ number) ≤ nat_abs (value_on axis k -ℤ number)) (sym same) (omega arith))
    | inr over ↦ inl (farther_above (value_on axis above) (value_on axis j) number over.0 over.1)
  ];
}

circle_low : (j b z r : ℕ) → j < b → b < r → r < 360000 → z ≡ 0
    → (min (abs_diff b r) (360000 - abs_diff b r) < min (abs_diff j r) (360000 - abs_diff j r)) ⊎ (min (abs_diff z r) (360000 - abs_diff z r) ≤ min (abs_diff j r) (360000 - abs_diff j r))
circle_low j b z r h h' h'' e = elim (cases_lt (min (abs_diff b r) (360000 - abs_diff b r)) (min (abs_diff j r) (360000 - abs_diff j r))) [
  | inl less ↦ inl less
  | inr more ↦ inr (omega arith)
]

circle_high : (j a z r : ℕ) → r ≤ a → a ≤ j → j < 360000 → z ≡ 0
    → (min (abs_diff a r) (360000 - abs_diff a r) ≤ min (abs_diff j r) (360000 - abs_diff j r)) ⊎ (min (abs_diff z r) (360000 - abs_diff z r) ≤ min (abs_diff j r) (360000 - abs_diff j r))
circle_high j a z r h h' h'' e = elim (cases_lt (min (abs_diff j r) (360000 - abs_diff j r)) (min (abs_diff a r) (360000 - abs_diff a r))) [
  | inr more ↦ inl more
  | inl less ↦ inr (omega arith)
]

-- the axis of a whole circle
high_small : (high : ℤ) (n : ℕ) → 0 < n → high *ℤ pos n ≡ pos (360000 * (n - 1)) → high <ℤ pos 360000
high_small (pos h) n some e = elim (cases_lt h 360000) [
  | inl small ↦ omega (arith, ints)
  | inr large ↦ let product = mul-le-mul {n₁ = 360000} {m₁ = n} {n₂ = h} {m₂ = n} large (omega arith) in absurd (omega (arith, ints))
]
high_small (negsuc h) n some e = omega (arith, ints)

record IsCircle (axis : Axis) : Type 0 where
  low : axis.low ≡ pos 0
  span : nat_abs (axis.high -ℤ axis.low) < 360000

span_small : (low high : ℤ) → low ≡ pos 0 → low <ℤ high → high <ℤ pos 360000 → nat_abs (high -ℤ low) < 360000
span_small low high e h h' = grind (arith, ints)

low_high : (axis : Axis) → is_good_axis axis ≡ true → axis.low <ℤ axis.high
low_high axis h = grind (arith, nat_tests, ints)

circle_parts : (axis : Axis) → is_good_axis axis ≡ true → wraps axis ≡ true → IsCircle axis
circle_parts axis good e =
    let product = int_eq (axis.high *ℤ pos axis.points) (pos (360000 * last_place axis)) in
    let two = and_parts (bytes_eq axis.name (codes "course") && int_eq axis.low (pos 0)) product e in
    let one = and_parts (bytes_eq axis.name (codes "course")) (int_eq axis.low (pos 0)) two.0 in
    let low = (Decides-int_eq axis.low (pos 0)).0 one.1 in
    let whole = (Decides-int_eq (axis.high *ℤ pos axis.points) (pos (360000 * last_place axis))).0 two.1 in
    let points = two_points axis good in
    record { low = low; span = span_small axis.low axis.high low (low_high axis good) (high_small axis.high axis.points (omega arith) whole) }

value_part : (axis : Axis) (j : ℕ) → axis.low ≡ pos 0 → value_on axis j ≡ pos (part_on axis j)
value_part axis j e = omega (arith, ints)

part_first : (axis : Axis) → 2 ≤ axis.points → part_on axis 0 ≡ 0
part_first axis h =
    let none : part_on axis 0 ≤ 0 = div-le_of_le-mul (axis.points - 1) {m = 0 * nat_abs (axis.high -ℤ axis.low)} {n = 0} (omega arith) in
    omega arith

less_parts : (a b : ℕ) (x y : ℤ) → x ≡ pos a → y ≡ pos b → x <ℤ y → a < b
less_parts a b x y e e' h = omega (arith, ints)

most_parts : (a b : ℕ) (x y : ℤ) → x ≡ pos a → y ≡ pos b → x ≤ℤ y → a ≤ b
most_parts a b x y e e' h = omega (arith, ints)

abbrev on_way : Axis → ℤ → ℕ → ℕ
on_way axis number place = shorter_way 360000 (nat_abs (value_on axis place -ℤ number))

abbrev way_to : ℕ → ℕ → ℕ
way_to r v = min (abs_diff v r) (360000 - abs_diff v r)

on_circle : (axis : Axis) (number : ℤ) (below above : ℕ) → is_good_axis axis ≡ true → IsCircle axis → Ordered axis (pos (course_of number)) below above → Three (on_way axis number) axis.points below above
on_circle axis number below above good c o = record {
  order = o.order;
  inside = o.inside;
  low = λ j h.
      let order = o.order in
      let inside = o.inside in
      let strict = o.strict (omega arith) in
      rw (way j (omega arith), way below (omega arith), way 0 (omega arith))
      (circle_low (part_on axis j) (part_on axis below) (part_on axis 0) r
      (less_parts (part_on axis j) (part_on axis below) (value_on axis j) (value_on axis below) (at j) (at below) (o.rising j h))
      (less_parts (part_on axis below) r (value_on axis below) (pos r) (at below) refl (o.under below strict)) (course_within number) (part_first axis two));
  level = λ j h h'. ap (λ v. shorter_way 360000 (nat_abs (v -ℤ number))) (o.level j h h');
  high = λ j h h'. elim (o.high j h h') [
    | inl same ↦ inl (subst (λ k. on_way axis number above ≤ on_way axis number k) (sym same) (omega arith))
    | inr over ↦
        let inside = o.inside in
        let part = part_within axis j two h' in
        let span = c.span in
        rw (way j h', way above inside, way 0 (omega arith))
        (circle_high (part_on axis j) (part_on axis above) (part_on axis 0) r (most_parts r (part_on axis above) (pos r) (value_on axis above) refl (at above) over.0)
        (most_parts (part_on axis above) (part_on axis j) (value_on axis above) (value_on axis j) (at above) (at j) over.1) (omega arith) (part_first axis two))
  ];
}
  where
    two : 2 ≤ axis.points
    two = two_points axis good

    r : ℕ
    r = course_of number

    at : (j : ℕ) → value_on axis j ≡ pos (part_on axis j)
    at j = value_part axis j c.low

    way : (j : ℕ) → j < axis.points → on_way axis number j ≡ way_to (course_of number) (part_on axis j)
    way j h =
        let part = part_within axis j two h in
        let span = c.span in
        ap (λ v. shorter_way 360000 (nat_abs (v -ℤ number))) (at j) ∙ circle_way (part_on axis j) number (omega arith)

-- so the nearest place is the one that is chosen of the three
pub near_is : (axis : Axis) (number : ℤ) (below above : ℕ) → is_good_axis axis ≡ true → Around axis (if wraps axis then pos (course_of number) else number) below above
    → nearer (miss axis number) (nearer (miss axis number) 0 below) above ≡ near axis number
near_is axis number below above good a = elim (cases_Bool (wraps axis)) [
  | inl round ↦
      let same : miss axis number ≡ on_way axis number = ap (λ b. λ (place : ℕ). if b then on_way axis number place else nat_abs (value_on axis place -ℤ number)) round in
      let around = subst (λ (b : Bool). Around axis (if b then pos (course_of number) else number) below above) round a in
      by (on_way axis number) same (on_circle axis number below above good (circle_parts axis good round) (ordered axis (pos (course_of number)) below above (two_points axis good) around))
  | inr plain ↦
      let same : miss axis number ≡ (λ place. nat_abs (value_on axis place -ℤ number)) = ap (λ b. λ (place : ℕ). if b then on_way axis number place else nat_abs (value_on axis place -ℤ number)) plain in
      let around = subst (λ (b : Bool). Around axis (if b then pos (course_of number) else number) below above) plain a in
      by (λ place. nat_abs (value_on axis place -ℤ number)) same (on_line axis number below above (ordered axis number below above (two_points axis good) around))
]
  where
    by : (m : ℕ → ℕ) → miss axis number ≡ m → Three m axis.points below above → nearer (miss axis number) (nearer (miss axis number) 0 below) above ≡ near axis number
    by m same t =
        let t' = subst (λ (k : ℕ → ℕ). Three k axis.points below above) (sym same) t in
        sym (chosen_is (miss axis number) axis.points below above (nearer (miss axis number) (nearer (miss axis number) 0 below) above) t' (chosen (miss axis number) below above t'.order))

-- what is known of the places about a number, of the same axis and number
pub around : (axis along : Axis) (sought number : ℤ) (count below above : ℕ) → along ≡ axis → along.points ≡ count → sought ≡ number → ((j : ℕ) → j < above → value_on along j <ℤ sought)
    → (above < along.points - 1 → sought ≤ℤ value_on along above) → above < along.points → (above ≡ 0 → below ≡ 0) → ((j : ℕ) → j < below → value_on axis j <ℤ value_on axis (above - 1))
    → (0 < above → below < count - 1 → value_on axis (above - 1) ≤ℤ value_on axis below) → below < count → Around axis number below above
around axis along sought number count below above e n s under over inside none less reached within =
    let points : axis.points ≡ count = ap (λ (a : Axis). a.points) (sym e) ∙ n in
    record {
      under = subst (λ (a : Axis). (j : ℕ) → j < above → value_on a j <ℤ number) e (subst (λ (k : ℤ). (j : ℕ) → j < above → value_on along j <ℤ k) s under);
      over = subst (λ (a : Axis). above < a.points - 1 → number ≤ℤ value_on a above) e (subst (λ (k : ℤ). above < along.points - 1 → k ≤ℤ value_on along above) s over);
      inside = subst (λ (a : Axis). above < a.points) e inside;
      none = none;
      less = less;
      reached = λ some before. reached some (omega arith);
      within = omega arith;
    }
