-- From a place to the next of its cut, the utility changes by the change there, and so it is a line on each cut.
use Rattle.std.proofs.Common.{◌≡◌, ℕ, Bool, suc, true, false, ◌+◌, ◌-◌, ◌/◌, ◌<◌, ◌≤◌, ◌⊎◌, inl, inr, ℤ, pos, neg_ℤ, ◌+ℤ◌, ◌-ℤ◌, refl, sym, ◌∙◌, ap, arith, eqb-true}
use Rattle.std.proofs.lemmas.Bool.{and_parts, cases_lt, cases_Bool, leb-true, leb-false, lt-leb, le-leb, not-true, eqb-false}
use Rattle.std.proofs.lemmas.Int.{ints}
use Rattle.std.specs.List.{AllByRecursion}
use Rattle.std.specs.Prelude.{◌==◌, ◌&&◌, not, nat_le, if◌then◌else◌}
use Rattle.ivp_build.specs.declared.crest.Crest.{Crest}
use Rattle.ivp_build.specs.declared.crest.Crest.TheVariants.{At, Round, UpTo, From}
use Rattle.ivp_build.specs.declared.profile.Profile.{Profile}
use Rattle.ivp_build.specs.declared.slopes.Slopes.{Slopes}
use Rattle.ivp_build.specs.Builders.{goes_on, side_at}
use Rattle.ivp_build.specs.Cuts.{cuts_of}
use Rattle.ivp_build.specs.Shapes.{AreSlopes, IsProfileOf, change_at, distance_from, fall_in, height_at, is_right, is_summit, utility_along, zone_at, zone_of}
use Rattle.ivp_build.proofs.Crests.{turn_after, turn_before, way_after, way_before}
use Rattle.ivp_build.proofs.Heights.{height_step}
use Rattle.ivp_build.proofs.Lines.{IsLine, cuts_are_lines}
use Rattle.ivp_build.proofs.Zones.{zone_top}

-- what it takes to go on
record GoesOn (p : Profile) (x : ℕ) : Type 0 where
  side : is_right p.crest x ≡ is_right p.crest (suc x)
  zone : zone_at p x ≡ zone_at p (suc x)
  none : is_summit p.crest (suc x) ≡ false

same_side : (a b : Bool) → ((if a then 1 else 0) == (if b then 1 else 0)) ≡ true → a ≡ b
same_side true true e = refl
same_side true false e = cc
same_side false true e = cc
same_side false false e = refl

on : (p : Profile) (x : ℕ) → goes_on p x ≡ true → GoesOn p x
on p x e =
    let two = and_parts (side_at p x == side_at p (suc x) && zone_at p x == zone_at p (suc x)) (not (is_summit p.crest (suc x))) e in
    let one = and_parts (side_at p x == side_at p (suc x)) (zone_at p x == zone_at p (suc x)) two.0 in
    record {
      side = same_side (is_right p.crest x) (is_right p.crest (suc x)) one.0;
      zone = eqb-true (zone_at p x) (zone_at p (suc x)) one.1;
      none = not-true (is_summit p.crest (suc x)) two.1;
    }

-- on the right the next place is one farther, on the left one nearer, and within a limit neither
data Move (crest : Crest) (x : ℕ) : Type 0 where
  farther : is_right crest x ≡ true → distance_from crest (suc x) ≡ suc (distance_from crest x) → Move crest x
  nearer : is_right crest x ≡ false → distance_from crest x ≡ suc (distance_from crest (suc x)) → Move crest x

line_moves : (summit x : ℕ) → is_right (At summit) x ≡ is_right (At summit) (suc x) → Move (At summit) x
line_moves summit x e = elim (cases_lt x summit) [
  | inr after ↦ farther (le-leb summit x after) (omega arith)
  | inl before ↦ elim (cases_lt (suc x) summit) [
    | inl still ↦ nearer (lt-leb summit x before) (omega arith)
    | inr there ↦ let a : is_right (At summit) x ≡ false = lt-leb summit x before in let b : is_right (At summit) (suc x) ≡ true = le-leb summit (suc x) there in absurd (cc)
  ]
]

circle_moves : (summit count x : ℕ) → summit < count → suc x < count → is_right (Round summit count) x ≡ is_right (Round summit count) (suc x)
    → is_summit (Round summit count) (suc x) ≡ false → Move (Round summit count) x
circle_moves summit count x h h' e none = by (cases_lt x summit) (cases_Bool (is_right (Round summit count) x))
  where
    by : (x < summit) ⊎ (summit ≤ x) → (is_right (Round summit count) x ≡ true) ⊎ (is_right (Round summit count) x ≡ false) → Move (Round summit count) x
    by (inr after) (inl right) =
        let here = leb-true (x - summit) (count / 2) (ap (λ w. nat_le w (count / 2)) (sym (turn_after summit count x after (omega arith))) ∙ right) in
        let next = leb-true (suc x - summit) (count / 2) (ap (λ w. nat_le w (count / 2)) (sym (turn_after summit count (suc x) (omega arith) h')) ∙ (sym e ∙ right)) in
        farther right (way_after summit count (suc x) (omega arith) h' ∙ (omega arith ∙ ap suc (sym (way_after summit count x after (omega arith)))))
    by (inr after) (inr left) =
        let here = leb-false (x - summit) (count / 2) (ap (λ w. nat_le w (count / 2)) (sym (turn_after summit count x after (omega arith))) ∙ left) in
        let next = leb-false (suc x - summit) (count / 2) (ap (λ w. nat_le w (count / 2)) (sym (turn_after summit count (suc x) (omega arith) h')) ∙ (sym e ∙ left)) in
        nearer left (way_after summit count x after (omega arith) ∙ (omega arith ∙ ap suc (sym (way_after summit count (suc x) (omega arith) h'))))
    by (inl before) side =
        let apart = eqb-false (suc x) summit none in
        let still : suc x < summit = omega (arith, apart) in
        within still side
      where
        within : suc x < summit → (is_right (Round summit count) x ≡ true) ⊎ (is_right (Round summit count) x ≡ false) → Move (Round summit count) x
        within still (inl right) =
            let here = leb-true (x + count - summit) (count / 2) (ap (λ w. nat_le w (count / 2)) (sym (turn_before summit count x before h)) ∙ right) in
            let next = leb-true (suc x + count - summit) (count / 2) (ap (λ w. nat_le w (count / 2)) (sym (turn_before summit count (suc x) still h)) ∙ (sym e ∙ right)) in
            farther right (way_before summit count (suc x) still h ∙ (omega arith ∙ ap suc (sym (way_before summit count x before h))))
        within still (inr left) =
            let here = leb-false (x + count - summit) (count / 2) (ap (λ w. nat_le w (count / 2)) (sym (turn_before summit count x before h)) ∙ left) in
            let next = leb-false (suc x + count - summit) (count / 2) (ap (λ w. nat_le w (count / 2)) (sym (turn_before summit count (suc x) still h)) ∙ (sym e ∙ left)) in
            nearer left (way_before summit count x before h ∙ (omega arith ∙ ap suc (sym (way_before summit count (suc x) still h))))

-- within a limit nothing is lost
abbrev IsLevelAt : Slopes → Crest → ℕ → Type 0
IsLevelAt s crest x = (s.fall ≡ 0) × (distance_from crest x ≡ 0) × (distance_from crest (suc x) ≡ 0)

moves : (s : Slopes) (crest : Crest) (count x : ℕ) → IsProfileOf count (record { slopes = s; crest = crest }) → suc x < count → is_right crest x ≡ is_right crest (suc x)
    → is_summit crest (suc x) ≡ false → Move crest x ⊎ IsLevelAt s crest x
moves s (At summit) count x h h' e none = inl (line_moves summit x e)
moves s (Round summit places) count x h h' e none = let same = h.crest.1 in inl (circle_moves summit places x (omega (arith, same, h.crest.0)) (omega (arith, same)) e none)
moves s (UpTo last) count x h h' e none = elim (cases_lt x last) [
  | inl within ↦ inr (h.level.1, omega arith, omega arith)
  | inr past ↦ inl (farther refl (omega arith))
]
moves s (From first) count x h h' e none = elim (cases_lt x first) [
  | inl before ↦ inl (nearer refl (omega arith))
  | inr within ↦ inr (h.level.1, omega arith, omega arith)
]

-- the change by side
right_change : (p : Profile) (x : ℕ) → is_right p.crest x ≡ true → change_at p x ≡ neg_ℤ (pos (fall_in p.slopes (zone_at p x)))
right_change p x e = ap (λ b. if b then neg_ℤ (pos (fall_in p.slopes (zone_at p x))) else pos (fall_in p.slopes (zone_at p x))) e

left_change : (p : Profile) (x : ℕ) → is_right p.crest x ≡ false → change_at p x ≡ pos (fall_in p.slopes (zone_at p x))
left_change p x e = ap (λ b. if b then neg_ℤ (pos (fall_in p.slopes (zone_at p x))) else pos (fall_in p.slopes (zone_at p x))) e

lose : (a b f c : ℤ) → a ≡ b -ℤ f → c ≡ neg_ℤ f → a ≡ b +ℤ c
lose a b f c e same = grind (arith, ints)

gain : (a b f c : ℤ) → a ≡ b -ℤ f → c ≡ f → b ≡ a +ℤ c
gain a b f c e same = grind (arith, ints)

keep : (a b c : ℤ) → a ≡ b → c ≡ pos 0 → a ≡ b +ℤ c
keep a b c e same = grind (arith, ints)

level_change : (b : Bool) (f : ℕ) → f ≡ 0 → (if b then neg_ℤ (pos f) else pos f) ≡ pos 0
level_change true f e = rw e refl
level_change false f e = rw e refl

step : (p : Profile) (x : ℕ) → AreSlopes p.slopes → zone_at p x ≡ zone_at p (suc x) → Move p.crest x ⊎ IsLevelAt p.slopes p.crest x
    → pos (utility_along p (suc x)) ≡ pos (utility_along p x) +ℤ change_at p x
step p x s same (inl (farther right far)) =
    let one = height_step p.slopes (distance_from p.crest x) s.some s.within (same ∙ ap (zone_of p.slopes) far) in
    lose (pos (utility_along p (suc x))) (pos (utility_along p x)) (pos (fall_in p.slopes (zone_at p x))) (change_at p x) (ap (λ d. pos (height_at p.slopes d)) far ∙ one) (right_change p x right)
step p x s same (inl (nearer left near)) =
    let one = height_step p.slopes (distance_from p.crest (suc x)) s.some s.within (sym same ∙ ap (zone_of p.slopes) near) in
    gain (pos (utility_along p x)) (pos (utility_along p (suc x))) (pos (fall_in p.slopes (zone_at p (suc x)))) (change_at p x) (ap (λ d. pos (height_at p.slopes d)) near ∙ one)
    (left_change p x left ∙ ap (λ z. pos (fall_in p.slopes z)) same)
step p x s same (inr level) =
    let zone : zone_at p x ≡ 0 = zone_top p.slopes (distance_from p.crest x) (omega (arith, level.1)) in
    let fall : fall_in p.slopes (zone_at p x) ≡ 0 = ap (fall_in p.slopes) zone ∙ level.0 in
    keep (pos (utility_along p (suc x))) (pos (utility_along p x)) (change_at p x) (ap (λ d. pos (height_at p.slopes d)) (level.2 ∙ sym level.1))
    (level_change (is_right p.crest x) (fall_in p.slopes (zone_at p x)) fall)

change_same : (p : Profile) (x : ℕ) → is_right p.crest x ≡ is_right p.crest (suc x) → zone_at p x ≡ zone_at p (suc x) → change_at p (suc x) ≡ change_at p x
change_same p x side zone =
    ap (λ b. if b then neg_ℤ (pos (fall_in p.slopes (zone_at p (suc x)))) else pos (fall_in p.slopes (zone_at p (suc x)))) (sym side)
    ∙ ap (λ z. if is_right p.crest x then neg_ℤ (pos (fall_in p.slopes z)) else pos (fall_in p.slopes z)) (sym zone)

-- so it is a line on each cut
pub lines : (p : Profile) (count : ℕ) → IsProfileOf count p → 0 < count
    → AllByRecursion (IsLine (λ x. pos (utility_along p x)) (change_at p)) (cuts_of (goes_on p) count)
lines p count h some =
    cuts_are_lines (λ x. pos (utility_along p x)) (change_at p) (goes_on p) count
    (λ x below e. let o = on p x e in (step p x h.slopes o.zone (moves p.slopes p.crest count x h below o.side o.none), change_same p x o.side o.zone)) some
