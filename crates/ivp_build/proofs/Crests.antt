-- The ends of the cuts of each crest are those that the arithmetic gives.
use Rattle.std.proofs.Common.{◌≡◌, ℕ, Bool, suc, true, false, ◌+◌, ◌-◌, ◌*◌, ◌/◌, ◌%◌, ◌<◌, ◌≤◌, inl, inr, List, [], ◌∷◌, ◌++◌, refl, sym, ◌∙◌, ap, subst, arith, eq-eqb}
use Rattle.std.proofs.Math.Bool.{and-false}
use Rattle.std.proofs.Math.Nat.{mod-eq_of_lt}
use Rattle.std.proofs.lemmas.Bool.{cases_lt, lt-leb, le-leb, lt-ltb, le-ltb, ne_eqb}
use Rattle.std.proofs.lemmas.Nat.{mod-mul-add}
use Rattle.std.specs.Int.{abs_diff}
use Rattle.std.specs.Prelude.{◌==◌, min, nat_le}
use Rattle.ivp_build.specs.declared.crest.Crest.{Crest}
use Rattle.ivp_build.specs.declared.crest.Crest.TheVariants.{At, Round, UpTo, From}
use Rattle.ivp_build.specs.declared.profile.Profile.{Profile}
use Rattle.ivp_build.specs.declared.slopes.Slopes.{Slopes}
use Rattle.ivp_build.specs.Builders.{goes_on}
use Rattle.ivp_build.specs.Cuts.{cuts_of}
use Rattle.ivp_build.specs.Ends.{cut_ends, falling_ends, none_after, rising_ends, round_ends, runs_by}
use Rattle.ivp_build.specs.Shapes.{IsProfileOf, distance_from, is_right, is_summit, zone_at}
use Rattle.ivp_build.proofs.Runs.{AreStops, IsStop, cuts_by_ends}
use Rattle.ivp_build.proofs.Zones.{IsSide, falling_stops, one_side, rising_stops, stretch_stops, two_sides, two_sides', zone_beyond, zone_foot, zone_top}

abbrev along : Slopes → Crest → Profile
along s crest = record { slopes = s; crest = crest }

-- no further cut
same_stop : (goes_on : ℕ → Bool) (count : ℕ) → IsStop goes_on count count count
same_stop goes_on count = record { after = omega arith; within = omega arith; inner = λ x above below. absurd (omega arith); last = λ some few x e. absurd (omega arith) }

none_stops : (goes_on : ℕ → Bool) (count : ℕ) → AreStops goes_on count count (none_after count)
none_stops goes_on count = (same_stop goes_on count, (same_stop goes_on count, (same_stop goes_on count, refl)))

abbrev six_after : ℕ → List ℕ
six_after count = count ∷ count ∷ count ∷ none_after count

six_stops : (goes_on : ℕ → Bool) (count : ℕ) → AreStops goes_on count count (six_after count)
six_stops goes_on count = (same_stop goes_on count, (same_stop goes_on count, (same_stop goes_on count, none_stops goes_on count)))

-- a peak on a line
line_right : (s : Slopes) (summit count : ℕ) → summit < count → IsSide (along s (At summit)) true count summit count
line_right s summit count h =
    record {
      ordered = omega arith;
      within = omega arith;
      side = λ x above below. le-leb summit x above;
      none = λ x above below. ne_eqb (suc x) summit (λ e. omega arith);
      end = λ x above e few. absurd (omega arith);
    }

line_left : (s : Slopes) (summit count : ℕ) → summit < count → IsSide (along s (At summit)) false count 0 summit
line_left s summit count h =
    record {
      ordered = omega arith;
      within = omega arith;
      side = λ x above below. lt-leb summit x below;
      none = λ x above below. ne_eqb (suc x) summit (λ e. omega arith);
      end = λ x above e few. two_sides (along s (At summit)) x (lt-leb summit x (omega arith)) (le-leb summit (suc x) (omega arith));
    }

at_stops : (s : Slopes) (summit count : ℕ) → summit < count → AreStops (goes_on (along s (At summit))) count 0 (cut_ends s count (At summit))
at_stops s summit count h =
    let p : Profile = along s (At summit) in
    rising_stops p count 0 0 summit (min (summit + (s.top + 1 - 0)) count ∷ min (summit + (s.top + s.foot + 1 - 0)) count ∷ count ∷ none_after count) (line_left s summit count h)
    (λ x above below. omega arith)
    (falling_stops p count summit 0 count (none_after count) (line_right s summit count h) (λ x above below. omega arith) (none_stops (goes_on p) count))

-- beyond a limit
up_to_stops : (s : Slopes) (last count : ℕ) → last < count → AreStops (goes_on (along s (UpTo last))) count 0 (cut_ends s count (UpTo last))
up_to_stops s last count h =
    let p : Profile = along s (UpTo last) in
    stretch_stops (goes_on p) (zone_at p) count 0 (min (last + (s.top + 1 - 0)) count) (min (last + (s.top + s.foot + 1 - 0)) count) count 0 1 2 (six_after count)
    (record {
      first = omega arith;
      second = omega arith;
      third = omega arith;
      within = omega arith;
      next = λ x above below. one_side p x true refl refl refl;
      in_one = λ x above below. zone_top s (x - last) (omega arith);
      in_two = λ x above below. zone_foot s (x - last) (omega arith) (omega arith);
      in_three = λ x above below. zone_beyond s (x - last) (omega arith);
      differ = (refl, refl, refl);
      end = λ x above e few. absurd (omega arith);
    })
    (six_stops (goes_on p) count)

from_stops : (s : Slopes) (first count : ℕ) → first < count → s.top ≡ 0 → 0 < s.foot → AreStops (goes_on (along s (From first))) count 0 (cut_ends s count (From first))
from_stops s first count h level some =
    let p : Profile = along s (From first) in
    rising_stops p count 0 0 first (six_after count)
    (record {
      ordered = omega arith;
      within = omega arith;
      side = λ x above below. refl;
      none = λ x above below. refl;
      end = λ x above e few.
          one_side p x false refl refl refl
          ∙ (ap (λ z. z == zone_at p (suc x)) (zone_foot s (first - x) (omega arith) (omega arith)) ∙ ap (λ z. 1 == z) (zone_top s (first - suc x) (omega arith)));
    })
    (λ x above below. omega arith) (
      record {
        after = omega arith;
        within = omega arith;
        inner = λ x above below.
            one_side p x false refl refl refl ∙ eq-eqb (zone_at p x) (zone_at p (suc x)) (zone_top s (first - x) (omega arith) ∙ sym (zone_top s (first - suc x) (omega arith)));
        last = λ here few x e. absurd (omega arith);
      },
      (same_stop (goes_on p) count, (same_stop (goes_on p) count, none_stops (goes_on p) count)),
    )

-- round a circle: on each side of the summit's place
pub way_after : (summit count x : ℕ) → summit ≤ x → x < count → distance_from (Round summit count) x ≡ min (x - summit) (count - (x - summit))
way_after summit count x h below =
    let way : abs_diff summit x ≡ x - summit = omega arith in
    let part : (x - summit) % count ≡ x - summit = mod-eq_of_lt (omega arith) in
    ap (λ w. min (w % count) (count - w % count)) way ∙ ap (λ w. min w (count - w)) part

pub way_before : (summit count x : ℕ) → x < summit → summit < count → distance_from (Round summit count) x ≡ min (summit - x) (count - (summit - x))
way_before summit count x h below =
    let way : abs_diff summit x ≡ summit - x = omega arith in
    let part : (summit - x) % count ≡ summit - x = mod-eq_of_lt (omega arith) in
    ap (λ w. min (w % count) (count - w % count)) way ∙ ap (λ w. min w (count - w)) part

pub turn_after : (summit count x : ℕ) → summit ≤ x → x < count → (x + count - summit) % count ≡ x - summit
turn_after summit count x h below =
    let e : x + count - summit ≡ 1 * count + (x - summit) = omega arith in
    ap (λ w. w % count) e ∙ mod-mul-add 1 count (x - summit) (omega arith)

pub turn_before : (summit count x : ℕ) → x < summit → summit < count → (x + count - summit) % count ≡ x + count - summit
turn_before summit count x h below = mod-eq_of_lt (omega arith)

right_after : (summit count x : ℕ) (b : Bool) → summit ≤ x → x < count → nat_le (x - summit) (count / 2) ≡ b → is_right (Round summit count) x ≡ b
right_after summit count x b h below e = ap (λ w. nat_le w (count / 2)) (turn_after summit count x h below) ∙ e

right_before : (summit count x : ℕ) (b : Bool) → x < summit → summit < count → nat_le (x + count - summit) (count / 2) ≡ b → is_right (Round summit count) x ≡ b
right_before summit count x b h below e = ap (λ w. nat_le w (count / 2)) (turn_before summit count x h below) ∙ e

at_summit : (p : Profile) (x : ℕ) → is_summit p.crest (suc x) ≡ true → goes_on p x ≡ false
at_summit p x e = rw e (and-false _)

-- where the far side lies above the summit: left, right, left
above_stops : (s : Slopes) (summit count far : ℕ) → far ≡ summit + count / 2 → summit < count → far < count
    → AreStops (goes_on (along s (Round summit count))) count 0
    (rising_ends s 0 0 summit ++ (falling_ends s summit 0 (far + 1) ++ rising_ends s (far + 1) summit count))
above_stops s summit count far e h inside =
    let p : Profile = along s (Round summit count) in
    rising_stops p count 0 0 summit (falling_ends s summit 0 (far + 1) ++ rising_ends s (far + 1) summit count)
    (record {
      ordered = omega arith;
      within = omega arith;
      side = λ x above below. right_before summit count x false below h (lt-leb (x + count - summit) (count / 2) (omega arith));
      none = λ x above below. ne_eqb (suc x) summit (λ e'. omega arith);
      end = λ x above at few.
          two_sides p x (right_before summit count x false (omega arith) h (lt-leb (x + count - summit) (count / 2) (omega arith)))
          (right_after summit count (suc x) true (omega arith) (omega arith) (le-leb (suc x - summit) (count / 2) (omega arith)));
    })
    (λ x above below. way_before summit count x below h ∙ omega arith)
    (falling_stops p count summit 0 (far + 1) (rising_ends s (far + 1) summit count)
    (record {
      ordered = omega arith;
      within = omega arith;
      side = λ x above below. right_after summit count x true above (omega arith) (le-leb (x - summit) (count / 2) (omega arith));
      none = λ x above below. ne_eqb (suc x) summit (λ e'. omega arith);
      end = λ x above at few.
          two_sides' p x (right_after summit count x true above (omega arith) (le-leb (x - summit) (count / 2) (omega arith)))
          (right_after summit count (suc x) false (omega arith) (omega arith) (lt-leb (suc x - summit) (count / 2) (omega arith)));
    })
    (λ x above below. way_after summit count x above (omega arith) ∙ omega arith)
    (rising_stops p count (far + 1) summit count []
    (record {
      ordered = omega arith;
      within = omega arith;
      side = λ x above below. right_after summit count x false (omega arith) below (lt-leb (x - summit) (count / 2) (omega arith));
      none = λ x above below. ne_eqb (suc x) summit (λ e'. omega arith);
      end = λ x above at few. absurd (omega arith);
    })
    (λ x above below. way_after summit count x (omega arith) below ∙ omega arith)
    refl))

-- where it lies below: right, left, right
below_stops : (s : Slopes) (summit count far : ℕ) → far ≡ summit + count / 2 → summit < count → count ≤ far
    → AreStops (goes_on (along s (Round summit count))) count 0
    (falling_ends s 0 (count - summit) (far + 1 - count) ++ (rising_ends s (far + 1 - count) 0 summit ++ falling_ends s summit 0 count))
below_stops s summit count far e h outside =
    let p : Profile = along s (Round summit count) in
    falling_stops p count 0 (count - summit) (far + 1 - count) (rising_ends s (far + 1 - count) 0 summit ++ falling_ends s summit 0 count)
    (record {
      ordered = omega arith;
      within = omega arith;
      side = λ x above below. right_before summit count x true (omega arith) h (le-leb (x + count - summit) (count / 2) (omega arith));
      none = λ x above below. ne_eqb (suc x) summit (λ e'. omega arith);
      end = λ x above at few.
          elim (cases_lt (suc x) summit) [
            | inl before ↦ two_sides' p x (right_before summit count x true (omega arith) h (le-leb (x + count - summit) (count / 2) (omega arith)))
                (right_before summit count (suc x) false before h (lt-leb (suc x + count - summit) (count / 2) (omega arith)))
            | inr there ↦ at_summit p x (eq-eqb (suc x) summit (omega arith))
          ];
    })
    (λ x above below. way_before summit count x (omega arith) h ∙ omega arith)
    (rising_stops p count (far + 1 - count) 0 summit (falling_ends s summit 0 count)
    (record {
      ordered = omega arith;
      within = omega arith;
      side = λ x above below. right_before summit count x false below h (lt-leb (x + count - summit) (count / 2) (omega arith));
      none = λ x above below. ne_eqb (suc x) summit (λ e'. omega arith);
      end = λ x above at few.
          two_sides p x (right_before summit count x false (omega arith) h (lt-leb (x + count - summit) (count / 2) (omega arith)))
          (right_after summit count (suc x) true (omega arith) (omega arith) (le-leb (suc x - summit) (count / 2) (omega arith)));
    })
    (λ x above below. way_before summit count x below h ∙ omega arith)
    (falling_stops p count summit 0 count []
    (record {
      ordered = omega arith;
      within = omega arith;
      side = λ x above below. right_after summit count x true above below (le-leb (x - summit) (count / 2) (omega arith));
      none = λ x above below. ne_eqb (suc x) summit (λ e'. omega arith);
      end = λ x above at few. absurd (omega arith);
    })
    (λ x above below. way_after summit count x above below ∙ omega arith)
    refl))

round_stops : (s : Slopes) (summit count : ℕ) → summit < count → AreStops (goes_on (along s (Round summit count))) count 0 (round_ends s summit count)
round_stops s summit count h =
    elim (cases_lt (summit + count / 2) count) [
      | inl inside ↦ rw (lt-ltb (summit + count / 2) count inside) (above_stops s summit count (summit + count / 2) refl h inside)
      | inr outside ↦ rw (le-ltb (summit + count / 2) count outside) (below_stops s summit count (summit + count / 2) refl h outside)
    ]

crest_stops : (s : Slopes) (crest : Crest) (count : ℕ) → IsProfileOf count (along s crest) → AreStops (goes_on (along s crest)) count 0 (cut_ends s count crest)
crest_stops s (At summit) count h = at_stops s summit count h.crest
crest_stops s (Round summit places) count h =
    subst (λ n. AreStops (goes_on (along s (Round summit n))) count 0 (round_ends s summit count)) (sym h.crest.1) (round_stops s summit count h.crest.0)
crest_stops s (UpTo last) count h = up_to_stops s last count h.crest
crest_stops s (From first) count h = from_stops s first count h.crest h.level.0 h.slopes.some

-- the cuts of a shape
pub cuts_of_profile : (p : Profile) (count : ℕ) → 0 < count → IsProfileOf count p → cuts_of (goes_on p) count ≡ runs_by 0 (cut_ends p.slopes count p.crest)
cuts_of_profile p count some h = cuts_by_ends (goes_on p) count (cut_ends p.slopes count p.crest) some (crest_stops p.slopes p.crest count h)
