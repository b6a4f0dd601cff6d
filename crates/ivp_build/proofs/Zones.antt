-- The ends of the zones on each side.
use Rattle.std.proofs.Common.{◌≡◌, ℕ, Bool, suc, true, false, ◌+◌, ◌-◌, ◌<◌, ◌≤◌, inl, inr, List, ◌∷◌, refl, sym, ◌∙◌, ap, arith, eq-eqb}
use Rattle.std.proofs.lemmas.Bool.{cases_lt, lt-leb, le-leb}
use Rattle.std.proofs.Math.Bool.{and-true}
use Rattle.std.specs.Prelude.{◌==◌, min, max}
use Rattle.ivp_build.specs.declared.profile.Profile.{Profile}
use Rattle.ivp_build.specs.declared.slopes.Slopes.{Slopes}
use Rattle.ivp_build.specs.Builders.{goes_on}
use Rattle.ivp_build.specs.Shapes.{distance_from, is_right, is_summit, zone_at, zone_of}
use Rattle.ivp_build.proofs.Runs.{AreStops}

-- places in three zones, one behind the other, with an end behind the last
pub record IsStretch (goes_on : ℕ → Bool) (zone : ℕ → ℕ) (count low one two until : ℕ) (a b c : ℕ) : Type 0 where
  pub first : low ≤ one
  pub second : one ≤ two
  pub third : two ≤ until
  pub within : until ≤ count
  pub next : (x : ℕ) → low ≤ x → suc x < until → goes_on x ≡ (zone x == zone (suc x))
  pub in_one : (x : ℕ) → low ≤ x → x < one → zone x ≡ a
  pub in_two : (x : ℕ) → one ≤ x → x < two → zone x ≡ b
  pub in_three : (x : ℕ) → two ≤ x → x < until → zone x ≡ c
  pub differ : ((a == b) ≡ false) × ((a == c) ≡ false) × ((b == c) ≡ false)
  pub end : (x : ℕ) → low ≤ x → suc x ≡ until → until < count → goes_on x ≡ false

like : (u v w : ℕ) (b : Bool) → b ≡ (u == v) → u ≡ w → v ≡ w → b ≡ true
like u v w b e p q = e ∙ eq-eqb u v (p ∙ sym q)

unlike : (u v w w' : ℕ) (b : Bool) → b ≡ (u == v) → u ≡ w → v ≡ w' → (w == w') ≡ false → b ≡ false
unlike u v w w' b e p q d = e ∙ (ap (λ k. k == v) p ∙ ap (λ k. w == k) q) ∙ d

pub stretch_stops : (goes_on : ℕ → Bool) (zone : ℕ → ℕ) (count low one two until : ℕ) (a b c : ℕ) (rest : List ℕ) → IsStretch goes_on zone count low one two until a b c
    → AreStops goes_on count until rest → AreStops goes_on count low (one ∷ two ∷ until ∷ rest)
stretch_stops goes_on zone count low one two until a b c rest s more =
    let first = s.first in
    let second = s.second in
    let third = s.third in
    let within = s.within in (
      record {
        after = first;
        within = omega arith;
        inner = λ x above below. like (zone x) (zone (suc x)) a (goes_on x) (s.next x above (omega arith)) (s.in_one x above (omega arith)) (s.in_one (suc x) (omega arith) below);
        last = λ some few x e. elim (cases_lt one until) [
          | inr at ↦ s.end x (omega arith) (omega arith) (omega arith)
          | inl inside ↦ elim (cases_lt one two) [
            | inl to ↦ unlike (zone x) (zone (suc x)) a b (goes_on x) (s.next x (omega arith) (omega arith)) (s.in_one x (omega arith) (omega arith)) (s.in_two (suc x) (omega arith) (omega arith)) s.differ.0
            | inr none ↦ unlike (zone x) (zone (suc x)) a c (goes_on x) (s.next x (omega arith) (omega arith)) (s.in_one x (omega arith) (omega arith)) (s.in_three (suc x) (omega arith) (omega arith)) s.differ.1
          ]
        ];
      },
      (
        record {
          after = second;
          within = omega arith;
          inner = λ x above below. like (zone x) (zone (suc x)) b (goes_on x) (s.next x (omega arith) (omega arith)) (s.in_two x above (omega arith)) (s.in_two (suc x) (omega arith) below);
          last = λ some few x e. elim (cases_lt two until) [
            | inr at ↦ s.end x (omega arith) (omega arith) (omega arith)
            | inl inside ↦ unlike (zone x) (zone (suc x)) b c (goes_on x) (s.next x (omega arith) (omega arith)) (s.in_two x (omega arith) (omega arith)) (s.in_three (suc x) (omega arith) (omega arith)) s.differ.2
          ];
        },
        (
          record {
            after = third;
            within = within;
            inner = λ x above below. like (zone x) (zone (suc x)) c (goes_on x) (s.next x (omega arith) (omega arith)) (s.in_three x above (omega arith)) (s.in_three (suc x) (omega arith) below);
            last = λ some few x e. s.end x (omega arith) e few;
          },
          more,
        ),
      ),
    )

-- the zone of a distance
pub zone_top : (s : Slopes) (d : ℕ) → d ≤ s.top → zone_of s d ≡ 0
zone_top s d h = rw (le-leb d s.top h) refl

pub zone_foot : (s : Slopes) (d : ℕ) → s.top < d → d ≤ s.top + s.foot → zone_of s d ≡ 1
zone_foot s d h h' = rw (lt-leb d s.top h, le-leb d (s.top + s.foot) h') refl

pub zone_beyond : (s : Slopes) (d : ℕ) → s.top + s.foot < d → zone_of s d ≡ 2
zone_beyond s d h = rw (lt-leb d s.top (omega arith), lt-leb d (s.top + s.foot) h) refl

-- two places of one side with no summit at the second
pub one_side : (p : Profile) (x : ℕ) (right : Bool) → is_right p.crest x ≡ right → is_right p.crest (suc x) ≡ right → is_summit p.crest (suc x) ≡ false
    → goes_on p x ≡ (zone_at p x == zone_at p (suc x))
one_side p x true e e' none = rw (e, e', none) (and-true (zone_at p x == zone_at p (suc x)))
one_side p x false e e' none = rw (e, e', none) (and-true (zone_at p x == zone_at p (suc x)))

-- two sides
pub two_sides : (p : Profile) (x : ℕ) → is_right p.crest x ≡ false → is_right p.crest (suc x) ≡ true → goes_on p x ≡ false
two_sides p x e e' = rw (e, e') refl

pub two_sides' : (p : Profile) (x : ℕ) → is_right p.crest x ≡ true → is_right p.crest (suc x) ≡ false → goes_on p x ≡ false
two_sides' p x e e' = rw (e, e') refl

-- the places from `low` to before `until` are of one side, with no summit behind the first
pub record IsSide (p : Profile) (right : Bool) (count low until : ℕ) : Type 0 where
  pub ordered : low ≤ until
  pub within : until ≤ count
  pub side : (x : ℕ) → low ≤ x → x < until → is_right p.crest x ≡ right
  pub none : (x : ℕ) → low ≤ x → suc x < until → is_summit p.crest (suc x) ≡ false
  pub end : (x : ℕ) → low ≤ x → suc x ≡ until → until < count → goes_on p x ≡ false

pub falling_stops : (p : Profile) (count low away until : ℕ) (rest : List ℕ) → IsSide p true count low until
    → ((x : ℕ) → low ≤ x → x < until → distance_from p.crest x ≡ away + (x - low)) → AreStops (goes_on p) count until rest
    → AreStops (goes_on p) count low (min (low + (p.slopes.top + 1 - away)) until ∷ min (low + (p.slopes.top + p.slopes.foot + 1 - away)) until ∷ until ∷ rest)
falling_stops p count low away until rest s far more =
    let ordered = s.ordered in
    let top = p.slopes.top in
    let foot = p.slopes.foot in
    stretch_stops (goes_on p) (zone_at p) count low (min (low + (top + 1 - away)) until) (min (low + (top + foot + 1 - away)) until) until 0 1 2 rest
    (record {
      first = omega arith;
      second = omega arith;
      third = omega arith;
      within = s.within;
      next = λ x above below. one_side p x true (s.side x above (omega arith)) (s.side (suc x) (omega arith) below) (s.none x above below);
      in_one = λ x above below. let d = far x above (omega arith) in zone_top p.slopes (distance_from p.crest x) (omega arith);
      in_two = λ x above below. let d = far x (omega arith) (omega arith) in zone_foot p.slopes (distance_from p.crest x) (omega arith) (omega arith);
      in_three = λ x above below. let d = far x (omega arith) below in zone_beyond p.slopes (distance_from p.crest x) (omega arith);
      differ = (refl, refl, refl);
      end = s.end;
    })
    more

pub rising_stops : (p : Profile) (count low away until : ℕ) (rest : List ℕ) → IsSide p false count low until
    → ((x : ℕ) → low ≤ x → x < until → distance_from p.crest x ≡ away + (until - x)) → AreStops (goes_on p) count until rest
    → AreStops (goes_on p) count low (max (until - (p.slopes.top + p.slopes.foot - away)) low ∷ max (until - (p.slopes.top - away)) low ∷ until ∷ rest)
rising_stops p count low away until rest s far more =
    let ordered = s.ordered in
    let top = p.slopes.top in
    let foot = p.slopes.foot in
    stretch_stops (goes_on p) (zone_at p) count low (max (until - (top + foot - away)) low) (max (until - (top - away)) low) until 2 1 0 rest
    (record {
      first = omega arith;
      second = omega arith;
      third = omega arith;
      within = s.within;
      next = λ x above below. one_side p x false (s.side x above (omega arith)) (s.side (suc x) (omega arith) below) (s.none x above below);
      in_one = λ x above below. let d = far x above (omega arith) in zone_beyond p.slopes (distance_from p.crest x) (omega arith);
      in_two = λ x above below. let d = far x (omega arith) (omega arith) in zone_foot p.slopes (distance_from p.crest x) (omega arith) (omega arith);
      in_three = λ x above below. let d = far x (omega arith) below in zone_top p.slopes (distance_from p.crest x) (omega arith);
      differ = (refl, refl, refl);
      end = s.end;
    })
    more
