-- What a caller of the sum of two shapes shows: that they have slopes on different axes, and that their values have room.
use Rattle.std.proofs.Common.{◌≡◌, ℕ, zero, suc, Bool, true, false, ◌||◌, ◌&&◌, ◌+◌, ◌-◌, ◌*◌, ◌/◌, ◌≤◌, ◌≢◌, inl, inr, pos, ◌+ℤ◌, ◌≤ℤ◌, nat_abs, List, [], ◌∷◌, get_or, refl, sym, ◌∙◌, arith}
use Rattle.std.proofs.lemmas.Bool.{and_from, cases_eq, or_left, or_right}
use Rattle.std.proofs.lemmas.Bool.Decides.{Decides-int_eq}
use Rattle.std.proofs.lemmas.Int.{ints}
use Rattle.std.proofs.lemmas.List.{get_or-set_other}
use Rattle.std.proofs.lemmas.List.Folds.{list_all-map}
use Rattle.std.specs.List.{list_all}
use Rattle.std.specs.Ordering.{int_eq}
use Rattle.std.specs.Prelude.{if◌then◌else◌, nat_le}
use Rattle.ivp_domain.specs.declared.axis.Axis.{Axis}
use Rattle.ivp_domain.specs.declared.boxes.Point.{Point}
use Rattle.ivp_domain.specs.Domains.{is_point, size_on}
use Rattle.ivp_func.specs.declared.piece.Piece.{Piece}
use Rattle.ivp_func.specs.Pieces.{slope_on, value_at}
use Rattle.ivp_build.specs.declared.profile.Profile.{Profile}
use Rattle.ivp_build.specs.declared.shape.Peak.{Peak}
use Rattle.ivp_build.specs.declared.slopes.Slopes.{Slopes}
use Rattle.ivp_build.specs.Builders.{goes_on, level, piece_over, pieces_along}
use Rattle.ivp_build.specs.Cuts.{Run, cuts_of}
use Rattle.ivp_build.specs.Shapes.{change_at, distance_from, height_at, peak_at, peak_profile, shoulder}
use Rattle.ivp_build.specs.Sums.{HaveRoom, is_level_on, slope_apart}

no_slope : (axis : ℕ) → get_or level axis (pos 0) ≡ pos 0
no_slope zero = refl
no_slope (suc zero) = refl
no_slope (suc (suc zero)) = refl
no_slope (suc (suc (suc zero))) = refl
no_slope (suc (suc (suc (suc n)))) = refl

-- the pieces of a shape along an axis have no slope on another one
over_level : (axes : List Axis) (number other : ℕ) (p : Profile) (run : Run) → other ≢ number → slope_on other (piece_over axes number p run) ≡ pos 0
over_level axes number other p run apart = get_or-set_other level number other (change_at p run.low) (pos 0) apart ∙ no_slope other

level_runs : (axes : List Axis) (number other : ℕ) (p : Profile) (runs : List Run) → other ≢ number → list_all (λ (run : Run). int_eq (slope_on other (piece_over axes number p run)) (pos 0)) runs ≡ true
level_runs axes number other p [] apart = refl
level_runs axes number other p (run ∷ runs) apart = and_from _ _ ((Decides-int_eq (slope_on other (piece_over axes number p run)) (pos 0)).1 (over_level axes number other p run apart)) (level_runs axes number other p runs apart)

along_level : (axes : List Axis) (number other : ℕ) (p : Profile) → other ≢ number → is_level_on other (pieces_along axes number p) ≡ true
along_level axes number other p apart =
    let runs : List Run = cuts_of (goes_on p) (size_on number axes) in
    list_all-map (λ (piece : Piece). int_eq (slope_on other piece) (pos 0)) (piece_over axes number p) runs ∙ level_runs axes number other p runs apart

-- so those of shapes along two axes have their slopes apart
pub shapes_apart : (axes : List Axis) (i j : ℕ) (p q : Profile) → i ≢ j → slope_apart (pieces_along axes i p) (pieces_along axes j q) ≡ true
shapes_apart axes i j p q apart =
    and_from (on 0 && on 1 && on 2) (on 3) (and_from (on 0 && on 1) (on 2) (and_from (on 0) (on 1) (each 0) (each 1)) (each 2)) (each 3)
  where
    on : ℕ → Bool
    on k = is_level_on k (pieces_along axes i p) || is_level_on k (pieces_along axes j q)

    each : (k : ℕ) → on k ≡ true
    each k = elim (cases_eq k i) [
      | inl same ↦ or_right (is_level_on k (pieces_along axes i p)) (is_level_on k (pieces_along axes j q)) (along_level axes j k q (λ here. apart (sym same ∙ here)))
      | inr other ↦ or_left (is_level_on k (pieces_along axes i p)) (is_level_on k (pieces_along axes j q)) (along_level axes i k p other)
    ]

-- a peak is nowhere above its greatest utility
height_most : (s : Slopes) (d : ℕ) → height_at s d ≤ s.max
height_most s d = by (nat_le d s.top) (nat_le d (s.top + s.foot))
  where
    by : (a b : Bool) → (if a then s.max - s.fall * d else if b then shoulder s - shoulder s / s.foot * (d - s.top) else 0) ≤ s.max
    by true b = omega arith
    by false true = omega arith
    by false false = omega arith

pub peak_most : (axis : Axis) (shape : Peak) (place : ℕ) → peak_at axis shape place ≤ nat_abs shape.max
peak_most axis shape place = height_most (peak_profile axis shape).slopes (distance_from (peak_profile axis shape).crest place)

-- where two functions keep below numbers whose sum is at most 100,000 there is room for their sum
pub room_below : (axes : List Axis) (ps qs : List Piece) (f g : Point → ℕ) (m n : ℕ) → ((point : Point) → is_point axes point ≡ true → value_at ps point ≡ pos (f point)) → ((point : Point) → is_point axes point ≡ true → value_at qs point ≡ pos (g point))
    → ((point : Point) → f point ≤ m) → ((point : Point) → g point ≤ n) → m + n ≤ 100000 → HaveRoom axes ps qs
room_below axes ps qs f g m n one other most most_too few point inside =
    let first = most point in
    let second = most_too point in
    let sum : (pos (f point) +ℤ pos (g point)) ≤ℤ pos 100000 = omega (arith, ints) in
    rw (one point inside, other point inside) sum
