use Rattle.std.proofs.Common.{◌≡◌, ℕ, zero, suc, true, ◌<◌, ◌≤◌, ℤ, pos, List, [], ◌∷◌, to_z, of_z, w64, sym, subst, ap, ◌∙◌, arith}
use Rattle.std.specs.Prelude.{slice_index, slice_index_or}
use Rattle.ivp_domain.proofs.BoxLemmas.{has_low_corner}
use Rattle.ivp_func.specs.Pieces.{is_slope}
use Rattle.ivp_build.specs.Sampled.{IsSample, IsSampled, low_corner, piece_from, sampled_slope}
use Rattle.ivp_build.proofs.Casts.{slope_cast, slope_kept, value_cast, value_kept}
use Rattle.ivp_build.proofs.Samples.{sampled_fits}
use Rattle.ivp_build.proofs.sampled.sampled_piece.Goals as goal

-- four slopes, each small
each_small : (a b c d : ℤ) → is_slope a ≡ true → is_slope b ≡ true → is_slope c ≡ true → is_slope d ≡ true → (k : ℕ) → k < 4
    → is_slope (slice_index_or (to_z w64 (of_z w64 a) ∷ to_z w64 (of_z w64 b) ∷ to_z w64 (of_z w64 c) ∷ to_z w64 (of_z w64 d) ∷ []) k (pos 0)) ≡ true
each_small a b c d p q r s zero h = slope_cast a p
each_small a b c d p q r s (suc zero) h = slope_cast b q
each_small a b c d p q r s (suc (suc zero)) h = slope_cast c r
each_small a b c d p q r s (suc (suc (suc zero))) h = slope_cast d s
each_small a b c d p q r s (suc (suc (suc (suc k)))) h = absurd (omega arith)

-- and 0 where there is one place
each_flat : (high low : List ℕ) (a b c d : ℤ) → is_slope a ≡ true → is_slope b ≡ true → is_slope c ≡ true → is_slope d ≡ true → (slice_index high 0 ≤ slice_index low 0 → a ≡ pos 0) → (slice_index high 1 ≤ slice_index low 1 → b ≡ pos 0)
    → (slice_index high 2 ≤ slice_index low 2 → c ≡ pos 0) → (slice_index high 3 ≤ slice_index low 3 → d ≡ pos 0) → (k : ℕ) → k < 4 → slice_index high k ≤ slice_index low k
    → slice_index_or (to_z w64 (of_z w64 a) ∷ to_z w64 (of_z w64 b) ∷ to_z w64 (of_z w64 c) ∷ to_z w64 (of_z w64 d) ∷ []) k (pos 0) ≡ pos 0
each_flat high low a b c d p q r s e f g h zero within one = slope_kept a p ∙ e one
each_flat high low a b c d p q r s e f g h (suc zero) within one = slope_kept b q ∙ f one
each_flat high low a b c d p q r s e f g h (suc (suc zero)) within one = slope_kept c r ∙ g one
each_flat high low a b c d p q r s e f g h (suc (suc (suc zero))) within one = slope_kept d s ∙ h one
each_flat high low a b c d p q r s e f g h (suc (suc (suc (suc k)))) within one = absurd (omega arith)

pub slope-requires-clause-low : goal.slope-requires-clause-low
slope-requires-clause-low g c = value_cast c.utility-low.result (c.requires.utility.values _ c.utility-low.result (has_low_corner c.args.area.now c.requires.proper) c.utility-low.ensures)

pub slope-requires-2-clause-low : goal.slope-requires-2-clause-low
slope-requires-2-clause-low g c = value_cast c.utility-low.result (c.requires.utility.values _ c.utility-low.result (has_low_corner c.args.area.now c.requires.proper) c.utility-low.ensures)

pub slope-requires-3-clause-low : goal.slope-requires-3-clause-low
slope-requires-3-clause-low g c = value_cast c.utility-low.result (c.requires.utility.values _ c.utility-low.result (has_low_corner c.args.area.now c.requires.proper) c.utility-low.ensures)

pub slope-requires-4-clause-low : goal.slope-requires-4-clause-low
slope-requires-4-clause-low g c = value_cast c.utility-low.result (c.requires.utility.values _ c.utility-low.result (has_low_corner c.args.area.now c.requires.proper) c.utility-low.ensures)

pub piece_from-requires : goal.piece_from-requires
piece_from-requires g c =
    let value = c.requires.utility.values _ c.utility-low.result (has_low_corner c.args.area.now c.requires.proper) c.utility-low.ensures in
    record {
      proper = c.requires.proper;
      few = c.requires.few;
      value_fits = value_cast c.utility-low.result value;
      slopes_fit = each_small c.slope.result c.slope-2.result c.slope-3.result c.slope-4.result c.slope.ensures.small c.slope-2.ensures.small c.slope-3.ensures.small c.slope-4.ensures.small;
    }

pub returns-clause-piece : goal.returns-clause-piece
returns-clause-piece g c = λ gives computes.
    let area = c.args.area.now in
    let inside = has_low_corner area c.requires.proper in
    let value = c.requires.utility.values _ c.utility-low.result inside c.utility-low.ensures in
    let low = value_kept c.utility-low.result value ∙ computes _ c.utility-low.result inside c.utility-low.ensures in
    let one = slope_kept c.slope.result c.slope.ensures.small ∙ c.slope.ensures.slope gives computes low in
    let two = slope_kept c.slope-2.result c.slope-2.ensures.small ∙ c.slope-2.ensures.slope gives computes low in
    let three = slope_kept c.slope-3.result c.slope-3.ensures.small ∙ c.slope-3.ensures.slope gives computes low in
    let four = slope_kept c.slope-4.result c.slope-4.ensures.small ∙ c.slope-4.ensures.slope gives computes low in
    c.piece_from.ensures ∙ ap (λ (z : ℤ). piece_from area z (to_z w64 (of_z w64 c.slope.result) ∷ to_z w64 (of_z w64 c.slope-2.result) ∷ to_z w64 (of_z w64 c.slope-3.result) ∷ to_z w64 (of_z w64 c.slope-4.result) ∷ [])) low
    ∙ ap (λ (z : ℤ). piece_from area (gives (low_corner area)) (z ∷ to_z w64 (of_z w64 c.slope-2.result) ∷ to_z w64 (of_z w64 c.slope-3.result) ∷ to_z w64 (of_z w64 c.slope-4.result) ∷ [])) one
    ∙ ap (λ (z : ℤ). piece_from area (gives (low_corner area)) (sampled_slope gives area 0 ∷ z ∷ to_z w64 (of_z w64 c.slope-3.result) ∷ to_z w64 (of_z w64 c.slope-4.result) ∷ [])) two
    ∙ ap (λ (z : ℤ). piece_from area (gives (low_corner area)) (sampled_slope gives area 0 ∷ sampled_slope gives area 1 ∷ z ∷ to_z w64 (of_z w64 c.slope-4.result) ∷ [])) three
    ∙ ap (λ (z : ℤ). piece_from area (gives (low_corner area)) (sampled_slope gives area 0 ∷ sampled_slope gives area 1 ∷ sampled_slope gives area 2 ∷ z ∷ [])) four

pub returns-clause-sampled : goal.returns-clause-sampled
returns-clause-sampled g c = λ axes domain box.
    let area = c.args.area.now in
    let value = c.requires.utility.values _ c.utility-low.result (has_low_corner area c.requires.proper) c.utility-low.ensures in
    let slopes = to_z w64 (of_z w64 c.slope.result) ∷ to_z w64 (of_z w64 c.slope-2.result) ∷ to_z w64 (of_z w64 c.slope-3.result) ∷ to_z w64 (of_z w64 c.slope-4.result) ∷ [] in
    let sample : IsSample area (to_z w64 (of_z w64 c.utility-low.result)) slopes = record {
      proper = c.requires.proper;
      few = c.requires.few;
      value_fits = value_cast c.utility-low.result value;
      slopes_fit = each_small c.slope.result c.slope-2.result c.slope-3.result c.slope-4.result c.slope.ensures.small c.slope-2.ensures.small c.slope-3.ensures.small c.slope-4.ensures.small;
    } in
    subst (IsSampled axes area) (sym c.piece_from.ensures) (sampled_fits axes area (to_z w64 (of_z w64 c.utility-low.result)) slopes domain box sample
    (each_flat area.high area.low c.slope.result c.slope-2.result c.slope-3.result c.slope-4.result c.slope.ensures.small c.slope-2.ensures.small c.slope-3.ensures.small c.slope-4.ensures.small c.slope.ensures.flat c.slope-2.ensures.flat c.slope-3.ensures.flat c.slope-4.ensures.flat))
