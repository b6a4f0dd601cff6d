use Rattle.std.proofs.Common.{◌≡◌, ℤ, [], ◌∷◌, Some, FitsSigned, to_z, of_z, w64, rules, ap, ◌∙◌}
use Rattle.std.proofs.lemmas.Int.{to_z-of_z}
use Rattle.std.specs.Option.{option_map}
use Rattle.ivp_domain.specs.declared.boxes.BoxN.{BoxN}
use Rattle.ivp_func.specs.declared.piece.Piece.{Piece}
use Rattle.ivp_build.specs.Sums.{sum_of_pieces}
use Rattle.ivp_build.proofs.sums.met_sum.Goals as goal

-- a piece from the numbers that were summed
summed : (area : BoxN) (base base' one one' two two' three three' four four' : ℤ) → base ≡ base' → one ≡ one' → two ≡ two' → three ≡ three' → four ≡ four'
    → ◌≡◌ {A = Piece} (record { area = area; base = base; slope = one ∷ two ∷ three ∷ four ∷ [] }) (record { area = area; base = base'; slope = one' ∷ two' ∷ three' ∷ four' ∷ [] })
summed area base base' one one' two two' three three' four four' b e f g h = cc

-- a result of 64 bits, as the code puts it in its place
put : (z sum : ℤ) → FitsSigned w64 z → z ≡ sum → to_z w64 (of_z w64 z) ≡ sum
put z sum fits e = to_z-of_z w64 z fits ∙ e

pub returns-in-Some : goal.returns-in-Some
returns-in-Some c =
    let base = put c.base_sum.result _ (search rules) c.base_sum.ensures in
    let one = put c.slope_sum.result _ (search rules) c.slope_sum.ensures in
    let two = put c.slope_sum-in-Some.result _ (search rules) c.slope_sum-in-Some.ensures in
    let three = put c.slope_sum-in-Some-2.result _ (search rules) c.slope_sum-in-Some-2.ensures in
    let four = put c.slope_sum-in-Some-3.result _ (search rules) c.slope_sum-in-Some-3.ensures in
    ap (λ (piece : Piece). Some piece) (summed c.in-Some.area _ _ _ _ _ _ _ _ _ _ base one two three four) ∙ ap (option_map (sum_of_pieces c.args.p.now c.args.q.now)) c.in-Some.ensures.exact
