use Rattle.std.proofs.Common.{◌≡◌, ◌&&◌, false, inl, inr, ap, pos, to_z, of_z, w64, arith}
use Rattle.std.specs.Ordering.{int_eq}
use Rattle.std.proofs.lemmas.Int.{ints, to_z-of_z}
use Rattle.helm_geo.specs.Angles.{along}
use Rattle.helm_geo.proofs.Bearings.{IsFirstMost}
use Rattle.helm_geo.proofs.Farthest.{first_most, bearing_is, not_both, same_most}
use Rattle.helm_geo.proofs.Quarters.{IsSought, same_sought}
use Rattle.helm_geo.proofs.angle.bearing.Goals as goal

leads : (c : goal.After-farther) → (int_eq c.args.dx (pos 0) && int_eq c.args.dy (pos 0)) ≡ false
leads c = not_both c.args.dx c.args.dy (λ one two. elim c.else-dx-eq0.either [ inl w ↦ w.1 (ap (of_z w64) two) | inr w ↦ w (ap (of_z w64) one) ])

first : (c : goal.After-farther) → IsFirstMost (along c.args.dx c.args.dy) 360 c.farther.result
first c =
    let quarter = c.quarter_of-quarter in
    let degree = c.turning-degree in
    let east : to_z w64 (of_z w64 c.args.dx) ≡ c.args.dx = to_z-of_z w64 c.args.dx c.ranges.dx in
    let north : to_z w64 (of_z w64 c.args.dy) ≡ c.args.dy = to_z-of_z w64 c.args.dy c.ranges.dy in
    let across : to_z w64 (of_z w64 quarter.result.across) ≡ quarter.result.across = omega (arith, ints) in
    let ahead : to_z w64 (of_z w64 quarter.result.ahead) ≡ quarter.result.ahead = omega (arith, ints) in
    let sought : IsSought (to_z w64 (of_z w64 quarter.result.across)) (to_z w64 (of_z w64 quarter.result.ahead)) degree.result degree.result =
    record { within = omega arith; most = degree.ensures.within; rises = degree.ensures.rises; falls = degree.ensures.falls } in
    same_most c.args.dx c.args.dy (to_z w64 (of_z w64 c.args.dx)) (to_z w64 (of_z w64 c.args.dy)) c.farther.result east north
    (first_most (to_z w64 (of_z w64 c.args.dx)) (to_z w64 (of_z w64 c.args.dy)) quarter.result.across quarter.result.ahead quarter.result.number degree.result c.farther.result
    quarter.ensures.number quarter.ensures.across quarter.ensures.ahead degree.ensures.within quarter.ensures.turned
    (same_sought _ _ (to_z w64 (of_z w64 quarter.result.across)) (to_z w64 (of_z w64 quarter.result.ahead)) degree.result degree.result across ahead sought)
    c.farther.ensures.value)

pub returns-clause-value : goal.returns-clause-value
returns-clause-value c = bearing_is c.args.dx c.args.dy c.farther.result (leads c) (first c)

pub returns-clause-farthest : goal.returns-clause-farthest
returns-clause-farthest c = (first c).most

pub returns-clause-least : goal.returns-clause-least
returns-clause-least c = (first c).first
