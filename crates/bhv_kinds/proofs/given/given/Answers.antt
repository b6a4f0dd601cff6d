-- The wants can be made over every domain with the axes of the type.
use Rattle.std.proofs.Common.{◌≡◌, true, ◌&&◌, List, codes, subst, sym}
use Rattle.std.specs.Prelude.{IfSome}
use Rattle.std.proofs.lemmas.Bool.{and_parts}
use Rattle.ivp_domain.specs.declared.axis.Axis.{Axis}
use Rattle.bhv_file.specs.declared.spec.Shape.{Shape}
use Rattle.bhv_file.specs.Params.{has_axes, has_axis}
use Rattle.bhv_kinds.specs.declared.want.Aim.{Aim}
use Rattle.bhv_kinds.specs.Wants.{CanMake}
use Rattle.bhv_kinds.proofs.given.given.Goals as goal

pub returns-in-Heading-clause-can : goal.returns-in-Heading-clause-can
returns-in-Heading-clause-can c axes has =
    let named = and_parts (has_axis axes (codes "course")) true (subst (λ (shape : Shape). has_axes axes shape ≡ true) c.in-Heading.is has) in
    subst (λ (aim : Aim). IfSome aim.want (CanMake axes)) (sym c.gives.ensures) (named.0, c.of_hundred-peak.ensures.sound)

pub returns-in-Speed-clause-can : goal.returns-in-Speed-clause-can
returns-in-Speed-clause-can c axes has =
    let named = and_parts (has_axis axes (codes "speed")) true (subst (λ (shape : Shape). has_axes axes shape ≡ true) c.in-Speed.is has) in
    subst (λ (aim : Aim). IfSome aim.want (CanMake axes)) (sym c.gives-in-Speed.ensures) (named.0, c.of_hundred-peak-in-Speed.ensures.sound)

pub returns-in-Depth-clause-can : goal.returns-in-Depth-clause-can
returns-in-Depth-clause-can c axes has =
    let named = and_parts (has_axis axes (codes "depth")) true (subst (λ (shape : Shape). has_axes axes shape ≡ true) c.in-Depth.is has) in
    subst (λ (aim : Aim). IfSome aim.want (CanMake axes)) (sym c.gives-in-Depth.ensures) (named.0, c.of_hundred-peak-in-Depth.ensures.sound)

-- to go somewhere the course and the speed are named
both : (axes : List Axis) → (has_axis axes (codes "course") && (has_axis axes (codes "speed") && true)) ≡ true → (has_axis axes (codes "course") ≡ true) × (has_axis axes (codes "speed") ≡ true)
both axes has =
    let one = and_parts (has_axis axes (codes "course")) (has_axis axes (codes "speed") && true) has in
    (one.0, (and_parts (has_axis axes (codes "speed")) true one.1).0)

pub returns-else-found-clause-can : goal.returns-else-found-clause-can
returns-else-found-clause-can c axes has =
    let named = both axes (subst (λ (shape : Shape). has_axes axes shape ≡ true) c.in-Waypoint.is has) in
    c.go.ensures.can axes named.0 named.1

pub returns-in-StationKeep-clause-can : goal.returns-in-StationKeep-clause-can
returns-in-StationKeep-clause-can c axes has =
    let named = both axes (subst (λ (shape : Shape). has_axes axes shape ≡ true) c.in-StationKeep.is has) in
    c.stay.ensures.can axes named.0 named.1
