use Rattle.std.proofs.Common.{List, length, sym, ap, ◌∙◌, arith}
use Rattle.ivp_domain.specs.declared.axis.Axis.{Axis}
use Rattle.ivp_domain.specs.Domains.{is_point}
use Rattle.ivp_domain.proofs.Sizes.{four_axes}
use Rattle.ivp_cert.specs.Decisions.{point_at}
use Rattle.ivp_cert.proofs.Deciding.{on_length, on_point}
use Rattle.ivp_cert.proofs.phase.claimed.Goals as goal

pub point_at-requires : goal.point_at-requires
point_at-requires c =
    let many = on_length c.all.result.now c.all-2.result.now (sym c.are_on.ensures ∙ c.if-not-are_on.false) in
    omega (arith, many, four_axes c.all.result.now c.all.ensures.lawful, ap length c.all-2.ensures, ap length c.all-3.ensures)

pub returns-clause-point : goal.returns-clause-point
returns-clause-point c =
    let axes = c.all.result.now in
    let inside = on_point axes c.all-2.result.now (four_axes axes c.all.ensures.lawful) (sym c.are_on.ensures ∙ c.if-not-are_on.false) in
    let point = c.point_at.ensures ∙ ap point_at (c.all-3.ensures ∙ sym c.all-2.ensures) in
    ap (λ (a : List Axis). is_point a c.point_at.result) (sym (c.all.ensures.axes ∙ c.domain.ensures)) ∙ (ap (is_point axes) point ∙ inside)
