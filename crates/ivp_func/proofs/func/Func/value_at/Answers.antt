use Rattle.std.proofs.Common.{FitsSigned, w64, rules, ap, ◌∙◌}
use Rattle.std.proofs.lemmas.Int.{to_z-of_z}
use Rattle.ivp_domain.specs.Domains.{is_point}
use Rattle.ivp_func.specs.Functions.{Function}
use Rattle.ivp_func.specs.Pieces.{are_pieces_of, is_value, value_at}
use Rattle.ivp_func.proofs.func.Func.value_at.Goals as goal

pub value_at-requires : goal.value_at-requires
value_at-requires g c = ap (are_pieces_of c.body-body.result.now.domain) c.deref.ensures.value ∙ c.body-body.ensures.kept.function.pieces

pub returns-clause-value : goal.returns-clause-value
returns-clause-value g c =
    let point = c.args.p.now in
    let fits : FitsSigned w64 c.value_at.result = search rules in
    to_z-of_z w64 c.value_at.result fits ∙ c.value_at.ensures ∙ ap (λ pieces. value_at pieces point) c.deref.ensures.value ∙ ap (λ (func : Function). value_at func.pieces point) c.body-body.ensures.function

pub returns-clause-range : goal.returns-clause-range
returns-clause-range g c =
    let point = c.args.p.now in
    let fits : FitsSigned w64 c.value_at.result = search rules in
    let inside = ap (λ (func : Function). is_point func.axes point) c.body-body.ensures.function ∙ c.requires in
    ap is_value (to_z-of_z w64 c.value_at.result fits ∙ c.value_at.ensures ∙ ap (λ pieces. value_at pieces point) c.deref.ensures.value) ∙ c.body-body.ensures.kept.function.values point inside
