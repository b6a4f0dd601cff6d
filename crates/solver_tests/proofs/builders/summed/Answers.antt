use Rattle.std.proofs.Common.{List, subst, sym, ◌∙◌, arith}
use Rattle.std.proofs.lemmas.Int.{ints}
use Rattle.ivp_domain.specs.declared.axis.Axis.{Axis}
use Rattle.ivp_func.specs.Functions.{IsTop}
use Rattle.solver_tests.proofs.builders.summed.Goals as goal

pub couple-requires-clause-room : goal.couple-requires-clause-room
couple-requires-clause-room g c =
    let f = c.runs-one.result in
    let h = c.runs-other.result in
    let top = subst (λ (axes : List Axis). IsTop axes h.pieces c.top-2.result) (c.runs-other.ensures.axes ∙ sym c.runs-one.ensures.axes) c.top-2.ensures.top in
    c.room_law.ensures f.axes f.pieces h.pieces c.top.result c.top-2.result c.top.ensures.top top (omega (arith, ints))
