use Rattle.std.proofs.Common.{◌≡◌, to_z, of_z, w64, arith}
use Rattle.std.proofs.lemmas.Int.{ints}
use Rattle.std.specs.Prelude.{codes}
use Rattle.ivp_build.proofs.Nearest.{end_cast}
use Rattle.bhv_kinds.proofs.Named.{limit_function}
use Rattle.bhv_kinds.proofs.steady.at_most_deep.Goals as goal

pub returns : goal.returns
returns c =
    let basewidth : to_z w64 (of_z w64 c.args.basewidth) ≡ c.args.basewidth = omega (arith, ints) in
    limit_function c.args.domain.now (codes "depth") c.axis_number-axis.result c.args.limit (to_z w64 (of_z w64 c.args.limit)) c.args.basewidth (to_z w64 (of_z w64 c.args.basewidth)) 100000 c.in_ok-func.func c.axis_number-axis.ensures.number
    (end_cast c.args.limit c.requires.limit) basewidth c.in_ok-func.ensures.pieces
