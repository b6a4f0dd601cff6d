use Rattle.bhv_kinds.proofs.Named.{peak_function, peak_value}
use Rattle.bhv_kinds.proofs.steady.peak_on.Goals as goal

pub returns-clause-pieces : goal.returns-clause-pieces
returns-clause-pieces c = peak_function c.args.domain.now c.args.name.now c.axis_number.result c.args.shape.now c.in_ok-func.func c.axis_number.ensures.number c.in_ok-func.ensures.pieces

pub returns-clause-value : goal.returns-clause-value
returns-clause-value c = peak_value c.args.domain.now c.args.name.now c.axis_number.result c.args.shape.now c.in_ok-func.func.pieces c.axis_number.ensures.number c.in_ok-func.ensures.value
