use Rattle.std.proofs.Common.{◌≤◌, ◌<◌, arith}
use Rattle.std.proofs.lemmas.Bool.Decides.{nat_tests}
use Rattle.ivp_domain.specs.Boxes.{volume_of}
use Rattle.ivp_func.specs.Covering.{covered_in}
use Rattle.ivp_func.proofs.Bounds.{left_box, left_short, right_short}
use Rattle.ivp_func.proofs.Cover.{Cut, volume_of-cut}
use Rattle.ivp_func.proofs.partition.short_half.Goals as goal

pub is_short-requires-clause-proper : goal.is_short-requires-clause-proper
is_short-requires-clause-proper c =
    let cut : Cut c.args.axis c.args.area.now c.halves.result.0 c.halves.result.1 = record { axis = c.requires.axis; cut = c.halves.ensures.cut; same = c.halves.ensures.same } in
    left_box c.args.axis c.args.area.now c.halves.result.0 c.halves.result.1 cut c.requires.proper

pub is_short-requires-clause-few : goal.is_short-requires-clause-few
is_short-requires-clause-few c =
    let cut : Cut c.args.axis c.args.area.now c.halves.result.0 c.halves.result.1 = record { axis = c.requires.axis; cut = c.halves.ensures.cut; same = c.halves.ensures.same } in
    omega (arith, volume_of-cut c.args.axis c.args.area.now c.halves.result.0 c.halves.result.1 cut, c.requires.few)

pub returns-then-is_short : goal.returns-then-is_short
returns-then-is_short c =
    let cut : Cut c.args.axis c.args.area.now c.halves.result.0 c.halves.result.1 = record { axis = c.requires.axis; cut = c.halves.ensures.cut; same = c.halves.ensures.same } in
    let short : covered_in c.halves.result.0 c.args.pieces.now < volume_of c.halves.result.0 = grind (arith, nat_tests) in
    left_short c.args.pieces.now c.args.axis c.args.area.now c.halves.result.0 c.halves.result.1 cut c.requires.proper short

pub returns-else-is_short : goal.returns-else-is_short
returns-else-is_short c =
    let cut : Cut c.args.axis c.args.area.now c.halves.result.0 c.halves.result.1 = record { axis = c.requires.axis; cut = c.halves.ensures.cut; same = c.halves.ensures.same } in
    let full : volume_of c.halves.result.0 ≤ covered_in c.halves.result.0 c.args.pieces.now = grind (arith, nat_tests) in
    right_short c.args.pieces.now c.args.axis c.args.area.now c.halves.result.0 c.halves.result.1 cut c.requires.proper c.requires.short full
