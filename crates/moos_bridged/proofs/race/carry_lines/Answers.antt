use Rattle.std.proofs.Common.{ap, subst, sym, take}
use Rattle.moos_bridged.proofs.CarryingLines.{carried_more, stamps_more}
use Rattle.moos_bridged.specs.Racing.{HasCarriedLines, stamps_of}
use Rattle.moos_share.specs.Carrying.{seated}
use Rattle.moos_bridged.proofs.race.carry_lines.Goals as goal

pub loop-line-preserved : goal.loop-line-preserved
loop-line-preserved g c =
    let names = c.args.first.now.base in
    let one = seated c.args.bridge.now c.args.from.now c.args.to.now in
    let before = seated c.loop-line.bridge c.loop-line.from c.loop-line.to in
    let after = seated c.carry.new.self c.carry.new.from c.carry.new.to in
    let stamps = stamps_of (take c.loop-line.line-index c.args.lines.now) in
    let stamp = c.line-item.result.stamp in
    let carried = c.in_ok-carry.ensures.carried in
    subst (λ stamps. HasCarriedLines names stamps one after) (sym (stamps_more c.args.lines.now c.loop-line.line-index c.line-item.result c.loop-line-test.true c.line-item.is))
    (carried_more names stamps stamp one before after c.loop-line.invariant (c.carry_law.ensures.up_to_date names one.from.mine stamps stamp before after carried c.loop-line.invariant.up_to_date)
    (ap (λ b. b.rules) carried.bridge) c.in_ok-carry.ensures.from c.in_ok-carry.ensures.to)
