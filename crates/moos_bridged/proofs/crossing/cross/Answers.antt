use Rattle.std.proofs.Common.{◌≡◌, ◌<◌, ◌∙◌, arith, sym, subst}
use Rattle.moos_bridged.proofs.Alone.{first_added, has_bridge, IsAdded, other_added, other_all}
use Rattle.moos_bridged.proofs.Carried.{added_rests, crossed, fetched}
use Rattle.moos_bridged.proofs.Playing.{bridge_last}
use Rattle.moos_bridged.specs.Communities.{bridge_in}
use Rattle.moos_post.specs.declared.entry.Call.TheVariants.{Fetch}
use Rattle.moos_bridged.proofs.crossing.cross.Goals as goal

pub returns-then-number-eq0-clause-one : goal.returns-then-number-eq0-clause-one
returns-then-number-eq0-clause-one g c =
    let one = c.args.one.now in
    let here = c.in_ok-cross_from.ensures.crossed in
    added_rests one c.args.stamp Fetch here.mail c.see_all.new.first c.requires.one
    (first_added one.lock (bridge_in one) c.args.stamp Fetch here.mail one.first.seat c.cross_from.new.from c.see_all.new.first c.requires.one.gathered c.requires.one.whole (sym c.bridge-number.ensures ∙ c.if-number-eq0.true)
    (fetched one.lock.base c.args.stamp here.mail one.first.seat c.cross_from.new.from here.fetched) c.see_all.ensures)

pub returns-then-number-eq0-clause-crossed : goal.returns-then-number-eq0-clause-crossed
returns-then-number-eq0-clause-crossed g c =
    let one = c.args.one.now in
    let here = c.in_ok-cross_from.ensures.crossed in
    crossed c.args.bridge.now.rules c.args.stamp one c.see_all.new.first one.first.seat c.cross_from.new.from c.args.two.now c.cross_from.new.two c.requires.one here
    (first_added one.lock (bridge_in one) c.args.stamp Fetch here.mail one.first.seat c.cross_from.new.from c.see_all.new.first c.requires.one.gathered c.requires.one.whole (sym c.bridge-number.ensures ∙ c.if-number-eq0.true)
    (fetched one.lock.base c.args.stamp here.mail one.first.seat c.cross_from.new.from here.fetched) c.see_all.ensures)

pub part-from-requires-clause-first : goal.part-from-requires-clause-first
part-from-requires-clause-first g c =
    let one = c.args.one.now in
    let above : 0 < bridge_in one = omega (arith, c.bridge-number.ensures, c.if-number-eq0.false) in
    (c.requires.one.gathered.number, rw c.bridge-number.ensures (has_bridge one c.requires.one above))

pub see_all-requires-2-clause-all : goal.see_all-requires-2-clause-all
see_all-requires-2-clause-all g c =
    let one = c.args.one.now in
    let here = c.in_ok-cross_from-2.ensures.crossed in
    let number : c.bridge-number.result ≡ bridge_in one = c.bridge-number.ensures in
    other_all one.lock c.bridge-number.result c.args.stamp Fetch here.mail one.first.seat c.part-from.new.pass c.part-from.result c.cross_from-2.new.from c.meet.new.pass c.requires.one.gathered (omega (arith, c.if-number-eq0.false)) (omega (arith, number, bridge_last one c.requires.one))
    c.part-from.ensures.pass c.part-from.ensures.part (fetched one.lock.base c.args.stamp here.mail c.part-from.result c.cross_from-2.new.from here.fetched) c.meet.ensures.pass c.meet.ensures.seen.0

pub returns-clause-one : goal.returns-clause-one
returns-clause-one g c =
    let one = c.args.one.now in
    let here = c.in_ok-cross_from-2.ensures.crossed in
    let number : c.bridge-number.result ≡ bridge_in one = c.bridge-number.ensures in
    added_rests one c.args.stamp Fetch here.mail c.see_all-2.new.first c.requires.one
    (subst (λ n. IsAdded one.lock n c.args.stamp Fetch here.mail one.first.seat c.see_all-2.new.first) number
    (other_added one.lock c.bridge-number.result c.args.stamp Fetch here.mail one.first.seat c.part-from.new.pass c.part-from.result c.cross_from-2.new.from c.meet.new.pass c.see_all-2.new.first c.requires.one.gathered c.requires.one.whole (omega (arith, c.if-number-eq0.false))
    (omega (arith, number, bridge_last one c.requires.one)) c.part-from.ensures.pass c.part-from.ensures.part (fetched one.lock.base c.args.stamp here.mail c.part-from.result c.cross_from-2.new.from here.fetched) c.meet.ensures.pass c.meet.ensures.seen c.see_all-2.ensures))

pub returns-clause-crossed : goal.returns-clause-crossed
returns-clause-crossed g c =
    let one = c.args.one.now in
    let here = c.in_ok-cross_from-2.ensures.crossed in
    let number : c.bridge-number.result ≡ bridge_in one = c.bridge-number.ensures in
    crossed c.args.bridge.now.rules c.args.stamp one c.see_all-2.new.first c.part-from.result c.cross_from-2.new.from c.args.two.now c.cross_from-2.new.two c.requires.one here
    (subst (λ n. IsAdded one.lock n c.args.stamp Fetch here.mail one.first.seat c.see_all-2.new.first) number
    (other_added one.lock c.bridge-number.result c.args.stamp Fetch here.mail one.first.seat c.part-from.new.pass c.part-from.result c.cross_from-2.new.from c.meet.new.pass c.see_all-2.new.first c.requires.one.gathered c.requires.one.whole (omega (arith, c.if-number-eq0.false))
    (omega (arith, number, bridge_last one c.requires.one)) c.part-from.ensures.pass c.part-from.ensures.part (fetched one.lock.base c.args.stamp here.mail c.part-from.result c.cross_from-2.new.from here.fetched) c.meet.ensures.pass c.meet.ensures.seen c.see_all-2.ensures))
