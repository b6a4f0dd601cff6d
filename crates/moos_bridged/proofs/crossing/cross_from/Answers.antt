use Rattle.std.proofs.Common.{◌≡◌, ◌<◌, ◌∙◌, arith, sym, subst, []}
use Rattle.moos_bridged.proofs.Alone.{first_added, has_bridge, IsAdded, other_added, other_all}
use Rattle.moos_bridged.proofs.Carried.{added_rests, carried_fetch, carried_post, crossed_from}
use Rattle.moos_bridged.proofs.Playing.{bridge_last}
use Rattle.moos_bridged.specs.Communities.{bridge_in}
use Rattle.moos_post.specs.declared.entry.Call.TheVariants.{Post as Posts}
use Rattle.moos_share.specs.Renaming.{renamed}
use Rattle.moos_bridged.proofs.crossing.cross_from.Goals as goal

pub returns-then-number-eq0-clause-two : goal.returns-then-number-eq0-clause-two
returns-then-number-eq0-clause-two g c =
    let two = c.args.two.now in
    let names = c.args.lock.now.base in
    let carried = c.in_ok-carry.ensures.carried in
    let post = carried_post names c.args.stamp c.args.bridge.now c.carry.new.self c.args.from.now c.carry.new.from two.first.seat c.carry.new.to c.requires.none carried two.lock.base in
    let batch = renamed names c.args.bridge.now.rules carried.fetched.mail in
    added_rests two c.args.stamp (Posts batch) [] c.see_all.new.first c.requires.two
    (first_added two.lock (bridge_in two) c.args.stamp (Posts batch) [] two.first.seat c.carry.new.to c.see_all.new.first c.requires.two.gathered c.requires.two.whole (sym c.bridge-number.ensures ∙ c.if-number-eq0.true) post c.see_all.ensures)

pub returns-then-number-eq0-clause-crossed : goal.returns-then-number-eq0-clause-crossed
returns-then-number-eq0-clause-crossed g c =
    let two = c.args.two.now in
    let names = c.args.lock.now.base in
    let carried = c.in_ok-carry.ensures.carried in
    let post = carried_post names c.args.stamp c.args.bridge.now c.carry.new.self c.args.from.now c.carry.new.from two.first.seat c.carry.new.to c.requires.none carried two.lock.base in
    let batch = renamed names c.args.bridge.now.rules carried.fetched.mail in
    crossed_from names c.args.bridge.now.rules c.args.stamp carried.fetched.mail c.args.from.now c.carry.new.from two c.see_all.new.first
    (carried_fetch names c.args.stamp c.args.bridge.now c.carry.new.self c.args.from.now c.carry.new.from two.first.seat c.carry.new.to c.requires.none carried) c.in_ok-carry.ensures.from
    (first_added two.lock (bridge_in two) c.args.stamp (Posts batch) [] two.first.seat c.carry.new.to c.see_all.new.first c.requires.two.gathered c.requires.two.whole (sym c.bridge-number.ensures ∙ c.if-number-eq0.true) post c.see_all.ensures)

pub part-to-requires-clause-first : goal.part-to-requires-clause-first
part-to-requires-clause-first g c =
    let two = c.args.two.now in
    let above : 0 < bridge_in two = omega (arith, c.bridge-number.ensures, c.if-number-eq0.false) in
    (c.requires.two.gathered.number, rw c.bridge-number.ensures (has_bridge two c.requires.two above))

pub see_all-requires-2-clause-all : goal.see_all-requires-2-clause-all
see_all-requires-2-clause-all g c =
    let two = c.args.two.now in
    let names = c.args.lock.now.base in
    let carried = c.in_ok-carry-2.ensures.carried in
    let post = carried_post names c.args.stamp c.args.bridge.now c.carry-2.new.self c.args.from.now c.carry-2.new.from c.part-to.result c.carry-2.new.to c.requires.none carried two.lock.base in
    let batch = renamed names c.args.bridge.now.rules carried.fetched.mail in
    let number : c.bridge-number.result ≡ bridge_in two = c.bridge-number.ensures in
    other_all two.lock c.bridge-number.result c.args.stamp (Posts batch) [] two.first.seat c.part-to.new.pass c.part-to.result c.carry-2.new.to c.meet.new.pass c.requires.two.gathered (omega (arith, c.if-number-eq0.false)) (omega (arith, number, bridge_last two c.requires.two))
    c.part-to.ensures.pass c.part-to.ensures.part post c.meet.ensures.pass c.meet.ensures.seen.0

pub returns-clause-two : goal.returns-clause-two
returns-clause-two g c =
    let two = c.args.two.now in
    let names = c.args.lock.now.base in
    let carried = c.in_ok-carry-2.ensures.carried in
    let post = carried_post names c.args.stamp c.args.bridge.now c.carry-2.new.self c.args.from.now c.carry-2.new.from c.part-to.result c.carry-2.new.to c.requires.none carried two.lock.base in
    let batch = renamed names c.args.bridge.now.rules carried.fetched.mail in
    let number : c.bridge-number.result ≡ bridge_in two = c.bridge-number.ensures in
    added_rests two c.args.stamp (Posts batch) [] c.see_all-2.new.first c.requires.two
    (subst (λ n. IsAdded two.lock n c.args.stamp (Posts batch) [] two.first.seat c.see_all-2.new.first) number
    (other_added two.lock c.bridge-number.result c.args.stamp (Posts batch) [] two.first.seat c.part-to.new.pass c.part-to.result c.carry-2.new.to c.meet.new.pass c.see_all-2.new.first c.requires.two.gathered c.requires.two.whole (omega (arith, c.if-number-eq0.false)) (omega (arith, number, bridge_last two c.requires.two))
    c.part-to.ensures.pass c.part-to.ensures.part post c.meet.ensures.pass c.meet.ensures.seen c.see_all-2.ensures))

pub returns-clause-crossed : goal.returns-clause-crossed
returns-clause-crossed g c =
    let two = c.args.two.now in
    let names = c.args.lock.now.base in
    let carried = c.in_ok-carry-2.ensures.carried in
    let post = carried_post names c.args.stamp c.args.bridge.now c.carry-2.new.self c.args.from.now c.carry-2.new.from c.part-to.result c.carry-2.new.to c.requires.none carried two.lock.base in
    let batch = renamed names c.args.bridge.now.rules carried.fetched.mail in
    let number : c.bridge-number.result ≡ bridge_in two = c.bridge-number.ensures in
    crossed_from names c.args.bridge.now.rules c.args.stamp carried.fetched.mail c.args.from.now c.carry-2.new.from two c.see_all-2.new.first
    (carried_fetch names c.args.stamp c.args.bridge.now c.carry-2.new.self c.args.from.now c.carry-2.new.from c.part-to.result c.carry-2.new.to c.requires.none carried) c.in_ok-carry-2.ensures.from
    (subst (λ n. IsAdded two.lock n c.args.stamp (Posts batch) [] two.first.seat c.see_all-2.new.first) number
    (other_added two.lock c.bridge-number.result c.args.stamp (Posts batch) [] two.first.seat c.part-to.new.pass c.part-to.result c.carry-2.new.to c.meet.new.pass c.see_all-2.new.first c.requires.two.gathered c.requires.two.whole (omega (arith, c.if-number-eq0.false)) (omega (arith, number, bridge_last two c.requires.two))
    c.part-to.ensures.pass c.part-to.ensures.part post c.meet.ensures.pass c.meet.ensures.seen c.see_all-2.ensures))
