use Rattle.moos_bridged.proofs.Stamping.{first_late, left_less, next_is, second_late, shared_next}
use Rattle.moos_bridged.proofs.by_stamp.share_next.Goals as goal

pub play_both-requires-clause-one : goal.play_both-requires-clause-one
play_both-requires-clause-one g c κs lives =
    let one = c.args.one.now in
    let two = c.args.two.now in
    let next = next_is one two c.next_stamp-first.result c.next_stamp-second.result c.earlier.result c.in-Some.stamp c.next_stamp-first.ensures c.next_stamp-second.ensures c.earlier.ensures c.in-Some.is in
    (c.requires.first, first_late one two c.in-Some.stamp c.requires.first next)

pub play_both-requires-clause-two : goal.play_both-requires-clause-two
play_both-requires-clause-two g c κs lives =
    let one = c.args.one.now in
    let two = c.args.two.now in
    let next = next_is one two c.next_stamp-first.result c.next_stamp-second.result c.earlier.result c.in-Some.stamp c.next_stamp-first.ensures c.next_stamp-second.ensures c.earlier.ensures c.in-Some.is in
    (c.requires.second, second_late one two c.in-Some.stamp c.requires.second next)

pub returns-clause-so_far : goal.returns-clause-so_far
returns-clause-so_far g c =
    let one = c.args.one.now in
    let two = c.args.two.now in
    let next = next_is one two c.next_stamp-first.result c.next_stamp-second.result c.earlier.result c.in-Some.stamp c.next_stamp-first.ensures c.next_stamp-second.ensures c.earlier.ensures c.in-Some.is in
    let played = c.in_ok-play_both.ensures in
    let crossed = c.in_ok-cross.ensures in
    shared_next c.args.bridge.now c.cross.new.bridge c.in-Some.stamp one c.play_both.new.one c.cross.new.one two c.play_both.new.two c.cross.new.two c.requires next played.one.1 played.two.1 crossed.bridge crossed.one crossed.two crossed.crossed

pub returns-clause-more : goal.returns-clause-more
returns-clause-more g c = λ more.
    let one = c.args.one.now in
    let two = c.args.two.now in
    let next = next_is one two c.next_stamp-first.result c.next_stamp-second.result c.earlier.result c.in-Some.stamp c.next_stamp-first.ensures c.next_stamp-second.ensures c.earlier.ensures c.in-Some.is in
    let played = c.in_ok-play_both.ensures in
    let crossed = c.in_ok-cross.ensures.crossed in
    left_less c.in-Some.stamp one c.play_both.new.one c.cross.new.one two c.play_both.new.two c.cross.new.two next played.one.1 played.two.1 crossed.first.script crossed.second.script crossed.from crossed.to
