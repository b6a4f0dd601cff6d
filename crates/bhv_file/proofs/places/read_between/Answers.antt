use Rattle.std.proofs.Common.{ap, arith}
use Rattle.bhv_file.proofs.Listed.{many_listed, rest_of}
use Rattle.bhv_file.proofs.places.read_between.Goals as goal

pub returns-then-len-ge-MOST_PLACES-clause-spots : goal.returns-then-len-ge-MOST_PLACES-clause-spots
returns-then-len-ge-MOST_PLACES-clause-spots c =
    many_listed c.args.text.now c.in-Some.rest.now c.cut_at.result.0.now c.cut_at.result.1 c.loop-left.left c.loop-left.spots.items c.in-Some-read_spot.spot c.loop-left.invariant (ap rest_of c.in-Some.is) c.cut_at.ensures.cut
    c.in-Some-read_spot.ensures.spot (omega (arith, c.if-len-ge-MOST_PLACES.true, c.len.ensures))
