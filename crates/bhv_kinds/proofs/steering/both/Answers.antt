use Rattle.std.proofs.Common.{codes}
use Rattle.bhv_kinds.specs.Utilities.{PeakOn}
use Rattle.bhv_kinds.proofs.Couples.{peaks_apart, peaks_room, sum_function}
use Rattle.bhv_kinds.proofs.steering.both.Goals as goal

pub sum-requires-clause-room : goal.sum-requires-clause-room
sum-requires-clause-room c =
    peaks_room c.args.domain.now c.args.course.now c.args.speed.now c.in_ok-one.one c.in_ok-other.other c.in_ok-one.ensures.pieces c.requires.course_most c.requires.speed_most c.in_ok-one.ensures.value c.in_ok-other.ensures.value

pub sum-requires-clause-apart : goal.sum-requires-clause-apart
sum-requires-clause-apart c = peaks_apart c.args.domain.now c.args.course.now c.args.speed.now c.in_ok-one.one c.in_ok-other.other c.requires.course_axis c.in_ok-one.ensures.pieces c.in_ok-other.ensures.pieces

pub returns : goal.returns
returns c =
    sum_function c.args.domain.now (PeakOn (codes "course") c.args.course.now) (PeakOn (codes "speed") c.args.speed.now) c.in_ok-one.one c.in_ok-other.other c.in_ok-func.func c.in_ok-one.ensures.pieces c.in_ok-other.ensures.pieces c.in_ok-func.ensures
