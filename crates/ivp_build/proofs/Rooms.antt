-- Where the greatest values of two functions leave room for their sum, their values do at each point.
use Rattle.std.proofs.Common.{arith}
use Rattle.std.proofs.lemmas.Int.{ints}
use Rattle.ivp_build.specs.Sums.{TopsLeaveRoom}

pub tops_leave_room : TopsLeaveRoom
tops_leave_room axes ps qs top other one two most point inside =
    let first = one.greatest point inside in
    let second = two.greatest point inside in
    omega (arith, ints, first, second, most)
