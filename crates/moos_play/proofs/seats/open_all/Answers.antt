use Rattle.std.proofs.Common.{◌<◌, length, subst}
use Rattle.std.specs.Prelude.{IfSome}
use Rattle.moos_play.specs.Steered.{IsUnticked}
use Rattle.moos_play.proofs.Beginning.{nothing_whole, opened_first}
use Rattle.moos_play.proofs.seats.open_all.Goals as goal

pub open-requires-clause-whole : goal.open-requires-clause-whole
open-requires-clause-whole g c κs lives = nothing_whole c.args.first.now c.requires.nothing

pub returns-in_ok-open-clause-opened : goal.returns-in_ok-open-clause-opened
returns-in_ok-open-clause-opened g c =
    let new = subst (λ s. IfSome s (λ helm. IsUnticked helm × (helm.number < length c.args.lock.now.base))) c.in-Some.is c.requires.new in
    opened_first c.args.lock.now c.in-Some.helm_client c.open.new.helm_client c.args.first.now c.open.new.first c.requires.nothing new.0 c.open.ensures.same c.open.ensures.gathered c.open.ensures.whole c.in_ok-open.ensures.opened
