use Rattle.crew_laws.proofs.Obeying.{by_last_in_time, by_last_post, holds}
use Rattle.crew_laws.proofs.law.obeying_law.Goals as goal

pub returns : goal.returns
returns c =
    record { last_in_time = by_last_in_time c.delivery_law.ensures.joined; last = by_last_post c.delivery_law.ensures.joined; holds = holds c.delivery_law.ensures.joined }
