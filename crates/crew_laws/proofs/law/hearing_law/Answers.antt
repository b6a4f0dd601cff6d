use Rattle.crew_laws.proofs.Alone.{in_time_alone}
use Rattle.crew_laws.proofs.Hearings.{heard_from, hears, mailed, none_overtaken}
use Rattle.crew_laws.proofs.law.hearing_law.Goals as goal

pub returns : goal.returns
returns c = record { heard = hears c.delivery_law.ensures.joined; mailed = mailed; in_time = none_overtaken; first = heard_from; alone = in_time_alone }
