use Rattle.moos_mail.proofs.Joined.{joined}
use Rattle.moos_mail.proofs.Living.{lives-are}
use Rattle.moos_mail.proofs.Mailed.{given, once-each}
use Rattle.moos_mail.proofs.Places.{live-places, places-live}
use Rattle.moos_mail.proofs.Selected.{selected}
use Rattle.moos_mail.proofs.Sending.{sent}
use Rattle.moos_mail.proofs.law.delivery_law.Goals as goal

pub returns-clause-once : goal.returns-clause-once
returns-clause-once c = once-each

pub returns-clause-given : goal.returns-clause-given
returns-clause-given c = given

pub returns-clause-mailed : goal.returns-clause-mailed
returns-clause-mailed c = sent

pub returns-clause-live : goal.returns-clause-live
returns-clause-live c = lives-are

pub returns-clause-places : goal.returns-clause-places
returns-clause-places c = λ client history k made. (live-places client history k made, places-live client history k made)

pub returns-clause-joined : goal.returns-clause-joined
returns-clause-joined c = joined

pub returns-clause-selected : goal.returns-clause-selected
returns-clause-selected c = selected
