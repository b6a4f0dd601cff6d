use Rattle.std.proofs.Common.{refl}
use Rattle.moos_bridged.proofs.Playing.{rests_new}
use Rattle.moos_bridged.proofs.community.Community.make.Goals as goal

pub returns-clause-resting : goal.returns-clause-resting
returns-clause-resting c = rests_new _ c.args.script.now refl c.requires refl c.in_ok-lock.ensures.names c.in_ok-lock.ensures.gathered c.in_ok-lock.ensures.nothing c.in_ok-lock.ensures.calls

pub returns-clause-new : goal.returns-clause-new
returns-clause-new c = c.in_ok-lock.ensures.nothing.seen
