use Rattle.moos_step.proofs.Calling.{fetch_answered}
use Rattle.moos_step.proofs.alone.call_at.Goals as goal

pub returns-in-Fetch-clause-answered : goal.returns-in-Fetch-clause-answered
returns-in-Fetch-clause-answered g c = fetch_answered c.fetch.result c.args.lock.now.base c.args.seat.now c.fetch.new.seat c.args.stamp c.args.call c.in-Fetch.is c.fetch.ensures.fetched
