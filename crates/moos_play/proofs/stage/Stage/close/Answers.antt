use Rattle.moos_step.proofs.Growing.{closed_same}
use Rattle.moos_play.proofs.stage.Stage.close.Goals as goal

pub returns-clause-history : goal.returns-clause-history
returns-clause-history c = closed_same c.args.self.first.seat c.close-db.result.0.history c.close-db.ensures.seen c.close-db.ensures.whole c.requires.whole
