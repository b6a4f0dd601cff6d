use Rattle.moos_play.specs.Plays.{next_stamp}
use Rattle.moos_play.specs.Runs.{shown_by}
use Rattle.moos_play.proofs.Stepped.{stepped_none}
use Rattle.moos_play.proofs.stage.Stage.go_on.Goals as goal

pub returns-then-is_none-clause-stepped : goal.returns-then-is_none-clause-stepped
returns-then-is_none-clause-stepped g c = stepped_none (next_stamp (shown_by c.args.self.now)) c.args.self.now c.requires.may.at_play
