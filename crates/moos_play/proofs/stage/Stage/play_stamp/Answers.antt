use Rattle.std.proofs.Common.{rules, sym}
use Rattle.moos_play.proofs.Stepped.{stepped_at, stepped_err, stepped_ok, stepped_twice}
use Rattle.moos_play.proofs.stage.Stage.play_stamp.Goals as goal

pub returns-clause-stepped : goal.returns-clause-stepped
returns-clause-stepped g c =
    stepped_ok c.args.stamp c.args.self.now c.finish_stamp.new.self
    (stepped_twice _ c.args.stamp c.args.self.now c.go_on.new.self c.finish_stamp.new.self c.requires.may.at_play (stepped_at (sym c.requires.stamp) c.in_ok-go_on.ensures.stepped) c.in_ok-finish_stamp.ensures.stepped)

pub returns-then-not-branch-clause-stepped : goal.returns-then-not-branch-clause-stepped
returns-then-not-branch-clause-stepped g c = stepped_ok c.args.stamp c.args.self.now c.go_on.new.self (stepped_at (sym c.requires.stamp) c.in_ok-go_on.ensures.stepped)

pub returns-in_err-finish_stamp-clause-stepped : goal.returns-in_err-finish_stamp-clause-stepped
returns-in_err-finish_stamp-clause-stepped g c =
    stepped_err _ c.args.stamp c.args.self.now c.finish_stamp.new.self (search rules)
    (stepped_twice _ c.args.stamp c.args.self.now c.go_on.new.self c.finish_stamp.new.self c.requires.may.at_play (stepped_at (sym c.requires.stamp) c.in_ok-go_on.ensures.stepped) c.in_err-finish_stamp.ensures.stepped)

pub returns-in_err-go_on-clause-stepped : goal.returns-in_err-go_on-clause-stepped
returns-in_err-go_on-clause-stepped g c = stepped_err _ c.args.stamp c.args.self.now c.go_on.new.self (search rules) (stepped_at (sym c.requires.stamp) c.in_err-go_on.ensures.stepped)
