use Rattle.std.proofs.Common.{◌+◌, ◌^◌, ◌/◌}
use Rattle.ivp_pool.specs.Parts.{handed_within}
use Rattle.ivp_pool.specs.Solving.{knows_of}
use Rattle.ivp_pool.proofs.Knowing.{knows_from}
use Rattle.ivp_pool.proofs.Teams.{closed_one, counted_on, handed_nodes}
use Rattle.ivp_pool.proofs.team.close_next.Goals as goal

pub returns-clause-went : goal.returns-clause-went
returns-clause-went g c =
    let problem = c.args.problem.now in
    let closed = c.close_one-closed.ensures.closed in (
      handed_within problem c.args.node closed.part,
      closed.taken,
      record {
        at_word = c.close_one-closed.ensures.scout.0;
        scout = c.close_one-closed.ensures.scout.1;
        later = knows_from (knows_of c.args.worker.now) (record { low = c.close_one-closed.new.scout.me.0.low; own = c.close_one-closed.new.own.key }) c.close_one-closed.ensures.later c.close_one-closed.ensures.greater;
        owned = λ _. c.close_one-closed.ensures.own;
        count = c.close_one-closed.result;
        wraps = (c.args.worker.now.work.closed + c.close_one-closed.result) / 2 ^ 64;
        counted = counted_on c.args.worker.now.work.closed c.close_one-closed.result;
        closed = closed_one problem (record { low = c.close_one-closed.new.scout.me.0.low; own = c.close_one-closed.new.own.key }) (g.T.Tray.took c.args.tray.now) (g.T.Tray.took c.close_one-closed.new.tray) c.args.node c.close_one-closed.result c.requires.node closed;
      },
      handed_nodes problem (record { low = c.close_one-closed.new.scout.me.0.low; own = c.close_one-closed.new.own.key }) (g.T.Tray.took c.args.tray.now) (g.T.Tray.took c.close_one-closed.new.tray) c.args.node c.close_one-closed.result c.requires.node closed,
    )
