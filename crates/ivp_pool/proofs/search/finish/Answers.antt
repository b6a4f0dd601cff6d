use Rattle.std.proofs.Common.{[], arith, refl, ◌∙◌}
use Rattle.ivp_pool.specs.Teams.{deque_states}
use Rattle.ivp_pool.proofs.Settling.{all_settled, settled_next, settled_start}
use Rattle.ivp_pool.proofs.Whole.{all_more, all_none, ends_len}
use Rattle.ivp_pool.proofs.search.finish.Goals as goal

pub loop-number-init : goal.loop-number-init
loop-number-init g c =
    record {
      did = all_none c.args.problem.now c.args.best.now [] c.args.members.now c.requires.workers;
      rows = refl;
      settled = settled_start c.args.members.now c.requires.parts;
    }

pub loop-number-preserved : goal.loop-number-preserved
loop-number-preserved g c =
    let inv = c.loop-number.invariant in
    let members = c.loop-number.members in
    record {
      did = all_more c.args.problem.now c.args.best.now [] [] [] c.args.members.now members c.empty_deque.new.members inv.did c.empty_deque.ensures.did;
      rows = c.empty_deque.ensures.doors ∙ inv.rows;
      settled = settled_next c.loop-number.number (deque_states members) (deque_states c.empty_deque.new.members) (omega (arith, c.loop-number-test.true, inv.did.len, ends_len members)) inv.settled c.empty_deque.ensures.empty;
    }

pub returns-clause-settled : goal.returns-clause-settled
returns-clause-settled g c =
    let inv = c.loop-number.invariant in
    all_settled c.loop-number.number c.args.members.now c.loop-number.members (omega (arith, c.loop-number-test.false, inv.did.len)) c.requires.doors inv.rows inv.settled
