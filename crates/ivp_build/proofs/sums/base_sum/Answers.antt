use Rattle.ivp_func.proofs.Rises.{small_parts}
use Rattle.ivp_build.proofs.Totals.{bases_are, bases_fit}
use Rattle.ivp_build.proofs.sums.base_sum.Goals as goal

pub overflow_add-result : goal.overflow_add-result
overflow_add-result c = bases_fit c.args.p.now.base c.args.q.now.base (small_parts c.args.p.now c.requires.p).0 (small_parts c.args.q.now c.requires.q).0

pub returns : goal.returns
returns c = bases_are c.args.p.now.base c.args.q.now.base (small_parts c.args.p.now c.requires.p).0 (small_parts c.args.q.now c.requires.q).0
