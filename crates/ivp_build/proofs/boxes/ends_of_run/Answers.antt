use Rattle.std.proofs.Common.{◌-◌, arith}
use Rattle.ivp_domain.specs.Domains.{size_on}
use Rattle.ivp_build.proofs.Sampling.{run_begins}
use Rattle.ivp_build.proofs.boxes.ends_of_run.Goals as goal

pub overflow_mul-low : goal.overflow_mul-low
overflow_mul-low c = omega (arith, run_begins (size_on c.args.axis c.args.domain.now - 1) c.args.size c.args.run c.requires.within, c.size_on-last.ensures.size, c.size_on-last.ensures.few)
