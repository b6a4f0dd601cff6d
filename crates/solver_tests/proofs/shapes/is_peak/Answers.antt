use Rattle.std.proofs.Common.{rules}
use Rattle.solver_tests.proofs.shapes.is_peak.Goals as goal

pub returns : goal.returns
returns c = λ _. record {
  summit = search rules;
  peakwidth = (search rules, search rules);
  basewidth = (search rules, search rules);
  some = search rules;
  within = search rules;
  most = search rules;
}
