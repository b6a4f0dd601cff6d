use Rattle.ivp_cert.proofs.PrintedDecisions.{decision_back}
use Rattle.ivp_cert.proofs.law.printed_law.Goals as goal

pub returns : goal.returns
returns c = decision_back c.args.prefix.now c.args.decision.now c.requires.prefix (record {
  problem = c.problem_prints.ensures;
  claim = record { four = c.places_print.ensures; point = c.requires.point; sum = c.requires.sums.claim };
  lines = c.lines_print.ensures;
})

pub lines_print-requires : goal.lines_print-requires
lines_print-requires c = c.requires.sums.lines
