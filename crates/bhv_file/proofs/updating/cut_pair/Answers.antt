use Rattle.std.proofs.Common.{sym}
use Rattle.bhv_file.proofs.Listed.{cut_first, cut_none}
use Rattle.bhv_file.proofs.updating.cut_pair.Goals as goal

pub returns-in-Some-clause-cut : goal.returns-in-Some-clause-cut
returns-in-Some-clause-cut c = cut_first 35 c.args.text.now c.in-Some.end (sym c.in-Some.ensures)

pub returns-in-None-clause-cut : goal.returns-in-None-clause-cut
returns-in-None-clause-cut c = cut_none 35 c.args.text.now (sym c.in-None.ensures)
