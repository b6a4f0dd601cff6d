use Rattle.script_reader.proofs.Parts.{name_refused}
use Rattle.script_reader.proofs.batch.pair_of_sides.Goals as goal

pub returns-in-Err-clause-refused : goal.returns-in-Err-clause-refused
returns-in-Err-clause-refused c = name_refused c.in-Err.fault c.args.var.now c.args.as_text c.args.value.now c.in-Err.ensures.refused
