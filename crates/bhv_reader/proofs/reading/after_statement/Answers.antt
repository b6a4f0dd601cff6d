use Rattle.bhv_reader.proofs.reading.after_statement.Goals as goal

pub returns-then-is_within-clause-read : goal.returns-then-is_within-clause-read
returns-then-is_within-clause-read c = c.read_within.ensures.read c.args.domain.now

pub returns-then-is_within-clause-refused : goal.returns-then-is_within-clause-refused
returns-then-is_within-clause-refused c = c.read_within.ensures.refused c.args.domain.now
