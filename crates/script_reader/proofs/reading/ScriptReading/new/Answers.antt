use Rattle.script_reader.proofs.Counting.{counts_none}
use Rattle.script_reader.proofs.reading.ScriptReading.new.Goals as goal

pub returns-clause-counted : goal.returns-clause-counted
returns-clause-counted c = rw (c.new.ensures, c.new-2.ensures, c.no_registrations.ensures, c.new-3.ensures, c.new-4.ensures) counts_none
