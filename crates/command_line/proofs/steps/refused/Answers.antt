-- Each refusal has its status.
use Rattle.std.proofs.Common.{ap, sym}
use Rattle.command_line.specs.Endings.{status_of}
use Rattle.command_line.proofs.steps.refused.Goals as goal

pub returns-in-At : goal.returns-in-At
returns-in-At c = ap (status_of c.args.file) (sym c.in-At.is)

pub returns-in-NoMemory : goal.returns-in-NoMemory
returns-in-NoMemory c = ap (status_of c.args.file) (sym c.in-NoMemory.is)
