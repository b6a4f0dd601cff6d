-- A file is found with a name that a text can hold, or none is found, or one without such a name.
use Rattle.std.proofs.Common.{ap, not, sym, ◌∙◌}
use Rattle.clap.specs.Words.{found_of}
use Rattle.command_line.proofs.Finding.{other_file_bad, other_file_none}
use Rattle.command_line.proofs.job.other_file_in.Goals as goal

pub returns-then-is_none : goal.returns-then-is_none
returns-then-is_none c = other_file_none (found_of c.args.matches.now) c.args.id.now c.get_str.result c.get_str.ensures (c.is_none.ensures ∙ ap not c.if-is_none.true)

pub returns-in-None : goal.returns-in-None
returns-in-None c = other_file_bad (found_of c.args.matches.now) c.args.id.now c.get_str.result c.get_str.ensures (c.is_none.ensures ∙ ap not c.if-is_none.false) (sym c.in-None.is ∙ c.in_ok-name.ensures)
