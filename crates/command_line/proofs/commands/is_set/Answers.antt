use Rattle.std.proofs.Common.{◌∙◌}
use Rattle.clap.specs.Words.{found_of}
use Rattle.command_line.proofs.Finding.{set_is, set_none}
use Rattle.command_line.proofs.commands.is_set.Goals as goal

pub returns-in-Some : goal.returns-in-Some
returns-in-Some c = c.eq.ensures ∙ set_is (found_of c.args.matches.now) c.args.id.now c.get_str.ensures c.in-Some.is

pub returns-in-None : goal.returns-in-None
returns-in-None c = set_none (found_of c.args.matches.now) c.args.id.now c.get_str.ensures c.in-None.is
