use Rattle.std.proofs.Common.{rules}
use Rattle.bhv_reader.proofs.Room.{no_room}
use Rattle.bhv_reader.proofs.behavior.UnclosedBehavior.add_to.Goals as goal

-- It has a name, and the file has as many blocks as it may.
pub returns-then-len-ge-MOST_BEHAVIORS-clause-refused : goal.returns-then-len-ge-MOST_BEHAVIORS-clause-refused
returns-then-len-ge-MOST_BEHAVIORS-clause-refused c = no_room c.args.file.now c.args.self c.args.self.name c.in-Some.block (search rules) (search rules)
