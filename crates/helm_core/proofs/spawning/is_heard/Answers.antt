use Rattle.helm_core.proofs.Spawns.{called}
use Rattle.helm_core.proofs.spawning.is_heard.Goals as goal

pub returns-then-is_template : goal.returns-then-is_template
returns-then-is_template c = called c.args.letters.now c.args.block.now c.is_template.result c.is_mailed.result c.is_template.ensures c.if-is_template.true c.is_mailed.ensures
