use Rattle.helm_core.proofs.Learning.{mail_none}
use Rattle.helm_core.proofs.helm.Helm.helm_view_after.Goals as goal

pub returns-then-letters-eq0 : goal.returns-then-letters-eq0
returns-then-letters-eq0 c = mail_none c.args.self.now.modes c.args.letters.now c.args.self.now.helm_view c.if-letters-eq0.true
