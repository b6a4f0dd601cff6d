use Rattle.std.proofs.Common.{◌∙◌, ◌∷◌, true, ap}
use Rattle.helm_cond.specs.Levels.{accepts}
use Rattle.helm_cond.proofs.Telling.{closes}
use Rattle.helm_cond.proofs.cursor.Cursor.behind.Goals as goal

pub returns-in-Close-true : goal.returns-in-Close-true
returns-in-Close-true c more =
    ap (λ ready. accepts c.args.self.open ready (c.args.symbol.now ∷ more)) c.in-Close-true.is-1
    ∙ ap (λ symbol. accepts c.args.self.open true (symbol ∷ more)) c.in-Close-true.is-0
    ∙ closes c.args.self.open more c.if-self-gt0.true
