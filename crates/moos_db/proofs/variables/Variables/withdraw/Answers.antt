use Rattle.std.proofs.Common.{refl}
use Rattle.moos_db.specs.Withdrawing.{IsWithdrawn}
use Rattle.moos_db.proofs.Changes.{AreNumbers-names, names-each}
use Rattle.moos_db.proofs.Withdrawing.{withdrawn-name}
use Rattle.moos_db.proofs.variables.Variables.withdraw.Goals as goal

pub invariant_of-self : goal.invariant_of-self
invariant_of-self c =
    AreNumbers-names (record { all = c.self.inside.all.items; numbers = c.self.inside.numbers; noted = c.self.inside.noted.items }) _ c.withdraw_from_all.ensures.each
    (names-each (IsWithdrawn c.args.client c.args.var.now c.args.source.now) c.self.inside.all.items c.withdraw_from_all.new.all.items (withdrawn-name c.args.client c.args.var.now c.args.source.now) c.withdraw_from_all.ensures)
    refl refl c.self.invariant
