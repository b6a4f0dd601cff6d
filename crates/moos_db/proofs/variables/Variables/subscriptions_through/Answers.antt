use Rattle.std.proofs.Common.{refl}
use Rattle.moos_db.proofs.AfterRegistering.{numbers-kept, roomier-names}
use Rattle.moos_db.proofs.variables.Variables.subscriptions_through.Goals as goal

pub invariant_of-self : goal.invariant_of-self
invariant_of-self c =
    numbers-kept (record { all = c.self.inside.all.items; numbers = c.self.inside.numbers; noted = c.self.inside.noted.items }) _
    (roomier-names c.self.inside.all.items c.subscriptions_among.new.all.items c.subscriptions_among.ensures.roomier) refl refl c.self.invariant
