use Rattle.std.proofs.Common.{refl, subst, sym}
use Rattle.moos_db.specs.Subscriptions.{VariablesState}
use Rattle.moos_db.specs.Registering.{HaveRoomFor}
use Rattle.moos_db.proofs.AfterRegistering.{added-names, numbers-kept}
use Rattle.moos_db.proofs.variables.Variables.add_subscriptions.Goals as goal

pub add_among-requires-clause-room : goal.add_among-requires-clause-room
add_among-requires-clause-room c = subst (λ (variables : VariablesState). HaveRoomFor c.args.subscriptions.items variables.all) (sym c.self.view_is) c.requires.room

pub invariant_of-self : goal.invariant_of-self
invariant_of-self c =
    numbers-kept (record { all = c.self.inside.all.items; numbers = c.self.inside.numbers; noted = c.self.inside.noted.items }) _
    (added-names c.args.subscriptions.items c.self.inside.all.items c.add_among.new.all.items c.add_among.ensures) refl refl c.self.invariant
