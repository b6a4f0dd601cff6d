use Rattle.std.proofs.Common.{subst, sym}
use Rattle.contact_avoid.specs.Avoids.{CanServe}
use Rattle.contact_avoid.proofs.Clearing.{may_serve}
use Rattle.contact_avoid.proofs.avoid.utility.Goals as goal

pub clearance_at-requires-clause-may : goal.clearance_at-requires-clause-may
clearance_at-requires-clause-may c = may_serve c.args.domain.now c.avoid.inside.weight c.avoid.inside.avoidance c.avoid.invariant (subst (CanServe c.args.domain.now) (sym c.avoid.view_is) c.requires.serves)
