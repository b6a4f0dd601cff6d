use Rattle.std.proofs.Common.{refl}
use Rattle.moos_db.proofs.Whole.{IsDb-equal, IsDb-push, IsDb-stays}
use Rattle.moos_db.proofs.db.Db.register.Goals as goal

pub register-requires-clause-kept : goal.register-requires-clause-kept
register-requires-clause-kept c = (IsDb-equal _ _ c.deref_mut-parts.ensures.value c.self.invariant).kept

pub invariant_of-self : goal.invariant_of-self
invariant_of-self c =
    IsDb-stays _ _ _ _ _ _ _ c.in_err-register.ensures.same c.register.ensures.kept (IsDb-equal _ _ c.deref_mut-parts.ensures.value c.self.invariant)

pub invariant_of-self-2 : goal.invariant_of-self-2
invariant_of-self-2 c =
    IsDb-push _ _ _ _ _ _ _ _ _ c.in_ok-register.ensures.ok refl c.register.ensures.kept (IsDb-equal _ _ c.deref_mut-parts.ensures.value c.self.invariant)
