use Rattle.std.proofs.Common.{refl}
use Rattle.moos_db.proofs.Whole.{IsDb-equal, IsDb-push, IsDb-stays}
use Rattle.moos_db.proofs.db.Db.post.Goals as goal

pub post-requires-clause-kept : goal.post-requires-clause-kept
post-requires-clause-kept c = (IsDb-equal _ _ c.deref_mut-parts.ensures.value c.self.invariant).kept

pub invariant_of-self : goal.invariant_of-self
invariant_of-self c =
    IsDb-stays _ _ _ _ _ _ _ c.in_err-post.ensures.same c.post.ensures.kept (IsDb-equal _ _ c.deref_mut-parts.ensures.value c.self.invariant)

pub invariant_of-self-2 : goal.invariant_of-self-2
invariant_of-self-2 c =
    IsDb-push _ _ _ _ _ _ _ _ _ c.in_ok-post.ensures.ok refl c.post.ensures.kept (IsDb-equal _ _ c.deref_mut-parts.ensures.value c.self.invariant)
