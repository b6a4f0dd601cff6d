use Rattle.std.proofs.Common.{refl}
use Rattle.moos_db.proofs.Whole.{IsDb-equal, IsDb-push, IsDb-stays}
use Rattle.moos_db.proofs.db.Db.unregister.Goals as goal

pub invariant_of-self : goal.invariant_of-self
invariant_of-self c =
    let parts = c.deref_mut-parts.result.now in
    let db = IsDb-equal _ _ c.deref_mut-parts.ensures.value c.self.invariant in
    IsDb-stays _ _ _ _ _ _ _ c.in_err-unregister.ensures.same (c.unregister.ensures.kept parts.names db.kept) db

pub invariant_of-self-2 : goal.invariant_of-self-2
invariant_of-self-2 c =
    let parts = c.deref_mut-parts.result.now in
    let db = IsDb-equal _ _ c.deref_mut-parts.ensures.value c.self.invariant in
    IsDb-push _ _ _ _ _ _ _ _ _ c.in_ok-unregister.ensures.ok refl (c.unregister.ensures.kept parts.names db.kept) db
