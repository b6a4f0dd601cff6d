use Rattle.std.proofs.Common.{◌∙◌}
use Rattle.moos_db.proofs.Whole.{IsDb-equal, IsDb-new}
use Rattle.moos_db.proofs.db.Db.make.Goals as goal

pub invariant_of-result : goal.invariant_of-result
invariant_of-result c =
    IsDb-equal _ _ c.in_ok-parts.ensures.ok
    (rw (c.new.ensures, c.new-2.ensures) (IsDb-new c.args.names _ c.requires (c.in_ok-clients.ensures.each ∙ c.len.ensures) c.in_ok-clients.ensures.blank))
