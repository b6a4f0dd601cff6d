-- What every rule keeps that was read.
use Rattle.std.specs.Prelude.{◌&&◌, nat_le, length, IfSome, IsTrue}
use Rattle.moos_post.specs.Entries.{IsReg}
use Rattle.moos_post.specs.Words.{is_name}
use Rattle.moos_share.specs.declared.rule.Rule.{Rule}

-- two patterns and an interval as their types let them be, and as prefix, if there is one, a name of at most 32 bytes
pub record IsRule (rule : Rule) : Type 0 where
  pub reg : IsReg rule.reg
  pub prefix : IfSome rule.prefix (λ prefix. IsTrue (is_name prefix && nat_le (length prefix) 32))
