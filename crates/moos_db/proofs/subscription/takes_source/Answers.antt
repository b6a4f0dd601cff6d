use Rattle.std.proofs.Common.{◌∙◌, ap}
use Rattle.moos_post.specs.Patterns.{matches}
use Rattle.moos_db.proofs.Stars.{lone_star-matches}
use Rattle.moos_db.proofs.subscription.takes_source.Goals as goal

pub returns-in-len1 : goal.returns-in-len1
returns-in-len1 c =
    lone_star-matches c.bytes.result.now c.args.source.now c.in-len1.len_at_least c.in-len1.len_below c.if-sign-eq42.true
    ∙ ap (λ pattern. matches pattern c.args.source.now) c.bytes.ensures.value
