use Rattle.moos_following.proofs.Following.{follows_on, must_follow}
use Rattle.moos_following.proofs.Settled.{is_settled}
use Rattle.moos_following.proofs.law.following_law.Goals as goal

pub returns-clause-on : goal.returns-clause-on
returns-clause-on g c = λ schedule may history so entry follows. follows_on schedule may history so entry follows

pub returns-clause-only : goal.returns-clause-only
returns-clause-only g c = λ schedule settled history more so entry below lawful. must_follow schedule settled history more so entry below lawful

pub returns-clause-settled : goal.returns-clause-settled
returns-clause-settled g c = λ order lines clients stop period answerers names mailed. is_settled order lines clients stop period answerers names mailed
