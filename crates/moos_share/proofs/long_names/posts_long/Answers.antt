use Rattle.std.proofs.Common.{rules, sym, tests, ◌∙◌}
use Rattle.std.proofs.lemmas.Iterator.{YieldsList-from_slice}
use Rattle.std.proofs.lemmas.Iterator.Search.{any_from_yields_List}
use Rattle.moos_post.specs.declared.value.Pair.{Pair}
use Rattle.moos_share.specs.LongNames.{is_long_with}
use Rattle.moos_share.proofs.LongNames.{any_by_pair}
use Rattle.moos_share.proofs.long_names.posts_long.Goals as goal

pub returns-in-Post : goal.returns-in-Post
returns-in-Post c =
    let is_long = is_long_with c.args.rule.now in
    rw c.in-Post.is (any_from_yields_List (λ (pair : Pair). is_long pair.var) _ _ _ c.any.ensures.ran (YieldsList-from_slice c.in-Post.batch cc) (λ x b q k. search (rules, tests))
    ∙ sym (any_by_pair is_long c.args.line.now.stamp c.args.line.now.client c.in-Post.batch))
