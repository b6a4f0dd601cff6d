use Rattle.std.proofs.Common.{Bool, rules, sym, tests, ◌∙◌}
use Rattle.std.specs.List.{list_any}
use Rattle.std.proofs.lemmas.Iterator.{YieldsList-from_slice}
use Rattle.std.proofs.lemmas.Iterator.Search.{any_from_yields_List}
use Rattle.moos_post.specs.declared.entry.Entry.{Entry}
use Rattle.moos_post.specs.declared.value.Post.{Post}
use Rattle.moos_post.specs.History.{posts_of_entry}
use Rattle.moos_share.specs.LongNames.{is_long_with}
use Rattle.moos_share.proofs.LongNames.{any_by_line}
use Rattle.moos_share.proofs.long_names.makes_long.Goals as goal

pub returns : goal.returns
returns c =
    let is_long : Post → Bool = λ post. is_long_with c.args.rule.now post.var in
    any_from_yields_List (λ (line : Entry). list_any is_long (posts_of_entry line)) _ _ _ c.any.ensures.ran (YieldsList-from_slice c.args.lines.now cc) (λ x b q k. search (rules, tests))
    ∙ sym (any_by_line is_long c.args.lines.now)
