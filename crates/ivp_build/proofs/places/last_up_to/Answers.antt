use Rattle.std.proofs.Common.{ap, ◌∙◌, arith}
use Rattle.std.specs.Prelude.{int_lt}
use Rattle.ivp_domain.specs.Axes.{value_on}
use Rattle.ivp_build.proofs.GoodAxes.{good_parts, next_fits, next_kept, next_number}
use Rattle.ivp_build.proofs.Searches.{last_is}
use Rattle.ivp_build.proofs.places.last_up_to.Goals as goal

pub overflow_add-limit : goal.overflow_add-limit
overflow_add-limit c = next_fits c.args.limit c.requires.limit

pub count_below-requires-clause-number : goal.count_below-requires-clause-number
count_below-requires-clause-number c = next_number c.args.limit c.requires.limit

pub returns-clause-last : goal.returns-clause-last
returns-clause-last c =
    let cast = next_kept c.args.limit c.requires.limit in
    c.saturating_sub.ensures
    ∙ last_is c.args.axis.now c.args.limit c.count_below.result (λ x h. c.count_below.ensures.each x h ∙ ap (int_lt (value_on c.args.axis.now x)) cast) c.count_below.ensures.within

pub returns-clause-within : goal.returns-clause-within
returns-clause-within c = let good = good_parts c.args.axis.now c.requires.good in omega arith
