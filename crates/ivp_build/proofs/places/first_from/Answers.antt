use Rattle.std.proofs.Common.{ap, subst, sym, ◌∙◌, arith}
use Rattle.std.specs.Prelude.{int_lt}
use Rattle.ivp_domain.specs.Axes.{value_on}
use Rattle.ivp_build.specs.Places.{IsNumber}
use Rattle.ivp_build.proofs.GoodAxes.{below_counted, end_number, good_parts, number_kept, past_counted}
use Rattle.ivp_build.proofs.Searches.{first_is}
use Rattle.ivp_build.proofs.places.first_from.Goals as goal

pub count_below-requires-clause-number : goal.count_below-requires-clause-number
count_below-requires-clause-number c =
    let number = end_number c.args.limit c.requires.limit in
    subst IsNumber (sym (number_kept c.args.limit number)) number

pub overflow_sub-axis : goal.overflow_sub-axis
overflow_sub-axis c = let good = good_parts c.args.axis.now c.requires.good in omega arith

pub returns-clause-first : goal.returns-clause-first
returns-clause-first c =
    let axis = c.args.axis.now in
    let good = good_parts axis c.requires.good in
    let cast = number_kept c.args.limit (end_number c.args.limit c.requires.limit) in
    c.min.ensures
    ∙ first_is axis c.args.limit c.count_below.result (λ x h. c.count_below.ensures.each x h ∙ ap (int_lt (value_on axis x)) cast) c.count_below.ensures.within (omega arith)

pub returns-clause-before : goal.returns-clause-before
returns-clause-before c place before =
    let axis = c.args.axis.now in
    let cast = number_kept c.args.limit (end_number c.args.limit c.requires.limit) in
    let same = c.count_below.ensures.each place (omega arith) ∙ ap (int_lt (value_on axis place)) cast in
    below_counted (value_on axis place) c.args.limit place c.count_below.result same (omega arith)

pub returns-clause-reached : goal.returns-clause-reached
returns-clause-reached c short =
    let axis = c.args.axis.now in
    let place = c.min.result in
    let cast = number_kept c.args.limit (end_number c.args.limit c.requires.limit) in
    let same = c.count_below.ensures.each place (omega arith) ∙ ap (int_lt (value_on axis place)) cast in
    past_counted (value_on axis place) c.args.limit place c.count_below.result same (omega arith)

pub returns-clause-within : goal.returns-clause-within
returns-clause-within c = let good = good_parts c.args.axis.now c.requires.good in omega arith
