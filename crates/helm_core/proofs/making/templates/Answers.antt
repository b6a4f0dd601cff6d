use Rattle.std.proofs.Common.{◌∙◌, rules, tests}
use Rattle.std.proofs.lemmas.Iterator.{YieldsList-from_slice}
use Rattle.std.proofs.lemmas.Iterator.Consumers.{YieldsList-from_filter, count_from_yields_List}
use Rattle.std.proofs.lemmas.List.Sums.{length-filter}
use Rattle.helm_core.specs.Plans.{is_template}
use Rattle.helm_core.proofs.making.templates.Goals as goal

pub returns : goal.returns
returns c =
    count_from_yields_List c.filter.result _ c.count.ensures.ran
    (YieldsList-from_filter _ is_template (YieldsList-from_slice c.args.blocks.now cc) c.filter.ensures.closure (λ x b q k. search (rules, tests)))
    ∙ length-filter is_template c.args.blocks.now
