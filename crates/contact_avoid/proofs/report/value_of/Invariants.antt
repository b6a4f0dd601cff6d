use Rattle.std.proofs.Common.{◌≡◌, ◌+◌, length}
use Rattle.std.specs.Prelude.{filter_map}
use Rattle.std.specs.Option.{option_map, option_map_or}
use Rattle.contact_avoid.specs.Reports.{fields_left, value_of, value_under}
use Rattle.contact_avoid.proofs.Fields.{sole_after}
use Rattle.contact_avoid.proofs.report.value_of.Given as goal

abbrev pub invariant-fields : goal.invariant-fields
invariant-fields l = sole_after (option_map (λ value. value.now) l.found) (filter_map (value_under l.key) (fields_left l.rest)) ≡ value_of l.key l.text

abbrev pub decreases-fields : goal.decreases-fields
decreases-fields l = option_map_or (λ text. length text.now + 1) l.rest 0
