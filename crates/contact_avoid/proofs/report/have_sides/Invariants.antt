use Rattle.std.proofs.Common.{◌≡◌, ◌+◌, length}
use Rattle.std.specs.List.{list_all}
use Rattle.std.specs.Option.{option_map_or}
use Rattle.contact_avoid.specs.Reports.{have_sides, has_sides, fields_left}
use Rattle.contact_avoid.proofs.report.have_sides.Given as goal

abbrev pub invariant-fields : goal.invariant-fields
invariant-fields l = list_all has_sides (fields_left l.rest) ≡ have_sides l.text

abbrev pub decreases-fields : goal.decreases-fields
decreases-fields l = option_map_or (λ text. length text.now + 1) l.rest 0
