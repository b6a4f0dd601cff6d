use Rattle.std.proofs.Common.{◌≡◌, ◌-◌, ◌≤◌, Some, length, ap, sym, ◌∙◌, arith}
use Rattle.std.specs.Prelude.{slice_get}
use Rattle.std.proofs.lemmas.Bool.Decides.{nat_tests}
use Rattle.std.proofs.lemmas.Option.{slice_get-get_or, slice_get_past}
use Rattle.moos_io.proofs.BufferedWriting.{writes_none}
use Rattle.moos_report.proofs.Reporting.{current_is, current_none}
use Rattle.moos_report.proofs.iterations.put_current.Goals as goal

pub returns-then-fetches-first : goal.returns-then-fetches-first
returns-then-fetches-first g c =
    rw (current_none c.args.setup.now c.args.first c.args.iterations.now c.args.fetches c.if-fetches-first.true) (writes_none _)

pub returns-in-Some : goal.returns-in-Some
returns-in-Some g c =
    let place = c.args.fetches - 1 - c.args.first in
    let lookup = c.in-Some.ensures.lookup in
    let at : slice_get c.args.iterations.now place ≡ Some c.in-Some.iteration.now =
    slice_get-get_or c.args.iterations.now place c.in-Some.iteration.now lookup.3.0 ∙ ap Some (sym lookup.1) in
    rw (current_is c.args.setup.now c.args.first c.args.iterations.now c.args.fetches c.if-fetches-first.false, at) c.put_iteration.ensures

pub returns-in-None : goal.returns-in-None
returns-in-None g c =
    let place = c.args.fetches - 1 - c.args.first in
    let past : length c.args.iterations.now ≤ place = grind (arith, nat_tests, c.in-None.ensures.lookup.0) in
    rw (current_is c.args.setup.now c.args.first c.args.iterations.now c.args.fetches c.if-fetches-first.false, slice_get_past c.args.iterations.now place past)
    (writes_none _)
