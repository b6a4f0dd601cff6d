use Rattle.moos_io.proofs.BufferedWriting.{writes_on}
use Rattle.moos_report.proofs.iterations.put_iteration.Goals as goal

pub returns : goal.returns
returns g c =
    let mode = rw c.bytes.ensures.value at c.put_mode.ensures in
    let updates = rw c.all.ensures at c.put_updates.ensures in
    let states = rw c.all-2.ensures at c.put_states.ensures in
    let errors = rw c.all-3.ensures at c.put_errors.ensures in
    writes_on c.put_state.ensures (writes_on mode (writes_on updates (writes_on states (writes_on errors c.put_decided.ensures))))
