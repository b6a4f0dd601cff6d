use Rattle.std.specs.Prelude.{slice_index}
use Rattle.script_reader.proofs.Counting.{counts_more}
use Rattle.script_reader.proofs.Steps.{call_room}
use Rattle.script_reader.proofs.reading.ScriptReading.read_call.Goals as goal

pub count-requires-clause-room : goal.count-requires-clause-room
count-requires-clause-room c =
    call_room (slice_index c.args.self.now.made c.args.number) c.args.self.now.variables c.args.text.now c.in_ok-call.call c.in_ok-call.ensures.call

pub returns-clause-counted : goal.returns-clause-counted
returns-clause-counted c =
    let self = c.args.self.now in
    rw (c.in_ok-add_call.ensures, c.count.ensures, c.in_ok-call.ensures.variables)
    (counts_more self.script self.made self.variables self.clients c.args.stamp c.args.number c.in_ok-call.call c.requires.counted c.requires.among)
