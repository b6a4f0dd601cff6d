use Rattle.script_reader.specs.Script.{progress}
use Rattle.script_reader.proofs.Sound.{read_valid}
use Rattle.script_reader.proofs.read.read_lines.Goals as goal

pub returns-clause-valid : goal.returns-clause-valid
returns-clause-valid c =
    let reading = c.loop-from.reading in
    read_valid c.args.bytes.now _ _ (progress reading.script reading.filled) c.loop-from-test.false c.loop-from.invariant.so_far
