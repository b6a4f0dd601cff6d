use Rattle.moos_text.specs.Pairs.{parts_of}
use Rattle.script_reader.specs.Script.{posting}
use Rattle.script_reader.proofs.Calls.{IsFrom, parts_from}
use Rattle.moos_text.proofs.Judging.{at_good}
use Rattle.script_reader.proofs.call.post_of.Goals as goal

pub returns-clause-variables : goal.returns-clause-variables
returns-clause-variables c =
    let known = c.args.variables.now in
    at_good (IsFrom known) _ (posting c.read_batch.new.variables c.in_ok-batch.batch) (parts_from known (parts_of c.args.text.now)) c.in_ok-batch.ensures.read
