-- The writer is made clear, and holds nothing that the sink could still take when it is let go.
use Rattle.std.proofs.Common.{rules}
use Rattle.moos_jobs.proofs.play_telling.tell.Goals as goal

pub tell_through-status-requires-clause-clear : goal.tell_through-status-requires-clause-clear
tell_through-status-requires-clause-clear g c κs lives = record { empty = c.new-writer.ensures.empty; going = c.new-writer.ensures.going }

pub returns : goal.returns
returns g c =
    let told = rw c.new-writer.ensures.now at c.tell_through-status.ensures.told in
    search (rules, told)
