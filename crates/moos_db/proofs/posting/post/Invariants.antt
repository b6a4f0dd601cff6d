-- The posts so far are mailed.
use Rattle.std.proofs.Common.{◌-◌}
use Rattle.moos_post.specs.History.{posts_of_entry}
use Rattle.moos_db.proofs.Batches.{IsPosting}
use Rattle.moos_db.proofs.posting.post.Given as goal

abbrev pub invariant-loop-number : goal.invariant-loop-number
invariant-loop-number l = IsPosting l.names l.fn.log.entries (posts_of_entry l.fn.entry) (l.number - l.first) l.variables l.clients.items
