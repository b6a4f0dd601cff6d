use Rattle.std.proofs.Common.{◌≡◌, ◌+◌, length, take}
use Rattle.moos_post.specs.History.{posts_of}
use Rattle.moos_report.proofs.posts_before.Given as goal

-- the posts from entry k on are still counted
abbrev pub invariant-loop-k : goal.invariant-loop-k
invariant-loop-k l =
    l.posts + length (posts_of (take l.k l.db.history)) ≡ length (posts_of (take l.from l.db.history)) + length (posts_of l.db.history)
