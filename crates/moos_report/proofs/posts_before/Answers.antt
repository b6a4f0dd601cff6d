use Rattle.std.proofs.Common.{◌+◌, arith}
use Rattle.moos_db.proofs.Growth.{posts-more, posts-take}
use Rattle.moos_report.proofs.posts_before.Goals as goal

pub overflow_sub-posts : goal.overflow_sub-posts
overflow_sub-posts c =
    let history = c.args.db.now.history in
    omega (arith, c.loop-k.invariant, posts-more history c.loop-k.k c.entry.ensures, posts-take history (c.loop-k.k + 1), c.posts_in-posts.ensures)

pub loop-k-preserved : goal.loop-k-preserved
loop-k-preserved c =
    let history = c.args.db.now.history in
    omega (arith, c.loop-k.invariant, posts-more history c.loop-k.k c.entry.ensures, posts-take history (c.loop-k.k + 1), c.posts_in-posts.ensures)
