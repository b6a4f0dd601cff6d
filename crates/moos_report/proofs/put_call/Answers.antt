use Rattle.std.proofs.Common.{arith, take}
use Rattle.moos_db.proofs.Growth.{posts-take}
use Rattle.moos_report.proofs.KeptLines.{batch_few, batch_lines}
use Rattle.moos_report.proofs.Reporting.{post_is, fetch_is}
use Rattle.moos_report.proofs.put_call.Goals as goal

pub put_batch-requires-clause-few : goal.put_batch-requires-clause-few
put_batch-requires-clause-few g c =
    let few = batch_few c.args.db.now.history c.args.k c.args.entry.now c.requires.at c.args.first _ _ c.in-Post.is c.requires.behind c.all-in-Post.ensures in
    omega (arith, few, c.posts.ensures, c.posts.type_inv)

pub put_batch-requires-clause-kept : goal.put_batch-requires-clause-kept
put_batch-requires-clause-kept g c =
    batch_lines c.args.db.now.names c.args.db.now.history c.args.k c.args.entry.now c.requires.at c.args.first _ _ _ c.args.lines.now c.in-Post.is c.requires.behind c.name_of.ensures c.all-in-Post.ensures c.requires.kept

pub put_fetch-requires-clause-within : goal.put_fetch-requires-clause-within
put_fetch-requires-clause-within g c = rw c.requires.behind (posts-take c.args.db.now.history c.args.k)

pub returns-in-Post : goal.returns-in-Post
returns-in-Post g c =
    rw (post_is c.args.db.now.names (take c.args.k c.args.db.now.history) c.args.entry.now c.in-Post.is c.requires.behind c.name_of.ensures c.all-in-Post.ensures)
    c.put_batch.ensures

pub returns-in-Fetch : goal.returns-in-Fetch
returns-in-Fetch g c =
    rw (fetch_is c.args.db.now.names c.args.db.now.history c.args.k c.args.entry.now c.requires.at c.in-Fetch.is c.requires.behind c.letters.ensures) c.put_fetch.ensures
