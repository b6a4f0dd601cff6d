use Rattle.std.proofs.Common.{arith}
use Rattle.moos_report.proofs.KeptLines.{batch_few, batch_stands}
use Rattle.moos_report.specs.Lines.{post_lines}
use Rattle.moos_report.proofs.posts.keep_lines.Goals as goal

pub keep_batch-requires : goal.keep_batch-requires
keep_batch-requires c =
    let few = batch_few c.args.db.now.history c.args.k c.args.entry.now c.requires.at c.args.first _ _ c.in-Post.is c.requires.behind c.all.ensures in
    omega (arith, few, c.posts.ensures, c.posts.type_inv)

pub returns-in-Post : goal.returns-in-Post
returns-in-Post c =
    c.keep_batch.ensures (post_lines c.args.db.now.names c.args.db.now.history)
    (batch_stands c.args.db.now.names c.args.db.now.history c.args.k c.args.entry.now c.requires.at c.args.first _ _ _ c.in-Post.is c.requires.behind c.name_of.ensures c.all.ensures) c.requires.kept
