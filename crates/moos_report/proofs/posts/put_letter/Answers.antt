use Rattle.std.proofs.Common.{arith}
use Rattle.moos_post.specs.History.{posts_of}
use Rattle.moos_io.proofs.BufferedWriting.{writes_none}
use Rattle.moos_report.proofs.KeptLines.{letter_kept}
use Rattle.moos_report.proofs.Reporting.{letter_none, letter_is}
use Rattle.moos_report.proofs.posts.put_letter.Goals as goal

pub returns-then-number-first : goal.returns-then-number-first
returns-then-number-first g c =
    rw (letter_none c.args.db.now.names (posts_of c.args.db.now.history) c.args.first c.args.number c.if-number-first.true) (writes_none _)

pub returns-then-line-gt0 : goal.returns-then-line-gt0
returns-then-line-gt0 g c =
    rw (letter_kept c.args.db.now.names c.args.db.now.history c.args.lines.now c.args.first c.args.number c.line-line.result.now c.requires.kept c.requires.within (omega (arith, c.if-number-first.false)) c.line-line.ensures (omega (arith, c.if-line-gt0.true)))
    rw c.requires.digits at c.put_kept.ensures

pub returns : goal.returns
returns g c =
    let is = letter_is c.args.db.now.names (posts_of c.args.db.now.history) c.args.first c.args.number c.if-number-first.false c.origin-origin.ensures c.pair-pair.ensures in
    rw is (rw (c.name_of.ensures, c.requires.digits) at c.put_mail.ensures)
