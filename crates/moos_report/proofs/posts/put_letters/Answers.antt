use Rattle.std.proofs.Common.{◌∙◌, ap, decimal, take}
use Rattle.std.specs.Prelude.{slice_get}
use Rattle.moos_post.specs.History.{posts_of}
use Rattle.moos_io.proofs.BufferedWriting.{leaves_all, read_less}
use Rattle.moos_report.specs.Report.{letter_text, letters_text}
use Rattle.moos_report.proofs.posts.put_letters.Goals as goal

pub loop-number-init : goal.loop-number-init
loop-number-init g c = leaves_all _ (letters_text c.args.db.now.names (take c.args.first (posts_of c.args.db.now.history)) c.args.letters.now)

pub put_letter-requires-clause-digits : goal.put_letter-requires-clause-digits
put_letter-requires-clause-digits g c = c.digits.ensures ∙ ap decimal c.go_to.ensures

pub loop-number-preserved : goal.loop-number-preserved
loop-number-preserved g c =
    let posts = take c.args.first (posts_of c.args.db.now.history) in
    read_less (λ number. letter_text c.args.db.now.names number (slice_get posts number)) c.args.letters.now c.loop-number.number-index 0
    c.loop-number.invariant c.loop-number-test.true c.put_letter.ensures
