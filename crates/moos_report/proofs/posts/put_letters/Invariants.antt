use Rattle.std.proofs.Common.{take, drop}
use Rattle.moos_post.specs.History.{posts_of}
use Rattle.moos_report.specs.Report.{letters_text}
use Rattle.moos_io.proofs.BufferedWriting.{Leaves}
use Rattle.moos_report.proofs.posts.put_letters.Given as goal

abbrev pub invariant-loop-number : goal.invariant-loop-number
invariant-loop-number g l =
    Leaves g.K.Sink.taken g.K.Sink.faults l.initial.out l.out
    (letters_text l.db.names (take l.first (posts_of l.db.history)) (drop l.number-index l.letters)) (letters_text l.db.names (take l.first (posts_of l.db.history)) l.letters)
