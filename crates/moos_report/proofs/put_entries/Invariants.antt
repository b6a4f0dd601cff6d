use Rattle.std.proofs.Common.{◌≡◌, ◌<◌, ◌≤◌, length, take, drop}
use Rattle.moos_post.specs.History.{posts_of}
use Rattle.moos_report.specs.IterationLines.{helm_fetches}
use Rattle.moos_report.specs.Lines.{KeepsLines}
use Rattle.moos_report.specs.Report.{entries_text}
use Rattle.moos_io.proofs.BufferedWriting.{Leaves}
use Rattle.moos_report.proofs.put_entries.Given as goal

abbrev pub invariant-loop-k : goal.invariant-loop-k
invariant-loop-k g l =
    Leaves g.K.Sink.taken g.K.Sink.faults l.initial.out l.out
    (entries_text l.setup l.first l.iterations l.db.names (take l.k l.db.history) (drop l.k l.db.history))
    (entries_text l.setup l.first l.iterations l.db.names (take l.from l.db.history) (drop l.from l.db.history))
    × (l.posts ≡ length (posts_of (take l.k l.db.history)))
    × (l.fetches ≤ l.k)
    × (0 < length l.iterations → l.fetches ≡ helm_fetches l.db.names (take l.k l.db.history))
    × KeepsLines l.db.names l.db.history l.kept-inside.lines
