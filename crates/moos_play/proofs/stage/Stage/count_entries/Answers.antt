-- The database that is lent has the entries that the first seat has seen, and comes back as it was.
use Rattle.std.proofs.Common.{◌∙◌, None, ap, length}
use Rattle.moos_client.specs.Calls.{SeatState}
use Rattle.moos_db.specs.Database.{Database}
use Rattle.moos_play.proofs.Showing.{given_same, lent_history, seated_at}
use Rattle.moos_play.proofs.stage.Stage.count_entries.Goals as goal

pub returns-clause-count : goal.returns-clause-count
returns-clause-count g c =
    c.entries-count.ensures ∙ ap (λ (db : Database). length db.history) c.value.ensures
    ∙ ap length (lent_history c.args.self.now c.take-held.result.value.history c.requires.seats c.take-held.ensures.seen c.take-held.ensures.whole)

pub returns-clause-same : goal.returns-clause-same
returns-clause-same g c =
    let run = c.args.self.now in
    let history = c.take-held.result.value.history in
    ap (seated_at run) c.give_back.ensures ∙ ap (λ (seat : SeatState). seated_at run (record seat { seen = history; turn = None })) c.take-held.ensures.pass
    ∙ ap (λ seen. seated_at run (record run.first.seat { seen = seen; turn = None })) (lent_history run history c.requires.seats c.take-held.ensures.seen c.take-held.ensures.whole) ∙ given_same run c.requires.seats.gathered.may.free
