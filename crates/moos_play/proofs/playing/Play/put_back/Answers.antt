use Rattle.std.proofs.Common.{None, ◌∙◌, ap, length, subst, sym}
use Rattle.moos_client.specs.Calls.{SeatState}
use Rattle.moos_db.specs.Database.{Database}
use Rattle.moos_play.specs.Plays.{clients_in, history_in, IsLentAs, returned}
use Rattle.moos_play.specs.Runs.{playing_of}
use Rattle.moos_play.proofs.Showing.{lent_of, seated_at, sound_lent, was_lent}
use Rattle.moos_play.proofs.playing.Play.put_back.Goals as goal

pub give_back-requires-clause-lock : goal.give_back-requires-clause-lock
give_back-requires-clause-lock c = lent_of c.self.inside.run c.self.inside.whole c.self.invariant.0

pub give_back-requires-clause-held : goal.give_back-requires-clause-held
give_back-requires-clause-held c =
    was_lent c.self.inside.run c.self.inside.whole c.args.held.number c.args.held.start.value.history c.self.invariant.0 (subst (λ play. IsLentAs play c.args.held.number c.args.held.start.value.history) (sym c.self.view_is) c.requires.lent)

pub give_back-requires-clause-base : goal.give_back-requires-clause-base
give_back-requires-clause-base c = c.requires.names ∙ sym (ap clients_in c.self.view_is)

pub give_back-requires-clause-same : goal.give_back-requires-clause-same
give_back-requires-clause-same c = c.requires.history ∙ sym c.requires.lent.same

pub invariant_of-self : goal.invariant_of-self
invariant_of-self c =
    let run = c.self.inside.run in (
      sound_lent run c.self.inside.whole c.give_back.new.pass None (c.give_back.ensures ∙ ap (λ seen. record run.first.seat { seen = seen; turn = None }) (c.requires.history ∙ sym (ap history_in c.self.view_is))) c.self.invariant.0,
      c.entries.ensures ∙ ap (λ (db : Database). length db.history) c.value.ensures ∙ ap (λ (seat : SeatState). length seat.seen) (sym c.give_back.ensures),
    )

pub returns : goal.returns
returns c =
    let run = c.self.inside.run in
    let whole = c.self.inside.whole in
    ap (λ seat. playing_of (seated_at run seat) whole) c.give_back.ensures
    ∙ ap (λ seen. playing_of (seated_at run (record run.first.seat { seen = seen; turn = None })) whole) (c.requires.history ∙ sym (ap history_in c.self.view_is)) ∙ ap returned c.self.view_is
