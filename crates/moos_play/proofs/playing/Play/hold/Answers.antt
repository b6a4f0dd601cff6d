use Rattle.std.proofs.Common.{◌∙◌, ap, subst, sym}
use Rattle.std.specs.Prelude.{IfSome}
use Rattle.moos_client.specs.Calls.{SeatState}
use Rattle.moos_db.specs.Database.{Database}
use Rattle.moos_play.specs.Plays.{clients_in, history_in}
use Rattle.moos_play.specs.Runs.{IsCount}
use Rattle.moos_play.proofs.Showing.{has_seats, is_free, lent_as, lent_history, returned_is, seated_at, sound_lent}
use Rattle.moos_play.proofs.playing.Play.hold.Goals as goal

pub take-requires-clause-lock : goal.take-requires-clause-lock
take-requires-clause-lock g c = (has_seats c.self.inside.run c.self.inside.whole c.args.self.now c.self.view_is c.self.invariant.0 c.requires).gathered.may.of_lock

pub take-requires-clause-free : goal.take-requires-clause-free
take-requires-clause-free g c = is_free c.self.inside.run c.self.inside.whole c.args.self.now c.self.view_is c.requires

pub invariant_of-self : goal.invariant_of-self
invariant_of-self g c = (
  sound_lent c.self.inside.run c.self.inside.whole c.take.new.pass _ c.take.ensures.pass c.self.invariant.0,
  subst (λ (seat : SeatState). IfSome c.self.inside.entries (IsCount (seated_at c.self.inside.run seat))) (sym c.take.ensures.pass) c.self.invariant.1,
)

pub returns-clause-names : goal.returns-clause-names
returns-clause-names g c = c.take.ensures.base ∙ ap clients_in c.self.view_is

pub returns-clause-history : goal.returns-clause-history
returns-clause-history g c =
    lent_history c.self.inside.run c.take.result.value.history (has_seats c.self.inside.run c.self.inside.whole c.args.self.now c.self.view_is c.self.invariant.0 c.requires) c.take.ensures.seen c.take.ensures.whole
    ∙ ap history_in c.self.view_is

pub returns-clause-lent : goal.returns-clause-lent
returns-clause-lent g c =
    let run = c.self.inside.run in
    let seats = has_seats run c.self.inside.whole c.args.self.now c.self.view_is c.self.invariant.0 c.requires in
    lent_as run c.self.inside.whole c.take.new.pass c.take.result.number c.take.result.value.history c.take.result.start.value.history seats c.take.ensures.pass c.take.ensures.held.0
    (lent_history run c.take.result.value.history seats c.take.ensures.seen c.take.ensures.whole) (ap (λ (db : Database). db.history) c.take.ensures.held.1)

pub returns-clause-back : goal.returns-clause-back
returns-clause-back g c =
    returned_is c.self.inside.run c.self.inside.whole c.take.new.pass _ (is_free c.self.inside.run c.self.inside.whole c.args.self.now c.self.view_is c.requires) c.take.ensures.pass ∙ c.self.view_is
