use Rattle.std.proofs.Common.{◌≡◌, ◌<◌, ◌++◌, ◌∷◌, ◌∙◌, [], ap, length, refl, subst, sym, OnOk}
use Rattle.std.specs.Prelude.{IfOk, OnErr}
use Rattle.moos_client.specs.Calls.{entry_of}
use Rattle.moos_step.specs.Steps.{added_by, mail_of_call}
use Rattle.moos_play.specs.Plays.{clients_in, GoesOnWith, history_in, IsFurther, iterations_made, left_in, next_stamp, Playing, StaysSeated}
use Rattle.moos_play.specs.Runs.{playing_of}
use Rattle.moos_play.proofs.Calling.{entered_between, entered_made, just_entered, none_entered}
use Rattle.moos_play.proofs.Showing.{is_ready, seated_at, sound_ready}
use Rattle.moos_play.proofs.playing.Play.enter.Goals as goal

pub call_alone-requires-clause-gathered : goal.call_alone-requires-clause-gathered
call_alone-requires-clause-gathered g c = (is_ready c.self.inside.run c.self.inside.whole c.args.self.now c.self.view_is c.self.invariant.0 c.requires.between).at_play.under.gathered

pub call_alone-requires-clause-whole : goal.call_alone-requires-clause-whole
call_alone-requires-clause-whole g c = (is_ready c.self.inside.run c.self.inside.whole c.args.self.now c.self.view_is c.self.invariant.0 c.requires.between).at_play.under.whole

pub call_alone-requires-clause-client : goal.call_alone-requires-clause-client
call_alone-requires-clause-client g c = subst (λ (play : Playing). c.args.client < length (clients_in play)) (sym c.self.view_is) c.requires.further.named

pub returns-clause-entered : goal.returns-clause-entered
returns-clause-entered g c =
    subst (λ (old : Playing). OnOk c.call_alone.result (c.call_alone.new.first.seen ≡ history_in old ++ entry_of c.args.client c.args.stamp c.args.call ∷ [])) c.self.view_is
    (just_entered c.call_alone.result (entry_of c.args.client c.args.stamp c.args.call) c.self.inside.run.first.seat.seen c.call_alone.new.first.seen c.call_alone.ensures.added)

pub returns-clause-unentered : goal.returns-clause-unentered
returns-clause-unentered g c =
    subst (λ (old : Playing). OnErr c.call_alone.result (c.call_alone.new.first.seen ≡ history_in old)) c.self.view_is
    (none_entered c.call_alone.result (entry_of c.args.client c.args.stamp c.args.call) c.self.inside.run.first.seat.seen c.call_alone.new.first.seen c.call_alone.ensures.added)

pub returns-clause-mail : goal.returns-clause-mail
returns-clause-mail g c =
    subst (λ (old : Playing). IfOk c.call_alone.result (λ mail. mail ≡ mail_of_call (clients_in old) (history_in old) c.args.client c.args.call)) c.self.view_is c.call_alone.ensures.mail

pub returns-clause-seated : goal.returns-clause-seated
returns-clause-seated g c =
    subst (λ (old : Playing). StaysSeated old (playing_of (seated_at c.self.inside.run c.call_alone.new.first) c.self.inside.whole)) c.self.view_is (record {
      seated = c.call_alone.ensures.gathered.may.free;
      names = refl;
      later = (added_by c.call_alone.result (entry_of c.args.client c.args.stamp c.args.call), c.call_alone.ensures.added);
    })

pub returns-clause-between : goal.returns-clause-between
returns-clause-between g c = record { whole = ap (λ (play : Playing). play.whole) c.self.view_is ∙ c.requires.between.whole; seated = c.call_alone.ensures.gathered.may.free }

pub returns-clause-same : goal.returns-clause-same
returns-clause-same g c =
    subst (λ (old : Playing). GoesOnWith old (playing_of (seated_at c.self.inside.run c.call_alone.new.first) c.self.inside.whole)) c.self.view_is (record { script = refl; order = refl; names = refl; helm = refl })

pub returns-clause-left : goal.returns-clause-left
returns-clause-left g c = ap left_in c.self.view_is

pub returns-clause-next : goal.returns-clause-next
returns-clause-next g c = ap next_stamp c.self.view_is

pub returns-clause-iterations : goal.returns-clause-iterations
returns-clause-iterations g c =
    let run = c.self.inside.run in
    let w = c.self.inside.whole in
    entered_made c.call_alone.result run w (entry_of c.args.client c.args.stamp c.args.call) c.call_alone.new.first (is_ready run w c.args.self.now c.self.view_is c.self.invariant.0 c.requires.between)
    (subst (λ play. IsFurther play c.args.client) (sym c.self.view_is) c.requires.further) c.call_alone.ensures.added
    ∙ ap iterations_made c.self.view_is

pub invariant_of-self : goal.invariant_of-self
invariant_of-self g c =
    let run = c.self.inside.run in
    let w = c.self.inside.whole in (
      sound_ready (seated_at run c.call_alone.new.first) w
          (entered_between c.call_alone.result run w (entry_of c.args.client c.args.stamp c.args.call) c.call_alone.new.first (is_ready run w c.args.self.now c.self.view_is c.self.invariant.0 c.requires.between)
          (subst (λ play. IsFurther play c.args.client) (sym c.self.view_is) c.requires.further) c.call_alone.ensures.gathered c.call_alone.ensures.whole c.call_alone.ensures.added),
      tt,
    )
