use Rattle.std.proofs.Common.{ℕ, ◌<◌, length, subst}
use Rattle.std.specs.Prelude.{IfSome}
use Rattle.moos_lawful.specs.Schedules.{IsLawfulSoFar}
use Rattle.moos_play.specs.Plays.{HasCompletion, HasSteeredSoFar, helm_in, history_in, IsLeft, IsRunFor, iterations_made, known_clients_in, Playing, schedule_in, script_played}
use Rattle.moos_play.proofs.Finishing.{has_completion, has_steered, runs_for}
use Rattle.moos_play.proofs.Leaving.{is_left}
use Rattle.moos_play.proofs.Showing.{is_ready}
use Rattle.script_reader.specs.Validity.{IsValid}
use Rattle.moos_play.proofs.playing.Play.front_law.Goals as goal

pub returns-clause-front : goal.returns-clause-front
returns-clause-front c =
    let run = c.self.inside.run in
    let whole = c.self.inside.whole in
    subst HasCompletion c.self.view_is (has_completion run whole (is_ready run whole c.args.self.now c.self.view_is c.self.invariant.0 c.requires))

pub returns-clause-steered : goal.returns-clause-steered
returns-clause-steered c =
    let run = c.self.inside.run in
    let whole = c.self.inside.whole in
    subst HasSteeredSoFar c.self.view_is (has_steered run whole (is_ready run whole c.args.self.now c.self.view_is c.self.invariant.0 c.requires))

pub returns-clause-so_far : goal.returns-clause-so_far
returns-clause-so_far c =
    subst (λ (play : Playing). IsLawfulSoFar (schedule_in play) (history_in play)) c.self.view_is (is_ready c.self.inside.run c.self.inside.whole c.args.self.now c.self.view_is c.self.invariant.0 c.requires).at_play.under.played.so_far

pub returns-clause-valid : goal.returns-clause-valid
returns-clause-valid c =
    subst (λ (play : Playing). IsValid (script_played play)) c.self.view_is (is_ready c.self.inside.run c.self.inside.whole c.args.self.now c.self.view_is c.self.invariant.0 c.requires).at_play.valid

pub returns-clause-helm : goal.returns-clause-helm
returns-clause-helm c =
    let run = c.self.inside.run in
    let whole = c.self.inside.whole in
    subst (λ (play : Playing). IfSome (helm_in play) (IsRunFor (script_played play) (length (iterations_made play)))) c.self.view_is (runs_for run whole (is_ready run whole c.args.self.now c.self.view_is c.self.invariant.0 c.requires))

pub returns-clause-left : goal.returns-clause-left
returns-clause-left c =
    let run = c.self.inside.run in
    let whole = c.self.inside.whole in
    subst (λ (play : Playing). (so : IsLawfulSoFar (schedule_in play) (history_in play)) (n : ℕ) → n < known_clients_in play → IsLeft play (so.left n)) c.self.view_is
    (is_left run whole (is_ready run whole c.args.self.now c.self.view_is c.self.invariant.0 c.requires))
