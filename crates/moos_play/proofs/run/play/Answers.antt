use Rattle.std.proofs.Common.{◌≡◌, ◌∙◌, ◌++◌, append-nil, ap, arith, length, subst, sym, true}
use Rattle.moos_play.specs.Lawful.{names_with, opening}
use Rattle.moos_play.specs.Plays.{clients_in, helm_in, history_in, order_played, Playing, script_played}
use Rattle.moos_play.specs.Runs.{shown_by}
use Rattle.moos_play.specs.Steered.{iterations_in, ticks_in}
use Rattle.moos_play.proofs.Beginning.{few_names, none_ticked}
use Rattle.moos_play.proofs.Ending.{made_kept}
use Rattle.moos_play.proofs.Finishing.{over_as, over_now}
use Rattle.moos_play.proofs.Showing.{is_ready}
use Rattle.moos_play.proofs.run.play.Goals as goal

pub make-requires-clause-few : goal.make-requires-clause-few
make-requires-clause-few g c κs lives = few_names c.args.script.now c.args.helm c.new.result c.new.ensures c.requires.valid.few_clients

pub play_out-played-requires : goal.play_out-played-requires
play_out-played-requires g c =
    (c.type_bounds.sync-R, (c.type_bounds.sync-G, record { at_play = (is_ready c.play.inside.run c.play.inside.whole c.in_ok-play.play c.play.view_is c.play.invariant.0 c.in_ok-play.ensures.between).at_play; few = c.requires.workers }))

pub returns-clause-names : goal.returns-clause-names
returns-clause-names g c =
    c.close-ran.ensures.names ∙ c.in_ok-played.ensures.same.names ∙ ap clients_in c.play.view_is ∙ c.in_ok-play.ensures.names ∙ ap (λ further. names_with c.args.script.now c.args.helm ++ further) c.new.ensures
    ∙ append-nil (names_with c.args.script.now c.args.helm)

pub returns-clause-lawful : goal.returns-clause-lawful
returns-clause-lawful g c =
    let made = c.in_ok-play.ensures in
    let out = c.in_ok-played.ensures in
    let run = c.play_out-played.new.run in
    (over_as (shown_by c.play.inside.run) (shown_by run) c.args.order c.args.script.now c.args.helm c.close-ran.result.db.names c.close-ran.result.db.history (over_now run true out.at_play out.over) out.same
    (ap order_played c.play.view_is ∙ made.order) (ap script_played c.play.view_is ∙ made.script) (ap helm_in c.play.view_is ∙ made.helm)
    (ap clients_in c.play.view_is ∙ made.names ∙ ap (λ further. names_with c.args.script.now c.args.helm ++ further) c.new.ensures ∙ append-nil (names_with c.args.script.now c.args.helm)) (sym c.close-ran.ensures.names) (sym c.close-ran.ensures.history)).0

pub returns-clause-iterations : goal.returns-clause-iterations
returns-clause-iterations g c =
    let made = c.in_ok-play.ensures in
    let out = c.in_ok-played.ensures in
    let run = c.play_out-played.new.run in
    let ready = is_ready c.play.inside.run c.play.inside.whole c.in_ok-play.play c.play.view_is c.play.invariant.0 made.between in
    let none = none_ticked c.play.inside.run ready (subst (λ (play : Playing). history_in play ≡ opening (helm_in play)) (sym c.play.view_is) made.begun) in
    let all : length (iterations_in run.helm_client) ≡ ticks_in run.helm_client = omega (arith, out.told, none, ap length ready.told) in
    c.close-ran.ensures.iterations ∙ made_kept run.lock.base _ run.first.seat.seen run.helm_client out.at_play.under.steered all
    ∙ (over_as (shown_by c.play.inside.run) (shown_by run) c.args.order c.args.script.now c.args.helm c.close-ran.result.db.names c.close-ran.result.db.history (over_now run true out.at_play out.over) out.same
    (ap order_played c.play.view_is ∙ made.order) (ap script_played c.play.view_is ∙ made.script) (ap helm_in c.play.view_is ∙ made.helm)
    (ap clients_in c.play.view_is ∙ made.names ∙ ap (λ further. names_with c.args.script.now c.args.helm ++ further) c.new.ensures ∙ append-nil (names_with c.args.script.now c.args.helm)) (sym c.close-ran.ensures.names) (sym c.close-ran.ensures.history)).1
