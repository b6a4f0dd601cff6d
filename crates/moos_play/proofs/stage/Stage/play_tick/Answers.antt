use Rattle.std.proofs.Common.{◌≢◌, ◌≤◌, ◌<◌, ◌^◌, ◌∙◌, None, OnOk, Option, Some, ap, arith, refl, rules, subst, sym}
use Rattle.moos_play.specs.Lawful.{helm_number, ticks_to}
use Rattle.moos_play.specs.declared.helm_client.HelmClient.{HelmClient}
use Rattle.std.specs.Prelude.{IfSome}
use Rattle.moos_play.specs.Steered.{helm_of, KeepsEach, helm_setup_of, tick_due}
use Rattle.moos_play.proofs.Standing.{StandsAt}
use Rattle.moos_play.proofs.Moving.{moves_tick}
use Rattle.moos_play.proofs.Rounding.{due_left, tick_at_play, tick_early, tick_less, tick_stops}
use Rattle.moos_play.proofs.Stamping.{tick_adds}
use Rattle.moos_play.proofs.stage.Stage.play_tick.Goals as goal

pub lead-requires-after_bounds : goal.lead-requires-after_bounds
lead-requires-after_bounds g c κs within =
    let script = c.args.self.now.script.now in
    let s = c.in-Some.helm_client in
    let under = c.requires.may.at_play.under in
    let stands = subst (λ s. StandsAt c.args.self.now.lock.base (helm_number script) s c.args.self.now.first.seat.seen) c.in-Some.is under.steered in
    let period = subst (λ s. IfSome s (λ helm. (1 ≤ helm.period) × (helm.ticks ≤ ticks_to script.stop (helm_setup_of helm)))) c.in-Some.is c.requires.may.at_play.period in
    let below : script.stop < 2 ^ 64 = omega arith in
    let left = due_left script.stop s (subst (λ (s : Option HelmClient). tick_due script.stop s ≢ None) c.in-Some.is c.requires.some) in
    record {
      gathered = under.gathered;
      whole = under.whole;
      client = search rules;
      tick = record { steered = stands.1; count = omega arith; early = tick_early script.stop s.ticks s.period (2 ^ 64) period.0 left below; few = c.requires.may.few };
    }

pub returns-clause-stepped : goal.returns-clause-stepped
returns-clause-stepped g c =
    let play = c.args.self.now in
    let old = c.in-Some.helm_client in
    let new = c.lead.new.helm_client in
    let first = record play.first { seat = c.lead.new.first } in
    let made = c.lead.ensures in
    let may = c.requires.may in
    record {
      same = record { script = refl; order = refl; names = refl; helm = ap Some made.same ∙ sym (ap helm_of c.in-Some.is) };
      seated = record { seated = record { gathered = made.gathered; whole = made.goes_on.whole }; lock = refl; later = made.goes_on.later };
      stamped = tick_adds play old new c.lead.new.first c.lead.result may.at_play.under c.in-Some.is c.requires.some c.requires.behind made;
      front = tick_stops play first old new c.lead.result may.at_play c.in-Some.is c.requires.some c.requires.behind made;
      at_play = tick_at_play play first old new c.lead.result may.at_play c.in-Some.is c.requires.some c.requires.behind made;
      told = subst (λ s. OnOk c.lead.result (KeepsEach s (Some new))) (sym c.in-Some.is) made.told;
      moves = moves_tick play (record play { first = first; helm_client = Some new }) old new c.lead.result c.in-Some.is refl refl c.requires.some c.requires.behind made.reached;
    }

pub returns-clause-more : goal.returns-clause-more
returns-clause-more g c = tick_less c.args.self.now (record c.args.self.now.first { seat = c.lead.new.first }) c.in-Some.helm_client c.lead.new.helm_client c.lead.result c.in-Some.is c.requires.some c.lead.ensures.same c.lead.ensures.reached
