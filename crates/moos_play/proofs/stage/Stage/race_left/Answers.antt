use Rattle.std.proofs.Common.{◌≡◌, ◌≤◌, ◌∙◌, Option, Some, Ok, ap, arith, drop, length, nat_lt, refl, subst, sym, take, ◌-◌, true, rules}
use Rattle.std.specs.Prelude.{IfSome}
use Rattle.std.specs.List.{list_all}
use Rattle.moos_post.specs.declared.entry.Entry.{Entry}
use Rattle.moos_step.specs.Steps.{GoesOn, IsPlayedBeside}
use Rattle.moos_play.specs.declared.helm_client.HelmClient.{HelmClient}
use Rattle.moos_play.specs.Lawful.{helm_number, known_clients, HelmSetup, ticks_to}
use Rattle.moos_play.specs.Plays.{AddsAt, next_stamp}
use Rattle.moos_play.specs.Runs.{IsCutOff, shown_by}
use Rattle.moos_play.specs.Steered.{helm_of, KeepsEach, helm_setup_of}
use Rattle.moos_play.proofs.Standing.{StandsAt}
use Rattle.moos_play.proofs.Stepping.{all_part, lines_clients}
use Rattle.moos_play.proofs.Coming.{race_over}
use Rattle.moos_step.proofs.Lines.{err_any}
use Rattle.moos_play.proofs.Moving.{moves_race}
use Rattle.moos_play.proofs.Rounding.{as_many, race_stops}
use Rattle.moos_play.proofs.Stamping.{race_add}
use Rattle.moos_play.proofs.stage.Stage.race_left.Goals as goal

pub race-requires-clause-lines : goal.race-requires-clause-lines
race-requires-clause-lines g c κs lives =
    let script = c.args.self.now.script.now in
    subst (λ n. list_all (λ (line : Entry). nat_lt line.client n) (take (c.len-to.result - c.args.self.now.from) (drop c.args.self.now.from c.all.result.now)) ≡ true) (sym (ap length c.as_mut_slice-calls.ensures.value ∙ c.requires.may.at_play.calls))
    (subst (λ lines. list_all (λ (line : Entry). nat_lt line.client (length script.names)) (take (c.len-to.result - c.args.self.now.from) (drop c.args.self.now.from lines)) ≡ true) (sym c.all.ensures)
    (all_part (λ (line : Entry). nat_lt line.client (length script.names)) script.lines c.args.self.now.from (c.len-to.result - c.args.self.now.from) (lines_clients (length script.names) 0 script.stop script.lines c.requires.may.at_play.valid.lines)))

pub returns-clause-stepped : goal.returns-clause-stepped
returns-clause-stepped g c =
    let play = c.args.self.now in
    let script = play.script.now in
    let old = c.in-Some.helm_client in
    let new = c.race.new.helm_client in
    let after = c.race.new.first.seat in
    let made = c.in_ok-race.ensures in
    let may = c.requires.may in
    let number = (subst (λ s. StandsAt play.lock.base (helm_number script) s play.first.seat.seen) c.in-Some.is may.at_play.under.steered).0 in
    let period = subst (λ s. IfSome s (λ helm. (1 ≤ helm.period) × (helm.ticks ≤ ticks_to script.stop (helm_setup_of helm)))) c.in-Some.is may.at_play.period in
    record {
      same = record { script = refl; order = refl; names = refl; helm = ap Some made.same ∙ sym (ap helm_of c.in-Some.is) };
      seated = record { seated = record { gathered = made.gathered; whole = made.goes_on.whole }; lock = refl; later = made.goes_on.later };
      stamped = subst (λ (s : Option HelmClient). AddsAt play.order (next_stamp (shown_by play)) (known_clients script (helm_of s)) play.first.seat.seen after.seen) (sym c.in-Some.is)
          (race_add play.order script old (next_stamp (shown_by play)) play.from c.len-to.result c.all.result.now play.first.seat after c.requires.race may.at_play.valid.lines may.at_play.under.whole number c.all.ensures made.goes_on);
      front = tt;
      at_play = record {
        valid = may.at_play.valid;
        under = race_over play.order script play.lock may.at_play.valid.lines play.helm_client old new play.from _ (Ok c.in_ok-race.field-0) play.first.seat after c.requires.race c.len-to.ensures c.in-Some.is may.at_play.under made.gathered
            (subst (λ lines. GoesOn (IsPlayedBeside old.number (take (c.len-to.result - play.from) (drop play.from lines)) (Ok c.in_ok-race.field-0)) play.first.seat after) c.all.ensures made.goes_on) refl
            made.same made.steered (omega (arith, made.reached, ap (λ (helm : HelmSetup). ticks_to script.stop helm) made.same));
        calls = as_many play.calls.len play.calls.items c.race.new.calls (c.race.auto.calls ∙ ap length c.as_mut_slice-calls.ensures.value) (search rules) ∙ (search rules);
        period = (subst (λ (helm : HelmSetup). 1 ≤ helm.period) (sym made.same) period.0, omega (arith, made.reached, ap (λ (helm : HelmSetup). ticks_to script.stop helm) made.same));
      };
      told = subst (λ s. KeepsEach s (Some new)) (sym c.in-Some.is) made.told;
      moves = moves_race play.order (next_stamp (shown_by play)) play _ c.requires.race;
    }

pub returns-in_err-race-clause-stepped : goal.returns-in_err-race-clause-stepped
returns-in_err-race-clause-stepped g c =
    let play = c.args.self.now in
    let script = play.script.now in
    let old = c.in-Some.helm_client in
    let new = c.race.new.helm_client in
    let after = c.race.new.first.seat in
    let made = c.in_err-race.ensures in
    let may = c.requires.may in
    let number = (subst (λ s. StandsAt play.lock.base (helm_number script) s play.first.seat.seen) c.in-Some.is may.at_play.under.steered).0 in
    let cut = race_stops play c.race.new.first old new c.len-to.result _ c.all.result.now c.requires.race may.at_play c.in-Some.is c.all.ensures (omega (arith, c.len-to.ensures, may.at_play.under.within)) made.goes_on made.same made.stopped (omega arith) in
    record {
      same = record { script = refl; order = refl; names = refl; helm = ap Some made.same ∙ sym (ap helm_of c.in-Some.is) };
      seated = record { seated = record { gathered = made.gathered; whole = made.goes_on.whole }; lock = refl; later = made.goes_on.later };
      stamped = subst (λ (s : Option HelmClient). AddsAt play.order (next_stamp (shown_by play)) (known_clients script (helm_of s)) play.first.seat.seen after.seen) (sym c.in-Some.is)
          (race_add play.order script old (next_stamp (shown_by play)) play.from c.len-to.result c.all.result.now play.first.seat after c.requires.race may.at_play.valid.lines may.at_play.under.whole number c.all.ensures made.goes_on);
      front = err_any _ {P = IsCutOff _} (record { so_far = cut.so_far; room = cut.room; heard = cut.heard });
      at_play = search rules;
      told = search rules;
      moves = search rules;
    }
