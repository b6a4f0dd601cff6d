use Rattle.std.proofs.Common.{◌≡◌, ◌∙◌, ◌-◌, Ok, ap, arith, drop, length, nat_lt, refl, subst, sym, take, true, rules}
use Rattle.std.specs.List.{list_all}
use Rattle.moos_post.specs.declared.entry.Entry.{Entry}
use Rattle.moos_play.specs.Plays.{next_stamp}
use Rattle.moos_play.specs.Runs.{IsCutOff, shown_by}
use Rattle.moos_step.specs.Steps.{GoesOn, IsPlayed}
use Rattle.moos_step.proofs.Lines.{err_any}
use Rattle.moos_play.proofs.Coming.{lines_cut, lines_next, may_come, may_within}
use Rattle.moos_play.proofs.Moving.{moves_lines}
use Rattle.moos_play.proofs.Rounding.{as_many, some_client}
use Rattle.moos_play.proofs.Stamping.{lines_add}
use Rattle.moos_play.proofs.Stepping.{all_part, lines_clients}
use Rattle.moos_play.proofs.stage.Stage.play_lines.Goals as goal

pub play_step-requires-clause-clients : goal.play_step-requires-clause-clients
play_step-requires-clause-clients g c κs lives =
    let play = c.args.self.now in
    let script = play.script.now in
    let long = ap length c.as_mut_slice-calls.ensures.value ∙ c.requires.at_play.calls in
    let some = some_client (length script.names) script.lines play.from (lines_clients (length script.names) 0 script.stop script.lines c.requires.at_play.valid.lines) (omega (arith, c.requires.some, may_within play.order play c.args.to c.requires.due)) in
    (omega (arith, long, some), omega (arith, long, c.requires.at_play.under.seats), omega (arith, long, c.requires.at_play.valid.few_clients))

pub play_step-requires-clause-lines : goal.play_step-requires-clause-lines
play_step-requires-clause-lines g c κs lives =
    let play = c.args.self.now in
    let script = play.script.now in
    subst (λ n. list_all (λ (line : Entry). nat_lt line.client n) (take (c.args.to - play.from) (drop play.from c.all.result.now)) ≡ true) (sym (ap length c.as_mut_slice-calls.ensures.value ∙ c.requires.at_play.calls))
    (subst (λ lines. list_all (λ (line : Entry). nat_lt line.client (length script.names)) (take (c.args.to - play.from) (drop play.from lines)) ≡ true) (sym c.all.ensures)
    (all_part (λ (line : Entry). nat_lt line.client (length script.names)) script.lines play.from (c.args.to - play.from) (lines_clients (length script.names) 0 script.stop script.lines c.requires.at_play.valid.lines)))

pub returns-clause-stepped : goal.returns-clause-stepped
returns-clause-stepped g c =
    let play = c.args.self.now in
    let script = play.script.now in
    let made = c.in_ok-play_step.ensures in
    let after = c.play_step.new.first.seat in
    record {
      same = record { script = refl; order = refl; names = refl; helm = refl };
      seated = record { seated = record { gathered = made.gathered; whole = made.goes_on.whole }; lock = refl; later = made.goes_on.later };
      stamped = lines_add play c.args.to c.all.result.now after c.requires.at_play.valid.lines c.requires.at_play.under.whole c.all.ensures made.goes_on c.requires.due c.requires.some;
      front = tt;
      at_play = record {
        valid = c.requires.at_play.valid;
        under = lines_next play.order script play.lock c.requires.at_play.valid.lines play.helm_client play.from c.args.to (Ok c.in_ok-play_step.field-0) play.first.seat after c.requires.at_play.under made.gathered
            (subst (λ lines. GoesOn (IsPlayed (take (c.args.to - play.from) (drop play.from lines)) (Ok c.in_ok-play_step.field-0)) play.first.seat after) c.all.ensures made.goes_on) refl (omega (arith, c.requires.some))
            (may_within play.order play c.args.to c.requires.due) (may_come play.order play c.args.to c.requires.due c.requires.some);
        calls = as_many play.calls.len play.calls.items c.play_step.new.calls (c.play_step.auto.calls ∙ ap length c.as_mut_slice-calls.ensures.value) (search rules) ∙ (search rules);
        period = c.requires.at_play.period;
      };
      told = refl;
      moves = moves_lines play.order (next_stamp (shown_by play)) play _ (omega (arith, c.requires.some)) refl;
    }

pub returns-in_err-play_step-clause-stepped : goal.returns-in_err-play_step-clause-stepped
returns-in_err-play_step-clause-stepped g c =
    let play = c.args.self.now in
    let made = c.in_err-play_step.ensures in
    let after = c.play_step.new.first.seat in
    let cut =
    lines_cut play.order play.script.now play.lock c.requires.at_play.valid.lines play.helm_client play.from c.args.to c.all.result.now play.first.seat after c.requires.at_play.under c.requires.at_play.period c.all.ensures made.goes_on (omega (arith, c.requires.some))
    (may_come play.order play c.args.to c.requires.due c.requires.some) in
    record {
      same = record { script = refl; order = refl; names = refl; helm = refl };
      seated = record { seated = record { gathered = made.gathered; whole = made.goes_on.whole }; lock = refl; later = made.goes_on.later };
      stamped = lines_add play c.args.to c.all.result.now after c.requires.at_play.valid.lines c.requires.at_play.under.whole c.all.ensures made.goes_on c.requires.due c.requires.some;
      front = err_any _ {P = IsCutOff _} (record { so_far = cut.0; room = c.requires.at_play.under.seats; heard = cut.1 });
      at_play = search rules;
      told = search rules;
      moves = search rules;
    }
