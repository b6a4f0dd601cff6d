-- What the round brought was told, or a front of it; or what was told before is a front.
use Rattle.std.proofs.Common.{◌∙◌, ◌++◌, ap, arith, inr, length, length-append, refl, subst, sym}
use Rattle.std.specs.Prelude.{IfSome}
use Rattle.moos_play.specs.Plays.{clients_in, helm_in, history_in, IsRound, iterations_made, order_played, script_played}
use Rattle.command_line.specs.Endings.{sinking}
use Rattle.moos_report.specs.Parts.{front_text}
use Rattle.moos_jobs.specs.PlayTelling.{IsOfLawful}
use Rattle.moos_jobs.proofs.Fetching.{fetched, IsRunWell}
use Rattle.moos_jobs.proofs.PlayRounds.{alone_on, front_of_lawful, named_alone, of_lawful, run_as}
use Rattle.moos_jobs.proofs.Rounds.{few_made, fetched_before, lines_stay, part_front, part_told, told_front, told_so_far}
use Rattle.moos_jobs.specs.Telling.{IsToldSoFar, ToldFront}
use Rattle.moos_jobs.proofs.play_telling.tell_round.Goals as goal

pub returns-in_default-clause-stopped : goal.returns-in_default-clause-stopped
returns-in_default-clause-stopped g c = λ before on told.
    let play = c.args.play.now in
    let setup = c.args.setup.now in
    let well : IsRunWell play = record { valid = c.front_law.ensures.valid; helm = c.front_law.ensures.helm; steered = c.front_law.ensures.steered } in
    let named = named_alone play c.requires.named well.valid in
    let front = told_so_far setup play c.parts_law.ensures.fronts well named on.rest on.more (IsOfLawful (order_played play) (script_played play) (helm_in play) setup)
    (of_lawful (order_played play) (script_played play) (helm_in play) setup (clients_in play) (history_in play ++ on.rest) (iterations_made play ++ on.more) c.requires.named (on.alone c.requires.named) (sym on.iterations))
    before _ _ _ told in
    let fetches = fetched play well named in
    inr (
      front,
      record {
        text = front_text setup (clients_in play) (history_in play) (iterations_made play);
        may = front_of_lawful (order_played play) (script_played play) (helm_in play) setup (clients_in play) (history_in play) on.rest (iterations_made play) on.more c.requires.named (on.alone c.requires.named) on.iterations fetches;
        took = told;
        fared = refl;
      },
    )

pub tell_part-requires-clause-kept : goal.tell_part-requires-clause-kept
tell_part-requires-clause-kept g c = lines_stay c.args.play.now c.round.new.self c.args.kept.now c.round.ensures.seated c.requires.kept

pub returns-in_default-next-clause-kept : goal.returns-in_default-next-clause-kept
returns-in_default-next-clause-kept g c = lines_stay c.args.play.now c.round.new.self c.args.kept.now c.round.ensures.seated c.requires.kept

pub tell_part-requires-clause-fetched : goal.tell_part-requires-clause-fetched
tell_part-requires-clause-fetched g c =
    let made = subst (λ round. IfSome round (IsRound c.args.play.now c.round.new.self)) c.in-Some.is c.in-Ok.ensures.round in
    fetched_before c.args.setup.now c.args.play.now c.round.new.self c.in-Some.round c.parts_law.ensures.parts (record { valid = c.front_law.ensures.valid; helm = c.front_law.ensures.helm; steered = c.front_law.ensures.steered }) (record { valid = c.front_law-2.ensures.valid; helm = c.front_law-2.ensures.helm; steered = c.front_law-2.ensures.steered })
    (named_alone c.args.play.now c.requires.named c.front_law.ensures.valid) c.in-Ok.ensures.same c.round.ensures.seated made.from made.iterations
    ∙ sym c.requires.made

pub returns-in-Err-clause-stopped : goal.returns-in-Err-clause-stopped
returns-in-Err-clause-stopped g c = λ before on told.
    let old = c.args.play.now in
    let new = c.round.new.self in
    let on = c.in-Ok.ensures.same in
    let made = subst (λ round. IfSome round (IsRound old new)) c.in-Some.is c.in-Ok.ensures.round in
    let front = part_front c.args.setup.now old new c.in-Some.round c.parts_law.ensures.parts (record { valid = c.front_law.ensures.valid; helm = c.front_law.ensures.helm; steered = c.front_law.ensures.steered }) (record { valid = c.front_law-2.ensures.valid; helm = c.front_law-2.ensures.helm; steered = c.front_law-2.ensures.steered })
    (named_alone old c.requires.named c.front_law.ensures.valid) on c.round.ensures.seated made.from made.iterations before _ _ c.args.made c.requires.made told c.in-Err.ensures.told.sent.front in
    let alone = alone_on old new on c.requires.named in
    let more = c.front_law-2.ensures.front in (
      run_as (λ order script helm. ToldFront (IsOfLawful order script helm c.args.setup.now) (sinking before (g.K.Sink.taken c.tell_part.new.out.out.now) (g.K.Sink.faults c.args.out.now.out.now) (g.K.Sink.faults c.tell_part.new.out.out.now))) on.order on.script on.helm
          (told_front c.args.setup.now new c.parts_law.ensures.fronts (record { valid = c.front_law-2.ensures.valid; helm = c.front_law-2.ensures.helm; steered = c.front_law-2.ensures.steered }) (named_alone new alone c.front_law-2.ensures.valid) more.rest more.more
          (IsOfLawful (order_played new) (script_played new) (helm_in new) c.args.setup.now)
          (of_lawful (order_played new) (script_played new) (helm_in new) c.args.setup.now (clients_in new) (history_in new ++ more.rest) (iterations_made new ++ more.more) alone (more.alone alone) (sym more.iterations))
          before _ _ _ front),
      c.in-Err.ensures.told.sent.rose,
    )

pub returns-clause-told : goal.returns-clause-told
returns-clause-told g c = λ before told.
    let old = c.args.play.now in
    let new = c.round.new.self in
    let made = subst (λ round. IfSome round (IsRound old new)) c.in-Some.is c.in-Ok.ensures.round in
    subst (IsToldSoFar c.args.setup.now before (g.K.Sink.taken c.tell_part.new.out.out.now)) (sym c.in_default-tell_part.ensures.same)
    (part_told c.args.setup.now old new c.in-Some.round c.parts_law.ensures.parts (record { valid = c.front_law.ensures.valid; helm = c.front_law.ensures.helm; steered = c.front_law.ensures.steered }) (record { valid = c.front_law-2.ensures.valid; helm = c.front_law-2.ensures.helm; steered = c.front_law-2.ensures.steered })
    (named_alone old c.requires.named c.front_law.ensures.valid) c.in-Ok.ensures.same c.round.ensures.seated made.from made.iterations before _ _ c.args.made c.requires.made told
    c.in_default-tell_part.ensures.told.sent.ok)

pub returns-clause-few : goal.returns-clause-few
returns-clause-few g c =
    let made = subst (λ round. IfSome round (IsRound c.args.play.now c.round.new.self)) c.in-Some.is c.in-Ok.ensures.round in
    let few = few_made c.round.new.self (record { valid = c.front_law-2.ensures.valid; helm = c.front_law-2.ensures.helm; steered = c.front_law-2.ensures.steered }) in
    omega (arith, few, c.requires.made, ap length made.iterations, length-append (iterations_made c.args.play.now) c.in-Some.round.iterations)

pub returns-clause-clear : goal.returns-clause-clear
returns-clause-clear g c = c.in_default-tell_part.ensures.told.clear

pub returns-clause-fared : goal.returns-clause-fared
returns-clause-fared g c = c.in_default-tell_part.ensures.told.sent.fares
