-- What the round brought was told, or a front of it; or what was told before is a front.
use Rattle.std.proofs.Common.{◌≡◌, ◌∙◌, ◌++◌, ap, arith, inr, length, length-append, refl, subst, sym}
use Rattle.std.specs.Prelude.{IfNone, IfSome}
use Rattle.moos_play.specs.Plays.{clients_in, helm_in, history_in, iterations_made, left_in, script_played}
use Rattle.moos_report.specs.Parts.{front_text}
use Rattle.moos_simulate.specs.Sailing.{IsRoundBeside, IsSailedOut}
use Rattle.moos_jobs.proofs.Fetching.{fetched, IsRunWell}
use Rattle.moos_jobs.proofs.Rounds.{few_made, fetched_before, lines_stay, part_front, part_told, told_front, told_so_far}
use Rattle.moos_jobs.specs.Telling.{IsToldSoFar}
use Rattle.moos_jobs.proofs.SimulatedReports.{front_sailed, may_report, named_sailing, of_on}
use Rattle.moos_jobs.specs.Simulating.{IsVoyage}
use Rattle.moos_jobs.proofs.simulate_telling.tell_round.Goals as goal

pub returns-in_default-clause-stopped : goal.returns-in_default-clause-stopped
returns-in_default-clause-stopped g c = λ task before of told.
    let play = c.args.play.now in
    let vehicle = c.args.vehicle.now in
    let setup = c.args.setup.now in
    let voyage = c.front_law.ensures in
    let law = c.front_law-2.ensures in
    let well : IsRunWell play = record { valid = law.valid; helm = law.helm; steered = law.steered } in
    let named = named_sailing vehicle play c.requires.simulating law.valid in
    let front = told_so_far setup play c.parts_law.ensures.fronts well named voyage.rest voyage.more (IsVoyage task)
    (may_report task setup vehicle.gear (script_played play) (helm_in play) (clients_in play) (history_in play ++ voyage.rest) (iterations_made play ++ voyage.more) of voyage.simulated voyage.iterations)
    before _ _ _ told in
    let fetches = fetched play well named in
    inr (
      front,
      record {
        text = front_text setup (clients_in play) (history_in play) (iterations_made play);
        may = front_sailed task setup vehicle.gear (script_played play) (helm_in play) (clients_in play) (history_in play) voyage.rest (iterations_made play) voyage.more of voyage.simulated voyage.iterations fetches;
        took = told;
        fared = refl;
      },
    )

pub tell_part-requires-clause-kept : goal.tell_part-requires-clause-kept
tell_part-requires-clause-kept g c = lines_stay c.args.play.now c.round.new.play c.args.kept.now c.round.ensures.seated c.requires.kept

pub returns-in_default-next-clause-kept : goal.returns-in_default-next-clause-kept
returns-in_default-next-clause-kept g c = lines_stay c.args.play.now c.round.new.play c.args.kept.now c.round.ensures.seated c.requires.kept

pub tell_part-requires-clause-fetched : goal.tell_part-requires-clause-fetched
tell_part-requires-clause-fetched g c =
    let old = c.args.play.now in
    let new = c.round.new.play in
    let law = c.front_law-2.ensures in
    let next = c.front_law-4.ensures in
    let part = subst (λ round. IfSome round (IsRoundBeside old new)) c.in-Some.is c.in-Ok.ensures.round in
    fetched_before c.args.setup.now old new c.in-Some.round c.parts_law.ensures.parts (record { valid = law.valid; helm = law.helm; steered = law.steered }) (record { valid = next.valid; helm = next.helm; steered = next.steered })
    (named_sailing c.args.vehicle.now old c.requires.simulating law.valid) c.round.ensures.same c.round.ensures.seated part.from part.iterations
    ∙ sym c.requires.made

pub returns-in-Err-clause-stopped : goal.returns-in-Err-clause-stopped
returns-in-Err-clause-stopped g c = λ task before of told.
    let old = c.args.play.now in
    let new = c.round.new.play in
    let vehicle = c.round.new.self in
    let setup = c.args.setup.now in
    let law = c.front_law-2.ensures in
    let next = c.front_law-4.ensures in
    let voyage = c.front_law-3.ensures in
    let on = c.round.ensures.same in
    let part = subst (λ round. IfSome round (IsRoundBeside old new)) c.in-Some.is c.in-Ok.ensures.round in
    let well : IsRunWell old = record { valid = law.valid; helm = law.helm; steered = law.steered } in
    let well_on : IsRunWell new = record { valid = next.valid; helm = next.helm; steered = next.steered } in
    let front = part_front setup old new c.in-Some.round c.parts_law.ensures.parts well well_on (named_sailing c.args.vehicle.now old c.requires.simulating law.valid) on c.round.ensures.seated part.from part.iterations
    before _ _ c.args.made c.requires.made told c.in-Err.ensures.told.sent.front in (
      told_front setup new c.parts_law.ensures.fronts well_on (named_sailing vehicle new c.in-Ok.ensures.simulating next.valid) voyage.rest voyage.more (IsVoyage task)
          (may_report task setup vehicle.gear (script_played new) (helm_in new) (clients_in new) (history_in new ++ voyage.rest) (iterations_made new ++ voyage.more)
          (of_on task setup c.args.vehicle.now.gear vehicle.gear old new on c.round.ensures.gear of) voyage.simulated voyage.iterations)
          before _ _ _ front,
      c.in-Err.ensures.told.sent.rose,
    )

pub returns-clause-told : goal.returns-clause-told
returns-clause-told g c = λ before told.
    let old = c.args.play.now in
    let new = c.round.new.play in
    let law = c.front_law-2.ensures in
    let next = c.front_law-4.ensures in
    let part = subst (λ round. IfSome round (IsRoundBeside old new)) c.in-Some.is c.in-Ok.ensures.round in
    subst (IsToldSoFar c.args.setup.now before (g.K.Sink.taken c.tell_part.new.out.out.now)) (sym c.in_default-tell_part.ensures.same)
    (part_told c.args.setup.now old new c.in-Some.round c.parts_law.ensures.parts (record { valid = law.valid; helm = law.helm; steered = law.steered }) (record { valid = next.valid; helm = next.helm; steered = next.steered })
    (named_sailing c.args.vehicle.now old c.requires.simulating law.valid) c.round.ensures.same c.round.ensures.seated part.from part.iterations before _ _ c.args.made c.requires.made told
    c.in_default-tell_part.ensures.told.sent.ok)

pub returns-clause-few : goal.returns-clause-few
returns-clause-few g c =
    let new = c.round.new.play in
    let next = c.front_law-4.ensures in
    let part = subst (λ round. IfSome round (IsRoundBeside c.args.play.now new)) c.in-Some.is c.in-Ok.ensures.round in
    let few = few_made new (record { valid = next.valid; helm = next.helm; steered = next.steered }) in
    omega (arith, few, c.requires.made, ap length part.iterations, length-append (iterations_made c.args.play.now) c.in-Some.round.iterations)

pub returns-in_default-next-clause-over : goal.returns-in_default-next-clause-over
returns-in_default-next-clause-over g c =
    let old = c.args.play.now in
    let new = c.round.new.play in
    let none = subst (λ round. IfNone round ((left_in old ≡ 0) × (new ≡ old))) c.in_default-next.is c.in-Ok.ensures.none in
    let over = subst (λ round. IfNone round (IsSailedOut c.round.new.self.gear new)) c.in_default-next.is c.in-Ok.ensures.over in
    (subst (λ gear. IsSailedOut gear new) c.round.ensures.gear over, none.1, refl)

pub returns-clause-clear : goal.returns-clause-clear
returns-clause-clear g c = c.in_default-tell_part.ensures.told.clear

pub returns-clause-fared : goal.returns-clause-fared
returns-clause-fared g c = c.in_default-tell_part.ensures.told.sent.fares
