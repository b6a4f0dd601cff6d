-- A round of the play, and the answers to its tick.
use Rattle.std.proofs.Common.{◌≡◌, ◌<◌, arith, length, subst, sym}
use Rattle.std.specs.Prelude.{IfNone, IfSome}
use Rattle.moos_play.specs.Plays.{AddsAt, clients_in, HasTurn, helm_in, history_in, IsPlayedOut, IsRound, left_in, next_stamp, order_played, script_played}
use Rattle.moos_simulate.proofs.Adding.{adds_part, adds_with, round_ticked, round_unticked}
use Rattle.moos_simulate.proofs.Going.{always_err, goes_on_twice, stays_seated_twice}
use Rattle.moos_simulate.proofs.Played.{answering_now, cut_off, sailed_out, sailing_on}
use Rattle.moos_simulate.specs.Sailing.{IsSailedOut, IsSimulating}
use Rattle.moos_simulate.specs.Simulated.{IsSimulatedSoFar}
use Rattle.script_reader.specs.declared.script.Order.TheVariants.{Stamp}
use Rattle.moos_simulate.proofs.vehicle.Vehicle.round.Goals as goal

pub returns-in_err-round-clause-so_far : goal.returns-in_err-round-clause-so_far
returns-in_err-round-clause-so_far g c =
    let old = c.args.play.now in
    let new = c.round.new.self in
    let vehicle = c.args.self.now in
    let so = c.requires.simulating in
    always_err c.from_residual.result (IsSimulatedSoFar (script_played new) (helm_in new) vehicle.gear (clients_in new) (history_in new))
    (cut_off vehicle so.0 old new so.1 c.in_err-round.ensures.same c.front_law.ensures.so_far c.front_law.ensures.left c.in_err-round.ensures.stamped c.in_err-round.ensures.so_far)

pub answer-requires : goal.answer-requires
answer-requires g c =
    let old = c.args.play.now in
    let new = c.round.new.self in
    let so = c.requires.simulating in
    let made = subst (λ round. IfSome round (IsRound old new)) c.in-Some.is c.in_ok-round.ensures.round in
    let turn = subst (λ round. IfSome round (HasTurn (order_played old) old new)) c.in-Some.is c.in_ok-round.ensures.turn in
    let less = subst (λ round. IfSome round (λ _. left_in new < left_in old)) c.in-Some.is c.in_ok-round.ensures.more in
    answering_now c.args.self.now so.0 old new so.1 c.in_ok-round.ensures.same c.in-Some.round c.in_ok-round.ensures.between c.in_ok-round.ensures.seated made turn less c.front_law-2.ensures.so_far c.front_law-2.ensures.left c.front_law-2.ensures.helm
    (λ none. absurd (omega (arith, none, c.if-len-eq0.false, c.len.ensures)))

pub returns-then-len-eq0-clause-simulating : goal.returns-then-len-eq0-clause-simulating
returns-then-len-eq0-clause-simulating g c =
    let old = c.args.play.now in
    let new = c.round.new.self in
    let so = c.requires.simulating in
    let made = subst (λ round. IfSome round (IsRound old new)) c.in-Some.is c.in_ok-round.ensures.round in
    let turn = subst (λ round. IfSome round (HasTurn (order_played old) old new)) c.in-Some.is c.in_ok-round.ensures.turn in
    let less = subst (λ round. IfSome round (λ _. left_in new < left_in old)) c.in-Some.is c.in_ok-round.ensures.more in
    sailing_on c.args.self.now so.0 old new so.1 c.in_ok-round.ensures.same c.in-Some.round c.in_ok-round.ensures.between c.in_ok-round.ensures.seated made turn less c.front_law-2.ensures.so_far c.front_law-2.ensures.left c.front_law-2.ensures.helm
    (omega (arith, c.if-len-eq0.true, c.len.ensures))

pub returns-in_default-clause-over : goal.returns-in_default-clause-over
returns-in_default-clause-over g c =
    let old = c.args.play.now in
    let new = c.round.new.self in
    let vehicle = c.args.self.now in
    let so = c.requires.simulating in
    let none = subst (λ round. IfNone round ((left_in old ≡ 0) × (new ≡ old))) c.in_default.is c.in_ok-round.ensures.none in
    let over = subst (λ round. IfNone round (IsPlayedOut new)) c.in_default.is c.in_ok-round.ensures.over in
    subst (IsSailedOut vehicle.gear) (sym none.1) (sailed_out vehicle so.0 old so.1 none.0 (subst IsPlayedOut none.1 over) c.front_law.ensures.left c.front_law.ensures.so_far)

pub returns-in_default-clause-simulating : goal.returns-in_default-clause-simulating
returns-in_default-clause-simulating g c =
    let old = c.args.play.now in
    let new = c.round.new.self in
    let none = subst (λ round. IfNone round ((left_in old ≡ 0) × (new ≡ old))) c.in_default.is c.in_ok-round.ensures.none in
    subst (IsSimulating c.args.self.now) (sym none.1) c.requires.simulating

pub returns-clause-seated : goal.returns-clause-seated
returns-clause-seated g c = stays_seated_twice c.args.play.now c.round.new.self c.answer.new.play c.in_ok-round.ensures.seated c.in_ok-answer.ensures.goes_on.seated

pub returns-clause-same : goal.returns-clause-same
returns-clause-same g c = goes_on_twice c.args.play.now c.round.new.self c.answer.new.play c.in_ok-round.ensures.same c.in_ok-answer.ensures.goes_on.same

pub returns-in_err-answer-clause-seated : goal.returns-in_err-answer-clause-seated
returns-in_err-answer-clause-seated g c = stays_seated_twice c.args.play.now c.round.new.self c.answer.new.play c.in_ok-round.ensures.seated c.in_err-answer.ensures.goes_on.seated

pub returns-in_err-answer-clause-same : goal.returns-in_err-answer-clause-same
returns-in_err-answer-clause-same g c = goes_on_twice c.args.play.now c.round.new.self c.answer.new.play c.in_ok-round.ensures.same c.in_err-answer.ensures.goes_on.same

pub returns-then-len-eq0-clause-round : goal.returns-then-len-eq0-clause-round
returns-then-len-eq0-clause-round g c =
    let old = c.args.play.now in
    let new = c.round.new.self in
    let so = c.requires.simulating in
    let made = subst (λ round. IfSome round (IsRound old new)) c.in-Some.is c.in_ok-round.ensures.round in
    let turn = subst (λ round. IfSome round (HasTurn (order_played old) old new)) c.in-Some.is c.in_ok-round.ensures.turn in
    round_unticked c.args.self.now so.0 old new so.1.beside c.in_ok-round.ensures.same c.in-Some.round c.in_ok-round.ensures.seated made turn

pub returns-clause-round : goal.returns-clause-round
returns-clause-round g c =
    let old = c.args.play.now in
    let new = c.round.new.self in
    let so = c.requires.simulating in
    let made = subst (λ round. IfSome round (IsRound old new)) c.in-Some.is c.in_ok-round.ensures.round in
    let turn = subst (λ round. IfSome round (HasTurn (order_played old) old new)) c.in-Some.is c.in_ok-round.ensures.turn in
    round_ticked c.args.self.now so.0 old new so.1.beside c.in_ok-round.ensures.same c.in-Some.round c.in_ok-round.ensures.seated made turn
    (λ none. absurd (omega (arith, none, c.if-len-eq0.false, c.len.ensures))) c.answer.new.play c.in_ok-answer.ensures.goes_on c.in_ok-answer.ensures.added

pub returns-in_err-round-clause-stamped : goal.returns-in_err-round-clause-stamped
returns-in_err-round-clause-stamped g c =
    let old = c.args.play.now in
    let new = c.round.new.self in
    let so = c.requires.simulating in
    always_err c.from_residual.result (AddsAt Stamp (next_stamp old) (length (clients_in old)) (history_in old) (history_in new))
    (adds_part c.args.self.now so.0 old new so.1.beside c.in_err-round.ensures.same c.in_err-round.ensures.stamped)

pub returns-in_err-answer-clause-stamped : goal.returns-in_err-answer-clause-stamped
returns-in_err-answer-clause-stamped g c =
    let old = c.args.play.now in
    let new = c.round.new.self in
    let last = c.answer.new.play in
    let so = c.requires.simulating in
    let made = subst (λ round. IfSome round (IsRound old new)) c.in-Some.is c.in_ok-round.ensures.round in
    always_err c.from_residual-in_err-answer.result (AddsAt Stamp (next_stamp old) (length (clients_in old)) (history_in old) (history_in last))
    (adds_with c.args.self.now so.0 old new so.1.beside c.in_ok-round.ensures.same c.in-Some.round c.in_ok-round.ensures.seated made last c.in_err-answer.ensures.added)
