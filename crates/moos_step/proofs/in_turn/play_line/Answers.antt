use Rattle.std.proofs.Common.{◌∙◌, ap, arith}
use Rattle.moos_step.specs.Steps.{added_by, IsJust}
use Rattle.moos_step.proofs.InTurn.{led_grown, line_first, line_other}
use Rattle.moos_step.proofs.Leading.{led_gathered}
use Rattle.turn_lock.proofs.Mets.{is_taken}
use Rattle.turn_lock.specs.Passes.{met_with}
use Rattle.moos_step.proofs.in_turn.play_line.Goals as goal

pub returns-then-client-eq0-clause-gathered : goal.returns-then-client-eq0-clause-gathered
returns-then-client-eq0-clause-gathered g c = led_gathered c.args.lock.now (IsJust (added_by c.make_next.result c.args.line.now)) c.args.first.now.seat c.make_next.new.seat
    (line_first c.args.lock.now c.make_next.result c.args.line.now c.args.first.now.seat c.make_next.new.seat c.requires.gathered c.if-client-eq0.true c.make_next.ensures.made c.make_next.ensures.none)

pub returns-then-client-eq0-clause-played : goal.returns-then-client-eq0-clause-played
returns-then-client-eq0-clause-played g c = led_grown c.args.lock.now (IsJust (added_by c.make_next.result c.args.line.now)) c.args.first.now.seat c.make_next.new.seat
    (line_first c.args.lock.now c.make_next.result c.args.line.now c.args.first.now.seat c.make_next.new.seat c.requires.gathered c.if-client-eq0.true c.make_next.ensures.made c.make_next.ensures.none)

pub part-requires-clause-first : goal.part-requires-clause-first
part-requires-clause-first g c = (c.requires.gathered.number, is_taken c.args.line.now.client c.args.first.now.seat.met (c.requires.gathered.each c.args.line.now.client (omega (arith, c.if-client-eq0.false)) c.requires.client))

pub returns-clause-gathered : goal.returns-clause-gathered
returns-clause-gathered g c = led_gathered c.args.lock.now (IsJust (added_by c.make_next-played.result c.args.line.now)) c.args.first.now.seat c.meet.new.pass
    (line_other c.args.lock.now c.make_next-played.result c.args.line.now c.args.first.now.seat c.part.new.pass c.player_at-player.result.seat c.make_next-played.new.seat c.meet.new.pass c.requires.gathered
    (omega (arith, c.if-client-eq0.false)) c.requires.client c.part.ensures.pass (c.player_at-player.ensures ∙ c.part.ensures.part) c.make_next-played.ensures.made c.make_next-played.ensures.none
    (c.meet.ensures.pass ∙ ap (λ s. met_with c.part.new.pass s) c.leave-seat.ensures.seat) c.meet.ensures.seen.0)

pub returns-clause-played : goal.returns-clause-played
returns-clause-played g c = led_grown c.args.lock.now (IsJust (added_by c.make_next-played.result c.args.line.now)) c.args.first.now.seat c.meet.new.pass
    (line_other c.args.lock.now c.make_next-played.result c.args.line.now c.args.first.now.seat c.part.new.pass c.player_at-player.result.seat c.make_next-played.new.seat c.meet.new.pass c.requires.gathered
    (omega (arith, c.if-client-eq0.false)) c.requires.client c.part.ensures.pass (c.player_at-player.ensures ∙ c.part.ensures.part) c.make_next-played.ensures.made c.make_next-played.ensures.none
    (c.meet.ensures.pass ∙ ap (λ s. met_with c.part.new.pass s) c.leave-seat.ensures.seat) c.meet.ensures.seen.0)
