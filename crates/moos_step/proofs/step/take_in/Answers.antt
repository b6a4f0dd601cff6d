use Rattle.std.proofs.Common.{subst, rules}
use Rattle.std.specs.List.{All}
use Rattle.std.proofs.lemmas.List.Elements.{All-head, All-rest}
use Rattle.moos_step.specs.Steps.{IsApart}
use Rattle.moos_step.proofs.Taking.{all_ended, taken_more}
use Rattle.moos_step.proofs.step.take_in.Goals as goal

pub loop-player-preserved : goal.loop-player-preserved
loop-player-preserved c =
    let steps = c.in-Some.ensures.steps.0 in
    let left = subst (All (λ player. IsApart c.args.lock.now player.seat)) steps c.loop-player.invariant.left in
    let apart = All-head (λ player. IsApart c.args.lock.now player.seat) c.in-Some.player c.next.new.self.rest.items left in
    record {
      taken = taken_more c.args.first.now c.loop-player.first c.meet.new.pass c.leave-seat.result.0 c.loop-player.yielded c.in-Some.player c.loop-player.invariant.taken c.leave-seat.ensures.seat apart.alone c.meet.ensures.pass c.meet.ensures.seen.0;
      ended = all_ended c.both-answer.result c.leave-seat.result.1 c.loop-player.answer c.loop-player.yielded c.in-Some.player c.both-answer.ensures c.leave-seat.ensures.ended c.loop-player.invariant.ended;
      left = All-rest (λ player. IsApart c.args.lock.now player.seat) c.in-Some.player c.next.new.self.rest.items c.loop-player.player-iterator.rest.items steps c.loop-player.invariant.left;
      calls = search rules;
    }
