use Rattle.std.proofs.Common.{◌+◌, ◌%◌, ◌<◌, List, get_or, set, arith, mod-lt, ap, ◌∙◌}
use Rattle.std.proofs.lemmas.List.{set-get_or}
use Rattle.ivp_pool.specs.Hands.{EndState}
use Rattle.ivp_pool.proofs.Members.{stolen, took_one}
use Rattle.ivp_pool.proofs.team.stolen_node.Goals as goal

pub returns-in-Some : goal.returns-in-Some
returns-in-Some g c =
    let member = c.loop-step.member in
    let same = c.loop-step.invariant in
    let place = (c.args.number + c.loop-step.step) % c.len-workers.result in
    let within : place < c.len-workers.result = mod-lt (c.args.number + c.loop-step.step) (omega (arith, c.loop-step-test.true)) in
    let door = c.index_mut.ensures.value in (
      c.in-Some.ensures.0,
      stolen c.in-Some.node c.args.member.now _ place c.steal.new.self c.index_mut.result.now (omega (arith, within, c.len-workers.ensures)) same.worker same.deque (ap (λ (ends : List EndState). set ends place c.steal.new.self) same.doors)
          (c.in-Some.ensures.1 ∙ ap (λ (end : EndState). took_one end c.in-Some.node) (door ∙ ap (λ (ends : List EndState). get_or ends place c.index_mut.result.now) same.doors)),
    )

pub loop-step-preserved : goal.loop-step-preserved
loop-step-preserved g c =
    let same = c.loop-step.invariant in
    let place = (c.args.number + c.loop-step.step) % c.len-workers.result in
    record {
      worker = same.worker;
      deque = same.deque;
      doors = (ap (set c.loop-step.member.doors.items place) (c.in_default.ensures ∙ c.index_mut.ensures.value) ∙ set-get_or c.loop-step.member.doors.items place _) ∙ same.doors;
    }
