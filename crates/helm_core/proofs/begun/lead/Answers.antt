use Rattle.std.proofs.Common.{if◌then◌else◌, None}
use Rattle.helm_core.specs.Standings.{IsReady, letters_in}
use Rattle.helm_core.specs.Ticks.{pairs_mailed}
use Rattle.helm_core.proofs.Readying.{ready_judged}
use Rattle.helm_core.proofs.begun.lead.Goals as goal

pub step_in-requires : goal.step_in-requires
step_in-requires c =
    let ready : IsReady c.args.domain.now c.judge_own.new.doer
    = ready_judged c.args.domain.now (if c.args.made then None else c.args.updates.now) (letters_in c.args.phase (pairs_mailed c.args.letters.now)) c.args.doer.now c.judge_own.new.doer c.in_ok-taken.taken c.in_ok-taken.ensures.judged c.requires.ready in
    record { served = ready.served }

pub returns : goal.returns
returns c = record { led = record { between = c.judge_own.new.doer; judged = c.in_ok-taken.ensures.judged; stepped = c.in_ok-out.ensures } }
