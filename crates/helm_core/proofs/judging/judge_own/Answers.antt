use Rattle.std.proofs.Common.{None, if◌then◌else◌, subst, sym}
use Rattle.std.specs.Prelude.{IfOk}
use Rattle.helm_core.specs.Standings.{HasJudged, letters_in}
use Rattle.helm_core.specs.Ticks.{pairs_mailed}
use Rattle.helm_core.proofs.Hearing.{judged_made}
use Rattle.helm_core.proofs.judging.judge_own.Goals as goal

pub returns-then-made : goal.returns-then-made
returns-then-made c = record {
  judged = judged_made c.args.domain.now c.args.made c.args.updates.now (letters_in c.args.phase (pairs_mailed c.args.letters.now)) c.args.doer.now c.new.result c.if-made.true c.new.ensures;
}

pub returns : goal.returns
returns c = record {
  judged = subst (λ made. IfOk c.judge_all.result (HasJudged c.args.domain.now (if made then None else c.args.updates.now) (letters_in c.args.phase (pairs_mailed c.args.letters.now)) c.args.doer.now c.judge_all.new.doer)) (sym c.if-made.false)
      c.judge_all.ensures.judged;
}
