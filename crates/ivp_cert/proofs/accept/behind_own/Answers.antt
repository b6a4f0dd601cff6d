use Rattle.std.proofs.Common.{sym, ◌∙◌, arith}
use Rattle.ivp_cert.proofs.Stepping.{own_at, own_past, own_other}
use Rattle.ivp_cert.proofs.accept.behind_own.Goals as goal
use Rattle.ivp_cert.proofs.accept.behind_own.Goals.{else-place-len-via-then-place-len+else-is_line_of, else-place-len-via-else-place-len}

pub returns-then-is_line_of-clause-behind : goal.returns-then-is_line_of-clause-behind
returns-then-is_line_of-clause-behind c =
    own_at c.args.problem.now c.args.key c.args.path.now c.args.node.now c.args.cert.now c.args.place c.get.result.now c.get.ensures
    (sym c.is_line_of.ensures ∙ c.if-is_line_of.true)

pub returns-else-place-len-clause-behind : goal.returns-else-place-len-clause-behind
returns-else-place-len-clause-behind c =
    elim c.else-place-len.branch [
      | else-place-len-via-then-place-len+else-is_line_of w ↦
          own_other c.args.problem.now c.args.key c.args.path.now c.args.node.now c.args.cert.now c.args.place w.get.result.now w.get.ensures
          (sym w.is_line_of.ensures ∙ w.if-is_line_of.false)
      | else-place-len-via-else-place-len w ↦
          own_past c.args.problem.now c.args.key c.args.path.now c.args.node.now c.args.cert.now c.args.place (omega arith)
    ]
