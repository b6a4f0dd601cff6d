use Rattle.std.proofs.Common.{◌≡◌, ℕ, ◌≤◌, List, [], ◌∷◌, ◌++◌, true, false, sym, ◌∙◌, subst}
use Rattle.bhv_life.specs.declared.life.Life.{Life}
use Rattle.bhv_life.specs.Lives.{BhvPast, BhvTurn, completes_at, latest_stamp, past_of, state_at, turn_after}
use Rattle.bhv_life.specs.Standing.{Keeps}
use Rattle.bhv_life.proofs.Turning.{past_push, same_outcome, turn_in_phase}
use Rattle.bhv_life.proofs.started.Started.finish.Goals as goal
use Rattle.bhv_life.proofs.started.Started.finish.Goals.{then-ended, else-ended}

pub returns-clause-life : goal.returns-clause-life
returns-clause-life c = λ common turns start begun.
    let turn : BhvTurn = record { start = start; gave = c.args.gave; done = c.args.done } in
    let past = past_of common turns in
    let one : BhvPast = turn_after common past turn in
    let parts = turn_in_phase common past turn c.args.self.phase begun.phase in
    let ended : c.completes_in-ended.result ≡ one.outcome.ended = c.completes_in-ended.ensures ∙ parts.2 in
    let now : one.outcome.now ≡ c.state_in-now.result = sym (c.state_in-now.ensures ∙ parts.3) in
    subst (λ (xs : List BhvPast). Keeps xs c.if-ended.life) (sym (past_push common turns turn)) (elim c.if-ended.branch [
      | then-ended w ↦ subst (λ (life : Life). Keeps (past ++ one ∷ []) life) (sym w.life-is) (w.ended-life.ensures past one (sym ended ∙ w.if-ended.true) now (sym parts.0))
      | else-ended w ↦ subst (λ (life : Life). Keeps (past ++ one ∷ []) life) (sym w.life-is) (w.lasted-life.ensures past one begun.life (subst (λ (n : ℕ). latest_stamp past ≤ n) (sym begun.stamp) begun.later) (sym begun.stamp) (sym ended ∙ w.if-ended.false) now (sym parts.0) (sym parts.1))
    ])

pub returns-clause-outcome : goal.returns-clause-outcome
returns-clause-outcome c = λ common turns start begun.
    let turn : BhvTurn = record { start = start; gave = c.args.gave; done = c.args.done } in
    let past = past_of common turns in
    let parts = turn_in_phase common past turn c.args.self.phase begun.phase in
    let ended : c.completes_in-ended.result ≡ completes_at common past turn = c.completes_in-ended.ensures ∙ parts.2 in
    let now : c.state_in-now.result ≡ state_at common past turn = c.state_in-now.ensures ∙ parts.3 in
    same_outcome c.outcome_of.result c.args.self.life.state _ c.state_in-now.result _ c.completes_in-ended.result _ c.outcome_of.ensures begun.life.state now ended
