use Rattle.std.proofs.Common.{◌≡◌, is_some, Some, length, sym, ap, ◌∙◌, arith}
use Rattle.ivp_domain.specs.Boxes.{has_point}
use Rattle.ivp_problem.specs.declared.node.Node.{Node}
use Rattle.ivp_problem.specs.Nodes.{nodes_under}
use Rattle.ivp_problem.specs.Sums.{best_of, key_at}
use Rattle.ivp_search.proofs.Closing.{greatest}
use Rattle.ivp_search.proofs.search.best_in_one.Goals as goal

pub unwrap-requires : goal.unwrap-requires
unwrap-requires g c =
    let problem = c.args.problem.now in
    let whole = c.root.ensures.whole in
    let keys = c.keys_law.ensures in
    ap is_some (greatest problem (has_point c.root.result.area) (best_of problem) c.close.result c.close.ensures.best (whole (best_of problem) ∙ keys.point) (λ p inside. keys.best p (sym (whole p) ∙ inside)))

pub returns-clause-best : goal.returns-clause-best
returns-clause-best g c =
    let problem = c.args.problem.now in
    let whole = c.root.ensures.whole in
    let keys = c.keys_law.ensures in
    let found = greatest problem (has_point c.root.result.area) (best_of problem) c.close.result c.close.ensures.best (whole (best_of problem) ∙ keys.point) (λ p inside. keys.best p (sym (whole p) ∙ inside)) in
    let both : Some c.unwrap.result ≡ Some (key_at problem (best_of problem)) = sym c.unwrap.ensures ∙ found in
    cc

pub returns-clause-counted : goal.returns-clause-counted
returns-clause-counted g c = omega (arith, c.close.ensures.counted, ap (λ (node : Node). length (nodes_under c.args.problem.now node)) c.root.ensures.root)
