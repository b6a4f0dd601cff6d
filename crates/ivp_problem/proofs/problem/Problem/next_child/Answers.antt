use Rattle.std.proofs.Common.{◌≡◌, true, false, get_or, sym, subst}
use Rattle.std.proofs.lemmas.Option.{slice_get-get_or}
use Rattle.ivp_func.specs.Functions.{Function}
use Rattle.ivp_func.specs.Grids.{meets}
use Rattle.ivp_func.specs.Pieces.{is_box_of}
use Rattle.ivp_problem.proofs.Nodes.{blank_term, node_keeps}
use Rattle.ivp_problem.proofs.Pieces.{child_apart_at}
use Rattle.ivp_problem.proofs.problem.Problem.next_child.Goals as goal

pub next_meet-requires : goal.next_meet-requires
next_meet-requires c =
    let node = c.args.node.now in
    subst (λ axes. is_box_of axes node.area ≡ true) (sym c.func.ensures.domain) (node_keeps c.args.self.now node c.problem_law.ensures c.requires.node).inside

pub returns-clause-least : goal.returns-clause-least
returns-clause-least c = λ other above below.
    let problem = c.args.self.now in
    let node = c.args.node.now in
    let term = get_or problem.terms node.depth blank_term in
    let stands = slice_get-get_or problem.terms node.depth blank_term c.requires.depth in
    let func = rw stands at c.func.ensures.func in
    child_apart_at problem node term other stands (subst (λ (f : Function). meets f.pieces node.area other ≡ false) func (c.in_ok-piece.ensures.least other above below))
