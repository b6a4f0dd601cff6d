use Rattle.std.proofs.Common.{◌≡◌, Some, get_or, sym, ap, subst, refl, ◌∙◌, arith}
use Rattle.std.specs.Prelude.{is_some, slice_get}
use Rattle.std.proofs.lemmas.Bool.{false≢true}
use Rattle.std.proofs.lemmas.Option.{slice_get-get_or}
use Rattle.ivp_domain.specs.Boxes.{meet_of}
use Rattle.ivp_func.specs.Functions.{Function}
use Rattle.ivp_func.proofs.Facts.{piece_parts}
use Rattle.ivp_problem.specs.Trees.{child_in, with_chosen}
use Rattle.ivp_problem.proofs.Nodes.{blank_term, child_apart, child_met, child_node, child_of_in, node_keeps, small_more}
use Rattle.ivp_problem.proofs.problem.Problem.child.Goals as goal

pub with_chosen-requires-clause-piece : goal.with_chosen-requires-clause-piece
with_chosen-requires-clause-piece c = (piece_parts c.func.result.now.axes c.piece-piece.result c.piece-piece.ensures.fits).1

pub with_chosen-requires-clause-node : goal.with_chosen-requires-clause-node
with_chosen-requires-clause-node c =
    let h = c.problem_law.ensures in
    let keeps = node_keeps c.args.self.now c.args.node.now h c.requires.node in
    small_more c.args.node.now.depth 63 c.args.node.now (omega (arith, c.requires.depth, h.few)) keeps.small

pub with_chosen-requires-clause-depth : goal.with_chosen-requires-clause-depth
with_chosen-requires-clause-depth c = let h = c.problem_law.ensures in omega (arith, c.requires.depth, h.few)

-- the child by its definition
the_child : (c : goal.After-with_chosen) → child_in (get_or c.args.self.now.terms c.args.node.now.depth blank_term) c.args.node.now c.args.piece ≡ Some c.with_chosen.result
the_child c =
    let problem = c.args.self.now in
    let node = c.args.node.now in
    let term = get_or problem.terms node.depth blank_term in
    let stands = slice_get-get_or problem.terms node.depth blank_term c.requires.depth in
    let func = rw stands at c.func.ensures.func in
    let weight = rw stands at c.weight-weight.ensures.weight in
    let piece = c.piece-piece.result in
    let in_term : slice_get term.func.pieces c.args.piece ≡ Some piece = subst (λ (f : Function). slice_get f.pieces c.args.piece ≡ Some piece) func c.piece-piece.ensures.piece in
    let met : meet_of node.area piece.area ≡ Some c.in-Some.area = sym c.meet.ensures.exact ∙ c.in-Some.is in
    let same = c.with_chosen.ensures ∙ ap (λ w. with_chosen w piece node c.in-Some.area) weight in
    child_met problem node term c.args.piece piece c.in-Some.area stands in_term met ∙ ap Some (sym same)

pub returns-in-Some-clause-child : goal.returns-in-Some-clause-child
returns-in-Some-clause-child c =
    let problem = c.args.self.now in
    let node = c.args.node.now in
    let stands = slice_get-get_or problem.terms node.depth blank_term c.requires.depth in
    sym (child_of_in problem node (get_or problem.terms node.depth blank_term) c.args.piece stands ∙ the_child c)

pub returns-in-Some-clause-node : goal.returns-in-Some-clause-node
returns-in-Some-clause-node c =
    let problem = c.args.self.now in
    let node = c.args.node.now in
    let stands = slice_get-get_or problem.terms node.depth blank_term c.requires.depth in
    child_node problem node c.with_chosen.result (get_or problem.terms node.depth blank_term) c.args.piece c.requires.node stands (the_child c)

pub returns-in-Some-clause-none : goal.returns-in-Some-clause-none
returns-in-Some-clause-none c =
    let problem = c.args.self.now in
    let node = c.args.node.now in
    let term = get_or problem.terms node.depth blank_term in
    let stands = slice_get-get_or problem.terms node.depth blank_term c.requires.depth in
    let func = rw stands at c.func.ensures.func in
    let piece = c.piece-piece.result in
    let in_term : slice_get term.func.pieces c.args.piece ≡ Some piece = subst (λ (f : Function). slice_get f.pieces c.args.piece ≡ Some piece) func c.piece-piece.ensures.piece in
    rw (stands, in_term) (λ e. absurd (false≢true (sym e)), λ none. absurd (false≢true (sym (c.meet.ensures.apart.1 none) ∙ ap is_some c.in-Some.is)))

pub returns-in-None-clause-child : goal.returns-in-None-clause-child
returns-in-None-clause-child c =
    let problem = c.args.self.now in
    let node = c.args.node.now in
    let term = get_or problem.terms node.depth blank_term in
    let stands = slice_get-get_or problem.terms node.depth blank_term c.requires.depth in
    let func = rw stands at c.func.ensures.func in
    let piece = c.piece-piece.result in
    let in_term : slice_get term.func.pieces c.args.piece ≡ Some piece = subst (λ (f : Function). slice_get f.pieces c.args.piece ≡ Some piece) func c.piece-piece.ensures.piece in
    sym (child_apart problem node term c.args.piece piece stands in_term (sym c.meet.ensures.exact ∙ c.in-None.is))

pub returns-in-None-clause-none : goal.returns-in-None-clause-none
returns-in-None-clause-none c =
    let problem = c.args.self.now in
    let node = c.args.node.now in
    let term = get_or problem.terms node.depth blank_term in
    let stands = slice_get-get_or problem.terms node.depth blank_term c.requires.depth in
    let func = rw stands at c.func.ensures.func in
    let piece = c.piece-piece.result in
    let in_term : slice_get term.func.pieces c.args.piece ≡ Some piece = subst (λ (f : Function). slice_get f.pieces c.args.piece ≡ Some piece) func c.piece-piece.ensures.piece in
    rw (stands, in_term) (λ _. c.meet.ensures.apart.0 (ap is_some c.in-None.is), λ _. refl)
