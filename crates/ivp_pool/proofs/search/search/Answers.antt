use Rattle.std.proofs.Common.{◌≡◌, List, [], ◌∷◌, get_or, length, map, set, arith, refl, ◌∙◌, subst}
use Rattle.std.proofs.lemmas.List.Elements.{recursion_from_All}
use Rattle.ivp_problem.specs.Trees.{root_of}
use Rattle.ivp_pool.specs.declared.team.Member.{Member}
use Rattle.ivp_pool.specs.Members.{deques_of, IsNewMember, new_door}
use Rattle.ivp_pool.specs.Parts.{Incumbent}
use Rattle.ivp_pool.specs.Roots.{child_nodes}
use Rattle.ivp_pool.specs.Teams.{AllDid, AreBelow, closed_in}
use Rattle.ivp_pool.proofs.Searching.{back_did, kept_doors, kept_parts, kept_rows, new_even, new_workers, root_did, searched_by}
use Rattle.ivp_pool.proofs.Teams.{Searched}
use Rattle.ivp_pool.proofs.Whole.{all_more, shapes_set}
use Rattle.ivp_pool.proofs.search.search.Goals as goal

pub work_all-requires-clause-doors : goal.work_all-requires-clause-doors
work_all-requires-clause-doors g c κs within =
    let open' = c.open_doors.new.members in
    let same = c.deal.ensures.same ∙ shapes_set open' 0 c.index-members-0.result _ refl in
    kept_rows open' c.deal.new.members same c.in_ok-open_doors.ensures.doors

pub take_back-requires-clause-doors : goal.take_back-requires-clause-doors
take_back-requires-clause-doors g c =
    let open' = c.open_doors.new.members in
    let same = c.work_all.ensures.same ∙ (c.deal.ensures.same ∙ shapes_set open' 0 c.index-members-0.result _ refl) in
    kept_doors open' c.work_all.new.members same c.in_ok-open_doors.ensures.doors

pub take_back-requires-clause-parts : goal.take_back-requires-clause-parts
take_back-requires-clause-parts g c =
    let open' = c.open_doors.new.members in
    let same = c.work_all.ensures.same ∙ (c.deal.ensures.same ∙ shapes_set open' 0 c.index-members-0.result _ refl) in
    kept_parts c.args.problem.now c.args.best.now open' c.work_all.new.members same (omega (arith, c.requires.few, c.in_ok-open_doors.ensures.len)) c.in_ok-open_doors.ensures.new

pub deal-requires-clause-workers : goal.deal-requires-clause-workers
deal-requires-clause-workers g c κs within =
    let problem = c.args.problem.now in
    let word = c.args.best.now in
    let open' = c.open_doors.new.members in
    let workers = new_workers problem word (length open') open' c.in_ok-open_doors.ensures.new in
    (root_did problem word (child_nodes c.close_root-children.result.items) open' c.index-members-0.result c.close_root-children.new.worker (omega (arith, c.requires.some, c.in_ok-open_doors.ensures.len)) workers c.close_root-children.ensures.went).workers

pub finish-requires-clause-workers : goal.finish-requires-clause-workers
finish-requires-clause-workers g c κs within =
    (back_did c.args.problem.now c.args.best.now c.work_all.new.members c.take_back.new.members c.take_back.ensures.workers c.take_back.ensures.put c.take_back.ensures.taken c.work_all.ensures.did.workers).workers

all : (g : _) (c : goal.After-drop-children g) → (key : Incumbent) → AreBelow key c.finish.new.members → Searched c.args.problem.now key (closed_in c.finish.new.members)
all g c = λ key below.
    let problem = c.args.problem.now in
    let word = c.args.best.now in
    let open' = c.open_doors.new.members in
    let d = c.index-members-0.result in
    let workers = new_workers problem word (length open') open' c.in_ok-open_doors.ensures.new in
    let even = new_even problem word (length open') (deques_of open') open' (recursion_from_All (IsNewMember problem word (length open')) open' c.in_ok-open_doors.ensures.new)
    (recursion_from_All (λ (m : Member g.row.K.Denot). m.doors.items ≡ map new_door (deques_of open')) open' c.in_ok-open_doors.ensures.doors) in
    let was : Member g.row.K.Denot = get_or open' 0 d in
    let first : List (Member g.row.K.Denot) = set open' 0 (record { worker = c.close_root-children.new.worker; deque = was.deque; doors = was.doors }) in
    let root = root_did problem word (child_nodes c.close_root-children.result.items) open' d c.close_root-children.new.worker (omega (arith, c.requires.some, c.in_ok-open_doors.ensures.len)) workers c.close_root-children.ensures.went in
    let deal = subst (λ cs. AllDid problem word (child_nodes cs) [] first c.deal.new.members) c.deref.ensures.value c.deal.ensures.did in
    let back = back_did problem word c.work_all.new.members c.take_back.new.members c.take_back.ensures.workers c.take_back.ensures.put c.take_back.ensures.taken c.work_all.ensures.did.workers in
    let rest = all_more problem word [] [] [] c.deal.new.members c.work_all.new.members c.finish.new.members c.work_all.ensures.did (all_more problem word [] [] [] c.work_all.new.members c.take_back.new.members c.finish.new.members back c.finish.ensures.did) in
    let did = all_more problem word (root_of problem ∷ []) (child_nodes c.close_root-children.result.items) [] open' first c.finish.new.members root (all_more problem word (child_nodes c.close_root-children.result.items) [] [] first c.deal.new.members c.finish.new.members deal rest) in
    searched_by problem word c.problem_law.ensures key open' c.finish.new.members did even.0 even.1 c.finish.ensures.settled below

pub returns-clause-searched : goal.returns-clause-searched
returns-clause-searched g c = λ key below. (all g c key below).all

pub returns-clause-most : goal.returns-clause-most
returns-clause-most g c = λ key below. (all g c key below).most
