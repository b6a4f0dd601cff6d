use Rattle.std.proofs.Common.{◌≡◌, ◌∷◌, ◌++◌, [], All, Bool, true, false, List, cond, sym, subst}
use Rattle.std.proofs.lemmas.List.Elements.{All-push}
use Rattle.ivp_problem.specs.Trees.{bound_of}
use Rattle.ivp_pool.specs.declared.root.Child.{Child}
use Rattle.ivp_pool.proofs.root.ChildrenTray.push.Goals as goal

-- what holds of each element of both lists holds of each of the one that it is
all_of_one : (P : Child → Type 0) (first : Bool) (xs ys : List Child) → All P xs → All P ys → All P (cond first xs ys)
all_of_one P true xs ys one other = one
all_of_one P false xs ys one other = other

pub invariant_of-self : goal.invariant_of-self
invariant_of-self c =
    let problem = c.args.self.now.problem.now in
    let old = c.args.self.now.children.items in
    let child : Child = record { node = c.args.node; place = c.len.result; bound = c.bound_of.result } in
    let P : Child → Type 0 = λ one. one.bound ≡ bound_of problem one.node in
    let more = All-push P old child c.args.self.now.bounded c.bound_of.ensures.bound in
    record { bounded = subst (All P) (sym c.push.ensures.items) (all_of_one P _ (old ++ child ∷ []) old more c.args.self.now.bounded) }
