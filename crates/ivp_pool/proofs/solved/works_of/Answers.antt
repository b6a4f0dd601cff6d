use Rattle.std.proofs.Common.{rules, ◌≡◌, ◌≤◌, List, [], ◌∷◌, suc, length, refl, arith, sym, subst, ap, ◌∙◌, append_assoc, append-nil}
use Rattle.std.specs.Vec.Iter.{into_iter_items}
use Rattle.std.specs.Prelude.{◌++◌}
use Rattle.std.proofs.lemmas.List.{map-append}
use Rattle.std.proofs.lemmas.List.Elements.{All-append, All-from_recursion}
use Rattle.ivp_problem.specs.Keys.{greater_own}
use Rattle.ivp_problem.proofs.KeyOrder.{reaches_first, reaches_second}
use Rattle.ivp_pool.specs.declared.team.Member.{Member}
use Rattle.ivp_pool.specs.Parts.{Incumbent, KnowsMore}
use Rattle.ivp_pool.specs.Solving.{IsWorker, knows_of}
use Rattle.ivp_pool.specs.Teams.{AreBelow, AreWorkers}
use Rattle.ivp_pool.proofs.Knowing.{knows_from, owned_greater}
use Rattle.ivp_pool.proofs.solved.works_of.Goals as goal

pub loop-member-preserved : goal.loop-member-preserved
loop-member-preserved g c =
    let inv = c.loop-member.invariant in
    let member : Member g.row.K.Denot = c.in-Some.member in
    let old : Incumbent = record { low = c.loop-member.scout.me.0.low; own = c.loop-member.own.key } in
    let own = greater_own c.loop-member.own.key member.worker.own.key in
    let key : Incumbent = record { low = c.join.new.scout.me.0.low; own = own } in
    let up : c.loop-member.scout.me.0.low ≤ key.low = search rules in
    let mine : member.worker.scout.me.0.low ≤ key.low = search rules in
    let more : c.push.new.self ≡ c.loop-member.works ++ member.worker.work ∷ [] = search rules in
    let at = c.loop-member in
    let left = into_iter_items c.next.new.self in
    let steps : into_iter_items at.member-iterator ≡ member ∷ left = c.in-Some.ensures.steps.0 in
    let all : AreWorkers c.args.problem.now c.args.best.now (member ∷ left) = subst (AreWorkers c.args.problem.now c.args.best.now) steps inv.rest in
    let is : IsWorker c.args.problem.now c.args.best.now member.worker = all 0 member (omega arith) in
    let rises : KnowsMore old key = knows_from old key up (λ k reach. reaches_first c.loop-member.own.key member.worker.own.key k reach) in
    let reached : KnowsMore (knows_of member.worker) key = knows_from (knows_of member.worker) key mine (λ k reach. reaches_second c.loop-member.own.key member.worker.own.key k reach) in
    rw c.greater_own-own.ensures
    (record {
      next = tt;
      finite = tt;
      counted = let was = inv.counted in let gone = c.in-Some.ensures.steps.1 in let short = ap length steps in omega arith;
      taken = append_assoc at.yielded (member ∷ []) left ∙ (ap (λ ls. at.yielded ++ ls) (sym steps) ∙ inv.taken);
      rest = λ k d h. all (suc k) d (omega (arith, h));
      works = more ∙ (ap (λ works. works ++ member.worker.work ∷ []) inv.works ∙ sym (map-append (λ (m : Member g.row.K.Denot). m.worker.work) c.loop-member.yielded (member ∷ [])));
      owned = owned_greater c.args.problem.now c.loop-member.own.key member.worker.own.key inv.owned is.owned;
      later = All-append (λ (m : Member g.row.K.Denot). KnowsMore (knows_of m.worker) key) c.loop-member.yielded (member ∷ []) (λ j e inside. λ k out. rises k (inv.later j e inside k out)) (All-from_recursion (λ (m : Member g.row.K.Denot). KnowsMore (knows_of m.worker) key) (member ∷ []) (reached, tt));
      word = search rules;
      about = search rules;
    })

-- a list of no length
empty : {A : Type 0} (xs : List A) → length xs ≡ 0 → xs ≡ []
empty [] none = refl
empty (x ∷ xs) none = absurd (omega (arith, none))

pub returns-clause-later : goal.returns-clause-later
returns-clause-later g c =
    let at = c.loop-member in
    let none : length (into_iter_items at.member-iterator) ≡ 0 = omega (arith, at.invariant.counted, c.in-None.ensures.steps.0) in
    let whole : at.yielded ≡ c.args.team.items = sym (append-nil at.yielded) ∙ (ap (λ ls. at.yielded ++ ls) (sym (empty (into_iter_items at.member-iterator) none)) ∙ at.invariant.taken) in
    subst (AreBelow (record { low = at.scout.me.0.low; own = at.own.key })) whole at.invariant.later
