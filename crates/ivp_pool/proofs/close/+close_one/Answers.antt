use Rattle.std.proofs.Common.{rules, ◌≡◌, ◌+◌, ◌<◌, ℕ, inr, Option, Some, length, refl, sym, subst, ap, ◌∙◌, arith}
use Rattle.atomic_table.specs.Table.{Me}
use Rattle.ivp_problem.specs.Found.{IsKnownSum, IsOwnKey}
use Rattle.best_word.specs.declared.best.View.{View}
use Rattle.ivp_problem.specs.declared.key.Key.{Key}
use Rattle.ivp_problem.specs.Keys.{greater_own, Reaches}
use Rattle.ivp_problem.specs.Trees.{bound_of}
use Rattle.ivp_problem.proofs.KeyOrder.{at_most_self, reaches_first, reaches_second}
use Rattle.ivp_problem.proofs.Pieces.{among_all, children_end, none_to}
use Rattle.ivp_pool.specs.Closing.{Pushed}
use Rattle.ivp_pool.specs.Parts.{Incumbent, Outdoes}
use Rattle.ivp_pool.proofs.Growing.{closed_covers, nothing_searched, pruned, Searched, searched_all, searched_closed, searched_few, searched_on, searched_passed}
use Rattle.ivp_pool.proofs.Knowing.{knows_from, owned_greater}
use Rattle.ivp_pool.proofs.close.+close_one.Goals as goal
use Rattle.ivp_pool.proofs.close.+close_one.Goals.{in-Some-push, in_default-push}

abbrev knows : ℕ → Option Key → Incumbent
knows low own = record { low = low; own = own }

-- a scout that learned, and then learned more
learned : (start mid last : Me (Unit {0}) View) → mid ≡ (record start.0 { low = mid.0.low }, start.1) → last ≡ (record mid.0 { low = last.0.low }, mid.1) → last ≡ (record start.0 { low = last.0.low }, start.1)
learned start mid last e e' = e' ∙ ap (λ m. (record m.0 { low = last.0.low }, m.1)) e

pub returns-then-is_outdone-clause-closed : goal.returns-then-is_outdone-clause-closed
returns-then-is_outdone-clause-closed g t c =
    let low = ap (λ m. m.0.low) c.known-known.ensures.scout.1 in
    let own = c.args.own.now.key in
    let out = c.is_outdone.ensures.0 c.if-is_outdone.true in
    pruned c.args.problem.now (knows c.known-known.new.scout.me.0.low own) (g.T.Tray.took c.args.tray.now) c.args.node
    (subst (λ n. Outdoes (knows n own) (bound_of c.args.problem.now c.args.node)) (sym low) (subst (λ (k : Key). Outdoes (knows c.known-known.result own) k) c.bound_of-bound.ensures.bound out))

pub returns-then-is_outdone-clause-covered : goal.returns-then-is_outdone-clause-covered
returns-then-is_outdone-clause-covered g t c =
    let took = g.T.Tray.took c.args.tray.now in
    closed_covers c.args.problem.now (knows c.known-known.new.scout.me.0.low c.args.own.now.key) took took c.args.node 1 c.len-len.ensures.problem c.requires.node (returns-then-is_outdone-clause-closed g t c)

pub loop-next-init : goal.loop-next-init
loop-next-init g t c =
    let low = ap (λ m. m.0.low) c.known-known.ensures.scout.1 in
    record {
      few = omega arith;
      searched = nothing_searched c.args.problem.now (knows c.known-known.new.scout.me.0.low c.args.own.now.key) (g.T.Tray.took c.args.tray.now);
      known = subst (IsKnownSum c.args.problem.now) (sym low) (c.known-known.ensures.known c.args.problem.now c.requires.problem);
      own = c.requires.own;
      later = search rules;
      greater = λ key reach. reach;
      word = c.known-known.ensures.scout.0;
      scout = search rules;
      tray = c.requires.tray;
      kept = refl;
    }

pub overflow_add-closed : goal.overflow_add-closed
overflow_add-closed g t c =
    let problem = c.args.problem.now in
    let node = c.args.node in
    let child = c.in-Some.next.node in
    let k = c.in-Some.next.piece in
    let took = g.T.Tray.took c.args.tray.now in
    let old = knows c.loop-next.scout.me.0.low c.loop-next.own.key in
    let low = knows c.close_one-closed.new.scout.me.0.low c.close_one-closed.new.own.key in
    let below : node.depth < length problem.terms = omega (arith, c.if-node-len.false, c.len-len.ensures.len) in
    let same = none_to problem node c.loop-next.from k c.in-Some.ensures.piece.0 c.in-Some.ensures.least in
    let so_far = searched_on problem old took (g.T.Tray.took c.loop-next.tray) node c.loop-next.from k c.loop-next.closed same c.loop-next.invariant.searched in
    let searched = searched_closed problem old low took (g.T.Tray.took c.loop-next.tray) (g.T.Tray.took c.push.new.self) (g.T.Tray.took c.close_one-closed.new.tray) node child c.in-Some-push.child k c.loop-next.closed c.close_one-closed.result (knows_from old low c.close_one-closed.ensures.later c.close_one-closed.ensures.greater) c.in-Some.ensures.child so_far c.in-Some-push.ensures.took c.close_one-closed.ensures.closed in
    let among = among_all problem node child k below c.in-Some.ensures.child in
    let few = searched_few problem low took (g.T.Tray.took c.close_one-closed.new.tray) node (k + 1) among.pieces (c.loop-next.closed + c.close_one-closed.result) c.len-len.ensures.problem c.requires.node below (omega (arith, among.within)) among.all searched in
    omega (arith, few)

pub loop-next-preserved : goal.loop-next-preserved
loop-next-preserved g t c =
    let problem = c.args.problem.now in
    let node = c.args.node in
    let child = c.in-Some.next.node in
    let k = c.in-Some.next.piece in
    let took = g.T.Tray.took c.args.tray.now in
    let old = c.loop-next.invariant in
    let mid = knows c.loop-next.scout.me.0.low c.loop-next.own.key in
    let same = none_to problem node c.loop-next.from k c.in-Some.ensures.piece.0 c.in-Some.ensures.least in
    let so_far = searched_on problem mid took (g.T.Tray.took c.loop-next.tray) node c.loop-next.from k c.loop-next.closed same old.searched in
    elim c.match-push.branch [
      | in-Some-push w ↦
          let last = knows w.close_one-closed.new.scout.me.0.low w.close_one-closed.new.own.key in
          rw (w.scout-is, w.own-is, w.tray-is, w.closed-is)
          (record {
            few = omega (arith, c.in-Some.ensures.piece.1);
            searched = searched_closed problem mid last took (g.T.Tray.took c.loop-next.tray) (g.T.Tray.took c.push.new.self) (g.T.Tray.took w.close_one-closed.new.tray) node child w.in-Some-push.child k c.loop-next.closed w.close_one-closed.result (knows_from mid last w.close_one-closed.ensures.later w.close_one-closed.ensures.greater) c.in-Some.ensures.child so_far w.in-Some-push.ensures.took w.close_one-closed.ensures.closed;
            known = w.close_one-closed.ensures.known;
            own = w.close_one-closed.ensures.own;
            later = omega (arith, old.later, w.close_one-closed.ensures.later);
            greater = λ key reach. w.close_one-closed.ensures.greater key (old.greater key reach);
            word = w.close_one-closed.ensures.scout.0 ∙ old.word;
            scout = learned c.args.scout.now.me c.loop-next.scout.me w.close_one-closed.new.scout.me old.scout w.close_one-closed.ensures.scout.1;
            tray = w.close_one-closed.ensures.tray ∙ (c.push.ensures.problem ∙ old.tray);
            kept = w.close_one-closed.ensures.kept ∙ (c.push.ensures.kept ∙ old.kept);
          })
      | in_default-push w ↦
          rw (w.scout-is, w.own-is, w.tray-is, w.closed-is)
          (record {
            few = omega (arith, c.in-Some.ensures.piece.1);
            searched = searched_passed problem mid took (g.T.Tray.took c.loop-next.tray) (g.T.Tray.took c.push.new.self) node child k c.loop-next.closed c.in-Some.ensures.child so_far (subst (Pushed (g.T.Tray.took c.loop-next.tray) (g.T.Tray.took c.push.new.self) child) w.in_default-push.is c.push.ensures.took);
            known = old.known;
            own = old.own;
            later = old.later;
            greater = old.greater;
            word = old.word;
            scout = old.scout;
            tray = c.push.ensures.problem ∙ old.tray;
            kept = c.push.ensures.kept ∙ old.kept;
          })
    ]

pub returns-clause-closed : goal.returns-clause-closed
returns-clause-closed g t c =
    let problem = c.args.problem.now in
    let node = c.args.node in
    let low = knows c.loop-next.scout.me.0.low c.loop-next.own.key in
    let took = g.T.Tray.took c.args.tray.now in
    let took' = g.T.Tray.took c.loop-next.tray in
    let below : node.depth < length problem.terms = omega (arith, c.if-node-len.false, c.len-len.ensures.len) in
    let all = children_end problem node c.loop-next.from below c.in_default.ensures.none in
    searched_all problem low took took' node c.loop-next.closed below (subst (λ nodes. Searched problem low took took' nodes c.loop-next.closed) all c.loop-next.invariant.searched)

pub returns-clause-covered : goal.returns-clause-covered
returns-clause-covered g t c =
    closed_covers c.args.problem.now (knows c.loop-next.scout.me.0.low c.loop-next.own.key) (g.T.Tray.took c.args.tray.now) (g.T.Tray.took c.loop-next.tray) c.args.node c.loop-next.closed c.len-len.ensures.problem c.requires.node (returns-clause-closed g t c)

pub returns-then-is_outdone-clause-known : goal.returns-then-is_outdone-clause-known
returns-then-is_outdone-clause-known g t c =
    let low = ap (λ m. m.0.low) c.known-known.ensures.scout.1 in
    subst (IsKnownSum c.args.problem.now) (sym low) (c.known-known.ensures.known c.args.problem.now c.requires.problem)

pub returns-then-node-len-clause-own : goal.returns-then-node-len-clause-own
returns-then-node-len-clause-own g t c =
    let problem = c.args.problem.now in
    subst (IsOwnKey problem) (sym c.greater_own-own.ensures)
    (owned_greater problem c.args.own.now.key (Some c.bound_of-bound.result) c.requires.own (inr (c.best_corner-corner.result, c.best_corner-corner.ensures.point, sym (ap Some (c.best_corner-corner.ensures.best ∙ sym c.bound_of-bound.ensures.bound)))))

pub returns-then-node-len-clause-closed : goal.returns-then-node-len-clause-closed
returns-then-node-len-clause-closed g t c =
    let problem = c.args.problem.now in
    let own = c.args.own.now.key in
    let bound = c.bound_of-bound.result in
    let reach : Reaches (greater_own own (Some bound)) (bound_of problem c.args.node) = subst (Reaches (greater_own own (Some bound))) c.bound_of-bound.ensures.bound (reaches_second own (Some bound) bound (at_most_self bound)) in
    pruned problem (knows c.offer.new.scout.me.0.low c.greater_own-own.result) (g.T.Tray.took c.args.tray.now) c.args.node
    (inr (subst (λ o. Reaches o (bound_of problem c.args.node)) (sym c.greater_own-own.ensures) reach))

pub returns-then-node-len-clause-covered : goal.returns-then-node-len-clause-covered
returns-then-node-len-clause-covered g t c =
    let took = g.T.Tray.took c.args.tray.now in
    closed_covers c.args.problem.now (knows c.offer.new.scout.me.0.low c.greater_own-own.result) took took c.args.node 1 c.len-len.ensures.problem c.requires.node (returns-then-node-len-clause-closed g t c)

pub returns-then-node-len-clause-greater : goal.returns-then-node-len-clause-greater
returns-then-node-len-clause-greater g t c = λ key reach. subst (λ o. Reaches o key) (sym c.greater_own-own.ensures) (reaches_first c.args.own.now.key (Some c.bound_of-bound.result) key reach)
