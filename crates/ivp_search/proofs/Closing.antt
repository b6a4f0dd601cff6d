-- How the incumbent and the steps of a node come from those of its children.
use Rattle.std.proofs.Common.{◌≡◌, ℕ, zero, suc, ◌+◌, ◌-◌, ◌≤◌, ◌⊎◌, inl, inr, Bool, true, false, ◌||◌, Option, Some, None, List, [], ◌∷◌, ◌++◌, length, refl, sym, ap, subst, ◌∙◌, arith, length-append}
use Rattle.std.specs.List.{flat_map}
use Rattle.std.specs.Option.{option_to_list}
use Rattle.std.proofs.Math.Bool.{or-false, or-true}
use Rattle.std.proofs.lemmas.List.{append-nil}
use Rattle.std.proofs.lemmas.List.Folds.{list_any-append}
use Rattle.std.proofs.lemmas.Grind.{flat_map-append}
use Rattle.ivp_domain.specs.declared.boxes.Point.{Point}
use Rattle.ivp_domain.specs.Boxes.{has_point}
use Rattle.ivp_problem.specs.declared.node.Node.{Node}
use Rattle.ivp_problem.specs.declared.key.Key.{Key}
use Rattle.ivp_problem.specs.Keys.{AtMost, Reaches}
use Rattle.ivp_problem.specs.Problems.{WeightedSum}
use Rattle.ivp_problem.specs.Sums.{key_at}
use Rattle.ivp_problem.specs.Nodes.{nodes_from, nodes_under}
use Rattle.ivp_problem.specs.Trees.{child_of, children_of, has_in}
use Rattle.ivp_problem.proofs.KeyOrder.{at_most_both, reaches_less, reaches_more}
use Rattle.ivp_problem.proofs.Pieces.{children_more, children_to}
use Rattle.ivp_search.specs.Incumbents.{IsBest}

-- the nodes under these
abbrev pub size_under : WeightedSum → ℕ → List Node → ℕ
size_under problem levels nodes = length (flat_map (nodes_from problem levels) nodes)

-- the best of two parts, one after the other
pub both : (problem : WeightedSum) (f g h : Point → Bool) (low mid high : Option Key) → IsBest problem f low mid → IsBest problem g mid high → ((p : Point) → h p ≡ (f p || g p)) → IsBest problem h low high
both problem f g h low mid high a b parts =
    record {
      kept = λ key reach. b.kept key (a.kept key reach);
      above = λ p inside. either p (f p) (g p) refl refl (sym (parts p) ∙ inside);
      found = by a.found b.found;
    }
  where
    either : (p : Point) (s t : Bool) → f p ≡ s → g p ≡ t → (f p || g p) ≡ true → Reaches high (key_at problem p)
    either p true t e e' inside = b.kept (key_at problem p) (a.above p e)
    either p false true e e' inside = b.above p e'
    either p false false e e' inside = absurd (cc)

    by : (mid ≡ low) ⊎ ((p : Point) × (f p ≡ true) × (mid ≡ Some (key_at problem p))) → (high ≡ mid) ⊎ ((p : Point) × (g p ≡ true) × (high ≡ Some (key_at problem p))) → (high ≡ low) ⊎ ((p : Point) × (h p ≡ true) × (high ≡ Some (key_at problem p)))
    by (inl same) (inl same') = inl (same' ∙ same)
    by (inr found) (inl same') = inr (found.0, parts found.0 ∙ rw found.1 refl, same' ∙ found.2)
    by either (inr found) = inr (found.0, parts found.0 ∙ ap (λ t. f found.0 || t) found.1 ∙ or-true (f found.0), found.2)

-- the same points, the same best
pub same_points : (problem : WeightedSum) (f g : Point → Bool) (low high : Option Key) → IsBest problem f low high → ((p : Point) → g p ≡ f p) → IsBest problem g low high
same_points problem f g low high a same =
    record {
      kept = a.kept;
      above = λ p inside. a.above p (sym (same p) ∙ inside);
      found = by a.found;
    }
  where
    by : (high ≡ low) ⊎ ((p : Point) × (f p ≡ true) × (high ≡ Some (key_at problem p))) → (high ≡ low) ⊎ ((p : Point) × (g p ≡ true) × (high ≡ Some (key_at problem p)))
    by (inl none) = inl none
    by (inr found) = inr (found.0, same found.0 ∙ found.1, found.2)

has_one : (child : Node) (p : Point) → has_in (child ∷ []) p ≡ has_point child.area p
has_one child p = or-false (has_point child.area p)

-- with one more child closed
pub closed_child : (problem : WeightedSum) (node child : Node) (count : ℕ) (low mid high : Option Key) → child_of problem node count ≡ Some child → IsBest problem (has_in (children_to problem node count)) low mid → IsBest problem (has_point child.area) mid high → IsBest problem (has_in (children_to problem node (count + 1))) low high
closed_child problem node child count low mid high is a b =
    both problem (has_in (children_to problem node count)) (has_point child.area) (has_in (children_to problem node (count + 1))) low mid high a b
    (λ p. ap (λ nodes. has_in nodes p) (children_more problem node count ∙ ap (λ o. children_to problem node count ++ option_to_list o) is) ∙ (list_any-append (λ (n : Node). has_point n.area p) (children_to problem node count) (child ∷ []) ∙ ap (λ t. has_in (children_to problem node count) p || t) (has_one child p)))

-- the nodes under one more child
pub size_more : (problem : WeightedSum) (node child : Node) (levels count : ℕ) → child_of problem node count ≡ Some child → size_under problem levels (children_to problem node (count + 1)) ≡ size_under problem levels (children_to problem node count) + length (nodes_from problem levels child)
size_more problem node child levels count is =
    let all = children_to problem node count in
    ap (size_under problem levels) (children_more problem node count ∙ ap (λ o. all ++ option_to_list o) is)
    ∙ (ap length (flat_map-append (nodes_from problem levels) all (child ∷ []) ∙ ap (λ rest. flat_map (nodes_from problem levels) all ++ rest) (append-nil (nodes_from problem levels child)))
    ∙ length-append (flat_map (nodes_from problem levels) all) (nodes_from problem levels child))

-- a node and the nodes under its children
pub size_all : (problem : WeightedSum) (node : Node) (levels : ℕ) → length problem.terms - node.depth ≡ suc levels → length (nodes_under problem node) ≡ suc (size_under problem levels (children_of problem node))
size_all problem node levels e = ap (λ n. length (nodes_from problem n node)) e

-- a node that is pruned, and one whose bound is found
pub pruned : (problem : WeightedSum) (f : Point → Bool) (incumbent : Option Key) (bound : Key) → Reaches incumbent bound → ((p : Point) → f p ≡ true → AtMost (key_at problem p) bound) → IsBest problem f incumbent incumbent
pruned problem f incumbent bound h above =
    record {
      kept = λ key reach. reach;
      above = λ p inside. reaches_less incumbent (key_at problem p) bound (above p inside) h;
      found = inl refl;
    }

pub reached : (problem : WeightedSum) (f : Point → Bool) (incumbent : Option Key) (bound own : Key) → (Reaches incumbent bound → ⊥) → ((p : Point) → f p ≡ true → AtMost (key_at problem p) bound)
    → bound ≡ own → ((p : Point) × (f p ≡ true) × (key_at problem p ≡ own)) → IsBest problem f incumbent (Some bound)
reached problem f incumbent bound own h above e point =
    record { kept = λ key reach. reaches_more incumbent bound h key reach; above = above; found = inr (point.0, point.1, ap Some (e ∙ sym point.2)) }

-- before the first child
pub none_closed : (problem : WeightedSum) (incumbent : Option Key) → IsBest problem (has_in []) incumbent incumbent
none_closed problem incumbent = record { kept = λ key reach. reach; above = λ p inside. absurd (cc); found = inl refl }

-- the greatest of all keys
pub greatest : (problem : WeightedSum) (f : Point → Bool) (best : Point) (found : Option Key) → IsBest problem f None found → f best ≡ true
    → ((p : Point) → f p ≡ true → AtMost (key_at problem p) (key_at problem best)) → found ≡ Some (key_at problem best)
greatest problem f best found a inside most = by a.found
  where
    by : (found ≡ None) ⊎ ((p : Point) × (f p ≡ true) × (found ≡ Some (key_at problem p))) → found ≡ Some (key_at problem best)
    by (inl none) = absurd (subst (λ o. Reaches o (key_at problem best)) none (a.above best inside))
    by (inr (p, here, is)) =
        let up : AtMost (key_at problem best) (key_at problem p) = subst (λ o. Reaches o (key_at problem best)) is (a.above best inside) in
        is ∙ ap Some (at_most_both (key_at problem p) (key_at problem best) (most p here) up)

-- the step of a node itself
pub one_counted : (problem : WeightedSum) (node : Node) (old new : ℕ) → new ≡ old + 1 → new ≤ old + length (nodes_under problem node)
one_counted problem node old new e = omega (arith, some (length problem.terms - node.depth))
  where
    some : (levels : ℕ) → 1 ≤ length (nodes_from problem levels node)
    some zero = omega arith
    some (suc levels) = omega arith
