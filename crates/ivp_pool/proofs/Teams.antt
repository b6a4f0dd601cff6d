-- How the calls of a worker add up, and those of all workers.
use Rattle.std.proofs.Common.{◌≡◌, ℕ, suc, ◌+◌, ◌*◌, ◌^◌, ◌/◌, ◌%◌, Some, List, [], ◌∷◌, ◌++◌, length, refl, sym, ap, ◌∙◌, arith, length-append}
use Rattle.std.specs.Prelude.{All, IsTrue, slice_get}
use Rattle.std.specs.List.{sum_by, AllByRecursion as Each}
use Rattle.std.proofs.lemmas.List.Elements.{All-from_recursion}
use Rattle.std.specs.List.Sorted.{IsPermutation}
use Rattle.std.proofs.lemmas.List.Sorted.{length_permutation, sum_by-IsPermutation}
use Rattle.std.proofs.lemmas.List.Sums.{sum_by-append, sum_by-cons}
use Rattle.moos_io.proofs.Lists.{each_append, each_at, each_from, each_weaker}
use Rattle.ivp_domain.specs.declared.boxes.Point.{Point}
use Rattle.ivp_domain.specs.Domains.{is_point}
use Rattle.ivp_problem.specs.declared.node.Node.{Node}
use Rattle.ivp_problem.specs.Problems.{IsProblem, WeightedSum}
use Rattle.ivp_problem.specs.Sums.{key_at}
use Rattle.ivp_problem.specs.Trees.{IsNode, root_of}
use Rattle.ivp_pool.specs.Closing.{Closed}
use Rattle.ivp_pool.specs.Parts.{Incumbent, KnowsMore, Outdoes, handed_within, part_size}
use Rattle.ivp_pool.specs.Solving.{AreClosed, IsSearched, knows_of, WentOn}
use Rattle.ivp_pool.specs.declared.team.Worker.{Worker}
use Rattle.ivp_pool.specs.Tallies.{handed_by, IsTally, IsWholeTree, Tally}
use Rattle.ivp_pool.proofs.Gluing.{whole}
use Rattle.ivp_pool.proofs.Growing.{handed_deeper, IsBelow, raised}
use Rattle.ivp_pool.proofs.Standing.{standing}

-- no call
pub closed_none : (problem : WeightedSum) (key : Incumbent) → AreClosed problem key [] [] 0
closed_none problem key = record { tallies = []; each = λ place tally at. absurd (cc); called = λ weigh. refl; passed = λ weigh. refl; size = refl }

-- one call
pub closed_one : (problem : WeightedSum) (key : Incumbent) (took took' : List Node) (node : Node) (count : ℕ) → IsNode problem node → (closed : Closed problem key took took' node count) → AreClosed problem key (node ∷ []) (handed_within problem node closed.part) count
closed_one problem key took took' node count is closed =
    let tally : Tally = record { node = node; part = closed.part } in
    record {
      tallies = tally ∷ [];
      each = λ place t at. each_at (IsTally problem key) (tally ∷ []) place t (record { node = is; is = closed.is; here = closed.here }, tt) at;
      called = λ weigh. refl;
      passed = λ weigh. omega arith;
      size = omega (arith, closed.counted);
    }

-- what it handed on are nodes of the tree
pub handed_nodes : (problem : WeightedSum) (key : Incumbent) (took took' : List Node) (node : Node) (count : ℕ) → IsNode problem node → (closed : Closed problem key took took' node count) → All (IsNode problem) (handed_within problem node closed.part)
handed_nodes problem key took took' node count is closed =
    All-from_recursion (IsNode problem) (handed_within problem node closed.part)
    (each_weaker (IsBelow problem (suc node.depth)) (IsNode problem) (λ n below. below.is) (handed_within problem node closed.part) (handed_deeper problem key (length problem.terms) node closed.part (standing problem node is) closed.is closed.here))

-- what they handed on may be told in any order
pub went_in_order : (problem : WeightedSum) (nodes handed handed' : List Node) (old new : Worker) → IsPermutation handed handed' → WentOn problem nodes handed old new → WentOn problem nodes handed' old new
went_in_order problem nodes handed handed' old new moved went =
    let closed = went.closed in
    record {
      at_word = went.at_word;
      scout = went.scout;
      later = went.later;
      owned = went.owned;
      count = went.count;
      wraps = went.wraps;
      counted = went.counted;
      closed = record {
        tallies = closed.tallies;
        each = closed.each;
        called = closed.called;
        passed = λ weigh. closed.passed weigh ∙ sym (sum_by-IsPermutation weigh handed handed' moved);
        size = omega (arith, closed.size, length_permutation handed handed' moved);
      };
    }

-- calls and further calls, where as much is known as in both
pub closed_more : (problem : WeightedSum) (one other key : Incumbent) (nodes handed nodes' handed' : List Node) (count count' : ℕ) → KnowsMore one key → KnowsMore other key → AreClosed problem one nodes handed count → AreClosed problem other nodes' handed' count' → AreClosed problem key (nodes ++ nodes') (handed ++ handed') (count + count')
closed_more problem one other key nodes handed nodes' handed' count count' up up' closed closed' =
    let ts = closed.tallies in
    let us = closed'.tallies in
    record {
      tallies = ts ++ us;
      each = λ place tally at. each_at (IsTally problem key) (ts ++ us) place tally (each_append (IsTally problem key) ts us (known one up ts closed.each) (known other up' us closed'.each)) at;
      called = λ weigh. omega (arith, sum_by-append (λ (t : Tally). weigh t.node) ts us, sum_by-append weigh nodes nodes', closed.called weigh, closed'.called weigh);
      passed = λ weigh. omega (arith, sum_by-append (λ (t : Tally). sum_by weigh (handed_by problem t)) ts us, sum_by-append weigh handed handed', closed.passed weigh, closed'.passed weigh);
      size = omega (arith, sum_by-append (λ (t : Tally). part_size t.part) ts us, length-append handed handed', closed.size, closed'.size);
    }
  where
    tally_known : (low : Incumbent) → KnowsMore low key → (tally : Tally) → IsTally problem low tally → IsTally problem key tally
    tally_known low up tally is = record { node = is.node; is = raised problem low key up tally.node tally.part is.is; here = is.here }

    known : (low : Incumbent) → KnowsMore low key → (tallies : List Tally) → ((place : ℕ) (tally : Tally) → slice_get tallies place ≡ Some tally → IsTally problem low tally) → Each (IsTally problem key) tallies
    known low up tallies each = each_weaker (IsTally problem low) (IsTally problem key) (tally_known low up) tallies (each_from (IsTally problem low) tallies each)

-- a length as a sum
ones : {X : Type 0} (xs : List X) → sum_by (λ x. 1) xs ≡ length xs
ones [] = refl
ones {X} (x ∷ xs) = omega (arith, sum_by-cons (λ (y : X). 1) x xs, ones xs)

handed_ones : (problem : WeightedSum) (tallies : List Tally) → sum_by (λ tally. sum_by (λ node. 1) (handed_by problem tally)) tallies ≡ sum_by (λ tally. length (handed_by problem tally)) tallies
handed_ones problem [] = refl
handed_ones problem (tally ∷ tallies) =
    omega (
      arith,
      sum_by-cons (λ (t : Tally). sum_by (λ (n : Node). 1) (handed_by problem t)) tally tallies,
      sum_by-cons (λ (t : Tally). length (handed_by problem t)) tally tallies,
      ones (handed_by problem tally),
      handed_ones problem tallies,
    )

-- a worker went on, and then further
pub went_more : (problem : WeightedSum) (nodes handed nodes' handed' : List Node) (old mid new : Worker) → WentOn problem nodes handed old mid → WentOn problem nodes' handed' mid new → WentOn problem (nodes ++ nodes') (handed ++ handed') old new
went_more problem nodes handed nodes' handed' old mid new went went' =
    record {
      at_word = went'.at_word ∙ went.at_word;
      scout = went'.scout ∙ ap (λ m. (record m.0 { low = new.scout.me.0.low }, m.1)) went.scout;
      later = λ key out. went'.later key (went.later key out);
      owned = λ owned. went'.owned (went.owned owned);
      count = went.count + went'.count;
      wraps = went.wraps + went'.wraps;
      counted = omega (arith, went.counted, went'.counted);
      closed = closed_more problem (knows_of mid) (knows_of new) (knows_of new) nodes handed nodes' handed' went.count went'.count went'.later (λ key out. out) went.closed went'.closed;
    }

-- the whole tree was searched, so no point has a greater key
pub record Searched (problem : WeightedSum) (key : Incumbent) (count : ℕ) : Type 0 where
  pub all : IsSearched problem key count
  pub most : (p : Point) → IsTrue (is_point problem.axes p) → Outdoes key (key_at problem p)

-- calls searched it together, where their nodes are the root and what they handed on
pub searched : (problem : WeightedSum) → IsProblem problem → (key : Incumbent) (nodes handed : List Node) (count : ℕ) → ((weigh : Node → ℕ) → sum_by weigh nodes ≡ sum_by weigh (root_of problem ∷ []) + sum_by weigh handed) → AreClosed problem key nodes handed count → Searched problem key count
searched problem h key nodes handed count linked closed =
    by (whole problem h key closed.tallies (each_from (IsTally problem key) closed.tallies closed.each) (λ weigh. closed.called weigh ∙ (linked weigh ∙ ap (λ n. sum_by weigh (root_of problem ∷ []) + n) (sym (closed.passed weigh)))))
  where
    by : IsWholeTree problem key closed.tallies → Searched problem key count
    by whole =
        record {
          all = record { part = whole.part; is = whole.is; none = whole.none; size = omega (arith, whole.size, closed.size, closed.passed (λ n. 1), ones handed, handed_ones problem closed.tallies) };
          most = whole.most;
        }

-- a count modulo 2^64, and how often it went round
pub counted_on : (old count : ℕ) → old + count ≡ (old + count) % 2 ^ 64 + ((old + count) / 2 ^ 64) * 2 ^ 64
counted_on old count = omega arith
