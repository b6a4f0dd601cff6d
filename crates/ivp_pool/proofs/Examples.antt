-- Worked examples of parts, in the tree of the worked problem: its root has one child, which has two leaves.
use Rattle.std.proofs.Common.{◌≡◌, ℕ, ◌+◌, ◌-◌, ◌^◌, ◌≤◌, inl, inr, true, false, Option, Some, None, List, [], ◌∷◌, length, refl, sym, ap, subst, arith}
use Rattle.std.specs.Prelude.{IsTrue}
use Rattle.std.specs.List.{sum_by}
use Rattle.std.proofs.lemmas.List.Sums.{sum_by-cons}
use Rattle.atomic_table.specs.Seated.{TableId}
use Rattle.atomic_table.specs.Table.{Me}
use Rattle.best_word.specs.declared.best.View.{View}
use Rattle.ivp_domain.specs.Boxes.{has_point, point_from}
use Rattle.ivp_domain.specs.Domains.{is_point}
use Rattle.ivp_problem.specs.declared.node.Node.{Node}
use Rattle.ivp_problem.specs.declared.key.Key.{Key}
use Rattle.ivp_problem.specs.Found.{IsOwnKey}
use Rattle.ivp_problem.specs.Keys.{key_of}
use Rattle.ivp_problem.specs.Sums.{key_at}
use Rattle.ivp_problem.specs.Trees.{IsNode, has_in, root_of}
use Rattle.ivp_problem.proofs.Examples.{first, left, twelve, two, two_is_lawful}
use Rattle.ivp_problem.proofs.KeyOrder.{at_most_sum, best_most}
use Rattle.ivp_pool.specs.declared.team.Worker.{Worker}
use Rattle.ivp_pool.specs.Closing.{AreCovered, Closed, Pushed}
use Rattle.ivp_pool.specs.Solving.{AreClosed, IsNew, IsSearched, IsWorker, knows_of, total_of, WentOn}
use Rattle.ivp_pool.proofs.Gluing.{whole}
use Rattle.ivp_pool.proofs.Growing.{closed_covers}
use Rattle.ivp_pool.proofs.Teams.{closed_one, searched}
use Rattle.ivp_pool.specs.Tallies.{AreLinked, IsTally, IsWholeTree, Tally}
use Rattle.ivp_pool.specs.Parts.{Done, Handed, handed_in, handed_within, IsPart, Incumbent, KnowsMore, knows_only, Outdoes, TreePart, Pruned, part_size, Expanded, Then}

-- who found the best key, the other leaf's, or one that is just less than the best; who knows the best sum alone; and who knows nothing
abbrev best : Incumbent
best = knows_only (key_of 75 2)

abbrev second : Incumbent
second = record { low = 55; own = Some (key_of 55 10) }

abbrev short_of_best : Incumbent
short_of_best = knows_only (key_of 75 3)

abbrev best_sum : Incumbent
best_sum = record { low = 75; own = None }

abbrev nothing : Incumbent
nothing = record { low = 0; own = None }

-- the best key outdoes itself and the other leaf's bound, and the root's bound isn't outdone; the best sum alone outdoes the other leaf's bound, but not the equal sum at any index
outdone : Outdoes best (key_of 75 2) × Outdoes best (key_of 55 10) × Outdoes second (key_of 55 10) × Outdoes best_sum (key_of 55 10)
outdone = (inr (inr (refl, omega arith)), inr (inl (omega arith)), inr (inr (refl, omega arith)), inl (omega arith))

equal_sum_wanted : (index : ℕ) → Outdoes best_sum (key_of 75 index) → ⊥
equal_sum_wanted index (inl less) = omega (arith, less)
equal_sum_wanted index (inr reach) = reach

just_short : Outdoes short_of_best (key_of 75 2) → ⊥
just_short (inl less) = omega (arith, less)
just_short (inr (inl less)) = omega (arith, less)
just_short (inr (inr same)) = omega (arith, same.1)

root_wanted : Outdoes best (key_of 115 0) → ⊥
root_wanted (inl less) = omega (arith, less)
root_wanted (inr (inl less)) = omega (arith, less)
root_wanted (inr (inr same)) = omega (arith, same.0)

-- the root and its child are split, and both leaves are pruned: the first has the best point, of sum 75 at index 2
abbrev all_here : TreePart
all_here = Expanded (Then (Expanded (Then Pruned (Then Pruned Done))) Done)

all_here_is_one : IsPart two best (root_of two) all_here
all_here_is_one = (omega arith, ((omega arith, (outdone.0, (outdone.1, tt))), tt))

all_here_has_four : (part_size all_here ≡ 4) × (handed_within two (root_of two) all_here ≡ [])
all_here_has_four = (refl, refl)

-- the first leaf goes to others, so the second's bound, 55 at index 10, is enough to know
abbrev one_handed : TreePart
one_handed = Expanded (Then (Expanded (Then Handed (Then Pruned Done))) Done)

one_handed_is_one : IsPart two second (root_of two) one_handed
one_handed_is_one = (omega arith, ((omega arith, (tt, (outdone.2, tt))), tt))

one_handed_has_left : (part_size one_handed ≡ 4) × (handed_within two (root_of two) one_handed ≡ left ∷ [])
one_handed_has_left = (refl, refl)

-- an expanded node has a part for each of its children
one_child_too_few : IsPart two best (root_of two) (Expanded (Then (Expanded (Then Pruned Done)) Done)) → ⊥
one_child_too_few is = is.1.0.1.1

-- and a node whose bound is above what is known is not pruned
too_little_known : IsPart two short_of_best (root_of two) all_here → ⊥
too_little_known is = just_short is.1.0.1.0

-- two calls: the first hands the first leaf on, and the second finds the best point there
abbrev calls : List Tally
calls = record { node = root_of two; part = one_handed } ∷ record { node = left; part = Pruned } ∷ []

calls_are_linked : AreLinked two (root_of two ∷ []) calls
calls_are_linked = λ weigh. omega arith

first_call : IsTally two best (record { node = root_of two; part = one_handed })
first_call = record { node = record { path = []; reached = refl }; is = (omega arith, ((omega arith, (tt, (outdone.1, tt))), tt)); here = λ same. absurd (cc) }

-- a node that nobody took up is not linked, and who hands its own node on makes no part of it
taken_up_by_nobody : AreLinked two (root_of two ∷ []) (record { node = root_of two; part = one_handed } ∷ []) → ⊥
taken_up_by_nobody are = omega (arith, are (λ node. 1))

handed_itself : IsTally two best (record { node = left; part = Handed }) → ⊥
handed_itself is = is.here refl

-- so the part that they make together has the four nodes of the tree
calls_have_four : IsWholeTree two best calls → (whole : TreePart) × (part_size whole ≡ 4)
calls_have_four whole = let size = whole.size in (whole.part, omega arith)

-- a search of the whole tree closes four nodes
four_closed : IsSearched two best 4
four_closed = record { part = all_here; is = all_here_is_one; none = refl; size = refl }

-- and with the best key known every search of it closes just four: the root and its child can't be pruned
child_has_three : (part : TreePart) → IsPart two best first part → handed_in two (first ∷ []) (Then part Done) ≡ [] → part_size part ≡ 3
child_has_three Pruned is none = absurd (root_wanted is)
child_has_three Handed is none = absurd (cc)
child_has_three (Expanded Done) is none = absurd is.1
child_has_three (Expanded (Then Handed parts)) is none = absurd (cc)
child_has_three (Expanded (Then (Expanded below) parts)) is none = absurd (omega (arith, is.1.0.0))
child_has_three (Expanded (Then Pruned Done)) is none = absurd is.1.1
child_has_three (Expanded (Then Pruned (Then Handed parts))) is none = absurd (cc)
child_has_three (Expanded (Then Pruned (Then (Expanded below) parts))) is none = absurd (omega (arith, is.1.1.0.0))
child_has_three (Expanded (Then Pruned (Then Pruned Done))) is none = refl
child_has_three (Expanded (Then Pruned (Then Pruned (Then part parts)))) is none = absurd is.1.1.1

root_has_four : (part : TreePart) → IsPart two best (root_of two) part → handed_within two (root_of two) part ≡ [] → part_size part ≡ 4
root_has_four Pruned is none = absurd (root_wanted is)
root_has_four Handed is none = absurd (cc)
root_has_four (Expanded Done) is none = absurd is.1
root_has_four (Expanded (Then part Done)) is none = omega (arith, child_has_three part is.1.0 none)
root_has_four (Expanded (Then part (Then other parts))) is none = absurd is.1.1

always_four : (count : ℕ) → IsSearched two best count → count ≡ 4
always_four count is = omega (arith, is.size, root_has_four is.part is.is is.none)

-- a node that a tray took, and one that came back
pushes : Pushed [] (left ∷ []) left None × Pushed [] [] left (Some left)
pushes = (refl, (refl, refl))

-- but none is lost, and no other comes back
push_lost : Pushed [] [] left None → ⊥
push_lost is = cc

other_back : Pushed [] [] left (Some (root_of two)) → ⊥
other_back is = omega (arith, ap (λ (node : Node). node.depth) is.0)

-- the first call: three nodes were closed, and the first leaf was taken
closed_three : Closed two second [] (left ∷ []) (root_of two) 3
closed_three = record { part = one_handed; is = one_handed_is_one; here = λ same. absurd (cc); taken = refl; counted = refl }

-- two workers closed two nodes and three
closed_five : total_of (record { closed = 2 } ∷ record { closed = 3 } ∷ []) ≡ 5
closed_five = refl

-- where the best key is known every point is covered, and the points of a node that was handed on are whatever is known
all_covered : AreCovered two best [] [] (is_point twelve)
all_covered = ([], refl, λ p inside. inl (inr (best_most two p inside)))

left_covered : AreCovered two nothing [] (left ∷ []) (has_point left.area)
left_covered = (left ∷ [], refl, λ p here. inr (rw here refl))

-- but not where the best key isn't outdone, and nothing was handed on
less_known : (known : Incumbent) → (Outdoes known (key_of 75 2) → ⊥) → AreCovered two known [] [] (is_point twelve) → ⊥
less_known known wanted is =
    elim (is.2 (point_from 0 1 0 0) refl) [
      | inl out ↦ wanted out
      | inr handed ↦ let taken : is.0 ≡ [] = sym is.1 in let none : false ≡ true = subst (λ nodes. IsTrue (has_in nodes (point_from 0 1 0 0))) taken handed in cc
    ]

-- so no call closes the root with all below it so early, and no search does
root_is_a_node : IsNode two (root_of two)
root_is_a_node = record { path = []; reached = refl }

closed_early : Closed two short_of_best [] [] (root_of two) 4 → ⊥
closed_early is = less_known short_of_best just_short (closed_covers two short_of_best [] [] (root_of two) 4 two_is_lawful root_is_a_node is)

searched_early : IsSearched two short_of_best 4 → ⊥
searched_early is = less_known short_of_best just_short (closed_covers two short_of_best [] [] (root_of two) 4 two_is_lawful root_is_a_node closed)
  where
    closed : Closed two short_of_best [] [] (root_of two) 4
    closed =
        record {
          part = is.part;
          is = is.is;
          here = λ handed. let none : handed_within two (root_of two) Handed ≡ [] = subst (λ part. handed_within two (root_of two) part ≡ []) handed is.none in absurd (cc);
          taken = sym is.none;
          counted = omega (arith, ap length is.none, is.size);
        }

-- the two calls are together the whole tree, and not while one key less is known
second_call : IsTally two best (record { node = left; part = Pruned })
second_call = record { node = record { path = 0 ∷ 0 ∷ []; reached = refl }; is = outdone.0; here = λ same. absurd (cc) }

calls_are_whole : IsWholeTree two best calls
calls_are_whole = whole two two_is_lawful best calls (first_call, (second_call, tt)) calls_are_linked

whole_early : IsWholeTree two short_of_best calls → ⊥
whole_early is = just_short (is.most (point_from 0 1 0 0) refl)

-- one call, which hands the first leaf on, and so closed three nodes
called_once : AreClosed two second (root_of two ∷ []) (left ∷ []) 3
unfolding closed_three
called_once = closed_one two second [] (left ∷ []) (root_of two) 3 root_is_a_node closed_three

-- where nobody was called, no node was closed, and none was handed on
idle : AreClosed two nothing [] [] 0
idle = record { tallies = []; each = λ place tally here. absurd (cc); called = λ weigh. refl; passed = λ weigh. refl; size = refl }

closed_by_nobody : (known : Incumbent) (nodes : List Node) (count : ℕ) → AreClosed two known [] nodes count → count ≡ 0
closed_by_nobody known nodes count is = none_at is.tallies (is.called (λ node. 1)) is.size
  where
    none_at : (tallies : List Tally) → sum_by (λ (tally : Tally). 1) tallies ≡ 0 → count + length nodes ≡ sum_by (λ (tally : Tally). part_size tally.part) tallies → count ≡ 0
    none_at [] none size = omega (arith, size)
    none_at (tally ∷ tallies) none size = absurd (omega (arith, none, sum_by-cons (λ (tally : Tally). 1) tally tallies))

-- a call closes its own node, if no other
closed_nothing : (known : Incumbent) → AreClosed two known (root_of two ∷ []) [] 0 → ⊥
closed_nothing known is = at_least is.tallies (is.called (λ node. 1)) is.size
  where
    own : (part : TreePart) → 1 ≤ part_size part
    own Pruned = omega arith
    own Handed = omega arith
    own (Expanded parts) = omega arith

    at_least : (tallies : List Tally) → sum_by (λ (tally : Tally). 1) tallies ≡ 1 → 0 ≡ sum_by (λ (tally : Tally). part_size tally.part) tallies → ⊥
    at_least [] one size = omega arith
    at_least (tally ∷ tallies) one size = omega (arith, sum_by-cons (λ (tally : Tally). part_size tally.part) tally tallies, own tally.part)

-- and no calls close the whole tree so early
all_closed_early : AreClosed two short_of_best (root_of two ∷ []) [] 4 → ⊥
all_closed_early is =
    let searched = searched two two_is_lawful short_of_best (root_of two ∷ []) [] 4 (λ weigh. omega arith) is in
    just_short (searched.most (point_from 0 1 0 0) refl)

-- a worker at this word by the sum that it knows, the key that it found, its calls, and the nodes that they closed
abbrev word : TableId
word = record { words = 1; slots = 0; views_name = 0; atom = 0; block = 0; offset = 0; slot_names = [] }

abbrev worker : ℕ → Option Key → ℕ → ℕ → Worker
worker low own called closed =
    record {
      scout = record { marker = record {}; table_id = word; id = 0; me = (record { about = Some two; low = low }, []) };
      own = record { key = own };
      calls = called;
      work = record { closed = closed };
    }

knows_second : knows_of (worker 55 (Some (key_of 55 10)) 1 3) ≡ second
knows_second = refl

-- a new one has made no call, knows nothing and found nothing
new_worker : IsNew two word (worker 0 None 0 0)
new_worker = record { at_word = refl; scout = refl; none = refl; calls = refl; closed = refl }

knows_already : IsNew two word (worker 7 None 0 0) → ⊥
knows_already is = omega (arith, ap (λ (me : Me (Unit {0}) View). me.0.low) is.scout)

found_already : IsNew two word (worker 0 (Some (key_of 55 10)) 0 0) → ⊥
found_already is = let none = is.none in cc

called_already : IsNew two word (worker 0 None 1 0) → ⊥
called_already is = omega (arith, is.calls)

closed_already : IsNew two word (worker 0 None 0 3) → ⊥
closed_already is = omega (arith, is.closed)

-- later it is still one of the problem at its word, and at no other, and what it found is the key of a point
last_point : IsOwnKey two (Some (key_of 55 10))
last_point = inr (point_from 2 1 0 0, refl, refl)

some_worker : IsWorker two word (worker 55 (Some (key_of 55 10)) 1 3)
some_worker = record { at_word = refl; about = refl; empty = refl; owned = last_point }

other_word : IsWorker two (record word { atom = 1 }) (worker 7 None 1 3) → ⊥
other_word is = omega (arith, ap (λ (table : TableId). table.atom) is.at_word)

found_no_point : IsWorker two word (worker 0 (Some (key_of 76 0)) 1 3) → ⊥
found_no_point is = by is.owned
  where
    by : IsOwnKey two (Some (key_of 76 0)) → ⊥
    by (inl none) = cc
    by (inr (p, inside, own)) =
        let same : key_of 76 0 ≡ key_at two p = cc in
        omega (arith, at_most_sum (key_at two p) (key_of 75 2) (best_most two p inside), ap (λ (key : Key). key.sum) same)

-- its first call closed three nodes, and it didn't forget what it knew or found; the count of closed nodes goes round at 2^64, and counts nothing more
first_known : KnowsMore nothing second
first_known key (inl less) = absurd (omega (arith, less))
first_known key (inr reach) = absurd reach

went_on : WentOn two (root_of two ∷ []) (left ∷ []) (worker 0 None 0 0) (worker 55 (Some (key_of 55 10)) 1 3)
went_on = record { at_word = refl; scout = refl; later = first_known; owned = λ _. last_point; count = 3; wraps = 0; counted = refl; closed = called_once }

went_round : WentOn two (root_of two ∷ []) (left ∷ []) (worker 0 None 0 (2 ^ 64 - 1)) (worker 55 (Some (key_of 55 10)) 1 2)
went_round = record { at_word = refl; scout = refl; later = first_known; owned = λ _. last_point; count = 3; wraps = 1; counted = omega arith; closed = called_once }

forgot : WentOn two [] [] (worker 7 None 0 0) (worker 6 None 0 0) → ⊥
forgot is = by (is.later (key_of 6 0) (inl (omega arith)))
  where
    by : Outdoes (record { low = 6; own = None }) (key_of 6 0) → ⊥
    by (inl less) = omega (arith, less)
    by (inr reach) = reach

forgot_its_own : WentOn two [] [] (worker 55 (Some (key_of 55 10)) 0 0) (worker 55 None 0 0) → ⊥
forgot_its_own is = by (is.later (key_of 55 10) (inr (inr (refl, omega arith))))
  where
    by : Outdoes (record { low = 55; own = None }) (key_of 55 10) → ⊥
    by (inl less) = omega (arith, less)
    by (inr reach) = reach

counted_without_a_call : WentOn two [] [] (worker 0 None 0 0) (worker 0 None 0 1) → ⊥
counted_without_a_call is = omega (arith, is.counted, closed_by_nobody nothing [] is.count is.closed)
