-- What members of a team did together: one step of one of them, all of them beside each other, and one after the other.
use Rattle.std.proofs.Common.{◌≡◌, ℕ, zero, suc, ◌+◌, ◌-◌, ◌<◌, ◌≤◌, List, [], ◌∷◌, ◌++◌, length, set, take, refl, sym, ap, ◌∙◌, subst, arith, add-zero}
use Rattle.std.specs.Prelude.{get_or}
use Rattle.std.specs.List.{sum_by}
use Rattle.std.proofs.lemmas.List.{append-nil, length-set, map_more}
use Rattle.std.proofs.lemmas.List.Elements.{All-from_recursion, All-set, All-tail, recursion_from_All}
use Rattle.std.proofs.lemmas.List.Sums.{sum_by-append, sum_by-cons, sum_by-set}
use Rattle.atomic_table.specs.Seated.{TableId}
use Rattle.ivp_problem.specs.declared.node.Node.{Node}
use Rattle.ivp_problem.specs.Problems.{WeightedSum}
use Rattle.ivp_pool.specs.declared.root.Child.{Child}
use Rattle.ivp_pool.specs.declared.team.Member.{Member}
use Rattle.ivp_pool.specs.declared.team.Worker.{Worker}
use Rattle.ivp_pool.specs.Hands.{EndState, IsSettled}
use Rattle.ivp_pool.specs.Members.{Did, put_by, put_in, taken_by, taken_in}
use Rattle.ivp_pool.specs.Parts.{Incumbent, KnowsMore}
use Rattle.ivp_pool.specs.Roots.{child_nodes}
use Rattle.ivp_pool.specs.Solving.{AreClosed, IsWorker, knows_of, WentOn}
use Rattle.ivp_pool.specs.Teams.{AllDid, AreBelow, AreWorkers, closed_in, deque_states, HasEmptied, door_rows, shape_of, shapes_of}
use Rattle.ivp_pool.proofs.Members.{put_more, took_one}
use Rattle.ivp_pool.proofs.Teams.{closed_more, closed_none}

-- a worker that went on is a worker
went_worker : (problem : WeightedSum) (word : TableId) (nodes handed : List Node) (old new : Worker) → WentOn problem nodes handed old new → IsWorker problem word old → IsWorker problem word new
went_worker problem word nodes handed old new went is = record { at_word = went.at_word ∙ is.at_word; about = ap (λ m. m.0.about) went.scout ∙ is.about; empty = ap (λ m. m.1) went.scout ∙ is.empty; owned = went.owned is.owned }

module _ {K : Type 0} (problem : WeightedSum) (word : TableId) where
  -- no call: only what the caller had in hand changed places with what stands in deques
  pub all_moved : (had left : List Node) (old new : List (Member K)) → length new ≡ length old → AreWorkers problem word new → closed_in new ≡ closed_in old → ((key : Incumbent) → AreBelow key new → AreBelow key old) → ((weigh : Node → ℕ) → sum_by weigh left + put_in weigh new + taken_in weigh old ≡ sum_by weigh had + taken_in weigh new + put_in weigh old) → AllDid problem word had left old new
  all_moved had left old new len workers closed below moved =
      record {
        nodes = [];
        handed = [];
        count = 0;
        wraps = 0;
        closed = λ key known. closed_none problem key;
        counted = omega (arith, closed);
        each_once = λ weigh. omega (arith, moved weigh);
        below = below;
        workers = workers;
        len = len;
      }

  pub all_none : (had : List Node) (members : List (Member K)) → AreWorkers problem word members → AllDid problem word had had members members
  all_none had members workers = all_moved had had members members refl workers refl (λ key below. below) (λ weigh. omega arith)

  -- one after the other
  pub all_more : (had mid left : List Node) (old now new : List (Member K)) → AllDid problem word had mid old now → AllDid problem word mid left now new → AllDid problem word had left old new
  all_more had mid left old now new one two =
      record {
        nodes = one.nodes ++ two.nodes;
        handed = one.handed ++ two.handed;
        count = one.count + two.count;
        wraps = one.wraps + two.wraps;
        closed = λ key known.
            closed_more problem key key key one.nodes one.handed two.nodes two.handed one.count two.count (λ k out. out) (λ k out. out) (one.closed key (two.below key known)) (two.closed key known);
        counted = omega (arith, one.counted, two.counted);
        each_once = λ weigh. omega (arith, one.each_once weigh, two.each_once weigh, sum_by-append weigh one.nodes two.nodes, sum_by-append weigh one.handed two.handed);
        below = λ key known. one.below key (two.below key known);
        workers = two.workers;
        len = two.len ∙ one.len;
      }

  -- of the children at hand the last one was done with
  pub last_done : (children : List Child) (count : ℕ) (d : Child) (old now new : List (Member K)) → 0 < count → count ≤ length children → AllDid problem word (child_nodes children) (child_nodes (take count children)) old now → AllDid problem word ((get_or children (count - 1) d).node ∷ child_nodes (take (count - 1) children)) (child_nodes (take (count - 1) children)) now new → AllDid problem word (child_nodes children) (child_nodes (take (count - 1) children)) old new
  last_done children count d old now new some within one two =
      let nodes = child_nodes children in
      let front = child_nodes (take count children) in
      let node = (get_or children (count - 1) d).node in
      let rest = child_nodes (take (count - 1) children) in
      let parts : front ≡ rest ++ node ∷ [] = subst (λ n. child_nodes (take n children) ≡ rest ++ node ∷ []) (omega (arith, some)) (map_more (λ (child : Child). child.node) children (count - 1) d (omega (arith, some, within))) in
      let first = all_moved front (node ∷ rest) now now refl one.workers refl (λ key below. below)
      (λ weigh. omega (arith, ap (sum_by weigh) parts, sum_by-append weigh rest (node ∷ []), sum_by-cons weigh node rest)) in
      all_more nodes (node ∷ rest) rest old now new (all_more nodes front (node ∷ rest) old now now one first) two

  -- one member changed
  below_set : (key : Incumbent) (members : List (Member K)) (place : ℕ) (d new : Member K) → place < length members → KnowsMore (knows_of (get_or members place d).worker) (knows_of new.worker) → AreBelow key (set members place new) → AreBelow key members
  below_set key [] place d new within later below = λ k e out. absurd (omega (arith, out))
  below_set key (member ∷ members) zero d new within later below =
      let here = below 0 new (omega arith) in
      let rest = All-tail (λ (m : Member K). KnowsMore (knows_of m.worker) key) new members below in
      All-from_recursion (λ (m : Member K). KnowsMore (knows_of m.worker) key) (member ∷ members) (λ k out. here k (later k out), recursion_from_All (λ (m : Member K). KnowsMore (knows_of m.worker) key) members rest)
  below_set key (member ∷ members) (suc place) d new within later below =
      let here = below 0 member (omega arith) in
      let rest = below_set key members place d new (omega (arith, within)) later (All-tail (λ (m : Member K). KnowsMore (knows_of m.worker) key) member (set members place new) below) in
      All-from_recursion (λ (m : Member K). KnowsMore (knows_of m.worker) key) (member ∷ members) (here, recursion_from_All (λ (m : Member K). KnowsMore (knows_of m.worker) key) members rest)

  -- one member made a call for a node in the caller's hand
  pub all_call_any : (node : Node) (left since : List Node) (members : List (Member K)) (place : ℕ) (d new : Member K) → place < length members → AreWorkers problem word members → WentOn problem (node ∷ []) since (get_or members place d).worker new.worker → new.deque ≡ (get_or members place d).deque → new.doors.items ≡ (get_or members place d).doors.items → AllDid problem word (node ∷ left) (since ++ left) members (set members place new)
  all_call_any node left since members place d new within workers went deque doors =
      let was = get_or members place d in
      record {
        nodes = node ∷ [];
        handed = since;
        count = went.count;
        wraps = went.wraps;
        closed = λ key known.
            let low = subst (λ (m : Member K). KnowsMore (knows_of m.worker) key) (get_or_set members place new d within) (known place d (omega (arith, within, length-set members place new))) in
            subst (λ (i : List Node × ℕ). AreClosed problem key (node ∷ []) i.0 i.1) (λ t. (append-nil since t, add-zero went.count t)) (closed_more problem (knows_of new.worker) key key (node ∷ []) since [] [] went.count 0 low (λ k out. out) went.closed (closed_none problem key));
        counted = omega (arith, sum_by-set (λ (m : Member K). m.worker.work.closed) members place new d within, went.counted);
        each_once = λ weigh.
            omega (
              arith,
              sum_by-append weigh since left,
              sum_by-cons weigh node left,
              sum_by-set (put_by weigh) members place new d within,
              sum_by-set (taken_by weigh) members place new d within,
              ap (λ (end : EndState). sum_by weigh end.hand.put) deque,
              ap (λ (end : EndState). sum_by weigh end.hand.taken) deque,
              ap (sum_by (λ (end : EndState). sum_by weigh end.hand.put)) doors,
              ap (sum_by (λ (end : EndState). sum_by weigh end.hand.taken)) doors,
            );
        below = λ key known. below_set key members place d new within went.later known;
        workers = All-set (λ (m : Member K). IsWorker problem word m.worker) members place new (went_worker problem word (node ∷ []) since was.worker new.worker went (workers place d within)) workers;
        len = length-set members place new;
      }
    where
      get_or_set : (ms : List (Member K)) (i : ℕ) (m e : Member K) → i < length ms → get_or (set ms i m) i e ≡ m
      get_or_set [] i m e out = absurd (omega (arith, out))
      get_or_set (x ∷ xs) zero m e out = refl
      get_or_set (x ∷ xs) (suc i) m e out = get_or_set xs i m e (omega (arith, out))

  pub all_call : (node : Node) (left since : List Node) (members : List (Member K)) (place : ℕ) (d new : Member K) → place < length members → AreWorkers problem word members → WentOn problem (node ∷ []) since (get_or members place d).worker new.worker → since ≡ [] → new.deque ≡ (get_or members place d).deque → new.doors.items ≡ (get_or members place d).doors.items → AllDid problem word (node ∷ left) left members (set members place new)
  all_call node left since members place d new within workers went none deque doors =
      subst (λ ns. AllDid problem word (node ∷ left) (ns ++ left) members (set members place new)) none (all_call_any node left since members place d new within workers went deque doors)

  -- something went through one member's deque, and no call was made
  pub all_through : (had left : List Node) (members : List (Member K)) (place : ℕ) (d new : Member K) → place < length members → AreWorkers problem word members → new.worker ≡ (get_or members place d).worker → ((weigh : Node → ℕ) → sum_by weigh left + put_by weigh new + taken_by weigh (get_or members place d) ≡ sum_by weigh had + taken_by weigh new + put_by weigh (get_or members place d)) → AllDid problem word had left members (set members place new)
  all_through had left members place d new within workers worker moved =
      let was = get_or members place d in
      all_moved had left members (set members place new) (length-set members place new)
      (All-set (λ (m : Member K). IsWorker problem word m.worker) members place new (subst (IsWorker problem word) (sym worker) (workers place d within)) workers)
      (omega (arith, sum_by-set (λ (m : Member K). m.worker.work.closed) members place new d within, ap (λ (w : Worker). w.work.closed) worker))
      (λ key known. below_set key members place d new within (subst (λ (w : Worker). KnowsMore (knows_of was.worker) (knows_of w)) (sym worker) (λ k out. out)) known)
      (λ weigh. omega (arith, moved weigh, sum_by-set (put_by weigh) members place new d within, sum_by-set (taken_by weigh) members place new d within))

  -- all members beside each other
  pub all_beside : (old new : List (Member K)) → length new ≡ length old → AreWorkers problem word old → ((i : ℕ) (d : Member K) → i < length old → Did problem (get_or old i d) (get_or new i d)) → AllDid problem word [] [] old new
  all_beside [] [] same workers did = all_none [] [] workers
  all_beside [] (x ∷ xs) same workers did = absurd (cc)
  all_beside (x ∷ xs) [] same workers did = absurd (cc)
  all_beside (old ∷ olds) (new ∷ news) same workers did =
      let first : Did problem old new = did 0 old (omega arith) in
      let went = first.went in
      let P : Member K → Type 0 = λ m. IsWorker problem word m.worker in
      let later = all_beside olds news (omega (arith, same)) (All-tail P old olds workers) (λ i d within. did (suc i) d (omega (arith, within))) in
      record {
        nodes = first.nodes ++ later.nodes;
        handed = first.handed ++ later.handed;
        count = went.count + later.count;
        wraps = went.wraps + later.wraps;
        closed = λ key known.
            closed_more problem (knows_of new.worker) key key first.nodes first.handed later.nodes later.handed went.count later.count (known 0 new (omega arith)) (λ k out. out) went.closed (later.closed key (All-tail (λ (m : Member K). KnowsMore (knows_of m.worker) key) new news known));
        counted = omega (arith, went.counted, later.counted, sum_by-cons (λ (m : Member K). m.worker.work.closed) old olds, sum_by-cons (λ (m : Member K). m.worker.work.closed) new news);
        each_once = λ weigh.
            omega (
              arith,
              first.put weigh,
              first.taken weigh,
              later.each_once weigh,
              sum_by-append weigh first.nodes later.nodes,
              sum_by-append weigh first.handed later.handed,
              sum_by-cons (put_by weigh) old olds,
              sum_by-cons (put_by weigh) new news,
              sum_by-cons (taken_by weigh) old olds,
              sum_by-cons (taken_by weigh) new news,
            );
        below = λ key known.
            All-from_recursion (λ (m : Member K). KnowsMore (knows_of m.worker) key) (old ∷ olds)
            (λ k out. known 0 new (omega arith) k (went.later k out), recursion_from_All (λ (m : Member K). KnowsMore (knows_of m.worker) key) olds (later.below key (All-tail (λ (m : Member K). KnowsMore (knows_of m.worker) key) new news known)));
        workers = All-from_recursion P (new ∷ news) (went_worker problem word first.nodes first.handed old.worker new.worker went (workers 0 old (omega arith)), recursion_from_All P news later.workers);
        len = same;
      }

  pub shapes_beside : (old new : List (Member K)) → length new ≡ length old → ((i : ℕ) (d : Member K) → i < length old → Did problem (get_or old i d) (get_or new i d)) → shapes_of new ≡ shapes_of old
  shapes_beside [] [] same did = refl
  shapes_beside [] (x ∷ xs) same did = absurd (cc)
  shapes_beside (x ∷ xs) [] same did = absurd (cc)
  shapes_beside (old ∷ olds) (new ∷ news) same did =
      let first : Did problem old new = did 0 old (omega arith) in
      let here : shape_of new ≡ shape_of old = (λ t. ((first.keeps.deque t, first.keeps.parts t), first.keeps.doors t)) in
      let rest = shapes_beside olds news (omega (arith, same)) (λ i d within. did (suc i) d (omega (arith, within))) in
      λ t. here t ∷ rest t

-- a deque from which nodes were taken, and no other changed
pub record Emptying (place : ℕ) (old new : List EndState) : Type 0 where
  pub end : EndState
  pub is : new ≡ set old place end
  pub parts : (d : EndState) → place < length old → end.hand.parts ≡ (get_or old place d).hand.parts

module _ {K : Type 0} where
  -- one member changed, and its shape stayed
  pub shapes_set : (members : List (Member K)) (place : ℕ) (d new : Member K) → shape_of new ≡ shape_of (get_or members place d) → shapes_of (set members place new) ≡ shapes_of members
  shapes_set [] place d new same = refl
  shapes_set (member ∷ members) zero d new same = ap (λ s. s ∷ shapes_of members) same
  shapes_set (member ∷ members) (suc place) d new same = ap (λ ss. shape_of member ∷ ss) (shapes_set members place d new same)

  pub rows_set : (members : List (Member K)) (place : ℕ) (d new : Member K) → new.doors.items ≡ (get_or members place d).doors.items → door_rows (set members place new) ≡ door_rows members
  rows_set [] place d new same = refl
  rows_set (member ∷ members) zero d new same = ap (λ s. s ∷ door_rows members) same
  rows_set (member ∷ members) (suc place) d new same = ap (λ ss. member.doors.items ∷ ss) (rows_set members place d new same)

  pub ends_set : (members : List (Member K)) (place : ℕ) (new : Member K) → deque_states (set members place new) ≡ set (deque_states members) place new.deque
  ends_set [] place new = refl
  ends_set (member ∷ members) zero new = refl
  ends_set (member ∷ members) (suc place) new = ap (λ ss. member.deque ∷ ss) (ends_set members place new)

  pub ends_same : (members : List (Member K)) (place : ℕ) (d new : Member K) → new.deque ≡ (get_or members place d).deque → deque_states (set members place new) ≡ deque_states members
  ends_same [] place d new same = refl
  ends_same (member ∷ members) zero d new same = ap (λ s. s ∷ deque_states members) same
  ends_same (member ∷ members) (suc place) d new same = ap (λ ss. member.deque ∷ ss) (ends_same members place d new same)

  -- a child that its deque took, one that came back
  pub dealt : (problem : WeightedSum) (word : TableId) (node : Node) (left : List Node) (members : List (Member K)) (place : ℕ) (d : Member K) (deque : EndState) → place < length members → AreWorkers problem word members → deque ≡ put_more (get_or members place d).deque (node ∷ []) → AllDid problem word (node ∷ left) left members (set members place (record (get_or members place d) { deque = deque }))
  dealt problem word node left members place d deque within workers is =
      let was = get_or members place d in
      all_through problem word (node ∷ left) left members place d (record was { deque = deque }) within workers refl
      (λ weigh. omega (arith, ap (λ (end : EndState). sum_by weigh end.hand.put) is, ap (λ (end : EndState). sum_by weigh end.hand.taken) is, sum_by-append weigh was.deque.hand.put (node ∷ []), sum_by-cons weigh node left))

  pub refused : (problem : WeightedSum) (word : TableId) (had : List Node) (members : List (Member K)) (place : ℕ) (d : Member K) (deque : EndState) → place < length members → AreWorkers problem word members → deque ≡ (get_or members place d).deque → AllDid problem word had had members (set members place (record (get_or members place d) { deque = deque }))
  refused problem word had members place d deque within workers is =
      let was = get_or members place d in
      all_through problem word had had members place d (record was { deque = deque }) within workers refl
      (λ weigh. omega (arith, ap (λ (end : EndState). sum_by weigh end.hand.put) is, ap (λ (end : EndState). sum_by weigh end.hand.taken) is))

  pub taken_out : (problem : WeightedSum) (word : TableId) (node : Node) (left : List Node) (members : List (Member K)) (place : ℕ) (d : Member K) (deque : EndState) → place < length members → AreWorkers problem word members → deque ≡ took_one (get_or members place d).deque node → AllDid problem word left (node ∷ left) members (set members place (record (get_or members place d) { deque = deque }))
  taken_out problem word node left members place d deque within workers is =
      let was = get_or members place d in
      all_through problem word left (node ∷ left) members place d (record was { deque = deque }) within workers refl
      (λ weigh. omega (arith, ap (λ (end : EndState). sum_by weigh end.hand.put) is, ap (λ (end : EndState). sum_by weigh end.hand.taken) is, sum_by-append weigh was.deque.hand.taken (node ∷ []), sum_by-cons weigh node left))

pub emptying_none : (place : ℕ) (ends : List EndState) → place < length ends → Emptying place ends ends
emptying_none place [] within = absurd (omega (arith, within))
emptying_none zero (end ∷ ends) within = record { end = end; is = refl; parts = λ d inside. refl }
emptying_none (suc place) (end ∷ ends) within =
    let more = emptying_none place ends (omega (arith, within)) in
    record { end = more.end; is = ap (λ rest. end ∷ rest) more.is; parts = λ d inside. more.parts d (omega (arith, inside)) }

set_twice : (ends : List EndState) (place : ℕ) (one two : EndState) → set (set ends place one) place two ≡ set ends place two
set_twice [] place one two = refl
set_twice (end ∷ ends) zero one two = refl
set_twice (end ∷ ends) (suc place) one two = ap (λ rest. end ∷ rest) (set_twice ends place one two)

at_set : (ends : List EndState) (place : ℕ) (one d : EndState) → place < length ends → get_or (set ends place one) place d ≡ one
at_set [] place one d within = absurd (omega (arith, within))
at_set (end ∷ ends) zero one d within = refl
at_set (end ∷ ends) (suc place) one d within = at_set ends place one d (omega (arith, within))

-- one node more was taken from it
pub emptying_more : (place : ℕ) (start now new : List EndState) (next d : EndState) → place < length start → Emptying place start now → new ≡ set now place next → next.hand.parts ≡ (get_or now place d).hand.parts → Emptying place start new
emptying_more place start now new next d within so_far is parts =
    let here : get_or now place d ≡ so_far.end = ap (λ ends. get_or ends place d) so_far.is ∙ at_set start place so_far.end d within in
    record {
      end = next;
      is = is ∙ (ap (λ ends. set ends place next) so_far.is ∙ set_twice start place so_far.end next);
      parts = λ e inside. parts ∙ (ap (λ (end : EndState). end.hand.parts) here ∙ so_far.parts e inside);
    }

-- where the worker found nothing more, it is empty
pub emptied : (place : ℕ) (start now : List EndState) (d : EndState) → place < length start → Emptying place start now → IsSettled (get_or now place d).hand → HasEmptied place start now
emptied place start now d within so_far settled =
    let here : get_or now place d ≡ so_far.end = ap (λ ends. get_or ends place d) so_far.is ∙ at_set start place so_far.end d within in
    record { end = so_far.end; is = so_far.is; settled = subst (λ (end : EndState). IsSettled end.hand) here settled; parts = so_far.parts }

module _ {K : Type 0} where
  pub ends_len : (members : List (Member K)) → length (deque_states members) ≡ length members
  ends_len [] = refl
  ends_len (member ∷ members) = ap suc (ends_len members)

  pub end_at : (members : List (Member K)) (place : ℕ) (d : Member K) → place < length members → get_or (deque_states members) place d.deque ≡ (get_or members place d).deque
  end_at [] place d within = refl
  end_at (member ∷ members) zero d within = refl
  end_at (member ∷ members) (suc place) d within = end_at members place d (omega (arith, within))
