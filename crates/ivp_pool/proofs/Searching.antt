-- How the parts of a search come together, from a new team to the whole tree.
use Rattle.std.proofs.Common.{◌≡◌, ℕ, suc, ◌+◌, ◌-◌, ◌*◌, ◌^◌, ◌<◌, ◌≤◌, inl, List, [], ◌∷◌, ◌++◌, length, map, set, refl, sym, ap, ◌∙◌, subst, arith}
use Rattle.std.specs.Prelude.{All, get_or}
use Rattle.std.specs.Global.{Global}
use Rattle.std.specs.List.{sum_by, AllByRecursion as Each}
use Rattle.std.proofs.lemmas.List.{append-nil}
use Rattle.std.proofs.lemmas.List.Elements.{All-from_recursion, recursion_from_All}
use Rattle.std.proofs.lemmas.List.Sums.{sum_by-append, sum_by-cons}
use Rattle.atomic_blocks.specs.Lent.{RowsId}
use Rattle.atomic_table.specs.Seated.{TableId}
use Rattle.ivp_problem.specs.declared.node.Node.{Node}
use Rattle.ivp_problem.specs.Problems.{IsProblem, WeightedSum}
use Rattle.ivp_problem.specs.Trees.{IsNode, root_of}
use Rattle.ivp_pool.specs.declared.team.Member.{Member}
use Rattle.ivp_pool.specs.declared.team.Worker.{Worker}
use Rattle.ivp_pool.specs.Hands.{EndState}
use Rattle.ivp_pool.specs.Members.{deques_of, doors_of, first_parts, IsNewMember, new_door, put_by, put_in, tag_of, taken_by, taken_in, workers_of}
use Rattle.ivp_pool.specs.Parts.{Incumbent, KnowsMore}
use Rattle.ivp_pool.specs.Solving.{IsNew, IsWorker, knows_of, WentOn}
use Rattle.ivp_pool.specs.Teams.{AllDid, AreBelow, AreWorkers, closed_in, shape_of, shapes_of}
use Rattle.ivp_pool.proofs.Standing.{Stands}
use Rattle.ivp_pool.proofs.Teams.{closed_more, searched, Searched}
use Rattle.ivp_pool.proofs.Weights.{few_weight, size_most}
use Rattle.ivp_pool.proofs.Whole.{all_call_any, all_moved}

-- a new worker is a worker
pub new_worker : (problem : WeightedSum) (word : TableId) (worker : Worker) → IsNew problem word worker → IsWorker problem word worker
new_worker problem word worker new = record { at_word = new.at_word; about = ap (λ m. m.0.about) new.scout; empty = ap (λ m. m.1) new.scout; owned = inl new.none }

-- the whole tree isn't large
root_few : (problem : WeightedSum) → IsProblem problem → (key : Incumbent) (count : ℕ) → Searched problem key count → count ≤ 65 * 2 ^ 28
root_few problem h key count all =
    let root : IsNode problem (root_of problem) = record { path = []; reached = refl } in
    let stands : Stands problem 0 64 (root_of problem) = record { is = root; deep = omega arith; most = omega (arith, h.few) } in
    omega (arith, size_most problem h key 0 64 (root_of problem) all.all.part stands all.all.is, few_weight problem (root_of problem) h, all.all.size)

-- one worker alone searched it: it closed the root, and then the root's children
pub searched_alone : (problem : WeightedSum) → IsProblem problem → (key : Incumbent) (nodes : List Node) (start mid new : Worker) → start.work.closed ≡ 0 → WentOn problem (root_of problem ∷ []) nodes start mid → WentOn problem nodes [] mid new → KnowsMore (knows_of new) key → Searched problem key new.work.closed
searched_alone problem h key nodes start mid new none one two up =
    let root : Node = root_of problem in
    let closed = closed_more problem (knows_of mid) (knows_of new) key (root ∷ []) nodes nodes [] one.count two.count (λ k out. up k (two.later k out)) up one.closed two.closed in
    let all = searched problem h key (root ∷ nodes) (nodes ++ []) (one.count + two.count) (λ weigh. omega (arith, sum_by-cons weigh root nodes, sum_by-cons weigh root [], sum_by-append weigh nodes [])) closed in
    let few = root_few problem h key (one.count + two.count) all in
    let same : one.count + two.count ≡ new.work.closed = omega (arith, one.counted, two.counted, none, few) in
    subst (Searched problem key) same all

-- new doors, by tag
door_tags : (deques : List (RowsId × Global)) → map tag_of (map new_door deques) ≡ first_parts deques
door_tags [] = refl
door_tags (deque ∷ deques) = ap (λ tags. (deque, 1) ∷ tags) (door_tags deques)

door_sums : (weigh : Node → ℕ) (deques : List (RowsId × Global)) → (sum_by (λ (end : EndState). sum_by weigh end.hand.put) (map new_door deques) ≡ 0) × (sum_by (λ (end : EndState). sum_by weigh end.hand.taken) (map new_door deques) ≡ 0)
door_sums weigh [] = (refl, refl)
door_sums weigh (deque ∷ deques) =
    let more = door_sums weigh deques in (
      omega (arith, sum_by-cons (λ (end : EndState). sum_by weigh end.hand.put) (new_door deque) (map new_door deques), more.0),
      omega (arith, sum_by-cons (λ (end : EndState). sum_by weigh end.hand.taken) (new_door deque) (map new_door deques), more.1),
    )

module _ {K : Type 0} (problem : WeightedSum) (word : TableId) where
  pub new_workers : (out : ℕ) (members : List (Member K)) → All (IsNewMember problem word out) members → AreWorkers problem word members
  new_workers out members new = λ k d within. new_worker problem word (get_or members k d).worker (new k d within).worker

  -- nothing went through new doors, and no new worker closed a node
  pub new_even : (out : ℕ) (deques : List (RowsId × Global)) (members : List (Member K)) → Each (IsNewMember problem word out) members → Each (λ member. member.doors.items ≡ map new_door deques) members → (closed_in members ≡ 0) × ((weigh : Node → ℕ) → put_in weigh members ≡ taken_in weigh members)
  new_even out deques [] new doors = (refl, λ weigh. refl)
  new_even out deques (member ∷ members) new doors =
      let more = new_even out deques members new.1 doors.1 in (
        omega (arith, sum_by-cons (λ (m : Member K). m.worker.work.closed) member members, new.0.worker.closed, more.0),
        λ weigh.
            let sums = door_sums weigh deques in
            omega (
              arith,
              sum_by-cons (put_by weigh) member members,
              sum_by-cons (taken_by weigh) member members,
              more.1 weigh,
              ap (λ h. sum_by weigh h.put) new.0.hand,
              ap (λ h. sum_by weigh h.taken) new.0.hand,
              ap (sum_by (λ (end : EndState). sum_by weigh end.hand.put)) doors.0,
              ap (sum_by (λ (end : EndState). sum_by weigh end.hand.taken)) doors.0,
              sums.0,
              sums.1,
            ),
      )

  -- the same workers, and as much put and taken
  pub back_did : (old new : List (Member K)) → workers_of new ≡ workers_of old → ((weigh : Node → ℕ) → put_in weigh new ≡ put_in weigh old) → ((weigh : Node → ℕ) → taken_in weigh new ≡ taken_in weigh old) → AreWorkers problem word old → AllDid problem word [] [] old new
  back_did old new same put taken workers =
      all_moved problem word [] [] old new (len old new same)
      (All-from_recursion (λ (m : Member K). IsWorker problem word m.worker) new (moves (IsWorker problem word) old new same (recursion_from_All (λ (m : Member K). IsWorker problem word m.worker) old workers)))
      (closed old new same)
      (λ key below. All-from_recursion (λ (m : Member K). KnowsMore (knows_of m.worker) key) old (moves (λ (w : Worker). KnowsMore (knows_of w) key) new old (sym same) (recursion_from_All (λ (m : Member K). KnowsMore (knows_of m.worker) key) new below)))
      (λ weigh. omega (arith, put weigh, taken weigh))
    where
      len : (xs ys : List (Member K)) → workers_of ys ≡ workers_of xs → length ys ≡ length xs
      len [] [] e = refl
      len [] (y ∷ ys) e = absurd (cc)
      len (x ∷ xs) [] e = absurd (cc)
      len (x ∷ xs) (y ∷ ys) e = let rest : workers_of ys ≡ workers_of xs = cc in ap suc (len xs ys rest)

      moves : (P : Worker → Type 0) (xs ys : List (Member K)) → workers_of ys ≡ workers_of xs → Each (λ m. P m.worker) xs → Each (λ m. P m.worker) ys
      moves P [] [] e each = tt
      moves P [] (y ∷ ys) e each = absurd (cc)
      moves P (x ∷ xs) [] e each = tt
      moves P (x ∷ xs) (y ∷ ys) e each =
          let here : y.worker ≡ x.worker = cc in
          let rest : workers_of ys ≡ workers_of xs = cc in
          (subst P (sym here) each.0, moves P xs ys rest each.1)

      closed : (xs ys : List (Member K)) → workers_of ys ≡ workers_of xs → closed_in ys ≡ closed_in xs
      closed [] [] e = refl
      closed [] (y ∷ ys) e = absurd (cc)
      closed (x ∷ xs) [] e = absurd (cc)
      closed (x ∷ xs) (y ∷ ys) e =
          let here : y.worker ≡ x.worker = cc in
          let rest : workers_of ys ≡ workers_of xs = cc in
          omega (arith, sum_by-cons (λ (m : Member K). m.worker.work.closed) x xs, sum_by-cons (λ (m : Member K). m.worker.work.closed) y ys, ap (λ (w : Worker). w.work.closed) here, closed xs ys rest)

  -- the root was closed by the first member
  pub root_did : (nodes : List Node) (members : List (Member K)) (d : Member K) (worker : Worker) → 0 < length members → AreWorkers problem word members → WentOn problem (root_of problem ∷ []) nodes (get_or members 0 d).worker worker → AllDid problem word (root_of problem ∷ []) nodes members (set members 0 (record (get_or members 0 d) { worker = worker }))
  root_did nodes members d worker some workers went =
      subst (λ ns. AllDid problem word (root_of problem ∷ []) ns members (set members 0 (record (get_or members 0 d) { worker = worker }))) (append-nil nodes)
      (all_call_any problem word (root_of problem) [] nodes members 0 d (record (get_or members 0 d) { worker = worker }) some workers went refl refl)

  -- what all calls closed together is the whole tree
  pub searched_by : IsProblem problem → (key : Incumbent) (start new : List (Member K)) → AllDid problem word (root_of problem ∷ []) [] start new → closed_in start ≡ 0 → ((weigh : Node → ℕ) → put_in weigh start ≡ taken_in weigh start) → ((weigh : Node → ℕ) → put_in weigh new ≡ taken_in weigh new) → AreBelow key new → Searched problem key (closed_in new)
  searched_by h key start new did none even settled below =
      let all = searched problem h key did.nodes did.handed did.count (λ weigh. omega (arith, did.each_once weigh, even weigh, settled weigh)) (did.closed key below) in
      let few = root_few problem h key did.count all in
      let same : did.count ≡ closed_in new = omega (arith, did.counted, none, few) in
      subst (Searched problem key) same all

tags_len : (ends : List EndState) → length (map tag_of ends) ≡ length ends
tags_len [] = refl
tags_len (end ∷ ends) = ap suc (tags_len ends)

parts_len : (deques : List (RowsId × Global)) → length (first_parts deques) ≡ length deques
parts_len [] = refl
parts_len (deque ∷ deques) = ap suc (parts_len deques)

module _ {K : Type 0} where
  deques_len : (members : List (Member K)) → length (deques_of members) ≡ length members
  deques_len [] = refl
  deques_len (member ∷ members) = ap suc (deques_len members)

  shape_deques : (old new : List (Member K)) → shapes_of new ≡ shapes_of old → deques_of new ≡ deques_of old
  shape_deques [] [] e = refl
  shape_deques [] (y ∷ ys) e = absurd (cc)
  shape_deques (x ∷ xs) [] e = absurd (cc)
  shape_deques (x ∷ xs) (y ∷ ys) e =
      let here : shape_of y ≡ shape_of x = cc in
      let rest : shapes_of ys ≡ shapes_of xs = cc in
      let more = shape_deques xs ys rest in
      λ t. (here t).0.0 ∷ more t

  shape_doors : (deques : List (RowsId × Global)) (old new : List (Member K)) → shapes_of new ≡ shapes_of old → Each (λ member. member.doors.items ≡ map new_door deques) old → Each (λ member. doors_of member ≡ first_parts deques) new
  shape_doors deques [] [] e each = tt
  shape_doors deques [] (y ∷ ys) e each = absurd (cc)
  shape_doors deques (x ∷ xs) [] e each = tt
  shape_doors deques (x ∷ xs) (y ∷ ys) e each =
      let here : shape_of y ≡ shape_of x = cc in
      let rest : shapes_of ys ≡ shapes_of xs = cc in
      (ap (λ s. s.1) here ∙ (ap (map tag_of) each.0 ∙ door_tags deques), shape_doors deques xs ys rest each.1)

  shape_parts : (parts : ℕ) (old new : List (Member K)) → shapes_of new ≡ shapes_of old → Each (λ member. member.deque.hand.parts ≡ parts) old → Each (λ member. member.deque.hand.parts ≡ parts) new
  shape_parts parts [] [] e each = tt
  shape_parts parts [] (y ∷ ys) e each = absurd (cc)
  shape_parts parts (x ∷ xs) [] e each = tt
  shape_parts parts (x ∷ xs) (y ∷ ys) e each =
      let here : shape_of y ≡ shape_of x = cc in
      let rest : shapes_of ys ≡ shapes_of xs = cc in
      (ap (λ s. s.0.1) here ∙ each.0, shape_parts parts xs ys rest each.1)

  -- members of one shape with a new team have its doors and its parts
  pub kept_doors : (old new : List (Member K)) → shapes_of new ≡ shapes_of old → All (λ member. member.doors.items ≡ map new_door (deques_of old)) old → All (λ member. doors_of member ≡ first_parts (deques_of new)) new
  kept_doors old new same doors =
      let each = shape_doors (deques_of old) old new same (recursion_from_All (λ (member : Member K). member.doors.items ≡ map new_door (deques_of old)) old doors) in
      subst (λ ds. All (λ (member : Member K). doors_of member ≡ first_parts ds) new) (sym (shape_deques old new same)) (All-from_recursion (λ (member : Member K). doors_of member ≡ first_parts (deques_of old)) new each)

  pub kept_rows : (old new : List (Member K)) → shapes_of new ≡ shapes_of old → All (λ member. member.doors.items ≡ map new_door (deques_of old)) old → All (λ member. length member.doors.items ≡ length new) new
  kept_rows old new same doors = λ k d within.
      let tags = kept_doors old new same doors k d within in
      omega (arith, tags_len (get_or new k d).doors.items, ap length tags, parts_len (deques_of new), deques_len new)

  pub kept_parts : (problem : WeightedSum) (word : TableId) (old new : List (Member K)) → shapes_of new ≡ shapes_of old → length old ≤ 16 → All (IsNewMember problem word (length old)) old → All (λ member. member.deque.hand.parts + length new ≡ 1024) new
  kept_parts problem word old new same few is = λ k d within.
      let parts = shape_parts (1024 - length old) old new same (recursion_from_All (λ (member : Member K). member.deque.hand.parts ≡ 1024 - length old) old (λ j e inside. ap (λ h. h.parts) (is j e inside).hand)) in
      let here = All-from_recursion (λ (member : Member K). member.deque.hand.parts ≡ 1024 - length old) new parts k d within in
      omega (arith, here, few, deques_len new, deques_len old, ap length (shape_deques old new same))
