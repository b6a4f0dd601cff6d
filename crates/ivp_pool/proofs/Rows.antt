-- Rows of doors: how a team's deques change where each gives a door, or takes one back.
use Rattle.std.proofs.Common.{◌≡◌, ℕ, zero, suc, ◌+◌, ◌-◌, ◌<◌, ◌≤◌, List, [], ◌∷◌, ◌++◌, length, map, set, take, refl, sym, ap, ◌∙◌, subst, arith}
use Rattle.std.specs.Prelude.{All, get_or}
use Rattle.std.specs.Global.{Global}
use Rattle.std.specs.List.{sum_by, AllByRecursion as Each}
use Rattle.std.proofs.lemmas.List.{append_assoc, length-append, length-set}
use Rattle.std.proofs.lemmas.List.Elements.{All-from_recursion, All-set, recursion_from_All}
use Rattle.std.proofs.lemmas.List.Sums.{sum_by-append, sum_by-cons, sum_by-set}
use Rattle.atomic_blocks.specs.Lent.{RowsId}
use Rattle.atomic_table.specs.Seated.{TableId}
use Rattle.ivp_problem.specs.declared.node.Node.{Node}
use Rattle.ivp_problem.specs.Problems.{WeightedSum}
use Rattle.ivp_pool.specs.declared.team.Member.{Member}
use Rattle.ivp_pool.specs.declared.rule.Hand.{Hand}
use Rattle.ivp_pool.specs.Hands.{EndState, hand}
use Rattle.ivp_pool.specs.Solving.{IsNew}
use Rattle.ivp_pool.specs.Members.{absorbed, deques_of, doors_of, first_parts, IsNewMember, new_door, put_by, put_in, tag_of, taken_by, taken_in, took_back, with_part_out, workers_of}

module _ {K : Type 0} where
  -- members of whom the first ones gave a part to a door
  abbrev pub with_parts_out : ℕ → List (Member K) → List (Member K)
  with_parts_out zero members = members
  with_parts_out (suc count) [] = []
  with_parts_out (suc count) (member ∷ members) = with_part_out member ∷ with_parts_out count members

  -- the first members have these doors
  abbrev pub OpenTo : ℕ → List EndState → List (Member K) → Type 0
  OpenTo zero row members = Unit {0}
  OpenTo (suc count) row [] = Unit {0}
  OpenTo (suc count) row (member ∷ members) = (member.doors.items ≡ row) × OpenTo count row members

  -- the first members have no doors left, and the others have doors to these
  abbrev pub ClosedTo : ℕ → List ((RowsId × Global) × ℕ) → List (Member K) → Type 0
  ClosedTo zero tags members = Each (λ member. doors_of member ≡ tags) members
  ClosedTo (suc count) tags [] = Unit {0}
  ClosedTo (suc count) tags (member ∷ members) = (member.doors.items ≡ []) × ClosedTo count tags members

  pub parted_len : (count : ℕ) (members : List (Member K)) → length (with_parts_out count members) ≡ length members
  parted_len zero members = refl
  parted_len (suc count) [] = refl
  parted_len (suc count) (member ∷ members) = ap suc (parted_len count members)

  pub parted_at : (count : ℕ) (members : List (Member K)) (d : Member K) → get_or (with_parts_out count members) count d ≡ get_or members count d
  parted_at zero members d = refl
  parted_at (suc count) [] d = refl
  parted_at (suc count) (member ∷ members) d = parted_at count members d

  parted_more : (count : ℕ) (members : List (Member K)) (d : Member K) → count < length members → set (with_parts_out count members) count (with_part_out (get_or members count d)) ≡ with_parts_out (suc count) members
  parted_more count [] d within = absurd (omega (arith, within))
  parted_more zero (member ∷ members) d within = refl
  parted_more (suc count) (member ∷ members) d within = ap (λ (rest : List (Member K)). with_part_out member ∷ rest) (parted_more count members d (omega (arith, within)))

  pub parted_next : (count : ℕ) (members : List (Member K)) (d : Member K) → count < length members → set (with_parts_out count members) count (with_part_out (get_or members count d)) ≡ with_parts_out (count + 1) members
  parted_next count members d within = let same : suc count ≡ count + 1 = omega arith in parted_more count members d within ∙ ap (λ n. with_parts_out n members) same

  pub parted_all : (count : ℕ) (members : List (Member K)) → length members ≤ count → with_parts_out count members ≡ map with_part_out members
  parted_all zero [] most = refl
  parted_all zero (member ∷ members) most = absurd (omega (arith, most))
  parted_all (suc count) [] most = refl
  parted_all (suc count) (member ∷ members) most = ap (λ (rest : List (Member K)). with_part_out member ∷ rest) (parted_all count members (omega (arith, most)))

  row_more : (count : ℕ) (members : List (Member K)) (d : Member K) → count < length members → map new_door (deques_of (take (suc count) members)) ≡ map new_door (deques_of (take count members)) ++ new_door (get_or members count d).deque.deque ∷ []
  row_more count [] d within = absurd (omega (arith, within))
  row_more zero (member ∷ members) d within = refl
  row_more (suc count) (member ∷ members) d within = ap (λ (rest : List EndState). new_door member.deque.deque ∷ rest) (row_more count members d (omega (arith, within)))

  pub row_next : (count : ℕ) (members : List (Member K)) (d : Member K) → count < length members → map new_door (deques_of (take (count + 1) members)) ≡ map new_door (deques_of (take count members)) ++ new_door (get_or members count d).deque.deque ∷ []
  row_next count members d within = let same : count + 1 ≡ suc count = omega arith in ap (λ n. map new_door (deques_of (take n members))) same ∙ row_more count members d within

  pub absorbed_len : (place : ℕ) (row : List EndState) (members : List (Member K)) → length (absorbed place row members) ≡ length members
  absorbed_len place [] members = refl
  absorbed_len place (door ∷ row) [] = refl
  absorbed_len zero (door ∷ row) (member ∷ members) = ap suc (absorbed_len zero row members)
  absorbed_len (suc place) (door ∷ row) (member ∷ members) = ap suc (absorbed_len place row members)

  pub absorbed_start : (row : List EndState) (members : List (Member K)) → absorbed (length row) row members ≡ members
  absorbed_start [] members = refl
  absorbed_start (door ∷ row) [] = refl
  absorbed_start (door ∷ row) (member ∷ members) = ap (λ (rest : List (Member K)). member ∷ rest) (absorbed_start row members)

  -- each door leads to the deque at its place
  pub record Leads (place : ℕ) (door : EndState) (members : List (Member K)) : Type 0 where
    pub within : place < length members
    pub to : (d : Member K) → door.deque ≡ (get_or members place d).deque.deque

  pub leads : (rest gone : List EndState) (door : EndState) (members : List (Member K)) → map tag_of (rest ++ door ∷ gone) ≡ first_parts (deques_of members) → Leads (length rest) door members
  leads [] gone door [] e = absurd (cc)
  leads [] gone door (member ∷ members) e = let same : tag_of door ≡ (member.deque.deque, 1) = cc in record { within = omega arith; to = λ d. ap (λ t. t.0) same }
  leads (x ∷ rest) gone door [] e = absurd (cc)
  leads (x ∷ rest) gone door (member ∷ members) e =
      let tail : map tag_of (rest ++ door ∷ gone) ≡ first_parts (deques_of members) = cc in
      let more = leads rest gone door members tail in
      record { within = omega (arith, more.within); to = more.to }

  pub absorbed_at : (rest gone : List EndState) (door : EndState) (members : List (Member K)) (d : Member K) → get_or (absorbed (suc (length rest)) (rest ++ door ∷ gone) members) (length rest) d ≡ get_or members (length rest) d
  absorbed_at [] gone door [] d = refl
  absorbed_at [] gone door (member ∷ members) d = refl
  absorbed_at (x ∷ rest) gone door [] d = refl
  absorbed_at (x ∷ rest) gone door (member ∷ members) d = absorbed_at rest gone door members d

  pub absorbed_next : (rest gone : List EndState) (door : EndState) (members : List (Member K)) (d : Member K) → length rest < length members → set (absorbed (suc (length rest)) (rest ++ door ∷ gone) members) (length rest) (took_back (get_or members (length rest) d) door) ≡ absorbed (length rest) (rest ++ door ∷ gone) members
  absorbed_next rest gone door [] d within = absurd (omega (arith, within))
  absorbed_next [] gone door (member ∷ members) d within = refl
  absorbed_next (x ∷ rest) gone door (member ∷ members) d within = ap (λ (more : List (Member K)). member ∷ more) (absorbed_next rest gone door members d (omega (arith, within)))

  -- one door is taken back: where it leads to, and what the members are then
  pub step_at : (rest gone row items : List EndState) (door : EndState) (start now : List (Member K)) (place : ℕ) (d : Member K) → row ≡ items ++ gone → items ≡ rest ++ door ∷ [] → now ≡ absorbed (length items) row start → place ≡ length rest → map tag_of row ≡ first_parts (deques_of start) → door.deque ≡ (get_or now place d).deque.deque
  step_at rest gone row items door start now place d parts last is at tags =
      let whole : row ≡ rest ++ door ∷ gone = parts ∙ (ap (λ xs. xs ++ gone) last ∙ append_assoc rest (door ∷ []) gone) in
      let len : length items ≡ suc (length rest) = omega (arith, ap length last, length-append rest (door ∷ [])) in
      let there : now ≡ absorbed (suc (length rest)) (rest ++ door ∷ gone) start = is ∙ (λ t. absorbed (len t) (whole t) start) in
      let to = leads rest gone door start (ap (map tag_of) (sym whole) ∙ tags) in
      to.to d ∙ ap (λ (m : Member K). m.deque.deque) (sym (absorbed_at rest gone door start d) ∙ (λ t. get_or (sym there t) (sym at t) d))

  pub step_within : (rest gone row items : List EndState) (door : EndState) (start now : List (Member K)) (place : ℕ) → row ≡ items ++ gone → items ≡ rest ++ door ∷ [] → now ≡ absorbed (length items) row start → place ≡ length rest → map tag_of row ≡ first_parts (deques_of start) → place < length now
  step_within rest gone row items door start now place parts last is at tags =
      let whole : row ≡ rest ++ door ∷ gone = parts ∙ (ap (λ xs. xs ++ gone) last ∙ append_assoc rest (door ∷ []) gone) in
      let to = leads rest gone door start (ap (map tag_of) (sym whole) ∙ tags) in
      omega (arith, to.within, at, ap length is, absorbed_len (length items) row start)

  pub step_next : (rest gone row items : List EndState) (door own : EndState) (start now : List (Member K)) (place : ℕ) (d : Member K) → row ≡ items ++ gone → items ≡ rest ++ door ∷ [] → now ≡ absorbed (length items) row start → place ≡ length rest → map tag_of row ≡ first_parts (deques_of start) → own ≡ (took_back (get_or now place d) door).deque → set now place (record (get_or now place d) { deque = own }) ≡ absorbed (length rest) row start
  step_next rest gone row items door own start now place d parts last is at tags e =
      let whole : row ≡ rest ++ door ∷ gone = parts ∙ (ap (λ xs. xs ++ gone) last ∙ append_assoc rest (door ∷ []) gone) in
      let len : length items ≡ suc (length rest) = omega (arith, ap length last, length-append rest (door ∷ [])) in
      let before : List (Member K) = absorbed (suc (length rest)) (rest ++ door ∷ gone) start in
      let there : now ≡ before = is ∙ (λ t. absorbed (len t) (whole t) start) in
      let to = leads rest gone door start (ap (map tag_of) (sym whole) ∙ tags) in
      ap (λ (end : EndState). set now place (record (get_or now place d) { deque = end })) e
      ∙ ((λ t. set (there t) (at t) (took_back (get_or (there t) (at t) d) door))
      ∙ (ap (λ (m : Member K). set before (length rest) (took_back m door)) (absorbed_at rest gone door start d)
      ∙ (absorbed_next rest gone door start d to.within ∙ ap (λ r. absorbed (length rest) r start) (sym whole))))

  -- doors changed, and nothing else
  set_deques : (members : List (Member K)) (place : ℕ) (d new : Member K) → new.deque.deque ≡ (get_or members place d).deque.deque → deques_of (set members place new) ≡ deques_of members
  set_deques [] place d new same = refl
  set_deques (member ∷ members) zero d new same = ap (λ x. x ∷ deques_of members) same
  set_deques (member ∷ members) (suc place) d new same = ap (λ xs. member.deque.deque ∷ xs) (set_deques members place d new same)

  set_workers : (members : List (Member K)) (place : ℕ) (d new : Member K) → new.worker ≡ (get_or members place d).worker → workers_of (set members place new) ≡ workers_of members
  set_workers [] place d new same = refl
  set_workers (member ∷ members) zero d new same = ap (λ x. x ∷ workers_of members) same
  set_workers (member ∷ members) (suc place) d new same = ap (λ xs. member.worker ∷ xs) (set_workers members place d new same)

  out_deques : (members : List (Member K)) → deques_of (map with_part_out members) ≡ deques_of members
  out_deques [] = refl
  out_deques (member ∷ members) = ap (λ xs. member.deque.deque ∷ xs) (out_deques members)

  pub out_len : (members : List (Member K)) → length (map with_part_out members) ≡ length members
  out_len [] = refl
  out_len (member ∷ members) = ap suc (out_len members)

  out_open : (count : ℕ) (row : List EndState) (members : List (Member K)) → OpenTo count row members → OpenTo count row (map with_part_out members)
  out_open zero row members open' = tt
  out_open (suc count) row [] open' = tt
  out_open (suc count) row (member ∷ members) open' = (open'.0, out_open count row members open'.1)

  set_open : (count : ℕ) (row : List EndState) (members : List (Member K)) (new : Member K) → new.doors.items ≡ row → OpenTo count row members → OpenTo (suc count) row (set members count new)
  set_open zero row [] new is open' = tt
  set_open zero row (member ∷ members) new is open' = (is, tt)
  set_open (suc count) row [] new is open' = tt
  set_open (suc count) row (member ∷ members) new is open' = (open'.0, set_open count row members new is open'.1)

  pub open_all : (count : ℕ) (row : List EndState) (members : List (Member K)) → length members ≤ count → OpenTo count row members → Each (λ member. member.doors.items ≡ row) members
  open_all count row [] most open' = tt
  open_all zero row (member ∷ members) most open' = absurd (omega (arith, most))
  open_all (suc count) row (member ∷ members) most open' = (open'.0, open_all count row members (omega (arith, most)) open'.1)

  out_new : (problem : WeightedSum) (word : TableId) (out : ℕ) (members : List (Member K)) → Each (IsNewMember problem word out) members → Each (IsNewMember problem word (out + 1)) (map with_part_out members)
  out_new problem word out [] each = tt
  out_new problem word out (member ∷ members) each =
      let less : (1024 - out) - 1 ≡ 1024 - (out + 1) = omega arith in (
        record { worker = each.0.worker; hand = ap (λ (h : Hand). hand (h.parts - 1) h.put h.taken) each.0.hand ∙ ap (λ n. hand n [] []) less },
        out_new problem word out members each.1,
      )

  -- the members after this many have their doors
  pub record Opened (problem : WeightedSum) (word : TableId) (count : ℕ) (members : List (Member K)) : Type 0 where
    pub new : All (IsNewMember problem word count) members
    pub doors : OpenTo count (map new_door (deques_of members)) members

  pub open_next : (problem : WeightedSum) (word : TableId) (count : ℕ) (members now : List (Member K)) (d new : Member K) → count < length members → Opened problem word count members → now ≡ map with_part_out members → new.worker ≡ (get_or now count d).worker → new.deque ≡ (get_or now count d).deque → new.doors.items ≡ map new_door (deques_of members) → Opened problem word (count + 1) (set now count new)
  open_next problem word count members now d new within was is worker deque doors =
      let len : length now ≡ length members = ap length is ∙ out_len members in
      let each : All (IsNewMember problem word (count + 1)) now =
      subst (All (IsNewMember problem word (count + 1))) (sym is) (All-from_recursion (IsNewMember problem word (count + 1)) (map with_part_out members) (out_new problem word count members (recursion_from_All (IsNewMember problem word count) members was.new))) in
      let here : IsNewMember problem word (count + 1) (get_or now count d) = each count d (omega (arith, within, len)) in
      let mine : IsNewMember problem word (count + 1) new = record { worker = subst (IsNew problem word) (sym worker) here.worker; hand = ap (λ (end : EndState). end.hand) deque ∙ here.hand } in
      let deques : deques_of (set now count new) ≡ deques_of members = set_deques now count d new (ap (λ (end : EndState). end.deque) deque) ∙ (ap deques_of is ∙ out_deques members) in
      let same : suc count ≡ count + 1 = omega arith in
      let open' : OpenTo (suc count) (map new_door (deques_of members)) (set now count new) = set_open count (map new_door (deques_of members)) now new doors (subst (OpenTo count (map new_door (deques_of members))) (sym is) (out_open count (map new_door (deques_of members)) members was.doors)) in
      record {
        new = All-set (IsNewMember problem word (count + 1)) now count new mine each;
        doors = subst (λ (i : ℕ × List (RowsId × Global)). OpenTo i.0 (map new_door i.1) (set now count new)) (λ t. (same t, sym deques t)) open';
      }

  absorbed_deques : (row : List EndState) (members : List (Member K)) → deques_of (absorbed 0 row members) ≡ deques_of members
  absorbed_deques [] members = refl
  absorbed_deques (door ∷ row) [] = refl
  absorbed_deques (door ∷ row) (member ∷ members) = ap (λ xs. member.deque.deque ∷ xs) (absorbed_deques row members)

  absorbed_workers : (row : List EndState) (members : List (Member K)) → workers_of (absorbed 0 row members) ≡ workers_of members
  absorbed_workers [] members = refl
  absorbed_workers (door ∷ row) [] = refl
  absorbed_workers (door ∷ row) (member ∷ members) = ap (λ xs. member.worker ∷ xs) (absorbed_workers row members)

  absorbed_closed : (count : ℕ) (tags : List ((RowsId × Global) × ℕ)) (row : List EndState) (members : List (Member K)) → ClosedTo count tags members → ClosedTo count tags (absorbed 0 row members)
  absorbed_closed count tags [] members closed = closed
  absorbed_closed count tags (door ∷ row) [] closed = closed
  absorbed_closed zero tags (door ∷ row) (member ∷ members) closed = (closed.0, absorbed_closed zero tags row members closed.1)
  absorbed_closed (suc count) tags (door ∷ row) (member ∷ members) closed = (closed.0, absorbed_closed count tags row members closed.1)

  absorbed_put : (weigh : Node → ℕ) (row : List EndState) (members : List (Member K)) → map tag_of row ≡ first_parts (deques_of members) → put_in weigh (absorbed 0 row members) ≡ put_in weigh members + sum_by (λ end. sum_by weigh end.hand.put) row
  absorbed_put weigh [] members tags = omega arith
  absorbed_put weigh (door ∷ row) [] tags = absurd (cc)
  absorbed_put weigh (door ∷ row) (member ∷ members) tags =
      let tail : map tag_of row ≡ first_parts (deques_of members) = cc in
      omega (
        arith,
        sum_by-cons (put_by weigh) (took_back member door) (absorbed 0 row members),
        sum_by-cons (put_by weigh) member members,
        sum_by-cons (λ (end : EndState). sum_by weigh end.hand.put) door row,
        sum_by-append weigh member.deque.hand.put door.hand.put,
        absorbed_put weigh row members tail,
      )

  absorbed_taken : (weigh : Node → ℕ) (row : List EndState) (members : List (Member K)) → map tag_of row ≡ first_parts (deques_of members) → taken_in weigh (absorbed 0 row members) ≡ taken_in weigh members + sum_by (λ end. sum_by weigh end.hand.taken) row
  absorbed_taken weigh [] members tags = omega arith
  absorbed_taken weigh (door ∷ row) [] tags = absurd (cc)
  absorbed_taken weigh (door ∷ row) (member ∷ members) tags =
      let tail : map tag_of row ≡ first_parts (deques_of members) = cc in
      omega (
        arith,
        sum_by-cons (taken_by weigh) (took_back member door) (absorbed 0 row members),
        sum_by-cons (taken_by weigh) member members,
        sum_by-cons (λ (end : EndState). sum_by weigh end.hand.taken) door row,
        sum_by-append weigh member.deque.hand.taken door.hand.taken,
        absorbed_taken weigh row members tail,
      )

  absorbed_parts : (parts : ℕ) (row : List EndState) (members : List (Member K)) → map tag_of row ≡ first_parts (deques_of members) → Each (λ member. member.deque.hand.parts ≡ parts) members → Each (λ member. member.deque.hand.parts ≡ parts + 1) (absorbed 0 row members)
  absorbed_parts parts [] [] tags each = tt
  absorbed_parts parts [] (member ∷ members) tags each = absurd (cc)
  absorbed_parts parts (door ∷ row) [] tags each = absurd (cc)
  absorbed_parts parts (door ∷ row) (member ∷ members) tags each =
      let tail : map tag_of row ≡ first_parts (deques_of members) = cc in
      let here : tag_of door ≡ (member.deque.deque, 1) = cc in
      let one : door.hand.parts ≡ 1 = ap (λ t. t.1) here in
      (omega (arith, each.0, one), absorbed_parts parts row members tail each.1)

  pub closed_at : (count : ℕ) (tags : List ((RowsId × Global) × ℕ)) (members : List (Member K)) (d : Member K) → count < length members → ClosedTo count tags members → doors_of (get_or members count d) ≡ tags
  closed_at count tags [] d within closed = absurd (omega (arith, within))
  closed_at zero tags (member ∷ members) d within closed = closed.0
  closed_at (suc count) tags (member ∷ members) d within closed = closed_at count tags members d (omega (arith, within)) closed.1

  set_closed : (count : ℕ) (tags : List ((RowsId × Global) × ℕ)) (members : List (Member K)) (new : Member K) → new.doors.items ≡ [] → ClosedTo count tags members → ClosedTo (suc count) tags (set members count new)
  set_closed zero tags [] new is closed = tt
  set_closed zero tags (member ∷ members) new is closed = (is, closed.1)
  set_closed (suc count) tags [] new is closed = tt
  set_closed (suc count) tags (member ∷ members) new is closed = (closed.0, set_closed count tags members new is closed.1)

  pub closed_all : (count : ℕ) (tags : List ((RowsId × Global) × ℕ)) (members : List (Member K)) → length members ≤ count → ClosedTo count tags members → Each (λ member. member.doors.items ≡ []) members
  closed_all count tags [] most closed = tt
  closed_all zero tags (member ∷ members) most closed = absurd (omega (arith, most))
  closed_all (suc count) tags (member ∷ members) most closed = (closed.0, closed_all count tags members (omega (arith, most)) closed.1)

  -- the doors of so many members were taken back
  pub record TakenBack (count base : ℕ) (tags : List ((RowsId × Global) × ℕ)) (start now : List (Member K)) : Type 0 where
    pub len : length now ≡ length start
    pub workers : workers_of now ≡ workers_of start
    pub deques : deques_of now ≡ deques_of start
    pub parts : Each (λ member. member.deque.hand.parts ≡ base + count) now
    pub doors : ClosedTo count tags now
    pub put : (weigh : Node → ℕ) → put_in weigh now ≡ put_in weigh start
    pub taken : (weigh : Node → ℕ) → taken_in weigh now ≡ taken_in weigh start

  -- the row of a member, whose doors are taken out
  pub back_tags : (count parts : ℕ) (start now : List (Member K)) (d new : Member K) → count < length now → TakenBack count parts (first_parts (deques_of start)) start now → new.deque ≡ (get_or now count d).deque → map tag_of (get_or now count d).doors.items ≡ first_parts (deques_of (set now count new))
  back_tags count parts start now d new within back deque =
      closed_at count (first_parts (deques_of start)) now d within back.doors ∙ ap first_parts (sym (set_deques now count d new (ap (λ (end : EndState). end.deque) deque) ∙ back.deques))

  pub back_next : (count parts : ℕ) (start now last : List (Member K)) (d new : Member K) → count < length now → TakenBack count parts (first_parts (deques_of start)) start now → new.worker ≡ (get_or now count d).worker → new.deque ≡ (get_or now count d).deque → new.doors.items ≡ [] → last ≡ absorbed 0 (get_or now count d).doors.items (set now count new) → TakenBack (count + 1) parts (first_parts (deques_of start)) start last
  back_next count parts start now last d new within back worker deque none is =
      let tags = first_parts (deques_of start) in
      let row = (get_or now count d).doors.items in
      let mid : List (Member K) = set now count new in
      let leads_to = back_tags count parts start now d new within back deque in
      let same : suc count ≡ count + 1 = omega arith in
      let more : parts + count + 1 ≡ parts + (count + 1) = omega arith in
      let each : Each (λ member. member.deque.hand.parts ≡ parts + count) mid =
      recursion_from_All (λ member. member.deque.hand.parts ≡ parts + count) mid (All-set (λ (member : Member K). member.deque.hand.parts ≡ parts + count) now count new
      (ap (λ (end : EndState). end.hand.parts) deque ∙ All-from_recursion (λ (member : Member K). member.deque.hand.parts ≡ parts + count) now back.parts count d within)
      (All-from_recursion (λ (member : Member K). member.deque.hand.parts ≡ parts + count) now back.parts)) in
      subst (TakenBack (count + 1) parts tags start) (sym is)
      (record {
        len = absorbed_len 0 row mid ∙ (length-set now count new ∙ back.len);
        workers = absorbed_workers row mid ∙ (set_workers now count d new worker ∙ back.workers);
        deques = absorbed_deques row mid ∙ (set_deques now count d new (ap (λ (end : EndState). end.deque) deque) ∙ back.deques);
        parts = subst (λ n. Each (λ (member : Member K). member.deque.hand.parts ≡ n) (absorbed 0 row mid)) more (absorbed_parts (parts + count) row mid leads_to each);
        doors = absorbed_closed (count + 1) tags row mid (subst (λ n. ClosedTo n tags mid) same (set_closed count tags now new none back.doors));
        put = λ weigh.
            omega (
              arith,
              absorbed_put weigh row mid leads_to,
              sum_by-set (put_by weigh) now count new d within,
              ap (λ (end : EndState). sum_by weigh end.hand.put) deque,
              ap (sum_by (λ (end : EndState). sum_by weigh end.hand.put)) none,
              back.put weigh,
            );
        taken = λ weigh.
            omega (
              arith,
              absorbed_taken weigh row mid leads_to,
              sum_by-set (taken_by weigh) now count new d within,
              ap (λ (end : EndState). sum_by weigh end.hand.taken) deque,
              ap (sum_by (λ (end : EndState). sum_by weigh end.hand.taken)) none,
              back.taken weigh,
            );
      })

  pub back_start : (parts : ℕ) (start : List (Member K)) → All (λ member. member.deque.hand.parts + length start ≡ 1024) start → All (λ member. doors_of member ≡ first_parts (deques_of start)) start → parts + length start ≡ 1024 → TakenBack 0 parts (first_parts (deques_of start)) start start
  back_start parts start each doors whole =
      record {
        len = refl;
        workers = refl;
        deques = refl;
        parts = recursion_from_All (λ (member : Member K). member.deque.hand.parts ≡ parts + 0) start (λ k d within. omega (arith, each k d within, whole));
        doors = recursion_from_All (λ (member : Member K). doors_of member ≡ first_parts (deques_of start)) start doors;
        put = λ weigh. refl;
        taken = λ weigh. refl;
      }

  pub whole_parts : (start : List (Member K)) → All (λ member. member.deque.hand.parts + length start ≡ 1024) start → (1024 - length start) + length start ≡ 1024
  whole_parts [] each = omega arith
  whole_parts (member ∷ members) each = let here = each 0 member (omega arith) in omega (arith, here)
