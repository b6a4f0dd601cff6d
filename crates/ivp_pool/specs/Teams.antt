-- What the members of a team did together.
use Rattle.std.specs.Prelude.{◌≡◌, ℕ, ◌+◌, ◌*◌, ◌^◌, ◌<◌, List, length, map, All, slice_set, slice_index_or}
use Rattle.std.specs.Global.{Global}
use Rattle.std.specs.List.{sum_by}
use Rattle.atomic_blocks.specs.Lent.{RowsId}
use Rattle.atomic_table.specs.Seated.{TableId}
use Rattle.ivp_problem.specs.declared.node.Node.{Node}
use Rattle.ivp_problem.specs.Problems.{WeightedSum}
use Rattle.ivp_pool.specs.declared.team.Member.{Member}
use Rattle.ivp_pool.specs.Hands.{EndState, IsSettled}
use Rattle.ivp_pool.specs.Members.{doors_of, put_in, taken_in}
use Rattle.ivp_pool.specs.Parts.{Incumbent, KnowsMore}
use Rattle.ivp_pool.specs.Solving.{AreClosed, IsWorker, knows_of}

module _ {K : Type 0} where
  -- all are workers of this problem at this word
  abbrev pub AreWorkers : WeightedSum → TableId → List (Member K) → Type 0
  AreWorkers problem word members = All (λ (member : Member K). IsWorker problem word member.worker) members

  -- this outdoes all that the worker of each of these members outdoes
  abbrev pub AreBelow : Incumbent → List (Member K) → Type 0
  AreBelow key members = All (λ (member : Member K). KnowsMore (knows_of member.worker) key) members

  -- how many nodes they have closed, each counted modulo 2^64
  abbrev pub closed_in : List (Member K) → ℕ
  closed_in members = sum_by (λ (member : Member K). member.worker.work.closed) members

  -- the deques of these members
  abbrev pub deque_states : List (Member K) → List EndState
  deque_states members = map (λ (member : Member K). member.deque) members

  -- the doors of each of these members
  abbrev pub door_rows : List (Member K) → List (List EndState)
  door_rows members = map (λ (member : Member K). member.doors.items) members

  -- which deques and doors they have, whatever went through them
  abbrev pub shape_of : Member K → ((RowsId × Global) × ℕ) × List ((RowsId × Global) × ℕ)
  shape_of member = ((member.deque.deque, member.deque.hand.parts), doors_of member)

  -- the shapes of all of them
  abbrev pub shapes_of : List (Member K) → List (((RowsId × Global) × ℕ) × List ((RowsId × Global) × ℕ))
  shapes_of members = map shape_of members

  -- calls of members closed nodes, each once. Together with what is left of what the caller had in hand, and what was put into
  -- deques, these are what the caller had in hand, what the calls handed to others, and what was taken from deques
  pub record AllDid (problem : WeightedSum) (word : TableId) (had left : List Node) (old new : List (Member K)) : Type 0 where
    pub nodes : List Node
    pub handed : List Node
    pub count : ℕ
    pub wraps : ℕ
    pub closed : (key : Incumbent) → AreBelow key new → AreClosed problem key nodes handed count
    pub counted : closed_in old + count ≡ closed_in new + wraps * 2 ^ 64
    pub each_once : (weigh : Node → ℕ) → sum_by weigh nodes + sum_by weigh left + put_in weigh new + taken_in weigh old ≡ sum_by weigh had + sum_by weigh handed + taken_in weigh new + put_in weigh old
    pub below : (key : Incumbent) → AreBelow key new → AreBelow key old
    pub workers : AreWorkers problem word new
    pub len : length new ≡ length old

-- the deque at this place was emptied, and no other changed
pub record HasEmptied (place : ℕ) (old new : List EndState) : Type 0 where
  pub end : EndState
  pub is : new ≡ slice_set old place end
  pub settled : IsSettled end.hand
  pub parts : (d : EndState) → place < length old → end.hand.parts ≡ (slice_index_or old place d).hand.parts
