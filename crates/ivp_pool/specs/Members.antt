-- The members of a team: each a worker with its deque and its doors to all deques. What one did, and what all did.
use Rattle.std.specs.Prelude.{◌≡◌, ℕ, zero, suc, ◌+◌, ◌-◌, List, [], ◌∷◌, map}
use Rattle.std.specs.Global.{Global}
use Rattle.std.specs.List.{sum_by}
use Rattle.atomic_blocks.specs.Lent.{RowsId}
use Rattle.atomic_table.specs.Seated.{TableId}
use Rattle.ivp_problem.specs.declared.node.Node.{Node}
use Rattle.ivp_problem.specs.Problems.{WeightedSum}
use Rattle.ivp_pool.specs.declared.team.Member.{Member}
use Rattle.ivp_pool.specs.declared.team.Worker.{Worker}
use Rattle.ivp_pool.specs.Hands.{both_hands, EndState, hand}
use Rattle.ivp_pool.specs.Solving.{IsNew, WentOn}

-- where a door leads to, and which part of the deque it has
abbrev pub tag_of : EndState → (RowsId × Global) × ℕ
tag_of end = (end.deque, end.hand.parts)

-- doors with one part each of these deques
abbrev pub first_parts : List (RowsId × Global) → List ((RowsId × Global) × ℕ)
first_parts deques = map (λ (deque : RowsId × Global). (deque, 1)) deques

-- a door that nothing went through
abbrev pub new_door : RowsId × Global → EndState
new_door deque = record { deque = deque; hand = hand 1 [] [] }

module _ {K : Type 0} where
  -- what a member has put into deques
  abbrev pub put_by : (Node → ℕ) → Member K → ℕ
  put_by weigh member = sum_by weigh member.deque.hand.put + sum_by (λ (door : EndState). sum_by weigh door.hand.put) member.doors.items

  -- what a member has taken from deques
  abbrev pub taken_by : (Node → ℕ) → Member K → ℕ
  taken_by weigh member = sum_by weigh member.deque.hand.taken + sum_by (λ (door : EndState). sum_by weigh door.hand.taken) member.doors.items

  -- where its doors lead to, and which part of the deque each has
  abbrev pub doors_of : Member K → List ((RowsId × Global) × ℕ)
  doors_of member = map tag_of member.doors.items

  -- a member's deque and its doors are the same as before, whatever went through them
  pub record KeepsShape (old new : Member K) : Type 0 where
    pub deque : new.deque.deque ≡ old.deque.deque
    pub parts : new.deque.hand.parts ≡ old.deque.hand.parts
    pub doors : doors_of new ≡ doors_of old

  -- a member is the same as before
  pub record Same (old new : Member K) : Type 0 where
    pub worker : new.worker ≡ old.worker
    pub deque : new.deque ≡ old.deque
    pub doors : new.doors.items ≡ old.doors.items

  -- a member has taken a node from a deque
  pub record TookNode (node : Node) (old new : Member K) : Type 0 where
    pub worker : new.worker ≡ old.worker
    pub put : (weigh : Node → ℕ) → put_by weigh new ≡ put_by weigh old
    pub taken : (weigh : Node → ℕ) → taken_by weigh new ≡ taken_by weigh old + weigh node
    pub keeps : KeepsShape old new

  -- a member has closed nodes that it took, each once, and put what these calls handed to others
  pub record Did (problem : WeightedSum) (old new : Member K) : Type 0 where
    pub nodes : List Node
    pub handed : List Node
    pub went : WentOn problem nodes handed old.worker new.worker
    pub put : (weigh : Node → ℕ) → put_by weigh new ≡ put_by weigh old + sum_by weigh handed
    pub taken : (weigh : Node → ℕ) → taken_by weigh new ≡ taken_by weigh old + sum_by weigh nodes
    pub keeps : KeepsShape old new

  -- which deques the members have
  abbrev pub deques_of : List (Member K) → List (RowsId × Global)
  deques_of members = map (λ (member : Member K). member.deque.deque) members

  -- the workers of these members
  abbrev pub workers_of : List (Member K) → List Worker
  workers_of members = map (λ (member : Member K). member.worker) members

  -- what these members have put into deques together
  abbrev pub put_in : (Node → ℕ) → List (Member K) → ℕ
  put_in weigh members = sum_by (put_by weigh) members

  -- what these members have taken from deques together
  abbrev pub taken_in : (Node → ℕ) → List (Member K) → ℕ
  taken_in weigh members = sum_by (taken_by weigh) members

  -- a member whose deque gave a part to a door
  abbrev pub with_part_out : Member K → Member K
  with_part_out member = record member { deque = record { deque = member.deque.deque; hand = hand (member.deque.hand.parts - 1) member.deque.hand.put member.deque.hand.taken } }

  -- a member whose deque took a door back
  abbrev pub took_back : Member K → EndState → Member K
  took_back member door = record member { deque = record { deque = member.deque.deque; hand = both_hands member.deque.hand door.hand } }

  -- members of whom those from this place on took their doors back
  abbrev pub absorbed : ℕ → List EndState → List (Member K) → List (Member K)
  absorbed place [] members = members
  absorbed place (door ∷ doors) [] = []
  absorbed zero (door ∷ doors) (member ∷ members) = took_back member door ∷ absorbed zero doors members
  absorbed (suc place) (door ∷ doors) (member ∷ members) = member ∷ absorbed place doors members

  -- a member that has made no call, and whose deque gave `out` parts to doors
  pub record IsNewMember (problem : WeightedSum) (word : TableId) (out : ℕ) (member : Member K) : Type 0 where
    pub worker : IsNew problem word member.worker
    pub hand : member.deque.hand ≡ hand (1024 - out) [] []
