-- Where the nodes of a core are, and what holds of them after any steps.
use Rattle.std.specs.Prelude.{◌≡◌, ℕ, ◌-◌, ◌<◌, ◌≤◌, ◌⊎◌, nat_lt, if◌then◌else◌, Option, Some, None, List, [], ◌∷◌, ◌++◌, length, map, IsTrue, slice_get, count_by}
use Rattle.std.specs.List.{flat_map, fold}
use Rattle.std.specs.Option.{option_to_list}
use Rattle.ivp_domain.specs.declared.boxes.Point.{Point}
use Rattle.ivp_domain.specs.Boxes.{has_point, numbers_from}
use Rattle.ivp_domain.specs.Domains.{is_point}
use Rattle.ivp_problem.specs.declared.node.Node.{Node}
use Rattle.ivp_problem.specs.declared.key.Key.{Key}
use Rattle.ivp_problem.specs.Keys.{greater_own, Reaches}
use Rattle.ivp_problem.specs.Problems.{WeightedSum}
use Rattle.ivp_problem.specs.Sums.{sum_at, best_of, key_at}
use Rattle.ivp_problem.specs.Found.{IsKnownSum, IsOwnKey}
use Rattle.ivp_problem.specs.Trees.{child_of, root_of}
use Rattle.search_core.specs.Cores.{Core, Frame, Has, CoreWorker, pieces_of}

-- where a node of the core is: in a deque, in a hand with the number of its next child, or in a done list
pub data NodePlace : Type 0 where
  InDeque : Node → NodePlace
  InHand : Frame → NodePlace
  InDone : Node → NodePlace

-- the places of a worker
abbrev pub places_in : CoreWorker → List NodePlace
places_in member = map InDeque member.deque ++ (map InHand member.hand ++ map InDone member.done)

-- all places of a core
abbrev pub node_places : Core → List NodePlace
node_places core = flat_map places_in core.members

-- the node of a place
abbrev pub node_in : NodePlace → Node
node_in (InDeque node) = node
node_in (InHand frame) = frame.node
node_in (InDone node) = node

-- the nodes of all deques, frames and done lists
abbrev pub nodes_in : Core → List Node
nodes_in core = map node_in (node_places core)

-- the children of a node from this number on, in piece order
abbrev pub children_from : WeightedSum → Node → ℕ → List Node
children_from problem node next = flat_map (λ number. option_to_list (child_of problem node number)) (numbers_from next (pieces_of problem node - next))

-- what a frame holds: its node at full depth, and else the children from the next one on
abbrev pub held_by : WeightedSum → Frame → List Node
held_by problem frame = if nat_lt frame.node.depth (length problem.terms) then children_from problem frame.node frame.next else frame.node ∷ []

-- what is still open at a place
abbrev pub open_in : WeightedSum → NodePlace → List Node
open_in problem (InDeque node) = node ∷ []
open_in problem (InHand frame) = held_by problem frame
open_in problem (InDone node) = []

-- the nodes of the deques and what the frames hold
abbrev pub open_of : WeightedSum → Core → List Node
open_of problem core = flat_map (open_in problem) (node_places core)

-- this is one of a list
abbrev pub IsIn : {X : Type 0} → List X → X → Type 0
IsIn xs x = (place : ℕ) × (slice_get xs place ≡ Some x)

-- no two of these nodes are the same
abbrev pub AreDifferent : List Node → Type 0
AreDifferent nodes = (one other : ℕ) (node : Node) → slice_get nodes one ≡ Some node → slice_get nodes other ≡ Some node → one ≡ other

-- a frame or a done list has this node
abbrev pub IsTaken : Core → Node → Type 0
IsTaken core node = ((frame : Frame) × IsIn (node_places core) (InHand frame) × (frame.node ≡ node)) ⊎ IsIn (node_places core) (InDone node)

-- the node is a child of one that a frame or a done list has
pub record HasParent (problem : WeightedSum) (core : Core) (node : Node) : Type 0 where
  pub parent : Node
  pub number : ℕ
  pub child : child_of problem parent number ≡ Some node
  pub taken : IsTaken core parent

-- some worker's own key reaches this one
abbrev pub IsReached : Core → Key → Type 0
IsReached core key = (worker : ℕ) × (member : CoreWorker) × Has core worker member × Reaches member.own key

-- nobody needs to look at the point any more: its sum is below the word, or its key is at most some worker's own
abbrev pub IsOutdone : WeightedSum → Core → Point → Type 0
IsOutdone problem core p = (sum_at problem p < core.word) ⊎ IsReached core (key_at problem p)

-- what holds of a core at any time
pub record IsSound (problem : WeightedSum) (core : Core) : Type 0 where
  -- the word is 0 or the sum of a point, no worker knows more, and each worker's own is none or the key of a point
  pub known : IsKnownSum problem core.word
  pub lows : (worker : ℕ) (member : CoreWorker) → Has core worker member → member.low ≤ core.word
  pub owns : (worker : ℕ) (member : CoreWorker) → Has core worker member → IsOwnKey problem member.own
  -- each point's sum is below the word, or its key is at most some worker's own, or it lies in exactly one of what deques and frames hold
  pub covered : (p : Point) → IsTrue (is_point problem.axes p) → IsOutdone problem core p ⊎ (count_by (λ node. has_point node.area p) (open_of problem core) ≡ 1)
  -- the nodes of deques, frames and done lists are all different
  pub different : AreDifferent (nodes_in core)
  -- each is the root, or a child of a node of a frame or of a done list
  pub linked : (node : Node) → IsIn (nodes_in core) node → (node ≡ root_of problem) ⊎ HasParent problem core node
  -- none is a child that a frame still holds
  pub ahead : (frame : Frame) (number : ℕ) (child : Node) → IsIn (node_places core) (InHand frame) → frame.next ≤ number → child_of problem frame.node number ≡ Some child → ¬ IsIn (nodes_in core) child

-- no node is left in a deque or a hand
abbrev pub IsOver : Core → Type 0
IsOver core = (worker : ℕ) (member : CoreWorker) → Has core worker member → (member.deque ≡ []) × (member.hand ≡ [])

-- a worker is done with the node
abbrev pub IsDoneBy : Core → Node → ℕ → Type 0
IsDoneBy core node worker = (member : CoreWorker) × Has core worker member × IsIn member.done node

-- exactly one worker is done with the node
pub record IsDoneOnce (core : Core) (node : Node) : Type 0 where
  pub worker : ℕ
  pub by : IsDoneBy core node worker
  pub only : (other : ℕ) → IsDoneBy core node other → other ≡ worker

-- the greatest of the workers' own keys
abbrev pub greatest_own : List CoreWorker → Option Key
greatest_own members = fold (λ most member. greater_own most member.own) None members

-- what holds of a core if no node is left: each node that was there at an earlier time is in exactly one worker's done list, and
-- the greatest own key is that of the best point
pub record IsFinished (problem : WeightedSum) (earlier core : Core) : Type 0 where
  pub done : (node : Node) → IsIn (nodes_in earlier) node → IsDoneOnce core node
  pub best : greatest_own core.members ≡ Some (key_at problem (best_of problem))
