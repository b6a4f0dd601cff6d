-- The core of a search by several workers: what they share and hold, and each step that one of them makes.
use Rattle.std.specs.Prelude.{◌≡◌, ℕ, ◌+◌, ◌%◌, ◌<◌, ◌≤◌, ◌⊎◌, ◌==◌, if◌then◌else◌, max, Option, Some, None, List, [], ◌∷◌, ◌++◌, length, IsTrue, slice_get, replicate, set}
use Rattle.ivp_domain.specs.declared.boxes.Point.{Point}
use Rattle.ivp_domain.specs.Domains.{is_point}
use Rattle.ivp_problem.specs.declared.key.Key.{Key}
use Rattle.ivp_problem.specs.declared.node.Node.{Node}
use Rattle.ivp_problem.specs.declared.term.Term.{Term}
use Rattle.ivp_problem.specs.Keys.{greater_own, Reaches}
use Rattle.ivp_problem.specs.Problems.{WeightedSum}
use Rattle.ivp_problem.specs.Sums.{key_at, sum_at}
use Rattle.ivp_problem.specs.Trees.{bound_of, child_of, next_of, root_of}

-- a node that is being closed, and the number of its next child
pub record Frame : Type 0 where
  pub node : Node
  pub next : ℕ

-- a worker: the sum that it knows, the greatest key that it found, its deque, its hand with the top frame first, and the nodes
-- that it is done with
pub record CoreWorker : Type 0 where
  pub low : ℕ
  pub own : Option Key
  pub deque : List Node
  pub hand : List Frame
  pub done : List Node

-- the word that all share, which is a sum, and the workers
pub record Core : Type 0 where
  pub word : ℕ
  pub members : List CoreWorker

-- a frame of which no child was passed on yet
abbrev pub fresh : Node → Frame
fresh node = record { node = node; next = 0 }

-- the frame with one more child passed on
abbrev pub frame_passed : Frame → Frame
frame_passed frame = record { node = frame.node; next = frame.next + 1 }

-- a worker that knows and found nothing and holds these frames alone
abbrev pub holder_of : List Frame → CoreWorker
holder_of hand = record { low = 0; own = None; deque = []; hand = hand; done = [] }

-- the start: worker 0 holds the root, and `others` further ones hold nothing
abbrev pub start_of : WeightedSum → ℕ → Core
start_of problem others = record { word = 0; members = holder_of (fresh (root_of problem) ∷ []) ∷ replicate others (holder_of []) }

-- the steps: each names the worker that makes it, `Raise` a point too, and `Steal` the worker from which it takes
pub data Step : Type 0 where
  Load : ℕ → Step
  Raise : ℕ → Point → Step
  Push : ℕ → Step
  Keep : ℕ → Step
  Skip : ℕ → Step
  Pop : ℕ → Step
  Steal : ℕ → ℕ → Step
  Drop : ℕ → Step

-- this is the worker of a number
abbrev pub Has : Core → ℕ → CoreWorker → Type 0
Has core worker member = slice_get core.members worker ≡ Some member

-- the core with another one as the worker of a number
abbrev pub with_member : Core → ℕ → CoreWorker → Core
with_member core worker member = record core { members = set core.members worker member }

-- a worker whose hand has a top frame and these below it
pub record Holds (core : Core) (worker : ℕ) : Type 0 where
  pub member : CoreWorker
  pub has : Has core worker member
  pub frame : Frame
  pub below : List Frame
  pub hand : member.hand ≡ frame ∷ below

-- a worker whose hand is empty
pub record Rests (core : Core) (worker : ℕ) : Type 0 where
  pub member : CoreWorker
  pub has : Has core worker member
  pub hand : member.hand ≡ []

-- how many pieces a function has
abbrev pub pieces_in : Option Term → ℕ
pieces_in None = 0
pieces_in (Some term) = length term.func.pieces

-- how many children a node may have: as many as the next function has pieces, and none at full depth
abbrev pub pieces_of : WeightedSum → Node → ℕ
pieces_of problem node = pieces_in (next_of problem node)

-- a worker looks at the word, and knows what it holds
abbrev pub Learnt : Core → ℕ → Core → Type 0
Learnt core worker core' = (member : CoreWorker) × Has core worker member × (core' ≡ with_member core worker (record member { low = core.word }))

-- a node goes to the back of a worker's deque
abbrev pub Received : Core → ℕ → Node → Core → Type 0
Received core worker node core' = (taker : CoreWorker) × Has core worker taker × (core' ≡ with_member core worker (record taker { deque = taker.deque ++ node ∷ [] }))

-- a node becomes the one frame of a worker whose hand is empty
abbrev pub Began : Core → ℕ → Node → Core → Type 0
Began core worker node core' = (h : Rests core worker) × (core' ≡ with_member core worker (record h.member { hand = fresh node ∷ [] }))

-- the core with one more child of the top frame passed on
abbrev pub went_on : (core : Core) (worker : ℕ) → Holds core worker → Core
went_on core worker h = with_member core worker (record h.member { hand = frame_passed h.frame ∷ h.below })

-- the worker whose deque takes the next child of a frame: child k of the root goes to worker k modulo the number of workers, and
-- any other stays with the worker that pushes it
abbrev pub taker_of : Core → ℕ → Frame → ℕ
taker_of core worker frame = if frame.node.depth == 0 then frame.next % length core.members else worker

-- a worker that found the point: the greater of its own key and the point's becomes its own
abbrev pub found_by : WeightedSum → CoreWorker → Point → CoreWorker
found_by problem member point = record member { own = greater_own member.own (Some (key_at problem point)) }

-- a worker's top frame may go: its bound's sum is below what the worker knows, or its bound is at most the worker's own key, or
-- its node hasn't chosen from every function and all children were passed on
abbrev pub MayDrop : WeightedSum → CoreWorker → Frame → Type 0
MayDrop problem member frame = ((bound_of problem frame.node).sum < member.low) ⊎ Reaches member.own (bound_of problem frame.node) ⊎ ((frame.node.depth < length problem.terms) × (pieces_of problem frame.node ≤ frame.next))

-- what a step makes of a core
abbrev pub Stepped : WeightedSum → Step → Core → Core → Type 0
-- what the worker knows becomes the word
Stepped problem (Load worker) core core' = Learnt core worker core'
-- the word becomes the greater of itself and the point's sum, what the worker knows becomes the word, and the worker found the point
Stepped problem (Raise worker point) core core' =
    IsTrue (is_point problem.axes point) × (member : CoreWorker) × Has core worker member
    × (core' ≡ with_member (record core { word = max core.word (sum_at problem point) }) worker (record (found_by problem member point) { low = max core.word (sum_at problem point) }))
-- the next child of the top frame goes to a deque
Stepped problem (Push worker) core core' = (h : Holds core worker) × (child : Node) × (child_of problem h.frame.node h.frame.next ≡ Some child) × Received (went_on core worker h) (taker_of core worker h.frame) child core'
-- the next child of the top frame becomes the top frame
Stepped problem (Keep worker) core core' =
    (h : Holds core worker) × (child : Node) × (child_of problem h.frame.node h.frame.next ≡ Some child)
    × (core' ≡ with_member core worker (record h.member { hand = fresh child ∷ frame_passed h.frame ∷ h.below }))
-- the next piece meets no child, and is passed over
Stepped problem (Skip worker) core core' =
    (h : Holds core worker) × (h.frame.next < pieces_of problem h.frame.node) × (child_of problem h.frame.node h.frame.next ≡ None) × (core' ≡ went_on core worker h)
-- the worker takes a node of its own deque
Stepped problem (Pop worker) core core' =
    (member : CoreWorker) × Has core worker member × (front : List Node) × (node : Node) × (behind : List Node) × (member.deque ≡ front ++ node ∷ behind)
    × Began (with_member core worker (record member { deque = front ++ behind })) worker node core'
-- the worker takes the first node of a deque
Stepped problem (Steal worker from) core core' =
    (victim : CoreWorker) × Has core from victim × (node : Node) × (rest : List Node) × (victim.deque ≡ node ∷ rest)
    × Began (with_member core from (record victim { deque = rest })) worker node core'
-- the top frame goes, and the worker is done with its node
Stepped problem (Drop worker) core core' =
    (h : Holds core worker) × MayDrop problem h.member h.frame
    × (core' ≡ with_member core worker (record h.member { hand = h.below; done = h.frame.node ∷ h.member.done }))

-- what a list of steps makes of a core, one after the other
abbrev pub StepsTo : WeightedSum → List Step → Core → Core → Type 0
StepsTo problem [] core core' = core' ≡ core
StepsTo problem (step ∷ steps) core core' = (next : Core) × Stepped problem step core next × StepsTo problem steps next core'
