-- What several workers make of a problem: what their calls closed, and the whole search.
use Rattle.std.specs.Prelude.{◌≡◌, ℕ, ◌+◌, ◌*◌, ◌^◌, Option, Some, None, List, [], length, slice_get}
use Rattle.std.specs.List.{sum_by}
use Rattle.ivp_problem.specs.Found.{IsOwnKey}
use Rattle.best_word.specs.Known.{first_scout}
use Rattle.atomic_table.specs.Seated.{TableId}
use Rattle.ivp_problem.specs.declared.node.Node.{Node}
use Rattle.ivp_problem.specs.declared.key.Key.{Key}
use Rattle.ivp_problem.specs.Problems.{WeightedSum}
use Rattle.ivp_problem.specs.Trees.{root_of}
use Rattle.ivp_pool.specs.declared.team.Worker.{Worker}
use Rattle.ivp_pool.specs.declared.work.Work.{Work}
use Rattle.ivp_pool.specs.Parts.{handed_within, IsPart, Incumbent, KnowsMore, TreePart, part_size}
use Rattle.ivp_pool.specs.Tallies.{handed_by, IsTally, Tally}

-- `count` nodes are a part of the whole tree, with the root and nothing handed to others: each node has all its children there,
-- or none and a bound of at most this key
pub record IsSearched (problem : WeightedSum) (key : Incumbent) (count : ℕ) : Type 0 where
  pub part : TreePart
  pub is : IsPart problem key (root_of problem) part
  pub none : handed_within problem (root_of problem) part ≡ []
  pub size : part_size part ≡ count

-- how many nodes workers closed together
abbrev pub total_of : List Work → ℕ
total_of works = sum_by (λ work. work.closed) works

-- calls closed these nodes, each once, while this key was known, handed those to others, and closed `count` in all
pub record AreClosed (problem : WeightedSum) (key : Incumbent) (nodes handed : List Node) (count : ℕ) : Type 0 where
  pub tallies : List Tally
  pub each : (place : ℕ) (tally : Tally) → slice_get tallies place ≡ Some tally → IsTally problem key tally
  pub called : (weigh : Node → ℕ) → sum_by (λ tally. weigh tally.node) tallies ≡ sum_by weigh nodes
  pub passed : (weigh : Node → ℕ) → sum_by (λ tally. sum_by weigh (handed_by problem tally)) tallies ≡ sum_by weigh handed
  pub size : count + length handed ≡ sum_by (λ tally. part_size tally.part) tallies

-- the greatest key that a worker found
abbrev pub own_of : Worker → Option Key
own_of worker = worker.own.key

-- the sum that it knows, and the greatest key that it found
abbrev pub knows_of : Worker → Incumbent
knows_of worker = record { low = worker.scout.me.0.low; own = own_of worker }

-- a worker of this problem at this word
pub record IsWorker (problem : WeightedSum) (word : TableId) (worker : Worker) : Type 0 where
  pub at_word : worker.scout.table_id ≡ word
  pub about : worker.scout.me.0.about ≡ Some problem
  pub empty : worker.scout.me.1 ≡ []
  pub owned : IsOwnKey problem (own_of worker)

-- a worker that has made no call yet
pub record IsNew (problem : WeightedSum) (word : TableId) (worker : Worker) : Type 0 where
  pub at_word : worker.scout.table_id ≡ word
  pub scout : worker.scout.me ≡ (first_scout problem, [])
  pub none : own_of worker ≡ None
  pub calls : worker.calls ≡ 0
  pub closed : worker.work.closed ≡ 0

-- a worker went on: its further calls closed these nodes and handed those to others
pub record WentOn (problem : WeightedSum) (nodes handed : List Node) (old new : Worker) : Type 0 where
  pub at_word : new.scout.table_id ≡ old.scout.table_id
  pub scout : new.scout.me ≡ (record old.scout.me.0 { low = new.scout.me.0.low }, old.scout.me.1)
  pub later : KnowsMore (knows_of old) (knows_of new)
  pub owned : IsOwnKey problem (own_of old) → IsOwnKey problem (own_of new)
  pub count : ℕ
  pub wraps : ℕ
  pub counted : old.work.closed + count ≡ new.work.closed + wraps * 2 ^ 64
  pub closed : AreClosed problem (knows_of new) nodes handed count
