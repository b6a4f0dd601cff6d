-- What a helm has said of a variable, and what it desires.
use Rattle.std.specs.Prelude.{◌≡◌, ℕ, zero, suc, pos, if◌then◌else◌, List, [], ◌∷◌, ◌++◌, fold, bytes_eq, codes, Option, Some, None}
use Rattle.moos_post.specs.declared.value.Pair.{Pair}
use Rattle.moos_post.specs.declared.value.Value.{Value}
use Rattle.helm_core.specs.Iterations.{iteration_at}
use Rattle.helm_core.specs.PastIterations.{PastIteration, past_iteration_at}
use Rattle.helm_core.specs.Plans.{Plan}
use Rattle.helm_core.specs.Posts.{desired_posts, number_pair}
use Rattle.helm_core.specs.Ticks.{Tick}

-- the last value of a variable among these posts, if it is posted there
abbrev pub last_said : List ℕ → List Pair → Option Value
last_said var posts = fold (λ latest pair. if bytes_eq pair.var var then Some pair.value else latest) None posts

-- all that a helm posts before iteration i: first the pairs of its file, and then what each iteration posts
abbrev pub posted_before : Plan → List Tick → ℕ → List Pair
posted_before plan ticks zero = plan.opening
posted_before plan ticks (suc i) = posted_before plan ticks i ++ (iteration_at plan ticks i).posts

-- what is desired in an iteration: the heading, the speed and the depth that it posts behind its flags, as far as it posts them
abbrev pub desires_of : Plan → PastIteration → List Pair
desires_of plan now = desired_posts plan.axes now.seen.parked now.showings

-- what iteration i desires
abbrev pub desires_at : Plan → List Tick → ℕ → List Pair
desires_at plan ticks i = desires_of plan (past_iteration_at plan ticks i)

-- nothing is decided in iteration i, and the speed 0 is all that it desires
pub record DecidesNothing (plan : Plan) (ticks : List Tick) (i : ℕ) : Type 0 where
  pub decision : (iteration_at plan ticks i).decision ≡ None
  pub desires : desires_at plan ticks i ≡ number_pair (codes "DESIRED_SPEED") (pos 0) ∷ []
