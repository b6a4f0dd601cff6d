-- What the definitions of the laws say of small helms, worked by hand.
use Rattle.std.proofs.Common.{◌≡◌, ◌*◌, ◌/◌, ℕ, pos, List, [], ◌∷◌, map, Some, None, refl}
use Rattle.std.specs.Prelude.{true, false, codes}
use Rattle.moos_post.specs.declared.value.Pair.{Pair}
use Rattle.moos_post.specs.declared.value.Value.TheVariants.{Num}
use Rattle.moos_db.specs.declared.mail.Letter.{Letter}
use Rattle.ivp_domain.specs.declared.axis.Axis.{Axis}
use Rattle.ivp_build.specs.Places.{steps_of}
use Rattle.ivp_build.specs.Sampled.{first_of_run}
use Rattle.helm_geo.specs.declared.spot.Spot.{Spot}
use Rattle.bhv_file.specs.declared.file.Block.{Block}
use Rattle.bhv_file.specs.declared.out.BhvFault.TheVariants.{NoPosition, OutsidePolygon}
use Rattle.bhv_file.specs.declared.spec.Shape.{Shape}
use Rattle.bhv_file.specs.declared.spec.Shape.TheVariants.{OpRegion, Speed, Timer}
use Rattle.helm_core.specs.Behaviors.{begun_at, unstarted}
use Rattle.helm_core.specs.Iterations.{error_of, iteration_at}
use Rattle.helm_core.specs.PastIterations.{past_iteration_at}
use Rattle.helm_core.specs.Plans.{Plan}
use Rattle.helm_core.specs.Posts.{allstop_of, number_pair, text_pair}
use Rattle.helm_core.specs.Ticks.{Tick, seen_at, tick_of}
use Rattle.helm_laws.specs.Bounds.{most_worth}
use Rattle.helm_laws.specs.Influences.{has_say}
use Rattle.helm_laws.specs.Inputs.{input_of}
use Rattle.helm_laws.specs.Said.{desires_at, last_said, posted_before}
use Rattle.helm_laws.specs.Stops.{lacks_speed, must_stop}

-- a letter of the client of this number, that says this
abbrev letter : ℕ → Pair → Letter
letter source pair = record { number = 0; post = record { stamp = 0; source = source; var = pair.var; value = pair.value } }

abbrev tick : ℕ → List Pair → Tick
tick stamp said = tick_of stamp (map (letter 0) said)

abbrev units : List ℕ → ℕ → Pair
units var n = number_pair var (pos (1000 * n))

abbrev override : List ℕ → Pair
override text = text_pair (codes "MOOS_MANUAL_OVERRIDE") text

-- The last word among some posts, whatever is said of other variables.
last_word : last_said (codes "DESIRED_SPEED") (units (codes "DESIRED_SPEED") 3 ∷ units (codes "DESIRED_DEPTH") 7 ∷ units (codes "DESIRED_SPEED") 0 ∷ []) ≡ Some (Num (pos 0))
last_word = refl

no_word : last_said (codes "DESIRED_SPEED") (units (codes "DESIRED_DEPTH") 7 ∷ []) ≡ None
no_word = refl

-- a behaviour with nothing but its name, its flag for the end of being active, its weight and its shape
abbrev behavior : List ℕ → ℕ → Shape → Block
behavior name weight shape = record {
  common = record {
    name = name;
    conds = [];
    runflags = [];
    idleflags = units (codes "DESIRED_SPEED") 3 ∷ [];
    activeflags = [];
    inactiveflags = [];
    endflags = [];
    updates = None;
    duration = None;
    idle_decay = true;
    perpetual = false;
    template = false;
  };
  spec = record { weight = weight * 1000; shape = shape };
}

abbrev spot : ℕ → ℕ → Spot
spot x y = record { x = pos (1000 * x); y = pos (1000 * y) }

-- a square of 10 m
abbrev square : List Spot
square = spot 0 0 ∷ spot 10 0 ∷ spot 10 10 ∷ spot 0 10 ∷ []

abbrev region : ℕ → Block
region weight = behavior (codes "region") weight (OpRegion (Some square) None None)

abbrev timer : Block
timer = behavior (codes "timer") 100 Timer

abbrev depth : Axis
depth = record { name = codes "depth"; low = pos 0; high = pos 100000; points = 101 }

-- over a depth alone, so neither course nor speed is lacking
abbrev watched : ℕ → Plan
watched weight = record { axes = depth ∷ []; opening = []; decls = []; blocks = region weight ∷ timer ∷ [] }

-- Given the vehicle inside the square; outside it; parked, and still parked; given back without a word on where it is.
abbrev run : List Tick
run =
    tick 0 (override (codes "false") ∷ units (codes "NAV_X") 5 ∷ units (codes "NAV_Y") 5 ∷ []) ∷ tick 1000 (units (codes "NAV_X") 11 ∷ []) ∷ tick 2000 (override (codes "true") ∷ [])
    ∷ tick 3000 [] ∷ tick 4000 (override (codes "False") ∷ []) ∷ []

-- A vehicle whose behaviours want nothing must stop, as one that is parked or whose region is left.
stops : map (must_stop (watched 100) run) (0 ∷ 1 ∷ 2 ∷ 3 ∷ 4 ∷ []) ≡ true ∷ true ∷ true ∷ true ∷ true ∷ []
stops = refl

reasons : map (λ i. allstop_of (watched 100) (past_iteration_at (watched 100) run i)) (0 ∷ 1 ∷ 2 ∷ 3 ∷ 4 ∷ [])
    ≡ codes "NothingToDo" ∷ codes "BehaviorError" ∷ codes "ManualOverride" ∷ codes "ManualOverride" ∷ codes "BehaviorError" ∷ []
reasons = refl

lacks_none : lacks_speed (watched 100).axes (past_iteration_at (watched 100) run 0) ≡ false
lacks_none = refl

-- The fault is told with the region's name, also where its weight is 0.
left_told : (iteration_at (watched 0) run 1).faults ≡ error_of (codes "region") OutsidePolygon ∷ []
left_told = refl

left_reason : allstop_of (watched 0) (past_iteration_at (watched 0) run 1) ≡ codes "BehaviorError"
left_reason = refl

left_desires : desires_at (watched 0) run 1 ≡ units (codes "DESIRED_SPEED") 0 ∷ []
left_desires = refl

-- A region that sees no position raises a fault too.
lost_told : (iteration_at (watched 0) (tick 0 (override (codes "false") ∷ []) ∷ []) 0).faults ≡ error_of (codes "region") NoPosition ∷ []
lost_told = refl

-- The first parked iteration raises flags, of which one says a speed; the next one posts the speed 0 alone.
first_parked : (iteration_at (watched 100) run 2).posts
    ≡ text_pair (codes "IVPHELM_STATE") (codes "PARK") ∷ units (codes "DESIRED_SPEED") 3 ∷ units (codes "DESIRED_SPEED") 3 ∷ units (codes "DESIRED_SPEED") 0
    ∷ text_pair (codes "IVPHELM_ALLSTOP") (codes "ManualOverride") ∷ []
first_parked = refl

next_parked : (iteration_at (watched 100) run 3).posts ≡ units (codes "DESIRED_SPEED") 0 ∷ []
next_parked = refl

-- The last word of all is the helm's 0, and not the flag.
still_stopped : last_said (codes "DESIRED_SPEED") (posted_before (watched 100) run 3) ≡ Some (Num (pos 0))
still_stopped = refl

-- A region has a say where it raises a fault, whatever its weight is; a timer never has one.
region_says : map (λ weight. has_say (begun_at (watched 0).axes (seen_at [] run 1) (unstarted (region weight)))) (0 ∷ 100 ∷ []) ≡ true ∷ true ∷ []
region_says = refl

none_says : map (λ block. has_say (begun_at (watched 0).axes (seen_at [] run 0) (unstarted block))) (region 100 ∷ timer ∷ []) ≡ false ∷ false ∷ []
none_says = refl

-- and is worth nothing anywhere
none_worth : most_worth (watched 0).axes (seen_at [] run 0) (unstarted timer) ≡ 0
none_worth = refl

-- One that wants a speed has a say at a weight above 0, and is worth at most that times 100.
abbrev speed : Axis
speed = record { name = codes "speed"; low = pos 0; high = pos 2000; points = 3 }

abbrev going : ℕ → Block
going weight = behavior (codes "go") weight (Speed (pos 1000) (pos 0) (pos 0) (pos 25000))

going_says : map (λ weight. has_say (begun_at (speed ∷ []) (seen_at [] run 0) (unstarted (going weight)))) (0 ∷ 5 ∷ []) ≡ false ∷ true ∷ []
going_says = refl

going_worth : most_worth (speed ∷ []) (seen_at [] run 0) (unstarted (going 5)) ≡ 500000000
going_worth = refl

-- A helm that wants a speed desires it; at weight 0 it must stop.
abbrev driven : ℕ → Plan
driven weight = record { axes = speed ∷ []; opening = []; decls = []; blocks = going weight ∷ [] }

drives : must_stop (driven 5) run 0 ≡ false
drives = refl

goes : desires_at (driven 5) run 0 ≡ units (codes "DESIRED_SPEED") 1 ∷ []
goes = refl

weightless : desires_at (driven 0) run 0 ≡ units (codes "DESIRED_SPEED") 0 ∷ []
weightless = refl

-- Over a course too a lone speed isn't enough: the vehicle must stop.
abbrev course : Axis
course = record { name = codes "course"; low = pos 0; high = pos 2000; points = 3 }

abbrev unsteered : Plan
unsteered = record { axes = course ∷ speed ∷ []; opening = []; decls = []; blocks = going 5 ∷ [] }

lone_speed : must_stop unsteered run 0 ≡ true
lone_speed = refl

lone_reason : allstop_of unsteered (past_iteration_at unsteered run 0) ≡ codes "MissingDecVars"
lone_reason = refl

lone_desires : desires_at unsteered run 0 ≡ units (codes "DESIRED_SPEED") 0 ∷ []
lone_desires = refl

-- Of a width of one place or less all is lost from one place to the next, of 50 places a fiftieth.
narrow : map (λ width. 100000 / steps_of depth width) (0 ∷ 1000 ∷ 50000 ∷ []) ≡ 100000 ∷ 100000 ∷ 2000 ∷ []
narrow = refl

-- Who posted a letter, and when, is no input.
same_input : input_of (tick_of 5 (letter 0 (units (codes "X") 1) ∷ [])) ≡ input_of (tick_of 5 (letter 7 (units (codes "X") 1) ∷ []))
same_input = refl

-- Of boxes of five places the sampled places are those that five divides.
sampled_places : map (λ place. first_of_run 5 (place / 5)) (0 ∷ 4 ∷ 5 ∷ 11 ∷ []) ≡ 0 ∷ 0 ∷ 5 ∷ 10 ∷ []
sampled_places = refl
