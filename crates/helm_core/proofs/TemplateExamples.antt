-- Templates and what they make, worked by hand.
use Rattle.std.proofs.Common.{◌≡◌, ℕ, List, [], ◌∷◌, map, Some, None, refl}
use Rattle.std.specs.Prelude.{Bool, true, false, pos, bytes_eq, codes, Option, replicate, length}
use Rattle.moos_post.specs.declared.value.Pair.{Pair}
use Rattle.moos_db.specs.declared.mail.Letter.{Letter}
use Rattle.ivp_domain.specs.declared.axis.Axis.{Axis}
use Rattle.bhv_file.specs.declared.file.Block.{Block}
use Rattle.bhv_file.specs.declared.spec.Shape.TheVariants.{Timer}
use Rattle.bhv_kinds.specs.Changes.{params_at}
use Rattle.bhv_life.specs.declared.outcome.BhvState.{BhvState}
use Rattle.bhv_life.specs.declared.outcome.BhvState.TheVariants.{Idle, Running, Completed}
use Rattle.helm_core.specs.declared.iteration.BhvNow.{BhvNow}
use Rattle.helm_core.specs.declared.iteration.How.{How}
use Rattle.helm_core.specs.declared.iteration.How.TheVariants.{Refused, Changed, Spawned}
use Rattle.helm_core.specs.declared.iteration.Update.{Update}
use Rattle.helm_core.specs.Plans.{Plan}
use Rattle.helm_core.specs.Ticks.{Tick, tick_of}
use Rattle.helm_core.specs.Behaviors.{BhvSoFar, Birth, unstarted}
use Rattle.helm_core.specs.Templates.{named_pairs, spawned}
use Rattle.helm_core.specs.Lists.{list_at}
use Rattle.helm_core.specs.Iterations.{iteration_at}
use Rattle.helm_core.specs.Posts.{helm_posts, text_pair, number_pair}

abbrev letter : Pair → Letter
letter pair = record { number = 0; post = record { stamp = 0; source = 0; var = pair.var; value = pair.value } }

abbrev tick : ℕ → List Pair → Tick
tick stamp said = tick_of stamp (map letter said)

abbrev up : List ℕ → Pair
up text = text_pair (codes "T_UP") text

abbrev drive : Pair
drive = text_pair (codes "MOOS_MANUAL_OVERRIDE") (codes "false")

abbrev course : Axis
course = record { name = codes "course"; low = pos 0; high = pos 359000; points = 360 }

-- a timer of half a second
abbrev block : List ℕ → Option (List ℕ) → Bool → Block
block name updates perpetual = record {
  common = record { name = name; conds = []; runflags = []; idleflags = []; activeflags = []; inactiveflags = []; endflags = number_pair (codes "END") (pos 1) ∷ []; updates = updates; duration = Some 500; idle_decay = true; perpetual = perpetual; template = bytes_eq name (codes "tmpl") };
  spec = record { weight = 100000; shape = Timer };
}

abbrev plan_with : List Block → Plan
plan_with blocks = record { axes = course ∷ []; opening = []; decls = []; blocks = blocks }

abbrev plan : Plan
plan = plan_with (block (codes "tmpl") (Some (codes "T_UP")) false ∷ [])

abbrev said : List ℕ → How → Update
said name how = record { name = name; how = how }

abbrev is : List ℕ → BhvState → BhvNow
is name state = record { name = name; state = state }

-- The row of the request.
abbrev row : List Tick
row = tick 0 (drive ∷ up (codes "name=t1 # pwt=5") ∷ []) ∷ tick 250 (up (codes "name=t1 # pwt=abc") ∷ []) ∷ tick 500 [] ∷ tick 750 [] ∷ []

row_updates : map (λ i. (iteration_at plan row i).updates) (0 ∷ 1 ∷ 2 ∷ 3 ∷ []) ≡ (said (codes "tmpl") (Spawned (codes "t1")) ∷ []) ∷ (said (codes "tmpl") Refused ∷ []) ∷ [] ∷ [] ∷ []
row_updates = refl

row_states : map (λ i. (iteration_at plan row i).states) (0 ∷ 1 ∷ 2 ∷ 3 ∷ []) ≡ (is (codes "t1") Running ∷ []) ∷ (is (codes "t1") Running ∷ []) ∷ (is (codes "t1") Completed ∷ []) ∷ [] ∷ []
row_states = refl

-- A made one has its end flag in the iteration in which it completes, and none later.
row_end : map (λ i. length (helm_posts plan row i)) (0 ∷ 1 ∷ 2 ∷ 3 ∷ []) ≡ 3 ∷ 1 ∷ 2 ∷ 1 ∷ []
row_end = refl

-- The weights that it has.
abbrev weights : List BhvSoFar → List ℕ
weights ones = map (λ one. (params_at one.block.spec one.changes).weight) ones

row_weights : map (λ i. weights (list_at plan row i)) (0 ∷ 1 ∷ 2 ∷ 3 ∷ []) ≡ (5000 ∷ []) ∷ (5000 ∷ []) ∷ (5000 ∷ []) ∷ [] ∷ []
row_weights = refl

-- Its name is free again in the iteration after it completed; what is then made of it is another one, and begins anew.
abbrev again : List Tick
again = tick 0 (drive ∷ up (codes "name=t1") ∷ []) ∷ tick 500 (up (codes "name=t1 # pwt=7") ∷ []) ∷ tick 750 (up (codes "name=t1") ∷ up (codes "name=t1 # pwt=9") ∷ []) ∷ tick 1000 [] ∷ []

again_updates : map (λ i. (iteration_at plan again i).updates) (1 ∷ 2 ∷ []) ≡ (said (codes "tmpl") Changed ∷ []) ∷ (said (codes "tmpl") (Spawned (codes "t1")) ∷ said (codes "tmpl") Changed ∷ []) ∷ []
again_updates = refl

again_states : map (λ i. (iteration_at plan again i).states) (0 ∷ 1 ∷ 2 ∷ 3 ∷ []) ≡ (is (codes "t1") Running ∷ []) ∷ (is (codes "t1") Completed ∷ []) ∷ (is (codes "t1") Running ∷ []) ∷ (is (codes "t1") Running ∷ []) ∷ []
again_states = refl

abbrev births : List BhvSoFar → List (Option Birth)
births ones = map (λ one. one.born) ones

again_births : map (λ i. births (list_at plan again i)) (1 ∷ 2 ∷ []) ≡ (Some (record { iteration = 0; letter = 0 }) ∷ []) ∷ (Some (record { iteration = 2; letter = 0 }) ∷ []) ∷ []
again_births = refl

again_weights : map (λ i. weights (list_at plan again i)) (0 ∷ 1 ∷ 2 ∷ []) ≡ (100000 ∷ []) ∷ (7000 ∷ []) ∷ (9000 ∷ []) ∷ []
again_weights = refl

-- What a text says to a template.
says_name : named_pairs (codes " NAME = t1 ") ≡ Some (record { name = codes "t1"; pairs = None })
says_name = refl

says_pairs : named_pairs (codes "name=t1#pwt=5 # a=b") ≡ Some (record { name = codes "t1"; pairs = Some (codes "pwt=5 # a=b") })
says_pairs = refl

says_empty_pair : named_pairs (codes "name=t1#") ≡ Some (record { name = codes "t1"; pairs = Some [] })
says_empty_pair = refl

no_name_first : named_pairs (codes "pwt=5 # name=t1") ≡ None
no_name_first = refl

no_name_at_all : named_pairs (codes "t1") ≡ None
no_name_at_all = refl

name_of_two_words : named_pairs (codes "name=t 1") ≡ None
name_of_two_words = refl

empty_name : named_pairs (codes "name=") ≡ None
empty_name = refl

-- Each way to be refused, beside a behaviour `b` of the file and one `m` that the other template made.
abbrev beside : Plan
beside = plan_with (block (codes "b") (Some (codes "B_UP")) false ∷ block (codes "tmpl") (Some (codes "T_UP")) false ∷ [])

abbrev hows : List Pair → List Update
hows letters = (iteration_at beside (tick 0 (drive ∷ letters) ∷ []) 0).updates

refuses : hows (number_pair (codes "T_UP") (pos 1) ∷ up (codes "pwt=5") ∷ up (codes "name=b") ∷ up (codes "name=tmpl") ∷ up (codes "name=x # pwt=10001") ∷ up (codes "name=x # name=y") ∷ up (codes "name=x #") ∷ up (codes "name=x # a=b") ∷ [])
    ≡ replicate 8 (said (codes "tmpl") Refused)
refuses = refl

-- Updates are in file order, whichever letter came first; a made one hears no variable but its template's.
in_file_order : hows (up (codes "name=x") ∷ text_pair (codes "B_UP") (codes "pwt=1") ∷ up (codes "name=x # pwt=2") ∷ [])
    ≡ said (codes "b") Changed ∷ said (codes "tmpl") (Spawned (codes "x")) ∷ said (codes "tmpl") Changed ∷ []
in_file_order = refl

-- They are made and changed while parked too, in the order of their letters behind those of the file.
parked_too : (iteration_at beside (tick 0 (up (codes "name=x") ∷ up (codes "name=a") ∷ []) ∷ []) 0).states ≡ is (codes "b") Idle ∷ is (codes "x") Idle ∷ is (codes "a") Idle ∷ []
parked_too = refl

-- A perpetual one stays and begins anew.
abbrev lasting : Plan
lasting = plan_with (block (codes "tmpl") (Some (codes "T_UP")) true ∷ [])

stays_on : map (λ i. (iteration_at lasting row i).states) (2 ∷ 3 ∷ []) ≡ (is (codes "t1") Completed ∷ []) ∷ (is (codes "t1") Running ∷ []) ∷ []
stays_on = refl

-- The 64th: a template and 63 others leave no room.
abbrev others : ℕ → List BhvSoFar
others n = replicate n (unstarted (block (codes "o") None false))

room_for_one : (spawned plan.axes plan.blocks 0 (up (codes "name=x") ∷ up (codes "name=y") ∷ []) (others 62)).answers ≡ said (codes "tmpl") (Spawned (codes "x")) ∷ said (codes "tmpl") Refused ∷ []
room_for_one = refl
