-- Iterations worked by hand.
use Rattle.std.proofs.Common.{◌≡◌, ℕ, ◌*◌, List, [], ◌∷◌, map, Some, None, refl, arith}
use Rattle.std.specs.Prelude.{Bool, true, false, pos, codes, IsTrue, Option}
use Rattle.std.proofs.lemmas.Int.{ints}
use Rattle.std.proofs.lemmas.List.Elements.{All-cons, All-nil}
use Rattle.moos_post.specs.Entries.{IsPair}
use Rattle.moos_post.specs.Words.{is_name}
use Rattle.moos_post.specs.declared.registration.Reg.{Reg}
use Rattle.moos_post.specs.declared.value.Pair.{Pair}
use Rattle.moos_post.specs.declared.value.Value.TheVariants.{Text}
use Rattle.moos_db.specs.declared.mail.Letter.{Letter}
use Rattle.ivp_domain.specs.declared.axis.Axis.{Axis}
use Rattle.helm_cond.specs.declared.operator.Operator.TheVariants.{Equal}
use Rattle.helm_cond.specs.Conditions.{Condition, Compare, And}
use Rattle.bhv_file.specs.declared.decl.Decl.{Decl}
use Rattle.bhv_file.specs.declared.file.Block.{Block}
use Rattle.bhv_file.specs.declared.spec.Shape.TheVariants.{Timer}
use Rattle.bhv_life.specs.declared.outcome.BhvState.{BhvState}
use Rattle.bhv_life.specs.declared.outcome.BhvState.TheVariants.{Idle, Running, Completed}
use Rattle.helm_core.specs.declared.iteration.BhvNow.{BhvNow}
use Rattle.helm_core.specs.Plans.{Plan, wants_of}
use Rattle.helm_core.specs.Ticks.{Tick, is_parked, stamp_of_last, tick_of}
use Rattle.helm_core.specs.PastIterations.{past_iteration_at}
use Rattle.helm_core.specs.Posts.{helm_posts, number_pair, text_pair}
use Rattle.helm_core.specs.Iterations.{iteration_at}
use Rattle.helm_core.specs.WellFormed.{IsWellFormed}

-- a letter of the client of number 0, that says this
abbrev letter : Pair → Letter
letter pair = record { number = 0; post = record { stamp = 0; source = 0; var = pair.var; value = pair.value } }

abbrev tick : ℕ → List Pair → Tick
tick stamp said = tick_of stamp (map letter said)

abbrev is : List ℕ → List ℕ → Condition
is var text = Compare (record { var = var; operator = Equal; literal = Text text })

abbrev units : List ℕ → ℕ → Pair
units var n = number_pair var (pos (1000 * n))

-- the override, in its first and its second spelling
abbrev override : List ℕ → Pair
override text = text_pair (codes "MOOS_MANUAL_OVERRIDE") text

abbrev overide : List ℕ → Pair
overide text = text_pair (codes "MOOS_MANUAL_OVERIDE") text

-- Parked at first, by either spelling, by the latest of both, and by whatever isn't the text false.
parked_first : is_parked [] ≡ true
parked_first = refl

parked_unasked : is_parked (text_pair (codes "DEPLOY") (codes "false") ∷ []) ≡ true
parked_unasked = refl

driving : is_parked (override (codes "false") ∷ []) ≡ false
driving = refl

driving_by_the_other : is_parked (overide (codes "False") ∷ []) ≡ false
driving_by_the_other = refl

second_spelling_later : is_parked (override (codes "false") ∷ overide (codes "true") ∷ []) ≡ true
second_spelling_later = refl

first_spelling_later : is_parked (overide (codes "true") ∷ override (codes "FALSE") ∷ []) ≡ false
first_spelling_later = refl

parked_by_a_number : is_parked (override (codes "false") ∷ units (codes "MOOS_MANUAL_OVERRIDE") 0 ∷ []) ≡ true
parked_by_a_number = refl

parked_by_a_part : is_parked (override (codes "falsey") ∷ []) ≡ true
parked_by_a_part = refl

still_driving : is_parked (override (codes "false") ∷ text_pair (codes "MANUAL") (codes "true") ∷ []) ≡ false
still_driving = refl

-- ACTIVE while deployed, else INACTIVE.
abbrev active : Decl
active = record { name = codes "ACTIVE"; parent = None; conds = is (codes "DEPLOY") (codes "true") ∷ []; other = Some (codes "INACTIVE") }

abbrev course : Axis
course = record { name = codes "course"; low = pos 0; high = pos 359000; points = 360 }

abbrev moded : Plan
moded = record { axes = course ∷ []; opening = []; decls = active ∷ []; blocks = [] }

abbrev deploy : List ℕ → Pair
deploy text = text_pair (codes "DEPLOY") text

-- Deployed and given the vehicle; nothing; the override; the vehicle given back without being deployed; deployed again.
abbrev run : List Tick
run =
    tick 0 (deploy (codes "true") ∷ override (codes "false") ∷ []) ∷ tick 250 [] ∷ tick 500 (overide (codes "true") ∷ [])
    ∷ tick 750 (deploy (codes "false") ∷ override (codes "false") ∷ []) ∷ tick 1000 (deploy (codes "true") ∷ []) ∷ []

-- All is posted at first, in order.
first : helm_posts moded run 0
    ≡ text_pair (codes "IVPHELM_STATE") (codes "DRIVE") ∷ text_pair (codes "MODE") (codes "ACTIVE") ∷ units (codes "DESIRED_SPEED") 0
    ∷ text_pair (codes "IVPHELM_ALLSTOP") (codes "NothingToDo") ∷ []
first = refl

-- And then what changes, and the speed.
second : helm_posts moded run 1 ≡ units (codes "DESIRED_SPEED") 0 ∷ []
second = refl

parks : helm_posts moded run 2
    ≡ text_pair (codes "IVPHELM_STATE") (codes "PARK") ∷ units (codes "DESIRED_SPEED") 0 ∷ text_pair (codes "IVPHELM_ALLSTOP") (codes "ManualOverride") ∷ []
parks = refl

drives_again : helm_posts moded run 3
    ≡ text_pair (codes "IVPHELM_STATE") (codes "DRIVE") ∷ text_pair (codes "MODE") (codes "INACTIVE") ∷ units (codes "DESIRED_SPEED") 0
    ∷ text_pair (codes "IVPHELM_ALLSTOP") (codes "NothingToDo") ∷ []
drives_again = refl

changes_mode : helm_posts moded run 4 ≡ text_pair (codes "MODE") (codes "ACTIVE") ∷ units (codes "DESIRED_SPEED") 0 ∷ []
changes_mode = refl

-- The mode is found while parked too, and the answer has it where it isn't posted.
parked_mode : iteration_at moded run 2
    ≡ record { stamp = 500; parked = true; mode = codes "ACTIVE"; updates = []; states = []; faults = []; decision = None; posts = helm_posts moded run 2 }
parked_mode = refl

-- What was mailed while parked is known afterwards.
abbrev parked_run : List Tick
parked_run = tick 0 (deploy (codes "true") ∷ []) ∷ tick 250 (override (codes "false") ∷ []) ∷ []

starts_parked : iteration_at moded parked_run 0
    ≡ record {
      stamp = 0;
      parked = true;
      mode = codes "ACTIVE";
      updates = [];
      states = [];
      faults = [];
      decision = None;
      posts =
          text_pair (codes "IVPHELM_STATE") (codes "PARK") ∷ text_pair (codes "MODE") (codes "ACTIVE") ∷ units (codes "DESIRED_SPEED") 0
          ∷ text_pair (codes "IVPHELM_ALLSTOP") (codes "ManualOverride") ∷ [];
    }
starts_parked = refl

known_later : iteration_at moded parked_run 1
    ≡ record {
      stamp = 250;
      parked = false;
      mode = codes "ACTIVE";
      updates = [];
      states = [];
      faults = [];
      decision = None;
      posts = text_pair (codes "IVPHELM_STATE") (codes "DRIVE") ∷ units (codes "DESIRED_SPEED") 0 ∷ text_pair (codes "IVPHELM_ALLSTOP") (codes "NothingToDo") ∷ [];
    }
known_later = refl

-- Each iteration has its own letters: those of the one before aren't heard again.
own_letters : (past_iteration_at moded run 1).seen.letters ≡ []
own_letters = refl

own_letters_later : (past_iteration_at moded run 2).seen.letters ≡ overide (codes "true") ∷ []
own_letters_later = refl

-- Where no mode is declared none is posted, and it is the empty text.
abbrev plain : Plan
plain = record moded { decls = [] }

without_modes : iteration_at plain run 0
    ≡ record {
      stamp = 0;
      parked = false;
      mode = [];
      updates = [];
      states = [];
      faults = [];
      decision = None;
      posts = text_pair (codes "IVPHELM_STATE") (codes "DRIVE") ∷ units (codes "DESIRED_SPEED") 0 ∷ text_pair (codes "IVPHELM_ALLSTOP") (codes "NothingToDo") ∷ [];
    }
without_modes = refl

-- A mode that is the empty text is posted like any other.
abbrev bare : Plan
bare = record moded { decls = record active { other = None } ∷ [] }

empty_mode : helm_posts bare (tick 0 [] ∷ []) 0
    ≡ text_pair (codes "IVPHELM_STATE") (codes "PARK") ∷ text_pair (codes "MODE") [] ∷ units (codes "DESIRED_SPEED") 0
    ∷ text_pair (codes "IVPHELM_ALLSTOP") (codes "ManualOverride") ∷ []
empty_mode = refl

-- a behaviour that lasts half a second, with a flag for each change: the variable is the word, and the number is its own
abbrev timer : ℕ → List Condition → Option (List ℕ) → Bool → Block
timer number conds updates perpetual = record {
  common = record {
    name = codes "t";
    conds = conds;
    runflags = units (codes "RUN") number ∷ [];
    idleflags = units (codes "IDLE") number ∷ [];
    activeflags = units (codes "ACTIVE") number ∷ [];
    inactiveflags = units (codes "INACTIVE") number ∷ [];
    endflags = units (codes "END") number ∷ [];
    updates = updates;
    duration = Some 500;
    idle_decay = true;
    perpetual = perpetual;
    template = false;
  };
  spec = record { weight = 100000; shape = Timer };
}

-- such a behaviour is this
abbrev now : BhvState → BhvNow
now state = record { name = codes "t"; state = state }

abbrev deployed : Condition
deployed = is (codes "DEPLOY") (codes "true")

-- one behaviour that ends for good and one that begins again, while deployed
abbrev timed : Plan
timed = record plain { blocks = timer 1 (deployed ∷ []) None false ∷ timer 2 (deployed ∷ []) None true ∷ [] }

abbrev timed_run : List Tick
timed_run =
    tick 0 (deploy (codes "true") ∷ override (codes "false") ∷ []) ∷ tick 250 [] ∷ tick 500 [] ∷ tick 750 [] ∷ tick 1000 (override (codes "true") ∷ []) ∷ []

-- Their flags are posted in file order, before the speed.
both_run : helm_posts timed timed_run 0
    ≡ text_pair (codes "IVPHELM_STATE") (codes "DRIVE") ∷ units (codes "RUN") 1 ∷ units (codes "RUN") 2 ∷ units (codes "DESIRED_SPEED") 0
    ∷ text_pair (codes "IVPHELM_ALLSTOP") (codes "NothingToDo") ∷ []
both_run = refl

both_still_run : helm_posts timed timed_run 1 ≡ units (codes "DESIRED_SPEED") 0 ∷ []
both_still_run = refl

both_end : helm_posts timed timed_run 2 ≡ units (codes "END") 1 ∷ units (codes "END") 2 ∷ units (codes "DESIRED_SPEED") 0 ∷ []
both_end = refl

one_begins_again : helm_posts timed timed_run 3 ≡ units (codes "RUN") 2 ∷ units (codes "DESIRED_SPEED") 0 ∷ []
one_begins_again = refl

-- The override idles the one that can run.
one_is_idle : helm_posts timed timed_run 4
    ≡ text_pair (codes "IVPHELM_STATE") (codes "PARK") ∷ units (codes "IDLE") 2 ∷ units (codes "DESIRED_SPEED") 0
    ∷ text_pair (codes "IVPHELM_ALLSTOP") (codes "ManualOverride") ∷ []
one_is_idle = refl

states_in_file_order : map (λ i. (iteration_at timed timed_run i).states) (0 ∷ 2 ∷ 3 ∷ 4 ∷ [])
    ≡ (now Running ∷ now Running ∷ []) ∷ (now Completed ∷ now Completed ∷ []) ∷ (now Completed ∷ now Running ∷ []) ∷ (now Completed ∷ now Idle ∷ []) ∷ []
states_in_file_order = refl

-- A condition is asked with the iteration's own mode and mail.
abbrev moded_timer : Plan
moded_timer = record moded { blocks = timer 1 (is (codes "MODE") (codes "ACTIVE") ∷ []) None true ∷ [] }

by_mode : map (λ i. (iteration_at moded_timer run i).states) (0 ∷ 2 ∷ 3 ∷ 4 ∷ []) ≡ (now Running ∷ []) ∷ (now Idle ∷ []) ∷ (now Idle ∷ []) ∷ (now Completed ∷ []) ∷ []
by_mode = refl

-- The clock.
no_stamp : stamp_of_last [] ≡ 0
no_stamp = refl

last_of_several : stamp_of_last run ≡ 1000
last_of_several = refl

-- Each variable is wanted once, where it is first read, and MODE never.
abbrev child : Decl
child = record {
  name = codes "NEAR";
  parent = Some 0;
  conds = is (codes "MODE") (codes "ACTIVE") ∷ And (is (codes "NAV_X") (codes "0")) (And (is (codes "RETURN") (codes "true")) (is (codes "DEPLOY") (codes "true"))) ∷ [];
  other = None;
}

abbrev reg : List ℕ → Reg
reg var = record { var = var; source = codes "*"; interval = 0 }

wants_once : wants_of (record moded { decls = active ∷ child ∷ [] })
    ≡ reg (codes "MOOS_MANUAL_OVERRIDE") ∷ reg (codes "MOOS_MANUAL_OVERIDE") ∷ reg (codes "NAV_X") ∷ reg (codes "NAV_Y") ∷ reg (codes "NAV_DEPTH")
    ∷ reg (codes "DEPLOY") ∷ reg (codes "RETURN") ∷ []
wants_once = refl

wants_in_any_case : wants_of plain
    ≡ reg (codes "MOOS_MANUAL_OVERRIDE") ∷ reg (codes "MOOS_MANUAL_OVERIDE") ∷ reg (codes "NAV_X") ∷ reg (codes "NAV_Y") ∷ reg (codes "NAV_DEPTH") ∷ []
wants_in_any_case = refl

-- The variables of a behaviour come last: those of its conditions, and then the one of its updates, which may be MODE.
wants_of_behaviors : wants_of (record plain { blocks = timer 1 (is (codes "MODE") (codes "ACTIVE") ∷ is (codes "NAV_X") (codes "0") ∷ deployed ∷ []) (Some (codes "T_UP")) true ∷ timer 2 (deployed ∷ []) (Some (codes "MODE")) true ∷ [] })
    ≡ reg (codes "MOOS_MANUAL_OVERRIDE") ∷ reg (codes "MOOS_MANUAL_OVERIDE") ∷ reg (codes "NAV_X") ∷ reg (codes "NAV_Y") ∷ reg (codes "NAV_DEPTH")
    ∷ reg (codes "DEPLOY") ∷ reg (codes "T_UP") ∷ []
wants_of_behaviors = refl

-- An iteration is well formed, but not where its mode stands on two lines or a variable has a blank.
second_iteration : IsWellFormed (iteration_at moded run 1)
second_iteration = record {
  posts = (omega arith, All-cons IsPair (units (codes "DESIRED_SPEED") 0) [] (record { var = refl; value = (omega (arith, ints), omega (arith, ints)) }) (All-nil IsPair));
  mode = refl;
  names = All-nil (λ name. IsTrue (is_name name));
  axes = tt;
}

mode_on_two_lines : IsWellFormed (record (iteration_at moded run 1) { mode = codes "A\nB" }) → ⊥
mode_on_two_lines is = let text : false ≡ true = is.mode in cc

variable_with_a_blank : IsWellFormed (record (iteration_at moded run 1) { posts = deploy (codes "true") ∷ text_pair (codes "A B") (codes "x") ∷ [] }) → ⊥
variable_with_a_blank is =
    let pair : IsPair (text_pair (codes "A B") (codes "x")) = is.posts.1 1 (deploy (codes "true")) (omega arith) in
    let name : false ≡ true = pair.var in
    cc

-- nor where a behaviour's name has a blank
name_with_a_blank : IsWellFormed (record (iteration_at moded run 1) { states = record { name = codes "a b"; state = Idle } ∷ [] }) → ⊥
name_with_a_blank is = let name : false ≡ true = is.names 0 [] (omega arith) in cc
