-- Files of behaviours and refusals worked by hand.
use Rattle.std.proofs.Common.{Bool, ◌≡◌, ℕ, ◌*◌, true, false, List, [], ◌∷◌, ◌++◌, map, Some, None, refl}
use Rattle.std.specs.Prelude.{codes, Ok, Err, neg_ℤ, pos, Result}
use Rattle.helm_cond.specs.declared.operator.Operator.TheVariants.{Equal}
use Rattle.helm_cond.specs.Conditions.{Compare, Condition}
use Rattle.helm_geo.specs.declared.spot.Spot.{Spot}
use Rattle.ivp_domain.specs.declared.axis.Axis.{Axis}
use Rattle.moos_post.specs.declared.value.Pair.{Pair}
use Rattle.moos_post.specs.declared.value.Value.TheVariants.{Text}
use Rattle.moos_text.specs.declared.cause.Cause.TheVariants.{B1, B2, B3, B4, B5, B6, B10, B11}
use Rattle.moos_text.specs.declared.cause.ReadFault.{ReadFault}
use Rattle.moos_text.specs.declared.cause.ReadFault.TheVariants.{At}
use Rattle.moos_text.specs.Refusals.{and_then}
use Rattle.bhv_file.specs.declared.common.Common.{Common}
use Rattle.bhv_file.specs.declared.file.BhvFile.{BhvFile}
use Rattle.bhv_file.specs.declared.file.Unused.{Unused}
use Rattle.bhv_file.specs.declared.spec.Shape.{Shape}
use Rattle.bhv_file.specs.declared.spec.Shape.TheVariants.{Speed, Depth, MaxDepth, Timer, Waypoint, Loiter, StationKeep, OpRegion, AvoidCollision}
use Rattle.bhv_file.specs.declared.spec.Spec.{Spec}
use Rattle.bhv_reader.specs.Behaviors.{behaviors_of}
use Rattle.bhv_file.specs.Params.{with_param}

-- an axis of two points
abbrev axis : List ℕ → Axis
axis name = record { name = name; low = pos 0; high = pos 1000; points = 2 }

-- course, speed and depth
abbrev domain : List Axis
domain = axis (codes "course") ∷ axis (codes "speed") ∷ axis (codes "depth") ∷ []

-- a place in whole units east and south
abbrev south : ℕ → ℕ → Spot
south x y = record { x = pos (x * 1000); y = neg_ℤ (pos (y * 1000)) }

-- a variable has this text
abbrev is : List ℕ → List ℕ → Condition
is var text = Compare (record { var = var; operator = Equal; literal = Text text })

-- a flag
abbrev flag : List ℕ → List ℕ → Pair
flag var text = record { var = var; value = Text text }

-- a survey, a way back and a depth
abbrev survey : List ℕ
survey =
    codes "initialize DEPLOY = false\ninitialize RETURN = false\n\nBehavior = BHV_Waypoint\n{\n  name = waypt_survey\n  pwt = 100\n  condition = RETURN = false\n  condition = DEPLOY = true\n  endflag = RETURN = true\n  updates = WPT_UPDATE\n  perpetual = true\n  lead = 8\n  speed = 2   // meters per second\n  capture_radius = 5.0\n  slip_radius = 15.0\n  points = 60,-40 : 60,-160 : 150,-160 : 180,-100 : 150,-40\n  repeat = 1\n  visual_hints = nextpt_color=red\n}\n\n"
    ++ codes "Behavior = BHV_Waypoint\n{\n  name = waypt_return\n  pwt = 100\n  condition = RETURN = true\n  condition = DEPLOY = true\n  endflag = RETURN = false\n  endflag = DEPLOY = false\n  speed = 2.0\n  capture_radius = 2.0\n  slip_radius = 8.0\n  points = 0,-20\n}\n"
    ++ codes "\nBehavior = BHV_ConstantDepth\n{\n  name = const_depth\n  pwt = 100\n  condition = DEPLOY = true\n  duration = no-time-limit\n  depth = 10\n}\n"

-- what of a file each example shows
abbrev unused_of : Result BhvFile ReadFault → Result (List Unused) ReadFault
unused_of read = and_then (λ file. Ok file.unused) read

abbrev specs_of : Result BhvFile ReadFault → Result (List Spec) ReadFault
specs_of read = and_then (λ file. Ok (map (λ block. block.spec) file.blocks)) read

abbrev shapes_of : Result BhvFile ReadFault → Result (List Shape) ReadFault
shapes_of read = and_then (λ file. Ok (map (λ block. block.spec.shape) file.blocks)) read

abbrev commons_of : Result BhvFile ReadFault → Result (List Common) ReadFault
commons_of read = and_then (λ file. Ok (map (λ block. block.common) file.blocks)) read

survey_unused : unused_of (behaviors_of domain survey) ≡ Ok (record { line = 13; name = codes "lead" } ∷ record { line = 19; name = codes "visual_hints" } ∷ [])
survey_unused = refl

survey_specs : specs_of (behaviors_of domain survey)
    ≡ Ok (record { weight = 100000; shape = Waypoint (south 60 40 ∷ south 60 160 ∷ south 150 160 ∷ south 180 100 ∷ south 150 40 ∷ []) (pos 2000) (pos 5000) (pos 15000) false (Some 1) }
    ∷ record { weight = 100000; shape = Waypoint (south 0 20 ∷ []) (pos 2000) (pos 2000) (pos 8000) false (Some 0) }
    ∷ record { weight = 100000; shape = Depth (pos 10000) (pos 2000) (pos 20000) (pos 25000) } ∷ [])
survey_specs = refl

survey_commons : commons_of (behaviors_of domain survey)
    ≡ Ok (record {
      name = codes "waypt_survey";
      conds = is (codes "RETURN") (codes "false") ∷ is (codes "DEPLOY") (codes "true") ∷ [];
      runflags = [];
      idleflags = [];
      activeflags = [];
      inactiveflags = [];
      endflags = flag (codes "RETURN") (codes "true") ∷ [];
      updates = Some (codes "WPT_UPDATE");
      duration = None;
      idle_decay = true;
      perpetual = true;
      template = false;
    }
    ∷ record {
      name = codes "waypt_return";
      conds = is (codes "RETURN") (codes "true") ∷ is (codes "DEPLOY") (codes "true") ∷ [];
      runflags = [];
      idleflags = [];
      activeflags = [];
      inactiveflags = [];
      endflags = flag (codes "RETURN") (codes "false") ∷ flag (codes "DEPLOY") (codes "false") ∷ [];
      updates = None;
      duration = None;
      idle_decay = true;
      perpetual = false;
      template = false;
    }
    ∷ record {
      name = codes "const_depth";
      conds = is (codes "DEPLOY") (codes "true") ∷ [];
      runflags = [];
      idleflags = [];
      activeflags = [];
      inactiveflags = [];
      endflags = [];
      updates = None;
      duration = None;
      idle_decay = true;
      perpetual = false;
      template = false;
    } ∷ [])
survey_commons = refl

survey_cut : behaviors_of domain (codes "initialize DEPLOY = false\ninitialize RETURN = false\n\nBehavior = BHV_Waypoint\n{\n  name = waypt_survey\n  pwt = 100\n  condition = RETURN = false\n  condition = DEPLOY = true\n  endflag = RETURN = true\n  updates = WPT_UPDATE\n  perpetual = true\n  lead = 8\n  speed = 2   // meters per second\n  capture_radius = 5.0\n  slip_radius = 15.0\n  points = 60,-40 : 60,-160 : 150,-160 : 180,-100 : 150,-40\n  repeat = 1\n  visual_hints = nextpt_color=red\n}\n\n" ++ codes "Behavior = BHV_Waypoint\n{\n  name = waypt_return\n  pwt = 100\n  condition = RETURN = true\n  condition = DEPLOY = true\n  endflag = RETURN = false\n  endflag = DEPLOY = false\n  speed = 2.0\n") ≡ Err (At 30 B2)
survey_cut = refl

survey_without_depth : behaviors_of (axis (codes "course") ∷ axis (codes "speed") ∷ []) survey ≡ Err (At 43 B10)
survey_without_depth = refl

unknown_type : behaviors_of domain (codes "Behavior = BHV_Way") ≡ Err (At 1 B3)
unknown_type = refl

type_in_other_letters : behaviors_of domain (codes "Behavior = bhv_timer") ≡ Err (At 1 B3)
type_in_other_letters = refl

no_type : behaviors_of domain (codes "Behavior = {") ≡ Err (At 1 B1)
no_type = refl

no_equals : behaviors_of domain (codes "Behavior = BHV_Timer {\nname = a\nspeed 2\n}") ≡ Err (At 3 B1)
no_equals = refl

no_parameter_name : behaviors_of domain (codes "Behavior = BHV_Timer {\n9 = 2\n}") ≡ Err (At 2 B1)
no_parameter_name = refl

open_quote : behaviors_of domain (codes "Behavior = BHV_Timer {\nx = \"\n}") ≡ Err (At 2 B1)
open_quote = refl

behind_the_end : behaviors_of domain (codes "Behavior = BHV_Timer {\n} x") ≡ Err (At 2 B1)
behind_the_end = refl

no_behavior_name : behaviors_of domain (codes "Behavior = BHV_Timer {\n}") ≡ Err (At 2 B11)
no_behavior_name = refl

no_name_as_a_value : behaviors_of domain (codes "Behavior = BHV_Timer {\nname = 9\n}") ≡ Err (At 2 B6)
no_name_as_a_value = refl

same_name : behaviors_of domain (codes "Behavior = BHV_Timer {\nname = a\n}\nBehavior = BHV_Timer {\nNAME = a\n}") ≡ Err (At 5 B4)
same_name = refl

same_name_although_given_up : behaviors_of domain (codes "Behavior = BHV_Timer {\nname = a\n}\nBehavior = BHV_Timer {\nname = a\nname = b\n}") ≡ Err (At 5 B4)
same_name_although_given_up = refl

bad_condition : behaviors_of domain (codes "Behavior = BHV_Timer {\ncondition = X\n}") ≡ Err (At 2 B5)
bad_condition = refl

no_condition : behaviors_of domain (codes "Behavior = BHV_Timer {\ncondition =\n}") ≡ Err (At 2 B5)
no_condition = refl

bad_flag : behaviors_of domain (codes "Behavior = BHV_Timer {\nendflag = X\n}") ≡ Err (At 2 B6)
bad_flag = refl

bad_updates : behaviors_of domain (codes "Behavior = BHV_Timer {\nupdates = a b\n}") ≡ Err (At 2 B6)
bad_updates = refl

great_weight : behaviors_of domain (codes "Behavior = BHV_Timer {\npwt = 10000.001\n}") ≡ Err (At 2 B6)
great_weight = refl

long_duration : behaviors_of domain (codes "Behavior = BHV_Timer {\nduration = 1000000.001\n}") ≡ Err (At 2 B6)
long_duration = refl

word_in_other_letters : behaviors_of domain (codes "Behavior = BHV_Timer {\nperpetual = True\n}") ≡ Err (At 2 B6)
word_in_other_letters = refl

-- A template without `updates` is B11, at its closing line; the last `templating` counts, and its words are exact.
template_unheard : behaviors_of domain (codes "Behavior = BHV_Timer {\nname = t\ntemplating = spawn\n}") ≡ Err (At 4 B11)
template_unheard = refl

template_in_other_letters : behaviors_of domain (codes "Behavior = BHV_Timer {\ntemplating = Spawn\n}") ≡ Err (At 2 B6)
template_in_other_letters = refl

abbrev are_templates : Result BhvFile ReadFault → Result (List Bool) ReadFault
are_templates read = and_then (λ file. Ok (map (λ block. block.common.template) file.blocks)) read

a_template : are_templates (behaviors_of domain (codes "Behavior = BHV_Timer {\nname = t\ntemplating = spawn\nupdates = T_UP\n}\nBehavior = BHV_Timer {\nname = u\ntemplating = spawn\ntemplating = disallowed\n}")) ≡ Ok (true ∷ false ∷ [])
a_template = refl

heading_beyond_360 : behaviors_of domain (codes "Behavior = BHV_ConstantHeading {\nheading = 360.001\n}") ≡ Err (At 2 B6)
heading_beyond_360 = refl

radius_of_0 : behaviors_of domain (codes "Behavior = BHV_Waypoint {\nradius = 0\n}") ≡ Err (At 2 B6)
radius_of_0 = refl

repeat_in_parts : behaviors_of domain (codes "Behavior = BHV_Waypoint {\nrepeat = 1.5\n}") ≡ Err (At 2 B6)
repeat_in_parts = refl

no_points : behaviors_of domain (codes "Behavior = BHV_Waypoint {\npoints =\n}") ≡ Err (At 2 B6)
no_points = refl

three_numbers : behaviors_of domain (codes "Behavior = BHV_Waypoint {\npoints = 1,2,3\n}") ≡ Err (At 2 B6)
three_numbers = refl

open_points : behaviors_of domain (codes "Behavior = BHV_Waypoint {\npoints = pts={1,2\n}") ≡ Err (At 2 B6)
open_points = refl

two_stations : behaviors_of domain (codes "Behavior = BHV_StationKeep {\npoint = 0,0 : 1,1\n}") ≡ Err (At 2 B6)
two_stations = refl

polygon_with_a_dent : behaviors_of domain (codes "Behavior = BHV_Loiter {\npolygon = 0,0 : 4,0 : 1,1 : 0,4\n}") ≡ Err (At 2 B6)
polygon_with_a_dent = refl

heading_is_missing : behaviors_of domain (codes "Behavior = BHV_ConstantHeading {\nname = a\npeakwidth = 3\n}") ≡ Err (At 4 B11)
heading_is_missing = refl

speed_is_missing : behaviors_of domain (codes "Behavior = BHV_Waypoint {\nname = a\npoint = 0,0\n}") ≡ Err (At 4 B11)
speed_is_missing = refl

points_are_missing : behaviors_of domain (codes "Behavior = BHV_Waypoint {\nname = a\nspeed = 1\n}") ≡ Err (At 4 B11)
points_are_missing = refl

radii_and_a_missing_station : behaviors_of domain (codes "Behavior = BHV_StationKeep {\nname = a\nouter_radius = 4\n}") ≡ Err (At 4 B11)
radii_and_a_missing_station = refl

radii_and_a_missing_axis : behaviors_of [] (codes "Behavior = BHV_StationKeep {\nname = a\npoint = 0,0\nouter_radius = 4\n}") ≡ Err (At 5 B6)
radii_and_a_missing_axis = refl

missing_axis : behaviors_of [] (codes "Behavior = BHV_StationKeep {\nname = a\ncenter_activate = true\n}") ≡ Err (At 4 B10)
missing_axis = refl

no_axis_is_needed : shapes_of (behaviors_of [] (codes "Behavior = BHV_Timer {\nname = a\n}\nBehavior = BHV_OpRegion\n{\nname = b\n}")) ≡ Ok (Timer ∷ OpRegion None None None ∷ [])
no_axis_is_needed = refl

-- a name that its own block gave up is free again
name_is_free : shapes_of (behaviors_of domain (codes "Behavior = BHV_Timer {\nname = a\nname = b\n}\nBehavior = BHV_Timer {\nname = a\n}")) ≡ Ok (Timer ∷ Timer ∷ [])
name_is_free = refl

-- a parameter of another type is unused, whatever its value; its name stands as it is written
other_type : unused_of (behaviors_of domain (codes "Behavior = BHV_Timer {\nname = a\nHeading = x\npoints\t=\n}")) ≡ Ok (record { line = 3; name = codes "Heading" } ∷ record { line = 4; name = codes "points" } ∷ [])
other_type = refl

-- of several values the last counts, and of a weight three decimals
last_counts : specs_of (behaviors_of domain (codes "Behavior = BHV_ConstantSpeed {\nname = a\npwt = 3\nSPEED = 1\nspeed = 2.5\nPwt = 99.9999\n}")) ≡ Ok (record { weight = 99999; shape = Speed (pos 2500) (pos 100) (pos 1000) (pos 25000) } ∷ [])
last_counts = refl

both_forms : shapes_of (behaviors_of domain (codes "Behavior = BHV_Loiter {\nname = a\nspeed = 1\npolygon = pts={ 0 , 0 :4,0:4,4 }\n}\nBehavior = BHV_Waypoint {\nname = b\nspeed = 1\npolygon = 1 0,2\nradius = 1\norder = reversed\nrepeat = forever\n}"))
    ≡ Ok (Loiter (record { x = pos 0; y = pos 0 } ∷ record { x = pos 4000; y = pos 0 } ∷ record { x = pos 4000; y = pos 4000 } ∷ []) (pos 1000) (pos 10000) (pos 20000) true
    ∷ Waypoint (record { x = pos 10000; y = pos 2000 } ∷ []) (pos 1000) (pos 1000) (pos 15000) true None ∷ [])
both_forms = refl

-- a station that is taken anew, and one that is given; a depth that isn't exceeded, and a region
stations : shapes_of (behaviors_of domain (codes "Behavior = BHV_StationKeep {\nname = a\ncenter_activate = true\n}\nBehavior = BHV_StationKeep {\nname = b\npoint = -1,2\nouter_speed = 3\n}\nBehavior = BHV_MaxDepth {\nname = c\nmax_depth = 7\n}\nBehavior = BHV_OpRegion {\nname = d\nmax_depth = 8\nmax_time = 0.5\n}"))
    ≡ Ok (StationKeep None true (pos 4000) (pos 15000) (pos 1200) ∷ StationKeep (Some (record { x = neg_ℤ (pos 1000); y = pos 2000 })) false (pos 4000) (pos 15000) (pos 3000)
    ∷ MaxDepth (pos 7000) (pos 20000) ∷ OpRegion None (Some (pos 8000)) (Some 500) ∷ [])
stations = refl

-- a behaviour that keeps clear of a contact: by its defaults, and with all its parameters
clear_of_nobody : shapes_of (behaviors_of domain (codes "Behavior = BHV_AvoidCollision {\nname = avd\n}"))
    ≡ Ok (AvoidCollision (record { contact = None; contact_x = None; contact_y = None; contact_speed = None; contact_heading = None; near = pos 10000; far = pos 75000; resolved = false; piece_size = 12 }) ∷ [])
clear_of_nobody = refl

clear_of_one : shapes_of (behaviors_of domain (codes "Behavior = BHV_AvoidCollision {\nname = avd\ncontact = b\ncontact_x = -3\ncontact_y = 4.5\ncontact_speed = 100\ncontact_heading = 360\nmin_util_cpa_dist = 5\nmax_util_cpa_dist = 5.001\nresolved = true\npiece_size = 3\n}"))
    ≡ Ok (AvoidCollision (record {
      contact = Some (codes "b");
      contact_x = Some (neg_ℤ (pos 3000));
      contact_y = Some (pos 4500);
      contact_speed = Some (pos 100000);
      contact_heading = Some (pos 360000);
      near = pos 5000;
      far = pos 5001;
      resolved = true;
      piece_size = 3;
    }) ∷ [])
clear_of_one = refl

far_as_near : behaviors_of domain (codes "Behavior = BHV_AvoidCollision {\nname = avd\nmax_util_cpa_dist = 10\n}") ≡ Err (At 4 B6)
far_as_near = refl

pieces_without_places : behaviors_of domain (codes "Behavior = BHV_AvoidCollision {\npiece_size = 0\n}") ≡ Err (At 2 B6)
pieces_without_places = refl

-- a domain whose speeds go up to this one, and that has no course
abbrev up_to : ℕ → List Axis
up_to high = record { name = codes "speed"; low = pos 0; high = pos high; points = 2 } ∷ []

fast_without_course : behaviors_of (up_to 101000) (codes "Behavior = BHV_AvoidCollision {\nname = avd\n}") ≡ Err (At 3 B6)
fast_without_course = refl

slow_without_course : behaviors_of (up_to 100000) (codes "Behavior = BHV_AvoidCollision {\nname = avd\n}") ≡ Err (At 3 B10)
slow_without_course = refl

-- one parameter of a station
abbrev station : Spec
station = record { weight = 100000; shape = StationKeep None true (pos 4000) (pos 15000) (pos 1200) }

no_relation_is_judged : with_param station (codes "Outer_Radius") (codes "1") ≡ Some (record { weight = 100000; shape = StationKeep None true (pos 4000) (pos 1000) (pos 1200) })
no_relation_is_judged = refl

weight_is_set : with_param station (codes "pwt") (codes "7.9") ≡ Some (record { weight = 7900; shape = station.shape })
weight_is_set = refl

name_is_not_set : with_param station (codes "name") (codes "b") ≡ None
name_is_not_set = refl

other_parameter : with_param station (codes "speed") (codes "1") ≡ None
other_parameter = refl

bad_value : with_param station (codes "inner_radius") (codes "0") ≡ None
bad_value = refl
