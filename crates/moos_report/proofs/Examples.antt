-- Reports worked by hand.
use Rattle.std.proofs.Common.{◌≡◌, ℕ, zero, suc, ◌<◌, Bool, true, false, List, [], ◌∷◌, refl, ap, arith, Some, None, flat_map, take, drop}
use Rattle.std.specs.Prelude.{codes, pos, negsuc, IsTrue, None, slice_index, slice_index_or, IfSome}
use Rattle.std.specs.List.{All}
use Rattle.std.proofs.lemmas.List.Elements.{All-cons, All-nil}
use Rattle.std.specs.Fmt.{digits}
use Rattle.moos_post.specs.declared.entry.Call.TheVariants.{Register, Unregister, Post as Posts, Fetch}
use Rattle.moos_post.specs.declared.entry.Entry.{Entry}
use Rattle.moos_post.specs.declared.registration.Reg.{Reg}
use Rattle.moos_post.specs.declared.value.Pair.{Pair}
use Rattle.moos_post.specs.declared.value.Value.TheVariants.{Num, Text}
use Rattle.moos_post.specs.Words.{is_name}
use Rattle.std.proofs.lemmas.Bool.{false≢true}
use Rattle.moos_post.specs.Entries.{IsEntry, IsPair, IsReg}
use Rattle.ivp_domain.specs.declared.axis.Axis.{Axis}
use Rattle.ivp_cert.specs.Texts.{claim_text}
use Rattle.ivp_cert.proofs.CertExamples.{decision}
use Rattle.bhv_file.specs.declared.out.BhvFault.{BhvFault}
use Rattle.bhv_file.specs.declared.out.BhvFault.TheVariants.{NoPosition, OutsidePolygon, TooDeep, TooLate}
use Rattle.bhv_life.specs.declared.outcome.BhvState.TheVariants.{Idle, Running, Active, Completed}
use Rattle.bhv_file.specs.declared.file.Unused.{Unused}
use Rattle.helm_core.specs.declared.iteration.BhvError.{BhvError}
use Rattle.helm_core.specs.declared.iteration.How.TheVariants.{Changed, Refused, Spawned}
use Rattle.helm_core.specs.declared.iteration.Iteration.{Iteration}
use Rattle.helm_core.specs.WellFormed.{names_told}
use Rattle.moos_report.specs.declared.setup.Setup.{Setup}
use Rattle.moos_report.specs.Community.{HaveOwnNames, IsCommunity, is_one_line, StandOnLines}
use Rattle.moos_report.specs.IterationLines.{behavior_text, error_text, fetches_first, iteration_text, outcome_text}
use Rattle.moos_report.specs.Parts.{BeginsWith, EndsWithin}
use Rattle.moos_report.specs.Report.{entries_text, report_text, unused_text}
use Rattle.moos_report.specs.Setups.{setup_without_helm}

-- modes are declared
abbrev with_modes : Setup
with_modes = record { unused = []; modes = true }

abbrev first_lines : List Entry
first_lines =
    record { stamp = 0; client = 0; call = Register (record { var = codes "X"; source = codes "*"; interval = 0 } ∷ []) }
    ∷ record { stamp = 1000; client = 0; call = Posts (record { var = codes "X"; value = Num (pos 5000) } ∷ []) }
    ∷ record { stamp = 2000; client = 0; call = Fetch } ∷ record { stamp = 3000; client = 0; call = Fetch } ∷ []

first_report : report_text setup_without_helm (codes "pA" ∷ []) first_lines []
    ≡ codes "%% moosdb play 1\n%% client 0 pA\n%% entry 0 0 pA register\n%% reg X * 0\n%% entry 1 1 pA post 0 1\n1 X pA 5\n%% entry 2 2 pA fetch\n%% mail 0 1 X pA 5\n%% entry 3 3 pA fetch\n%% end 4 1\n"
unfolding digits
first_report = refl

empty_report : report_text setup_without_helm [] [] [] ≡ codes "%% moosdb play 1\n%% end 0 0\n"
unfolding digits
empty_report = refl

abbrev said : List ℕ
said = codes "say \"\\\""

abbrev second_lines : List Entry
second_lines =
    record { stamp = 0; client = 0; call = Register (record { var = codes "T*"; source = codes "a"; interval = 500 } ∷ []) }
    ∷ record { stamp = 1500; client = 1; call = Posts (record { var = codes "T"; value = Text said } ∷ record { var = codes "U"; value = Num (negsuc 1049) } ∷ []) }
    ∷ record { stamp = 2000; client = 0; call = Unregister (codes "T*") (codes "a") } ∷ record { stamp = 2250; client = 0; call = Fetch } ∷ []

second_report : report_text setup_without_helm (codes "b" ∷ codes "a" ∷ []) second_lines []
    ≡ codes "%% moosdb play 1\n%% client 0 b\n%% client 1 a\n%% entry 0 0 b register\n%% reg T* a 0.5\n%% entry 1 1.5 a post 0 2\n1.5 T a \"say \\\"\\\\\\\"\"\n1.5 U a -1.05\n%% entry 2 2 b unregister\n%% reg T* a\n%% entry 3 2.25 b fetch\n%% mail 0 1.5 T a \"say \\\"\\\\\\\"\"\n%% end 4 2\n"
unfolding digits
second_report = refl

-- A helm that registers, and then twice fetches and posts. One letter takes the override off, and the other gives it a mode;
-- it hears both in its first iteration.
abbrev wanted : List ℕ → Reg
wanted var = record { var = var; source = codes "*"; interval = 0 }

abbrev speed : Pair
speed = record { var = codes "DESIRED_SPEED"; value = Num (pos 0) }

abbrev text : List ℕ → List ℕ → Pair
text var said = record { var = var; value = Text said }

abbrev ticks : List Entry
ticks =
    record { stamp = 0; client = 1; call = Register (wanted (codes "MOOS_MANUAL_OVERRIDE") ∷ wanted (codes "DEPLOY") ∷ []) }
    ∷ record { stamp = 0; client = 0; call = Posts (text (codes "DEPLOY") (codes "true") ∷ text (codes "MOOS_MANUAL_OVERRIDE") (codes "false") ∷ []) }
    ∷ record { stamp = 0; client = 1; call = Fetch }
    ∷ record { stamp = 0; client = 1; call = Posts (text (codes "IVPHELM_STATE") (codes "DRIVE") ∷ text (codes "MODE") (codes "ACTIVE") ∷ speed ∷ text (codes "IVPHELM_ALLSTOP") (codes "NothingToDo") ∷ []) }
    ∷ record { stamp = 250; client = 1; call = Fetch } ∷ record { stamp = 250; client = 1; call = Posts (speed ∷ []) } ∷ []

abbrev in_mode : ℕ → Bool → List ℕ → Iteration
in_mode stamp parked mode = record { stamp = stamp; parked = parked; mode = mode; updates = []; states = []; faults = []; decision = None; posts = [] }

abbrev vehicle : List (List ℕ)
vehicle = codes "nav" ∷ codes "pHelmIvP" ∷ []

helm_report : report_text with_modes vehicle ticks (in_mode 0 false (codes "ACTIVE") ∷ in_mode 250 false (codes "ACTIVE") ∷ [])
    ≡ codes "%% moosdb play 1\n%% client 0 nav\n%% client 1 pHelmIvP\n%% entry 0 0 pHelmIvP register\n%% reg MOOS_MANUAL_OVERRIDE * 0\n%% reg DEPLOY * 0\n%% entry 1 0 nav post 0 2\n0 DEPLOY nav \"true\"\n0 MOOS_MANUAL_OVERRIDE nav \"false\"\n%% entry 2 0 pHelmIvP fetch\n%% mail 0 0 DEPLOY nav \"true\"\n%% mail 1 0 MOOS_MANUAL_OVERRIDE nav \"false\"\n%% entry 3 0 pHelmIvP post 2 4\n0 IVPHELM_STATE pHelmIvP \"DRIVE\"\n0 MODE pHelmIvP \"ACTIVE\"\n0 DESIRED_SPEED pHelmIvP 0\n0 IVPHELM_ALLSTOP pHelmIvP \"NothingToDo\"\n%% iteration 0 0 DRIVE\n%% mode ACTIVE\n%% none\n%% entry 4 0.25 pHelmIvP fetch\n%% entry 5 0.25 pHelmIvP post 6 1\n0.25 DESIRED_SPEED pHelmIvP 0\n%% iteration 1 0.25 DRIVE\n%% mode ACTIVE\n%% none\n%% end 6 7\n"
unfolding digits
helm_report = refl

-- a history that is cut within a tick: the iteration ends where its Post entry stands, and not where its Fetch entry does
cut_in_tick : EndsWithin vehicle [] 0 0 (take 3 ticks) × EndsWithin vehicle (take 3 ticks) 0 2 (drop 3 ticks)
cut_in_tick = ((no, (no, (no, tt))), ((λ post some. (omega arith, omega arith)), (no, ((λ post some. (omega arith, omega arith)), tt))))
  where
    no : {P : Type 0} → false ≡ true → P
    no e = absurd (false≢true e)

told_too_early : EndsWithin vehicle (take 3 ticks) 1 2 (drop 3 ticks) → ⊥
told_too_early ends = omega (arith, (ends.0 refl (omega arith)).0)

-- the part behind that cut, whose first entry ends the iteration that was begun before
tick_ended : entries_text setup_without_helm 0 (in_mode 0 false [] ∷ []) vehicle (take 3 ticks) (take 1 (drop 3 ticks))
    ≡ codes "%% entry 3 0 pHelmIvP post 2 4\n0 IVPHELM_STATE pHelmIvP \"DRIVE\"\n0 MODE pHelmIvP \"ACTIVE\"\n0 DESIRED_SPEED pHelmIvP 0\n0 IVPHELM_ALLSTOP pHelmIvP \"NothingToDo\"\n%% iteration 0 0 DRIVE\n%% none\n"
unfolding digits
tick_ended = refl

-- where the helm fetches first in a part, as often as it has fetched before is the number of the iteration that comes first
numbered : BeginsWith vehicle (take 4 ticks) 1 1 (drop 4 ticks)
numbered some fetches = refl

numbered_anew : BeginsWith vehicle (take 4 ticks) 0 1 (drop 4 ticks) → ⊥
numbered_anew begins = omega (arith, begins (omega arith) refl)

-- where it posts first, or no iteration is given, any number will do
posts_first : fetches_first vehicle (drop 3 ticks) ≡ false
posts_first = refl

none_given : (first : ℕ) → BeginsWith vehicle (take 4 ticks) first 0 (take 1 (drop 4 ticks))
none_given first some = absurd (omega (arith, some))

-- what follows an entry: what the helm posts before its first fetch is part of no iteration, and each fetch begins the next
abbrev helm_posts_now : Entry
helm_posts_now = record { stamp = 0; client = 1; call = Posts [] }

abbrev fetched : ℕ → Entry
fetched client = record { stamp = 0; client = client; call = Fetch }

abbrev follows : Setup → List Entry → Entry → List ℕ
follows setup past entry = outcome_text setup 0 (in_mode 0 true [] ∷ in_mode 500 false (codes "A:B") ∷ []) vehicle past entry

opening_is_no_iteration : follows with_modes (helm_posts_now ∷ fetched 0 ∷ []) helm_posts_now ≡ []
opening_is_no_iteration = refl

parked_iteration : follows with_modes (fetched 0 ∷ fetched 1 ∷ []) helm_posts_now ≡ codes "%% iteration 0 0 PARK\n%% mode -\n%% none\n"
unfolding digits
parked_iteration = refl

second_iteration : follows with_modes (fetched 1 ∷ helm_posts_now ∷ fetched 1 ∷ []) helm_posts_now ≡ codes "%% iteration 1 0.5 DRIVE\n%% mode A:B\n%% none\n"
unfolding digits
second_iteration = refl

iteration_without_modes : follows setup_without_helm (fetched 1 ∷ fetched 1 ∷ []) helm_posts_now ≡ codes "%% iteration 1 0.5 DRIVE\n%% none\n"
unfolding digits
iteration_without_modes = refl

other_posts : follows with_modes (fetched 1 ∷ []) (record { stamp = 0; client = 0; call = Posts [] }) ≡ []
other_posts = refl

helm_fetches_again : follows with_modes (fetched 1 ∷ []) (fetched 1) ≡ []
helm_fetches_again = refl

iteration_not_given : follows with_modes (fetched 1 ∷ fetched 1 ∷ fetched 1 ∷ []) helm_posts_now ≡ []
iteration_not_given = refl

-- what the behaviour file has that no behaviour uses
unused_parameters : flat_map unused_text (record { line = 13; name = codes "lead" } ∷ record { line = 19; name = codes "visual_hints" } ∷ []) ≡ codes "%% unused 13 lead\n%% unused 19 visual_hints\n"
unfolding digits
unused_parameters = refl

-- a helm of two behaviours: one is done with its survey, and the other raises a fault
abbrev surveyed : Iteration
surveyed = record {
  stamp = 500;
  parked = false;
  mode = [];
  updates =
      record { name = codes "op_region"; how = Refused } ∷ record { name = codes "waypt_survey"; how = Changed }
      ∷ record { name = codes "station"; how = Spawned (codes "s1") } ∷ [];
  states = record { name = codes "waypt_survey"; state = Completed } ∷ record { name = codes "op_region"; state = Running } ∷ [];
  faults = record { name = codes "op_region"; fault = NoPosition } ∷ [];
  decision = None;
  posts = [];
}

survey_done : iteration_text setup_without_helm 2 surveyed
    ≡ codes "%% iteration 2 0.5 DRIVE\n%% update op_region refused\n%% update waypt_survey taken\n%% update station spawned s1\n%% behavior waypt_survey completed\n%% behavior op_region running\n%% error op_region NoPosition\n%% none\n"
unfolding digits
survey_done = refl

other_states : flat_map behavior_text (record { name = codes "a"; state = Idle } ∷ record { name = codes "b"; state = Active } ∷ []) ≡ codes "%% behavior a idle\n%% behavior b active\n"
other_states = refl

abbrev raised : BhvFault → BhvError
raised fault = record { name = codes "r"; fault = fault }

other_faults : flat_map error_text (raised OutsidePolygon ∷ raised TooDeep ∷ raised TooLate ∷ [])
    ≡ codes "%% error r OutsidePolygon\n%% error r TooDeep\n%% error r TooLate\n"
other_faults = refl

-- a decision with a mark before each line, last of its iteration; its `end` is not the report's
decided : iteration_text setup_without_helm 0 (record (in_mode 0 false []) { decision = Some decision })
    ≡ codes "%% iteration 0 0 DRIVE\n%% ivp 1\n%% domain a:0:2:3\n%% domain b:0:1:2\n%% domain d:0:1:2\n%% function 0.002\n%% piece 0 2 0 1 0 1 0 10 0 0\n%% function 0.003\n%% piece 0 0 0 1 0 1 20 0 5 0\n%% piece 1 2 0 1 0 1 0 0 5 0\n%% end\n%% decision 0 1 0 0.075\n%% cut 0 0 : 0.075 2\n%% cut 0 1 : 0.055 10\n%% done\n"
unfolding digits
decided = refl

-- course 90 at speed 2
course_and_speed : claim_text (codes "%% ") 2 (record { point = record { at = 90 ∷ 20 ∷ 0 ∷ 0 ∷ [] }; sum = 20000000000 }) ≡ codes "%% decision 90 20 20000000\n"
unfolding digits
course_and_speed = refl

-- a mode with a line end stands on several lines, one of which could be read as one that isn't printed
two_lines : StandOnLines setup_without_helm (in_mode 0 false (codes "A\n%% end 1 0") ∷ []) → ⊥
two_lines lines = false≢true (lines.modes 0 (in_mode 0 true []) (omega arith))

abbrev OverLines : Iteration → Type 0
OverLines iteration = IfSome iteration.decision (λ decided. All (λ (axis : Axis). IsTrue (is_one_line axis.name)) decided.problem.axes)

-- so does the name of a behaviour with one
name_on_two_lines : StandOnLines setup_without_helm (record (in_mode 0 false []) { states = record { name = codes "a\n%% end 1 0"; state = Idle } ∷ [] } ∷ []) → ⊥
name_on_two_lines lines = false≢true (lines.names 0 (in_mode 0 true []) (omega arith) 0 [] (omega arith))

abbrev ToldOnLines : Iteration → Type 0
ToldOnLines iteration = All (λ name. IsTrue (is_one_line name)) (names_told iteration)

one_line : StandOnLines setup_without_helm (in_mode 0 false (codes "A:B") ∷ [])
one_line = record {
  unused = All-nil (λ (unused : Unused). IsTrue (is_one_line unused.name));
  modes = All-cons (λ (iteration : Iteration). IsTrue (is_one_line iteration.mode)) (in_mode 0 false (codes "A:B")) [] refl (All-nil (λ (iteration : Iteration). IsTrue (is_one_line iteration.mode)));
  names = All-cons ToldOnLines (in_mode 0 false (codes "A:B")) [] (All-nil (λ name. IsTrue (is_one_line name))) (All-nil ToldOnLines);
  axes = All-cons OverLines (in_mode 0 false (codes "A:B")) [] tt (All-nil OverLines);
}

abbrev Named : List ℕ → Type 0
Named name = IsTrue (is_name name)

-- a history is one that a report is printed of where its parts are what their types let them be
first_community : IsCommunity (codes "pA" ∷ []) first_lines
first_community = record {
  named = All-cons Named (codes "pA") [] refl (All-nil Named);
  own = λ one other first second same. omega (arith, first, second);
  entries = each (record { stamp = omega arith; call = All-cons IsReg (record { var = codes "X"; source = codes "*"; interval = 0 }) [] (record { var = refl; source = refl; interval = omega arith }) (All-nil IsReg) })
      (record { stamp = omega arith; call = (omega arith, All-cons IsPair (record { var = codes "X"; value = Num (pos 5000) }) [] (record { var = refl; value = (grind arith, grind arith) }) (All-nil IsPair)) })
      (record { stamp = omega arith; call = tt }) (record { stamp = omega arith; call = tt });
  clients = own;
}
  where
    own : (k : ℕ) (d : Entry) → k < 4 → (slice_index_or first_lines k d).client < 1
    own zero d within = omega arith
    own (suc zero) d within = omega arith
    own (suc (suc zero)) d within = omega arith
    own (suc (suc (suc zero))) d within = omega arith
    own (suc (suc (suc (suc k)))) d within = absurd (omega (arith, within))

    each : {a b c d : Entry} → IsEntry a → IsEntry b → IsEntry c → IsEntry d → All IsEntry (a ∷ b ∷ c ∷ d ∷ [])
    each {a = a} {b = b} {c = c} {d = d} p q r s =
        All-cons IsEntry a (b ∷ c ∷ d ∷ []) p (All-cons IsEntry b (c ∷ d ∷ []) q (All-cons IsEntry c (d ∷ []) r (All-cons IsEntry d [] s (All-nil IsEntry))))

-- nor is one by a client that isn't there, or with a name that is none
other_client : IsCommunity [] first_lines → ⊥
other_client community = omega (arith, community.clients 0 (record { stamp = 0; client = 0; call = Fetch }) (omega arith))

no_name : IsCommunity (codes "1A" ∷ []) first_lines → ⊥
no_name community = false≢true (community.named 0 [] (omega arith))

-- two clients of one name are not told apart
same_names : HaveOwnNames (codes "pA" ∷ codes "pA" ∷ []) → ⊥
same_names own = absurd (omega (arith, own 0 1 (omega arith) (omega arith) refl))

own_names : HaveOwnNames (codes "pA" ∷ codes "pB" ∷ [])
own_names zero zero one other same = refl
own_names zero (suc zero) one other same = omega (arith, ap (λ name. slice_index name 1) same)
own_names (suc zero) zero one other same = omega (arith, ap (λ name. slice_index name 1) same)
own_names (suc zero) (suc zero) one other same = refl
own_names zero (suc (suc n)) one other same = absurd (omega (arith, other))
own_names (suc zero) (suc (suc n)) one other same = absurd (omega (arith, other))
own_names (suc (suc n)) m one other same = absurd (omega (arith, one))
