-- One mail more: the latest numbers, and the turn that is made by them.
use Rattle.std.proofs.Common.{◌≡◌, ℕ, suc, zero, ◌≤◌, ◌-◌, Bool, true, false, cond, List, [], ◌∷◌, ◌++◌, length, length-append, take, refl, ap, sym, ◌∙◌, arith, append-nil, append_assoc}
use Rattle.std.specs.Prelude.{ℤ, codes, bytes_eq, None, Option, Some}
use Rattle.std.specs.List.{flat_map}
use Rattle.std.proofs.lemmas.Grind.{flat_map-append}
use Rattle.std.proofs.lemmas.List.{take-append-le, take_all}
use Rattle.std.proofs.lemmas.List.Sums.{fold-append}
use Rattle.moos_post.specs.declared.value.Pair.{Pair}
use Rattle.helm_cond.specs.Learnt.{Knowledge, known_with, latest_of}
use Rattle.bhv_file.specs.Known.{as_number, latest_number}
use Rattle.sim_vehicle.specs.declared.settings.CraftSettings.{CraftSettings}
use Rattle.sim_vehicle.specs.Motion.{hull_after}
use Rattle.sim_vehicle.specs.Steering.{drive_of, rig_after}
use Rattle.sim_clients.specs.Clients.{drive_by, error_by, hull_after_turns, hull_by, number_by, rig_after_turns}
use Rattle.sim_clients.specs.Keeping.{number_after, number_with}

-- ---- numbers

-- one pair more
one_more : (var : List ℕ) (before : List Pair) (pair : Pair) → number_with var (latest_number (latest_of before) var) pair ≡ latest_number (latest_of (before ++ pair ∷ [])) var
one_more var before pair =
    at (bytes_eq var pair.var) ∙ ap (λ (known : Knowledge). latest_number known var) (sym (fold-append (λ (known : Knowledge) (pair : Pair). known_with known pair.var pair.value) (λ var. None) before (pair ∷ [])))
  where
    at : (is : Bool) → cond is (as_number pair.value) (latest_number (latest_of before) var) ≡ latest_number (λ other. cond is (Some pair.value) (latest_of before var)) var
    at true = refl
    at false = refl

-- all pairs of a mail
all_more : (var : List ℕ) (before pairs : List Pair) → number_after var (latest_number (latest_of before) var) pairs ≡ latest_number (latest_of (before ++ pairs)) var
all_more var before [] = ap (λ all. latest_number (latest_of all) var) (sym (append-nil before))
all_more var before (pair ∷ more) =
    ap (λ number. number_after var number more) (one_more var before pair) ∙ all_more var (before ++ pair ∷ []) more
    ∙ ap (λ all. latest_number (latest_of all) var) (append_assoc before (pair ∷ []) more)

pub number_more : (var : List ℕ) (mails : List (List Pair)) (said : List Pair) (kept : Option ℤ) → kept ≡ number_by mails var → number_after var kept said ≡ number_by (mails ++ said ∷ []) var
number_more var mails said kept is =
    ap (λ number. number_after var number said) is ∙ all_more var (flat_map (λ said. said) mails) said
    ∙ ap (λ all. latest_number (latest_of all) var) (ap (λ last. flat_map (λ (said : List Pair). said) mails ++ last) (sym (append-nil said)) ∙ sym (flat_map-append (λ (said : List Pair). said) mails (said ∷ [])))

-- ---- turns

-- how many mails there are with one more
many : (mails : List (List Pair)) (said : List Pair) → length (mails ++ said ∷ []) ≡ suc (length mails)
many mails said = omega (arith, length-append mails (said ∷ []))

all_taken : (mails : List (List Pair)) (said : List Pair) → take (suc (length mails)) (mails ++ said ∷ []) ≡ mails ++ said ∷ []
all_taken mails said = take_all (suc (length mails)) (mails ++ said ∷ []) (omega (arith, many mails said))

-- turns don't change with later mails
pub rig_stays : (craft : CraftSettings) (mails more : List (List Pair)) (i : ℕ) → i ≤ length mails → rig_after_turns craft (mails ++ more) i ≡ rig_after_turns craft mails i
rig_stays craft mails more zero below = refl
rig_stays craft mails more (suc i) below =
    λ j. rig_after craft (rig_stays craft mails more i (omega (arith, below)) j) (error_by (take-append-le (suc i) mails more below j))

pub hull_stays : (craft : CraftSettings) (period : ℕ) (mails more : List (List Pair)) (i : ℕ) → i ≤ length mails → hull_after_turns craft period (mails ++ more) i ≡ hull_after_turns craft period mails i
hull_stays craft period mails more zero below = refl
hull_stays craft period mails more (suc i) below =
    λ j. hull_after craft (hull_stays craft period mails more i (omega (arith, below)) j) (number_by (take-append-le (suc i) mails more below j) (codes "DESIRED_RUDDER"))
    (number_by (take-append-le (suc i) mails more below j) (codes "DESIRED_THRUST")) (number_by (take-append-le (suc i) mails more below j) (codes "DESIRED_DEPTH")) period

-- what the controller is after one turn more, and what it asks for
pub rig_next : (craft : CraftSettings) (mails : List (List Pair)) (said : List Pair)
    → rig_after_turns craft (mails ++ said ∷ []) (length (mails ++ said ∷ [])) ≡ rig_after craft (rig_after_turns craft mails (length mails)) (error_by (mails ++ said ∷ []))
rig_next craft mails said =
    ap (rig_after_turns craft (mails ++ said ∷ [])) (many mails said)
    ∙ (λ j. rig_after craft (rig_stays craft mails (said ∷ []) (length mails) (omega arith) j) (error_by (all_taken mails said j)))

pub drive_next : (craft : CraftSettings) (mails : List (List Pair)) (said : List Pair)
    → drive_by craft (mails ++ said ∷ []) ≡ drive_of craft (rig_after_turns craft mails (length mails)) (error_by (mails ++ said ∷ [])) (number_by (mails ++ said ∷ []) (codes "DESIRED_SPEED"))
drive_next craft mails said =
    ap (λ rig. drive_of craft rig (error_by (mails ++ said ∷ [])) (number_by (mails ++ said ∷ []) (codes "DESIRED_SPEED")))
    (ap (rig_after_turns craft (mails ++ said ∷ [])) before ∙ rig_stays craft mails (said ∷ []) (length mails) (omega arith))
  where
    before : length (mails ++ said ∷ []) - 1 ≡ length mails
    before = omega (arith, many mails said)

-- where the vehicle is after one turn more
pub hull_next : (craft : CraftSettings) (period : ℕ) (mails : List (List Pair)) (said : List Pair)
    → hull_by craft period (mails ++ said ∷ [])
    ≡ hull_after craft (hull_by craft period mails) (number_by (mails ++ said ∷ []) (codes "DESIRED_RUDDER")) (number_by (mails ++ said ∷ []) (codes "DESIRED_THRUST")) (number_by (mails ++ said ∷ []) (codes "DESIRED_DEPTH")) period
hull_next craft period mails said =
    ap (hull_after_turns craft period (mails ++ said ∷ [])) (many mails said)
    ∙ (λ j. hull_after craft (hull_stays craft period mails (said ∷ []) (length mails) (omega arith) j) (number_by (all_taken mails said j) (codes "DESIRED_RUDDER"))
    (number_by (all_taken mails said j) (codes "DESIRED_THRUST")) (number_by (all_taken mails said j) (codes "DESIRED_DEPTH")) period)
