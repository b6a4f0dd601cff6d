-- A history that a simulation leaves is that of a community: each client has a name of its own, and each entry is as its type lets it be.
use Rattle.std.proofs.Common.{◌≡◌, ℕ, suc, zero, ◌+◌, ◌-◌, ◌*◌, ◌/◌, ◌<◌, ◌≤◌, ◌^◌, ◌||◌, Bool, true, false, cond, nat_eq, nat_lt, List, [], ◌∷◌, length, map, take, codes, refl, sym, ◌∙◌, subst, arith, length-append}
use Rattle.std.specs.Prelude.{◌≤ℤ◌, ℤ, is_some, pos, IsTrue, None, Option, Some}
use Rattle.std.specs.List.{All, AllByRecursion as Each, list_any}
use Rattle.std.proofs.lemmas.Bool.{and_parts, eqb-true, ltb-false, ltb-true}
use Rattle.std.proofs.lemmas.Int.{ints}
use Rattle.std.proofs.lemmas.List.Elements.{All-append, All-cons, All-from_recursion, All-head, All-map, All-nil, All-tail, All-weaker}
use Rattle.std.proofs.lemmas.List.Folds.{list_any-append}
use Rattle.contact_avoid.specs.declared.ranges.Ranges.{Ranges}
use Rattle.helm_core.specs.Plans.{wants_of}
use Rattle.helm_core.specs.Ticks.{Tick}
use Rattle.helm_core.specs.WellFormed.{IsWellFormedPlan}
use Rattle.moos_jobs.proofs.HelmCommunities.{all_named, AreGoodFiles, clients_with, names_apart, stand_on_lines, tick_early}
use Rattle.moos_jobs.specs.HelmFiles.{setup_of}
use Rattle.moos_client.specs.Calls.{entries_of, entry_of}
use Rattle.moos_client.specs.Hearing.{heard_in}
use Rattle.moos_lawful.specs.Answering.{Answerer, answers_of, openings, turns_from}
use Rattle.moos_lawful.specs.Schedules.{clients_below}
use Rattle.moos_play.specs.Lawful.{heard_of, helm_number, mailed_in, names_with, HelmSetup}
use Rattle.moos_play.specs.Schedules.{answering}
use Rattle.moos_post.specs.declared.entry.Call.TheVariants.{Register, Post as Posts, Fetch}
use Rattle.moos_post.specs.declared.entry.Entry.{Entry}
use Rattle.moos_post.specs.declared.value.Pair.{Pair}
use Rattle.moos_post.specs.Entries.{IsCall, IsPair, IsReg}
use Rattle.moos_post.specs.History.{History}
use Rattle.moos_post.specs.Words.{is_name, is_pattern, IsMilli}
use Rattle.moos_report.proofs.Communities.{all_entries, apart_behind, AreApart, IsBy, own_lines, own_names}
use Rattle.moos_report.specs.Community.{IsCommunity}
use Rattle.moos_report.specs.Report.{ReportsTell}
use Rattle.moos_simulate.proofs.Going.{as_many}
use Rattle.moos_simulate.specs.Simulated.{contact_clients, contact_mgr, gear_names, mails_said, marine_pid, sim_marine, vehicle_clients, vehicle_names}
use Rattle.script_reader.specs.Named.{has_name}
use Rattle.script_reader.specs.Validity.{IsValid}
use Rattle.sim_clients.specs.Clients.{contact_mgr_regs, contacts_by, drive_by, drive_pairs, hull_by, hull_pairs, marine_pid_regs, pair_numbered, reg_simple, sim_marine_regs}
use Rattle.sim_vehicle.specs.declared.hull.Hull.{Hull}
use Rattle.sim_vehicle.specs.declared.rig.Drive.{Drive}
use Rattle.sim_vehicle.specs.declared.setting.CraftSetting.TheVariants.{MaxRudder, MaxSpeed, MaxThrust}
use Rattle.sim_vehicle.specs.declared.settings.CraftSettings.{CraftSettings}
use Rattle.sim_vehicle.specs.Motion.{IsHull, start_hull}
use Rattle.sim_vehicle.specs.Settings.{AreAllowed}
use Rattle.moos_jobs.specs.Simulating.{helm_sailed, IsSailed, KeepsInRange, names_sailed, voyage_text}
use Rattle.moos_jobs.specs.declared.task.Simulation.{Simulation}

-- ---- what the clients that answer say

-- what a client that answers says before its first turn is calls, and whatever it has heard, what it posts is a batch of pairs
record SaysCalls (answerer : Answerer Tick) : Type 0 where
  pub opening : All IsCall answerer.opening
  pub says : (heard : List Tick) → IsCall (Posts (answerer.says heard))

helm_says : (helm : HelmSetup) → IsWellFormedPlan helm.plan → SaysCalls (answering helm)
helm_says helm formed = record {
  opening = All-cons IsCall (Register (wants_of helm.plan)) (cond (nat_lt 0 (length helm.plan.opening)) (Posts helm.plan.opening ∷ []) []) formed.wants (posted (nat_lt 0 (length helm.plan.opening)));
  says = λ heard. (formed.iterations heard (length heard - 1)).posts;
}
  where
    posted : (some : Bool) → All IsCall (cond some (Posts helm.plan.opening ∷ []) [])
    posted true = All-cons IsCall (Posts helm.plan.opening) [] formed.opening (All-nil IsCall)
    posted false = All-nil IsCall

-- three registrations, each for a variable from everybody
three_regs : (one two three : List ℕ) → IsTrue (is_pattern one) → IsTrue (is_pattern two) → IsTrue (is_pattern three) → All IsReg (map reg_simple (one ∷ two ∷ three ∷ []))
three_regs one two three first second third =
    All-from_recursion IsReg (map reg_simple (one ∷ two ∷ three ∷ [])) (is one first, (is two second, (is three third, tt)))
  where
    is : (var : List ℕ) → IsTrue (is_pattern var) → IsReg (reg_simple var)
    is var named = record { var = named; source = refl; interval = omega arith }

numbered : (var : List ℕ) (number : ℤ) → IsTrue (is_name var) → IsMilli number → IsPair (pair_numbered var number)
numbered var number named within = record { var = named; value = within }

drive_pairs_are : (craft : CraftSettings) → AreAllowed craft → KeepsInRange craft → (mails : List (List Pair)) → All IsPair (drive_pairs (drive_by craft mails))
drive_pairs_are craft allowed keeps mails =
    let drive : Drive = drive_by craft mails in
    let rudder = keeps.rudder mails in
    let thrust = keeps.thrust mails in
    let steers = numbered (codes "DESIRED_RUDDER") drive.rudder refl (omega (arith, ints, rudder.0, (allowed MaxRudder).1), omega (arith, ints, rudder.1, (allowed MaxRudder).1)) in
    let pushes = numbered (codes "DESIRED_THRUST") drive.thrust refl (omega (arith, ints, thrust.0), omega (arith, ints, thrust.1, (allowed MaxThrust).1)) in
    All-from_recursion IsPair (drive_pairs drive) (steers, (pushes, tt))

hull_pairs_are : (craft : CraftSettings) (hull : Hull) → craft.max_speed ≤ℤ pos 100000 → IsHull craft hull → All IsPair (hull_pairs hull)
hull_pairs_are craft hull most is =
    let heading = numbered (codes "NAV_HEADING") hull.heading refl (omega (arith, ints, is.heading.0), omega (arith, ints, is.heading.1)) in
    let speed = numbered (codes "NAV_SPEED") hull.speed refl (omega (arith, ints, is.speed.0), omega (arith, ints, is.speed.1, most)) in
    let depth = numbered (codes "NAV_DEPTH") hull.depth refl (omega (arith, ints, is.depth.0), omega (arith, ints, is.depth.1)) in
    All-from_recursion IsPair (hull_pairs hull) (numbered (codes "NAV_X") hull.x refl is.x, (numbered (codes "NAV_Y") hull.y refl is.y, (heading, (speed, (depth, tt)))))

pid_says : (craft : CraftSettings) → AreAllowed craft → KeepsInRange craft → SaysCalls (marine_pid craft)
pid_says craft allowed keeps = record {
  opening = All-from_recursion IsCall (Register marine_pid_regs ∷ []) (three_regs (codes "DESIRED_HEADING") (codes "DESIRED_SPEED") (codes "NAV_HEADING") refl refl refl, tt);
  says = λ heard. (omega arith, drive_pairs_are craft allowed keeps (mails_said heard));
}

sim_says : (craft : CraftSettings) (period : ℕ) → AreAllowed craft → KeepsInRange craft → SaysCalls (sim_marine craft period)
sim_says craft period allowed keeps =
    let most : craft.max_speed ≤ℤ pos 100000 = (allowed MaxSpeed).1 in
    let starts : IsCall (Posts (hull_pairs (start_hull craft))) = (omega arith, hull_pairs_are craft (start_hull craft) most (keeps.hull period [])) in
    record {
      opening = All-from_recursion IsCall (Register sim_marine_regs ∷ Posts (hull_pairs (start_hull craft)) ∷ [])
          (three_regs (codes "DESIRED_RUDDER") (codes "DESIRED_THRUST") (codes "DESIRED_DEPTH") refl refl refl, (starts, tt));
      says = λ heard. (omega arith, hull_pairs_are craft (hull_by craft period (mails_said heard)) most (keeps.hull period (mails_said heard)));
    }

-- whatever was mailed, what is posted of contacts is at most 64 pairs, each as its type lets it be
pub record PostsPairs : Type 0 where
  pub few : (ranges : Ranges) (mails : List (List Pair)) → length (contacts_by ranges mails) ≤ 64
  pub pairs : (ranges : Ranges) (mails : List (List Pair)) → All IsPair (contacts_by ranges mails)

mgr_says : (ranges : Ranges) → PostsPairs → SaysCalls (contact_mgr ranges)
mgr_says ranges posts = record {
  opening = All-from_recursion IsCall (Register contact_mgr_regs ∷ []) (three_regs (codes "NODE_REPORT") (codes "NAV_X") (codes "NAV_Y") refl refl refl, tt);
  says = λ heard. (omega (arith, posts.few ranges (mails_said heard)), posts.pairs ranges (mails_said heard));
}

contacts_say : (ranges : Option Ranges) → PostsPairs → Each SaysCalls (contact_clients ranges)
contacts_say None posts = tt
contacts_say (Some ranges) posts = (mgr_says ranges posts, tt)

-- ---- their names

aboard_apart : (watched : Bool) → AreApart (vehicle_names watched)
aboard_apart false = (refl, (refl, tt))
aboard_apart true = (refl, (refl, (refl, tt)))

aboard_named : (watched : Bool) → Each (λ name. IsTrue (is_name name)) (vehicle_names watched)
aboard_named false = (refl, (refl, tt))
aboard_named true = (refl, (refl, (refl, tt)))

helm_apart : (watched : Bool) → list_any (has_name (vehicle_names watched)) (codes "pHelmIvP" ∷ []) ≡ false
helm_apart false = refl
helm_apart true = refl

-- ---- their entries

openings_by : (clients client : ℕ) (answerers : List (Answerer Tick)) → All SaysCalls answerers → client + length answerers ≤ clients → All (IsBy clients) (openings client answerers)
openings_by clients client [] says room = All-nil (IsBy clients)
openings_by clients client (answerer ∷ others) says room =
    let calls = (All-head SaysCalls answerer others says).opening in
    let named : client < clients = omega (arith, room) in
    All-append (IsBy clients) (map (entry_of client 0) answerer.opening) (openings (suc client) others)
    (All-map (IsBy clients) (entry_of client 0) answerer.opening
    (All-weaker IsCall (λ call. IsBy clients (entry_of client 0 call)) (λ call is. (record { stamp = omega arith; call = is }, named)) answerer.opening calls))
    (openings_by clients (suc client) others (All-tail SaysCalls answerer others says) (omega (arith, room)))

turns_by : (answerer : Answerer Tick) (clients client period : ℕ) (heard : List Tick) (i count : ℕ) → SaysCalls answerer → client < clients → ((k : ℕ) → k < i + count → k * period < 2 ^ 64)
    → All (IsBy clients) (turns_from answerer client period heard i count)
turns_by answerer clients client period heard i zero says named early = All-nil (IsBy clients)
turns_by answerer clients client period heard i (suc count) says named early =
    let stamp : i * period < 2 ^ 64 = early i (omega arith) in
    let posts : Entry = entry_of client (i * period) (Posts (answerer.says (take (suc i) heard))) in
    All-cons (IsBy clients) (entry_of client (i * period) Fetch) (posts ∷ turns_from answerer client period heard (suc i) count) (record { stamp = stamp; call = tt }, named)
    (All-cons (IsBy clients) posts (turns_from answerer client period heard (suc i) count) (record { stamp = stamp; call = says.says (take (suc i) heard) }, named)
    (turns_by answerer clients client period heard (suc i) count says named (λ k within. early k (omega (arith, within)))))

either_all : (By : Entry → Type 0) (first : Bool) (one other : List Entry) → All By one → All By other → All By (cond first one other)
either_all By true one other all rest = all
either_all By false one other all rest = rest

answers_by : (period ticks clients client : ℕ) (answerers : List (Answerer Tick)) (n : ℕ) (heard : List Tick) → All SaysCalls answerers → n < clients → ((k : ℕ) → k < ticks → k * period < 2 ^ 64)
    → All (IsBy clients) (answers_of period ticks client answerers n heard)
answers_by period ticks clients client [] n heard says named early = All-nil (IsBy clients)
answers_by period ticks clients client (answerer ∷ others) n heard says named early =
    either_all (IsBy clients) (nat_eq client n) (turns_from answerer n period heard 0 ticks) (answers_of period ticks (suc client) others n heard)
    (turns_by answerer clients n period heard 0 ticks (All-head SaysCalls answerer others says) named (λ k within. early k (omega (arith, within))))
    (answers_by period ticks clients (suc client) others n heard (All-tail SaysCalls answerer others says) named early)

-- nobody without a name has an entry
none_unnamed : (By : Entry → Type 0) (names n : ℕ) (rest : History) → clients_below names rest ≡ true → names ≤ n → All By (entries_of n rest)
none_unnamed By names n [] below past = All-nil By
none_unnamed By names n (entry ∷ rest) below past =
    let both = and_parts (nat_lt entry.client names) (clients_below names rest) below in
    other (nat_eq entry.client n) refl (ltb-true entry.client names both.0) (none_unnamed By names n rest both.1 past)
  where
    other : (same : Bool) → nat_eq entry.client n ≡ same → entry.client < names → All By (entries_of n rest) → All By (cond same (entry ∷ entries_of n rest) (entries_of n rest))
    other true is low others = let e : entry.client ≡ n = eqb-true entry.client n is in absurd (omega (arith, e, low, past))
    other false is low others = others

-- ---- a simulation

module _ (task : Simulation) (valid : IsValid task.script) (apart : list_any (has_name (gear_names task.gear)) task.script.names ≡ false) (good : AreGoodFiles task.files) (allowed : AreAllowed task.gear.craft) (keeps : KeepsInRange task.gear.craft) (posts : PostsPairs) where
  abbrev names : List (List ℕ)
  names = names_sailed task

  abbrev clients : ℕ
  clients = length task.script.names

  abbrev period : ℕ
  period = task.files.mission.period

  abbrev all_answer : List (Answerer Tick)
  all_answer = answering (helm_sailed task) ∷ vehicle_clients task.gear period

  many : length names ≡ clients + length all_answer
  many = omega (arith, length-append (names_with task.script (Some (helm_sailed task))) (gear_names task.gear), clients_with task.script, as_many task.gear.craft task.gear.ranges period)

  names_own : AreApart names
  names_own =
      apart_behind (names_with task.script (Some (helm_sailed task))) (gear_names task.gear) (names_apart task.script (Some (helm_sailed task)) valid) (aboard_apart (is_some task.gear.ranges))
      (list_any-append (has_name (gear_names task.gear)) task.script.names (codes "pHelmIvP" ∷ []) ∙ (λ i. apart i || helm_apart (is_some task.gear.ranges) i))

  all_say : All SaysCalls all_answer
  all_say =
      All-from_recursion SaysCalls all_answer (helm_says (helm_sailed task) good.formed, (pid_says task.gear.craft allowed keeps, (sim_says task.gear.craft period allowed keeps, contacts_say task.gear.ranges posts)))

  -- the entries of one client behind the openings are its lines or its turns
  own_entries : (history : History) → (sailed : IsSailed task history) → (n : ℕ) → All (IsBy (length names)) (entries_of n sailed.rest)
  own_entries history sailed n = by (nat_lt n (clients + length all_answer)) refl
    where
      by : (known : Bool) → nat_lt n (clients + length all_answer) ≡ known → All (IsBy (length names)) (entries_of n sailed.rest)
      by true is =
          let By : Entry → Type 0 = IsBy (length names) in
          let heard : List Tick = heard_in (mailed_in names) n (openings clients all_answer) sailed.rest in
          let ticks : ℕ = suc (task.script.stop / period) in
          let below : n < clients + length all_answer = ltb-true n (clients + length all_answer) is in
          subst (All By) (sym (sailed.own n below))
          (either_all By (nat_lt n clients) (entries_of n task.script.lines) (answers_of period ticks clients all_answer n heard) (own_lines (length names) n task.script valid (omega (arith, many)))
          (answers_by period ticks (length names) clients all_answer n heard all_say (omega (arith, many, below)) (λ k within. tick_early task.script.stop period k valid.early within)))
      by false is = none_unnamed (IsBy (length names)) (length names) n sailed.rest sailed.named (let past = ltb-false n (clients + length all_answer) is in omega (arith, many, past))

  pub sailed_community : (history : History) → IsSailed task history → IsCommunity names history
  sailed_community history sailed = record {
    named = All-append (λ name. IsTrue (is_name name)) (names_with task.script (Some (helm_sailed task))) (gear_names task.gear) (all_named task.script (Some (helm_sailed task)) valid)
        (All-from_recursion (λ name. IsTrue (is_name name)) (gear_names task.gear) (aboard_named (is_some task.gear.ranges)));
    own = own_names names names_own;
    entries = λ k d within. (all k d within).0;
    clients = λ k d within. (all k d within).1;
  }
    where
      all : All (IsBy (length names)) history
      all = subst (All (IsBy (length names))) (sym sailed.opened)
          (All-append (IsBy (length names)) (openings clients all_answer) sailed.rest (openings_by (length names) clients all_answer all_say (omega (arith, many)))
          (all_entries (IsBy (length names)) sailed.rest (own_entries history sailed)))

  -- no other history that the simulation may leave has the report of one
  pub told_apart : ReportsTell → (one other : History) → IsSailed task one → IsSailed task other → voyage_text task other ≡ voyage_text task one → other ≡ one
  told_apart tell one other sailed is same =
      (tell (setup_of (Some task.files)) (setup_of (Some task.files)) names names one other _ _ (sailed_community one sailed) (sailed_community other is)
      (stand_on_lines task.script (Some task.files) (heard_of names (helm_number task.script) one) good) (stand_on_lines task.script (Some task.files) (heard_of names (helm_number task.script) other) good) same).1
