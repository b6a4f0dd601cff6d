-- The community of a script with a helm of valid files: the clients' names, when the helm ticks, and what its iterations name.
use Rattle.std.proofs.Common.{◌≡◌, ℕ, zero, suc, ◌*◌, ◌/◌, ◌<◌, ◌≤◌, ◌^◌, List, [], ◌∷◌, ◌++◌, length, length-append, codes, refl, arith, Option, None, Some}
use Rattle.std.specs.Prelude.{IfSome, IsTrue, option_map}
use Rattle.std.specs.List.{All}
use Rattle.std.proofs.Math.Nat.{div-mul-le_self, mul-le-mul_right}
use Rattle.std.proofs.lemmas.List.Elements.{All-nil, All-push, All-weaker}
use Rattle.bhv_file.specs.declared.file.Unused.{Unused}
use Rattle.bhv_file.specs.Validity.{IsValidFile}
use Rattle.helm_core.specs.declared.iteration.Iteration.{Iteration}
use Rattle.helm_core.specs.Iterations.{iteration_at}
use Rattle.helm_core.specs.Plans.{Plan, plan_made}
use Rattle.helm_core.specs.Ticks.{Tick}
use Rattle.helm_core.specs.WellFormed.{IsWellFormedPlan, names_told, ValidFilesPlanWell}
use Rattle.helm_core.specs.Names.{ValidFilesNameOnce}
use Rattle.helm_core.specs.Worths.{ValidFilesDecideByWorth}
use Rattle.helm_laws.specs.Files.{OfValidFiles}
use Rattle.helm_laws.specs.Reliance.{IsReliable}
use Rattle.moos_jobs.specs.declared.helm_files.HelmFiles.{HelmFiles}
use Rattle.moos_jobs.specs.HelmFiles.{setup_of, helm_setup_by}
use Rattle.moos_jobs.specs.Loading.{AreValidFiles}
use Rattle.moos_jobs.specs.Steering.{SteersWell}
use Rattle.ivp_cert.specs.declared.claim.Decision.{Decision}
use Rattle.ivp_domain.specs.AxisNames.{is_axis_name}
use Rattle.ivp_domain.specs.declared.axis.Axis.{Axis}
use Rattle.mission_reader.specs.Validity.{HaveAxisNames}
use Rattle.moos_play.specs.Lawful.{iterations, iterations_of, names_with, HelmSetup, ticks_to}
use Rattle.moos_post.specs.Words.{is_name}
use Rattle.moos_report.proofs.Communities.{apart_behind, AreApart, clients_apart, none_is_helms}
use Rattle.moos_report.proofs.OnLines.{axis_line, name_line, text_line}
use Rattle.moos_report.specs.Community.{is_one_line, StandOnLines}
use Rattle.script_reader.specs.declared.script.Script.{Script}
use Rattle.script_reader.specs.Validity.{IsValid}

-- the behaviour file of a helm is valid, its plan well formed, and what it decides is decided by worth
pub record AreGoodFiles (files : HelmFiles) : Type 0 where
  pub file : IsValidFile files.file
  pub formed : IsWellFormedPlan (plan_made files.mission files.file)
  pub steers : SteersWell (plan_made files.mission files.file)

-- the files that were read for a helm are such
pub good_files : (files : HelmFiles) → ValidFilesPlanWell → ValidFilesDecideByWorth → ValidFilesNameOnce → OfValidFiles IsReliable → AreValidFiles files → AreGoodFiles files
good_files files formed worth names reliable valid = record {
  file = valid.file;
  formed = formed files.mission files.file valid.mission valid.file;
  steers = record {
    worth = worth files.mission files.file valid.mission valid.file valid.served;
    once = names files.mission files.file valid.file;
    reliable = reliable files.mission files.file valid.mission valid.file valid.served;
  };
}

-- how the helm is run, where there is one
abbrev pub steered : Script → Option HelmFiles → Option HelmSetup
steered script helm = option_map (helm_setup_by script) helm

-- ---- names

-- each client has a name of its own
pub names_apart : {A : Type 0} (script : Script) (helm : Option A) → IsValid script → AreApart (names_with script helm)
names_apart script None valid = clients_apart script.names valid.clients
names_apart script (Some helm) valid = apart_behind script.names (codes "pHelmIvP" ∷ []) (clients_apart script.names valid.clients) (refl, tt) (none_is_helms script.names valid.clients)

pub all_named : {A : Type 0} (script : Script) (helm : Option A) → IsValid script → All (λ name. IsTrue (is_name name)) (names_with script helm)
all_named script None valid = valid.named
all_named script (Some helm) valid = All-push (λ name. IsTrue (is_name name)) script.names (codes "pHelmIvP") valid.named refl

-- the number of clients, with the helm
pub clients_with : (script : Script) → length (script.names ++ codes "pHelmIvP" ∷ []) ≡ suc (length script.names)
clients_with script = omega (arith, length-append script.names (codes "pHelmIvP" ∷ []))

-- ---- ticks

-- the stamp of a tick has 64 bits
pub tick_early : (stop period i : ℕ) → stop ≤ 10 ^ 9 → i < suc (stop / period) → i * period < 2 ^ 64
tick_early stop period i early within =
    let last = div-mul-le_self stop period in
    let up = mul-le-mul_right {m = i} {n = stop / period} period (omega arith) in
    omega (arith, last, up, early)

-- what holds of each iteration
each_iteration : (P : Iteration → Type 0) (plan : Plan) (heard : List Tick) (n : ℕ) → ((i : ℕ) → P (iteration_at plan heard i)) → All P (iterations_of plan heard n)
each_iteration P plan heard zero all = All-nil P
each_iteration P plan heard (suc i) all = All-push P (iterations_of plan heard i) (iteration_at plan heard i) (each_iteration P plan heard i all) (all i)

-- ---- what is named stands on one line

-- the names that an iteration tells
abbrev ToldOnLines : Iteration → Type 0
ToldOnLines iteration = All (λ name. IsTrue (is_one_line name)) (names_told iteration)

abbrev HasAxesOnLines : Decision → Type 0
HasAxesOnLines decision = All (λ (axis : Axis). IsTrue (is_one_line axis.name)) decision.problem.axes

decided_line : (decision : Option Decision) → IfSome decision (λ decided. HaveAxisNames decided.problem.axes) → IfSome decision HasAxesOnLines
decided_line None named = tt
decided_line (Some decision) named = All-weaker (λ (axis : Axis). IsTrue (is_axis_name axis.name)) (λ (axis : Axis). IsTrue (is_one_line axis.name)) (λ axis. axis_line axis.name) decision.problem.axes named

pub stand_on_lines : (script : Script) (helm : Option HelmFiles) (heard : List Tick) → IfSome helm AreGoodFiles → StandOnLines (setup_of helm) (iterations (steered script helm) script.stop heard)
stand_on_lines script None heard files = record {
  unused = All-nil (λ (unused : Unused). IsTrue (is_one_line unused.name));
  modes = All-nil (λ (iteration : Iteration). IsTrue (is_one_line iteration.mode));
  names = All-nil ToldOnLines;
  axes = All-nil (λ (iteration : Iteration). IfSome iteration.decision HasAxesOnLines);
}
stand_on_lines script (Some helm) heard files =
    let plan = plan_made helm.mission helm.file in
    let count : ℕ = ticks_to script.stop (helm_setup_by script helm) in
    record {
      unused = All-weaker (λ (unused : Unused). IsTrue (is_name unused.name)) (λ (unused : Unused). IsTrue (is_one_line unused.name)) (λ unused. name_line unused.name) helm.file.unused files.file.unused;
      modes = each_iteration (λ (iteration : Iteration). IsTrue (is_one_line iteration.mode)) plan heard count (λ i. text_line (iteration_at plan heard i).mode (files.formed.iterations heard i).mode);
      names = each_iteration ToldOnLines plan heard count (λ i. All-weaker (λ name. IsTrue (is_name name)) (λ name. IsTrue (is_one_line name)) name_line (names_told (iteration_at plan heard i)) (files.formed.iterations heard i).names);
      axes = each_iteration (λ (iteration : Iteration). IfSome iteration.decision HasAxesOnLines) plan heard count (λ i. decided_line (iteration_at plan heard i).decision (files.formed.iterations heard i).axes);
    }
