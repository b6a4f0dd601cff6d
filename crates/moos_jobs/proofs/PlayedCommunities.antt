-- A lawful history of a valid script, with a helm of valid files or without one, is that of a community.
use Rattle.std.proofs.Common.{ℕ, zero, suc, ◌*◌, ◌<◌, ◌≤◌, ◌^◌, Bool, true, false, cond, nat_lt, List, [], ◌∷◌, length, arith, sym, subst, Option, None, Some, inl, inr}
use Rattle.std.specs.Prelude.{IfSome}
use Rattle.std.specs.List.{All}
use Rattle.std.proofs.lemmas.Bool.{cases_eq}
use Rattle.std.proofs.lemmas.List.Elements.{All-append, All-cons, All-nil}
use Rattle.moos_post.specs.declared.entry.Call.{Call}
use Rattle.moos_post.specs.declared.entry.Call.TheVariants.{Register, Post as Posts, Fetch}
use Rattle.moos_post.specs.declared.entry.Entry.{Entry}
use Rattle.moos_post.specs.Entries.{IsCall}
use Rattle.moos_post.specs.History.{History}
use Rattle.moos_client.specs.Calls.{entries_of, entry_of}
use Rattle.helm_core.specs.Iterations.{iteration_at}
use Rattle.helm_core.specs.Plans.{wants_of}
use Rattle.helm_core.specs.Ticks.{Tick}
use Rattle.helm_core.specs.WellFormed.{IsWellFormedPlan}
use Rattle.moos_jobs.proofs.HelmCommunities.{all_named, AreGoodFiles, clients_with, names_apart, steered, tick_early}
use Rattle.moos_jobs.specs.declared.helm_files.HelmFiles.{HelmFiles}
use Rattle.moos_jobs.specs.HelmFiles.{helm_setup_by}
use Rattle.moos_play.specs.Lawful.{heard_of, helm_number, names_with, opening, opening_of, HelmSetup, tick_entries, ticks, ticks_of, ticks_to}
use Rattle.moos_report.proofs.Communities.{all_entries, IsBy, own_lines, own_names}
use Rattle.moos_report.specs.Community.{IsCommunity}
use Rattle.moos_jobs.specs.Jobs.{IsLawfulWith}
use Rattle.script_reader.specs.declared.script.Order.{Order}
use Rattle.script_reader.specs.declared.script.Script.{Script}
use Rattle.script_reader.specs.Validity.{IsValid}

-- the helm's entries are calls at stamps of 64 bits
made_by : (client stamp : ℕ) (call : Call) → stamp < 2 ^ 64 → IsCall call → IsBy (suc client) (entry_of client stamp call)
made_by client stamp call early is = (record { stamp = early; call = is }, omega arith)

opening_by : (helm : HelmSetup) → IsWellFormedPlan helm.plan → All (IsBy (suc helm.client)) (opening_of helm)
opening_by helm formed =
    All-cons (IsBy (suc helm.client)) _ _ (made_by helm.client 0 (Register (wants_of helm.plan)) (omega arith) formed.wants) (posted (nat_lt 0 (length helm.plan.opening)))
  where
    posted : (some : Bool) → All (IsBy (suc helm.client)) (cond some (entry_of helm.client 0 (Posts helm.plan.opening) ∷ []) [])
    posted true = All-cons (IsBy (suc helm.client)) _ [] (made_by helm.client 0 (Posts helm.plan.opening) (omega arith) formed.opening) (All-nil (IsBy (suc helm.client)))
    posted false = All-nil (IsBy (suc helm.client))

ticks_by : (helm : HelmSetup) (heard : List Tick) (n : ℕ) → IsWellFormedPlan helm.plan → ((i : ℕ) → i < n → i * helm.period < 2 ^ 64) → All (IsBy (suc helm.client)) (ticks_of helm heard n)
ticks_by helm heard zero formed early = All-nil (IsBy (suc helm.client))
ticks_by helm heard (suc i) formed early =
    let By : Entry → Type 0 = IsBy (suc helm.client) in
    let stamp : i * helm.period < 2 ^ 64 = early i (omega arith) in
    let posts : Entry = entry_of helm.client (i * helm.period) (Posts (iteration_at helm.plan heard i).posts) in
    let posted : By posts = made_by helm.client (i * helm.period) posts.call stamp (formed.iterations heard i).posts in
    let fetched : By (entry_of helm.client (i * helm.period) Fetch) = made_by helm.client (i * helm.period) Fetch stamp tt in
    All-append By (ticks_of helm heard i) (tick_entries helm heard i) (ticks_by helm heard i formed (λ k within. early k (omega arith)))
    (All-cons By (entry_of helm.client (i * helm.period) Fetch) (posts ∷ []) fetched (All-cons By posts [] posted (All-nil By)))

helm_opens : (script : Script) (helm : Option HelmFiles) → IfSome helm AreGoodFiles → All (IsBy (length (names_with script helm))) (opening (steered script helm))
helm_opens script None files = All-nil (IsBy (length script.names))
helm_opens script (Some helm) files =
    subst (λ n. All (IsBy n) (opening_of (helm_setup_by script helm))) (sym (clients_with script)) (opening_by (helm_setup_by script helm) files.formed)

helm_ticks : (script : Script) (helm : Option HelmFiles) (heard : List Tick) → IsValid script → IfSome helm AreGoodFiles → All (IsBy (length (names_with script helm))) (ticks (steered script helm) script.stop heard)
helm_ticks script None heard valid files = All-nil (IsBy (length script.names))
helm_ticks script (Some helm) heard valid files =
    subst (λ n. All (IsBy n) (ticks_of (helm_setup_by script helm) heard (ticks_to script.stop (helm_setup_by script helm)))) (sym (clients_with script))
    (ticks_by (helm_setup_by script helm) heard _ files.formed (λ i within. tick_early script.stop helm.mission.period i valid.early within))

more_names : (script : Script) (helm : Option HelmFiles) → length script.names ≤ length (names_with script helm)
more_names script None = omega arith
more_names script (Some helm) = omega (arith, clients_with script)

-- the entries of one client behind the opening are those of its lines, or the helm's
own_entries : (order : Order) (script : Script) (helm : Option HelmFiles) (history : History) → IsValid script → IfSome helm AreGoodFiles → (lawful : IsLawfulWith order script helm history)
    → (client : ℕ) → All (IsBy (length (names_with script helm))) (entries_of client lawful.rest)
own_entries order script helm history valid files lawful client =
    elim (cases_eq client (length script.names)) [
      | inl same ↦
          subst (λ n. All By (entries_of n lawful.rest)) (sym same)
          (subst (All By) (sym lawful.steered) (helm_ticks script helm (heard_of (names_with script helm) (helm_number script) history) valid files))
      | inr other ↦ subst (All By) (sym (lawful.own client other)) (own_lines (length (names_with script helm)) client script valid (more_names script helm))
    ]
  where
    By : Entry → Type 0
    By = IsBy (length (names_with script helm))

pub lawful_community : (order : Order) (script : Script) (helm : Option HelmFiles) (history : History) → IsValid script → IfSome helm AreGoodFiles → IsLawfulWith order script helm history
    → IsCommunity (names_with script helm) history
lawful_community order script helm history valid files lawful = record {
  named = all_named script helm valid;
  own = own_names (names_with script helm) (names_apart script helm valid);
  entries = λ k d within. (all k d within).0;
  clients = λ k d within. (all k d within).1;
}
  where
    all : All (IsBy (length (names_with script helm))) history
    all = subst (All (IsBy (length (names_with script helm)))) (sym lawful.opened)
        (All-append (IsBy (length (names_with script helm))) (opening (steered script helm)) lawful.rest (helm_opens script helm files)
        (all_entries (IsBy (length (names_with script helm))) lawful.rest (own_entries order script helm history valid files lawful)))
