-- Two reports tell the two histories of which they are printed.
use Rattle.std.proofs.Common.{◌≡◌, ℕ, List, [], ◌∷◌, codes, refl, sym, ◌∙◌, arith}
use Rattle.std.specs.Prelude.{All, IsTrue}
use Rattle.std.proofs.lemmas.List.Elements.{All-push}
use Rattle.moos_bridged.specs.Entries.{AreEntries}
use Rattle.moos_bridged.specs.Fronts.{letters_mailed}
use Rattle.moos_bridged.specs.LeftOut.{HasCarriedEach, IsCarried}
use Rattle.moos_post.specs.History.{History}
use Rattle.moos_post.specs.Words.{is_name}
use Rattle.moos_report.proofs.Communities.{apart_behind, clients_apart, own_names}
use Rattle.moos_report.specs.Report.{Reported, TwoReportsTell}
use Rattle.moos_report.specs.Setups.{setup_without_helm}
use Rattle.moos_share.specs.Bridged.{bridge_number, IsShared, names_bridged}
use Rattle.script_reader.specs.declared.script.Script.{Script}
use Rattle.moos_jobs.specs.Sharing.{AreReports, both_reports, IsWithoutBridge}
use Rattle.moos_jobs.specs.declared.task.ShareTask.{ShareTask}

-- a community with the bridge, and its history, of which a report is printed
abbrev reported : (script : Script) (history : History) → IsWithoutBridge script → AreEntries script history → Reported
reported script history without are = record {
  setup = setup_without_helm;
  names = names_bridged script;
  history = history;
  iterations = [];
  community = record {
    named = All-push (λ name. IsTrue (is_name name)) script.names (codes "pShare") without.valid.named refl;
    own = own_names (names_bridged script) (apart_behind script.names (codes "pShare" ∷ []) (clients_apart script.names without.valid.clients) (refl, tt) without.unnamed);
    entries = are.entries;
    clients = are.clients;
  };
  lines = record {
    unused = λ k d within. absurd (omega (arith, within));
    modes = λ k d within. absurd (omega (arith, within));
    names = λ k d within. absurd (omega (arith, within));
    axes = λ k d within. absurd (omega (arith, within));
  };
}

-- two histories that are shared, whatever they are, have entries of their communities' clients
abbrev pub HasEntries : ShareTask → Type 0
HasEntries task = (one two : History) → IsShared task.order task.first task.second task.rules one two → AreEntries task.first one × AreEntries task.second two

-- so no other two have the text that is printed of them
pub reports_of : (task : ShareTask) (one two : History) (text : List ℕ) → TwoReportsTell → HasEntries task → HasCarriedEach task.first task.second task.rules one two
    → All (IsCarried (names_bridged task.first) task.rules) (letters_mailed (names_bridged task.first) (bridge_number task.first) one) → IsWithoutBridge task.first → IsWithoutBridge task.second
    → IsShared task.order task.first task.second task.rules one two → text ≡ both_reports task one two → AreReports task text
reports_of task one two text tell entries each none first second shared printed = record {
  one = one;
  two = two;
  shared = shared;
  printed = printed;
  each = each;
  none_left_out = none;
  listed = λ other another also same.
      let are = entries one two shared in
      let others = entries other another also in
      let told = tell (reported task.first one first are.0) (reported task.second two second are.1) (reported task.first other first others.0) (reported task.second another second others.1) (sym same ∙ printed) in
      (told.1, told.3);
}
