-- What a report is printed of: names and entries as their types let them be, if each client has a name of its own, and
-- a setup and iterations whose names hold no line end.
use Rattle.std.specs.Prelude.{◌≡◌, ℕ, ◌<◌, Bool, ◌==◌, not, IsTrue, IfSome, List, length}
use Rattle.std.specs.List.{All, list_all}
use Rattle.moos_post.specs.Entries.{IsEntry}
use Rattle.moos_post.specs.History.{History, name_of}
use Rattle.moos_post.specs.Words.{is_name}
use Rattle.ivp_domain.specs.declared.axis.Axis.{Axis}
use Rattle.bhv_file.specs.declared.file.Unused.{Unused}
use Rattle.helm_core.specs.declared.iteration.Iteration.{Iteration}
use Rattle.helm_core.specs.WellFormed.{names_told}
use Rattle.moos_report.specs.declared.setup.Setup.{Setup}

-- each entry is by one of this many clients
abbrev pub HaveClients : ℕ → History → Type 0
HaveClients clients history = All (λ entry. entry.client < clients) history

-- no two clients have one name
abbrev pub HaveOwnNames : List (List ℕ) → Type 0
HaveOwnNames names = (one other : ℕ) → one < length names → other < length names → name_of names one ≡ name_of names other → one ≡ other

-- the clients have names, each its own, and each entry is by one of them
pub record IsCommunity (names : List (List ℕ)) (history : History) : Type 0 where
  pub named : All (λ name. IsTrue (is_name name)) names
  pub own : HaveOwnNames names
  pub entries : All IsEntry history
  pub clients : HaveClients (length names) history

-- the text holds no line end
abbrev pub is_one_line : List ℕ → Bool
is_one_line text = list_all (λ byte. not (byte == 10)) text

-- Whatever is named is on one line: the unused parameters of the setup, the mode of each iteration, the names that it tells,
-- and the axes that it decides over.
pub record StandOnLines (setup : Setup) (iterations : List Iteration) : Type 0 where
  pub unused : All (λ (unused : Unused). IsTrue (is_one_line unused.name)) setup.unused
  pub modes : All (λ (iteration : Iteration). IsTrue (is_one_line iteration.mode)) iterations
  pub names : All (λ (iteration : Iteration). All (λ name. IsTrue (is_one_line name)) (names_told iteration)) iterations
  pub axes : All (λ (iteration : Iteration). IfSome iteration.decision (λ decision. All (λ (axis : Axis). IsTrue (is_one_line axis.name)) decision.problem.axes)) iterations
