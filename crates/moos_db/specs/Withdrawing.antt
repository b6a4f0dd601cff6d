-- What a withdrawal changes.
use Rattle.std.specs.Prelude.{◌≡◌, ◌≤◌, ℕ, not, if◌then◌else◌, List, filter}
use Rattle.moos_post.specs.Patterns.{matches}
use Rattle.moos_db.specs.Subscriptions.{VariableState, VariablesState, is_registration}
use Rattle.moos_db.specs.Registering.{AreEach}

-- the variable once the client no longer hears it through its registration with these patterns
abbrev pub without_subscription : ℕ → List ℕ → List ℕ → VariableState → VariableState
without_subscription client var source variable =
    if matches var variable.name then record variable { subscriptions = filter (λ subscription. not (is_registration client var source subscription)) variable.subscriptions } else variable

-- the client no longer hears the variable through its registration with these patterns, and there is no less room
pub record IsWithdrawn (client : ℕ) (var source : List ℕ) (one other : VariableState) : Type 0 where
  pub same : other ≡ record (without_subscription client var source one) { room = other.room }
  pub room : one.room ≤ other.room

-- for each variable
pub record AreWithdrawn (client : ℕ) (var source : List ℕ) (before after : VariablesState) : Type 0 where
  pub all : AreEach (IsWithdrawn client var source) before.all after.all
  pub numbers : after.numbers ≡ before.numbers
  pub noted : after.noted ≡ before.noted
