-- Where the helm of a run stands, where there is one.
use Rattle.std.proofs.Common.{◌≡◌, ◌≤◌, ℕ, List, length, Option}
use Rattle.std.specs.Prelude.{IfSome}
use Rattle.moos_post.specs.History.{History}
use Rattle.moos_play.specs.Lawful.{heard_of, ticks_to}
use Rattle.moos_play.specs.Steered.{helm_setup_of, Steers}
use Rattle.moos_play.specs.declared.helm_client.HelmClient.{HelmClient}

-- it has this number, and stands where the history has brought it
abbrev pub StandsAt : List (List ℕ) → ℕ → Option HelmClient → History → Type 0
StandsAt names number helm_client history = IfSome helm_client (λ s. (s.number ≡ number) × Steers names s history)

-- or it has heard at least as many mails as it has made ticks, which are no more than there are
abbrev pub HasHeard : List (List ℕ) → ℕ → ℕ → Option HelmClient → History → Type 0
HasHeard names number stop helm_client history = IfSome helm_client (λ s. (s.number ≡ number) × (s.ticks ≤ length (heard_of names s.number history)) × (s.ticks ≤ ticks_to stop (helm_setup_of s)))
