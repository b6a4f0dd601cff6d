-- What a bridge has posted at every moment.
use Rattle.std.specs.Prelude.{◌≡◌, ℕ, List, map}
use Rattle.moos_client.specs.Calls.{entries_of}
use Rattle.moos_db.specs.declared.mail.Letter.{Letter}
use Rattle.moos_db.specs.Database.{letters_at}
use Rattle.moos_post.specs.Delivery.{mailed_to}
use Rattle.moos_post.specs.History.{History, posts_of}
use Rattle.moos_share.specs.Bridged.{bridge_number, names_bridged}
use Rattle.moos_share.specs.declared.rule.Rule.{Rule}
use Rattle.moos_share.specs.Fetches.{pairs_posted}
use Rattle.moos_share.specs.Renaming.{renamed}
use Rattle.script_reader.specs.declared.script.Script.{Script}
use Rattle.turn_lock.specs.Passes.{Begins}

-- the letters of all that a history mails to a client, in the order of mailing
abbrev pub letters_mailed : List (List ℕ) → ℕ → History → List Letter
letters_mailed names client history = letters_at (posts_of history) (map (λ one. one.number) (mailed_to names client history))

-- What the bridge has posted in a front of the second history: the renaming of a front of all that the first history mails to it.
pub record HasCarriedFront (first second : Script) (rules : List Rule) (one front : History) : Type 0 where
  pub letters : List Letter
  pub some : Begins (letters_mailed (names_bridged first) (bridge_number first) one) letters
  pub posted : pairs_posted (entries_of (bridge_number second) front) ≡ renamed (names_bridged first) rules letters

-- in the whole of it: the renaming of all that the first history mails to it
abbrev pub HasCarriedAll : Script → Script → List Rule → History → History → Type 0
HasCarriedAll first second rules one two =
    pairs_posted (entries_of (bridge_number second) two) ≡ renamed (names_bridged first) rules (letters_mailed (names_bridged first) (bridge_number first) one)
