-- When the mail is the same too: where no two clients of one stamp get into each other's way.
use Rattle.std.specs.Prelude.{◌≡◌, ◌≢◌, ℕ, false, true, List, [], ◌++◌, map, Option}
use Rattle.std.specs.List.{Contains}
use Rattle.moos_client.specs.Calls.{entries_of}
use Rattle.moos_client.specs.Hearing.{heard_in, Mailed}
use Rattle.moos_db.specs.Database.{letters_after}
use Rattle.moos_play.specs.Lawful.{heard_of, HelmSetup, helm_number, IsLawful, iterations, opening}
use Rattle.moos_post.specs.declared.entry.Entry.{Entry}
use Rattle.moos_post.specs.declared.registration.Reg.{Reg}
use Rattle.moos_post.specs.declared.value.Post.{Post}
use Rattle.moos_post.specs.History.{History}
use Rattle.play_laws.specs.Heard.{ask_of, registered_in}
use Rattle.script_reader.specs.declared.script.Order.TheVariants.{Stamp}
use Rattle.script_reader.specs.declared.script.Script.{Script}

-- what a client of a script, or its helm, registers for in all of the play
abbrev pub registered_by_client : Script → Option HelmSetup → ℕ → List Reg
registered_by_client script helm client = registered_in client (opening helm ++ script.lines)

-- Two lines leave each other alone if the first one's client doesn't ask for what the second posts, and nobody asks for something that the
-- first posts and for something that the second posts.
pub record LeavesAlone (script : Script) (helm : Option HelmSetup) (line other : Entry) : Type 0 where
  pub unheard : ask_of (registered_by_client script helm line.client) other ≡ false
  pub apart : (client : ℕ) → ask_of (registered_by_client script helm client) line ≡ true → ask_of (registered_by_client script helm client) other ≡ false

-- A script is calm beside its helm if any two lines of one stamp and of different clients leave each other alone.
abbrev pub IsCalm : Script → Option HelmSetup → Type 0
IsCalm script helm = (line other : Entry) → Contains script.lines line → Contains script.lines other → line.stamp ≡ other.stamp → line.client ≢ other.client → LeavesAlone script helm line other

-- the posts that a fetch gives, without their numbers
abbrev pub posts_heard : List (List ℕ) → Mailed (List Post)
posts_heard names client stamp past = map (λ letter. letter.post) (letters_after names client past)

-- the posts that each of a client's fetches gives
abbrev pub mails_to : List (List ℕ) → ℕ → History → List (List Post)
mails_to names client history = heard_in (posts_heard names) client [] history

-- In both histories each client is mailed the same posts at each of its fetches, in the same order; and the helm has the same entries, so
-- it posts the same, and makes the same iterations.
pub record HearTheSame (script : Script) (helm : Option HelmSetup) (names : List (List ℕ)) (history other : History) : Type 0 where
  pub mails : (client : ℕ) → mails_to names client other ≡ mails_to names client history
  pub steered : entries_of (helm_number script) other ≡ entries_of (helm_number script) history
  pub iterations : iterations helm script.stop (heard_of names (helm_number script) other) ≡ iterations helm script.stop (heard_of names (helm_number script) history)

-- So it is with any two histories of a calm script that are lawful in the order of the stamps.
abbrev pub CalmHearTheSame : Type 0
CalmHearTheSame =
    (script : Script) (helm : Option HelmSetup) (names : List (List ℕ)) (history other : History)
    → IsCalm script helm → IsLawful Stamp script helm names history → IsLawful Stamp script helm names other → HearTheSame script helm names history other
