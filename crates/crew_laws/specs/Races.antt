-- What holds in a race too of a variable that one client alone posts.
use Rattle.std.specs.Prelude.{◌≡◌, ◌≢◌, ℕ, ◌==◌, Bool, true, false, ◌||◌, not, List, ◌∷◌, ◌++◌, bytes_eq, length, IsTrue}
use Rattle.std.specs.List.{list_all}
use Rattle.moos_play.specs.Lawful.{HelmSetup}
use Rattle.moos_post.specs.declared.value.Post.{Post}
use Rattle.moos_post.specs.History.{History, posts_of}
use Rattle.script_reader.specs.declared.script.Order.{Order}
use Rattle.script_reader.specs.declared.script.Script.{Script}
use Rattle.script_reader.specs.Validity.{are_lines}
use Rattle.crew_laws.specs.InTime.{is_overtaken}
use Rattle.crew_laws.specs.Runs.{IsHelmRun}

-- each post of this variable is by this client
abbrev pub posts_alone : ℕ → List ℕ → History → Bool
posts_alone client var history = list_all (λ post. not (bytes_eq post.var var) || post.source == client) (posts_of history)

-- In every order, a race too, each post of a variable comes in time if one of the script's clients alone posts it, since the stamps of
-- the script's lines don't go back.
abbrev pub InTimeIfAlone : Type 0
InTimeIfAlone = (order : Order) (script : Script) (helm : HelmSetup) (names : List (List ℕ)) (history : History) → IsHelmRun order script helm names history → IsTrue (are_lines (length script.names) 0 script.stop script.lines)
    → (client : ℕ) (var : List ℕ) → client ≢ helm.client → IsTrue (posts_alone client var history) → (before : List Post) (post : Post) (later : List Post) → posts_of history ≡ before ++ post ∷ later → bytes_eq post.var var ≡ true
    → is_overtaken before post ≡ false
