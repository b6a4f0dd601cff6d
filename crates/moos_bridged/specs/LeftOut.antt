-- When a bridge leaves out no letter.
use Rattle.std.specs.Prelude.{◌≡◌, ℕ, ◌≤◌, List, length, map, Option, Some, option_map}
use Rattle.moos_bridged.specs.Fronts.{letters_mailed}
use Rattle.moos_client.specs.Calls.{entries_of}
use Rattle.moos_db.specs.declared.mail.Letter.{Letter}
use Rattle.moos_post.specs.declared.value.Pair.{Pair}
use Rattle.moos_post.specs.History.{History}
use Rattle.moos_share.specs.Bridged.{bridge_number, names_bridged}
use Rattle.moos_share.specs.declared.rule.Rule.{Rule}
use Rattle.moos_share.specs.Fetches.{pairs_posted}
use Rattle.moos_share.specs.Renaming.{carried_name, rule_for}
use Rattle.script_reader.specs.declared.script.Script.{Script}

-- a rule selects the letter's post, and the name that the first such rule gives has at most 64 bytes
pub record IsCarried (names : List (List ℕ)) (rules : List Rule) (letter : Letter) : Type 0 where
  pub rule : Rule
  pub first : rule_for names rules letter.post ≡ Some rule
  pub short : length (carried_name rule letter.post.var) ≤ 64

-- the letter's value under the name that the first rule gives which selects its post, if there is such a rule
abbrev pub pair_for : List (List ℕ) → List Rule → Letter → Option Pair
pair_for names rules letter = option_map (λ rule. record { var = carried_name rule letter.post.var; value = letter.post.value }) (rule_for names rules letter.post)

-- In the whole of the second history the bridge has posted just one pair for each letter that the first mails to it, in the order
-- of mailing.
abbrev pub HasCarriedEach : Script → Script → List Rule → History → History → Type 0
HasCarriedEach first second rules one two =
    map (λ pair. Some pair) (pairs_posted (entries_of (bridge_number second) two))
    ≡ map (pair_for (names_bridged first) rules) (letters_mailed (names_bridged first) (bridge_number first) one)
