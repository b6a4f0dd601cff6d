-- What a bridge makes of the letters that it fetched.
use Rattle.std.specs.Prelude.{ℕ, nat_le, if◌then◌else◌, List, [], ◌∷◌, ◌++◌, length, Option, Some, None}
use Rattle.std.specs.List.{find, flat_map}
use Rattle.moos_db.specs.declared.mail.Letter.{Letter}
use Rattle.moos_post.specs.declared.value.Pair.{Pair}
use Rattle.moos_post.specs.declared.value.Post.{Post}
use Rattle.moos_post.specs.Delivery.{selects}
use Rattle.moos_share.specs.declared.rule.Rule.{Rule}

-- the bytes of a prefix, none if there is none
abbrev pub prefix_bytes : Option (List ℕ) → List ℕ
prefix_bytes None = []
prefix_bytes (Some prefix) = prefix

-- the name of a variable with the rule's prefix before it
abbrev pub carried_name : Rule → List ℕ → List ℕ
carried_name rule var = prefix_bytes rule.prefix ++ var

-- these bytes, if they are few enough for a name
abbrev pub short_name : List ℕ → Option (List ℕ)
short_name bytes = if nat_le (length bytes) 64 then Some bytes else None

-- the first rule whose two patterns select the post, if the clients have these names
abbrev pub rule_for : List (List ℕ) → List Rule → Post → Option Rule
rule_for names rules post = find (λ rule. selects names rule.reg post) rules

-- the post under the name that the rule gives, with its value; nothing without a rule, or if that name has more than 64 bytes
abbrev pub carried_by : Post → Option Rule → List Pair
carried_by post None = []
carried_by post (Some rule) = if nat_le (length (carried_name rule post.var)) 64 then record { var = carried_name rule post.var; value = post.value } ∷ [] else []

-- the renaming of a list of letters, if the clients have these names
abbrev pub renamed : List (List ℕ) → List Rule → List Letter → List Pair
renamed names rules letters = flat_map (λ letter. carried_by letter.post (rule_for names rules letter.post)) letters
