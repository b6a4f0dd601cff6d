-- Which rule of a bridge would make the name of a variable that a script posts too long.
use Rattle.std.specs.Prelude.{ℕ, Bool, ◌&&◌, nat_lt, List, length, Option, option_map}
use Rattle.std.specs.List.{find, list_any}
use Rattle.moos_post.specs.declared.entry.Entry.{Entry}
use Rattle.moos_post.specs.History.{posts_of}
use Rattle.moos_post.specs.Patterns.{matches}
use Rattle.moos_share.specs.declared.rule.Rule.{Rule}
use Rattle.moos_share.specs.Renaming.{carried_name}

-- the rule's variable pattern matches the variable, whose name has more than 64 bytes with the prefix before it
abbrev pub is_long_with : Rule → List ℕ → Bool
is_long_with rule var = matches rule.reg.var var && nat_lt 64 (length (carried_name rule var))

-- the rule's variable pattern matches a variable that one of these lines posts, whose name has more than 64 bytes with the prefix
-- before it
abbrev pub makes_long : List Entry → Rule → Bool
makes_long lines rule = list_any (λ post. is_long_with rule post.var) (posts_of lines)

-- the line of the first such rule, if there is one
abbrev pub too_long_line : List Rule → List Entry → Option ℕ
too_long_line rules lines = option_map (λ rule. rule.line) (find (makes_long lines) rules)
