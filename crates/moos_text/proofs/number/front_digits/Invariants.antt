use Rattle.std.proofs.Common.{◌≡◌, min, take, true}
use Rattle.std.specs.List.{list_all}
use Rattle.moos_post.specs.Words.{is_digit}
use Rattle.moos_text.specs.Numbers.{digits_value}
use Rattle.moos_text.specs.declared.number.TheConstants.{TOO_GREAT}
use Rattle.moos_text.proofs.number.front_digits.Given as goal

-- The bytes before the index are digits, and the value is theirs.
abbrev pub invariant-loop-count : goal.invariant-loop-count
invariant-loop-count l = (list_all is_digit (take l.count l.text) ≡ true) × (l.value ≡ min (digits_value (take l.count l.text)) TOO_GREAT)
