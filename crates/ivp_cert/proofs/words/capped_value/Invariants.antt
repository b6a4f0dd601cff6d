use Rattle.std.proofs.Common.{◌≡◌, ◌+◌, min, take}
use Rattle.moos_text.specs.Numbers.{digits_value}
use Rattle.ivp_cert.proofs.words.capped_value.Given as goal

abbrev pub invariant-loop-digit : goal.invariant-loop-digit
invariant-loop-digit l = l.value ≡ min (digits_value (take l.digit-index l.digits)) (l.most + 1)
