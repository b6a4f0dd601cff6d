-- What the types of a history's parts let be, and what they don't.
use Rattle.std.proofs.Common.{[], refl, arith}
use Rattle.std.specs.Prelude.{codes, pos}
use Rattle.std.proofs.lemmas.Bool.{false≢true}
use Rattle.moos_post.specs.declared.entry.Call.TheVariants.{Unregister, Fetch}
use Rattle.moos_post.specs.declared.value.Value.TheVariants.{Num, Text}
use Rattle.moos_post.specs.Entries.{IsCall, IsEntry, IsPair, IsReg, IsValue}

great_number : IsValue (Num (pos 1000000000001)) → ⊥
great_number value = grind (arith, value.1)

text_of_two_lines : IsValue (Text (codes "a\nb")) → ⊥
text_of_two_lines value = false≢true value

empty_pattern : IsReg (record { var = []; source = codes "*"; interval = 0 }) → ⊥
empty_pattern reg = false≢true reg.var

long_interval : IsReg (record { var = codes "X"; source = codes "*"; interval = 18446744073709551616 }) → ⊥
long_interval reg = omega (arith, reg.interval)

pattern_as_name : IsPair (record { var = codes "X*"; value = Num (pos 0) }) → ⊥
pattern_as_name pair = false≢true pair.var

withdrawal : IsCall (Unregister (codes "X*") (codes "?"))
withdrawal = (refl, refl)

two_words : IsCall (Unregister (codes "X Y") (codes "?")) → ⊥
two_words call = false≢true call.0

late_entry : IsEntry (record { stamp = 18446744073709551616; client = 0; call = Fetch }) → ⊥
late_entry entry = omega (arith, entry.stamp)
