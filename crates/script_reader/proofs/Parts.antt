-- What stands between two `#` is a pair as its type lets it be.
use Rattle.std.proofs.Common.{ℕ, List, Bool, true, false, cond, ap}
use Rattle.std.specs.Prelude.{Result, Ok, Err, IfOk}
use Rattle.moos_post.specs.declared.value.Pair.{Pair}
use Rattle.moos_post.specs.Entries.{IsPair}
use Rattle.moos_post.specs.Words.{is_name}
use Rattle.moos_text.specs.declared.cause.Cause.{Cause}
use Rattle.moos_text.specs.declared.cause.Cause.TheVariants.{S4}
use Rattle.moos_text.specs.declared.cause.LineFault.{LineFault}
use Rattle.moos_text.specs.declared.cause.LineFault.TheVariants.{Refused, NoMemory}
use Rattle.moos_text.specs.declared.pair.PairFault.{PairFault}
use Rattle.moos_text.specs.declared.pair.PairFault.TheVariants.{BadName}
use Rattle.moos_text.specs.Refusals.{IsLineFault}
use Rattle.moos_text.specs.Pairs.{pair_of, sides_pair, with_value, written_value}
use Rattle.moos_text.proofs.PairWords.{pair_is}
use Rattle.script_reader.specs.Script.{with_cause}

pub part_is : (text : List ℕ) → IfOk (with_cause (pair_of text)) IsPair
part_is text = kept (pair_of text) (pair_is text)
  where
    kept : (r : Result Pair PairFault) → IfOk r IsPair → IfOk (with_cause r) IsPair
    kept (Ok pair) is = is
    kept (Err fault) is = tt

-- a side that is no variable's name refuses the pair
pub name_refused : (fault : LineFault) (var : List ℕ) (as_text : Bool) (value : List ℕ)
    → IsLineFault fault (cond (is_name var) (Ok var) (Err S4)) → IsLineFault fault (with_cause (sides_pair var as_text value))
name_refused fault var as_text value refused = at (is_name var) fault refused
  where
    as_pair : Result (List ℕ) Cause → Result Pair Cause
    as_pair (Ok name) = Err S4
    as_pair (Err cause) = Err cause

    at : (named : Bool) (fault : LineFault) → IsLineFault fault (cond named (Ok var) (Err S4))
        → IsLineFault fault (with_cause (cond named (with_value var (written_value as_text value)) (Err BadName)))
    at true (Refused cause) refused = absurd cc
    at true NoMemory refused = tt
    at false (Refused cause) refused = ap as_pair refused
    at false NoMemory refused = tt
