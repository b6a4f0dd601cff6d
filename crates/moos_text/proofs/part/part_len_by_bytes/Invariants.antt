use Rattle.std.proofs.Common.{◌≡◌, take, drop}
use Rattle.moos_text.specs.Pairs.{parts_of, parts_from}
use Rattle.moos_text.proofs.Parts.{onto_part}
use Rattle.moos_text.proofs.part.part_len_by_bytes.Given as goal

-- The bytes before the index stand in the first part.
abbrev pub invariant-loop-len : goal.invariant-loop-len
invariant-loop-len l = parts_of l.text ≡ onto_part (take l.len l.text) (parts_from l.quoted (drop l.len l.text))
