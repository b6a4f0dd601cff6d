use Rattle.std.proofs.Common.{◌≡◌, false, take, codes, bytes_eq}
use Rattle.std.specs.List.{list_any}
use Rattle.helm_cond.specs.Conditions.{names_in}
use Rattle.bhv_reader.proofs.mode.names_mode.Given as goal

abbrev pub invariant-loop-place : goal.invariant-loop-place
invariant-loop-place l = list_any (bytes_eq (codes "MODE")) (take l.place (names_in l.cond)) ≡ false
