use Rattle.std.proofs.Common.{◌≡◌, ◌++◌, drop}
use Rattle.std.specs.Prelude.{reverse}
use Rattle.std.specs.Option.{option_to_list}
use Rattle.helm_cond.specs.Conditions.{mode_names}
use Rattle.bhv_file.specs.Paths.{named_from, paths_of}
use Rattle.bhv_reader.proofs.parent.named.Given as goal

abbrev pub invariant-loop-number : goal.invariant-loop-number
invariant-loop-number l =
    named_from 0 (reverse (mode_names l.text)) (paths_of l.decls)
    ≡ option_to_list l.found ++ named_from l.number (reverse (mode_names l.text)) (drop l.number (paths_of l.decls))
