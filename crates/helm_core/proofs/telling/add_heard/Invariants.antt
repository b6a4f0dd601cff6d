use Rattle.std.proofs.Common.{◌≡◌, ◌++◌, take}
use Rattle.std.specs.Prelude.{bytes_eq}
use Rattle.std.specs.List.{filter}
use Rattle.helm_core.specs.declared.iteration.Update.{Update}
use Rattle.helm_core.proofs.telling.add_heard.Given as goal

abbrev pub invariant-loop-update : goal.invariant-loop-update
invariant-loop-update l = l.updates ≡ l.fn.updates ++ filter (λ (update : Update). bytes_eq update.name l.name) (take l.update-index l.heard)
