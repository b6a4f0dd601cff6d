use Rattle.std.proofs.Common.{◌≡◌, List, ℕ, bytes_eq}
use Rattle.std.specs.List.{IsDistinct}
use Rattle.std.specs.Map.{keys_of}
use Rattle.std.specs.Option.{option_or}
use Rattle.std.specs.Ordering.{on}
use Rattle.helm_cond.specs.Infos.{knowledge_of}
use Rattle.helm_cond.proofs.Tables.{value_at}
use Rattle.helm_cond.proofs.info.Info.copy.Given as goal

-- What isn't left is known in the copy.
abbrev pub invariant-loop-var : goal.invariant-loop-var
invariant-loop-var l = record {
  distinct : IsDistinct (on (λ key. key.items) bytes_eq) (keys_of l.var-iterator);
  known : (var : List ℕ) → option_or (value_at (λ key. key.items) var l.var-iterator) (knowledge_of l.copied var) ≡ knowledge_of l.self var;
}
