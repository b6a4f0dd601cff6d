use Rattle.std.proofs.Common.{◌∙◌, Some, ap, sym, subst, bytes_eq, if◌then◌else◌}
use Rattle.std.specs.List.{IsDistinct}
use Rattle.std.specs.Map.{keys_of}
use Rattle.std.specs.Map.Iter.{deref_pair}
use Rattle.std.specs.Option.{option_or}
use Rattle.std.specs.Ordering.{on}
use Rattle.std.proofs.lemmas.Map.Keys.{IsDistinct-tail}
use Rattle.std.proofs.lemmas.Map.Iter.{rest_more}
use Rattle.helm_cond.specs.Infos.{knowledge_of}
use Rattle.helm_cond.proofs.Tables.{value_at, value_taken}
use Rattle.helm_cond.proofs.info.Info.copy.Goals as goal

pub loop-var-preserved : goal.loop-var-preserved
loop-var-preserved c =
    let left = rest_more deref_pair c.loop-var.var-iterator c.next.new.self c.next.result (c.in-Some.var, c.in-Some.value) c.in-Some.is c.next.ensures.steps in
    let distinct = subst (λ entries. IsDistinct (on (λ key. key.items) bytes_eq) (keys_of entries)) left c.loop-var.invariant.distinct in
    record {
      distinct = IsDistinct-tail _ _ _ distinct;
      known = λ var.
          ap (option_or (value_at (λ key. key.items) var c.next.new.self))
          (c.in_ok-set.ensures.ok var
          ∙ (λ i. if bytes_eq var (c.as_slice.ensures.value i) then Some (c.in_ok-copy.ensures i) else knowledge_of c.loop-var.copied var))
          ∙ value_taken (λ key. key.items) c.in-Some.var.now c.in-Some.value.now c.next.new.self (knowledge_of c.loop-var.copied) distinct var
          ∙ ap (λ entries. option_or (value_at (λ key. key.items) var entries) (knowledge_of c.loop-var.copied var)) (sym left)
          ∙ c.loop-var.invariant.known var;
    }
