use Rattle.std.proofs.Common.{◌≡◌, ◌++◌, IsTrue, true, length, drop, replicate, ◌∙◌, ap, rules}
use Rattle.std.proofs.lemmas.List.{drop-replicate}
use Rattle.ivp_domain.specs.AxisNames.{is_axis_name}
use Rattle.ivp_domain.proofs.Padding.{kept}
use Rattle.ivp_domain.proofs.axis.AxisName.new.Goals as goal

pub invariant_of-result : goal.invariant_of-result
invariant_of-result c =
    let name = c.args.bytes.now in
    let good : is_axis_name name ≡ true = search rules in
    kept (λ all. IsTrue (is_axis_name all)) name (c.copy_from_slice.new.self ++ drop (length name) (replicate 16 0)) 16 0
    (ap (λ front. front ++ drop (length name) (replicate 16 0)) c.copy_from_slice.ensures.after ∙ ap (λ rest. name ++ rest) (drop-replicate (length name) 16 0)) good
