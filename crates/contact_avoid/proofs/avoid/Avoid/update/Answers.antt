use Rattle.std.proofs.Common.{Option, subst, sym, ◌∙◌}
use Rattle.std.specs.Prelude.{IfSome}
use Rattle.bhv_file.specs.declared.spec.Spec.{Spec}
use Rattle.bhv_file.specs.Validity.{IsValidSpec}
use Rattle.bhv_file.proofs.Pairwise.{updated_avoid}
use Rattle.contact_avoid.proofs.avoid.Avoid.update.Goals as goal

pub make-requires : goal.make-requires
make-requires c = record {
  valid = subst (λ (o : Option Spec). IfSome o IsValidSpec) c.in-Some.is c.in_ok-after.ensures.valid;
  avoids = updated_avoid c.args.domain.now c.in_ok-before.before c.in-Some.after c.bytes.result.now (sym c.in_ok-after.ensures.spec ∙ c.in-Some.is) ∙ c.in_ok-before.ensures.is.avoids;
}
