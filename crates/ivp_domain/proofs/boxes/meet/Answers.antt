use Rattle.std.proofs.Common.{ap, sym, refl, ◌∙◌}
use Rattle.ivp_domain.specs.Boxes.{is_box}
use Rattle.ivp_domain.proofs.BoxLemmas.{has_point-common, meet_has_point, none_in_both}
use Rattle.ivp_domain.proofs.boxes.meet.Goals as goal

pub returns-then-is_proper-clause-shared : goal.returns-then-is_proper-clause-shared
returns-then-is_proper-clause-shared c = λ p. rw c.common-area.ensures (has_point-common c.args.a.now c.args.b.now p)

pub returns-then-is_proper-clause-apart : goal.returns-then-is_proper-clause-apart
returns-then-is_proper-clause-apart c = (
  λ h. absurd (cc),
  λ none. meet_has_point c.args.a.now c.args.b.now (ap is_box (sym c.common-area.ensures) ∙ (sym c.is_proper.ensures ∙ c.if-is_proper.true)) none,
)

pub returns-else-is_proper-clause-apart : goal.returns-else-is_proper-clause-apart
returns-else-is_proper-clause-apart c = (
  λ _. none_in_both c.args.a.now c.args.b.now (ap is_box (sym c.common-area.ensures) ∙ (sym c.is_proper.ensures ∙ c.if-is_proper.false)),
  λ _. refl,
)
