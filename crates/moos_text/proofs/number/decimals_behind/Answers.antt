use Rattle.std.proofs.Common.{◌+◌, drop, ap, sym, ◌∙◌, add-one, arith}
use Rattle.std.proofs.lemmas.Grind.{common_steps}
use Rattle.moos_text.proofs.Numerals.{parted, unparted, from_place}
use Rattle.moos_text.proofs.number.decimals_behind.Goals as goal

pub returns-then-whole-text-clause-some : goal.returns-then-whole-text-clause-some
returns-then-whole-text-clause-some c =
    parted c.args.whole c.args.text.now _ c.requires (λ lt. absurd (omega arith)) (grind (arith, common_steps))

pub returns-then-text-whole-eq46-clause-some : goal.returns-then-text-whole-eq46-clause-some
returns-then-text-whole-eq46-clause-some c =
    parted c.args.whole c.args.text.now _ c.requires (λ lt. c.if-text-whole-eq46.true)
    (ap (λ i. drop i c.args.text.now) (sym (add-one c.args.whole)) ∙ from_place (c.args.whole + 1) c.args.text.now)

pub returns-else-text-whole-eq46-clause-none : goal.returns-else-text-whole-eq46-clause-none
returns-else-text-whole-eq46-clause-none c = unparted c.args.whole c.args.text.now c.requires (omega arith) c.if-text-whole-eq46.false
