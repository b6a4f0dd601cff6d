use Rattle.std.proofs.Common.{◌++◌, ◌∷◌, [], ap, sym, ◌∙◌}
use Rattle.ivp_func.proofs.Meetings.{numbers_up}
use Rattle.ivp_func.proofs.grid.all_numbers.Goals as goal

pub loop-number-preserved : goal.loop-number-preserved
loop-number-preserved c =
    let number = c.loop-number.number in
    c.in_ok-push.ensures.items ∙ (ap (λ all. all ++ number ∷ []) c.loop-number.invariant ∙ sym (numbers_up number))
