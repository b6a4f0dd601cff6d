use Rattle.std.proofs.Common.{◌+◌, [], ◌∷◌, ◌++◌, take, ap, ◌∙◌}
use Rattle.helm_cond.specs.Conditions.{mode_names}
use Rattle.moos_text.proofs.Numerals.{from_place}
use Rattle.bhv_reader.proofs.Splits.{cut_at, one_part}
use Rattle.bhv_reader.proofs.parent.cut_last.Goals as goal

pub returns-in-Some-clause-cut : goal.returns-in-Some-clause-cut
returns-in-Some-clause-cut c =
    let text = c.args.text.now in
    let place = c.in-Some.place in
    let found = c.in-Some.ensures.place in
    cut_at text place found.0 found.1 found.2 ∙ ap (λ back. mode_names (take place text) ++ back ∷ []) (from_place (place + 1) text)

pub returns-in-None-clause-cut : goal.returns-in-None-clause-cut
returns-in-None-clause-cut c = one_part c.args.text.now c.in-None.ensures.none
