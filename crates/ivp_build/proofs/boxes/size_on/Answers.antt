use Rattle.std.proofs.Common.{◌≡◌, ◌+◌, arith, ap, ◌∙◌}
use Rattle.std.specs.Prelude.{slice_index}
use Rattle.ivp_domain.specs.Domains.{size_on}
use Rattle.ivp_domain.specs.declared.boxes.BoxN.{BoxN}
use Rattle.ivp_build.proofs.Sampling.{last_place_of}
use Rattle.ivp_build.proofs.boxes.size_on.Goals as goal

pub overflow_add-result : goal.overflow_add-result
overflow_add-result c =
    let last = last_place_of c.args.domain.now c.args.axis c.whole.ensures.lawful c.requires in
    let same : slice_index c.whole.result.high c.args.axis + 1 ≡ size_on c.args.axis c.args.domain.now = ap (λ (area : BoxN). slice_index area.high c.args.axis + 1) c.whole.ensures.whole ∙ last.0 in
    omega (arith, same, last.1)

pub returns-clause-size : goal.returns-clause-size
returns-clause-size c = ap (λ (area : BoxN). slice_index area.high c.args.axis + 1) c.whole.ensures.whole ∙ (last_place_of c.args.domain.now c.args.axis c.whole.ensures.lawful c.requires).0

pub returns-clause-few : goal.returns-clause-few
returns-clause-few c =
    let last = last_place_of c.args.domain.now c.args.axis c.whole.ensures.lawful c.requires in
    let same : slice_index c.whole.result.high c.args.axis + 1 ≡ size_on c.args.axis c.args.domain.now = ap (λ (area : BoxN). slice_index area.high c.args.axis + 1) c.whole.ensures.whole ∙ last.0 in
    omega (arith, same, last.1)
