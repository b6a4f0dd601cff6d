use Rattle.std.proofs.Common.{◌∙◌, ap, take}
use Rattle.std.proofs.lemmas.List.{take_min}
use Rattle.ivp_cert.proofs.print_by_workers.chunk_of.Goals as goal

pub returns : goal.returns
returns c =
    let left = c.split_at.result.1.now in
    c.split_at-2.ensures.front ∙ (ap (λ n. take n left) c.min.ensures ∙ (take_min 16384 left ∙ ap (take 16384) c.split_at.ensures.back))
