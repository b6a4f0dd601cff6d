use Rattle.ivp_build.proofs.Sampling.{sums_fit, sums_kept}
use Rattle.ivp_build.proofs.sampled.total.Goals as goal

pub overflow_add-result : goal.overflow_add-result
overflow_add-result c =
    let kept = sums_kept c.args.value c.args.one c.args.two c.args.three c.args.four c.requires.value c.requires.one c.requires.two c.requires.three c.requires.four in
    rw (kept.0, kept.1) (sums_fit c.args.value c.args.one c.args.two c.args.three c.args.four c.requires.value c.requires.one c.requires.two c.requires.three c.requires.four).0

pub overflow_add-result-2 : goal.overflow_add-result-2
overflow_add-result-2 c =
    let kept = sums_kept c.args.value c.args.one c.args.two c.args.three c.args.four c.requires.value c.requires.one c.requires.two c.requires.three c.requires.four in
    rw (kept.0, kept.1, kept.5, kept.2) (sums_fit c.args.value c.args.one c.args.two c.args.three c.args.four c.requires.value c.requires.one c.requires.two c.requires.three c.requires.four).1

pub overflow_add-result-3 : goal.overflow_add-result-3
overflow_add-result-3 c =
    let kept = sums_kept c.args.value c.args.one c.args.two c.args.three c.args.four c.requires.value c.requires.one c.requires.two c.requires.three c.requires.four in
    rw (kept.0, kept.1, kept.5, kept.2, kept.6, kept.3) (sums_fit c.args.value c.args.one c.args.two c.args.three c.args.four c.requires.value c.requires.one c.requires.two c.requires.three c.requires.four).2

pub overflow_add-result-4 : goal.overflow_add-result-4
overflow_add-result-4 c =
    let kept = sums_kept c.args.value c.args.one c.args.two c.args.three c.args.four c.requires.value c.requires.one c.requires.two c.requires.three c.requires.four in
    rw (kept.0, kept.1, kept.5, kept.2, kept.6, kept.3, kept.7, kept.4) (sums_fit c.args.value c.args.one c.args.two c.args.three c.args.four c.requires.value c.requires.one c.requires.two c.requires.three c.requires.four).3

pub returns : goal.returns
returns c =
    let kept = sums_kept c.args.value c.args.one c.args.two c.args.three c.args.four c.requires.value c.requires.one c.requires.two c.requires.three c.requires.four in
    rw (kept.0, kept.1, kept.5, kept.2, kept.6, kept.3, kept.7, kept.4) kept.8
