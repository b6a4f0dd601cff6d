use Rattle.std.proofs.Common.{◌≡◌, [], length, map, sym, ap, ◌∙◌, arith}
use Rattle.std.proofs.lemmas.List.{length-map}
use Rattle.ivp_problem.specs.Trees.{root_of}
use Rattle.ivp_cert.specs.Certificates.{topmost}
use Rattle.ivp_cert.specs.Dealing.{dealt}
use Rattle.ivp_cert.specs.Subtrees.{cut_at}
use Rattle.ivp_cert.proofs.Dealing.{flat_each, length_dealt}
use Rattle.ivp_cert.proofs.by_workers.cut_by_workers.Goals as goal

pub returns : goal.returns
returns g c =
    let problem = c.args.problem.now in
    let key = c.args.key in
    let workers = c.args.workers in
    let subtrees = c.in_ok-subtrees.subtrees.items in
    let shares = c.in_ok-shares.shares.items in
    let cuts = map (cut_at problem key) subtrees in
    let all : shares ≡ dealt workers cuts = c.in_ok-shares.ensures ∙ ap (λ ones. dealt workers (map (cut_at problem key) ones)) c.as_slice.ensures.value in
    let each : shares ≡ dealt (length shares) cuts = all ∙ ap (λ n. dealt n cuts) (sym (ap length all ∙ length_dealt workers cuts)) in
    let many : length cuts ≡ c.len.result = length-map subtrees (cut_at problem key) ∙ omega (arith, c.len.ensures, c.in_ok-subtrees.subtrees.ok.0) in
    c.of.ensures
    ∙ (c.in_ok-lines.ensures cuts many each
    ∙ (flat_each (cut_at problem key) subtrees
    ∙ (c.in_ok-subtrees.ensures.lines ∙ ap (λ k. topmost problem k problem.terms [] (root_of problem)) c.requires.key)))
