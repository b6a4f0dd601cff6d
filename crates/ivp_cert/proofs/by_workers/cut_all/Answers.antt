use Rattle.std.proofs.Common.{map, rules, arith}
use Rattle.ivp_cert.specs.Subtrees.{cut_at}
use Rattle.ivp_cert.proofs.Dealing.{all_dealt}
use Rattle.ivp_cert.proofs.by_workers.cut_all.Goals as goal

pub returns : goal.returns
returns g c =
    let cuts = map (cut_at c.args.problem.now c.args.key) c.args.subtrees.now in
    let answers = c.in_ok-answers.answers.items in
    all_dealt c.args.workers cuts c.in_ok-shares.shares.items answers c.in_ok-shares.ensures (omega (arith, c.in_ok-answers.ensures.len, c.in_ok-answers.answers.ok.0)) (λ k d within. search rules)
