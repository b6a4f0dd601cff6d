use Rattle.std.proofs.Common.{◌≡◌, ◌∙◌, ap, append-nil, codes, rules}
use Rattle.moos_io.proofs.BufferedWriting.{writes_as}
use Rattle.ivp_cert.specs.Texts.{decision_lines}
use Rattle.moos_report.proofs.decided.LastText.put.Goals as goal

pub returns-in-Some-printed : goal.returns-in-Some-printed
returns-in-Some-printed g c =
    let same : c.in-Some-printed.last ≡ c.args.decision.now = search rules in
    let text = append-nil c.bytes-in-Some-printed.result.now ∙ c.bytes-in-Some-printed.ensures ∙ ap (decision_lines (codes "%% ")) same in
    writes_as text c.write-in-Some-printed.ensures
