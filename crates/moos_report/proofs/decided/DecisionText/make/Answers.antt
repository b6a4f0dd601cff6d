use Rattle.std.proofs.Common.{rules, ◌≡◌, ◌∙◌, [], ◌++◌, Some, ap, codes, sym, unwrap_or}
use Rattle.moos_io.specs.declared.mem_sink.MemSink.{MemSink}
use Rattle.moos_io.specs.Pieces.{Took}
use Rattle.ivp_cert.specs.Texts.{decision_lines}
use Rattle.ivp_func.proofs.Seeking.{ok_some}
use Rattle.moos_report.proofs.decided.DecisionText.make.Goals as goal

pub invariant_of-result : goal.invariant_of-result
invariant_of-result c =
    let text = decision_lines (codes "%% ") c.args.decision.now in
    let empty = ok_some (λ (sink : MemSink). sink.taken ≡ []) c.make.result c.in_ok-text.text (sym c.in_ok-text.ensures.value) (search rules) in
    let took : Took (Some c.in_ok-text.text.taken) (Some c.print_decision.new.out.taken) text = search rules in
    let same : c.in_ok-decision.decision ≡ c.args.decision.now = search rules in
    ap (λ some. unwrap_or some []) took ∙ ap (λ bytes. bytes ++ text) empty ∙ ap (decision_lines (codes "%% ")) (sym same)
