use Rattle.std.proofs.Common.{◌==◌, ◌∙◌, ◌+◌, ◌∷◌, ap, sym}
use Rattle.std.specs.List.{before_first}
use Rattle.helm_cond.specs.Conditions.{mode_names}
use Rattle.helm_cond.proofs.Parts.{name_ends, last_name}
use Rattle.helm_cond.proofs.TokenSteps.{all_behind}
use Rattle.helm_cond.proofs.mode.behind_name.Goals as goal

pub returns-then-name-mode-clause-next : goal.returns-then-name-mode-clause-next
returns-then-name-mode-clause-next c =
    name_ends c.args.mode.now c.bytes_before_colon-name.result c.bytes_before_colon-name.ensures c.if-name-mode.true
    ∙ ap (λ behind. before_first (λ byte. byte == 58) c.args.mode.now ∷ mode_names behind) (sym (all_behind (c.bytes_before_colon-name.result + 1) c.args.mode.now))

pub returns-else-name-mode-clause-last : goal.returns-else-name-mode-clause-last
returns-else-name-mode-clause-last c = last_name c.args.mode.now c.bytes_before_colon-name.result c.bytes_before_colon-name.ensures c.if-name-mode.false
