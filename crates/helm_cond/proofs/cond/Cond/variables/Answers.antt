use Rattle.std.proofs.Common.{◌∙◌, length, ap, sym}
use Rattle.helm_cond.specs.Conditions.{names_in}
use Rattle.helm_cond.proofs.Whole.{names_kept}
use Rattle.helm_cond.proofs.cond.Cond.variables.Goals as goal

pub returns : goal.returns
returns c = c.len.ensures ∙ ap length (sym (names_kept c.self.inside.symbols c.self.inside.names c.self.invariant) ∙ ap names_in c.self.view_is)
