use Rattle.std.proofs.Common.{◌<◌, ◌∙◌, length, ap, sym, subst}
use Rattle.std.specs.Prelude.{slice_get}
use Rattle.helm_cond.specs.Conditions.{names_in}
use Rattle.helm_cond.proofs.Whole.{names_kept}
use Rattle.helm_cond.proofs.cond.Cond.variable.Goals as goal

pub get-requires : goal.get-requires
get-requires c = subst (λ names. c.args.place < length names) (ap names_in (sym c.self.view_is) ∙ names_kept c.self.inside.symbols c.self.inside.names c.self.invariant) c.requires

pub returns : goal.returns
returns c =
    ap (λ names. slice_get names c.args.place) (ap names_in (sym c.self.view_is) ∙ names_kept c.self.inside.symbols c.self.inside.names c.self.invariant)
    ∙ c.get.ensures
