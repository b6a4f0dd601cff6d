use Rattle.std.proofs.Common.{◌∙◌, sym}
use Rattle.helm_core.proofs.Deciding.{is_made, never_refused, problem_made}
use Rattle.helm_core.proofs.decision.problem_of.Goals as goal

pub returns : goal.returns
returns c =
    is_made c.args.domain c.args.terms.items c.in-Ok.problem (problem_made c.args.domain c.args.terms.items c.requires.some c.requires.few c.requires.fit) (sym c.in-Ok.is ∙ c.make.ensures)

pub unreachable-requires : goal.unreachable-requires
unreachable-requires c =
    never_refused c.args.domain c.args.terms.items c.in-Err.field-0 (problem_made c.args.domain c.args.terms.items c.requires.some c.requires.few c.requires.fit) (sym c.in-Err.is ∙ c.make.ensures)
