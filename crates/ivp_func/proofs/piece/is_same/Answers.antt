use Rattle.std.proofs.Common.{rules}
use Rattle.std.specs.Cmp.Rules.{signed_items}
use Rattle.std.proofs.lemmas.Bool.Decides.{Decides-int_eq}
use Rattle.ivp_func.proofs.piece.is_same.Goals as goal

pub returns : goal.returns
returns c = let slopes = signed_items c.args.a.now.slope c.args.b.now.slope in let bases = Decides-int_eq c.args.a.now.base c.args.b.now.base in search (rules, slopes.0, bases.0)
