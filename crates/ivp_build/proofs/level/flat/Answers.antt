use Rattle.std.proofs.Common.{◌≡◌, List, to_z, of_z, w64, ◌∙◌, ap, subst, sym, arith}
use Rattle.std.proofs.lemmas.Int.{ints}
use Rattle.ivp_func.specs.declared.piece.Piece.{Piece}
use Rattle.ivp_func.specs.Functions.{Function, IsFunction}
use Rattle.ivp_func.specs.Pieces.{value_at}
use Rattle.ivp_build.specs.Builders.{flat_pieces}
use Rattle.ivp_build.proofs.Lawful.{flat_function, flat_value}
use Rattle.ivp_build.proofs.level.flat.Goals as goal

pub of_pieces-requires : goal.of_pieces-requires
of_pieces-requires c =
    let value : to_z w64 (of_z w64 c.args.value) ≡ c.args.value = omega (arith, ints) in
    let same : c.push.new.self.items ≡ flat_pieces c.args.domain.now c.args.value = rw (c.in_ok-push.ensures.items, c.new-pieces.ensures.items, c.whole.ensures.whole, value) in
    subst (λ (pieces : List Piece). IsFunction (record { axes = c.args.domain.now; pieces = pieces })) (sym same) (flat_function c.args.domain.now c.args.value c.whole.ensures.lawful c.requires)

pub returns-clause-value : goal.returns-clause-value
returns-clause-value c p inside =
    let value : to_z w64 (of_z w64 c.args.value) ≡ c.args.value = omega (arith, ints) in
    let same : c.push.new.self.items ≡ flat_pieces c.args.domain.now c.args.value = rw (c.in_ok-push.ensures.items, c.new-pieces.ensures.items, c.whole.ensures.whole, value) in
    ap (λ (func : Function). value_at func.pieces p) c.in_ok-func.ensures ∙ (ap (λ (pieces : List Piece). value_at pieces p) same ∙ flat_value c.args.domain.now c.args.value p inside)
