use Rattle.std.proofs.Common.{◌≡◌, ap, ◌∙◌, sym, subst, to_z, of_z, w64, arith}
use Rattle.std.proofs.lemmas.Int.{ints}
use Rattle.ivp_func.specs.Bodies.{IsBody}
use Rattle.ivp_func.specs.Functions.{IsPartition, IsTop}
use Rattle.ivp_func.specs.Pieces.{are_pieces_of}
use Rattle.ivp_func.proofs.func.Func.with_grid.Goals as goal

pub top-top-requires-clause-fit : goal.top-top-requires-clause-fit
top-top-requires-clause-fit c = ap (are_pieces_of c.args.domain.now) c.deref.ensures.value ∙ c.requires.function.pieces

pub top-top-requires-clause-partition : goal.top-top-requires-clause-partition
top-top-requires-clause-partition c = subst (λ xs. IsPartition c.args.domain.now xs) (sym c.deref.ensures.value) c.requires.function.partition

pub invariant_of-result : goal.invariant_of-result
invariant_of-result c =
    let axes = c.args.domain.now in
    let kept : to_z w64 (of_z w64 c.top-top.result) ≡ c.top-top.result = omega (arith, ints) in
    subst IsBody (sym c.in_ok-body.ensures.ok) (record {
      function = c.requires.function;
      top = subst (λ v. IsTop axes c.args.pieces.items v) (sym kept) (subst (λ xs. IsTop axes xs c.top-top.result) c.deref.ensures.value c.top-top.ensures);
      grid = c.requires.grid;
    })
