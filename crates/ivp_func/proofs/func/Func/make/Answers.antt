use Rattle.std.proofs.Common.{◌≡◌, List, false, ap, ◌∙◌, sym, subst, to_z, of_z, w64, arith, rules}
use Rattle.std.proofs.lemmas.Int.{ints}
use Rattle.ivp_func.specs.declared.piece.Piece.{Piece}
use Rattle.ivp_func.specs.Cells.{IsGrid}
use Rattle.ivp_func.specs.Functions.{HasValues, IsPartition}
use Rattle.ivp_func.specs.Pieces.{are_pieces_of, count_at, is_value, value_at}
use Rattle.ivp_func.proofs.Seeking.{ok_some}
use Rattle.ivp_func.proofs.func.Func.make.Goals as goal

pub misfit-requires-clause-fit : goal.misfit-requires-clause-fit
misfit-requires-clause-fit c = ap (are_pieces_of c.args.domain.now) c.deref-2.ensures.value ∙ c.requires

pub returns-in-Some : goal.returns-in-Some
returns-in-Some c =
    let point = c.in-Some.point in
    let count = c.count-count.ensures ∙ ap (λ xs. count_at xs point) c.deref-in-Some.ensures.value in
    let judged = ap (λ xs. count_at xs point) c.deref-2.ensures.value in (
      search rules,
      c.in-Some.ensures.some.0,
      count,
      λ one. c.in-Some.ensures.some.1 (judged ∙ sym count ∙ one),
    )

pub point_out-requires-clause-fit : goal.point_out-requires-clause-fit
point_out-requires-clause-fit c = ap (are_pieces_of c.args.domain.now) c.deref-3.ensures.value ∙ c.requires

pub point_out-requires-clause-partition : goal.point_out-requires-clause-partition
point_out-requires-clause-partition c = subst (λ xs. IsPartition c.args.domain.now xs) (c.deref-2.ensures.value ∙ sym c.deref-3.ensures.value) c.in_default.ensures.none

pub value_at-value-requires : goal.value_at-value-requires
value_at-value-requires c = ap (are_pieces_of c.args.domain.now) c.deref-in-Some-point_out.ensures.value ∙ c.requires

pub returns-in_default-grid : goal.returns-in_default-grid
returns-in_default-grid c =
    let axes = c.args.domain.now in (
      search rules,
      subst (λ xs. IsPartition axes xs) c.deref-2.ensures.value c.in_default.ensures.none,
      subst (λ xs. HasValues axes xs) c.deref-3.ensures.value c.in_default-point_out.ensures.none,
    )

pub returns-in-Ok : goal.returns-in-Ok
returns-in-Ok c =
    let axes = c.args.domain.now in (
      search rules,
      subst (λ xs. IsPartition axes xs) c.deref-2.ensures.value c.in_default.ensures.none,
      subst (λ xs. HasValues axes xs) c.deref-3.ensures.value c.in_default-point_out.ensures.none,
      c.in-Ok.ensures,
    )

pub returns-in-Err : goal.returns-in-Err
returns-in-Err c =
    let axes = c.args.domain.now in (
      search rules,
      subst (λ xs. IsPartition axes xs) c.deref-2.ensures.value c.in_default.ensures.none,
      subst (λ xs. HasValues axes xs) c.deref-3.ensures.value c.in_default-point_out.ensures.none,
    )

pub with_grid-requires-clause-function : goal.with_grid-requires-clause-function
with_grid-requires-clause-function c =
    let axes = c.args.domain.now in
    record {
      domain = c.in_default.ensures.domain;
      few = search rules;
      pieces = c.requires;
      partition = subst (λ xs. IsPartition axes xs) c.deref-2.ensures.value c.in_default.ensures.none;
      values = subst (λ xs. HasValues axes xs) c.deref-3.ensures.value c.in_default-point_out.ensures.none;
    }

pub with_grid-requires-clause-grid : goal.with_grid-requires-clause-grid
with_grid-requires-clause-grid c =
    let axes = c.args.domain.now in
    subst (λ (xs : List Piece). IsGrid axes xs c.in-Some-grid.grid) c.deref.ensures.value (ok_some (IsGrid axes c.deref.result.now) c.make.result c.in-Some-grid.grid (sym c.ok-grid.ensures.value ∙ c.in-Some-grid.is) c.make.ensures)

pub returns-in-Some-point_out : goal.returns-in-Some-point_out
returns-in-Some-point_out c =
    let axes = c.args.domain.now in
    let point = c.in-Some-point_out.point in
    let kept : to_z w64 (of_z w64 c.value_at-value.result) ≡ c.value_at-value.result = omega (arith, ints) in
    let value : to_z w64 (of_z w64 c.value_at-value.result) ≡ value_at c.args.pieces.items point = kept ∙ (c.value_at-value.ensures ∙ ap (λ xs. value_at xs point) c.deref-in-Some-point_out.ensures.value) in
    let out : is_value (value_at c.args.pieces.items point) ≡ false = subst (λ xs. is_value (value_at xs point) ≡ false) c.deref-3.ensures.value c.in-Some-point_out.ensures.some.1 in (
      search rules,
      subst (λ xs. IsPartition axes xs) c.deref-2.ensures.value c.in_default.ensures.none,
      c.in-Some-point_out.ensures.some.0,
      value,
      ap is_value value ∙ out,
    )
