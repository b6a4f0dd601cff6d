use Rattle.std.proofs.Common.{◌≡◌, ℕ, ◌<◌, ◌≤◌, ◌++◌, List, length, Some, sym, ap, subst, ◌∙◌, arith, length-append}
use Rattle.std.specs.Prelude.{slice_get}
use Rattle.std.specs.List.{All, filter}
use Rattle.std.proofs.lemmas.List.Elements.{All-filter}
use Rattle.ivp_domain.specs.Boxes.{numbers_from}
use Rattle.ivp_func.specs.declared.grid.Cell.{Cell}
use Rattle.ivp_func.specs.Cells.{IsCell}
use Rattle.ivp_func.specs.Grids.{cell_box, meeting, meets}
use Rattle.ivp_func.proofs.Meetings.{listed_among, numbers_below}
use Rattle.ivp_func.proofs.Seeking.{cell_stays, each_pushed, part_added}
use Rattle.ivp_func.proofs.grid.Grid.make.Goals as goal

pub with_meeting-requires : goal.with_meeting-requires
with_meeting-requires c =
    let pieces = c.args.pieces.now in
    let near = c.in_ok-near-2.near in
    let same = c.deref-in-loop-number-2.ensures.value ∙ c.in_ok-near-2.ensures.near in
    subst (λ (numbers : List ℕ). All (λ number. number < length pieces) numbers) (sym same)
    (All-filter (meets pieces near.around) (λ number. number < length pieces) (numbers_from 0 (length pieces)) (numbers_below (length pieces)))

pub loop-number-preserved : goal.loop-number-preserved
loop-number-preserved c =
    let pieces = c.args.pieces.now in
    let axes = c.kept_cuts-cuts.result in
    let near = c.in_ok-near-2.near in
    let area = c.cell_box-area.result in
    let cells = c.loop-number.cells.items in
    let before = c.loop-number.numbers.items in
    let after = c.in_ok-numbers.numbers.items in
    let added : after ≡ before ++ meeting pieces area = c.in_ok-numbers.ensures ∙ ap (λ (part : List ℕ). before ++ part) (ap (filter (meets pieces area)) (c.deref-in-loop-number-2.ensures.value ∙ c.in_ok-near-2.ensures.near) ∙ listed_among pieces area near.around c.in_ok-near-2.ensures.around) in
    let from : c.len-from.result ≡ length before = omega (arith, c.len-from.ensures, c.loop-number.numbers.ok) in
    let to : c.len-to.result ≡ length after = omega (arith, c.len-to.ensures, c.in_ok-numbers.numbers.ok) in
    let grows : length before ≤ length after = rw (added, length-append) (omega arith) in
    let cell : Cell = record { area = area; from = c.len-from.result; to = c.len-to.result } in
    let is : IsCell pieces after (cell_box axes c.loop-number.number) cell =
    record {
      area = c.cell_box-area.ensures;
      order = omega (arith, from, to, grows);
      within = omega (arith, to);
      listed = rw (from, to) (rw added (part_added before (meeting pieces area))) ∙ ap (meeting pieces) c.cell_box-area.ensures;
    } in
    let last : IsCell pieces after (cell_box axes (length cells)) cell = subst (λ n. IsCell pieces after (cell_box axes n) cell) (sym c.loop-number.invariant.count) is in
    let stay = λ (n : ℕ) (one : Cell) (e : slice_get cells n ≡ Some one). subst (λ (all : List ℕ). IsCell pieces all (cell_box axes n) one) (sym added) (cell_stays pieces (cell_box axes n) before (meeting pieces area) one (c.loop-number.invariant.each n one e)) in
    record {
      near = c.in_ok-near-2.ensures.near;
      count = rw (c.in_ok-push.ensures.items, length-append) (omega (arith, c.loop-number.invariant.count));
      each = subst (λ (all : List Cell). (n : ℕ) (one : Cell) → slice_get all n ≡ Some one → IsCell pieces after (cell_box axes n) one) (sym c.in_ok-push.ensures.items) (each_pushed (λ n one. IsCell pieces after (cell_box axes n) one) cells cell stay last);
    }

pub returns : goal.returns
returns c =
    let count = c.loop-number.invariant.count in
    record {
      domain = c.kept_cuts-cuts.ensures.domain;
      cuts = c.kept_cuts-cuts.ensures.cuts;
      cells =
          record {
            count = omega (arith, count, c.loop-number-test.false, c.cells-count.ensures.cells, c.loop-number.auto.number-end);
            each = c.loop-number.invariant.each;
          };
    }
