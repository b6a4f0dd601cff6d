use Rattle.std.proofs.Common.{◌≡◌, ℕ, ◌-◌, true, false, ◌<◌, ◌≤◌, List, length, IfSome, IfNone, IsTrue, ap, sym, subst, ◌∙◌, arith}
use Rattle.std.specs.Prelude.{slice_get}
use Rattle.ivp_func.specs.declared.piece.Piece.{Piece}
use Rattle.ivp_func.specs.Cells.{IsGrid, lies_in_piece}
use Rattle.ivp_func.specs.Functions.{Function}
use Rattle.ivp_func.specs.Grids.{meets}
use Rattle.ivp_func.specs.Pieces.{is_box_of}
use Rattle.ivp_func.proofs.Seeking.{none_behind}
use Rattle.ivp_func.proofs.func.Func.next_meet.Goals as goal

pub next_meet-requires-clause-grid : goal.next_meet-requires-clause-grid
next_meet-requires-clause-grid c =
    let body = c.body-body in (
      body.result.now.domain,
      subst (λ (pieces : List Piece). IsGrid body.result.now.domain pieces body.result.now.grid) (sym c.deref-2.ensures.value) body.ensures.kept.grid,
      ap (λ (func : Function). is_box_of func.axes c.args.area.now) body.ensures.function ∙ c.requires,
    )

pub next_meet-requires-clause-few : goal.next_meet-requires-clause-few
next_meet-requires-clause-few c = subst (λ (pieces : List Piece). length pieces ≤ 4096) (sym c.deref-2.ensures.value) c.body-body.ensures.kept.function.few

pub returns-clause-some : goal.returns-clause-some
returns-clause-some c =
    let same = c.deref-2.ensures.value ∙ ap (λ (func : Function). func.pieces) c.body-body.ensures.function in
    subst (λ (pieces : List Piece). IfSome c.next_meet.result (λ number. (c.args.from ≤ number) × (number < length pieces) × IsTrue (meets pieces c.args.area.now number))) same c.next_meet.ensures.some

pub returns-clause-least : goal.returns-clause-least
returns-clause-least c =
    let same = c.deref-2.ensures.value ∙ ap (λ (func : Function). func.pieces) c.body-body.ensures.function in
    subst (λ (pieces : List Piece). IfSome c.next_meet.result (λ number. (other : ℕ) → c.args.from ≤ other → other < number → meets pieces c.args.area.now other ≡ false)) same c.next_meet.ensures.least

pub returns-clause-none : goal.returns-clause-none
returns-clause-none c =
    let same = c.deref-2.ensures.value ∙ ap (λ (func : Function). func.pieces) c.body-body.ensures.function in
    subst (λ (pieces : List Piece). IfNone c.next_meet.result ((other : ℕ) → c.args.from ≤ other → meets pieces c.args.area.now other ≡ false)) same c.next_meet.ensures.none

pub returns-then-lies_in_piece-clause-none : goal.returns-then-lies_in_piece-clause-none
returns-then-lies_in_piece-clause-none c = λ other above.
    let body = c.body-body.result.now in
    let pieces = body.pieces.items in
    let area = c.args.area.now in
    let fits : is_box_of body.domain area ≡ true = ap (λ (func : Function). is_box_of func.axes area) c.body-body.ensures.function ∙ c.requires in
    let lies : lies_in_piece area (slice_get pieces (c.args.from - 1)) ≡ true = ap (λ (all : List Piece). lies_in_piece area (slice_get all (c.args.from - 1))) (sym c.deref.ensures.value) ∙ (sym c.lies_in_piece.ensures ∙ c.if-lies_in_piece.true) in
    subst (λ (func : Function). meets func.pieces area other ≡ false) c.body-body.ensures.function
    (none_behind body.domain pieces area (c.args.from - 1) other c.body-body.ensures.kept.function.partition fits lies (omega (arith, above, c.if-from-gt0.true)))
