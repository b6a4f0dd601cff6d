-- The least piece that meets an area, sought in cells.
use Rattle.std.proofs.Common.{◌≡◌, ℕ, zero, suc, ◌+◌, ◌-◌, ◌<◌, ◌≤◌, true, false, Option, Some, None, List, [], ◌∷◌, ◌++◌, length, length-append, take, drop, refl, ap, ◌∙◌, sym, subst, inl, inr, arith, IsTrue}
use Rattle.std.specs.Prelude.{slice_get, slice_index, IfSome, IfOk, Result, Ok, Err}
use Rattle.std.specs.List.{slice_range}
use Rattle.std.specs.Result.{result_ok}
use Rattle.std.specs.Borrow.{Bor}
use Rattle.std.specs.Option.{option_copied}
use Rattle.std.proofs.Math.Seq.{drop-append_seam, take-length}
use Rattle.std.proofs.lemmas.Bool.{cases_Bool, cases_lt}
use Rattle.std.proofs.lemmas.List.{drop-append-le, length-drop, take-append-le}
use Rattle.ivp_domain.specs.declared.axis.Axis.{Axis}
use Rattle.ivp_domain.specs.declared.boxes.BoxN.{BoxN}
use Rattle.ivp_domain.specs.declared.boxes.Point.{Point}
use Rattle.ivp_domain.specs.Boxes.{has_point}
use Rattle.ivp_func.specs.declared.grid.Cell.{Cell}
use Rattle.ivp_func.specs.declared.piece.Piece.{Piece}
use Rattle.ivp_func.specs.Cells.{IsCell, IsLeast, IsMeeting, IsRising, NoneLess, NoneLessIn, lies_in_piece}
use Rattle.ivp_func.specs.Functions.{IsPartition}
use Rattle.ivp_func.specs.Grids.{cell_at, cell_box, meeting, meets, share}
use Rattle.ivp_func.specs.Pieces.{piece_has, is_box_of}
use Rattle.ivp_func.proofs.Counting.{two_hold}
use Rattle.ivp_func.proofs.Cutting.{in_cell}
use Rattle.ivp_func.proofs.Facts.{area_point, point_in}
use Rattle.ivp_func.proofs.Meetings.{listed_all, listed_rising, listed_within, meets_from, meets_to, meets_within, share_from}

-- what holds of each element, and of one more at the end
pub each_pushed : {X : Type 0} (P : ℕ → X → Type 0) (xs : List X) (x : X) → ((k : ℕ) (y : X) → slice_get xs k ≡ Some y → P k y) → P (length xs) x → (k : ℕ) (y : X) → slice_get (xs ++ x ∷ []) k ≡ Some y → P k y
each_pushed P [] x each last zero y e = let same : x ≡ y = cc in subst (P 0) same last
each_pushed P [] x each last (suc k) y e = absurd (cc)
each_pushed P (z ∷ zs) x each last zero y e = each 0 y e
each_pushed P (z ∷ zs) x each last (suc k) y e = each_pushed (λ j. P (suc j)) zs x (λ j y e. each (suc j) y e) last k y e

-- of the numbers below what was found
pub meeting_more : (pieces : List Piece) (area : BoxN) (from until next next' : ℕ) → IsMeeting pieces area from until next → IsMeeting pieces area from next next' → IsMeeting pieces area from until next'
meeting_more pieces area from until next next' so_far one =
    record {
      most = omega (arith, one.most, so_far.most);
      found = λ below. elim (cases_lt next' next) [
        | inl less ↦ one.found less
        | inr same ↦ let e : next ≡ next' = omega (arith, one.most) in subst (λ n. (from ≤ n) × IsTrue (meets pieces area n)) e (so_far.found (omega arith))
      ];
    }

-- a cell's part of the numbers stays where more are added behind them
pub cell_stays : (pieces : List Piece) (place : BoxN) (numbers more : List ℕ) (cell : Cell) → IsCell pieces numbers place cell → IsCell pieces (numbers ++ more) place cell
cell_stays pieces place numbers more cell is =
    let from : cell.from ≤ length numbers = omega (arith, is.order, is.within) in
    let part : cell.to - cell.from ≤ length (drop cell.from numbers) = rw length-drop (omega (arith, is.within)) in
    record {
      area = is.area;
      order = is.order;
      within = rw length-append (omega (arith, is.within));
      listed = ap (take (cell.to - cell.from)) (drop-append-le cell.from numbers more from) ∙ (take-append-le (cell.to - cell.from) (drop cell.from numbers) more part ∙ is.listed);
    }

-- what was added behind some numbers is its own part of all
pub part_added : (numbers more : List ℕ) → slice_range (numbers ++ more) (length numbers) (length (numbers ++ more)) ≡ more
part_added numbers more =
    let count : length (numbers ++ more) - length numbers ≡ length more = rw length-append (omega arith) in
    ap (take (length (numbers ++ more) - length numbers)) (drop-append_seam numbers more) ∙ (ap (λ n. take n more) count ∙ take-length more)

-- the numbers of a cell are those of pieces
pub cell_within : (pieces : List Piece) (place : BoxN) (numbers : List ℕ) (cell : Cell) → IsCell pieces numbers place cell → (k : ℕ) → k < length (slice_range numbers cell.from cell.to) → slice_index (slice_range numbers cell.from cell.to) k < length pieces
cell_within pieces place numbers cell is = subst (λ (all : List ℕ). (k : ℕ) → k < length all → slice_index all k < length pieces) (sym is.listed) (listed_within pieces place)

pub cell_rising : (pieces : List Piece) (place : BoxN) (numbers : List ℕ) (cell : Cell) → IsCell pieces numbers place cell → IsRising (slice_range numbers cell.from cell.to)
cell_rising pieces place numbers cell is = subst IsRising (sym is.listed) (listed_rising pieces place)

-- a piece that has a point of the area in the last cell
in_last_cell : (axes : List Axis) (pieces : List Piece) (area : BoxN) (from next number n : ℕ) (numbers : List ℕ) (cell : Cell) (piece : Piece) (p : Point) → is_box_of axes area ≡ true → IsCell pieces numbers (cell_box axes number) cell → (share area cell.area ≡ true → NoneLess pieces area from next (slice_range numbers cell.from cell.to)) → from ≤ n → slice_get pieces n ≡ Some piece → piece_has p piece ≡ true → has_point area p ≡ true → cell_at axes p ≡ number → next ≤ n
in_last_cell axes pieces area from next number n numbers cell piece p fits is looked above stands held inside same =
    let place = cell_box axes number in
    let in_place : has_point place p ≡ true = subst (λ k. has_point (cell_box axes k) p ≡ true) same (in_cell axes p (area_point axes area p fits inside)) in
    let in_area : has_point cell.area p ≡ true = subst (λ (b : BoxN). has_point b p ≡ true) (sym is.area) in_place in
    let least : NoneLess pieces area from next (meeting pieces place) = subst (λ (xs : List ℕ). NoneLess pieces area from next xs) is.listed (looked (share_from area cell.area p inside in_area)) in
    let kept = listed_all pieces place n (meets_from pieces place n piece p stands in_place held) in
    let met = meets_from pieces area n piece p stands inside held in
    subst (λ m. next ≤ m) kept.here (least kept.place kept.within (subst (λ m. from ≤ m) (sym kept.here) above) (subst (λ m. IsTrue (meets pieces area m)) (sym kept.here) met))

-- a cell more was passed: it has no point of the area, or its numbers were looked at
pub passed_cell : (axes : List Axis) (pieces : List Piece) (area : BoxN) (from next next' first number : ℕ) (numbers : List ℕ) (cell : Cell) → is_box_of axes area ≡ true → IsCell pieces numbers (cell_box axes number) cell → next' ≤ next → (share area cell.area ≡ true → NoneLess pieces area from next' (slice_range numbers cell.from cell.to)) → NoneLessIn axes pieces area from next first number → NoneLessIn axes pieces area from next' first (number + 1)
passed_cell axes pieces area from next next' first number numbers cell fits is less looked so_far n piece p above stands held inside begin below =
    elim (cases_lt (cell_at axes p) number) [
      | inl before ↦ omega (arith, less, so_far n piece p above stands held inside begin before)
      | inr last ↦ in_last_cell axes pieces area from next' number n numbers cell piece p fits is looked above stands held inside (omega arith)
    ]

-- what is known behind some cells
pub record SoFar (axes : List Axis) (pieces : List Piece) (area : BoxN) (from first number next : ℕ) : Type 0 where
  pub meeting : IsMeeting pieces area from (length pieces) next
  pub least : NoneLessIn axes pieces area from next first number

pub cell_looked : (axes : List Axis) (pieces : List Piece) (area : BoxN) (from next next' first number : ℕ) (numbers : List ℕ) (cell : Cell) → is_box_of axes area ≡ true → IsCell pieces numbers (cell_box axes number) cell → IsMeeting pieces area from next next' → NoneLess pieces area from next' (slice_range numbers cell.from cell.to) → SoFar axes pieces area from first number next → SoFar axes pieces area from first (number + 1) next'
cell_looked axes pieces area from next next' first number numbers cell fits is one least so_far =
    record {
      meeting = meeting_more pieces area from (length pieces) next next' so_far.meeting one;
      least = passed_cell axes pieces area from next next' first number numbers cell fits is one.most (λ _. least) so_far.least;
    }

pub cell_apart : (axes : List Axis) (pieces : List Piece) (area : BoxN) (from next first number : ℕ) (numbers : List ℕ) (cell : Cell) → is_box_of axes area ≡ true → IsCell pieces numbers (cell_box axes number) cell → share area cell.area ≡ false → SoFar axes pieces area from first number next → SoFar axes pieces area from first (number + 1) next
cell_apart axes pieces area from next first number numbers cell fits is apart so_far =
    let same : next ≤ next = omega arith in
    record {
      meeting = so_far.meeting;
      least = passed_cell axes pieces area from next next first number numbers cell fits is same (λ shared. absurd (cc)) so_far.least;
    }

-- all cells of the area were passed
pub all_passed : (axes : List Axis) (pieces : List Piece) (area : BoxN) (from next first last : ℕ) → ((p : Point) → has_point area p ≡ true → first ≤ cell_at axes p) → ((p : Point) → has_point area p ≡ true → cell_at axes p ≤ last) → NoneLessIn axes pieces area from next first (last + 1) → IsLeast pieces area from next
all_passed axes pieces area from next first last low high none n above met =
    let at = meets_to pieces area n met in
    none n at.piece at.point above at.stands at.held at.inside (low at.point at.inside) (omega (arith, high at.point at.inside))

-- none is left behind the last
pub none_left : (pieces : List Piece) (area : BoxN) (from next : ℕ) → length pieces ≤ next → IsLeast pieces area from next → (n : ℕ) → from ≤ n → meets pieces area n ≡ false
none_left pieces area from next past least n above =
    elim (cases_Bool (meets pieces area n)) [
      | inl met ↦ absurd (omega (arith, meets_within pieces area n met, least n above met))
      | inr apart ↦ apart
    ]

-- in a partition no piece behind one in which an area lies meets it
pub none_behind : (axes : List Axis) (pieces : List Piece) (area : BoxN) (number other : ℕ) → IsPartition axes pieces → is_box_of axes area ≡ true → lies_in_piece area (slice_get pieces number) ≡ true → number < other → meets pieces area other ≡ false
none_behind axes pieces area number other partition fits lies behind = by (slice_get pieces number) refl lies
  where
    by : (o : Option Piece) → slice_get pieces number ≡ o → lies_in_piece area o ≡ true → meets pieces area other ≡ false
    by None e inside = absurd (cc)
    by (Some piece) e inside =
        elim (cases_Bool (meets pieces area other)) [
          | inl met ↦
              let at = meets_to pieces area other met in
              let one = partition at.point (area_point axes area at.point fits at.inside) in
              let several = two_hold pieces number other piece at.piece at.point behind e at.stands (point_in area piece.area at.point inside at.inside) at.held in
              absurd (omega (arith, one, several))
          | inr none ↦ none
        ]

-- what holds of a value that is lent
pub lent : {G : Type 0} (P : G → Type 0) (r : Option (Bor G)) (o : Option G) → option_copied r ≡ o → IfSome o P → IfSome r (λ (b : Bor G). P b.now)
lent P None o e h = tt
lent P (Some b) o e h = subst (λ v. IfSome v P) (sym e) h

pub some_more : {G : Type 0} (P Q : G → Type 0) (o : Option G) → IfSome o P → ((g : G) → P g → Q g) → IfSome o Q
some_more P Q None h f = tt
some_more P Q (Some g) h f = f g h

-- the value of an answer that was taken out of it
pub ok_some : {G E : Type 0} (P : G → Type 0) (r : Result G E) (g : G) → result_ok r ≡ Some g → IfOk r P → P g
ok_some P (Ok v) g e h = let same : v ≡ g = cc in subst P same h
ok_some P (Err f) g e h = absurd (cc)
