-- The definitions on worked examples.
use Rattle.std.proofs.Common.{◌≡◌, ℕ, true, false, Ok, Err, ℤ, pos, negsuc, ◌≤ℤ◌, List, [], ◌∷◌, refl, ap, sym, ◌∙◌, arith}
use Rattle.std.specs.Prelude.{codes}
use Rattle.std.proofs.lemmas.Bool.{and_parts}
use Rattle.std.proofs.lemmas.Bool.Decides.{nat_tests}
use Rattle.std.proofs.lemmas.Int.{ints}
use Rattle.ivp_domain.specs.declared.axis.Axis.{Axis}
use Rattle.ivp_domain.specs.declared.boxes.BoxN.{BoxN}
use Rattle.ivp_domain.specs.Boxes.{has_point, point_from}
use Rattle.ivp_domain.specs.Domains.{whole}
use Rattle.ivp_domain.proofs.BoxLemmas.{has_point-common}
use Rattle.ivp_func.specs.declared.func.FuncFault.TheVariants.{NotPartition, ValueOut}
use Rattle.ivp_func.specs.declared.piece.Piece.{Piece}
use Rattle.ivp_func.specs.Covering.{covered_in, CutOn, SameOn, shared_with, Shorter}
use Rattle.ivp_func.specs.Functions.{Function, has_values, is_partition, IsFunction, IsTop}
use Rattle.ivp_func.specs.Grids.{cell_at, cell_box, cells_of, meeting, meets, run_on}
use Rattle.ivp_func.specs.Making.{MadeFunction}
use Rattle.ivp_func.specs.Pieces.{are_pieces_of, count_at, is_base, is_piece_of, is_value, value_at}
use Rattle.ivp_func.proofs.PointTests.{passes_partition, passes_values}

-- domain a:0:2:3
abbrev three : List Axis
three = record { name = codes "a"; low = pos 0; high = pos 2000; points = 3 } ∷ []

-- a piece by its low and high end, base and slope on that axis, and its slope on a second one
abbrev piece : ℕ → ℕ → ℤ → ℤ → ℤ → Piece
piece low high base s t = record { area = record { low = low ∷ 0 ∷ 0 ∷ 0 ∷ []; high = high ∷ 0 ∷ 0 ∷ 0 ∷ [] }; base = base; slope = s ∷ t ∷ pos 0 ∷ pos 0 ∷ [] }

-- 7 and 10 on the first two points, and 100,000 on the last
abbrev good : List Piece
good = piece 0 1 (pos 7) (pos 3) (pos 0) ∷ piece 2 2 (pos 0) (pos 50000) (pos 0) ∷ []

good_is_a_function : (are_pieces_of three good ≡ true) × (is_partition three good ≡ true) × (has_values three good ≡ true)
good_is_a_function = (refl, refl, refl)

values : (value_at good (point_from 0 0 0 0) ≡ pos 7) × (value_at good (point_from 1 0 0 0) ≡ pos 10) × (value_at good (point_from 2 0 0 0) ≡ pos 100000)
values = (refl, refl, refl)

-- what no piece may be: past the axis, empty, of too great a slope, of a slope on an axis that there isn't, of too great a base
no_pieces : (is_piece_of three (piece 0 3 (pos 0) (pos 0) (pos 0)) ≡ false) × (is_piece_of three (piece 2 1 (pos 0) (pos 0) (pos 0)) ≡ false) × (is_piece_of three (piece 0 2 (pos 0) (negsuc 100000) (pos 0)) ≡ false) × (is_piece_of three (piece 0 2 (pos 0) (pos 0) (pos 1)) ≡ false) × (is_base (pos 100000000000001) ≡ false)
no_pieces = (refl, refl, refl, refl, refl)

-- the middle point lies in two of these, and the last in none
abbrev bad : List Piece
bad = piece 0 1 (pos 0) (pos 0) (pos 0) ∷ piece 1 1 (pos 0) (pos 0) (pos 0) ∷ []

counts : (count_at bad (point_from 0 0 0 0) ≡ 1) × (count_at bad (point_from 1 0 0 0) ≡ 2) × (count_at bad (point_from 2 0 0 0) ≡ 0) × (is_partition three bad ≡ false)
counts = (refl, refl, refl, refl)

-- so the pieces have as many points as the domain, and don't cover it
covered : (covered_in (whole three) bad ≡ 3) × (shared_with (whole three) (piece 1 1 (pos 0) (pos 0) (pos 0)) ≡ 1) × (shared_with (record { low = 2 ∷ 0 ∷ 0 ∷ 0 ∷ []; high = 2 ∷ 0 ∷ 0 ∷ 0 ∷ [] }) (piece 0 1 (pos 0) (pos 0) (pos 0)) ≡ 0)
covered = (refl, refl, refl)

refused : MadeFunction three bad (Err (NotPartition (point_from 2 0 0 0) 0))
refused = (omega arith, refl, refl, λ one. absurd (cc))

-- a value of 100,001, and one below 0
abbrev high : List Piece
high = piece 0 2 (pos 99999) (pos 1) (pos 0) ∷ []

values_out : (has_values three high ≡ false) × (has_values three (piece 0 2 (pos 1) (negsuc 0) (pos 0) ∷ []) ≡ false)
values_out = (refl, refl)

-- a box of three places in two: the first two, and the last
abbrev span : ℕ → ℕ → BoxN
span low high = record { low = low ∷ 0 ∷ 0 ∷ 0 ∷ []; high = high ∷ 0 ∷ 0 ∷ 0 ∷ [] }

cut : CutOn 0 (span 0 2) (span 0 1) (span 2 2) × SameOn 1 (span 0 2) (span 0 1) (span 2 2)
cut = (record { left_low = refl; right_high = refl; next = refl; some = omega arith; rest = omega arith }, record { left_low = refl; left_high = refl; right_low = refl; right_high = refl })

-- but not with a place in neither of them, or in both, nor is the box cut where it is the same
gap_between : CutOn 0 (span 0 2) (span 0 0) (span 2 2) → ⊥
gap_between is = omega (arith, is.next)

cut_in_both : CutOn 0 (span 0 2) (span 0 1) (span 1 2) → ⊥
cut_in_both is = omega (arith, is.next)

cut_where_same : SameOn 0 (span 0 2) (span 0 1) (span 2 2) → ⊥
cut_where_same is = omega (arith, is.left_high)

-- one piece leaves the last place out: so the upper part of the box is covered short too; the lower part isn't, a place outside the box is no part of it, and the whole is no smaller part
abbrev short : List Piece
short = piece 0 1 (pos 0) (pos 0) (pos 0) ∷ []

upper_part : Shorter short (span 0 2) (span 2 2)
upper_part =
    record {
      proper = refl;
      smaller = omega arith;
      short = omega arith;
      inside = λ p here. (and_parts (has_point (span 0 2) p) (has_point (span 2 2) p) (sym (has_point-common (span 0 2) (span 2 2) p) ∙ here)).0;
    }

not_the_lower : Shorter short (span 0 2) (span 0 1) → ⊥
not_the_lower is = omega (arith, is.short)

not_outside : Shorter short (span 0 2) (span 3 3) → ⊥
not_outside is = let outside : false ≡ true = is.inside (point_from 3 0 0 0) refl in absurd (cc)

not_the_whole : Shorter short (span 0 2) (span 0 2) → ⊥
not_the_whole is = omega (arith, is.smaller)

-- these pieces are a function; those that share a point aren't, nor those with a value out of range, without an axis, or with a slope along no axis
abbrev on_three : List Piece → Function
on_three pieces = record { axes = three; pieces = pieces }

good_function : IsFunction (on_three good)
good_function = record { domain = refl; few = omega arith; pieces = refl; partition = passes_partition three good refl; values = passes_values three good refl }

bad_function : IsFunction (on_three bad) → ⊥
bad_function is = omega (arith, is.partition (point_from 1 0 0 0) refl)

high_function : IsFunction (on_three high) → ⊥
high_function is = let value : false ≡ true = is.values (point_from 2 0 0 0) refl in absurd (cc)

no_domain : IsFunction (record { axes = []; pieces = good }) → ⊥
no_domain is = let domain : false ≡ true = is.domain in absurd (cc)

sloped_past_the_axes : IsFunction (on_three (piece 0 2 (pos 0) (pos 0) (pos 1) ∷ [])) → ⊥
sloped_past_the_axes is = let pieces : false ≡ true = is.pieces in absurd (cc)

-- the greatest value is the last point's: not the middle one's, which is less, and not one more, which no point has
at_most : (value : ℤ) → is_value value ≡ true → value ≤ℤ pos 100000
at_most value is = grind (arith, nat_tests, ints)

top_of_good : IsTop three good (pos 100000)
top_of_good = record { attained = (point_from 2 0 0 0, refl, refl); greatest = λ p inside. at_most (value_at good p) (passes_values three good refl p inside) }

lesser_top : IsTop three good (pos 10) → ⊥
lesser_top is = absurd (omega (arith, ints, is.greatest (point_from 2 0 0 0) refl))

greater_top : IsTop three good (pos 100001) → ⊥
greater_top is = let at = is.attained in let value : false ≡ true = sym (ap is_value at.2) ∙ passes_values three good refl at.0 at.1 in absurd (cc)

-- making a function answers with it, or why there is none: these pieces are refused for no other count and for no point that one piece holds, and not made; the good ones are made, and not refused for a value in range
made : MadeFunction three good (Ok (on_three good))
made = (omega arith, passes_partition three good refl, passes_values three good refl, refl)

other_count : MadeFunction three bad (Err (NotPartition (point_from 2 0 0 0) 2)) → ⊥
other_count is = omega (arith, is.2)

held_once : MadeFunction three bad (Err (NotPartition (point_from 0 0 0 0) 1)) → ⊥
held_once is = is.3 refl

made_of_bad : MadeFunction three bad (Ok (on_three bad)) → ⊥
made_of_bad is = omega (arith, is.1 (point_from 1 0 0 0) refl)

value_in_range : MadeFunction three good (Err (ValueOut (point_from 2 0 0 0) (pos 100000))) → ⊥
value_in_range is = let out : true ≡ false = is.4 in cc

-- domains of one, two and three axes
abbrev sized : ℕ → Axis
sized points = record { name = codes "a"; low = pos 0; high = pos 1000; points = points }

abbrev course : List Axis
course = sized 360 ∷ []

abbrev square : List Axis
square = sized 2000 ∷ sized 2000 ∷ []

abbrev deep : List Axis
deep = sized 360 ∷ sized 41 ∷ sized 101 ∷ []

-- runs of two places, of 125 and 125, and of 60, 7 and 17
runs : (run_on 0 course ≡ 2) × (cells_of course ≡ 180) × (run_on 1 square ≡ 125) × (cells_of square ≡ 256) × (run_on 1 deep ≡ 7) × (run_on 2 deep ≡ 17) × (cells_of deep ≡ 216)
runs = (refl, refl, refl, refl, refl, refl, refl)

-- the last run of an axis ends with it: 41 places are five runs of seven and one of six
last_cell : cell_box deep 215 ≡ record { low = 300 ∷ 35 ∷ 85 ∷ 0 ∷ []; high = 359 ∷ 40 ∷ 100 ∷ 0 ∷ [] }
last_cell = refl

-- the first axis counts most
second_cell : (cell_box square 1 ≡ record { low = 0 ∷ 125 ∷ 0 ∷ 0 ∷ []; high = 124 ∷ 249 ∷ 0 ∷ 0 ∷ [] }) × (cell_at square (point_from 124 125 0 0) ≡ 1) × (cell_at square (point_from 125 124 0 0) ≡ 16)
second_cell = (refl, refl, refl)

-- three pieces of 45 places each
abbrev eighths : List Piece
eighths = piece 0 44 (pos 0) (pos 0) (pos 0) ∷ piece 45 89 (pos 0) (pos 0) (pos 0) ∷ piece 90 134 (pos 0) (pos 0) (pos 0) ∷ []

-- the cell of the places 44 and 45 has two of them, which share a point with it, and the third doesn't
listed : (cell_box course 22 ≡ (piece 44 45 (pos 0) (pos 0) (pos 0)).area) × (meeting eighths (cell_box course 22) ≡ 0 ∷ 1 ∷ []) × (meets eighths (cell_box course 22) 1 ≡ true) × (meets eighths (cell_box course 22) 2 ≡ false) × (meets eighths (cell_box course 22) 3 ≡ false)
listed = (refl, refl, refl, refl, refl)
