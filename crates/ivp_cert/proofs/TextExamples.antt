-- The text of a decision, and what it keeps so that its text stands for it, worked by hand.
use Rattle.std.proofs.Common.{◌≡◌, ℕ, zero, suc, ◌*◌, ◌≤◌, ◌<◌, ◌^◌, inl, inr, true, false, List, [], ◌∷◌, ◌++◌, replicate, refl, subst, arith}
use Rattle.std.specs.Prelude.{codes, Ok, Err, ℤ, pos, negsuc, IsTrue}
use Rattle.std.specs.Fmt.{digits}
use Rattle.ivp_domain.specs.declared.axis.Axis.{Axis}
use Rattle.ivp_domain.specs.AxisNames.{is_axis_name}
use Rattle.ivp_domain.specs.Boxes.{point_from}
use Rattle.ivp_func.specs.declared.piece.Piece.{Piece}
use Rattle.ivp_problem.specs.declared.term.Term.{Term}
use Rattle.ivp_problem.proofs.Examples.{rising, split, term, twelve, two, two_is_lawful}
use Rattle.moos_text.specs.declared.cause.Cause.TheVariants.{P1}
use Rattle.moos_text.specs.declared.cause.ReadFault.TheVariants.{At}
use Rattle.ivp_cert.specs.declared.cert.Line.{Line}
use Rattle.ivp_cert.specs.Decisions.{decision_of}
use Rattle.ivp_cert.specs.Printed.{AllOf, HasFourPlaces, HasSums, IsPrefix, IsPrintableLine, IsPrintableProblem}
use Rattle.ivp_cert.specs.Texts.{axis_text, decision_lines, piece_text}
use Rattle.ivp_cert.proofs.CertExamples.{decision, line, problem_bytes}
use Rattle.ivp_cert.proofs.Examples.{on_course}

-- the lines of a decision, alone and behind a prefix
printed : decision_lines [] decision ≡ problem_bytes ++ codes "decision 0 1 0 0.075\ncut 0 0 : 0.075 2\ncut 0 1 : 0.055 10\ndone\n"
unfolding digits
printed = refl

behind_a_prefix : decision_lines (codes "%% ") decision
    ≡ codes "%% ivp 1\n%% domain a:0:2:3\n%% domain b:0:1:2\n%% domain d:0:1:2\n%% function 0.002\n%% piece 0 2 0 1 0 1 0 10 0 0\n%% function 0.003\n%% piece 0 0 0 1 0 1 20 0 5 0\n%% piece 1 2 0 1 0 1 0 0 5 0\n%% end\n%% decision 0 1 0 0.075\n%% cut 0 0 : 0.075 2\n%% cut 0 1 : 0.055 10\n%% done\n"
unfolding digits
behind_a_prefix = refl

-- numbers below zero, and thousandths
negative : (axis_text [] (record { name = codes "x"; low = negsuc 499; high = pos 1250; points = 2 }) ≡ codes "domain x:-0.5:1.25:2\n") × (piece_text [] 1 (on_course 0 1 (negsuc 6) (negsuc 99999)) ≡ codes "piece 0 1 -7 -100000\n")
unfolding digits
negative = (refl, refl)

-- behind these prefixes it is read as what it was, and behind no other
read_back : decision_of (decision_lines (codes "%% ") decision) ≡ Ok decision
unfolding digits
read_back = refl

not_read_back : decision_of (decision_lines (codes "%%") decision) ≡ Err (At 1 P1)
not_read_back = refl

prefixes : IsPrefix [] × IsPrefix (codes "%% ")
prefixes = (inl refl, inr refl)

no_prefix : IsPrefix (codes "%%") → ⊥
no_prefix (inl none) = absurd (cc)
no_prefix (inr same) = absurd (cc)

-- a piece has a number for each of the four axes, in each of its lists
four_places : HasFourPlaces (on_course 0 1 (pos 7) (pos 0))
four_places = record { low = refl; high = refl; slope = refl }

abbrev three_slopes : Piece
three_slopes = record { area = record { low = 0 ∷ 0 ∷ 0 ∷ 0 ∷ []; high = 1 ∷ 0 ∷ 0 ∷ 0 ∷ [] }; base = pos 7; slope = pos 0 ∷ pos 0 ∷ pos 0 ∷ [] }

without_a_slope : HasFourPlaces three_slopes → ⊥
without_a_slope has = omega (arith, has.slope)

-- each of a list, the last one too
of_none : {X : Type 0} (P : X → Type 0) → AllOf P []
of_none P place x here = absurd (cc)

of_more : {X : Type 0} (P : X → Type 0) (x : X) (xs : List X) → P x → AllOf P xs → AllOf P (x ∷ xs)
of_more P x xs first others zero y here = subst P (cc here) first
of_more P x xs first others (suc place) y here = others place y here

abbrev IsBelow : ℕ → ℕ → Type 0
IsBelow most number = number < most

each_below : AllOf (IsBelow 3) (1 ∷ 2 ∷ [])
each_below = of_more (IsBelow 3) 1 (2 ∷ []) (omega arith) (of_more (IsBelow 3) 2 [] (omega arith) (of_none (IsBelow 3)))

last_above : AllOf (IsBelow 2) (1 ∷ 2 ∷ []) → ⊥
last_above all = omega (arith, all 1 2 refl)

-- a line whose numbers are each as large as can be, and one more
greatest_line : IsPrintableLine (line (4294967295 ∷ []) 64000000000000 4294967295)
greatest_line = record { few = omega arith; path = of_more (IsBelow (2 ^ 32)) 4294967295 [] (omega arith) (of_none (IsBelow (2 ^ 32))); sum = omega arith; index = omega arith }

long_path : IsPrintableLine (line (replicate 65 0) 75 2) → ⊥
long_path is = omega (arith, is.few)

great_number : IsPrintableLine (line (0 ∷ 4294967296 ∷ []) 75 2) → ⊥
great_number is = omega (arith, is.path 1 4294967296 refl)

great_sum : IsPrintableLine (line (0 ∷ []) 64000000000001 2) → ⊥
great_sum is = omega (arith, is.sum)

great_index : IsPrintableLine (line (0 ∷ []) 75 4294967296) → ⊥
great_index is = omega (arith, is.index)

-- the sums of the decision, of its claim and of its lines
abbrev HasSum : Line → Type 0
HasSum of = of.sum ≤ 64 * 10 ^ 12

sums : HasSums decision
sums = record { claim = omega arith; lines = of_more HasSum (line (0 ∷ 0 ∷ []) 75 2) (line (0 ∷ 1 ∷ []) 55 10 ∷ []) (omega arith) (of_more HasSum (line (0 ∷ 1 ∷ []) 55 10) [] (omega arith) (of_none HasSum)) }

great_claim : HasSums (record decision { claim = record { point = point_from 0 1 0 0; sum = 64000000000001 } }) → ⊥
great_claim has = omega (arith, has.claim)

great_line : HasSums (record decision { cert = line [] 64000000000001 2 ∷ [] }) → ⊥
great_line has = omega (arith, has.lines 0 (line [] 64000000000001 2) refl)

-- the problem is a lawful one, whose axes have names and whose pieces have four places
abbrev IsNamed : Axis → Type 0
IsNamed axis = IsTrue (is_axis_name axis.name)

abbrev named : List ℕ → ℕ → ℕ → Axis
named name high points = record { name = name; low = pos 0; high = pos high; points = points }

abbrev HasPlaces : Term → Type 0
HasPlaces one = AllOf HasFourPlaces one.func.pieces

abbrev on_three : ℕ → ℕ → ℤ → ℤ → ℤ → Piece
on_three low high base slope second =
    record {
      area = record { low = low ∷ 0 ∷ 0 ∷ 0 ∷ []; high = high ∷ 1 ∷ 1 ∷ 0 ∷ [] };
      base = base;
      slope = slope ∷ second ∷ pos 0 ∷ pos 0 ∷ [];
    }

placed : (low high : ℕ) (base slope second : ℤ) → HasFourPlaces (on_three low high base slope second)
placed low high base slope second = record { low = refl; high = refl; slope = refl }

printable : IsPrintableProblem two
printable = record { lawful = two_is_lawful; names = names; pieces = pieces }
  where
    names : AllOf IsNamed twelve
    names = of_more IsNamed (named (codes "a") 2000 3) (named (codes "b") 1000 2 ∷ named (codes "d") 1000 2 ∷ []) refl (of_more IsNamed (named (codes "b") 1000 2) (named (codes "d") 1000 2 ∷ []) refl (of_more IsNamed (named (codes "d") 1000 2) [] refl (of_none IsNamed)))

    first : AllOf HasFourPlaces rising.func.pieces
    first = of_more HasFourPlaces (on_three 0 2 (pos 0) (pos 10) (pos 0)) [] (placed 0 2 (pos 0) (pos 10) (pos 0)) (of_none HasFourPlaces)

    other : AllOf HasFourPlaces split.func.pieces
    other =
        of_more HasFourPlaces (on_three 0 0 (pos 20) (pos 0) (pos 5)) (on_three 1 2 (pos 0) (pos 0) (pos 5) ∷ []) (placed 0 0 (pos 20) (pos 0) (pos 5))
        (of_more HasFourPlaces (on_three 1 2 (pos 0) (pos 0) (pos 5)) [] (placed 1 2 (pos 0) (pos 0) (pos 5)) (of_none HasFourPlaces))

    pieces : AllOf HasPlaces two.terms
    pieces = of_more HasPlaces rising (split ∷ []) first (of_more HasPlaces split [] other (of_none HasPlaces))

-- but not with an axis that is named by a digit, or a piece of three slopes
digit_name : IsPrintableProblem (record two { axes = named (codes "1") 2000 3 ∷ [] }) → ⊥
digit_name is = let name : false ≡ true = is.names 0 (named (codes "1") 2000 3) refl in absurd (cc)

flat_piece : IsPrintableProblem (record two { terms = term twelve 2 (three_slopes ∷ []) ∷ [] }) → ⊥
flat_piece is = without_a_slope (is.pieces 0 (term twelve 2 (three_slopes ∷ [])) refl 0 three_slopes refl)
