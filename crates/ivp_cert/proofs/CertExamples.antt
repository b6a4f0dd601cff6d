-- Certificates and decisions worked by hand.
use Rattle.std.proofs.Common.{◌≡◌, ℕ, true, false, Some, None, List, [], ◌∷◌, ◌++◌, refl, ap, sym, subst, arith}
use Rattle.std.specs.Prelude.{codes, Ok, Err, pos}
use Rattle.ivp_domain.specs.Boxes.{point_from}
use Rattle.ivp_problem.specs.declared.node.Node.{Node}
use Rattle.ivp_problem.specs.Trees.{bound_of, node_of, root_of}
use Rattle.ivp_problem.proofs.Examples.{left, two}
use Rattle.moos_text.specs.declared.cause.Cause.TheVariants.{P1, P9, P10}
use Rattle.moos_text.specs.declared.cause.ReadFault.TheVariants.{At}
use Rattle.ivp_problem.specs.declared.key.Key.{Key}
use Rattle.ivp_problem.specs.Keys.{AtMost, key_of}
use Rattle.ivp_problem.proofs.KeyOrder.{at_most_self, at_most_sum, true_at_most}
use Rattle.ivp_cert.specs.declared.cert.Line.{Line}
use Rattle.ivp_cert.specs.declared.claim.Claim.{Claim}
use Rattle.ivp_cert.specs.declared.claim.Decision.{Decision}
use Rattle.ivp_cert.specs.Certificates.{Accepts, begins, certificate_of, is_before, IsLine, Rise}
use Rattle.ivp_cert.specs.Decisions.{decision_of}
use Rattle.ivp_cert.specs.Walks.{behind_node}
use Rattle.ivp_cert.proofs.Accepting.{walked_accepts}

abbrev pub lines : List Line
lines = record { path = 0 ∷ 0 ∷ []; sum = 75; index = 2 } ∷ record { path = 0 ∷ 1 ∷ []; sum = 55; index = 10 } ∷ []

certificate_is : certificate_of two ≡ lines
certificate_is = refl

is_covered : behind_node two (key_of 75 2) two.terms [] (root_of two) lines ≡ Some []
is_covered = refl

-- what stands behind the lines that cover the tree is left; nothing covers it with a line missing, in another order, with another sum, or while one key less is known
line_behind : behind_node two (key_of 75 2) two.terms [] (root_of two) (lines ++ record { path = []; sum = 115; index = 0 } ∷ []) ≡ Some (record { path = []; sum = 115; index = 0 } ∷ [])
line_behind = refl

line_missing : behind_node two (key_of 75 2) two.terms [] (root_of two) (record { path = 0 ∷ 0 ∷ []; sum = 75; index = 2 } ∷ []) ≡ None
line_missing = refl

lines_swapped : behind_node two (key_of 75 2) two.terms [] (root_of two) (record { path = 0 ∷ 1 ∷ []; sum = 55; index = 10 } ∷ record { path = 0 ∷ 0 ∷ []; sum = 75; index = 2 } ∷ []) ≡ None
lines_swapped = refl

other_sum : behind_node two (key_of 75 2) two.terms [] (root_of two) (record { path = 0 ∷ 0 ∷ []; sum = 75; index = 2 } ∷ record { path = 0 ∷ 1 ∷ []; sum = 54; index = 10 } ∷ []) ≡ None
other_sum = refl

less_known : behind_node two (key_of 75 3) two.terms [] (root_of two) lines ≡ None
less_known = refl

-- paths compared number by number
beginning_first : is_before (0 ∷ []) (0 ∷ 0 ∷ []) ≡ true
beginning_first = refl

less_first : is_before (0 ∷ 1 ∷ []) (0 ∷ 2 ∷ []) ≡ true
less_first = refl

greater_last : is_before (1 ∷ []) (0 ∷ 5 ∷ []) ≡ false
greater_last = refl

not_itself : is_before (0 ∷ []) (0 ∷ []) ≡ false
not_itself = refl

root_begins : begins [] (0 ∷ 1 ∷ []) ≡ true
root_begins = refl

longer_begins_not : begins (0 ∷ 1 ∷ []) (0 ∷ []) ≡ false
longer_begins_not = refl

lines_rise : Rise lines
lines_rise = (refl, (refl, tt))

swapped_fall : Rise (record { path = 0 ∷ 1 ∷ []; sum = 55; index = 10 } ∷ record { path = 0 ∷ 0 ∷ []; sum = 75; index = 2 } ∷ []) → ⊥
swapped_fall are = let first : false ≡ true = are.0 in cc

-- a line by its path, sum and index: that of the first leaf, and none of another sum or index, of no node, or of one whose bound is above the key
abbrev pub line : List ℕ → ℕ → ℕ → Line
line path sum index = record { path = path; sum = sum; index = index }

leaf_line : IsLine two (key_of 75 2) (line (0 ∷ 0 ∷ []) 75 2)
leaf_line = record { node = left; reached = refl; sum = refl; index = refl; most = at_most_self (key_of 75 2) }

bound_of_leaf : (node : Node) → node_of two (0 ∷ 0 ∷ []) ≡ Some node → bound_of two node ≡ key_of 75 2
bound_of_leaf node reached = let same : left ≡ node = cc in sym (ap (bound_of two) same)

other_sum_of_leaf : IsLine two (key_of 75 2) (line (0 ∷ 0 ∷ []) 74 2) → ⊥
other_sum_of_leaf is = omega (arith, is.sum, ap (λ (k : Key). k.sum) (bound_of_leaf is.node is.reached))

other_index_of_leaf : IsLine two (key_of 75 2) (line (0 ∷ 0 ∷ []) 75 3) → ⊥
other_index_of_leaf is = omega (arith, is.index, ap (λ (k : Key). k.index) (bound_of_leaf is.node is.reached))

two_above_three : AtMost (key_of 75 2) (key_of 75 3) → ⊥
two_above_three most = let told : false ≡ true = true_at_most (key_of 75 2) (key_of 75 3) most in absurd (cc)

leaf_above_the_key : IsLine two (key_of 75 3) (line (0 ∷ 0 ∷ []) 75 2) → ⊥
leaf_above_the_key is = two_above_three (subst (λ (k : Key). AtMost k (key_of 75 3)) (bound_of_leaf is.node is.reached) is.most)

no_third_leaf : IsLine two (key_of 75 2) (line (0 ∷ 2 ∷ []) 55 10) → ⊥
no_third_leaf is = let reached = is.reached in absurd (cc)

-- the certificate is accepted, and not with its lines the other way round
abbrev claim : Claim
claim = record { point = point_from 0 1 0 0; sum = 75 }

lines_accepted : Accepts two claim lines
lines_accepted = walked_accepts two claim lines refl refl

abbrev other_way : List Line
other_way = record { path = 0 ∷ 1 ∷ []; sum = 55; index = 10 } ∷ record { path = 0 ∷ 0 ∷ []; sum = 75; index = 2 } ∷ []

other_way_refused : Accepts two claim other_way → ⊥
other_way_refused is = let first : false ≡ true = is.rise.0 in cc

-- nor with the second leaf left out, for another sum, or for a point of a lesser one
left_out_refused : Accepts two claim (record { path = 0 ∷ 0 ∷ []; sum = 75; index = 2 } ∷ []) → ⊥
left_out_refused is = omega (arith, is.once (0 ∷ 1 ∷ []) (record { depth = 2; area = record { low = 1 ∷ 0 ∷ 0 ∷ 0 ∷ []; high = 2 ∷ 1 ∷ 1 ∷ 0 ∷ [] }; base = pos 0; slope = pos 20 ∷ pos 15 ∷ pos 0 ∷ pos 0 ∷ [] }) refl (omega arith))

other_sum_refused : Accepts two (record { point = point_from 0 1 0 0; sum = 74 }) lines → ⊥
other_sum_refused is = omega (arith, is.sum)

lesser_point_refused : Accepts two (record { point = point_from 2 1 0 0; sum = 55 }) lines → ⊥
lesser_point_refused is = let first = is.lines 0 (record { path = 0 ∷ 0 ∷ []; sum = 75; index = 2 }) refl in omega (arith, first.sum, at_most_sum (bound_of two first.node) (key_of 55 10) first.most)

abbrev pub problem_bytes : List ℕ
problem_bytes = codes "ivp 1\ndomain a:0:2:3\ndomain b:0:1:2\ndomain d:0:1:2\nfunction 0.002\npiece 0 2 0 1 0 1 0 10 0 0\nfunction 0.003\npiece 0 0 0 1 0 1 20 0 5 0\npiece 1 2 0 1 0 1 0 0 5 0\nend\n"

abbrev pub decision : Decision
decision = record { problem = two; claim = record { point = point_from 0 1 0 0; sum = 75 }; cert = lines }

decision_is : decision_of (problem_bytes ++ codes "decision 0 1 0 0.075\ncut 0 0 : 0.075 2\ncut 0 1 : 0.055 10\ndone\n") ≡ Ok decision
decision_is = refl

ends_early : decision_of (problem_bytes ++ codes "decision 0 1 0 0.075\ncut 0 0 : 0.075 2\ncut 0 1 : 0.055 10\n") ≡ Err (At 13 P9)
ends_early = refl

out_of_the_domain : decision_of (problem_bytes ++ codes "decision 0 2 0 0.075\n") ≡ Err (At 11 P10)
out_of_the_domain = refl

no_sum : decision_of (problem_bytes ++ codes "decision\n") ≡ Err (At 11 P1)
no_sum = refl

no_place : decision_of (problem_bytes ++ codes "decision 75\n") ≡ Err (At 11 P10)
no_place = refl

form_before_point : decision_of (problem_bytes ++ codes "decision 9 9 9 9 x\n") ≡ Err (At 11 P1)
form_before_point = refl

line_before_the_claim : decision_of (problem_bytes ++ codes "cut : 0.075 2\n") ≡ Err (At 11 P1)
line_before_the_claim = refl

second_claim : decision_of (problem_bytes ++ codes "decision 0 1 0 0.075\ndecision 0 1 0 0.075\n") ≡ Err (At 12 P1)
second_claim = refl

-- a sum is read up to its third decimal, without a sign, and is at most 64,000,000,000
other_decimals : decision_of (problem_bytes ++ codes "decision 0 1 0 .0759\ncut 0 0 : 0.075 2\ncut 0 1 : 00.0550 10\ndone\n") ≡ Ok decision
other_decimals = refl

signed_sum : decision_of (problem_bytes ++ codes "decision 0 1 0 +0.075\n") ≡ Err (At 11 P1)
signed_sum = refl

great_sum : decision_of (problem_bytes ++ codes "decision 0 1 0 64000000000.001\n") ≡ Err (At 11 P1)
great_sum = refl

word_behind_done : decision_of (problem_bytes ++ codes "decision 0 1 0 0.075\ndone 0\n") ≡ Err (At 12 P1)
word_behind_done = refl

line_behind_done : decision_of (problem_bytes ++ codes "decision 0 1 0 0.075\ndone\n\nx\n") ≡ Err (At 14 P1)
line_behind_done = refl
