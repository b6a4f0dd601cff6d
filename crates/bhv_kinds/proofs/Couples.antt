-- Steering and cruising at once: the sum of a peak on the course and one on the speed.
use Rattle.std.proofs.Common.{◌≡◌, ◌≤◌, ◌*◌, ℕ, suc, pos, nat_abs, Bool, true, false, List, [], ◌∷◌, length, length-append, codes, Option, Some, None, refl, ap, sym, ◌∙◌, subst, arith}
use Rattle.std.proofs.lemmas.Slice.Eq.{bytes_eq-Decides}
use Rattle.std.specs.Prelude.{bytes_eq}
use Rattle.std.specs.List.{cons_option, list_any, position_or_len}
use Rattle.ivp_domain.specs.declared.axis.Axis.{Axis}
use Rattle.ivp_domain.specs.declared.boxes.Point.{Point}
use Rattle.ivp_domain.specs.Domains.{is_point}
use Rattle.ivp_func.specs.declared.piece.Piece.{Piece}
use Rattle.ivp_func.specs.Functions.{Function}
use Rattle.ivp_func.specs.Pieces.{value_at}
use Rattle.ivp_build.specs.declared.fault.BuildFault.{BuildFault}
use Rattle.ivp_build.specs.declared.fault.BuildFault.TheVariants.{TooMany, NoMemory}
use Rattle.ivp_build.specs.declared.shape.Peak.{Peak}
use Rattle.ivp_build.specs.Faults.{IsTooMany}
use Rattle.ivp_build.specs.Shapes.{peak_profile}
use Rattle.ivp_build.specs.Places.{axis_on}
use Rattle.ivp_build.specs.Sums.{HaveRoom, couple_pieces, met_sum, met_sums, slope_apart}
use Rattle.ivp_build.proofs.Sides.{peak_most, room_below, shapes_apart}
use Rattle.bhv_file.specs.Params.{has_axis}
use Rattle.bhv_file.specs.Named.{axis_number, named_axis, place_on}
use Rattle.bhv_kinds.specs.Utilities.{PeakOn, Sum, Utility, cruise, function_of, steer, utility_pieces, worth_at}

-- a sum has at most as many pieces as there are pairs
sums_few : (p : Piece) (qs : List Piece) → length (met_sums p qs) ≤ length qs
sums_few p [] = omega arith
sums_few p (q ∷ qs) = by (met_sum p q) (sums_few p qs)
  where
    by : (o : Option Piece) → length (met_sums p qs) ≤ length qs → length (cons_option o (met_sums p qs)) ≤ suc (length qs)
    by None h = omega (arith, h)
    by (Some one) h = omega (arith, h)

couple_few : (ps qs : List Piece) → length qs ≤ 9 → length (couple_pieces ps qs) ≤ length ps * 9
couple_few [] qs few = omega arith
couple_few (p ∷ ps) qs few =
    let first = sums_few p qs in
    let rest = couple_few ps qs few in
    let all = length-append (met_sums p qs) (couple_pieces ps qs) in
    omega (arith, first, rest, all)

-- so a sum of two functions of at most nine pieces isn't refused
pub few_enough : (ps qs : List Piece) (fault : BuildFault) → length ps ≤ 9 → length qs ≤ 9 → IsTooMany (length (couple_pieces ps qs)) fault → IsTooMany 81 fault
few_enough ps qs TooMany few few' many = let most = couple_few ps qs few' in omega (arith, most)
few_enough ps qs NoMemory few few' many = tt

-- two tests that no item passes together are passed first in different places
apart_at : {X : Type 0} (f g : X → Bool) (xs : List X) → ((x : X) → f x ≡ true → g x ≡ true → ⊥) → list_any f xs ≡ true → position_or_len f xs ≡ position_or_len g xs → ⊥
apart_at f g [] never some same = absurd cc
apart_at {X} f g (x ∷ xs) never some same = by (f x) (g x) refl refl (apart_at f g xs never)
  where
    by : (a b : Bool) → f x ≡ a → g x ≡ b → (list_any f xs ≡ true → position_or_len f xs ≡ position_or_len g xs → ⊥) → ⊥
    by true true e e' rest = never x e e'
    by true false e e' rest = absurd (grind arith)
    by false true e e' rest = absurd (grind arith)
    by false false e e' rest =
        let more : list_any f xs ≡ true = grind arith in
        let here : position_or_len f xs ≡ position_or_len g xs = grind arith in
        rest more here

no_name : (name : List ℕ) → bytes_eq name (codes "course") ≡ true → bytes_eq name (codes "speed") ≡ true → ⊥
no_name name e e' =
    let course : name ≡ codes "course" = (bytes_eq-Decides name (codes "course")).0 e in
    let speed : name ≡ codes "speed" = (bytes_eq-Decides name (codes "speed")).0 e' in
    let both : codes "course" ≡ codes "speed" = sym course ∙ speed in
    cc

-- the course and the speed are on different axes
axes_apart : (axes : List Axis) → has_axis axes (codes "course") ≡ true → axis_number axes (codes "course") ≡ axis_number axes (codes "speed") → ⊥
axes_apart axes has same = apart_at (λ axis. bytes_eq axis.name (codes "course")) (λ axis. bytes_eq axis.name (codes "speed")) axes (λ axis. no_name axis.name) has same

-- two peaks of at most 50 have room for their sum, and slopes on different axes
pub peaks_room : (axes : List Axis) (course speed : Peak) (one other : Function) → one ≡ function_of axes (PeakOn (codes "course") course) → nat_abs course.max ≤ 50000 → nat_abs speed.max ≤ 50000
    → ((p : Point) → is_point axes p ≡ true → value_at one.pieces p ≡ pos (worth_at axes (PeakOn (codes "course") course) p)) → ((p : Point) → is_point axes p ≡ true → value_at other.pieces p ≡ pos (worth_at axes (PeakOn (codes "speed") speed) p))
    → HaveRoom one.axes one.pieces other.pieces
peaks_room axes course speed one other is low low' value value' =
    let room : HaveRoom axes one.pieces other.pieces =
    room_below axes one.pieces other.pieces (worth_at axes (PeakOn (codes "course") course)) (worth_at axes (PeakOn (codes "speed") speed)) (nat_abs course.max) (nat_abs speed.max) value value'
    (λ (p : Point). peak_most (named_axis axes (codes "course")) course (place_on axes (codes "course") p)) (λ (p : Point). peak_most (named_axis axes (codes "speed")) speed (place_on axes (codes "speed") p)) (omega arith) in
    subst (λ (over : List Axis). HaveRoom over one.pieces other.pieces) (sym (ap (λ (h : Function). h.axes) is)) room

pub peaks_apart : (axes : List Axis) (course speed : Peak) (one other : Function) → has_axis axes (codes "course") ≡ true → one ≡ function_of axes (PeakOn (codes "course") course) → other ≡ function_of axes (PeakOn (codes "speed") speed) → slope_apart one.pieces other.pieces ≡ true
peaks_apart axes course speed one other has is is' =
    let n = axis_number axes (codes "course") in
    let m = axis_number axes (codes "speed") in
    ap (λ (ps : List Piece). slope_apart ps other.pieces) (ap (λ (h : Function). h.pieces) is) ∙ ap (slope_apart (utility_pieces axes (PeakOn (codes "course") course))) (ap (λ (h : Function). h.pieces) is')
    ∙ shapes_apart axes n m (peak_profile (axis_on axes n) course) (peak_profile (axis_on axes m) speed) (axes_apart axes has)

-- the sum of the functions of two utilities is that of their sum
pub sum_function : (axes : List Axis) (u v : Utility) (one other func : Function) → one ≡ function_of axes u → other ≡ function_of axes v → func ≡ record { axes = one.axes; pieces = couple_pieces one.pieces other.pieces } → func ≡ function_of axes (Sum u v)
sum_function axes u v one other func is is' made =
    made ∙ ap (λ (f : Function). record { axes = f.axes; pieces = couple_pieces f.pieces other.pieces }) is ∙ ap (λ (g : Function). record { axes = axes; pieces = couple_pieces (utility_pieces axes u) g.pieces }) is'

-- nothing of the course leaves room for a cruise
pub hold_room : (axes : List Axis) (speed : Peak) (one other : Function) → one.axes ≡ axes → nat_abs speed.max ≤ 50000 → ((p : Point) → is_point axes p ≡ true → value_at one.pieces p ≡ pos 0)
    → ((p : Point) → is_point axes p ≡ true → value_at other.pieces p ≡ pos (worth_at axes (PeakOn (codes "speed") speed) p)) → HaveRoom one.axes one.pieces other.pieces
hold_room axes speed one other same low value value' =
    let room : HaveRoom axes one.pieces other.pieces =
    room_below axes one.pieces other.pieces (λ (p : Point). 0) (worth_at axes (PeakOn (codes "speed") speed)) 0 (nat_abs speed.max) value value' (λ (p : Point). none) (λ (p : Point). peak_most (named_axis axes (codes "speed")) speed (place_on axes (codes "speed") p)) (omega arith) in
    subst (λ (over : List Axis). HaveRoom over one.pieces other.pieces) (sym same) room
  where
    none : 0 ≤ 0
    none = omega arith

-- to steer a course and to cruise
pub steered : (axes : List Axis) (speed degree : ℕ) (course cruising : Peak) (func : Function)
    → course ≡ record { summit = pos (degree * 1000); peakwidth = pos 20000; basewidth = pos 160000; summitdelta = pos 12500; max = pos 50000 } → cruising ≡ record { summit = pos speed; peakwidth = pos 500; basewidth = pos 2000; summitdelta = pos 12500; max = pos 50000 }
    → func ≡ function_of axes (Sum (PeakOn (codes "course") course) (PeakOn (codes "speed") cruising)) → func ≡ function_of axes (Sum (steer degree) (cruise speed))
steered axes speed degree course cruising func is is' made =
    made ∙ ap (λ (p : Peak). function_of axes (Sum (PeakOn (codes "course") p) (PeakOn (codes "speed") cruising))) is ∙ ap (λ (p : Peak). function_of axes (Sum (steer degree) (PeakOn (codes "speed") p))) is'
