-- The boxes of one size: each point of the domain lies in one of them, and which number that has. So the pieces on them are a function.
use Rattle.std.proofs.Common.{◌≡◌, ℕ, zero, suc, true, false, ◌+◌, ◌-◌, ◌*◌, ◌/◌, ◌%◌, ◌^◌, ◌<◌, ◌≤◌, ◌⊎◌, inl, inr, min, ℤ, Some, List, [], ◌∷◌, ◌++◌, length, map, take, get_or, refl, sym, subst, ap, ◌∙◌, arith}
use Rattle.std.specs.Option.{option_map}
use Rattle.std.specs.Prelude.{slice_get, slice_index}
use Rattle.std.proofs.Math.Nat.{div-mul-le_self, lt-div-mul-add}
use Rattle.std.proofs.lemmas.Bool.{false_from_ne_true}
use Rattle.std.proofs.lemmas.List.{length-map, map-append, take_more}
use Rattle.std.proofs.lemmas.Nat.{div-mul-add, le-div}
use Rattle.std.proofs.lemmas.Option.{get_or_from_slice_get, slice_get-map, slice_get_within}
use Rattle.ivp_domain.specs.declared.axis.Axis.{Axis}
use Rattle.ivp_domain.specs.declared.boxes.BoxN.{BoxN}
use Rattle.ivp_domain.specs.declared.boxes.Point.{Point}
use Rattle.ivp_domain.specs.Boxes.{has_point, point_from, points_in, volume_of}
use Rattle.ivp_domain.specs.Domains.{is_domain, is_point, size_on, whole}
use Rattle.ivp_domain.proofs.BoxLemmas.{length-points_in, point_listed}
use Rattle.ivp_domain.proofs.Sizes.{few_on, positive}
use Rattle.ivp_func.specs.declared.piece.Piece.{Piece}
use Rattle.ivp_func.specs.Functions.{HasValues, IsFunction, IsPartition}
use Rattle.ivp_func.specs.Pieces.{are_pieces_of, is_box_of, is_piece_of, is_value, piece_has, value_at}
use Rattle.ivp_func.proofs.Counting.{count_positive, no_two, value_at-only}
use Rattle.ivp_func.proofs.Facts.{box_parts, has_point-from, passes_each, place_in}
use Rattle.ivp_build.specs.Sampled.{AreSampled, IsSampled, all_runs, box_of, box_of_runs, boxes_of, low_corner, runs_of, sampled_piece, sampled_slopes, uniform_at, uniform_pieces}
use Rattle.ivp_build.proofs.Samples.{piece_from_value}
use Rattle.ivp_build.proofs.Sampling.{runs_listed}

-- an item of a list
pub some_at : {A : Type 0} (xs : List A) (i : ℕ) → i < length xs → (x : A) × (slice_get xs i ≡ Some x)
some_at [] i h = absurd (omega arith)
some_at (x ∷ xs) zero h = (x, refl)
some_at (x ∷ xs) (suc i) h = some_at xs i (omega arith)

-- a place lies in the run that is its quotient, and in no other
own_run : (place size count : ℕ) → 0 < size → place < count → (place / size * size ≤ place) × (place ≤ min (place / size * size + size) count - 1)
own_run place size count some h = (div-mul-le_self place size, let above : place < place / size * size + size = lt-div-mul-add some in omega (arith, above))

run_of : (run size place count : ℕ) → 0 < size → run * size ≤ place → place ≤ min (run * size + size) count - 1 → run ≡ place / size
run_of run size place count some h k =
    let rest : run * size + (place - run * size) ≡ place = omega arith in
    sym (ap (λ (n : ℕ). n / size) (sym rest) ∙ div-mul-add run size (place - run * size) (omega arith))

place_below : (axes : List Axis) (p : Point) (k : ℕ) → is_domain axes ≡ true → slice_index p.at k ≤ size_on k axes - 1 → slice_index p.at k < size_on k axes
place_below axes p k domain h = let some = positive axes domain k in omega arith

-- the runs of a point of the domain are among all runs, and their box has the point
pub runs_inside : (axes : List Axis) (size : ℕ) (p : Point) → 0 < size → is_domain axes ≡ true → is_point axes p ≡ true → has_point (all_runs axes size) (runs_of size p) ≡ true
runs_inside axes size p some domain inside = has_point-from (all_runs axes size) (runs_of size p) at
  where
    most : (k : ℕ) → slice_index p.at k ≤ size_on k axes - 1 → slice_index p.at k / size ≤ (size_on k axes - 1) / size
    most k h = le-div (slice_index p.at k / size) (size_on k axes - 1) size some (omega (arith, div-mul-le_self (slice_index p.at k) size))

    at : (k : ℕ) → k < 4 → (slice_index (all_runs axes size).low k ≤ slice_index (runs_of size p).at k) × (slice_index (runs_of size p).at k ≤ slice_index (all_runs axes size).high k)
    at zero h = (omega arith, most 0 (place_in (whole axes) p inside 0 h).1)
    at (suc zero) h = (omega arith, most 1 (place_in (whole axes) p inside 1 h).1)
    at (suc (suc zero)) h = (omega arith, most 2 (place_in (whole axes) p inside 2 h).1)
    at (suc (suc (suc zero))) h = (omega arith, most 3 (place_in (whole axes) p inside 3 h).1)
    at (suc (suc (suc (suc k)))) h = absurd (omega arith)

pub box_has : (axes : List Axis) (size : ℕ) (p : Point) → 0 < size → is_domain axes ≡ true → is_point axes p ≡ true → has_point (box_of axes size p) p ≡ true
box_has axes size p some domain inside = has_point-from (box_of axes size p) p at
  where
    here : (k : ℕ) → slice_index p.at k ≤ size_on k axes - 1
        → (slice_index p.at k / size * size ≤ slice_index p.at k) × (slice_index p.at k ≤ min (slice_index p.at k / size * size + size) (size_on k axes) - 1)
    here k h = own_run (slice_index p.at k) size (size_on k axes) some (place_below axes p k domain h)

    at : (k : ℕ) → k < 4 → (slice_index (box_of axes size p).low k ≤ slice_index p.at k) × (slice_index p.at k ≤ slice_index (box_of axes size p).high k)
    at zero h = here 0 (place_in (whole axes) p inside 0 h).1
    at (suc zero) h = here 1 (place_in (whole axes) p inside 1 h).1
    at (suc (suc zero)) h = here 2 (place_in (whole axes) p inside 2 h).1
    at (suc (suc (suc zero))) h = here 3 (place_in (whole axes) p inside 3 h).1
    at (suc (suc (suc (suc k)))) h = absurd (omega arith)

-- where the box of a point stands
pub record Stands (axes : List Axis) (size : ℕ) (p : Point) : Type 0 where
  pub number : ℕ
  pub there : slice_get (boxes_of axes size) number ≡ Some (box_of axes size p)

pub stands : (axes : List Axis) (size : ℕ) (p : Point) → 0 < size → is_domain axes ≡ true → is_point axes p ≡ true → Stands axes size p
stands axes size p some domain inside =
    let listed = point_listed (all_runs axes size) (runs_of size p) refl (runs_inside axes size p some domain inside) in
    record { number = listed.0; there = slice_get-map (box_of_runs axes size) (points_in (all_runs axes size)) listed.0 ∙ ap (option_map (box_of_runs axes size)) listed.1 }

-- and no other box that has it stands elsewhere
abbrev number_of : List Axis → ℕ → Point → ℕ
number_of axes size p =
    let count = λ (k : ℕ). slice_index (all_runs axes size).high k + 1 in
    let run = λ (k : ℕ). slice_index p.at k / size in
    ((run 0 * count 1 + run 1) * count 2 + run 2) * count 3 + run 3

same_number : (axes : List Axis) (size i : ℕ) (a : BoxN) (p : Point) → 0 < size → slice_get (boxes_of axes size) i ≡ Some a → has_point a p ≡ true → i ≡ number_of axes size p
same_number axes size i a p some there inside =
    let runs = all_runs axes size in
    let within : i < length (points_in runs) = omega (arith, slice_get_within (boxes_of axes size) i a there, length-map (points_in runs) (box_of_runs axes size)) in
    let few : i < volume_of runs = omega (arith, within, length-points_in runs) in
    let b = slice_index runs.high 1 + 1 in
    let c = slice_index runs.high 2 + 1 in
    let d = slice_index runs.high 3 + 1 in
    let own : Point = point_from (i / d / c / b) (i / d / c % b) (i / d % c) (i % d) in
    let both = runs_listed runs i refl few in
    let listed : slice_get (points_in runs) i ≡ Some own = both.0 in
    let mapped : slice_get (boxes_of axes size) i ≡ Some (box_of_runs axes size own) = slice_get-map (box_of_runs axes size) (points_in runs) i ∙ ap (option_map (box_of_runs axes size)) listed in
    let same : Some a ≡ Some (box_of_runs axes size own) = sym there ∙ mapped in
    let area : a ≡ box_of_runs axes size own = cc in
    let has : has_point (box_of_runs axes size own) p ≡ true = ap (λ (x : BoxN). has_point x p) (sym area) ∙ inside in
    let zeroth = place_in (box_of_runs axes size own) p has 0 (omega arith) in
    let first = place_in (box_of_runs axes size own) p has 1 (omega arith) in
    let second = place_in (box_of_runs axes size own) p has 2 (omega arith) in
    let third = place_in (box_of_runs axes size own) p has 3 (omega arith) in
    let e = run_of (i / d / c / b) size (slice_index p.at 0) (size_on 0 axes) some zeroth.0 zeroth.1 in
    let f = run_of (i / d / c % b) size (slice_index p.at 1) (size_on 1 axes) some first.0 first.1 in
    let g = run_of (i / d % c) size (slice_index p.at 2) (size_on 2 axes) some second.0 second.1 in
    let h = run_of (i % d) size (slice_index p.at 3) (size_on 3 axes) some third.0 third.1 in
    sym both.1 ∙ rw (e, f, g, h) refl

-- what holds of the pieces on them
pub record ArePieces (axes : List Axis) (size : ℕ) (pieces : List Piece) : Type 0 where
  pub some : 0 < size
  pub domain : is_domain axes ≡ true
  pub sampled : AreSampled axes size pieces

piece_here : (axes : List Axis) (size : ℕ) (pieces : List Piece) → ArePieces axes size pieces → (k : ℕ) (x : Piece) → slice_get pieces k ≡ Some x → (a : BoxN) × (slice_get (boxes_of axes size) k ≡ Some a) × IsSampled axes a x
piece_here axes size pieces h k x there =
    let box = some_at (boxes_of axes size) k (omega (arith, slice_get_within pieces k x there, h.sampled.all)) in
    (box.0, box.1, h.sampled.each k box.0 x box.1 there)

has_in : (x : Piece) (a : BoxN) (p : Point) → x.area ≡ a → piece_has p x ≡ true → has_point a p ≡ true
has_in x a p e h = ap (λ (area : BoxN). has_point area p) (sym e) ∙ h

pub boxes_fit : (axes : List Axis) (size : ℕ) (pieces : List Piece) → ArePieces axes size pieces → are_pieces_of axes pieces ≡ true
boxes_fit axes size pieces h = passes_each (is_piece_of axes) pieces (λ k x there. (piece_here axes size pieces h k x there).2.fits)

-- the piece that has a point
pub record Holds (axes : List Axis) (size : ℕ) (pieces : List Piece) (p : Point) : Type 0 where
  pub number : ℕ
  pub piece : Piece
  pub there : slice_get pieces number ≡ Some piece
  pub held : piece_has p piece ≡ true
  pub box : slice_get (boxes_of axes size) number ≡ Some (box_of axes size p)
  pub sampled : IsSampled axes (box_of axes size p) piece

pub holds : (axes : List Axis) (size : ℕ) (pieces : List Piece) → ArePieces axes size pieces → (p : Point) → is_point axes p ≡ true → Holds axes size pieces p
holds axes size pieces h p inside =
    let box = stands axes size p h.some h.domain inside in
    let piece = some_at pieces box.number (omega (arith, slice_get_within (boxes_of axes size) box.number (box_of axes size p) box.there, h.sampled.all)) in
    let sampled = h.sampled.each box.number (box_of axes size p) piece.0 box.there piece.1 in
    record {
      number = box.number;
      piece = piece.0;
      there = piece.1;
      held = ap (λ (area : BoxN). has_point area p) sampled.here ∙ box_has axes size p h.some h.domain inside;
      box = box.there;
      sampled = sampled;
    }

pub boxes_partition : (axes : List Axis) (size : ℕ) (pieces : List Piece) → ArePieces axes size pieces → IsPartition axes pieces
boxes_partition axes size pieces h p inside =
    let one = holds axes size pieces h p inside in
    let least = count_positive pieces one.number one.piece p one.there one.held in
    let most = no_two pieces p apart in
    omega (arith, least, most)
  where
    apart : (i j : ℕ) (x y : Piece) → i < j → slice_get pieces i ≡ Some x → slice_get pieces j ≡ Some y → piece_has p x ≡ true → piece_has p y ≡ false
    apart i j x y below at_i at_j has =
        let first = piece_here axes size pieces h i x at_i in
        let second = piece_here axes size pieces h j y at_j in
        false_from_ne_true (piece_has p y) (λ both.
        let e = same_number axes size i first.0 p h.some first.1 (has_in x first.0 p first.2.here has) in
        let f = same_number axes size j second.0 p h.some second.1 (has_in y second.0 p second.2.here both) in
        absurd (omega (arith, below, e, f)))

pub boxes_values : (axes : List Axis) (size : ℕ) (pieces : List Piece) → ArePieces axes size pieces → HasValues axes pieces
boxes_values axes size pieces h p inside =
    let one = holds axes size pieces h p inside in
    ap is_value (value_at-only pieces one.number one.piece p (boxes_partition axes size pieces h p inside) one.there one.held)
    ∙ one.sampled.values p (box_has axes size p h.some h.domain inside)

-- the value is that of the sampled utility
pub uniform_value : (axes : List Axis) (size : ℕ) (gives : Point → ℤ) → ArePieces axes size (uniform_pieces axes size gives) → (p : Point) → is_point axes p ≡ true
    → value_at (uniform_pieces axes size gives) p ≡ uniform_at axes size gives p
uniform_value axes size gives h p inside =
    let pieces = uniform_pieces axes size gives in
    let one = stands axes size p h.some h.domain inside in
    let area = box_of axes size p in
    let has = box_has axes size p h.some h.domain inside in
    let there : slice_get pieces one.number ≡ Some (sampled_piece gives area) = slice_get-map (sampled_piece gives) (boxes_of axes size) one.number ∙ ap (option_map (sampled_piece gives)) one.there in
    let sampled = h.sampled.each one.number area (sampled_piece gives area) one.there there in
    value_at-only pieces one.number (sampled_piece gives area) p (boxes_partition axes size pieces h p inside) there (ap (λ (x : BoxN). has_point x p) sampled.here ∙ has)
    ∙ piece_from_value area (gives (low_corner area)) (sampled_slopes gives area) p has

-- so few of them are a function
pub boxes_function : (axes : List Axis) (size : ℕ) (pieces : List Piece) → ArePieces axes size pieces → length pieces ≤ 4096 → IsFunction (record { axes = axes; pieces = pieces })
boxes_function axes size pieces h few =
    record { domain = h.domain; few = few; pieces = boxes_fit axes size pieces h; partition = boxes_partition axes size pieces h; values = boxes_values axes size pieces h }

-- one piece more
pushed : {A : Type 0} (xs : List A) (x y : A) (k : ℕ) → slice_get (xs ++ x ∷ []) k ≡ Some y → (slice_get xs k ≡ Some y) ⊎ ((k ≡ length xs) × (Some x ≡ Some y))
pushed [] x y zero e = inr (refl, e)
pushed [] x y (suc k) e = absurd (cc)
pushed (z ∷ xs) x y zero e = inl e
pushed (z ∷ xs) x y (suc k) e = elim (pushed xs x y k e) [ inl h ↦ inl h | inr h ↦ inr (omega (arith, h.0), h.1) ]

pub sampled_more : (axes : List Axis) (size number : ℕ) (pieces : List Piece) (area : BoxN) (piece : Piece) → length pieces ≡ number → slice_get (boxes_of axes size) number ≡ Some area → IsSampled axes area piece
    → ((k : ℕ) (a : BoxN) (x : Piece) → slice_get (boxes_of axes size) k ≡ Some a → slice_get pieces k ≡ Some x → IsSampled axes a x)
    → (k : ℕ) (a : BoxN) (x : Piece) → slice_get (boxes_of axes size) k ≡ Some a → slice_get (pieces ++ piece ∷ []) k ≡ Some x → IsSampled axes a x
sampled_more axes size number pieces area piece count box here before k a x at_box at_piece =
    elim (pushed pieces piece x k at_piece) [
      | inl earlier ↦ before k a x at_box earlier
      | inr last ↦
          let last_one = last.1 in
          let same_box : Some area ≡ Some a = sym box ∙ ap (slice_get (boxes_of axes size)) (let same : number ≡ k = omega (arith, last.0, count) in same) ∙ at_box in
          let e : area ≡ a = cc in
          let f : piece ≡ x = cc in
          subst (λ (b : BoxN). IsSampled axes b x) e (subst (IsSampled axes area) f here)
    ]

pub numbered : (axes : List Axis) (size n : ℕ) (runs : BoxN) (own : Point) (area : BoxN) → runs ≡ all_runs axes size → slice_get (points_in runs) n ≡ Some own → area ≡ box_of_runs axes size own → slice_get (boxes_of axes size) n ≡ Some area
numbered axes size n runs own area e listed same =
    let there : slice_get (points_in (all_runs axes size)) n ≡ Some own = ap (λ (r : BoxN). slice_get (points_in r) n) (sym e) ∙ listed in
    slice_get-map (box_of_runs axes size) (points_in (all_runs axes size)) n ∙ ap (option_map (box_of_runs axes size)) there ∙ ap Some (sym same)

pub made_more : (f : BoxN → Piece) (areas : List BoxN) (n : ℕ) (area : BoxN) (piece : Piece) (pieces new : List Piece) → slice_get areas n ≡ Some area → pieces ≡ map f (take n areas) → new ≡ pieces ++ piece ∷ [] → piece ≡ f area
    → new ≡ map f (take (n + 1) areas)
made_more f areas n area piece pieces new stands so_far more same =
    let within : n < length areas = slice_get_within areas n area stands in
    let at : get_or areas n area ≡ area = get_or_from_slice_get areas n area area stands in
    let whole : take (n + 1) areas ≡ take n areas ++ area ∷ [] = take_more areas n area within ∙ ap (λ (a : BoxN). take n areas ++ a ∷ []) at in
    more ∙ ap (λ (xs : List Piece). xs ++ piece ∷ []) so_far ∙ ap (λ (x : Piece). map f (take n areas) ++ x ∷ []) same ∙ sym (ap (map f) whole ∙ map-append f (take n areas) (area ∷ []))

pub boxes_all : (axes : List Axis) (size n : ℕ) (runs : BoxN) → runs ≡ all_runs axes size → n ≡ length (points_in runs) → n ≡ length (boxes_of axes size)
boxes_all axes size n runs e h = h ∙ ap (λ (r : BoxN). length (points_in r)) e ∙ sym (length-map (points_in (all_runs axes size)) (box_of_runs axes size))

pub box_small : (axes : List Axis) (area : BoxN) → is_domain axes ≡ true → is_box_of axes area ≡ true → (k : ℕ) → k < 4 → slice_index area.high k < 2 ^ 28
box_small axes area domain box zero h = omega (arith, (box_parts axes area box).1, few_on axes domain 0 h)
box_small axes area domain box (suc zero) h = omega (arith, (box_parts axes area box).2, few_on axes domain 1 h)
box_small axes area domain box (suc (suc zero)) h = omega (arith, (box_parts axes area box).3, few_on axes domain 2 h)
box_small axes area domain box (suc (suc (suc zero))) h = omega (arith, (box_parts axes area box).4, few_on axes domain 3 h)
box_small axes area domain box (suc (suc (suc (suc k)))) h = absurd (omega arith)
