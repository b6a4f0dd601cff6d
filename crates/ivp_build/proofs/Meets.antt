-- The sums of a piece with those that meet it: by the first pieces, how many hold a point, and which is the first to do so.
use Rattle.std.proofs.Common.{◌≡◌, ℕ, zero, suc, Bool, true, false, ◌&&◌, ◌+◌, ◌*◌, ◌<◌, ◌≤◌, inl, inr, Option, Some, None, List, [], ◌∷◌, ◌++◌, length, take, drop, get_or, length-append, refl, sym, ap, ◌∙◌, append_assoc, add-one, arith}
use Rattle.std.proofs.lemmas.Bool.{cases_lt}
use Rattle.std.proofs.lemmas.List.{append-nil, take-append-drop, take_all, take_more}
use Rattle.std.proofs.lemmas.Grind.{flat_map-append}
use Rattle.std.proofs.lemmas.List.Elements.{filter_map-append}
use Rattle.std.proofs.lemmas.List.Folds.{find-append}
use Rattle.std.proofs.lemmas.List.Sums.{sum_by-append}
use Rattle.std.proofs.lemmas.Option.{get_or_from_slice_get, slice_get-get_or, slice_get_within}
use Rattle.std.specs.List.{filter_map, flat_map}
use Rattle.std.specs.Option.{option_map, option_or, option_to_list}
use Rattle.std.specs.Prelude.{find, if◌then◌else◌, slice_get}
use Rattle.ivp_domain.specs.declared.boxes.Point.{Point}
use Rattle.ivp_domain.specs.Boxes.{common, has_point, is_box}
use Rattle.ivp_domain.proofs.BoxLemmas.{has_point-common, none_in_both}
use Rattle.ivp_func.specs.declared.piece.Piece.{Piece}
use Rattle.ivp_func.specs.Grids.{meets, meets_piece}
use Rattle.ivp_func.specs.Pieces.{count_at, piece_has}
use Rattle.ivp_func.proofs.Counting.{count_at-cons, one_if}
use Rattle.ivp_build.specs.declared.fault.BuildFault.{BuildFault}
use Rattle.ivp_build.specs.declared.fault.BuildFault.TheVariants.{NoMemory, TooMany}
use Rattle.ivp_build.specs.Faults.{IsTooMany}
use Rattle.ivp_build.specs.Sums.{couple_pieces, met_sum, met_sums, sum_of_pieces}

-- the sums with one more piece
pub met_more : (p : Piece) (qs : List Piece) (n : ℕ) (q : Piece) → slice_get qs n ≡ Some q → met_sums p (take (n + 1) qs) ≡ met_sums p (take n qs) ++ option_to_list (met_sum p q)
met_more p qs n q stands =
    let within : n < length qs = slice_get_within qs n q stands in
    let at : get_or qs n q ≡ q = get_or_from_slice_get qs n q q stands in
    ap (met_sums p) (take_more qs n q within ∙ ap (λ (x : Piece). take n qs ++ x ∷ []) at) ∙ filter_map-append (met_sum p) (take n qs) (q ∷ []) ∙ ap (λ (xs : List Piece). met_sums p (take n qs) ++ xs) (by (met_sum p q))
  where
    by : (o : Option Piece) → filter_map (λ (x : Option Piece). x) (o ∷ []) ≡ option_to_list o
    by None = refl
    by (Some x) = refl

-- with a piece that doesn't meet it there is no sum
no_sum : (p : Piece) (qs : List Piece) (n : ℕ) (q : Piece) → slice_get qs n ≡ Some q → meets qs p.area n ≡ false → met_sum p q ≡ None
no_sum p qs n q stands apart =
    let none : is_box (common p.area q.area) ≡ false = ap (meets_piece p.area) (sym stands) ∙ apart in
    rw none refl

met_skip : (p : Piece) (qs : List Piece) (n : ℕ) → meets qs p.area n ≡ false → met_sums p (take (n + 1) qs) ≡ met_sums p (take n qs)
met_skip p qs n apart = elim (cases_lt n (length qs)) [
  | inl within ↦
      let q = get_or qs n p in
      let stands : slice_get qs n ≡ Some q = slice_get-get_or qs n p within in
      met_more p qs n q stands ∙ ap (λ (o : Option Piece). met_sums p (take n qs) ++ option_to_list o) (no_sum p qs n q stands apart) ∙ append-nil (met_sums p (take n qs))
  | inr past ↦ ap (met_sums p) (take_all (n + 1) qs (omega arith) ∙ sym (take_all n qs past))
]

-- pieces that don't meet it add none
pub met_to : (p : Piece) (qs : List Piece) (from n : ℕ) → from ≤ n → ((m : ℕ) → from ≤ m → m < n → meets qs p.area m ≡ false) → met_sums p (take n qs) ≡ met_sums p (take from qs)
met_to p qs from zero h none = let same : zero ≡ from = omega arith in ap (λ (n : ℕ). met_sums p (take n qs)) same
met_to p qs from (suc n) h none =
    elim (cases_lt from (suc n)) [
      | inl more ↦
          ap (λ (n : ℕ). met_sums p (take n qs)) (sym (add-one n)) ∙ met_skip p qs n (none n (omega arith) (omega arith)) ∙ met_to p qs from n (omega arith) (λ m above below. none m above (omega arith))
      | inr here ↦ let same : suc n ≡ from = omega arith in ap (λ (n : ℕ). met_sums p (take n qs)) same
    ]

-- so where none is left, the sums are all
pub met_end : (p : Piece) (qs : List Piece) (from : ℕ) → ((m : ℕ) → from ≤ m → meets qs p.area m ≡ false) → met_sums p (take from qs) ≡ met_sums p qs
met_end p qs from none =
    elim (cases_lt (length qs) from) [
      | inl past ↦ ap (met_sums p) (take_all from qs (omega arith))
      | inr within ↦ sym (met_to p qs from (length qs) within (λ m above _. none m above)) ∙ ap (met_sums p) (take_all (length qs) qs (omega arith))
    ]

-- the sums by the first pieces are no more than all
pub met_part : (p : Piece) (qs : List Piece) (n : ℕ) → length (met_sums p (take n qs)) ≤ length (met_sums p qs)
met_part p qs n =
    let whole : met_sums p (take n qs) ++ met_sums p (drop n qs) ≡ met_sums p qs = sym (filter_map-append (met_sum p) (take n qs) (drop n qs)) ∙ ap (met_sums p) (take-append-drop n qs) in
    omega (arith, ap length whole, length-append (met_sums p (take n qs)) (met_sums p (drop n qs)))

-- what is too many of some is too many of more
pub too_many_more : (m n : ℕ) (fault : BuildFault) → m ≤ n → IsTooMany m fault → IsTooMany n fault
too_many_more m n TooMany h many = omega arith
too_many_more m n NoMemory h many = tt

-- a step over the pieces, to the next one that meets
pub met_step : (p : Piece) (qs : List Piece) (from n : ℕ) (q : Piece) (pieces old new : List Piece) → from ≤ n → ((m : ℕ) → from ≤ m → m < n → meets qs p.area m ≡ false) → slice_get qs n ≡ Some q
    → pieces ≡ old ++ met_sums p (take from qs) → new ≡ pieces ++ option_to_list (met_sum p q) → new ≡ old ++ met_sums p (take (n + 1) qs)
met_step p qs from n q pieces old new above none stands so_far more =
    let sum = option_to_list (met_sum p q) in
    more ∙ ap (λ (xs : List Piece). xs ++ sum) (so_far ∙ ap (λ (xs : List Piece). old ++ xs) (sym (met_to p qs from n above none))) ∙ append_assoc old (met_sums p (take n qs)) sum ∙ ap (λ (xs : List Piece). old ++ xs) (sym (met_more p qs n q stands))

-- where that is one too many
pub met_many : (p : Piece) (qs : List Piece) (from n : ℕ) (q : Piece) (pieces old : List Piece) (fault : BuildFault) → from ≤ n → ((m : ℕ) → from ≤ m → m < n → meets qs p.area m ≡ false) → slice_get qs n ≡ Some q
    → pieces ≡ old ++ met_sums p (take from qs) → IsTooMany (length pieces + length (option_to_list (met_sum p q))) fault → IsTooMany (length old + length (met_sums p qs)) fault
met_many p qs from n q pieces old fault above none stands so_far many =
    let sum = option_to_list (met_sum p q) in
    let all : pieces ++ sum ≡ old ++ met_sums p (take (n + 1) qs) = met_step p qs from n q pieces old (pieces ++ sum) above none stands so_far refl in
    let part = met_part p qs (n + 1) in
    too_many_more (length pieces + length sum) (length old + length (met_sums p qs)) fault (omega (arith, ap length all, length-append pieces sum, length-append old (met_sums p (take (n + 1) qs)), part)) many

-- the sums with one more piece in front, which meets or doesn't
pub front_met : (p q : Piece) (qs : List Piece) → is_box (common p.area q.area) ≡ true → met_sums p (q ∷ qs) ≡ sum_of_pieces p q (common p.area q.area) ∷ met_sums p qs
front_met p q qs e = rw e refl

pub front_apart : (p q : Piece) (qs : List Piece) → is_box (common p.area q.area) ≡ false → met_sums p (q ∷ qs) ≡ met_sums p qs
front_apart p q qs e = rw e refl

count_with : (h hp hq : Bool) (n r : ℕ) → h ≡ (hp && hq) → r ≡ (if hp then n else 0) → one_if h + r ≡ (if hp then one_if hq + n else 0)
count_with h true hq n r e e' = rw (e, e') refl
count_with h false hq n r e e' = rw (e, e') refl

count_without : (hp hq : Bool) (n r : ℕ) → (hp && hq) ≡ false → r ≡ (if hp then n else 0) → r ≡ (if hp then one_if hq + n else 0)
count_without true true n r e e' = absurd (cc)
count_without true false n r e e' = omega arith
count_without false hq n r e e' = e'

no_count : (b : Bool) (n : ℕ) → n ≡ 0 → n ≡ (if b then 0 else 0)
no_count true n e = e
no_count false n e = e

-- how many of the sums hold a point: as many as of the pieces, where the piece itself does
pub count_at-met_sums : (p : Piece) (qs : List Piece) (point : Point) → count_at (met_sums p qs) point ≡ (if piece_has point p then count_at qs point else 0)
count_at-met_sums p [] point = no_count (piece_has point p) 0 refl
count_at-met_sums p (q ∷ qs) point = by (is_box (common p.area q.area)) refl (count_at-met_sums p qs point) ∙ ap (λ (n : ℕ). if piece_has point p then n else 0) (sym (count_at-cons q qs point))
  where
    by : (b : Bool) → is_box (common p.area q.area) ≡ b → count_at (met_sums p qs) point ≡ (if piece_has point p then count_at qs point else 0)
        → count_at (met_sums p (q ∷ qs)) point ≡ (if piece_has point p then one_if (piece_has point q) + count_at qs point else 0)
    by true e rest =
        ap (λ (xs : List Piece). count_at xs point) (front_met p q qs e) ∙ count_at-cons (sum_of_pieces p q (common p.area q.area)) (met_sums p qs) point
        ∙ count_with (has_point (common p.area q.area) point) (piece_has point p) (piece_has point q) (count_at qs point) (count_at (met_sums p qs) point) (has_point-common p.area q.area point) rest
    by false e rest =
        ap (λ (xs : List Piece). count_at xs point) (front_apart p q qs e)
        ∙ count_without (piece_has point p) (piece_has point q) (count_at qs point) (count_at (met_sums p qs) point) (none_in_both p.area q.area e point) rest

-- how many of all sums hold a point: the product of the counts of both
rows : (b : Bool) (n c r : ℕ) → r ≡ n * c → (if b then c else 0) + r ≡ (one_if b + n) * c
rows true n c r e = grind arith
rows false n c r e = grind arith

pub count_at-couple : (ps qs : List Piece) (point : Point) → count_at (couple_pieces ps qs) point ≡ count_at ps point * count_at qs point
count_at-couple [] qs point = omega arith
count_at-couple (p ∷ ps) qs point =
    sum_by-append (λ (x : Piece). one_if (piece_has point x)) (met_sums p qs) (couple_pieces ps qs)
    ∙ ap (λ (n : ℕ). n + count_at (couple_pieces ps qs) point) (count_at-met_sums p qs point)
    ∙ rows (piece_has point p) (count_at ps point) (count_at qs point) (count_at (couple_pieces ps qs) point) (count_at-couple ps qs point)
    ∙ ap (λ (n : ℕ). n * count_at qs point) (sym (count_at-cons p ps point))

-- the first of the sums that holds a point: that with the first piece that does, where the piece itself does
found_with : (h hp hq : Bool) (s : Piece) (f : Piece → Piece) (q : Piece) (o r : Option Piece) → f q ≡ s → h ≡ (hp && hq) → r ≡ (if hp then option_map f o else None)
    → (if h then Some s else r) ≡ (if hp then option_map f (if hq then Some q else o) else None)
found_with h true true s f q o r e e' e'' = rw (e', e) refl
found_with h true false s f q o r e e' e'' = rw e' e''
found_with h false hq s f q o r e e' e'' = rw e' e''

found_without : (hp hq : Bool) (f : Piece → Piece) (q : Piece) (o r : Option Piece) → (hp && hq) ≡ false → r ≡ (if hp then option_map f o else None)
    → r ≡ (if hp then option_map f (if hq then Some q else o) else None)
found_without true true f q o r e e' = absurd (cc)
found_without true false f q o r e e' = e'
found_without false hq f q o r e e' = e'

none_found : (b : Bool) (o : Option Piece) → o ≡ None → o ≡ (if b then None else None)
none_found true o e = e
none_found false o e = e

find-met_sums : (p : Piece) (qs : List Piece) (point : Point)
    → find (piece_has point) (met_sums p qs) ≡ (if piece_has point p then option_map (λ (q : Piece). sum_of_pieces p q (common p.area q.area)) (find (piece_has point) qs) else None)
find-met_sums p [] point = none_found (piece_has point p) None refl
find-met_sums p (q ∷ qs) point = by (is_box (common p.area q.area)) refl (find-met_sums p qs point)
  where
    by : (b : Bool) → is_box (common p.area q.area) ≡ b
        → find (piece_has point) (met_sums p qs) ≡ (if piece_has point p then option_map (λ (q : Piece). sum_of_pieces p q (common p.area q.area)) (find (piece_has point) qs) else None)
        → find (piece_has point) (met_sums p (q ∷ qs)) ≡ (if piece_has point p then option_map (λ (q : Piece). sum_of_pieces p q (common p.area q.area)) (if piece_has point q then Some q else find (piece_has point) qs) else None)
    by true e rest =
        ap (find (piece_has point)) (front_met p q qs e)
        ∙ found_with (has_point (common p.area q.area) point) (piece_has point p) (piece_has point q) (sum_of_pieces p q (common p.area q.area)) (λ (q : Piece). sum_of_pieces p q (common p.area q.area)) q (find (piece_has point) qs) (find (piece_has point) (met_sums p qs)) refl (has_point-common p.area q.area point) rest
    by false e rest =
        ap (find (piece_has point)) (front_apart p q qs e)
        ∙ found_without (piece_has point p) (piece_has point q) (λ (q : Piece). sum_of_pieces p q (common p.area q.area)) q (find (piece_has point) qs) (find (piece_has point) (met_sums p qs)) (none_in_both p.area q.area e point) rest

-- the first of all sums that holds a point: that of the first two pieces that do
found_row : (b : Bool) (s : Piece) (f : Piece → Piece) (p : Piece) (o r : Option Piece) → f p ≡ s → r ≡ option_map f o → option_or (if b then Some s else None) r ≡ option_map f (if b then Some p else o)
found_row true s f p o r e e' = rw e refl
found_row false s f p o r e e' = e'

pub find-couple : (ps qs : List Piece) (point : Point) (q : Piece) → find (piece_has point) qs ≡ Some q
    → find (piece_has point) (couple_pieces ps qs) ≡ option_map (λ (p : Piece). sum_of_pieces p q (common p.area q.area)) (find (piece_has point) ps)
find-couple [] qs point q e = refl
find-couple (p ∷ ps) qs point q e =
    let row : find (piece_has point) (met_sums p qs) ≡ (if piece_has point p then Some (sum_of_pieces p q (common p.area q.area)) else None) = find-met_sums p qs point ∙ ap (λ (o : Option Piece). if piece_has point p then option_map (λ (q : Piece). sum_of_pieces p q (common p.area q.area)) o else None) e in
    find-append (piece_has point) (met_sums p qs) (couple_pieces ps qs)
    ∙ ap (λ (o : Option Piece). option_or o (find (piece_has point) (couple_pieces ps qs))) row
    ∙ found_row (piece_has point p) (sum_of_pieces p q (common p.area q.area)) (λ (p : Piece). sum_of_pieces p q (common p.area q.area)) p (find (piece_has point) ps) (find (piece_has point) (couple_pieces ps qs)) refl (find-couple ps qs point q e)

-- all sums with one piece more of the first function
pub couple_more : (ps qs : List Piece) (n : ℕ) (p : Piece) (pieces new : List Piece) → slice_get ps n ≡ Some p → pieces ≡ couple_pieces (take n ps) qs → new ≡ pieces ++ met_sums p qs → new ≡ couple_pieces (take (n + 1) ps) qs
couple_more ps qs n p pieces new stands so_far more =
    let row : Piece → List Piece = λ p. met_sums p qs in
    let within : n < length ps = slice_get_within ps n p stands in
    let at : get_or ps n p ≡ p = get_or_from_slice_get ps n p p stands in
    let parted : couple_pieces (take (n + 1) ps) qs ≡ couple_pieces (take n ps) qs ++ flat_map row (p ∷ []) = ap (flat_map row) (take_more ps n p within ∙ ap (λ (x : Piece). take n ps ++ x ∷ []) at) ∙ flat_map-append row (take n ps) (p ∷ []) in
    more ∙ ap (λ (xs : List Piece). xs ++ met_sums p qs) so_far ∙ sym (parted ∙ ap (λ (xs : List Piece). couple_pieces (take n ps) qs ++ xs) (append-nil (met_sums p qs)))

pub couple_many : (ps qs : List Piece) (n : ℕ) (p : Piece) (pieces : List Piece) (fault : BuildFault) → slice_get ps n ≡ Some p → pieces ≡ couple_pieces (take n ps) qs → IsTooMany (length pieces + length (met_sums p qs)) fault → IsTooMany (length (couple_pieces ps qs)) fault
couple_many ps qs n p pieces fault stands so_far many =
    let row : Piece → List Piece = λ p. met_sums p qs in
    let all : pieces ++ met_sums p qs ≡ couple_pieces (take (n + 1) ps) qs = couple_more ps qs n p pieces (pieces ++ met_sums p qs) stands so_far refl in
    let whole : couple_pieces (take (n + 1) ps) qs ++ couple_pieces (drop (n + 1) ps) qs ≡ couple_pieces ps qs = sym (flat_map-append row (take (n + 1) ps) (drop (n + 1) ps)) ∙ ap (flat_map row) (take-append-drop (n + 1) ps) in
    too_many_more (length pieces + length (met_sums p qs)) (length (couple_pieces ps qs)) fault
    (omega (arith, ap length all, ap length whole, length-append pieces (met_sums p qs), length-append (couple_pieces (take (n + 1) ps) qs) (couple_pieces (drop (n + 1) ps) qs))) many

pub couple_all : (ps qs : List Piece) (n : ℕ) (pieces : List Piece) → length ps ≤ n → pieces ≡ couple_pieces (take n ps) qs → pieces ≡ couple_pieces ps qs
couple_all ps qs n pieces past so_far = so_far ∙ ap (λ (xs : List Piece). couple_pieces xs qs) (take_all n ps past)
