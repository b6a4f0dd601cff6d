-- A parameter that is set keeps the ranges.
use Rattle.std.proofs.Common.{◌≡◌, ℕ, zero, suc, ◌-◌, ◌≤◌, ◌^◌, ◌==◌, ℤ, pos, negsuc, neg_ℤ, Bool, true, false, ◌&&◌, ◌||◌, not, nat_le, cond, List, [], ◌∷◌, length, map, codes, bytes_eq, Option, Some, None, refl, ap, subst, sym, arith}
use Rattle.std.specs.Prelude.{IfSome, find, int_le, nat_abs, option_map, option_and_then}
use Rattle.std.specs.List.{slice_split}
use Rattle.std.proofs.lemmas.Bool.{and_from, and_parts, leb-true, le-leb}
use Rattle.moos_text.specs.Numbers.{milli_of, unsigned_of, whole_of}
use Rattle.moos_text.proofs.Numerals.{unsigned_most}
use Rattle.helm_geo.specs.declared.spot.Spot.{Spot}
use Rattle.helm_geo.specs.Plane.{is_coordinate, is_spot}
use Rattle.helm_geo.specs.Polygons.{are_spots, convex}
use Rattle.bhv_file.specs.declared.setting.Setting.{Setting}
use Rattle.bhv_file.specs.declared.setting.Setting.TheVariants.{Number, Time, Flag, Repeat, Places, Place, Contact as ContactName, Size}
use Rattle.bhv_file.specs.declared.spec.Shape.{Shape}
use Rattle.bhv_file.specs.declared.spec.Shape.TheVariants.{Heading, Speed, Depth, MaxDepth, Timer, Waypoint, Loiter, StationKeep, OpRegion, AvoidCollision}
use Rattle.bhv_file.specs.declared.spec.Spec.{Spec}
use Rattle.bhv_file.specs.declared.table.Parameter.{Parameter}
use Rattle.bhv_file.specs.declared.table.Parameter.TheVariants.{Heading as OfHeading, Speed as OfSpeed, Depth as OfDepth, PeakWidth, BaseWidth, SummitDelta, MaxDepth as OfMaxDepth, Points, CaptureRadius, SlipRadius, Order as OrderParameter, Repeat as RepeatParameter, Polygon, Clockwise, StationPoint, CenterActivate, InnerRadius, OuterRadius, OuterSpeed, MaxTime, Contact, ContactX, ContactY, ContactSpeed, ContactHeading, NearDistance, FarDistance, Resolved, PieceSize}
use Rattle.bhv_file.specs.declared.table.ValueRange.TheVariants.{Number as OfNumber, Time as OfTime, Flag as OfFlag, Order as OfOrder, Repeat as OfRepeat, Places as OfPlaces, Polygon as OfPolygon, Place as OfPlace, Contact as OfContact, Size as OfSize}
use Rattle.bhv_file.specs.Params.{with_field, with_value_of}
use Rattle.bhv_file.specs.Ranges.{are_places, are_vertices, InRanges, KeepsRanges}
use Rattle.bhv_file.specs.Table.{is_called, parameter_of, parameters_of}
use Rattle.bhv_file.specs.Values.{all_of, contact_of, flag_of, is_contact, is_piece_size, piece_size_of, lies_between, kept_if, number_value, only_spot, order_of, polygon_of, repeat_of, setting_of, spot_of, spot_of_numbers, spot_of_parts, spot_of_text, spots_between, spots_of, time_value, weight_of, without_blanks, without_pts}
use Rattle.bhv_file.proofs.Listed.{some_part}

-- a number that was read is in its range
number_in : (Q : ℤ → Type 0) (low high : ℤ) (text : List ℕ) → ((n : ℤ) → lies_between low high n ≡ true → Q n) → IfSome (number_value low high text) Q
number_in Q low high text good = at (milli_of text)
  where
    test : (n : ℤ) (b : Bool) → lies_between low high n ≡ b → IfSome (cond b (Some n) None) Q
    test n true e = good n e
    test n false e = tt

    at : (o : Option ℤ) → IfSome (kept_if (lies_between low high) o) Q
    at None = tt
    at (Some n) = test n (lies_between low high n) refl

-- what holds of a value's own, of what is made of it
mapped : {A B : Type 0} (Q : A → Type 0) (P : B → Type 0) (f : A → B) (o : Option A) → IfSome o Q → ((a : A) → Q a → P (f a)) → IfSome (option_map f o) P
mapped Q P f None h good = tt
mapped Q P f (Some a) h good = good a h

mapped_twice : {A B C : Type 0} (Q : A → Type 0) (P : C → Type 0) (f : A → B) (g : B → C) (o : Option A) → IfSome o Q → ((a : A) → Q a → P (g (f a))) → IfSome (option_map g (option_map f o)) P
mapped_twice Q P f g None h good = tt
mapped_twice Q P f g (Some a) h good = good a h

anything : {A : Type 0} (o : Option A) → IfSome o (λ a. Unit {0})
anything None = tt
anything (Some a) = tt

-- a number from 0 up to a bound, without its sign
abs_within : (high : ℕ) (n : ℤ) → lies_between (pos 0) (pos high) n ≡ true → nat_abs n ≤ high
abs_within high (pos n) in' = leb-true n high (and_parts (int_le (pos 0) (pos n)) (int_le (pos n) (pos high)) in').1
abs_within high (negsuc n) in' = absurd cc

pub time_within : (text : List ℕ) → IfSome (time_value text) (λ time. time ≤ 10 ^ 9)
time_within text = mapped (λ n. lies_between (pos 0) (pos (10 ^ 9)) n ≡ true) (λ time. time ≤ 10 ^ 9) nat_abs (number_value (pos 0) (pos (10 ^ 9)) text) (number_in (λ n. lies_between (pos 0) (pos (10 ^ 9)) n ≡ true) (pos 0) (pos (10 ^ 9)) text (λ n e. e)) (abs_within (10 ^ 9))

pub weight_within : (text : List ℕ) → IfSome (weight_of text) (λ weight. weight ≤ 10 ^ 7)
weight_within text = mapped (λ n. lies_between (pos 0) (pos (10 ^ 7)) n ≡ true) (λ weight. weight ≤ 10 ^ 7) nat_abs (number_value (pos 0) (pos (10 ^ 7)) text) (number_in (λ n. lies_between (pos 0) (pos (10 ^ 7)) n ≡ true) (pos 0) (pos (10 ^ 7)) text (λ n e. e)) (abs_within (10 ^ 7))

-- what was kept passes its test
kept : {A : Type 0} (Q P : A → Type 0) (test : A → Bool) (o : Option A) → IfSome o Q → ((a : A) → Q a → test a ≡ true → P a) → IfSome (kept_if test o) P
kept Q P test None h good = tt
kept {A} Q P test (Some a) h good = at (test a) refl
  where
    at : (b : Bool) → test a ≡ b → IfSome (cond b (Some a) None) P
    at true e = good a h e
    at false e = tt

repeat_within : (text : List ℕ) → IfSome (repeat_of text) (λ repeat. IfSome repeat (λ times. times ≤ 10 ^ 6))
repeat_within text = at (bytes_eq text (codes "forever"))
  where
    rest : IfSome (option_map (λ number. Some number) (kept_if (λ number. nat_le number (10 ^ 6)) (whole_of text))) (λ repeat. IfSome repeat (λ times. times ≤ 10 ^ 6))
    rest = mapped (λ number. number ≤ 10 ^ 6) (λ repeat. IfSome repeat (λ times. times ≤ 10 ^ 6)) (λ number. Some number) (kept_if (λ number. nat_le number (10 ^ 6)) (whole_of text)) (kept (λ number. Unit {0}) (λ number. number ≤ 10 ^ 6) (λ number. nat_le number (10 ^ 6)) (whole_of text) (anything (whole_of text)) (λ number h e. leb-true number (10 ^ 6) e)) (λ number h. h)

    at : (b : Bool) → IfSome (cond b (Some None) (option_map (λ number. Some number) (kept_if (λ number. nat_le number (10 ^ 6)) (whole_of text)))) (λ repeat. IfSome repeat (λ times. times ≤ 10 ^ 6))
    at true = tt
    at false = rest

-- a number is within the bounds of a coordinate
coordinate_up : (n : ℕ) → n ≤ 10 ^ 12 → is_coordinate (pos n) ≡ true
coordinate_up n h = and_from true (nat_le n (10 ^ 12)) refl (le-leb n (10 ^ 12) h)

coordinate_down : (n : ℕ) → n ≤ 10 ^ 12 → is_coordinate (neg_ℤ (pos n)) ≡ true
coordinate_down zero h = refl
coordinate_down (suc n) h = and_from (nat_le n (10 ^ 12 - 1)) true (le-leb n (10 ^ 12 - 1) (omega (arith, h))) refl

milli_within : (text : List ℕ) → IfSome (milli_of text) (λ n. is_coordinate n ≡ true)
milli_within [] = tt
milli_within (first ∷ rest) = at (first == 43) (first == 45)
  where
    up : (digits : List ℕ) → IfSome (option_map pos (unsigned_of digits)) (λ n. is_coordinate n ≡ true)
    up digits = mapped (λ n. n ≤ 10 ^ 12) (λ n. is_coordinate n ≡ true) pos (unsigned_of digits) (unsigned_most (10 ^ 12) digits) coordinate_up

    down : (digits : List ℕ) → IfSome (option_map (λ n. neg_ℤ (pos n)) (unsigned_of digits)) (λ n. is_coordinate n ≡ true)
    down digits = mapped (λ n. n ≤ 10 ^ 12) (λ n. is_coordinate n ≡ true) (λ n. neg_ℤ (pos n)) (unsigned_of digits) (unsigned_most (10 ^ 12) digits) coordinate_down

    at : (plus minus : Bool) → IfSome (cond plus (option_map pos (unsigned_of rest)) (cond minus (option_map (λ n. neg_ℤ (pos n)) (unsigned_of rest)) (option_map pos (unsigned_of (first ∷ rest))))) (λ n. is_coordinate n ≡ true)
    at true minus = up rest
    at false true = down rest
    at false false = up (first ∷ rest)

numbers_within : (x y : Option ℤ) → IfSome x (λ n. is_coordinate n ≡ true) → IfSome y (λ n. is_coordinate n ≡ true) → IfSome (spot_of_numbers x y) (λ spot. is_spot spot ≡ true)
numbers_within None y h k = tt
numbers_within (Some x) None h k = tt
numbers_within (Some x) (Some y) h k = and_from (is_coordinate x) (is_coordinate y) h k

parts_within : (parts : List (List ℕ)) → IfSome (spot_of_parts parts) (λ spot. is_spot spot ≡ true)
parts_within [] = tt
parts_within (x ∷ []) = tt
parts_within (x ∷ y ∷ []) = numbers_within (milli_of x) (milli_of y) (milli_within x) (milli_within y)
parts_within (x ∷ y ∷ z ∷ parts) = tt

-- each place of a list, and how many there are
all_within : (parts : List (List ℕ)) → IfSome (all_of (map spot_of_text parts)) (λ spots. (are_spots spots ≡ true) × (length spots ≡ length parts))
all_within [] = (refl, refl)
all_within (part ∷ parts) = at (spot_of_text part) (all_of (map spot_of_text parts)) (parts_within (slice_split (λ byte. byte == 44) part)) (all_within parts)
  where
    at : (one : Option Spot) (more : Option (List Spot)) → IfSome one (λ spot. is_spot spot ≡ true) → IfSome more (λ spots. (are_spots spots ≡ true) × (length spots ≡ length parts)) → IfSome (option_and_then (λ x. option_map (λ xs. x ∷ xs) more) one) (λ spots. (are_spots spots ≡ true) × (length spots ≡ suc (length parts)))
    at None more h k = tt
    at (Some spot) None h k = tt
    at (Some spot) (Some spots) h k = (and_from (is_spot spot) (are_spots spots) h k.0, ap suc k.1)

weaker : {A : Type 0} (P Q : A → Type 0) (o : Option A) → IfSome o P → ((a : A) → P a → Q a) → IfSome o Q
weaker P Q None h good = tt
weaker P Q (Some a) h good = good a h

-- places with `:` between are at least one
between_within : (text : List ℕ) → IfSome (spots_between text) (λ spots. (are_spots spots ≡ true) × (1 ≤ length spots))
between_within text =
    let parts = slice_split (λ byte. byte == 58) text in
    let first = some_part 58 text in
    weaker (λ spots. (are_spots spots ≡ true) × (length spots ≡ length parts)) (λ spots. (are_spots spots ≡ true) × (1 ≤ length spots)) (spots_between text) (all_within parts)
    (λ spots h. let many = ap length first.2 in (h.0, omega (arith, h.1, many)))

some_one : (n : ℕ) → 1 ≤ n → (nat_le 1 n || false) ≡ true
some_one n h = rw (le-leb 1 n h) refl

spots_within : (text : List ℕ) → IfSome (spots_of text) (λ spots. are_places true spots ≡ true)
spots_within text =
    kept (λ spots. (are_spots spots ≡ true) × (1 ≤ length spots)) (λ spots. are_places true spots ≡ true) (λ spots. nat_le (length spots) 64) (spots_between (without_pts (without_blanks text))) (between_within (without_pts (without_blanks text)))
    (λ spots h few. and_from ((nat_le 1 (length spots) || false) && nat_le (length spots) 64) (are_spots spots) (and_from (nat_le 1 (length spots) || false) (nat_le (length spots) 64) (some_one (length spots) h.1) few) h.0)

polygon_within : (text : List ℕ) → IfSome (polygon_of text) (λ spots. are_vertices true spots ≡ true)
polygon_within text =
    kept (λ spots. are_places true spots ≡ true) (λ spots. are_vertices true spots ≡ true) convex (spots_of text) (spots_within text)
    (λ spots places bent. and_from (convex spots || false) (are_spots spots) (rw bent refl) (and_parts ((nat_le 1 (length spots) || false) && nat_le (length spots) 64) (are_spots spots) places).1)

place_within : (text : List ℕ) → IfSome (spot_of text) (λ spot. is_spot spot ≡ true)
place_within text = at (spots_of text) (spots_within text)
  where
    at : (o : Option (List Spot)) → IfSome o (λ spots. are_places true spots ≡ true) → IfSome (option_and_then only_spot o) (λ spot. is_spot spot ≡ true)
    at None h = tt
    at (Some []) h = tt
    at (Some (spot ∷ [])) h = (and_parts (is_spot spot) true (and_parts ((nat_le 1 1 || false) && nat_le 1 64) (are_spots (spot ∷ [])) h).1).0
    at (Some (spot ∷ next ∷ spots)) h = tt

-- places that must be given are good also where they needn't be
fewer_places : (given : Bool) (spots : List Spot) → are_places true spots ≡ true → are_places given spots ≡ true
fewer_places given spots h = at (nat_le 1 (length spots)) (nat_le (length spots) 64) (are_spots spots) h
  where
    at : (b few rest : Bool) → ((b || false) && few && rest) ≡ true → ((b || not given) && few && rest) ≡ true
    at true few rest e = e
    at false few rest e = absurd cc

fewer_vertices : (given : Bool) (spots : List Spot) → are_vertices true spots ≡ true → are_vertices given spots ≡ true
fewer_vertices given spots h = at (convex spots) (nat_le (length spots) 0) (are_spots spots) h
  where
    at : (b empty rest : Bool) → ((b || (false && empty)) && rest) ≡ true → ((b || (not given && empty)) && rest) ≡ true
    at true empty rest e = e
    at false empty rest e = absurd cc

-- what every parameter of a list keeps
AllKeep : (Parameter → Type 0) → List Parameter → Type 0
AllKeep P [] = Unit {0}
AllKeep P (first ∷ more) = P first × AllKeep P more

found : (P : Parameter → Type 0) (test : Parameter → Bool) (parameters : List Parameter) → AllKeep P parameters → IfSome (find test parameters) P
unfolding AllKeep
found P test [] all = tt
found P test (first ∷ more) all = at (test first) (found P test more all.1)
  where
    at : (b : Bool) → IfSome (find test more) P → IfSome (cond b (Some first) (find test more)) P
    at true rest = all.0
    at false rest = rest

-- a parameter with any value of its range keeps what is asked
abbrev pub Keeps : (Shape → Type 0) → Shape → Parameter → Type 0
Keeps P shape parameter = (value : List ℕ) → IfSome (with_value_of shape parameter value) P

number_kept : (P : Shape → Type 0) (put : Setting → Shape) (low high : ℤ) (value : List ℕ) → ((n : ℤ) → lies_between low high n ≡ true → P (put (Number n))) → IfSome (option_map put (setting_of (OfNumber low high) value)) P
number_kept P put low high value good = mapped_twice (λ n. lies_between low high n ≡ true) P Number put (number_value low high value) (number_in (λ n. lies_between low high n ≡ true) low high value (λ n e. e)) good

time_kept : (P : Shape → Type 0) (put : Setting → Shape) (value : List ℕ) → ((t : ℕ) → t ≤ 10 ^ 9 → P (put (Time t))) → IfSome (option_map put (setting_of OfTime value)) P
time_kept P put value good = mapped_twice (λ t. t ≤ 10 ^ 9) P Time put (time_value value) (time_within value) good

flag_kept : (P : Shape → Type 0) (put : Setting → Shape) (value : List ℕ) → ((b : Bool) → P (put (Flag b))) → IfSome (option_map put (setting_of OfFlag value)) P
flag_kept P put value good = mapped_twice (λ b. Unit {0}) P Flag put (flag_of value) (anything (flag_of value)) (λ b h. good b)

order_kept : (P : Shape → Type 0) (put : Setting → Shape) (value : List ℕ) → ((b : Bool) → P (put (Flag b))) → IfSome (option_map put (setting_of OfOrder value)) P
order_kept P put value good = mapped_twice (λ b. Unit {0}) P Flag put (order_of value) (anything (order_of value)) (λ b h. good b)

repeat_kept : (P : Shape → Type 0) (put : Setting → Shape) (value : List ℕ) → ((n : Option ℕ) → IfSome n (λ times. times ≤ 10 ^ 6) → P (put (Repeat n))) → IfSome (option_map put (setting_of OfRepeat value)) P
repeat_kept P put value good = mapped_twice (λ n. IfSome n (λ times. times ≤ 10 ^ 6)) P Repeat put (repeat_of value) (repeat_within value) good

places_kept : (P : Shape → Type 0) (put : Setting → Shape) (value : List ℕ) → ((s : List Spot) → are_places true s ≡ true → P (put (Places s))) → IfSome (option_map put (setting_of OfPlaces value)) P
places_kept P put value good = mapped_twice (λ s. are_places true s ≡ true) P Places put (spots_of value) (spots_within value) good

polygon_kept : (P : Shape → Type 0) (put : Setting → Shape) (value : List ℕ) → ((s : List Spot) → are_vertices true s ≡ true → P (put (Places s))) → IfSome (option_map put (setting_of OfPolygon value)) P
polygon_kept P put value good = mapped_twice (λ s. are_vertices true s ≡ true) P Places put (polygon_of value) (polygon_within value) good

place_kept : (P : Shape → Type 0) (put : Setting → Shape) (value : List ℕ) → ((s : Spot) → is_spot s ≡ true → P (put (Place s))) → IfSome (option_map put (setting_of OfPlace value)) P
place_kept P put value good = mapped_twice (λ s. is_spot s ≡ true) P Place put (spot_of value) (place_within value) good

contact_kept : (P : Shape → Type 0) (put : Setting → Shape) (value : List ℕ) → ((name : List ℕ) → is_contact name ≡ true → P (put (ContactName name))) → IfSome (option_map put (setting_of OfContact value)) P
contact_kept P put value good = mapped_twice (λ name. is_contact name ≡ true) P ContactName put (contact_of value) (at (is_contact value) refl) good
  where
    at : (b : Bool) → is_contact value ≡ b → IfSome (cond b (Some value) None) (λ name. is_contact name ≡ true)
    at true e = e
    at false e = tt

size_kept : (P : Shape → Type 0) (put : Setting → Shape) (value : List ℕ) → ((n : ℕ) → is_piece_size n ≡ true → P (put (Size n))) → IfSome (option_map put (setting_of OfSize value)) P
size_kept P put value good = mapped_twice (λ n. is_piece_size n ≡ true) P Size put (piece_size_of value) (kept (λ n. Unit {0}) (λ n. is_piece_size n ≡ true) is_piece_size (whole_of value) (anything (whole_of value)) (λ n h e. e)) good

-- Every parameter of a type keeps the ranges.
all_kept : (given : Bool) (shape : Shape) → InRanges given shape → AllKeep (Keeps (InRanges given) shape) (parameters_of shape)
unfolding AllKeep
all_kept given (Heading a b c d) h =
    let P = InRanges given in
    let put = with_field (Heading a b c d) in (
      λ v. number_kept P (put OfHeading) (pos 0) (pos 360000) v (λ n e. (e, h.1, h.2, h.3)),
      (
        λ v. number_kept P (put PeakWidth) (pos 0) (pos 1000000000) v (λ n e. (h.0, e, h.2, h.3)),
        (
          λ v. number_kept P (put BaseWidth) (pos 0) (pos 1000000000) v (λ n e. (h.0, h.1, e, h.3)),
          (λ v. number_kept P (put SummitDelta) (pos 0) (pos 100000) v (λ n e. (h.0, h.1, h.2, e)), tt),
        ),
      ),
    )
all_kept given (Speed a b c d) h =
    let P = InRanges given in
    let put = with_field (Speed a b c d) in (
      λ v. number_kept P (put OfSpeed) (pos 0) (pos 1000000) v (λ n e. (e, h.1, h.2, h.3)),
      (
        λ v. number_kept P (put PeakWidth) (pos 0) (pos 1000000000) v (λ n e. (h.0, e, h.2, h.3)),
        (
          λ v. number_kept P (put BaseWidth) (pos 0) (pos 1000000000) v (λ n e. (h.0, h.1, e, h.3)),
          (λ v. number_kept P (put SummitDelta) (pos 0) (pos 100000) v (λ n e. (h.0, h.1, h.2, e)), tt),
        ),
      ),
    )
all_kept given (Depth a b c d) h =
    let P = InRanges given in
    let put = with_field (Depth a b c d) in (
      λ v. number_kept P (put OfDepth) (pos 0) (pos 10000000) v (λ n e. (e, h.1, h.2, h.3)),
      (
        λ v. number_kept P (put PeakWidth) (pos 0) (pos 1000000000) v (λ n e. (h.0, e, h.2, h.3)),
        (
          λ v. number_kept P (put BaseWidth) (pos 0) (pos 1000000000) v (λ n e. (h.0, h.1, e, h.3)),
          (λ v. number_kept P (put SummitDelta) (pos 0) (pos 100000) v (λ n e. (h.0, h.1, h.2, e)), tt),
        ),
      ),
    )
all_kept given (MaxDepth a b) h =
    let P = InRanges given in
    let put = with_field (MaxDepth a b) in
    (λ v. number_kept P (put OfMaxDepth) (pos 0) (pos 10000000) v (λ n e. (e, h.1)), (λ v. number_kept P (put BaseWidth) (pos 0) (pos 1000000000) v (λ n e. (h.0, e)), tt))
all_kept given Timer h = tt
all_kept given (Waypoint a b c d e f) h =
    let P = InRanges given in
    let put = with_field (Waypoint a b c d e f) in (
      λ v. places_kept P (put Points) v (λ s good. (fewer_places given s good, h.1, h.2, h.3, h.4)),
      (
        λ v. number_kept P (put OfSpeed) (pos 0) (pos 1000000) v (λ n good. (h.0, good, h.2, h.3, h.4)),
        (
          λ v. number_kept P (put CaptureRadius) (pos 1) (pos 1000000000) v (λ n good. (h.0, h.1, good, h.3, h.4)),
          (
            λ v. number_kept P (put SlipRadius) (pos 0) (pos 1000000000) v (λ n good. (h.0, h.1, h.2, good, h.4)),
            (
              λ v. order_kept P (put OrderParameter) v (λ flag. h),
              (λ v. repeat_kept P (put RepeatParameter) v (λ n good. (h.0, h.1, h.2, h.3, good)), tt),
            ),
          ),
        ),
      ),
    )
all_kept given (Loiter a b c d e) h =
    let P = InRanges given in
    let put = with_field (Loiter a b c d e) in (
      λ v. polygon_kept P (put Polygon) v (λ s good. (fewer_vertices given s good, h.1, h.2, h.3)),
      (
        λ v. number_kept P (put OfSpeed) (pos 0) (pos 1000000) v (λ n good. (h.0, good, h.2, h.3)),
        (
          λ v. number_kept P (put CaptureRadius) (pos 1) (pos 1000000000) v (λ n good. (h.0, h.1, good, h.3)),
          (
            λ v. number_kept P (put SlipRadius) (pos 0) (pos 1000000000) v (λ n good. (h.0, h.1, h.2, good)),
            (λ v. flag_kept P (put Clockwise) v (λ flag. h), tt),
          ),
        ),
      ),
    )
all_kept given (StationKeep a b c d e) h =
    let P = InRanges given in
    let put = with_field (StationKeep a b c d e) in (
      λ v. place_kept P (put StationPoint) v (λ s good. (good, h.1, h.2, h.3)),
      (
        λ v. flag_kept P (put CenterActivate) v (λ flag. h),
        (
          λ v. number_kept P (put InnerRadius) (pos 1) (pos 1000000000) v (λ n good. (h.0, good, h.2, h.3)),
          (
            λ v. number_kept P (put OuterRadius) (pos 0) (pos 1000000000) v (λ n good. (h.0, h.1, good, h.3)),
            (λ v. number_kept P (put OuterSpeed) (pos 0) (pos 1000000) v (λ n good. (h.0, h.1, h.2, good)), tt),
          ),
        ),
      ),
    )
all_kept given (OpRegion a b c) h =
    let P = InRanges given in
    let put = with_field (OpRegion a b c) in (
      λ v. polygon_kept P (put Polygon) v (λ s good. (good, h.1, h.2)),
      (
        λ v. number_kept P (put OfMaxDepth) (pos 0) (pos 10000000) v (λ n good. (h.0, good, h.2)),
        (λ v. time_kept P (put MaxTime) v (λ t good. (h.0, h.1, good)), tt),
      ),
    )
all_kept given (AvoidCollision a) h =
    let P = InRanges given in
    let put = with_field (AvoidCollision a) in (
      λ v. contact_kept P (put Contact) v (λ name good. (good, h.1, h.2, h.3, h.4, h.5, h.6, h.7)),
      (
        λ v. number_kept P (put ContactX) (neg_ℤ (pos 1000000000)) (pos 1000000000) v (λ n good. (h.0, good, h.2, h.3, h.4, h.5, h.6, h.7)),
        (
          λ v. number_kept P (put ContactY) (neg_ℤ (pos 1000000000)) (pos 1000000000) v (λ n good. (h.0, h.1, good, h.3, h.4, h.5, h.6, h.7)),
          (
            λ v. number_kept P (put ContactSpeed) (pos 0) (pos 100000) v (λ n good. (h.0, h.1, h.2, good, h.4, h.5, h.6, h.7)),
            (
              λ v. number_kept P (put ContactHeading) (pos 0) (pos 360000) v (λ n good. (h.0, h.1, h.2, h.3, good, h.5, h.6, h.7)),
              (
                λ v. number_kept P (put NearDistance) (pos 0) (pos 10000000) v (λ n good. (h.0, h.1, h.2, h.3, h.4, good, h.6, h.7)),
                (
                  λ v. number_kept P (put FarDistance) (pos 0) (pos 10000000) v (λ n good. (h.0, h.1, h.2, h.3, h.4, h.5, good, h.7)),
                  (
                    λ v. flag_kept P (put Resolved) v (λ flag. h),
                    (λ v. size_kept P (put PieceSize) v (λ n good. (h.0, h.1, h.2, h.3, h.4, h.5, h.6, good)), tt),
                  ),
                ),
              ),
            ),
          ),
        ),
      ),
    )

-- the parameter of a name keeps the ranges
pub own_kept : (given : Bool) (shape : Shape) (name value : List ℕ) → InRanges given shape → IfSome (parameter_of shape name) (λ parameter. IfSome (with_value_of shape parameter value) (InRanges given))
own_kept given shape name value h = at (parameter_of shape name) (found (Keeps (InRanges given) shape) (λ parameter. is_called parameter name) (parameters_of shape) (all_kept given shape h))
  where
    at : (o : Option Parameter) → IfSome o (Keeps (InRanges given) shape) → IfSome o (λ parameter. IfSome (with_value_of shape parameter value) (InRanges given))
    at None k = tt
    at (Some parameter) k = k value

-- what `set_value` did keeps the ranges
pub set_kept : (spec : Spec) (shape : Shape) (parameter : Parameter) (name value : List ℕ) (good : Bool) → Some parameter ≡ parameter_of spec.shape name → with_value_of spec.shape parameter value ≡ cond good (Some shape) None → (good ≡ false → shape ≡ spec.shape) → KeepsRanges spec → KeepsRanges (record { weight = spec.weight; shape = shape })
set_kept spec shape parameter name value good named is same h = at good is same
  where
    keeps : IfSome (with_value_of spec.shape parameter value) (InRanges true)
    keeps = subst (λ o. IfSome o (λ p. IfSome (with_value_of spec.shape p value) (InRanges true))) (sym named) (own_kept true spec.shape name value h.parameters)

    at : (b : Bool) → with_value_of spec.shape parameter value ≡ cond b (Some shape) None → (b ≡ false → shape ≡ spec.shape) → KeepsRanges (record { weight = spec.weight; shape = shape })
    at true e s = record { weight = h.weight; parameters = subst (λ o. IfSome o (InRanges true)) e keeps }
    at false e s = record { weight = h.weight; parameters = subst (InRanges true) (sym (s refl)) h.parameters }
