-- Updates pair by pair, and that none changes a behaviour's type.
use Rattle.std.proofs.Common.{◌≡◌, ℕ, suc, Bool, true, false, not, ◌&&◌, cond, Some, None, Option, List, [], ◌∷◌, length, refl, ap, sym, ◌∙◌, arith}
use Rattle.std.specs.Prelude.{fold, ◌||◌, IfSome, MatchOption, option_map, option_and_then, unwrap_or}
use Rattle.std.specs.Borrow.{Bor}
use Rattle.ivp_domain.specs.declared.axis.Axis.{Axis}
use Rattle.moos_text.specs.Pairs.{Sides, sides_of}
use Rattle.bhv_file.specs.declared.setting.Setting.{Setting}
use Rattle.bhv_file.specs.declared.setting.Setting.TheVariants.{Number, Time, Flag, Repeat, Places, Place, Contact, Size}
use Rattle.bhv_file.specs.declared.spec.Shape.{Shape}
use Rattle.bhv_file.specs.declared.spec.Shape.TheVariants.{Heading, Speed, Depth, MaxDepth, Timer, Waypoint, Loiter, StationKeep, OpRegion, AvoidCollision}
use Rattle.bhv_file.specs.declared.spec.Spec.{Spec}
use Rattle.bhv_file.specs.declared.table.Parameter.{Parameter}
use Rattle.bhv_file.specs.Params.{axes_of, is_avoid, with_field, with_number_field, with_param, with_value_of, keeps_relations, lacks_places}
use Rattle.std.proofs.lemmas.Bool.{and_from, and_parts}
use Rattle.bhv_file.specs.Ranges.{KeepsRanges}
use Rattle.bhv_file.specs.Validity.{IsValidSpec}
use Rattle.bhv_file.specs.declared.table.CommonParameter.TheVariants.{Weight}
use Rattle.bhv_file.specs.Table.{is_called_common, parameter_of, value_range}
use Rattle.bhv_file.specs.Values.{kept_if, setting_of, weight_of}
use Rattle.bhv_file.specs.Serving.{has_few_boxes, is_slow, suits}
use Rattle.bhv_file.specs.Updates.{is_consistent, is_good_over, update_parts, updated, with_update_part}

-- the pairs of what is left of an update, where there is something
abbrev pub pairs_left : Option (Bor (List ℕ)) → List (List ℕ)
pairs_left None = []
pairs_left (Some left) = update_parts left.now

-- how many bytes are left, and one more where there is a pair
abbrev pub bytes_left : Option (Bor (List ℕ)) → ℕ
bytes_left None = 0
bytes_left (Some left) = suc (length left.now)

-- once a pair isn't good nothing makes the update good
pub none_after : (parts : List (List ℕ)) → fold with_update_part None parts ≡ None
none_after [] = refl
none_after (part ∷ parts) = none_after parts

-- the first pair, and those behind it
pub pairs_behind : (left pair : List ℕ) (behind : Option (Bor (List ℕ))) → MatchOption behind (update_parts left ≡ pair ∷ []) (λ rest. update_parts left ≡ pair ∷ update_parts rest.now) → update_parts left ≡ pair ∷ pairs_left behind
pairs_behind left pair None cut = cut
pairs_behind left pair (Some rest) cut = cut

-- a number in its field leaves the type
number_axes : (shape : Shape) (parameter : Parameter) (n : _) → axes_of (with_number_field shape parameter n) ≡ axes_of shape
number_axes (Heading a b c d) parameter n = grind arith
number_axes (Speed a b c d) parameter n = grind arith
number_axes (Depth a b c d) parameter n = grind arith
number_axes (MaxDepth a b) parameter n = grind arith
number_axes Timer parameter n = refl
number_axes (Waypoint a b c d e f) parameter n = grind arith
number_axes (Loiter a b c d e) parameter n = grind arith
number_axes (StationKeep a b c d e) parameter n = grind arith
number_axes (OpRegion a b c) parameter n = grind arith
number_axes (AvoidCollision a) parameter n = refl

-- an update is good where all its pairs are, and then what they left
pub judged : (axes : List Axis) (spec after : Spec) (text : List ℕ) (good : Bool) → fold with_update_part (Some spec) (update_parts text) ≡ cond good (Some after) None → updated axes spec text ≡ cond (good && is_good_over axes after.shape) (Some after) None
judged axes spec after text good is = ap (kept_if (λ (s : Spec). is_good_over axes s.shape)) is ∙ by good
  where
    by : (b : Bool) → kept_if (λ (s : Spec). is_good_over axes s.shape) (cond b (Some after) None) ≡ cond (b && is_good_over axes after.shape) (Some after) None
    by true = refl
    by false = refl

-- where they hold the parameters are valid
pub consistent : (spec : Spec) → KeepsRanges spec → is_consistent spec.shape ≡ true → IsValidSpec spec
consistent spec ranges holds =
    let parts = and_parts (keeps_relations spec.shape) (not (lacks_places spec.shape)) holds in
    record { ranges = ranges; given = by (lacks_places spec.shape) parts.1; relations = parts.0 }
  where
    by : (b : Bool) → not b ≡ true → b ≡ false
    by true e = absurd cc
    by false e = refl

-- so they are where they are good over some domain
pub good_valid : (axes : List Axis) (spec : Spec) → KeepsRanges spec → is_good_over axes spec.shape ≡ true → IsValidSpec spec
good_valid axes spec ranges good = consistent spec ranges (and_parts (is_consistent spec.shape) (has_few_boxes axes spec.shape) good).0

-- where they keep clear of no contact they are good over every domain as soon as the relations hold
anywhere : (axes : List Axis) (shape : Shape) → is_avoid shape ≡ false → is_good_over axes shape ≡ is_consistent shape
anywhere axes (Heading a b c d) other = refl
anywhere axes (Speed a b c d) other = refl
anywhere axes (Depth a b c d) other = refl
anywhere axes (MaxDepth a b) other = refl
anywhere axes Timer other = refl
anywhere axes (Waypoint a b c d e f) other = grind arith
anywhere axes (Loiter a b c d e) other = grind arith
anywhere axes (StationKeep a b c d e) other = grind arith
anywhere axes (OpRegion a b c) other = refl
anywhere axes (AvoidCollision a) other = absurd cc

-- no value in a field changes the axes that a behaviour needs
field_axes : (shape : Shape) (parameter : Parameter) (setting : Setting) → axes_of (with_field shape parameter setting) ≡ axes_of shape
field_axes shape parameter (Number n) = number_axes shape parameter n
field_axes shape parameter (Time t) = grind arith
field_axes shape parameter (Flag flag) = grind arith
field_axes shape parameter (Repeat n) = grind arith
field_axes shape parameter (Places spots) = grind arith
field_axes shape parameter (Place spot) = grind arith
field_axes shape parameter (Contact name) = grind arith
field_axes shape parameter (Size size) = grind arith

-- nor whether it keeps clear of a contact
number_avoid : (shape : Shape) (parameter : Parameter) (n : _) → is_avoid (with_number_field shape parameter n) ≡ is_avoid shape
number_avoid (Heading a b c d) parameter n = grind arith
number_avoid (Speed a b c d) parameter n = grind arith
number_avoid (Depth a b c d) parameter n = grind arith
number_avoid (MaxDepth a b) parameter n = grind arith
number_avoid Timer parameter n = refl
number_avoid (Waypoint a b c d e f) parameter n = grind arith
number_avoid (Loiter a b c d e) parameter n = grind arith
number_avoid (StationKeep a b c d e) parameter n = grind arith
number_avoid (OpRegion a b c) parameter n = grind arith
number_avoid (AvoidCollision a) parameter n = refl

field_avoid : (shape : Shape) (parameter : Parameter) (setting : Setting) → is_avoid (with_field shape parameter setting) ≡ is_avoid shape
field_avoid shape parameter (Number n) = number_avoid shape parameter n
field_avoid shape parameter (Time t) = grind arith
field_avoid shape parameter (Flag flag) = grind arith
field_avoid shape parameter (Repeat n) = grind arith
field_avoid shape parameter (Places spots) = grind arith
field_avoid shape parameter (Place spot) = grind arith
field_avoid shape parameter (Contact name) = grind arith
field_avoid shape parameter (Size size) = grind arith

-- what no value in a field changes
abbrev pub IsLeft : {X : Type 0} → (Shape → X) → Type 0
IsLeft of = (shape : Shape) (parameter : Parameter) (setting : Setting) → of (with_field shape parameter setting) ≡ of shape

-- no parameter changes it
param_leaves : {X : Type 0} (of : Shape → X) → IsLeft of → (spec : Spec) (name value : List ℕ) → IfSome (with_param spec name value) (λ s. of s.shape ≡ of spec.shape)
param_leaves {X} of left spec name value = by (is_called_common name Weight) (weight_of value) (parameter_of spec.shape name)
  where
    set : (parameter : Parameter) (setting : Option Setting) → IfSome (option_map (λ shape. record spec { shape = shape }) (option_map (with_field spec.shape parameter) setting)) (λ s. of s.shape ≡ of spec.shape)
    set parameter None = tt
    set parameter (Some setting) = left spec.shape parameter setting

    by : (b : Bool) (weight : Option ℕ) (parameter : Option Parameter)
        → IfSome (cond b (option_map (λ weight. record spec { weight = weight }) weight) (option_map (λ shape. record spec { shape = shape }) (option_and_then (λ parameter. with_value_of spec.shape parameter value) parameter))) (λ s. of s.shape ≡ of spec.shape)
    by true None parameter = tt
    by true (Some weight) parameter = refl
    by false weight None = tt
    by false weight (Some parameter) = set parameter (setting_of (value_range parameter) value)

-- nor does a pair of an update
pair_leaves : {X : Type 0} (of : Shape → X) → IsLeft of → (spec : Spec) (part : List ℕ) → IfSome (with_update_part (Some spec) part) (λ s. of s.shape ≡ of spec.shape)
pair_leaves {X} of left spec part = by (sides_of part)
  where
    by : (sides : Option Sides) → IfSome (option_and_then (λ (sides : Sides). with_param spec sides.name sides.value) sides) (λ s. of s.shape ≡ of spec.shape)
    by None = tt
    by (Some sides) = param_leaves of left spec sides.name sides.value

-- nor do its pairs
pairs_leave : {X : Type 0} (of : Shape → X) → IsLeft of → (spec after : Spec) (parts : List (List ℕ)) → fold with_update_part (Some spec) parts ≡ Some after → of after.shape ≡ of spec.shape
pairs_leave of left spec after [] is = ap (λ (o : Option Spec). of (unwrap_or o spec).shape) (sym is)
pairs_leave {X} of left spec after (part ∷ parts) is = by (with_update_part (Some spec) part) (pair_leaves of left spec part) is (λ s e. pairs_leave of left s after parts e)
  where
    by : (o : Option Spec) → IfSome o (λ s. of s.shape ≡ of spec.shape) → fold with_update_part o parts ≡ Some after → ((s : Spec) → fold with_update_part (Some s) parts ≡ Some after → of after.shape ≡ of s.shape) → of after.shape ≡ of spec.shape
    by None h e rest =
        let none : None ≡ Some after = sym (none_after parts) ∙ e in
        absurd cc
    by (Some s) h e rest = rest s e ∙ h

-- what a good update leaves is what its pairs do, and is good over the domain
pub updated_good : (axes : List Axis) (spec after : Spec) (text : List ℕ) → updated axes spec text ≡ Some after
    → (fold with_update_part (Some spec) (update_parts text) ≡ Some after) × (is_good_over axes after.shape ≡ true)
updated_good axes spec after text is = by (fold with_update_part (Some spec) (update_parts text)) is
  where
    at : (s : Spec) (b : Bool) → is_good_over axes s.shape ≡ b → cond b (Some s) None ≡ Some after → (Some s ≡ Some after) × (is_good_over axes after.shape ≡ true)
    at s true good k = (k, ap (λ (o : Option Spec). is_good_over axes (unwrap_or o s).shape) (sym k) ∙ good)
    at s false good k = absurd cc

    by : (o : Option Spec) → kept_if (λ (s : Spec). is_good_over axes s.shape) o ≡ Some after → (o ≡ Some after) × (is_good_over axes after.shape ≡ true)
    by None k = absurd cc
    by (Some s) k = at s (is_good_over axes s.shape) refl k

-- so an update leaves the axes that a behaviour needs
pub updated_axes : (axes : List Axis) (spec after : Spec) (text : List ℕ) → updated axes spec text ≡ Some after → axes_of after.shape ≡ axes_of spec.shape
updated_axes axes spec after text is = pairs_leave axes_of field_axes spec after (update_parts text) (updated_good axes spec after text is).0

-- and whether it keeps clear of a contact
pub updated_avoid : (axes : List Axis) (spec after : Spec) (text : List ℕ) → updated axes spec text ≡ Some after → is_avoid after.shape ≡ is_avoid spec.shape
updated_avoid axes spec after text is = pairs_leave is_avoid field_avoid spec after (update_parts text) (updated_good axes spec after text is).0

-- and a domain that suits a behaviour suits it after an update over that domain
pub updated_suits : (axes : List Axis) (spec after : Spec) (text : List ℕ) → updated axes spec text ≡ Some after → suits axes spec.shape ≡ true → suits axes after.shape ≡ true
updated_suits axes spec after text is suit =
    let slow = (and_parts (not (is_avoid spec.shape) || is_slow axes) (has_few_boxes axes spec.shape) suit).0 in
    let few = (and_parts (is_consistent after.shape) (has_few_boxes axes after.shape) (updated_good axes spec after text is).1).1 in
    and_from (not (is_avoid after.shape) || is_slow axes) (has_few_boxes axes after.shape) (ap (λ avoids. not avoids || is_slow axes) (updated_avoid axes spec after text is) ∙ slow) few

-- a behaviour that keeps clear of no contact doesn't after the pairs of an update
pub pairs_other : (spec after : Spec) (text : List ℕ) → is_avoid spec.shape ≡ false → fold with_update_part (Some spec) (update_parts text) ≡ Some after → is_avoid after.shape ≡ false
pairs_other spec after text other is = pairs_leave is_avoid field_avoid spec after (update_parts text) is ∙ other

-- so its updates are the same over every domain
pub judged_anywhere : (axes : List Axis) (spec after : Spec) (text : List ℕ) (good : Bool) → is_avoid spec.shape ≡ false → fold with_update_part (Some spec) (update_parts text) ≡ cond good (Some after) None
    → updated axes spec text ≡ cond (good && is_consistent after.shape) (Some after) None
judged_anywhere axes spec after text false other is = judged axes spec after text false is
judged_anywhere axes spec after text true other is =
    judged axes spec after text true is ∙ ap (λ good. cond good (Some after) None) (anywhere axes after.shape (pairs_other spec after text other is))
