-- Updates: what a text makes of a behaviour's parameters.
use Rattle.std.specs.Prelude.{ℕ, ◌==◌, Bool, false, ◌&&◌, not, List, fold, Option, Some, None, is_some, option_and_then}
use Rattle.std.specs.List.{list_any, slice_split}
use Rattle.ivp_domain.specs.declared.axis.Axis.{Axis}
use Rattle.moos_text.specs.Pairs.{Sides, sides_of}
use Rattle.bhv_file.specs.declared.spec.Shape.{Shape}
use Rattle.bhv_file.specs.declared.spec.Spec.{Spec}
use Rattle.bhv_file.specs.declared.table.Parameter.TheVariants.{Points}
use Rattle.bhv_file.specs.Params.{keeps_relations, lacks_places, with_param}
use Rattle.bhv_file.specs.Serving.{has_few_boxes}
use Rattle.bhv_file.specs.Table.{is_called}
use Rattle.bhv_file.specs.Values.{kept_if}

-- all relations between parameters hold: those of numbers, and the places that must be given are
abbrev pub is_consistent : Shape → Bool
is_consistent shape = keeps_relations shape && not (lacks_places shape)

-- parameters are good over a domain: the relations hold, and the boxes of a function that keeps clear of a contact are few
abbrev pub is_good_over : List Axis → Shape → Bool
is_good_over axes shape = is_consistent shape && has_few_boxes axes shape

-- the parts of an update: it is cut at each `#`, and an empty text is one empty part
abbrev pub update_parts : List ℕ → List (List ℕ)
update_parts text = slice_split (λ byte. byte == 35) text

-- the behaviour with one more part of an update, if that is a parameter of it, a `=` and a good value
abbrev pub with_update_part : Option Spec → List ℕ → Option Spec
with_update_part None part = None
with_update_part (Some spec) part = option_and_then (λ sides. with_param spec sides.name sides.value) (sides_of part)

-- The behaviour after an update that is good as a whole over a domain: each part is good on top of those before it, and what they
-- make is good over the domain.
abbrev pub updated : List Axis → Spec → List ℕ → Option Spec
updated axes spec text = kept_if (λ after. is_good_over axes after.shape) (fold with_update_part (Some spec) (update_parts text))

-- a part of an update names the places that a behaviour goes to
abbrev pub is_of_places : Option Sides → Bool
is_of_places None = false
is_of_places (Some sides) = is_called Points sides.name

-- the update is good, and gives those places anew
abbrev pub gives_places : List Axis → Spec → List ℕ → Bool
gives_places axes spec text = is_some (updated axes spec text) && list_any (λ part. is_of_places (sides_of part)) (update_parts text)
