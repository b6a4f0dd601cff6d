-- A path ends with the parts of a name: its own name is the last part, and its parent's path ends with the others.
use Rattle.std.proofs.Common.{◌≡◌, ℕ, Bool, true, false, ◌&&◌, Option, Some, None, List, [], ◌∷◌, ◌++◌, refl, ap, ◌∙◌}
use Rattle.std.specs.Prelude.{MatchOption, reverse}
use Rattle.std.specs.Borrow.{Bor}
use Rattle.std.specs.Str.{str_eq_ignore_ascii_case}
use Rattle.std.proofs.lemmas.List.{reverse-append}
use Rattle.helm_cond.specs.Conditions.{begins_with, mode_names}
use Rattle.bhv_reader.proofs.Splits.{some_part}

and_true : (b : Bool) → (b && true) ≡ b
and_true true = refl
and_true false = refl

-- one part
pub ends_one : (left last name : List ℕ) (up : List (List ℕ)) → mode_names left ≡ last ∷ [] → begins_with (reverse (mode_names left)) (name ∷ up) ≡ str_eq_ignore_ascii_case last name
ends_one left last name up cut = ap (λ parts. begins_with (reverse parts) (name ∷ up)) cut ∙ and_true (str_eq_ignore_ascii_case last name)

-- several
pub ends_more : (left front last name : List ℕ) (up : List (List ℕ)) → mode_names left ≡ mode_names front ++ last ∷ [] → begins_with (reverse (mode_names left)) (name ∷ up) ≡ (str_eq_ignore_ascii_case last name && begins_with (reverse (mode_names front)) up)
ends_more left front last name up cut =
    ap (λ parts. begins_with parts (name ∷ up)) (ap reverse cut ∙ reverse-append (mode_names front) (last ∷ []))

-- the last part is another name
pub ends_not : (left last name : List ℕ) (up : List (List ℕ)) (cut : Option (Bor (List ℕ))) → MatchOption cut (mode_names left ≡ last ∷ []) (λ front. mode_names left ≡ mode_names front.now ++ last ∷ []) → str_eq_ignore_ascii_case last name ≡ false → begins_with (reverse (mode_names left)) (name ∷ up) ≡ false
ends_not left last name up None is other = ends_one left last name up is ∙ other
ends_not left last name up (Some front) is other = ends_more left front.now last name up is ∙ ap (λ b. b && begins_with (reverse (mode_names front.now)) up) other

-- a root has no name above it
none_above : (parts : List (List ℕ)) (part : List ℕ) → begins_with (parts ++ part ∷ []) [] ≡ false
none_above [] part = refl
none_above (first ∷ parts) part = refl

pub ends_above : (front : List ℕ) → begins_with (reverse (mode_names front)) [] ≡ false
ends_above front =
    let some = some_part front in
    ap (λ parts. begins_with parts []) (ap reverse some.2 ∙ reverse-append (some.0 ∷ []) some.1) ∙ none_above (reverse some.1) some.0
