-- The declarations that a name means, one number after another.
use Rattle.std.proofs.Common.{◌≡◌, ℕ, ◌+◌, ◌<◌, ◌≤◌, true, false, cond, Option, Some, None, List, [], ◌∷◌, ◌++◌, length, drop, refl, ap, sym, ◌∙◌, add-one}
use Rattle.std.specs.Prelude.{is_some, ok_or, Err, slice_index_or}
use Rattle.std.specs.Option.{option_to_list}
use Rattle.std.proofs.Math.ListN.{drop_of_length-le}
use Rattle.std.proofs.lemmas.List.{drop_more}
use Rattle.moos_text.specs.declared.cause.Cause.TheVariants.{B7, B8}
use Rattle.helm_cond.specs.Conditions.{begins_with}
use Rattle.bhv_file.specs.Paths.{the_one, named_from}

-- the next path
next_path : (names : List (List ℕ)) (paths : List (List (List ℕ))) (i : ℕ) → i < length paths → named_from i names (drop i paths) ≡ cond (begins_with names (slice_index_or paths i [])) (i ∷ named_from (i + 1) names (drop (i + 1) paths)) (named_from (i + 1) names (drop (i + 1) paths))
next_path names paths i within =
    ap (named_from i names) (drop_more paths i [] within)
    ∙ ap (λ n. cond (begins_with names (slice_index_or paths i [])) (i ∷ named_from n names (drop (i + 1) paths)) (named_from n names (drop (i + 1) paths))) (sym (add-one i))

none_found : (found : Option ℕ) → is_some found ≡ false → found ≡ None
none_found None e = refl
none_found (Some number) e = absurd cc

-- one that is meant, where none was before
pub named_yes : (all : List ℕ) (names : List (List ℕ)) (paths : List (List (List ℕ))) (i : ℕ) (found then : Option ℕ) → i < length paths → all ≡ option_to_list found ++ named_from i names (drop i paths) → begins_with names (slice_index_or paths i []) ≡ true → is_some found ≡ false → then ≡ Some i → all ≡ option_to_list then ++ named_from (i + 1) names (drop (i + 1) paths)
named_yes all names paths i found then within is meant none same =
    is ∙ ap (λ o. option_to_list o ++ named_from i names (drop i paths)) (none_found found none) ∙ next_path names paths i within
    ∙ ap (λ b. cond b (i ∷ named_from (i + 1) names (drop (i + 1) paths)) (named_from (i + 1) names (drop (i + 1) paths))) meant
    ∙ ap (λ o. option_to_list o ++ named_from (i + 1) names (drop (i + 1) paths)) (sym same)

-- one that isn't
pub named_no : (all : List ℕ) (names : List (List ℕ)) (paths : List (List (List ℕ))) (i : ℕ) (found then : Option ℕ) → i < length paths → all ≡ option_to_list found ++ named_from i names (drop i paths) → begins_with names (slice_index_or paths i []) ≡ false → then ≡ found → all ≡ option_to_list then ++ named_from (i + 1) names (drop (i + 1) paths)
named_no all names paths i found then within is other same =
    is ∙ ap (λ rest. option_to_list found ++ rest) (next_path names paths i within ∙ ap (λ b. cond b (i ∷ named_from (i + 1) names (drop (i + 1) paths)) (named_from (i + 1) names (drop (i + 1) paths))) other)
    ∙ ap (λ o. option_to_list o ++ named_from (i + 1) names (drop (i + 1) paths)) (sym same)

two_found : (found : Option ℕ) (i : ℕ) (rest : List ℕ) → is_some found ≡ true → the_one (option_to_list found ++ i ∷ rest) ≡ Err B8
two_found None i rest e = absurd cc
two_found (Some number) i rest e = refl

-- a second one
pub named_twice : (all : List ℕ) (names : List (List ℕ)) (paths : List (List (List ℕ))) (i : ℕ) (found : Option ℕ) → i < length paths → all ≡ option_to_list found ++ named_from i names (drop i paths) → begins_with names (slice_index_or paths i []) ≡ true → is_some found ≡ true → Err B8 ≡ the_one all
named_twice all names paths i found within is meant some =
    sym (ap the_one (is ∙ ap (λ rest. option_to_list found ++ rest) (next_path names paths i within ∙ ap (λ b. cond b (i ∷ named_from (i + 1) names (drop (i + 1) paths)) (named_from (i + 1) names (drop (i + 1) paths))) meant))
    ∙ two_found found i (named_from (i + 1) names (drop (i + 1) paths)) some)

one_found : (found : Option ℕ) → ok_or found B7 ≡ the_one (option_to_list found ++ [])
one_found None = refl
one_found (Some number) = refl

-- the end
pub named_end : (all : List ℕ) (names : List (List ℕ)) (paths : List (List (List ℕ))) (i : ℕ) (found : Option ℕ) → length paths ≤ i → all ≡ option_to_list found ++ named_from i names (drop i paths) → ok_or found B7 ≡ the_one all
named_end all names paths i found out is =
    one_found found ∙ sym (ap the_one (is ∙ ap (λ rest. option_to_list found ++ named_from i names rest) (drop_of_length-le paths {i = i} out)))
