-- Whether a post of some lines passes a test, line by line and pair by pair.
use Rattle.std.proofs.Common.{◌≡◌, ℕ, ◌||◌, Bool, List, [], ◌∷◌, map, refl, ap, ◌∙◌}
use Rattle.std.specs.List.{list_any}
use Rattle.std.proofs.lemmas.List.Folds.{list_any-append}
use Rattle.moos_post.specs.declared.entry.Entry.{Entry}
use Rattle.moos_post.specs.declared.value.Pair.{Pair}
use Rattle.moos_post.specs.declared.value.Post.{Post}
use Rattle.moos_post.specs.History.{post_of, posts_of, posts_of_entry}

-- line by line
pub any_by_line : (test : Post → Bool) (lines : List Entry) → list_any test (posts_of lines) ≡ list_any (λ line. list_any test (posts_of_entry line)) lines
any_by_line test [] = refl
any_by_line test (line ∷ lines) =
    list_any-append test (posts_of_entry line) (posts_of lines) ∙ ap (λ more. list_any test (posts_of_entry line) || more) (any_by_line test lines)

-- pair by pair
pub any_by_pair : (test : List ℕ → Bool) (stamp client : ℕ) (batch : List Pair) → list_any (λ post. test post.var) (map (post_of stamp client) batch) ≡ list_any (λ pair. test pair.var) batch
any_by_pair test stamp client [] = refl
any_by_pair test stamp client (pair ∷ batch) = ap (λ more. test pair.var || more) (any_by_pair test stamp client batch)
