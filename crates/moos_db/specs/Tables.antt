-- Which number a variable has: its own in a table, and that of its latest post.
use Rattle.std.specs.Prelude.{◌≡◌, ℕ, suc, if◌then◌else◌, List, [], ◌∷◌, find, Option, None, Some, option_map, bytes_eq}
use Rattle.moos_post.specs.declared.value.Post.{Post}

-- a variable and its number
pub record Row : Type 0 where
  pub var : List ℕ
  pub number : ℕ

-- the number of the variable in this table, whose rows are in any order, if it has one
abbrev pub number_of : List ℕ → List Row → Option ℕ
number_of var rows = option_map (λ row. row.number) (find (λ row. bytes_eq var row.var) rows)

-- the table has this number for the variable, and for each other what it had
abbrev pub GetsNumber : List ℕ → ℕ → List Row → List Row → Type 0
GetsNumber var number before after = (other : List ℕ) → number_of other after ≡ (if bytes_eq var other then Some number else number_of other before)

-- the number of the latest of these posts that is of the variable, where the first has this number; what was found, if none is
abbrev pub latest_post_from : List ℕ → ℕ → Option ℕ → List Post → Option ℕ
latest_post_from var number found [] = found
latest_post_from var number found (post ∷ posts) = latest_post_from var (suc number) (if bytes_eq post.var var then Some number else found) posts

-- the number of the latest of all posts that is of the variable, if there is one
abbrev pub latest_post_of : List ℕ → List Post → Option ℕ
latest_post_of var posts = latest_post_from var 0 None posts
