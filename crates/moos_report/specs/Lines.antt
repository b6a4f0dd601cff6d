-- Lines of posts that are kept.
use Rattle.std.specs.Prelude.{◌≡◌, ◌≤◌, ◌+◌, ◌⊎◌, ℕ, List, [], length, map, Some, slice_get}
use Rattle.moos_post.specs.History.{History, posts_of}
use Rattle.moos_report.specs.Report.{post_text}

-- the lines of the history's posts, in order
abbrev pub post_lines : List (List ℕ) → History → List (List ℕ)
post_lines names history = map (post_text names) (posts_of history)

-- the line is this, or it isn't kept
abbrev pub IsLineOrNone : List ℕ → List ℕ → Type 0
IsLineOrNone line text = (line ≡ []) ⊎ (line ≡ text)

-- each of the first of these lines is kept as its text, or nothing in its place
pub record AreLines (texts lines : List (List ℕ)) : Type 0 where
  pub within : length lines ≤ length texts
  pub each : (number : ℕ) (line text : List ℕ) → slice_get lines number ≡ Some line → slice_get texts number ≡ Some text → IsLineOrNone line text

-- the lines kept are of the posts of this history
abbrev pub KeepsLines : List (List ℕ) → History → List (List ℕ) → Type 0
KeepsLines names history lines = AreLines (post_lines names history) lines

-- these are the lines from this number on
abbrev pub StandAt : ℕ → List (List ℕ) → List (List ℕ) → Type 0
StandAt first some texts = (k : ℕ) (text : List ℕ) → slice_get some k ≡ Some text → slice_get texts (first + k) ≡ Some text

-- what is kept of the lines from this number on is of these
abbrev pub AreLinesFrom : ℕ → List (List ℕ) → List (List ℕ) → Type 0
AreLinesFrom first some lines = (k : ℕ) (line text : List ℕ) → slice_get some k ≡ Some text → slice_get lines (first + k) ≡ Some line → IsLineOrNone line text
