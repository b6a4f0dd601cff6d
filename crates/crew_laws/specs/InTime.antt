-- Which posts come in time: those that no post of their variable before them, with a later stamp, has overtaken.
use Rattle.std.specs.Prelude.{ℕ, Bool, ◌&&◌, nat_lt, if◌then◌else◌, List, [], ◌∷◌, ◌++◌, bytes_eq}
use Rattle.std.specs.List.{list_any}
use Rattle.moos_post.specs.declared.value.Post.{Post}

-- one of these posts is of this variable, and has a later stamp than this one
abbrev pub has_later : List Post → List ℕ → ℕ → Bool
has_later posts var stamp = list_any (λ post. bytes_eq post.var var && nat_lt stamp post.stamp) posts

-- a post behind these is overtaken: one of them is of its variable, and has a later stamp
abbrev pub is_overtaken : List Post → Post → Bool
is_overtaken before post = has_later before post.var post.stamp

-- those of some posts, behind others, that aren't overtaken
abbrev pub in_time_behind : List Post → List Post → List Post
in_time_behind before [] = []
in_time_behind before (post ∷ later) =
    if is_overtaken before post then in_time_behind (before ++ post ∷ []) later else post ∷ in_time_behind (before ++ post ∷ []) later

-- those of all posts of a history that come in time
abbrev pub in_time : List Post → List Post
in_time posts = in_time_behind [] posts
