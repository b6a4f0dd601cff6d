-- Which posts are latest after one post more.
use Rattle.std.proofs.Common.{◌≡◌, ◌∙◌, ℕ, suc, ◌+◌, List, [], ◌∷◌, ◌++◌, length, Option, None, Some, bytes_eq, ap, arith, if◌then◌else◌}
use Rattle.moos_post.specs.declared.value.Post.{Post}
use Rattle.moos_db.specs.Tables.{latest_post_from, latest_post_of}

latest-push : (name : List ℕ) (number : ℕ) (found : Option ℕ) (posts : List Post) (post : Post) →
    latest_post_from name number found (posts ++ post ∷ []) ≡ (if bytes_eq post.var name then Some (number + length posts) else latest_post_from name number found posts)
latest-push name number found [] post = let e : number ≡ number + 0 = omega arith in ap (λ n. if bytes_eq post.var name then Some n else found) e
latest-push name number found (one ∷ posts) post =
    let now : Option ℕ = if bytes_eq one.var name then Some number else found in
    latest-push name (suc number) now posts post
    ∙ (let e : suc number + length posts ≡ number + suc (length posts) = omega arith in ap (λ n. if bytes_eq post.var name then Some n else latest_post_from name (suc number) now posts) e)

pub latest-posted : (posts : List Post) (post : Post) (name : List ℕ) → latest_post_of name (posts ++ post ∷ []) ≡ (if bytes_eq post.var name then Some (length posts) else latest_post_of name posts)
latest-posted posts post name =
    latest-push name 0 None posts post
    ∙ (let e : 0 + length posts ≡ length posts = omega arith in ap (λ n. if bytes_eq post.var name then Some n else latest_post_of name posts) e)
