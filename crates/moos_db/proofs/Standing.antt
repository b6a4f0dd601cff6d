-- Each post stands at the place that is kept for it, also when the history grows.
use Rattle.std.proofs.Common.{◌≡◌, ℕ, suc, ◌+◌, ◌<◌, List, [], ◌∷◌, ◌++◌, length, map, get_or, slice_get, Option, Some, None, option_map, option_and_then, append_assoc, append-nil, refl, ap, sym, ◌∙◌, arith}
use Rattle.std.specs.List.{range_with_len}
use Rattle.std.proofs.lemmas.List.{map-append, length-map}
use Rattle.std.proofs.lemmas.List.Concat.{flat_map-append}
use Rattle.std.proofs.lemmas.Option.{slice_get-map, slice_get_within, slice_get-get_or, get_or_from_slice_get}
use Rattle.moos_post.specs.declared.entry.Call.{Call}
use Rattle.moos_post.specs.declared.entry.Call.TheVariants.{Register, Unregister, Post as Posts, Fetch}
use Rattle.moos_post.specs.declared.entry.Entry.{Entry}
use Rattle.moos_post.specs.declared.value.Pair.{Pair}
use Rattle.moos_post.specs.declared.value.Post.{Post}
use Rattle.moos_post.specs.History.{History, post_of, posts_of, posts_of_call, posts_of_entry}
use Rattle.moos_db.specs.declared.log.PostPlace.{PostPlace}
use Rattle.moos_db.specs.declared.mail.Origin.{Origin}
use Rattle.moos_db.specs.Database.{origin_of}
use Rattle.moos_db.specs.Places.{post_in, place_at, IsLog}
use Rattle.moos_mail.proofs.Lists.{length-push, slice_get-front}

pub slice_get-seam : {X : Type 0} (xs : List X) (x : X) (ys : List X) → slice_get (xs ++ x ∷ ys) (length xs) ≡ Some x
slice_get-seam [] x ys = refl
slice_get-seam (y ∷ xs) x ys = slice_get-seam xs x ys

-- a post that stands at a place still stands there after one entry more
post_in-stays : (entries : History) (entry : Entry) (place : PostPlace) (post : Post) → post_in entries place ≡ Some post → post_in (entries ++ entry ∷ []) place ≡ Some post
post_in-stays entries entry place post there = post_in-through (slice_get entries place.entry) refl there
  where
    post_in-through : (found : Option Entry) → slice_get entries place.entry ≡ found → option_and_then (λ one. slice_get (posts_of_entry one) place.pair) found ≡ Some post →
        post_in (entries ++ entry ∷ []) place ≡ Some post
    post_in-through None is there' = absurd (let e : None ≡ Some post = there' in cc)
    post_in-through (Some one) is there' = ap (option_and_then (λ one. slice_get (posts_of_entry one) place.pair)) (slice_get-front entries (entry ∷ []) place.entry one is) ∙ there'

placed-stays : (entries : History) (entry : Entry) (places : List PostPlace) (posts : List Post) → map (post_in entries) places ≡ map (λ post. Some post) posts →
    map (post_in (entries ++ entry ∷ [])) places ≡ map (λ post. Some post) posts
placed-stays entries entry [] posts placed = placed
placed-stays entries entry (place ∷ places) [] placed = absurd (let e : post_in entries place ∷ map (post_in entries) places ≡ [] = placed in cc)
placed-stays entries entry (place ∷ places) (post ∷ posts) placed =
    let first : post_in entries place ≡ Some post = cc in
    let rest : map (post_in entries) places ≡ map (λ one. Some one) posts = cc in
    ap (λ one. one ∷ map (post_in (entries ++ entry ∷ [])) places) (post_in-stays entries entry place post first) ∙ ap (λ more. Some post ∷ more) (placed-stays entries entry places posts rest)

-- the posts of the new entry stand at its places, from one on
placed-new : (entries : History) (entry : Entry) (number : ℕ) (first rest : List Post) → slice_get entries number ≡ Some entry → posts_of_entry entry ≡ first ++ rest →
    map (post_in entries) (map (place_at number) (range_with_len (length first) (length rest))) ≡ map (λ post. Some post) rest
placed-new entries entry number first [] there all = refl
placed-new entries entry number first (post ∷ rest) there all =
    let here : post_in entries (place_at number (length first)) ≡ Some post
    = ap (option_and_then (λ one. slice_get (posts_of_entry one) (length first))) there ∙ ap (λ posts. slice_get posts (length first)) all ∙ slice_get-seam first post rest in
    let next : length first + 1 ≡ length (first ++ post ∷ []) = omega (arith, length-push first post) in
    ap (λ one. one ∷ map (post_in entries) (map (place_at number) (range_with_len (length first + 1) (length rest)))) here
    ∙ ap (λ from. Some post ∷ map (post_in entries) (map (place_at number) (range_with_len from (length rest)))) next
    ∙ ap (λ more. Some post ∷ more) (placed-new entries entry number (first ++ post ∷ []) rest there (all ∙ sym (append_assoc first (post ∷ []) rest)))

length-posts : (stamp client : ℕ) (call : Call) → length (posts_of_call 0 0 call) ≡ length (posts_of_call stamp client call)
length-posts stamp client (Register regs) = refl
length-posts stamp client (Unregister var source) = refl
length-posts stamp client (Posts batch) = length-map batch (post_of 0 0) ∙ sym (length-map batch (post_of stamp client))
length-posts stamp client Fetch = refl

-- One entry more, with its letters and its places.
pub IsLog-push : (entries : History) (letters : List (List ℕ)) (places : List PostPlace) (entry : Entry) (numbers : List ℕ) → IsLog entries letters places →
    IsLog (entries ++ entry ∷ []) (letters ++ numbers ∷ []) (places ++ map (place_at (length entries)) (range_with_len 0 (length (posts_of_call 0 0 entry.call))))
IsLog-push entries letters places entry numbers log =
    record {
      each = length-push letters numbers ∙ ap suc log.each ∙ sym (length-push entries entry);
      placed =
          map-append (post_in (entries ++ entry ∷ [])) places _
          ∙ ap (λ old. old ++ map (post_in (entries ++ entry ∷ [])) (map (place_at (length entries)) (range_with_len 0 (length (posts_of_call 0 0 entry.call)))))
          (placed-stays entries entry places (posts_of entries) log.placed)
          ∙ ap (λ n. map (λ post. Some post) (posts_of entries) ++ map (post_in (entries ++ entry ∷ [])) (map (place_at (length entries)) (range_with_len 0 n)))
          (length-posts entry.stamp entry.client entry.call)
          ∙ ap (λ new. map (λ post. Some post) (posts_of entries) ++ new)
          (placed-new (entries ++ entry ∷ []) entry (length entries) [] (posts_of_entry entry) (slice_get-seam entries entry []) refl)
          ∙ sym (map-append (λ post. Some post) (posts_of entries) (posts_of_entry entry))
          ∙ ap (map (λ post. Some post)) (ap (λ new. posts_of entries ++ new) (sym (append-nil (posts_of_entry entry))) ∙ sym (flat_map-append posts_of_entry entries (entry ∷ [])));
    }

-- the post with this number stands in this entry, at this place of its batch
pub record StandsIn (entries : History) (number : ℕ) (place : PostPlace) : Type 0 where
  pub entry : Entry
  pub post : Post
  pub at : slice_get entries place.entry ≡ Some entry
  pub in_batch : slice_get (posts_of_entry entry) place.pair ≡ Some post
  pub numbered : slice_get (posts_of entries) number ≡ Some post

stands-there : (entries : History) (number : ℕ) (place : PostPlace) (post : Post) → slice_get (posts_of entries) number ≡ Some post → post_in entries place ≡ Some post → StandsIn entries number place
stands-there entries number place post numbered there = through (slice_get entries place.entry) refl there
  where
    through : (found : Option Entry) → slice_get entries place.entry ≡ found → option_and_then (λ one. slice_get (posts_of_entry one) place.pair) found ≡ Some post → StandsIn entries number place
    through None is there' = absurd (let e : None ≡ Some post = there' in cc)
    through (Some one) is there' = record { entry = one; post = post; at = is; in_batch = there'; numbered = numbered }

-- the number of posts is that of the places
pub length-places : (entries : History) (letters : List (List ℕ)) (places : List PostPlace) → IsLog entries letters places → length places ≡ length (posts_of entries)
length-places entries letters places log = sym (length-map places (post_in entries)) ∙ ap length log.placed ∙ length-map (posts_of entries) (λ post. Some post)

pub stands : (entries : History) (letters : List (List ℕ)) (places : List PostPlace) (number : ℕ) (place : PostPlace) → IsLog entries letters places → number < length (posts_of entries) →
    place ≡ get_or places number place → StandsIn entries number place
stands entries letters places number place log below is =
    let same : length places ≡ length (posts_of entries) = length-places entries letters places log in
    let found : slice_get places number ≡ Some place = slice_get-get_or places number place (omega arith) ∙ ap (λ p. Some p) (sym is) in
    through (slice_get (posts_of entries) number) refl
    (sym (ap (option_map (post_in entries)) found) ∙ sym (slice_get-map (post_in entries) places number) ∙ ap (λ list. slice_get list number) log.placed ∙ slice_get-map (λ post. Some post) (posts_of entries) number)
    found
  where
    through : (post : Option Post) → slice_get (posts_of entries) number ≡ post → Some (post_in entries place) ≡ option_map (λ one. Some one) post → slice_get places number ≡ Some place → StandsIn entries number place
    through None is' there found = absurd (let e : Some (post_in entries place) ≡ None = there in cc)
    through (Some post) is' there found = stands-there entries number place post is' (let e : Some (post_in entries place) ≡ Some (Some post) = there in cc)

-- a post of a call is made when and by whom the call was
pub origin-of_call : (stamp client : ℕ) (call : Call) (place : ℕ) (post : Post) → slice_get (posts_of_call stamp client call) place ≡ Some post →
    origin_of post ≡ record { stamp = stamp; client = client }
origin-of_call stamp client (Register regs) place post there = absurd (let e : None ≡ Some post = there in cc)
origin-of_call stamp client (Unregister var source) place post there = absurd (let e : None ≡ Some post = there in cc)
origin-of_call stamp client Fetch place post there = absurd (let e : None ≡ Some post = there in cc)
origin-of_call stamp client (Posts batch) place post there = in_batch (slice_get batch place) (sym (slice_get-map (post_of stamp client) batch place) ∙ there)
  where
    in_batch : (pair : Option Pair) → option_map (post_of stamp client) pair ≡ Some post → origin_of post ≡ record { stamp = stamp; client = client }
    in_batch None e = absurd (let e' : None ≡ Some post = e in cc)
    in_batch (Some pair) e = let e' : post_of stamp client pair ≡ post = cc in ap origin_of (sym e')

same-entry : (entries : History) (number : ℕ) (place : PostPlace) (one : Entry) (there : StandsIn entries number place) → one ≡ get_or entries place.entry one → one ≡ there.entry
same-entry entries number place one there is = is ∙ get_or_from_slice_get entries place.entry there.entry one there.at

-- what is read there: the entry stands in the history, the place in its batch, and the post is that with the number
pub stands-within : (entries : History) (number : ℕ) (place : PostPlace) → StandsIn entries number place → place.entry < length entries
stands-within entries number place there = slice_get_within entries place.entry there.entry there.at

pub stands-pair : (entries : History) (number : ℕ) (place : PostPlace) (one : Entry) → StandsIn entries number place → one ≡ get_or entries place.entry one → place.pair < length (posts_of_entry one)
stands-pair entries number place one there is =
    slice_get_within (posts_of_entry one) place.pair there.post (ap (λ e. slice_get (posts_of_entry e) place.pair) (same-entry entries number place one there is) ∙ there.in_batch)

pub stands-post : (entries : History) (number : ℕ) (place : PostPlace) (one : Entry) → StandsIn entries number place → one ≡ get_or entries place.entry one →
    slice_get (posts_of entries) number ≡ slice_get (posts_of_entry one) place.pair
stands-post entries number place one there is =
    there.numbered ∙ sym (ap (λ e. slice_get (posts_of_entry e) place.pair) (same-entry entries number place one there is) ∙ there.in_batch)

pub stands-origin : (entries : History) (number : ℕ) (place : PostPlace) (one : Entry) → StandsIn entries number place → one ≡ get_or entries place.entry one →
    option_map origin_of (slice_get (posts_of entries) number) ≡ Some (record { stamp = one.stamp; client = one.client })
stands-origin entries number place one there is =
    ap (option_map origin_of) there.numbered
    ∙ ap (λ o. Some o) (origin-of_call there.entry.stamp there.entry.client there.entry.call place.pair there.post there.in_batch)
    ∙ ap (λ (e : Entry). let made : Origin = record { stamp = e.stamp; client = e.client } in Some made) (sym (same-entry entries number place one there is))
