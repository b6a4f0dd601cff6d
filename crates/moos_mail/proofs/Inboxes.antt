-- What each step of the delivery rule keeps, every entry keeps, and so does a history.
use Rattle.std.proofs.Common.{◌≡◌, ℕ, suc, ◌+◌, ◌<◌, ◌≤◌, Bool, true, false, ◌==◌, ◌&&◌, List, [], ◌∷◌, ◌++◌, append_assoc, append-nil, length, fold, refl, ap, sym, ◌∙◌, arith, zero-add, inl, inr, subst, if◌then◌else◌}
use Rattle.std.proofs.lemmas.Bool.{cases_Bool, and_parts, not-true}
use Rattle.std.specs.List.{list_any}
use Rattle.moos_post.specs.declared.entry.Call.{Call}
use Rattle.moos_post.specs.declared.entry.Call.TheVariants.{Register, Unregister, Post as Posts, Fetch}
use Rattle.moos_post.specs.declared.entry.Entry.{Entry}
use Rattle.moos_post.specs.declared.value.Post.{Post}
use Rattle.moos_post.specs.Delivery.{Live, Inbox, with_post, with_caught_up, catches_up, after_catching_up, with_own, with_entry, is_fetch, is_latest, is_new_for, was_mailed, with_reg, empty_inbox, inbox_of}
use Rattle.moos_post.specs.History.{History, posts_of, posts_of_call, posts_of_entry}

-- what a post, a post that catches up and a change of registrations keep
pub record Keeps (names : List (List ℕ)) (P : Inbox → Type 0) : Type 0 where
  pub posted : (inbox : Inbox) (post : Post) → P inbox → P (with_post names inbox post)
  pub caught : (inbox : Inbox) (number : ℕ) (post : Post) → number < length inbox.posts → was_mailed number inbox.mailed ≡ false → P inbox → P (with_caught_up names inbox number post)
  pub relived : (inbox : Inbox) (lives : List Live) → P inbox → P (record inbox { lives = lives })

-- the inbox after a fetch of the client, and after an entry
abbrev pub fetched_now : Inbox → Inbox
fetched_now inbox = record inbox { fetched = suc inbox.entries }

abbrev pub over : Inbox → Inbox
over inbox = record inbox { entries = suc inbox.entries }

-- a post that catches up was never mailed
pub catches-new : (names : List (List ℕ)) (inbox : Inbox) (number : ℕ) (post : Post) (later : List Post) → catches_up names inbox number post later ≡ true → was_mailed number inbox.mailed ≡ false
catches-new names inbox number post later catches =
    not-true _ (and_parts (is_latest post later && list_any (is_new_for names inbox.entries post) inbox.lives) _ catches).1

pub posts-caught : (names : List (List ℕ)) (inbox : Inbox) (number : ℕ) (post : Post) (catches : Bool) →
    (if catches then with_caught_up names inbox number post else inbox).posts ≡ inbox.posts
posts-caught names inbox number post true = refl
posts-caught names inbox number post false = refl

module _ (names : List (List ℕ)) (P : Inbox → Type 0) (keeps : Keeps names P) where
  pub keeps-posts : (inbox : Inbox) (posts : List Post) → P inbox → P (fold (with_post names) inbox posts)
  keeps-posts inbox [] h = h
  keeps-posts inbox (post ∷ posts) h = keeps-posts (with_post names inbox post) posts (keeps.posted inbox post h)

  keeps-caught : (inbox : Inbox) (number : ℕ) (post : Post) (catches : Bool) → (catches ≡ true → was_mailed number inbox.mailed ≡ false) → number < length inbox.posts → P inbox →
      P (if catches then with_caught_up names inbox number post else inbox)
  keeps-caught inbox number post true new below h = keeps.caught inbox number post below (new refl) h
  keeps-caught inbox number post false new below h = h

  pub keeps-catching : (number : ℕ) (inbox : Inbox) (posts : List Post) → number + length posts ≤ length inbox.posts → P inbox → P (after_catching_up names number inbox posts)
  keeps-catching number inbox [] fits h = h
  keeps-catching number inbox (post ∷ later) fits h =
      let catches : Bool = catches_up names inbox number post later in
      let same : length (if catches then with_caught_up names inbox number post else inbox).posts ≡ length inbox.posts = ap length (posts-caught names inbox number post catches) in
      let next : number + suc (length later) ≡ suc number + length later = omega arith in
      keeps-catching (suc number) _ later (omega arith) (keeps-caught inbox number post catches (catches-new names inbox number post later) (omega arith) h)

  -- the client's own entries other than fetches
  keeps-own : (inbox : Inbox) (own : Bool) (call : Call) → (own && is_fetch call) ≡ false → P inbox → P (if own then with_own names inbox call else inbox)
  keeps-own inbox false call other h = h
  keeps-own inbox true (Register regs) other h =
      keeps-catching 0 (record inbox { lives = fold (with_reg inbox.entries) inbox.lives regs }) inbox.posts (omega arith) (keeps.relived inbox _ h)
  keeps-own inbox true (Unregister var source) other h = keeps.relived inbox _ h
  keeps-own inbox true (Posts batch) other h = h
  keeps-own inbox true Fetch other h = absurd (let e : true ≡ false = other in cc)

  -- the inbox at the end of an entry
  pub keeps-call : (inbox : Inbox) (own : Bool) (call : Call) (posts : List Post) → (own && is_fetch call) ≡ false → P inbox →
      P (fold (with_post names) (if own then with_own names inbox call else inbox) posts)
  keeps-call inbox own call posts other h = keeps-posts _ posts (keeps-own inbox own call other h)

-- a fetch of the client changes nothing else
pub fetch-call : (names : List (List ℕ)) (inbox : Inbox) (own : Bool) (stamp source : ℕ) (call : Call) → (own && is_fetch call) ≡ true →
    fold (with_post names) (if own then with_own names inbox call else inbox) (posts_of_call stamp source call) ≡ fetched_now inbox
fetch-call names inbox false stamp source call fetch = absurd (let e : false ≡ true = fetch in cc)
fetch-call names inbox true stamp source (Register regs) fetch = absurd (let e : false ≡ true = fetch in cc)
fetch-call names inbox true stamp source (Unregister var from) fetch = absurd (let e : false ≡ true = fetch in cc)
fetch-call names inbox true stamp source (Posts batch) fetch = absurd (let e : false ≡ true = fetch in cc)
fetch-call names inbox true stamp source Fetch fetch = refl

entries-catching : (names : List (List ℕ)) (number : ℕ) (inbox : Inbox) (posts : List Post) → (after_catching_up names number inbox posts).entries ≡ inbox.entries
entries-catching names number inbox [] = refl
entries-catching names number inbox (post ∷ later) =
    entries-catching names (suc number) _ later ∙ elim (catches_up names inbox number post later) as (λ b. (if b then with_caught_up names inbox number post else inbox).entries ≡ inbox.entries) [ true ↦ refl | false ↦ refl ]

-- an entry counts only at its end
pub entries-own : (names : List (List ℕ)) (inbox : Inbox) (own : Bool) (call : Call) → (if own then with_own names inbox call else inbox).entries ≡ inbox.entries
entries-own names inbox false call = refl
entries-own names inbox true (Register regs) = entries-catching names 0 (record inbox { lives = fold (with_reg inbox.entries) inbox.lives regs }) inbox.posts
entries-own names inbox true (Unregister var source) = refl
entries-own names inbox true (Posts batch) = refl
entries-own names inbox true Fetch = refl

entries-posts : (names : List (List ℕ)) (inbox : Inbox) (posts : List Post) → (fold (with_post names) inbox posts).entries ≡ inbox.entries
entries-posts names inbox [] = refl
entries-posts names inbox (post ∷ posts) = entries-posts names (with_post names inbox post) posts

-- what stands at the end of an entry before it counts
abbrev pub ended : List (List ℕ) → ℕ → Inbox → Entry → Inbox
ended names client inbox entry = fold (with_post names) (if entry.client == client then with_own names inbox entry.call else inbox) (posts_of_entry entry)

pub entries-ended : (names : List (List ℕ)) (client : ℕ) (inbox : Inbox) (entry : Entry) → (ended names client inbox entry).entries ≡ inbox.entries
entries-ended names client inbox entry = entries-posts names _ (posts_of_entry entry) ∙ entries-own names inbox (entry.client == client) entry.call

pub with_entry-ended : (names : List (List ℕ)) (client : ℕ) (inbox : Inbox) (entry : Entry) → with_entry names client inbox entry ≡ over (ended names client inbox entry)
with_entry-ended names client inbox entry = ap (λ n. record (ended names client inbox entry) { entries = suc n }) (sym (entries-ended names client inbox entry))

-- What each step keeps, an entry keeps: between entries Q holds, and within one P.
pub keeps-entry : (names : List (List ℕ)) (P Q : Inbox → Type 0) → Keeps names P → ((inbox : Inbox) → Q inbox → P inbox) → ((inbox : Inbox) → P inbox → Q (over inbox)) →
    ((inbox : Inbox) → Q inbox → Q (over (fetched_now inbox))) → (client : ℕ) (inbox : Inbox) (entry : Entry) → Q inbox → Q (with_entry names client inbox entry)
keeps-entry names P Q keeps begins ends fetched client inbox entry h =
    subst Q (sym (with_entry-ended names client inbox entry))
    (elim (cases_Bool ((entry.client == client) && is_fetch entry.call)) [
      | inl fetch ↦ subst (λ one. Q (over one)) (sym (fetch-call names inbox (entry.client == client) entry.stamp entry.client entry.call fetch)) (fetched inbox h)
      | inr other ↦ ends _ (keeps-call names P keeps inbox (entry.client == client) entry.call (posts_of_entry entry) other (begins inbox h))
    ])

-- What each step keeps, a history keeps.
pub keeps-history : (names : List (List ℕ)) (P Q : Inbox → Type 0) → Keeps names P → ((inbox : Inbox) → Q inbox → P inbox) → ((inbox : Inbox) → P inbox → Q (over inbox)) →
    ((inbox : Inbox) → Q inbox → Q (over (fetched_now inbox))) → (client : ℕ) (inbox : Inbox) (history : History) → Q inbox → Q (fold (with_entry names client) inbox history)
keeps-history names P Q keeps begins ends fetched client inbox [] h = h
keeps-history names P Q keeps begins ends fetched client inbox (entry ∷ history) h =
    keeps-history names P Q keeps begins ends fetched client (with_entry names client inbox entry) history (keeps-entry names P Q keeps begins ends fetched client inbox entry h)

-- how many entries there were
pub entries-inbox_of : (names : List (List ℕ)) (client : ℕ) (history : History) → (inbox_of names client history).entries ≡ length history
entries-inbox_of names client history = counted empty_inbox history ∙ zero-add (length history)
  where
    counted : (inbox : Inbox) (entries : History) → (fold (with_entry names client) inbox entries).entries ≡ inbox.entries + length entries
    counted inbox [] = omega arith
    counted inbox (entry ∷ entries) = omega (arith, counted (with_entry names client inbox entry) entries)

posts-catching : (names : List (List ℕ)) (number : ℕ) (inbox : Inbox) (posts : List Post) → (after_catching_up names number inbox posts).posts ≡ inbox.posts
posts-catching names number inbox [] = refl
posts-catching names number inbox (post ∷ later) = posts-catching names (suc number) _ later ∙ posts-caught names inbox number post (catches_up names inbox number post later)

pub posts-own : (names : List (List ℕ)) (inbox : Inbox) (own : Bool) (call : Call) → (if own then with_own names inbox call else inbox).posts ≡ inbox.posts
posts-own names inbox false call = refl
posts-own names inbox true (Register regs) = posts-catching names 0 (record inbox { lives = fold (with_reg inbox.entries) inbox.lives regs }) inbox.posts
posts-own names inbox true (Unregister var source) = refl
posts-own names inbox true (Posts batch) = refl
posts-own names inbox true Fetch = refl

pub posts-posts : (names : List (List ℕ)) (inbox : Inbox) (posts : List Post) → (fold (with_post names) inbox posts).posts ≡ inbox.posts ++ posts
posts-posts names inbox [] = sym (append-nil inbox.posts)
posts-posts names inbox (post ∷ posts) = posts-posts names (with_post names inbox post) posts ∙ append_assoc inbox.posts (post ∷ []) posts

-- which posts there were
pub posts-inbox_of : (names : List (List ℕ)) (client : ℕ) (history : History) → (inbox_of names client history).posts ≡ posts_of history
posts-inbox_of names client history = posted empty_inbox history
  where
    posted : (inbox : Inbox) (entries : History) → (fold (with_entry names client) inbox entries).posts ≡ inbox.posts ++ posts_of entries
    posted inbox [] = sym (append-nil inbox.posts)
    posted inbox (entry ∷ entries) =
        posted (with_entry names client inbox entry) entries
        ∙ ap (λ before. before ++ posts_of entries) (posts-posts names _ (posts_of_entry entry) ∙ ap (λ before. before ++ posts_of_entry entry) (posts-own names inbox (entry.client == client) entry.call))
        ∙ append_assoc inbox.posts (posts_of_entry entry) (posts_of entries)
