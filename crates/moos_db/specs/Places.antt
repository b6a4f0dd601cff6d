-- How posts are found by number, and what is known of a database's parts.
use Rattle.std.specs.Prelude.{◌≡◌, ℕ, ◌<◌, ◌^◌, Bool, true, false, List, [], map, length, Option, Some, option_and_then, slice_get, slice_index_or}
use Rattle.moos_post.specs.declared.entry.Call.{Call}
use Rattle.moos_post.specs.declared.entry.Call.TheVariants.{Register, Unregister, Post as Posts, Fetch}
use Rattle.moos_post.specs.declared.value.Post.{Post}
use Rattle.moos_post.specs.History.{History, posts_of, posts_of_entry}
use Rattle.moos_post.specs.Delivery.{Inbox, inbox_of, mail_at}
use Rattle.moos_db.specs.declared.log.PostPlace.{PostPlace}
use Rattle.moos_db.specs.Clients.{ClientState}
use Rattle.moos_db.specs.Subscriptions.{AreKeptAs, AreNoted, VariablesState}

-- the entries, and what each of them gave
pub record LogState : Type 0 where
  pub entries : History
  pub letters : List (List ℕ)

-- the post that is at this place of an entry's batch
abbrev pub post_in : History → PostPlace → Option Post
post_in history place =
    option_and_then (λ entry. slice_get (posts_of_entry entry) place.pair) (slice_get history place.entry)

-- the place of a post: its entry, and its place in the batch of that
abbrev pub place_at : ℕ → ℕ → PostPlace
place_at entry pair = record { entry = entry; pair = pair }

-- each post of the history, by number, is at the place that is kept for it, and there are letters for each entry
pub record IsLog (entries : History) (letters : List (List ℕ)) (places : List PostPlace) : Type 0 where
  pub each : length letters ≡ length entries
  pub placed : map (post_in entries) places ≡ map (λ post. Some post) (posts_of entries)

-- the call posts
abbrev pub makes_posts : Call → Bool
makes_posts (Register regs) = false
makes_posts (Unregister var source) = false
makes_posts (Posts batch) = true
makes_posts Fetch = false

-- the clients' inboxes after this history
abbrev pub inboxes_after : List (List ℕ) → History → ℕ → Inbox
inboxes_after names history client = inbox_of names client history

-- the clients, who hears the variables and the variables noted of posts are what this history says
pub record AreKept (names : List (List ℕ)) (history : History) (variables : VariablesState) (clients : List ClientState) : Type 0 where
  pub few : length names < 2 ^ 32
  pub each : length clients ≡ length names
  pub kept : AreKeptAs (inboxes_after names history) (posts_of history) variables clients
  pub noted : AreNoted (map (λ post. post.var) (posts_of history)) variables

-- all is kept as `AreKept` says, and each entry's letters are its mail
pub record IsDb (names : List (List ℕ)) (journal : LogState) (variables : VariablesState) (clients : List ClientState) : Type 0 where
  pub kept : AreKept names journal.entries variables clients
  pub lettered : length journal.letters ≡ length journal.entries
  pub given : (k : ℕ) → k < length journal.entries → slice_index_or journal.letters k [] ≡ mail_at names journal.entries k
