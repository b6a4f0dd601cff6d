-- The delivery rule in sentences about the places of a history: what was mailed when, and what a fetch gives.
use Rattle.std.specs.Prelude.{◌≡◌, ◌≢◌, ℕ, zero, suc, ◌<◌, ◌≤◌, ◌⊎◌, Bool, true, false, ◌&&◌, ◌||◌, ◌==◌, not, nat_le, nat_lt, if◌then◌else◌, List, [], ◌∷◌, ◌++◌, length, map, filter, take, All, AllPairs, Option, Some, None, slice_get}
use Rattle.std.specs.List.{list_all, list_any}
use Rattle.moos_post.specs.declared.entry.Call.{Call}
use Rattle.moos_post.specs.declared.entry.Call.TheVariants.{Register, Unregister, Post as Posts, Fetch}
use Rattle.moos_post.specs.declared.entry.Entry.{Entry}
use Rattle.moos_post.specs.declared.registration.Reg.{Reg}
use Rattle.moos_post.specs.declared.value.Post.{Post}
use Rattle.moos_post.specs.Delivery.{Mailing, mail_at, mailed_to, is_fetch, selects}
use Rattle.moos_post.specs.History.{History, posts_of}

-- how many posts there are before entry k; these are the numbers below
abbrev pub posts_before : History → ℕ → ℕ
posts_before history k = length (posts_of (take k history))

-- a mailing at an entry of the history, of a post that was made at that entry or before
pub record IsMadeBy (history : History) (one : Mailing) : Type 0 where
  pub entry : one.entry < length history
  pub number : one.number < posts_before history (suc one.entry)

-- at an earlier entry, or at the same one with a lower number
abbrev pub IsBefore : Mailing → Mailing → Type 0
IsBefore one later = (one.entry < later.entry) ⊎ ((one.entry ≡ later.entry) × (one.number < later.number))

-- no post is mailed twice, each is mailed when it was made or later, and the mailings are in the order of their entries,
-- those of one entry in the order of their numbers
pub record AreOnceEach (history : History) (mailed : List Mailing) : Type 0 where
  pub once : AllPairs (λ one later. one.number ≢ later.number) mailed
  pub made : All (IsMadeBy history) mailed
  pub rising : AllPairs IsBefore mailed

-- the entry is a fetch of the client
abbrev pub is_fetch_of : ℕ → Option Entry → Bool
is_fetch_of client None = false
is_fetch_of client (Some entry) = entry.client == client && is_fetch entry.call

-- the entry behind the client's last fetch before entry k, and the first entry if it didn't fetch before
abbrev pub since : ℕ → History → ℕ → ℕ
since client history zero = 0
since client history (suc k) = if is_fetch_of client (slice_get history k) then suc k else since client history k

-- the numbers of the posts that were mailed from one entry on and before another
abbrev pub mailed_between : ℕ → ℕ → List Mailing → List ℕ
mailed_between from to mailed = map (λ one. one.number) (filter (λ one. nat_le from one.entry && nat_lt one.entry to) mailed)

-- a fetch gives all that was mailed to its client between its fetch before and itself; every other entry gives nothing
abbrev pub given_by : List (List ℕ) → History → ℕ → Option Entry → List ℕ
given_by names history k None = []
given_by names history k (Some entry) =
    if is_fetch entry.call then mailed_between (since entry.client history k) k (mailed_to names entry.client history) else []

-- what entry k gives
abbrev pub given_at : List (List ℕ) → History → ℕ → List ℕ
given_at names history k = given_by names history k (slice_get history k)

-- what the client's fetches before entry k gave, joined
abbrev pub given_before : List (List ℕ) → ℕ → History → ℕ → List ℕ
given_before names client history zero = []
given_before names client history (suc k) = given_before names client history k ++ (if is_fetch_of client (slice_get history k) then mail_at names history k else [])

-- the numbers of the posts that a history mails to the client, in the order of mailing
abbrev pub numbers_mailed : List (List ℕ) → ℕ → History → List ℕ
numbers_mailed names client history = map (λ one. one.number) (mailed_to names client history)

-- some of these registrations selects the post
abbrev pub is_selected : List (List ℕ) → List Reg → Post → Bool
is_selected names regs post = list_any (λ reg. selects names reg post) regs

-- the numbers of those of these posts that some of the registrations selects, if the first post has this number
abbrev pub numbers_selected : List (List ℕ) → List Reg → ℕ → List Post → List ℕ
numbers_selected names regs number [] = []
numbers_selected names regs number (post ∷ posts) =
    if is_selected names regs post then number ∷ numbers_selected names regs (suc number) posts else numbers_selected names regs (suc number) posts

-- the call registers or unregisters nothing
abbrev pub leaves_lives : Call → Bool
leaves_lives (Register regs) = false
leaves_lives (Unregister var source) = false
leaves_lives (Posts batch) = true
leaves_lives Fetch = true

-- the entry isn't the client's, or it registers and unregisters nothing
abbrev pub keeps_lives : ℕ → Entry → Bool
keeps_lives client entry = not (entry.client == client) || leaves_lives entry.call

-- none of these posts has a lesser stamp than one before it, and the first none below this one
abbrev pub StampsRise : ℕ → List Post → Type 0
StampsRise low [] = Unit {0}
StampsRise low (post ∷ posts) = (low ≤ post.stamp) × StampsRise post.stamp posts

-- The client registers once, before anybody posts: these registrations, none of which asks for an interval. It unregisters
-- nothing, and stamps don't fall.
pub record HearsAll (client : ℕ) (regs : List Reg) (history : History) : Type 0 where
  pub before : History
  pub stamp : ℕ
  pub later : History
  pub is : history ≡ before ++ record { stamp = stamp; client = client; call = Register regs } ∷ later
  pub first : posts_of before ≡ []
  pub once : list_all (keeps_lives client) (before ++ later) ≡ true
  pub always : All (λ reg. reg.interval ≡ 0) regs
  pub rising : StampsRise 0 (posts_of history)
