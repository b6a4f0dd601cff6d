-- The delivery rule: which posts of a history are mailed to a client, and what each of its fetches gives.
-- The rule is told entry by entry: what one client has after some entries, and what one more entry changes.
use Rattle.std.specs.Prelude.{ℕ, suc, ◌+◌, Bool, true, false, ◌&&◌, ◌==◌, not, nat_le, if◌then◌else◌, List, [], ◌∷◌, ◌++◌, length, map, filter, fold, take, Option, Some, None, bytes_eq, slice_get}
use Rattle.std.specs.List.{list_any}
use Rattle.moos_post.specs.declared.entry.Call.{Call}
use Rattle.moos_post.specs.declared.entry.Call.TheVariants.{Register, Unregister, Post as Posts, Fetch}
use Rattle.moos_post.specs.declared.entry.Entry.{Entry}
use Rattle.moos_post.specs.declared.registration.Reg.{Reg}
use Rattle.moos_post.specs.declared.value.Post.{Post}
use Rattle.moos_post.specs.History.{History, posts_of_entry, name_of}
use Rattle.moos_post.specs.Patterns.{matches}

-- a registration selects a post whose variable and whose source's name match its patterns
abbrev pub selects : List (List ℕ) → Reg → Post → Bool
selects names reg post = matches reg.var post.var && matches reg.source (name_of names post.source)

-- a live registration of the client: what it asks for, the entry that made it, and the posts that came through it since
pub record Live : Type 0 where
  pub reg : Reg
  pub made : ℕ
  pub came : List Post

-- a post that was mailed: its number, and the entry at which it was mailed
pub record Mailing : Type 0 where
  pub number : ℕ
  pub entry : ℕ

-- What a client has after some entries: how many of these there are up to and with its last fetch, and how many in all; all
-- posts; its live registrations, in the order in which they were made; and all mailings to it, in their order.
pub record Inbox : Type 0 where
  pub fetched : ℕ
  pub entries : ℕ
  pub posts : List Post
  pub lives : List Live
  pub mailed : List Mailing

-- before the first entry
abbrev pub empty_inbox : Inbox
empty_inbox = record { fetched = 0; entries = 0; posts = []; lives = []; mailed = [] }

-- the last stamp of the variable after one more post
abbrev pub newer_stamp : List ℕ → Option ℕ → Post → Option ℕ
newer_stamp var last post = if bytes_eq post.var var then Some post.stamp else last

-- the stamp of the last of these posts that is of the variable, if one is
abbrev pub last_stamp : List ℕ → List Post → Option ℕ
last_stamp var posts = fold (newer_stamp var) None posts

-- the interval has passed since the last stamp, or there is none
abbrev pub is_past : Option ℕ → ℕ → ℕ → Bool
is_past None stamp interval = true
is_past (Some last) stamp interval = nat_le (last + interval) stamp

-- A post is due at a live registration that selects it, if no post of its variable came through before, or if
-- the last one that did is at least the interval older.
abbrev pub is_due : List (List ℕ) → Post → Live → Bool
is_due names post live = selects names live.reg post && is_past (last_stamp post.var live.came) post.stamp live.reg.interval

-- the registration after a post that came through it
abbrev pub with_came : Post → Live → Live
with_came post live = record live { came = live.came ++ post ∷ [] }

-- the post with this number, mailed at this entry
abbrev pub mailing : ℕ → ℕ → Mailing
mailing number entry = record { number = number; entry = entry }

-- A post is mailed once if it is due at some live registration, and comes through each at which it is due.
abbrev pub with_post : List (List ℕ) → Inbox → Post → Inbox
with_post names inbox post = record inbox {
  posts = inbox.posts ++ post ∷ [];
  lives = map (λ live. if is_due names post live then with_came post live else live) inbox.lives;
  mailed = if list_any (is_due names post) inbox.lives then inbox.mailed ++ mailing (length inbox.posts) inbox.entries ∷ [] else inbox.mailed;
}

-- the registrations without each that has both these patterns
abbrev pub without_patterns : List ℕ → List ℕ → List Live → List Live
without_patterns var source lives = filter (λ live. not (bytes_eq live.reg.var var && bytes_eq live.reg.source source)) lives

-- Registering withdraws a live registration with the same patterns, and the new one starts with nothing come through.
abbrev pub with_reg : ℕ → List Live → Reg → List Live
with_reg entry lives reg = without_patterns reg.var reg.source lives ++ record { reg = reg; made = entry; came = [] } ∷ []

-- the registration was made at this entry and selects the post
abbrev pub is_new_for : List (List ℕ) → ℕ → Post → Live → Bool
is_new_for names entry post live = live.made == entry && selects names live.reg post

-- no later post is of the same variable
abbrev pub is_latest : Post → List Post → Bool
is_latest post later = not (list_any (λ other. bytes_eq other.var post.var) later)

-- the post with this number was mailed at some entry
abbrev pub was_mailed : ℕ → List Mailing → Bool
was_mailed number mailed = list_any (λ one. one.number == number) mailed

-- a variable's latest post catches up if a registration made at this entry selects it and it was never mailed
abbrev pub catches_up : List (List ℕ) → Inbox → ℕ → Post → List Post → Bool
catches_up names inbox number post later =
    is_latest post later && list_any (is_new_for names inbox.entries post) inbox.lives && not (was_mailed number inbox.mailed)

-- the client after a post that catches up: it is mailed, and comes through each registration made at this entry that selects it
abbrev pub with_caught_up : List (List ℕ) → Inbox → ℕ → Post → Inbox
with_caught_up names inbox number post = record inbox {
  lives = map (λ live. if is_new_for names inbox.entries post live then with_came post live else live) inbox.lives;
  mailed = inbox.mailed ++ mailing number inbox.entries ∷ [];
}

-- the posts from this number on, in rising order, each of which may catch up
abbrev pub after_catching_up : List (List ℕ) → ℕ → Inbox → List Post → Inbox
after_catching_up names number inbox [] = inbox
after_catching_up names number inbox (post ∷ later) =
    after_catching_up names (suc number) (if catches_up names inbox number post later then with_caught_up names inbox number post else inbox) later

-- a Register entry of the client: its registrations in order, and then the posts that catch up
abbrev pub with_regs : List (List ℕ) → Inbox → List Reg → Inbox
with_regs names inbox regs = after_catching_up names 0 (record inbox { lives = fold (with_reg inbox.entries) inbox.lives regs }) inbox.posts

-- what the client's own entries change beside the posts
abbrev pub with_own : List (List ℕ) → Inbox → Call → Inbox
with_own names inbox (Register regs) = with_regs names inbox regs
with_own names inbox (Unregister var source) = record inbox { lives = without_patterns var source inbox.lives }
with_own names inbox (Posts batch) = inbox
with_own names inbox Fetch = record inbox { fetched = suc inbox.entries }

-- the client after one more entry: its own registrations count, and posts from everybody
abbrev pub with_entry : List (List ℕ) → ℕ → Inbox → Entry → Inbox
with_entry names client inbox entry =
    let posted = fold (with_post names) (if entry.client == client then with_own names inbox entry.call else inbox) (posts_of_entry entry)
    in record posted { entries = suc inbox.entries }

-- what the client has after a history
abbrev pub inbox_of : List (List ℕ) → ℕ → History → Inbox
inbox_of names client history = fold (with_entry names client) empty_inbox history

-- all that a history mails to the client, in the order of mailing
abbrev pub mailed_to : List (List ℕ) → ℕ → History → List Mailing
mailed_to names client history = (inbox_of names client history).mailed

-- the call is a fetch
abbrev pub is_fetch : Call → Bool
is_fetch (Register regs) = false
is_fetch (Unregister var source) = false
is_fetch (Posts batch) = false
is_fetch Fetch = true

-- the numbers of the posts that were mailed since the client's fetch before
abbrev pub waiting : Inbox → List ℕ
waiting inbox = map (λ one. one.number) (filter (λ one. nat_le inbox.fetched one.entry) inbox.mailed)

-- what a fetch of the client gives after a history
abbrev pub mail_after : List (List ℕ) → ℕ → History → List ℕ
mail_after names client history = waiting (inbox_of names client history)

-- what an entry gives after a history: a fetch its client's mail, and every other entry nothing
abbrev pub mail_of_entry : List (List ℕ) → History → Option Entry → List ℕ
mail_of_entry names history None = []
mail_of_entry names history (Some entry) = if is_fetch entry.call then mail_after names entry.client history else []

-- the mail of entry k of a history
abbrev pub mail_at : List (List ℕ) → History → ℕ → List ℕ
mail_at names history k = mail_of_entry names (take k history) (slice_get history k)
