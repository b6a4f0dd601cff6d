-- What a bridge has fetched in the first community, and what it owes the second one for it.
use Rattle.std.specs.Prelude.{◌≡◌, ℕ, ◌==◌, ◌&&◌, not, if◌then◌else◌, List, [], ◌∷◌, ◌++◌, map, Option, Some, None, IsTrue}
use Rattle.std.specs.List.{flat_map, list_all}
use Rattle.moos_client.specs.Calls.{entries_of, entry_of}
use Rattle.moos_db.specs.declared.mail.Letter.{Letter}
use Rattle.moos_db.specs.Database.{letters_after, pair_posted}
use Rattle.moos_post.specs.declared.entry.Call.TheVariants.{Fetch, Post as Posts}
use Rattle.moos_post.specs.declared.entry.Entry.{Entry}
use Rattle.moos_post.specs.declared.value.Pair.{Pair}
use Rattle.moos_post.specs.Delivery.{is_fetch}
use Rattle.moos_post.specs.History.{History, posts_of}
use Rattle.moos_share.specs.declared.fetching.Fetched.{Fetched}
use Rattle.moos_share.specs.declared.rule.Rule.{Rule}
use Rattle.moos_share.specs.Carrying.{SeatedBridge}
use Rattle.moos_share.specs.Renaming.{renamed}

-- a fetch: its stamp, and the mail that it gave
pub record MailedFetch : Type 0 where
  pub stamp : ℕ
  pub mail : List Letter

-- the fetches of a client in a part of a history that follows another part
abbrev pub fetches_in : List (List ℕ) → ℕ → History → History → List MailedFetch
fetches_in names client past [] = []
fetches_in names client past (entry ∷ later) =
    let fetches = fetches_in names client (past ++ entry ∷ []) later in
    if entry.client == client && is_fetch entry.call then record { stamp = entry.stamp; mail = letters_after names client past } ∷ fetches else fetches

-- the fetches of a client in a history, in order
abbrev pub fetches_of : List (List ℕ) → ℕ → History → List MailedFetch
fetches_of names client history = fetches_in names client [] history

-- all letters that these fetches gave, in order
abbrev pub letters_fetched : List MailedFetch → List Letter
letters_fetched fetches = flat_map (λ one. one.mail) fetches

-- the entry of a fetch
abbrev pub fetch_entry : ℕ → MailedFetch → Entry
fetch_entry client one = entry_of client one.stamp Fetch

-- the entry of the post that a bridge owes for a fetch: at its stamp, the renaming of its mail
abbrev pub post_entry : List (List ℕ) → List Rule → ℕ → MailedFetch → Entry
post_entry names rules client one = entry_of client one.stamp (Posts (renamed names rules one.mail))

-- what these entries post, without when and by whom
abbrev pub pairs_posted : List Entry → List Pair
pairs_posted entries = map pair_posted (posts_of entries)

-- the renaming of what a bridge has fetched and not posted yet
abbrev pub renamed_unposted : List Rule → Option Fetched → List Pair
renamed_unposted rules None = []
renamed_unposted rules (Some fetched) = renamed fetched.names rules fetched.mail

-- what the bridge has fetched, as its first seat has seen it, if the clients have these names
abbrev pub fetches_by : List (List ℕ) → SeatedBridge → List MailedFetch
fetches_by names one = fetches_of names one.from.number one.from.seen

-- What the bridge has posted, followed by the renaming of what it has not posted yet, is the renaming of all that it has
-- fetched; and the history that its first seat has seen has of its number just its own entries.
pub record LosesNothing (names : List (List ℕ)) (one : SeatedBridge) : Type 0 where
  pub own : entries_of one.from.number one.from.seen ≡ one.from.mine
  pub carried : pairs_posted one.to.mine ++ renamed_unposted one.bridge.rules one.bridge.unposted
      ≡ renamed names one.bridge.rules (letters_fetched (fetches_by names one))

-- A bridge that has posted all that it has fetched. Its own entries in the first community are these, to begin with, and then
-- its fetches, which have these stamps; those in the second are one post for each, at its stamp.
pub record IsUpToDate (names : List (List ℕ)) (opening : List Entry) (stamps : List ℕ) (one : SeatedBridge) : Type 0 where
  pub own : entries_of one.from.number one.from.seen ≡ one.from.mine
  pub none : one.bridge.unposted ≡ None
  pub stamps_are : map (λ fetch. fetch.stamp) (fetches_by names one) ≡ stamps
  pub fetched : one.from.mine ≡ opening ++ map (fetch_entry one.from.number) (fetches_by names one)
  pub posted : one.to.mine ≡ map (post_entry names one.bridge.rules one.to.number) (fetches_by names one)

-- A bridge before its first call: it has fetched nothing in the first community, whatever else it did there, and done nothing
-- in the second.
pub record IsAtStart (one : SeatedBridge) : Type 0 where
  pub own : entries_of one.from.number one.from.seen ≡ one.from.mine
  pub none : one.bridge.unposted ≡ None
  pub unfetched : IsTrue (list_all (λ entry. not (is_fetch entry.call)) one.from.mine)
  pub idle : one.to.mine ≡ []
