-- What is always so of an inbox: its fetches and its mailings lie in the past, each mailed number is that of a post, and
-- no number was mailed twice.
use Rattle.std.proofs.Common.{◌≡◌, ◌≢◌, ℕ, suc, ◌<◌, ◌≤◌, true, false, ◌==◌, List, [], ◌∷◌, ◌++◌, length, fold, get_or, All, AllPairs, arith, if◌then◌else◌}
use Rattle.std.proofs.lemmas.Bool.{both_ways, eq-eqb}
use Rattle.std.proofs.lemmas.List.Elements.{All-push, All-weaker}
use Rattle.std.proofs.lemmas.List.Quantifiers.{all_pairs_push}
use Rattle.std.specs.List.{list_any}
use Rattle.moos_post.specs.declared.entry.Entry.{Entry}
use Rattle.moos_post.specs.declared.value.Post.{Post}
use Rattle.moos_post.specs.Delivery.{Mailing, Inbox, with_post, with_caught_up, with_entry, mailing, empty_inbox, inbox_of, is_due, was_mailed, Live}
use Rattle.moos_post.specs.History.{History}
use Rattle.moos_mail.proofs.Inboxes.{Keeps, fetched_now, over, keeps-entry}
use Rattle.moos_mail.proofs.Lists.{length-push, none-at}

-- the mailing was at this entry or before, and its number is below this one
pub record IsPast (last count : ℕ) (one : Mailing) : Type 0 where
  pub entry : one.entry ≤ last
  pub number : one.number < count

pub record IsOrderly (inbox : Inbox) : Type 0 where
  pub fetched : inbox.fetched ≤ inbox.entries
  pub past : All (IsPast inbox.entries (length inbox.posts)) inbox.mailed
  pub once : AllPairs (λ one later. one.number ≢ later.number) inbox.mailed

pub past-later : (entry entry' number number' : ℕ) (mailed : List Mailing) → entry ≤ entry' → number ≤ number' → All (IsPast entry number) mailed → All (IsPast entry' number') mailed
past-later entry entry' number number' mailed before below past =
    All-weaker (IsPast entry number) (IsPast entry' number') (λ one is. record { entry = omega (arith, is.entry); number = omega (arith, is.number) }) mailed past

-- a new number is mailed at the entry where the inbox stands
orderly-mailed : (inbox : Inbox) (number : ℕ) → number < length inbox.posts → ((k : ℕ) (d : Mailing) → k < length inbox.mailed → (get_or inbox.mailed k d).number ≢ number) → IsOrderly inbox →
    IsOrderly (record inbox { mailed = inbox.mailed ++ mailing number inbox.entries ∷ [] })
orderly-mailed inbox number below new orderly =
    record {
      fetched = orderly.fetched;
      past = All-push (IsPast inbox.entries (length inbox.posts)) inbox.mailed (mailing number inbox.entries) orderly.past (record { entry = omega arith; number = below });
      once = all_pairs_push (λ (one later : Mailing). one.number ≢ later.number) inbox.mailed (mailing number inbox.entries) orderly.once new;
    }

-- one post more, before it is looked at
orderly-more : (inbox : Inbox) (post : Post) → IsOrderly inbox → IsOrderly (record inbox { posts = inbox.posts ++ post ∷ [] })
orderly-more inbox post orderly =
    record {
      fetched = orderly.fetched;
      past = past-later inbox.entries inbox.entries (length inbox.posts) _ inbox.mailed (omega arith) (omega (arith, length-push inbox.posts post)) orderly.past;
      once = orderly.once;
    }

orderly-lives : (inbox : Inbox) (lives : List Live) → IsOrderly inbox → IsOrderly (record inbox { lives = lives })
orderly-lives inbox lives orderly = record { fetched = orderly.fetched; past = orderly.past; once = orderly.once }

orderly-with_post : (names : List (List ℕ)) (inbox : Inbox) (post : Post) → IsOrderly inbox → IsOrderly (with_post names inbox post)
orderly-with_post names inbox post orderly =
    let more : Inbox = record inbox { posts = inbox.posts ++ post ∷ [] } in
    let old : IsOrderly more = orderly-more inbox post orderly in
    let due : IsOrderly (record more { mailed = inbox.mailed ++ mailing (length inbox.posts) inbox.entries ∷ [] })
    = orderly-mailed more (length inbox.posts) (omega (arith, length-push inbox.posts post)) (λ k d within. omega (arith, (orderly.past k d within).number)) old in
    elim (list_any (is_due names post) inbox.lives) as
    (λ b. IsOrderly (record (with_post names inbox post) { mailed = if b then inbox.mailed ++ mailing (length inbox.posts) inbox.entries ∷ [] else inbox.mailed })) [
      | true ↦ orderly-lives _ (with_post names inbox post).lives due
      | false ↦ orderly-lives _ (with_post names inbox post).lives old
    ]

orderly-caught : (names : List (List ℕ)) (inbox : Inbox) (number : ℕ) (post : Post) → number < length inbox.posts → was_mailed number inbox.mailed ≡ false → IsOrderly inbox → IsOrderly (with_caught_up names inbox number post)
orderly-caught names inbox number post below new orderly =
    orderly-lives _ (with_caught_up names inbox number post).lives
    (orderly-mailed inbox number below (λ k d within same. both_ways _ (none-at (λ one. one.number == number) inbox.mailed k d new within) (eq-eqb _ _ same)) orderly)

pub orderly-keeps : (names : List (List ℕ)) → Keeps names IsOrderly
orderly-keeps names = record { posted = orderly-with_post names; caught = orderly-caught names; relived = orderly-lives }

orderly-over : (inbox : Inbox) → IsOrderly inbox → IsOrderly (over inbox)
orderly-over inbox orderly =
    record {
      fetched = omega (arith, orderly.fetched);
      past = past-later inbox.entries (suc inbox.entries) (length inbox.posts) (length inbox.posts) inbox.mailed (omega arith) (omega arith) orderly.past;
      once = orderly.once;
    }

orderly-fetched : (inbox : Inbox) → IsOrderly inbox → IsOrderly (over (fetched_now inbox))
orderly-fetched inbox orderly =
    let later : IsOrderly (over inbox) = orderly-over inbox orderly in
    record { fetched = omega arith; past = later.past; once = later.once }

-- between entries every mailing lies before the next one
pub record IsSettled (inbox : Inbox) : Type 0 where
  pub orderly : IsOrderly inbox
  pub done : All (λ one. one.entry < inbox.entries) inbox.mailed

settled-over : (inbox : Inbox) → IsOrderly inbox → IsSettled (over inbox)
settled-over inbox orderly =
    record {
      orderly = orderly-over inbox orderly;
      done = All-weaker (IsPast inbox.entries (length inbox.posts)) (λ one. one.entry < suc inbox.entries) (λ one is. omega (arith, is.entry)) inbox.mailed orderly.past;
    }

pub settled-entry : (names : List (List ℕ)) (client : ℕ) (inbox : Inbox) (entry : Entry) → IsSettled inbox → IsSettled (with_entry names client inbox entry)
settled-entry names =
    keeps-entry names IsOrderly IsSettled (orderly-keeps names) (λ inbox settled. settled.orderly) settled-over
    (λ inbox settled. record { orderly = orderly-fetched inbox settled.orderly; done = (settled-over inbox settled.orderly).done })

pub settled-empty : IsSettled empty_inbox
settled-empty =
    record {
      orderly = record {
        fetched = omega arith;
        past = λ k d within. absurd (omega (arith, within));
        once = λ i j d below within. absurd (omega (arith, within));
      };
      done = λ k d within. absurd (omega (arith, within));
    }

-- Every inbox of the delivery rule is so.
pub settled-inbox_of : (names : List (List ℕ)) (client : ℕ) (history : History) → IsSettled (inbox_of names client history)
settled-inbox_of names client history = settled empty_inbox history settled-empty
  where
    settled : (inbox : Inbox) (entries : History) → IsSettled inbox → IsSettled (fold (with_entry names client) inbox entries)
    settled inbox [] h = h
    settled inbox (entry ∷ entries) h = settled (with_entry names client inbox entry) entries (settled-entry names client inbox entry h)
