-- How the posts of a history and what is mailed grow with it.
use Rattle.std.proofs.Common.{◌≡◌, ℕ, ◌+◌, ◌<◌, ◌≤◌, Bool, true, false, nat_le, List, [], length, filter, take, drop, slice_get, Option, None, Some, All, add-one, ap, ◌∙◌, arith, subst, length-append, if◌then◌else◌}
use Rattle.std.proofs.lemmas.List.Elements.{All-map, All-weaker, All-filter}
use Rattle.std.proofs.Math.Seq.{take-append_seam}
use Rattle.moos_post.specs.declared.entry.Entry.{Entry}
use Rattle.moos_post.specs.Delivery.{Inbox, Mailing, inbox_of, mail_after, mail_at, mail_of_entry, is_fetch}
use Rattle.moos_post.specs.History.{History, posts_of, posts_of_entry}
use Rattle.moos_mail.proofs.Inboxes.{posts-inbox_of}
use Rattle.moos_mail.proofs.Living.{before-next, posts-split}
use Rattle.moos_mail.proofs.Orderly.{IsPast, settled-inbox_of}

-- The first posts are those of the first entries.
pub posts-front : (history : History) (seen : ℕ) → take (length (posts_of (take seen history))) (posts_of history) ≡ posts_of (take seen history)
posts-front history seen =
    ap (take (length (posts_of (take seen history)))) (posts-split history seen)
    ∙ take-append_seam (posts_of (take seen history)) (posts_of (drop seen history))

pub posts-take : (history : History) (n : ℕ) → length (posts_of (take n history)) ≤ length (posts_of history)
posts-take history n = omega (arith, ap length (posts-split history n), length-append (posts_of (take n history)) (posts_of (drop n history)))

pub posts-more : (history : History) (k : ℕ) {entry : Entry} → slice_get history k ≡ Some entry → length (posts_of (take (k + 1) history)) ≡ length (posts_of (take k history)) + length (posts_of_entry entry)
posts-more history k {entry = entry} there = rw add-one (before-next history k entry there)

-- Each number of a mail is that of a post.
pub mail-below : (names : List (List ℕ)) (history : History) (client : ℕ) → All (λ number. number < length (posts_of history)) (mail_after names client history)
mail-below names history client =
    let here : Inbox = inbox_of names client history in
    let past : All (IsPast here.entries (length here.posts)) here.mailed = (settled-inbox_of names client history).orderly.past in
    let waits : Mailing → Bool = λ one. nat_le here.fetched one.entry in
    subst (λ n. All (λ number. number < n) (mail_after names client history)) (ap length (posts-inbox_of names client history))
    (All-map (λ number. number < length here.posts) (λ (one : Mailing). one.number) (filter waits here.mailed)
    (All-filter waits (λ (one : Mailing). one.number < length here.posts) here.mailed
    (All-weaker (IsPast here.entries (length here.posts)) (λ one. one.number < length here.posts) (λ one is. is.number) here.mailed past)))

-- Each number that an entry gives is that of a post before it.
pub mail_at-below : (names : List (List ℕ)) (history : History) (k : ℕ) → All (λ number. number < length (posts_of (take k history))) (mail_at names history k)
mail_at-below names history k = through (slice_get history k)
  where
    given : (fetches : Bool) (client : ℕ) → All (λ number. number < length (posts_of (take k history))) (if fetches then mail_after names client (take k history) else [])
    given true client = mail-below names (take k history) client
    given false client = λ i d below. absurd (omega arith)

    through : (entry : Option Entry) → All (λ number. number < length (posts_of (take k history))) (mail_of_entry names (take k history) entry)
    through None = λ i d below. absurd (omega arith)
    through (Some entry) = given (is_fetch entry.call) entry.client
