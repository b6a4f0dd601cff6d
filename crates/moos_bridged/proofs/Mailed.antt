-- What a client fetches along a history is, in order, a front of all that the history mails to it.
use Rattle.std.proofs.Common.{◌≡◌, ℕ, ◌<◌, Bool, true, false, cond, ◌==◌, nat_le, List, [], ◌∷◌, ◌++◌, append_assoc, append-nil, length, filter, All, get_or, refl, ap, sym, ◌∙◌, arith, subst, if◌then◌else◌}
use Rattle.std.specs.Prelude.{slice_get, option_map, option_to_list}
use Rattle.std.proofs.lemmas.Grind.{flat_map-append}
use Rattle.std.proofs.lemmas.List.Elements.{All-filter, All-head, All-map, All-tail}
use Rattle.std.proofs.lemmas.List.Sums.{fold-append}
use Rattle.moos_db.specs.Database.{letter_of, letters_after, letters_at}
use Rattle.moos_mail.proofs.Appending.{numbers}
use Rattle.moos_mail.proofs.Inboxes.{posts-inbox_of}
use Rattle.moos_mail.proofs.Joined.{fetched_entry, got_entry, HasGot, is_own_fetch, none_waits}
use Rattle.moos_mail.proofs.Lists.{found-below, slice_get-front}
use Rattle.moos_mail.proofs.Orderly.{settled-inbox_of}
use Rattle.moos_post.specs.declared.entry.Entry.{Entry}
use Rattle.moos_post.specs.declared.value.Post.{Post}
use Rattle.moos_post.specs.Delivery.{empty_inbox, Inbox, inbox_of, mail_after, mailed_to, Mailing, waiting, with_entry, with_own}
use Rattle.moos_post.specs.History.{History, posts_of, posts_of_entry}
use Rattle.moos_share.specs.Fetches.{fetches_in, fetches_of, letters_fetched, MailedFetch}
use Rattle.moos_bridged.specs.Fronts.{letters_mailed}
use Rattle.moos_share.specs.Bridged.{bridge_number, bridge_opening}
use Rattle.moos_share.specs.declared.rule.Rule.{Rule}
use Rattle.script_reader.specs.declared.script.Script.{Script}

-- letters of posts that are there stay when more posts come
letters_front : (posts more : List Post) (some : List ℕ) → All (λ n. n < length posts) some → letters_at posts some ≡ letters_at (posts ++ more) some
letters_front posts more [] below = refl
letters_front posts more (n ∷ some) below =
    let found = found-below posts n (All-head (λ n. n < length posts) n some below) in
    ap (λ one. option_to_list (option_map (letter_of n) one) ++ letters_at posts some) (found.1 ∙ sym (slice_get-front posts more n found.0 found.1))
    ∙ ap (λ rest. option_to_list (option_map (letter_of n) (slice_get (posts ++ more) n)) ++ rest) (letters_front posts more some (All-tail (λ n. n < length posts) n some below))

-- the numbers that wait are of posts that are there
pub waiting_there : (names : List (List ℕ)) (client : ℕ) (history : History) → All (λ n. n < length (posts_of history)) (mail_after names client history)
waiting_there names client history =
    All-map (λ n. n < length (posts_of history)) (λ (one : Mailing). one.number) (filter waits inbox.mailed)
    (All-filter waits (λ (one : Mailing). one.number < length (posts_of history)) inbox.mailed (λ i d within. subst (λ posts. (get_or inbox.mailed i d).number < length posts) (posts-inbox_of names client history) ((settled-inbox_of names client history).orderly.past i d within).number))
  where
    inbox : Inbox
    inbox = inbox_of names client history

    waits : Mailing → Bool
    waits one = nat_le inbox.fetched one.entry

-- what is fetched in a part of a history that stands behind another, where these numbers were got in that
pub record HasFetched (names : List (List ℕ)) (client : ℕ) (past later : History) (got : List ℕ) : Type 0 where
  pub more : List ℕ
  pub letters : letters_fetched (fetches_in names client past later) ≡ letters_at (posts_of (past ++ later)) more
  pub all : numbers (mailed_to names client (past ++ later)) ≡ (got ++ more) ++ mail_after names client (past ++ later)

fetched_part : (names : List (List ℕ)) (client : ℕ) (past later : History) (got : List ℕ) → HasGot got (inbox_of names client past) → HasFetched names client past later got
fetched_part names client past [] got so = record {
  more = [];
  letters = refl;
  all = subst (λ history. numbers (mailed_to names client history) ≡ (got ++ []) ++ mail_after names client history) (sym (append-nil past)) (so.all ∙ ap (λ front. front ++ mail_after names client past) (sym (append-nil got)));
}
fetched_part names client past (entry ∷ later) got so =
    by (is_own_fetch client entry) refl (fetched_part names client (past ++ entry ∷ []) later (cond (is_own_fetch client entry) (got ++ mail) got) (got_next (is_own_fetch client entry) refl))
  where
    start : History
    start = past

    next : History
    next = past ++ entry ∷ []

    mail : List ℕ
    mail = mail_after names client start

    one : MailedFetch
    one = record { stamp = entry.stamp; mail = letters_after names client start }

    got_next : (own : Bool) → is_own_fetch client entry ≡ own → HasGot (cond own (got ++ mail) got) (inbox_of names client next)
    got_next own is = subst (HasGot (cond own (got ++ mail) got)) (sym (fold-append (with_entry names client) empty_inbox start (entry ∷ []))) (got_entry names client got (inbox_of names client start) entry own is (settled-inbox_of names client start) so)

    same : next ++ later ≡ start ++ entry ∷ later
    same = append_assoc start (entry ∷ []) later

    whole : posts_of (start ++ entry ∷ later) ≡ posts_of start ++ posts_of (entry ∷ later)
    whole = flat_map-append posts_of_entry start (entry ∷ later)

    by : (own : Bool) → is_own_fetch client entry ≡ own → HasFetched names client next later (cond own (got ++ mail) got) → HasFetched names client past (entry ∷ later) got
    by true is r =
        let later_fetches : List MailedFetch = fetches_in names client next later in
        record {
          more = mail ++ r.more;
          letters =
              ap (λ b. letters_fetched (cond b (one ∷ later_fetches) later_fetches)) is
              ∙ ap (λ front. front ++ letters_fetched later_fetches) (letters_front (posts_of start) (posts_of (entry ∷ later)) mail (waiting_there names client start) ∙ ap (λ posts. letters_at posts mail) (sym whole))
              ∙ ap (λ end. letters_at (posts_of (start ++ entry ∷ later)) mail ++ end) (r.letters ∙ ap (λ history. letters_at (posts_of history) r.more) same)
              ∙ sym (flat_map-append (λ number. option_to_list (option_map (letter_of number) (slice_get (posts_of (start ++ entry ∷ later)) number))) mail r.more);
          all = subst (λ history. numbers (mailed_to names client history) ≡ (got ++ (mail ++ r.more)) ++ mail_after names client history) same
              (r.all ∙ ap (λ front. front ++ mail_after names client (next ++ later)) (append_assoc got mail r.more));
        }
    by false is r =
        let later_fetches : List MailedFetch = fetches_in names client next later in
        record {
          more = r.more;
          letters = ap (λ b. letters_fetched (cond b (one ∷ later_fetches) later_fetches)) is ∙ r.letters ∙ ap (λ history. letters_at (posts_of history) r.more) same;
          all = subst (λ history. numbers (mailed_to names client history) ≡ (got ++ r.more) ++ mail_after names client history) same r.all;
        }

-- All that a history mails to a client is what the client has fetched there, and then what waits.
pub mailed_is : (names : List (List ℕ)) (client : ℕ) (history : History) → letters_mailed names client history ≡ letters_fetched (fetches_of names client history) ++ letters_after names client history
mailed_is names client history =
    let fetched = fetched_part names client [] history [] (record { fetched = omega arith; all = refl }) in
    ap (letters_at (posts_of history)) fetched.all
    ∙ flat_map-append (λ number. option_to_list (option_map (letter_of number) (slice_get (posts_of history) number))) fetched.more (mail_after names client history)
    ∙ ap (λ front. front ++ letters_after names client history) (sym fetched.letters)

-- and nothing waits where a fetch of its own ends the history
pub mailed_all : (names : List (List ℕ)) (client : ℕ) (front : History) (entry : Entry) → is_own_fetch client entry ≡ true → mail_after names client (front ++ entry ∷ []) ≡ []
mailed_all names client front entry own =
    ap waiting (fold-append (with_entry names client) empty_inbox front (entry ∷ []) ∙ fetched_entry names client (inbox_of names client front) entry own)
    ∙ none_waits (inbox_of names client front) (settled-inbox_of names client front)

-- nor where the bridge has registered alone
pub opened_none : (names : List (List ℕ)) (first : Script) (rules : List Rule) → mail_after names (bridge_number first) (bridge_opening first rules ∷ []) ≡ []
opened_none names first rules = by (bridge_number first == bridge_number first)
  where
    by : (own : Bool) → waiting (record (if own then with_own names empty_inbox (bridge_opening first rules).call else empty_inbox) { entries = 1 }) ≡ []
    by true = refl
    by false = refl
