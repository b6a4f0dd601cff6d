-- What a client fetches along a history, joined, is in order a front of all that the history mails to it, and the rest waits.
use Rattle.std.proofs.Common.{◌≡◌, ℕ, zero, suc, ◌<◌, ◌≤◌, Bool, true, false, cond, ◌==◌, ◌&&◌, nat_le, List, [], ◌∷◌, ◌++◌, append_assoc, append-nil, length, map, filter, take, slice_get, Some, refl, ap, sym, ◌∙◌, arith, subst, if◌then◌else◌}
use Rattle.std.specs.List.{list_any}
use Rattle.std.proofs.lemmas.Bool.{and_parts, eqb-true}
use Rattle.std.proofs.lemmas.Bool.Decides.{nat_tests}
use Rattle.std.proofs.lemmas.List.{map-append}
use Rattle.std.proofs.lemmas.List.Elements.{All-weaker}
use Rattle.moos_post.specs.declared.entry.Entry.{Entry}
use Rattle.moos_post.specs.Delivery.{Inbox, inbox_of, is_due, is_fetch, mail_after, mail_of_entry, Mailing, mailing, waiting, with_entry}
use Rattle.moos_post.specs.History.{History, posts_of_entry}
use Rattle.moos_mail.specs.Sentences.{given_before, is_fetch_of, numbers_mailed}
use Rattle.moos_mail.proofs.Appending.{numbers, waits-more}
use Rattle.moos_mail.proofs.Inboxes.{fetch-call, fetched_now, Keeps, keeps-call, over, with_entry-ended}
use Rattle.moos_mail.proofs.Lists.{filter-none, found-below}
use Rattle.moos_mail.proofs.Mailed.{inbox-next}
use Rattle.moos_mail.proofs.Orderly.{IsSettled, settled-inbox_of}

-- the client got these numbers by its fetches so far, and the rest of what was mailed waits
pub record HasGot (got : List ℕ) (inbox : Inbox) : Type 0 where
  pub fetched : inbox.fetched ≤ inbox.entries
  pub all : numbers inbox.mailed ≡ got ++ waiting inbox

-- one more that was mailed waits
got_mailed : (got : List ℕ) (inbox : Inbox) (number : ℕ) → HasGot got inbox → numbers (inbox.mailed ++ mailing number inbox.entries ∷ []) ≡ got ++ numbers (filter (λ one. nat_le inbox.fetched one.entry) (inbox.mailed ++ mailing number inbox.entries ∷ []))
got_mailed got inbox number so =
    map-append (λ (one : Mailing). one.number) inbox.mailed (mailing number inbox.entries ∷ []) ∙ ap (λ front. front ++ number ∷ []) so.all ∙ append_assoc got (waiting inbox) (number ∷ [])
    ∙ ap (λ more. got ++ more) (sym (waits-more inbox.fetched number inbox.entries inbox.mailed so.fetched))

got_keeps : (names : List (List ℕ)) (got : List ℕ) → Keeps names (HasGot got)
got_keeps names got = record {
  posted = λ inbox post so. record {
    fetched = so.fetched;
    all = elim (list_any (is_due names post) inbox.lives) as
        (λ b. numbers (if b then inbox.mailed ++ mailing (length inbox.posts) inbox.entries ∷ [] else inbox.mailed)
        ≡ got ++ numbers (filter (λ one. nat_le inbox.fetched one.entry) (if b then inbox.mailed ++ mailing (length inbox.posts) inbox.entries ∷ [] else inbox.mailed))) [
          | true ↦ got_mailed got inbox (length inbox.posts) so
          | false ↦ so.all
        ];
  };
  caught = λ inbox number post below new so. record { fetched = so.fetched; all = got_mailed got inbox number so };
  relived = λ inbox lives so. record { fetched = so.fetched; all = so.all };
}

-- the entry is a fetch of the client
abbrev pub is_own_fetch : ℕ → Entry → Bool
is_own_fetch client entry = entry.client == client && is_fetch entry.call

-- nothing waits behind a fetch
pub none_waits : (inbox : Inbox) → IsSettled inbox → waiting (over (fetched_now inbox)) ≡ []
none_waits inbox settled =
    ap (map (λ (one : Mailing). one.number))
    (filter-none (λ one. nat_le (suc inbox.entries) one.entry) inbox.mailed
    (All-weaker (λ (one : Mailing). one.entry < inbox.entries) (λ one. nat_le (suc inbox.entries) one.entry ≡ false) (λ one early. not_after inbox.entries one.entry early) inbox.mailed settled.done))
  where
    not_after : (entries entry : ℕ) → entry < entries → nat_le (suc entries) entry ≡ false
    not_after entries entry early = grind (arith, nat_tests)

pub fetched_entry : (names : List (List ℕ)) (client : ℕ) (inbox : Inbox) (entry : Entry) → is_own_fetch client entry ≡ true → with_entry names client inbox entry ≡ over (fetched_now inbox)
fetched_entry names client inbox entry is =
    with_entry-ended names client inbox entry ∙ ap over (fetch-call names inbox (entry.client == client) entry.stamp entry.client entry.call is)

-- what it got after one entry more
pub got_entry : (names : List (List ℕ)) (client : ℕ) (got : List ℕ) (inbox : Inbox) (entry : Entry) (own : Bool) → is_own_fetch client entry ≡ own → IsSettled inbox → HasGot got inbox
    → HasGot (cond own (got ++ waiting inbox) got) (with_entry names client inbox entry)
got_entry names client got inbox entry true is settled so =
    subst (HasGot (got ++ waiting inbox)) (sym (fetched_entry names client inbox entry is)) (record {
      fetched = omega arith;
      all = so.all ∙ sym (append-nil (got ++ waiting inbox)) ∙ ap (λ more. (got ++ waiting inbox) ++ more) (sym (none_waits inbox settled));
    })
got_entry names client got inbox entry false is settled so =
    let kept = keeps-call names (HasGot got) (got_keeps names got) inbox (entry.client == client) entry.call (posts_of_entry entry) is so in
    subst (HasGot got) (sym (with_entry-ended names client inbox entry)) (record { fetched = omega (arith, kept.fetched); all = kept.all })

-- what an entry gives, where it is a fetch of the client
own_mail : (names : List (List ℕ)) (client : ℕ) (past : History) (entry : Entry) → is_own_fetch client entry ≡ true → mail_of_entry names past (Some entry) ≡ mail_after names client past
own_mail names client past entry own =
    let parts = and_parts (entry.client == client) (is_fetch entry.call) own in
    ap (λ b. if b then mail_after names entry.client past else []) parts.1 ∙ ap (λ one. mail_after names one past) (eqb-true entry.client client parts.0)

-- what it got before entry k, and with that entry's own mail
module _ (names : List (List ℕ)) (client : ℕ) (history : History) where
  next_got : (k : ℕ) (entry : Entry) → slice_get history k ≡ Some entry → (own : Bool) → is_own_fetch client entry ≡ own
      → cond own (given_before names client history k ++ mail_after names client (take k history)) (given_before names client history k) ≡ given_before names client history (suc k)
  next_got k entry there own is =
      by own is ∙ ap (λ b. got ++ (if b then mail_of_entry names (take k history) (Some entry) else [])) (sym is)
      ∙ sym (ap (λ one. got ++ (if is_fetch_of client one then mail_of_entry names (take k history) one else [])) there)
    where
      got : List ℕ
      got = given_before names client history k

      by : (own : Bool) → is_own_fetch client entry ≡ own → cond own (got ++ mail_after names client (take k history)) got ≡ got ++ (if own then mail_of_entry names (take k history) (Some entry) else [])
      by true is = ap (λ mail. got ++ mail) (sym (own_mail names client (take k history) entry is))
      by false is = sym (append-nil got)

  got_before : (k : ℕ) → k ≤ length history → HasGot (given_before names client history k) (inbox_of names client (take k history))
  got_before zero within = record { fetched = omega arith; all = refl }
  got_before (suc k) within =
      let found : (entry : Entry) × (slice_get history k ≡ Some entry) = found-below history k (omega (arith, within)) in
      let past : History = take k history in
      let own : Bool = is_own_fetch client found.0 in
      subst (λ got. HasGot got (inbox_of names client (take (suc k) history))) (next_got k found.0 found.1 own refl)
      (subst (HasGot (cond own (given_before names client history k ++ mail_after names client past) (given_before names client history k))) (sym (inbox-next names client history k found.0 found.1))
      (got_entry names client (given_before names client history k) (inbox_of names client past) found.0 own refl (settled-inbox_of names client past) (got_before k (omega (arith, within)))))

  -- All that was mailed before entry k was given by then, or waits.
  pub joined : (k : ℕ) → k ≤ length history → given_before names client history k ++ mail_after names client (take k history) ≡ numbers_mailed names client (take k history)
  joined k within = sym (got_before k within).all
