-- What is mailed along a history: the list only grows, each number stands in it once, and a fetch gives its part of it.
use Rattle.std.proofs.Common.{◌≡◌, ℕ, zero, suc, ◌<◌, ◌≤◌, ◌⊎◌, inl, inr, Bool, true, false, ◌==◌, ◌&&◌, nat_le, nat_lt, List, [], ◌∷◌, ◌++◌, append_assoc, append-nil, length, map, filter, take, drop, fold, get_or, slice_get, Option, Some, None, All, refl, ap, sym, ◌∙◌, arith, subst, if◌then◌else◌}
use Rattle.std.proofs.Math.Bool.{and-true}
use Rattle.std.proofs.lemmas.Bool.{cases_Bool, lt-ltb, le-ltb, and_right}
use Rattle.std.proofs.lemmas.List.{take-append-drop, length-take-le}
use Rattle.std.proofs.lemmas.List.Elements.{All-push, All-append, All-weaker, filter-append}
use Rattle.std.proofs.lemmas.Option.{slice_get_within}
use Rattle.std.proofs.lemmas.List.Sums.{fold-append}
use Rattle.std.specs.List.{list_any}
use Rattle.moos_post.specs.declared.entry.Entry.{Entry}
use Rattle.moos_post.specs.declared.value.Post.{Post}
use Rattle.moos_post.specs.Delivery.{Mailing, Inbox, with_post, with_entry, mailing, empty_inbox, inbox_of, is_due, is_fetch, mailed_to, mail_after, mail_at, mail_of_entry}
use Rattle.moos_post.specs.History.{History, posts_of_entry}
use Rattle.moos_mail.specs.Sentences.{posts_before, AreOnceEach, is_fetch_of, since, mailed_between, given_by, given_at}
use Rattle.moos_mail.proofs.Inboxes.{Keeps, fetch-call, keeps-call, keeps-history, entries-inbox_of, posts-inbox_of}
use Rattle.moos_mail.proofs.Lists.{take-next, found-below, filter-alike, filter-none}
use Rattle.moos_mail.proofs.Orderly.{IsSettled, settled-inbox_of}
use Rattle.moos_mail.proofs.Rising.{rising-mailed}

-- more was mailed, all of it at this entry or later
pub record Grown (from : ℕ) (before after : List Mailing) : Type 0 where
  pub more : List Mailing
  pub is : after ≡ before ++ more
  pub late : All (λ one. from ≤ one.entry) more

-- an inbox that stands at this entry or later, to which more was mailed
pub record IsGrown (from : ℕ) (before : List Mailing) (inbox : Inbox) : Type 0 where
  pub at : from ≤ inbox.entries
  pub grown : Grown from before inbox.mailed

grown-mailed : (from : ℕ) (before : List Mailing) (inbox : Inbox) (number : ℕ) → IsGrown from before inbox → Grown from before (inbox.mailed ++ mailing number inbox.entries ∷ [])
grown-mailed from before inbox number grown =
    record {
      more = grown.grown.more ++ mailing number inbox.entries ∷ [];
      is = ap (λ mailed. mailed ++ mailing number inbox.entries ∷ []) grown.grown.is ∙ append_assoc before grown.grown.more _;
      late = All-push (λ one. from ≤ one.entry) grown.grown.more (mailing number inbox.entries) grown.grown.late grown.at;
    }

grown-with_post : (names : List (List ℕ)) (from : ℕ) (before : List Mailing) (inbox : Inbox) (post : Post) → IsGrown from before inbox → IsGrown from before (with_post names inbox post)
grown-with_post names from before inbox post grown =
    record {
      at = grown.at;
      grown = elim (list_any (is_due names post) inbox.lives) as
          (λ b. Grown from before (if b then inbox.mailed ++ mailing (length inbox.posts) inbox.entries ∷ [] else inbox.mailed)) [
            | true ↦ grown-mailed from before inbox (length inbox.posts) grown
            | false ↦ grown.grown
          ];
    }

grown-keeps : (names : List (List ℕ)) (from : ℕ) (before : List Mailing) → Keeps names (IsGrown from before)
grown-keeps names from before =
    record {
      posted = grown-with_post names from before;
      caught = λ inbox number post below new grown. record { at = grown.at; grown = grown-mailed from before inbox number grown };
      relived = λ inbox lives grown. record { at = grown.at; grown = grown.grown };
    }

-- what entries mail is mailed at them
grown-entries : (names : List (List ℕ)) (client : ℕ) (inbox : Inbox) (entries : History) → Grown inbox.entries inbox.mailed (fold (with_entry names client) inbox entries).mailed
grown-entries names client inbox entries =
    (keeps-history names (IsGrown inbox.entries inbox.mailed) (IsGrown inbox.entries inbox.mailed) (grown-keeps names inbox.entries inbox.mailed) (λ one h. h)
    (λ one h. record { at = omega (arith, h.at); grown = h.grown }) (λ one h. record { at = omega (arith, h.at); grown = h.grown }) client inbox entries
    (record { at = omega arith; grown = record { more = []; is = sym (append-nil inbox.mailed); late = λ k d within. absurd (omega (arith, within)) } })).grown

-- What a whole history mails begins with what a front of it mails, and the rest is mailed behind that.
pub mailed-front : (names : List (List ℕ)) (client : ℕ) (history : History) (k : ℕ) → k ≤ length history → Grown k (mailed_to names client (take k history)) (mailed_to names client history)
mailed-front names client history k within =
    let front : Inbox = inbox_of names client (take k history) in
    let at : front.entries ≡ k = entries-inbox_of names client (take k history) ∙ length-take-le k history within in
    let whole : fold (with_entry names client) front (drop k history) ≡ inbox_of names client history
    = sym (fold-append (with_entry names client) empty_inbox (take k history) (drop k history)) ∙ ap (inbox_of names client) (take-append-drop k history) in
    subst (λ (inbox : Inbox). Grown k front.mailed inbox.mailed) whole
    (subst (λ n. Grown n front.mailed (fold (with_entry names client) front (drop k history)).mailed) at (grown-entries names client front (drop k history)))

-- what is mailed before entry k
pub mailed-past : (names : List (List ℕ)) (client : ℕ) (history : History) (k : ℕ) → k ≤ length history →
    All (λ one. (one.entry < k) × (one.number < posts_before history k)) (mailed_to names client (take k history))
mailed-past names client history k within i d below =
    let front : Inbox = inbox_of names client (take k history) in
    let settled : IsSettled front = settled-inbox_of names client (take k history) in
    let at : front.entries ≡ k = entries-inbox_of names client (take k history) ∙ length-take-le k history within in (
      subst (λ n. (get_or front.mailed i d).entry < n) at (settled.done i d below),
      subst (λ posts. (get_or front.mailed i d).number < length posts) (posts-inbox_of names client (take k history)) (settled.orderly.past i d below).number,
    )

abbrev IsEither : History → ℕ → Mailing → Type 0
IsEither history k one = (k ≤ one.entry) ⊎ (one.number < posts_before history k)

-- a mailing lies behind entry k, or it is of a post before it
either-side : (names : List (List ℕ)) (client : ℕ) (history : History) (k : ℕ) → k ≤ length history → All (IsEither history k) (mailed_to names client history)
either-side names client history k within =
    let grown : Grown k (mailed_to names client (take k history)) (mailed_to names client history) = mailed-front names client history k within in
    subst (All (IsEither history k)) (sym grown.is)
    (All-append (IsEither history k) (mailed_to names client (take k history)) grown.more
    (All-weaker (λ (one : Mailing). (one.entry < k) × (one.number < posts_before history k)) (IsEither history k) (λ one is. inr is.1) _ (mailed-past names client history k within)) (All-weaker (λ (one : Mailing). k ≤ one.entry) (IsEither history k) (λ one late. inl late) _ grown.late))

-- Each number once, when its post was made or later, in the order of the entries.
pub once-each : (names : List (List ℕ)) (client : ℕ) (history : History) → AreOnceEach history (mailed_to names client history)
once-each names client history =
    let settled : IsSettled (inbox_of names client history) = settled-inbox_of names client history in
    record {
      once = settled.orderly.once;
      made = λ i d below.
          let one : Mailing = get_or (mailed_to names client history) i d in
          let before : one.entry < length history = subst (λ n. one.entry < n) (entries-inbox_of names client history) (settled.done i d below) in
          record {
            entry = before;
            number = elim (either-side names client history (suc one.entry) (omega (arith, before)) i d below) [
              | inl late ↦ absurd (omega (arith, late))
              | inr made ↦ made
            ];
          };
      rising = rising-mailed names client history;
    }

-- the inbox behind entry k
pub inbox-next : (names : List (List ℕ)) (client : ℕ) (history : History) (k : ℕ) (entry : Entry) → slice_get history k ≡ Some entry →
    inbox_of names client (take (suc k) history) ≡ with_entry names client (inbox_of names client (take k history)) entry
inbox-next names client history k entry there =
    ap (inbox_of names client) (take-next history k entry there) ∙ fold-append (with_entry names client) empty_inbox (take k history) (entry ∷ [])

-- up to where a client's fetches have come after one entry more
fetched-entry : (names : List (List ℕ)) (client : ℕ) (inbox : Inbox) (entry : Entry) →
    (with_entry names client inbox entry).fetched ≡ (if is_fetch_of client (Some entry) then suc inbox.entries else inbox.fetched)
fetched-entry names client inbox entry =
    elim (cases_Bool ((entry.client == client) && is_fetch entry.call)) [
      | inl fetch ↦ rw fetch (ap (λ (one : Inbox). one.fetched) (fetch-call names inbox (entry.client == client) entry.stamp entry.client entry.call fetch))
      | inr other ↦ rw other (keeps-call names (λ one. one.fetched ≡ inbox.fetched) (record { posted = λ one post h. h; caught = λ one number post below new h. h; relived = λ one lives h. h })
          inbox (entry.client == client) entry.call (posts_of_entry entry) other refl)
    ]

fetched-since : (names : List (List ℕ)) (client : ℕ) (history : History) (k : ℕ) → k ≤ length history → (inbox_of names client (take k history)).fetched ≡ since client history k
fetched-since names client history zero within = refl
fetched-since names client history (suc k) within =
    let front : Inbox = inbox_of names client (take k history) in
    let found : (entry : Entry) × (slice_get history k ≡ Some entry) = found-below history k (omega arith) in
    let at : front.entries ≡ k = entries-inbox_of names client (take k history) ∙ length-take-le k history (omega arith) in
    ap (λ (inbox : Inbox). inbox.fetched) (inbox-next names client history k found.0 found.1)
    ∙ fetched-entry names client front found.0
    ∙ ap (λ n. if is_fetch_of client (Some found.0) then suc n else front.fetched) at
    ∙ ap (λ n. if is_fetch_of client (Some found.0) then suc k else n) (fetched-since names client history k (omega arith))
    ∙ ap (λ one. if is_fetch_of client one then suc k else since client history k) (sym found.1)

-- which mailings lie between
between-past : (from to : ℕ) (mailed : List Mailing) → All (λ one. one.entry < to) mailed → filter (λ one. nat_le from one.entry && nat_lt one.entry to) mailed ≡ filter (λ one. nat_le from one.entry) mailed
between-past from to mailed past = filter-alike _ _ mailed (All-weaker (λ (one : Mailing). one.entry < to) (λ one. (nat_le from one.entry && nat_lt one.entry to) ≡ nat_le from one.entry) (λ one below. rw (lt-ltb one.entry to below) (and-true (nat_le from one.entry))) mailed past)

between-late : (from to : ℕ) (mailed : List Mailing) → All (λ one. to ≤ one.entry) mailed → filter (λ one. nat_le from one.entry && nat_lt one.entry to) mailed ≡ []
between-late from to mailed late = filter-none _ mailed (All-weaker (λ (one : Mailing). to ≤ one.entry) (λ one. (nat_le from one.entry && nat_lt one.entry to) ≡ false) (λ one after. and_right (nat_le from one.entry) _ (le-ltb one.entry to after)) mailed late)

-- What a client's fetch at entry k would give is what was mailed since its fetch before.
waiting-between : (names : List (List ℕ)) (client : ℕ) (history : History) (k : ℕ) → k ≤ length history →
    mail_after names client (take k history) ≡ mailed_between (since client history k) k (mailed_to names client history)
waiting-between names client history k within =
    let front : Inbox = inbox_of names client (take k history) in
    let grown : Grown k front.mailed (mailed_to names client history) = mailed-front names client history k within in
    let from : ℕ = since client history k in
    let between : Mailing → Bool = λ one. nat_le from one.entry && nat_lt one.entry k in
    ap (λ n. map (λ (one : Mailing). one.number) (filter (λ one. nat_le n one.entry) front.mailed)) (fetched-since names client history k within)
    ∙ ap (map (λ (one : Mailing). one.number))
    (sym (between-past from k front.mailed (All-weaker (λ (one : Mailing). (one.entry < k) × (one.number < posts_before history k)) (λ one. one.entry < k) (λ one is. is.0) _ (mailed-past names client history k within)))
    ∙ sym (append-nil (filter between front.mailed))
    ∙ ap (λ rest. filter between front.mailed ++ rest) (sym (between-late from k grown.more grown.late))
    ∙ sym (filter-append between front.mailed grown.more)
    ∙ ap (filter between) (sym grown.is))

-- Each entry gives what was mailed since the fetch before.
pub given : (names : List (List ℕ)) (history : History) (k : ℕ) → mail_at names history k ≡ given_at names history k
given names history k = through (slice_get history k) refl
  where
    through : (found : Option Entry) → slice_get history k ≡ found → mail_of_entry names (take k history) found ≡ given_by names history k found
    through None is = refl
    through (Some entry) is =
        ap (λ numbers. if is_fetch entry.call then numbers else []) (waiting-between names entry.client history k (let below = slice_get_within history k entry is in omega (arith, below)))
