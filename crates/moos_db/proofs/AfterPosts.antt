-- What a post that comes through registrations changes of who hears the variables, and one that is mailed of what is kept of a client.
use Rattle.std.proofs.Common.{◌≡◌, ◌≢◌, ◌∙◌, ◌<◌, ◌≤◌, ◌||◌, ℕ, Bool, true, false, ◌==◌, List, [], ◌∷◌, ◌++◌, map, Option, None, Some, bytes_eq, length, set, slice_get, refl, ap, sym, subst, if◌then◌else◌, arith}
use Rattle.std.specs.List.{All, list_any}
use Rattle.std.proofs.Math.Bool.{or-true}
use Rattle.std.proofs.lemmas.Bool.{eq-eqb, false_from_ne_true, ne_eqb}
use Rattle.std.proofs.lemmas.List.Elements.{All-map, All-weaker}
use Rattle.std.proofs.lemmas.List.Folds.{list_any_none}
use Rattle.std.proofs.lemmas.Option.{same_Some, slice_get_within}
use Rattle.std.proofs.lemmas.Slice.Eq.{bytes_eq-Decides}
use Rattle.moos_post.specs.declared.value.Post.{Post}
use Rattle.moos_post.specs.Delivery.{Inbox, is_due, last_stamp, Live, Mailing, mailing, was_mailed, with_came, with_post}
use Rattle.moos_post.specs.History.{name_of}
use Rattle.moos_mail.proofs.Appending.{waits-more}
use Rattle.moos_mail.proofs.Coming.{was-other}
use Rattle.moos_mail.proofs.Lists.{found-below, list_any-push}
use Rattle.moos_mail.proofs.Orderly.{IsOrderly, IsPast}
use Rattle.moos_db.specs.Clients.{ClientState, IsClient, registration_of}
use Rattle.moos_db.specs.Subscriptions.{AreHeard, AreKeptAs, AreKnown, HasLatest, HasRecipients, SubscriptionState, IsHeardBy, HasKnown, IsNumbering, IsPosted, VariableState, VariablesState, subscriptions_of, hears_due, mailed_if, of_client}
use Rattle.moos_db.specs.Tables.{latest_post_of, number_of, Row}
use Rattle.moos_db.proofs.Adding.{other-name}
use Rattle.moos_db.proofs.Changes.{all-at, all-set}
use Rattle.moos_db.proofs.Hearing.{any-subscriptions, AreAsOne, due-alike, subscriptions-passed, last-came, of_client-stamped, others-passed, passed, registrations-passed, stamped, stamped-client}
use Rattle.moos_db.proofs.Latests.{latest-posted}
use Rattle.moos_db.proofs.Picking.{found-is-latest}

-- who hears

-- no other variable has the name of that with this number
pub apart-name : (variables : List VariableState) (numbers : List Row) (at k : ℕ) (var : List ℕ) (other : VariableState) → IsNumbering variables numbers → number_of var numbers ≡ Some at → slice_get variables k ≡ Some other → k ≢ at → bytes_eq var other.name ≡ false
apart-name variables numbers at k var other numbering numbered is apart =
    false_from_ne_true (bytes_eq var other.name)
    (λ same. apart (same_Some k at (sym (numbering.each k other is) ∙ ap (λ name. number_of name numbers) (sym ((bytes_eq-Decides var other.name).0 same)) ∙ numbered)))

-- A post comes through the registrations of each client of which this says so, and through those who hear its variable of which the
-- other does.
module _ (clients : ℕ) (post : Post) (heard : SubscriptionState → Bool) (comes : ℕ → Live → Bool) (inboxes now : ℕ → Inbox) (alike : (client : ℕ) → AreAsOne client post.var heard (comes client))
    (come : (client : ℕ) → (now client).lives ≡ map (passed (comes client) post) (inboxes client).lives) where
  -- the variable of the post is heard as the inboxes say, and so is each other
  own-heard : (variable : VariableState) (latest : Option ℕ) (recipients : List Bool) (room : ℕ) → variable.name ≡ post.var → IsHeardBy clients inboxes variable →
      IsHeardBy clients now (record variable { latest = latest; recipients = recipients; subscriptions = map (stamped heard post.stamp) variable.subscriptions; room = room })
  own-heard variable latest recipients room name are = record {
    each = λ client below.
        of_client-stamped client heard post.stamp variable.subscriptions ∙ ap (map (stamped heard post.stamp)) (are.each client below ∙ ap (λ var. subscriptions_of client var (inboxes client).lives) name)
        ∙ subscriptions-passed client heard (comes client) post (inboxes client).lives (alike client)
        ∙ (λ i. subscriptions_of client (sym name i) (sym (come client) i));
    within = All-map (λ (subscription : SubscriptionState). subscription.client < clients) (stamped heard post.stamp) variable.subscriptions
        (All-weaker (λ (subscription : SubscriptionState). subscription.client < clients) (λ subscription. (stamped heard post.stamp subscription).client < clients)
        (λ subscription below. subst (λ n. n < clients) (sym (stamped-client heard post.stamp subscription)) below) variable.subscriptions are.within);
  }

  other-heard : (variable : VariableState) → bytes_eq post.var variable.name ≡ false → IsHeardBy clients inboxes variable → IsHeardBy clients now variable
  other-heard variable apart are = record {
    each = λ client below. are.each client below ∙ sym (others-passed client (comes client) post variable.name (inboxes client).lives apart) ∙ ap (subscriptions_of client variable.name) (sym (come client));
    within = are.within;
  }

  pub all-heard : (variables : List VariableState) (numbers : List Row) (at : ℕ) (variable : VariableState) (latest : Option ℕ) (recipients : List Bool) (room : ℕ) → IsNumbering variables numbers → slice_get variables at ≡ Some variable → variable.name ≡ post.var →
      All (IsHeardBy clients inboxes) variables → All (IsHeardBy clients now) (set variables at (record variable { latest = latest; recipients = recipients; subscriptions = map (stamped heard post.stamp) variable.subscriptions; room = room }))
  all-heard variables numbers at variable latest recipients room numbering there name all =
      all-set (IsHeardBy clients inboxes) (IsHeardBy clients now) variables at (record variable { latest = latest; recipients = recipients; subscriptions = map (stamped heard post.stamp) variable.subscriptions; room = room })
      (own-heard variable latest recipients room name (all-at (IsHeardBy clients inboxes) variables at variable all there))
      (λ k other is apart are. other-heard other (apart-name variables numbers at k post.var other numbering (ap (λ var. number_of var numbers) (sym name) ∙ numbering.each at variable there) is apart) are) all

  -- and of no other variable did anything come through
  pub known-passed : (numbers : List Row) (at : ℕ) → number_of post.var numbers ≡ Some at → AreKnown clients inboxes numbers → AreKnown clients now numbers
  known-passed numbers at numbered known client below =
      subst (All (HasKnown numbers)) (sym (come client))
      (All-map (HasKnown numbers) (passed (comes client) post) (inboxes client).lives
      (All-weaker (HasKnown numbers) (λ live. HasKnown numbers (passed (comes client) post live))
      (λ live so var none. by (comes client live) live var (other-name numbers at post.var var numbered none) (so var none)) (inboxes client).lives (known client below)))
    where
      by : (b : Bool) (live : Live) (var : List ℕ) → bytes_eq post.var var ≡ false → last_stamp var live.came ≡ None → last_stamp var (if b then with_came post live else live).came ≡ None
      by true live var apart none = last-came var live post ∙ ap (λ b. if b then Some post.stamp else last_stamp var live.came) apart ∙ none
      by false live var apart none = none

-- what is kept of a client

-- to which the post with this number is mailed where this says so
pub client-mailed : (mails : Bool) (number : ℕ) (inbox : Inbox) (lives : List Live) (client other : ClientState) → IsClient inbox client → inbox.fetched ≤ inbox.entries →
    map registration_of lives ≡ map registration_of inbox.lives → other ≡ record (mailed_if mails number client) { spare = other.spare } →
    IsClient (record inbox { lives = lives; mailed = if mails then inbox.mailed ++ mailing number inbox.entries ∷ [] else inbox.mailed }) other
client-mailed true number inbox lives client other is before same after = record {
  lives = ap (λ (one : ClientState). one.lives) after ∙ is.lives ∙ sym same;
  waits = ap (λ (one : ClientState). one.waits) after ∙ ap (λ waits. waits ++ number ∷ []) is.waits ∙ sym (waits-more inbox.fetched number inbox.entries inbox.mailed before);
}
client-mailed false number inbox lives client other is before same after = record {
  lives = ap (λ (one : ClientState). one.lives) after ∙ is.lives ∙ sym same;
  waits = ap (λ (one : ClientState). one.waits) after ∙ is.waits;
}

-- a post that is mailed was mailed
pub was-own : (number entry : ℕ) (mailed : List Mailing) → was_mailed number (mailed ++ mailing number entry ∷ []) ≡ true
was-own number entry mailed =
    list_any-push (λ one. one.number == number) mailed (mailing number entry) ∙ ap (λ b. was_mailed number mailed || b) (eq-eqb number number refl) ∙ or-true (was_mailed number mailed)

-- no number from the count of the posts on was mailed
pub none-ahead : (inbox : Inbox) (number : ℕ) → IsOrderly inbox → length inbox.posts ≤ number → was_mailed number inbox.mailed ≡ false
none-ahead inbox number orderly from =
    list_any_none (λ one. one.number == number) inbox.mailed
    (All-weaker (IsPast inbox.entries (length inbox.posts)) (λ one. (one.number == number) ≡ false) (λ one past. ne_eqb one.number number (λ same. omega (arith, past.number, same, from))) inbox.mailed orderly.past)

client-posted : (names : List (List ℕ)) (number : ℕ) (post : Post) (mails : Bool) (inbox : Inbox) (client other : ClientState) → IsClient inbox client → IsOrderly inbox → length inbox.posts ≡ number → mails ≡ list_any (is_due names post) inbox.lives →
    other ≡ record (mailed_if mails number client) { spare = other.spare } → IsClient (with_post names inbox post) other
client-posted names number post mails inbox client other is orderly counted due after =
    let now : IsClient (record inbox { lives = (with_post names inbox post).lives; mailed = (with_post names inbox post).mailed }) other =
    client-mailed (list_any (is_due names post) inbox.lives) (length inbox.posts) inbox (with_post names inbox post).lives client other is orderly.fetched
    (registrations-passed (is_due names post) post inbox.lives) (after ∙ (λ i. record (mailed_if (due i) (sym counted i) client) { spare = other.spare })) in
    record { lives = now.lives; waits = now.waits }

-- the post itself was mailed where it is due, and an earlier one where it was before
mailed-due : (names : List (List ℕ)) (post : Post) (inbox : Inbox) (number : ℕ) → IsOrderly inbox → length inbox.posts ≡ number → was_mailed number (with_post names inbox post).mailed ≡ list_any (is_due names post) inbox.lives
mailed-due names post inbox number orderly counted = subst (λ n. was_mailed n (with_post names inbox post).mailed ≡ list_any (is_due names post) inbox.lives) counted (by (list_any (is_due names post) inbox.lives))
  where
    by : (b : Bool) → was_mailed (length inbox.posts) (if b then inbox.mailed ++ mailing (length inbox.posts) inbox.entries ∷ [] else inbox.mailed) ≡ b
    by true = was-own (length inbox.posts) inbox.entries inbox.mailed
    by false = none-ahead inbox (length inbox.posts) orderly (omega arith)

mailed-before : (names : List (List ℕ)) (post : Post) (inbox : Inbox) (number : ℕ) → number < length inbox.posts → was_mailed number (with_post names inbox post).mailed ≡ was_mailed number inbox.mailed
mailed-before names post inbox number below = by (list_any (is_due names post) inbox.lives)
  where
    by : (b : Bool) → was_mailed number (if b then inbox.mailed ++ mailing (length inbox.posts) inbox.entries ∷ [] else inbox.mailed) ≡ was_mailed number inbox.mailed
    by true = was-other number (length inbox.posts) inbox.entries inbox.mailed (λ same. omega (arith, same, below))
    by false = refl

-- All is as the inboxes say after a post.
pub posted-kept : (names : List (List ℕ)) (inboxes : ℕ → Inbox) (posts : List Post) (post : Post) (before after : VariablesState) (clients others : List ClientState) (posted : IsPosted (length posts) post.stamp (name_of names post.source) before after clients others) →
    posted.variable.name ≡ post.var → ((client : ℕ) → IsOrderly (inboxes client)) → ((client : ℕ) → (inboxes client).posts ≡ posts) → AreKeptAs inboxes posts before clients →
    AreKeptAs (λ client. with_post names (inboxes client) post) (posts ++ post ∷ []) after others
posted-kept names inboxes posts post before after clients others posted name orderly counted are = record {
  clients = λ number other there.
      let below : number < length clients = omega (arith, slice_get_within others number other there, posted.mailed.each) in
      let here = found-below clients number below in
      client-posted names (length posts) post (list_any heard (of_client number posted.variable.subscriptions)) (inboxes number) here.0 other (are.clients number here.0 here.1) (orderly number) (ap length (counted number))
      (due_to number below)
      (posted.mailed.mail number here.0 other here.1 there);
  heard = subst (λ count. AreHeard count now (posts ++ post ∷ []) after) (sym posted.mailed.each) (record {
    heard = subst (All (IsHeardBy (length clients) now)) (sym posted.all)
        (all-heard (length clients) post heard (λ client. is_due names post) inboxes now (λ client. due-alike names client post) (λ client. refl) before.all before.numbers posted.at posted.variable (Some (length posts)) posted.recipients posted.room
        posted.numbering posted.there name are.heard.heard);
    latest = subst (All (HasLatest (posts ++ post ∷ []))) (sym posted.all)
        (all-set (HasLatest posts) (HasLatest (posts ++ post ∷ [])) before.all posted.at (record posted.variable { latest = Some (length posts); recipients = posted.recipients; subscriptions = map (stamped heard post.stamp) posted.variable.subscriptions; room = posted.room })
        (sym (latest-posted posts post posted.variable.name ∙ ap (λ b. if b then Some (length posts) else latest_post_of posted.variable.name posts) ((bytes_eq-Decides post.var posted.variable.name).1 (sym name))))
        (λ k other is apart latest. latest
        ∙ sym (latest-posted posts post other.name ∙ ap (λ b. if b then Some (length posts) else latest_post_of other.name posts) (apart-name before.all before.numbers posted.at k post.var other posted.numbering numbered is apart))) are.heard.latest);
    recipients = subst (All (HasRecipients (length clients) now)) (sym posted.all)
        (all-set (HasRecipients (length clients) inboxes) (HasRecipients (length clients) now) before.all posted.at
        (record posted.variable { latest = Some (length posts); recipients = posted.recipients; subscriptions = map (stamped heard post.stamp) posted.variable.subscriptions; room = posted.room })
        (record {
          each = posted.marked.each;
          mailed = λ client number below latest.
              posted.marked.due client below ∙ due_to client below
              ∙ sym (mailed-due names post (inboxes client) number (orderly client) (ap length (counted client) ∙ same_Some (length posts) number latest));
        })
        (λ k other is apart has. record {
          each = has.each;
          mailed = λ client number below latest.
              let found = found-is-latest posts other.name number (sym (all-at (HasLatest posts) before.all k other are.heard.latest is) ∙ latest) in
              let early : number < length posts = slice_get_within posts number found.post found.there in
              has.mailed client number below latest ∙ sym (mailed-before names post (inboxes client) number (omega (arith, early, ap length (counted client))));
        }) are.heard.recipients);
    known = subst (AreKnown (length clients) now) (sym posted.numbers)
        (known-passed (length clients) post heard (λ client. is_due names post) inboxes now (λ client. due-alike names client post) (λ client. refl) before.numbers posted.at numbered are.heard.known);
  });
}
  where
    now : ℕ → Inbox
    now client = with_post names (inboxes client) post

    heard : SubscriptionState → Bool
    heard = hears_due post.stamp (name_of names post.source)

    heard_here : IsHeardBy (length clients) inboxes posted.variable
    heard_here = all-at (IsHeardBy (length clients) inboxes) before.all posted.at posted.variable are.heard.heard posted.there

    due_to : (client : ℕ) → client < length clients → list_any heard (of_client client posted.variable.subscriptions) ≡ list_any (is_due names post) (inboxes client).lives
    due_to client below =
        ap (list_any heard) (heard_here.each client below ∙ ap (λ var. subscriptions_of client var (inboxes client).lives) name)
        ∙ any-subscriptions client post.var heard (is_due names post) (inboxes client).lives (due-alike names client post)

    numbered : number_of post.var before.numbers ≡ Some posted.at
    numbered = ap (λ var. number_of var before.numbers) (sym name) ∙ posted.numbering.each posted.at posted.variable posted.there
