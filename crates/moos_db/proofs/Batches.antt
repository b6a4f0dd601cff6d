-- The posts of an entry are mailed one after the other.
use Rattle.std.proofs.Common.{◌≡◌, ◌∙◌, ◌<◌, ◌≤◌, ◌+◌, ◌-◌, ℕ, suc, Bool, true, false, ◌==◌, ◌^◌, List, [], ◌∷◌, ◌++◌, append-nil, append_assoc, fold, map, length, take, slice_get, Option, None, Some, option_map, refl, ap, sym, subst, inl, inr, if◌then◌else◌, arith, length-append}
use Rattle.std.specs.List.{All}
use Rattle.std.proofs.iter.runs.Lists.{nth_right}
use Rattle.std.proofs.lemmas.List.{length-map, length-take-le, map-append, take_all, take_more}
use Rattle.std.proofs.lemmas.List.Concat.{flat_map-append}
use Rattle.std.proofs.lemmas.List.Elements.{All-map, All-weaker}
use Rattle.std.proofs.lemmas.List.Sums.{fold-append}
use Rattle.std.proofs.lemmas.Option.{get_or_from_slice_get, none-some, same_Some, slice_get-map, slice_get_within}
use Rattle.moos_post.specs.declared.entry.Call.{Call}
use Rattle.moos_post.specs.declared.entry.Call.TheVariants.{Register, Unregister, Post as Posts, Fetch}
use Rattle.moos_post.specs.declared.entry.Entry.{Entry}
use Rattle.moos_post.specs.declared.value.Post.{Post}
use Rattle.moos_post.specs.Delivery.{Inbox, inbox_of, with_own, with_post}
use Rattle.moos_post.specs.History.{History, name_of, posts_of, posts_of_entry}
use Rattle.moos_mail.proofs.Inboxes.{keeps-posts, posts-inbox_of, posts-posts}
use Rattle.moos_mail.proofs.Lists.{found-below}
use Rattle.moos_mail.proofs.Orderly.{IsOrderly, orderly-keeps, settled-inbox_of}
use Rattle.moos_db.specs.declared.mail.Origin.{Origin}
use Rattle.moos_db.specs.Clients.{ClientState}
use Rattle.moos_db.specs.Database.{origin_of}
use Rattle.moos_db.specs.Subscriptions.{HearBelow, AreKeptAs, AreNoted, AreReady, HasRecipients, HasRoom, HaveLetterRoom, HaveMarks, SubscriptionState, IsHeardBy, IsPosted, VariableState, VariablesState, after_hearing, hears_due, name_at}
use Rattle.moos_db.specs.Places.{AreKept, inboxes_after, makes_posts}
use Rattle.moos_db.proofs.AfterCalls.{AreKeptAs-alike, IsAlike, next-inbox}
use Rattle.moos_db.proofs.AfterPosts.{posted-kept}
use Rattle.moos_db.proofs.AfterRegistering.{set-names}
use Rattle.moos_db.proofs.Changes.{AreNoted-names, name-noted, names-at, set-cases}
use Rattle.moos_db.proofs.Hearing.{stamped-client}

-- the client's inbox after the history and these posts
abbrev pub posted_to : List (List ℕ) → History → List Post → ℕ → Inbox
posted_to names history posts client = fold (with_post names) (inbox_of names client history) posts

-- after so many of the entry's posts, all is as the inboxes say, and there is room for the others
pub record IsPosting (names : List (List ℕ)) (history : History) (later : List Post) (done : ℕ) (variables : VariablesState) (clients : List ClientState) : Type 0 where
  pub each : length clients ≡ length names
  pub stand : AreKeptAs (posted_to names history (take done later)) (posts_of history ++ take done later) variables clients
  pub noted : AreNoted (map (λ post. post.var) (posts_of history ++ later)) variables
  pub room : HaveLetterRoom clients variables (length (posts_of history) + done) (length later - done)

-- an inbox after posts has these, and none is mailed ahead
posted-orderly : (names : List (List ℕ)) (history : History) (posts : List Post) (client : ℕ) → IsOrderly (posted_to names history posts client)
posted-orderly names history posts client = keeps-posts names IsOrderly (orderly-keeps names) (inbox_of names client history) posts (settled-inbox_of names client history).orderly

posted-posts : (names : List (List ℕ)) (history : History) (posts : List Post) (client : ℕ) → (posted_to names history posts client).posts ≡ posts_of history ++ posts
posted-posts names history posts client = posts-posts names (inbox_of names client history) posts ∙ ap (λ before. before ++ posts) (posts-inbox_of names client history)

-- before the first one
pub posting-start : (names : List (List ℕ)) (history : History) (later : List Post) (variables : VariablesState) (clients : List ClientState) → length clients ≡ length names → AreReady (inboxes_after names history) (posts_of history) variables clients →
    AreNoted (map (λ (post : Post). post.var) (posts_of history) ++ map (λ (post : Post). post.var) later) variables → HaveLetterRoom clients variables (length (posts_of history)) (length later) → IsPosting names history later 0 variables clients
posting-start names history later variables clients each ready noted room =
    let front : List Post = posts_of history in
    record {
      each = each;
      stand = subst (λ posts. AreKeptAs (inboxes_after names history) posts variables clients) (sym (append-nil front)) ready.stand;
      noted = noted ∙ ap (map (λ var. Some var)) (sym (map-append (λ (post : Post). post.var) front later));
      room = subst (λ n. HaveLetterRoom clients variables n (length later - 0)) (let e : length front ≡ length front + 0 = omega arith in e)
          (subst (HaveLetterRoom clients variables (length front)) (let e : length later ≡ length later - 0 = omega arith in e) room);
    }

pub kept-below : (inboxes : ℕ → Inbox) (posts : List Post) (variables : VariablesState) (clients : List ClientState) → AreKeptAs inboxes posts variables clients → HearBelow (length clients) variables.all
kept-below inboxes posts variables clients stand =
    All-weaker (IsHeardBy (length clients) inboxes) (λ (variable : VariableState). All (λ subscription. subscription.client < length clients) variable.subscriptions) (λ variable heard. heard.within) variables.all stand.heard.heard

-- of each variable there is a mark for each client
pub kept-marks : (inboxes : ℕ → Inbox) (posts : List Post) (variables : VariablesState) (clients : List ClientState) → AreKeptAs inboxes posts variables clients → HaveMarks (length clients) variables.all
kept-marks inboxes posts variables clients stand =
    All-weaker (HasRecipients (length clients) inboxes) (λ (variable : VariableState). length variable.recipients ≡ length clients) (λ variable has. has.each) variables.all stand.heard.recipients

-- there is one place less of room for the others
room-less : (more : ℕ) (before after : List ClientState) (subscription : SubscriptionState) → length after ≡ length before →
    ((client : ℕ) (one other : ClientState) → slice_get before client ≡ Some one → slice_get after client ≡ Some other → one.spare ≤ other.spare + 1) → HasRoom before more subscription → HasRoom after (more - 1) subscription
room-less more before after subscription each less room client there =
    let here = found-below before subscription.client (omega (arith, slice_get_within after subscription.client client there, each)) in
    omega (arith, room here.0 here.1, less subscription.client here.0 client here.1 there)

rooms-heard : (more stamp : ℕ) (source : List ℕ) (clients : List ClientState) (subscriptions : List SubscriptionState) → All (HasRoom clients more) subscriptions → All (HasRoom clients more) (map (after_hearing stamp source) subscriptions)
rooms-heard more stamp source clients subscriptions rooms =
    All-map (HasRoom clients more) (after_hearing stamp source) subscriptions
    (All-weaker (HasRoom clients more) (λ subscription. HasRoom clients more (after_hearing stamp source subscription))
    (λ subscription room client there. room client (ap (slice_get clients) (sym (stamped-client (hears_due stamp source) stamp subscription)) ∙ there)) subscriptions rooms)

room-posted : (number stamp from more : ℕ) (source : List ℕ) (before after : VariablesState) (clients others : List ClientState) → IsPosted number stamp source before after clients others → HaveLetterRoom clients before from more → HaveLetterRoom others after (from + 1) (more - 1)
room-posted number stamp from more source before after clients others posted rooms post at variable low found there =
    All-weaker (HasRoom clients more) (HasRoom others (more - 1)) (λ subscription. room-less more clients others subscription posted.mailed.each posted.mailed.room) variable.subscriptions
    (elim (set-cases before.all posted.at at new variable (ap (λ list. slice_get list at) (sym posted.all) ∙ there)) [
      | inl own ↦
          subst (λ (one : VariableState). All (HasRoom clients more) one.subscriptions) (sym own.1)
          (rooms-heard more stamp source clients posted.variable.subscriptions (rooms post at posted.variable (omega (arith, low)) was (ap (slice_get before.all) own.0 ∙ posted.there)))
      | inr apart ↦ rooms post at variable (omega (arith, low)) was apart.1
    ])
  where
    new : VariableState
    new = record posted.variable { latest = Some number; recipients = posted.recipients; subscriptions = map (after_hearing stamp source) posted.variable.subscriptions; room = posted.room }

    was : slice_get before.noted post ≡ Some at
    was = ap (λ list. slice_get list post) (sym posted.noted) ∙ found

-- after the next post
pub posting-next : (names : List (List ℕ)) (history : History) (later : List Post) (done : ℕ) (variables after : VariablesState) (clients others : List ClientState) (post : Post) → IsPosting names history later done variables clients →
    slice_get later done ≡ Some post → IsPosted (length (posts_of history) + done) post.stamp (name_of names post.source) variables after clients others → IsPosting names history later (done + 1) after others
posting-next names history later done variables after clients others post state next posted = record {
  each = posted.mailed.each ∙ state.each;
  stand = subst (λ posts. AreKeptAs (posted_to names history (take (done + 1) later)) posts after others)
      (append_assoc front (take done later) (post ∷ []) ∙ ap (λ posts. front ++ posts) (sym more))
      (subst (λ now. AreKeptAs now ((front ++ take done later) ++ post ∷ []) after others) (λ i client. sym (posted-more client) i)
      (posted-kept names (posted_to names history (take done later)) (front ++ take done later) post variables after clients others posted_there named (posted-orderly names history (take done later))
      (posted-posts names history (take done later)) state.stand));
  noted = AreNoted-names (map (λ post. post.var) (front ++ later)) variables after
      (λ number. ap (λ all. name_at all number) posted.all ∙ names-at variables.all _ (set-names variables.all posted.at posted.variable _ posted.there refl) number) posted.noted state.noted;
  room = subst (λ n. HaveLetterRoom others after n (length later - (done + 1))) (let e : length front + done + 1 ≡ length front + (done + 1) = omega arith in e)
      (subst (HaveLetterRoom others after (length front + done + 1)) (let e : length later - done - 1 ≡ length later - (done + 1) = omega arith in e)
      (room-posted (length front + done) post.stamp (length front + done) (length later - done) (name_of names post.source) variables after clients others posted state.room));
}
  where
    front : List Post
    front = posts_of history

    within : done < length later
    within = slice_get_within later done post next

    more : take (done + 1) later ≡ take done later ++ post ∷ []
    more = take_more later done post within ∙ ap (λ one. take done later ++ one ∷ []) (get_or_from_slice_get later done post post next)

    posted_there : IsPosted (length (front ++ take done later)) post.stamp (name_of names post.source) variables after clients others
    posted_there = subst (λ n. IsPosted n post.stamp (name_of names post.source) variables after clients others)
        (sym (length-append front (take done later) ∙ ap (λ n. length front + n) (length-take-le done later (omega (arith, within))))) posted

    posted-more : (client : ℕ) → posted_to names history (take (done + 1) later) client ≡ with_post names (posted_to names history (take done later) client) post
    posted-more client = ap (λ posts. posted_to names history posts client) more ∙ fold-append (with_post names) (inbox_of names client history) (take done later) (post ∷ [])

    -- the variable of the next post is that which is noted for it
    named : posted_there.variable.name ≡ post.var
    named = same_Some posted_there.variable.name post.var
        (sym (name-noted (map (λ (one : Post). one.var) (front ++ later)) variables (length (front ++ take done later)) posted_there.at posted_there.variable posted_there.found posted_there.there state.noted)
        ∙ slice_get-map (λ (one : Post). one.var) (front ++ later) (length (front ++ take done later))
        ∙ ap (λ n. option_map (λ (one : Post). one.var) (slice_get (front ++ later) n)) (length-append front (take done later) ∙ ap (λ n. length front + n) (length-take-le done later (omega (arith, within))))
        ∙ ap (option_map (λ (one : Post). one.var)) (nth_right front later done ∙ next))

-- the posts after an entry
pub posts-next : (history : History) (entry : Entry) → posts_of (history ++ entry ∷ []) ≡ posts_of history ++ posts_of_entry entry
posts-next history entry = flat_map-append posts_of_entry history (entry ∷ []) ∙ ap (λ more. posts_of history ++ more) (append-nil (posts_of_entry entry))

-- an entry that posts changes nothing else of an inbox but the count of entries
own-posts : (names : List (List ℕ)) (inbox : Inbox) (own : Bool) (call : Call) → makes_posts call ≡ true → (if own then with_own names inbox call else inbox) ≡ inbox
own-posts names inbox false call makes = refl
own-posts names inbox true (Register regs) makes = absurd (let e : false ≡ true = makes in cc)
own-posts names inbox true (Unregister var source) makes = absurd (let e : false ≡ true = makes in cc)
own-posts names inbox true (Posts batch) makes = refl
own-posts names inbox true Fetch makes = absurd (let e : false ≡ true = makes in cc)

posted-next : (names : List (List ℕ)) (history : History) (entry : Entry) (client : ℕ) → makes_posts entry.call ≡ true →
    inboxes_after names (history ++ entry ∷ []) client ≡ record (posted_to names history (posts_of_entry entry) client) { entries = suc (inbox_of names client history).entries }
posted-next names history entry client makes =
    next-inbox names history entry client
    ∙ ap (λ own. record (fold (with_post names) own (posts_of_entry entry)) { entries = suc (inbox_of names client history).entries }) (own-posts names (inbox_of names client history) (entry.client == client) entry.call makes)

-- after the last post all is as the history says with the entry
pub posting-end : (names : List (List ℕ)) (history : History) (entry : Entry) (done : ℕ) (variables : VariablesState) (clients : List ClientState) → IsPosting names history (posts_of_entry entry) done variables clients →
    length (posts_of_entry entry) ≤ done → makes_posts entry.call ≡ true → length names < 2 ^ 32 → AreKept names (history ++ entry ∷ []) variables clients
posting-end names history entry done variables clients state all makes few = record {
  few = few;
  each = state.each;
  kept = AreKeptAs-alike (posted_to names history (posts_of_entry entry)) (inboxes_after names (history ++ entry ∷ [])) (posts_of (history ++ entry ∷ [])) variables clients
      (λ client. subst (IsAlike (posted_to names history (posts_of_entry entry) client)) (sym (posted-next names history entry client makes)) (record { lives = refl; mailed = refl; waits = refl }))
      (subst (λ posts. AreKeptAs (posted_to names history (posts_of_entry entry)) posts variables clients) (sym (posts-next history entry))
      (subst (λ later. AreKeptAs (posted_to names history later) (posts_of history ++ later) variables clients) (take_all done (posts_of_entry entry) all) state.stand));
  noted = subst (λ posts. AreNoted (map (λ (post : Post). post.var) posts) variables) (sym (posts-next history entry)) state.noted;
}

-- all is ready for more posts, and is as the history says where those that were noted more are forgotten
pub ready-from : (names : List (List ℕ)) (history : History) (variables : VariablesState) (clients : List ClientState) → AreKept names history variables clients → AreReady (inboxes_after names history) (posts_of history) variables clients
ready-from names history variables clients kept = record {
  stand = kept.kept;
  noted = ap (map (name_at variables.all)) (take_all (length (posts_of history)) variables.noted (omega (
    arith,
    ap length kept.noted,
    length-map variables.noted (name_at variables.all),
    length-map (map (λ (post : Post). post.var) (posts_of history)) (λ var. Some var),
    length-map (posts_of history) (λ (post : Post). post.var),
  )))
      ∙ kept.noted;
}

pub forgotten-kept : (names : List (List ℕ)) (history : History) (variables : VariablesState) (clients : List ClientState) → length names < 2 ^ 32 → length clients ≡ length names → AreReady (inboxes_after names history) (posts_of history) variables clients →
    AreKept names history (record variables { noted = take (length (posts_of history)) variables.noted }) clients
forgotten-kept names history variables clients few each ready = record {
  few = few;
  each = each;
  kept = record { clients = ready.stand.clients; heard = record { heard = ready.stand.heard.heard; latest = ready.stand.heard.latest; recipients = ready.stand.heard.recipients; known = ready.stand.heard.known } };
  noted = ready.noted;
}

-- the post whose origin is told
pub found-origin : (posts : List Post) (number : ℕ) (origin : Origin) → option_map origin_of (slice_get posts number) ≡ Some origin → (post : Post) × (slice_get posts number ≡ Some post) × (post.stamp ≡ origin.stamp) × (post.source ≡ origin.client)
found-origin posts number origin is = through (slice_get posts number) refl is
  where
    through : (found : Option Post) → slice_get posts number ≡ found → option_map origin_of found ≡ Some origin → (post : Post) × (slice_get posts number ≡ Some post) × (post.stamp ≡ origin.stamp) × (post.source ≡ origin.client)
    through None found is = absurd (none-some origin is)
    through (Some post) found is =
        let same : origin_of post ≡ origin = same_Some (origin_of post) origin is in
        (post, found, ap (λ (one : Origin). one.stamp) same, ap (λ (one : Origin). one.client) same)

-- the post with this number is the next of the entry's
pub next-post : (history : History) (entry : Entry) (number : ℕ) (post : Post) → length (posts_of history) ≤ number → slice_get (posts_of (history ++ entry ∷ [])) number ≡ Some post → slice_get (posts_of_entry entry) (number - length (posts_of history)) ≡ Some post
next-post history entry number post from is =
    sym (nth_right (posts_of history) (posts_of_entry entry) (number - length (posts_of history)))
    ∙ ap (slice_get (posts_of history ++ posts_of_entry entry)) (let e : length (posts_of history) + (number - length (posts_of history)) ≡ number = omega (arith, from) in e)
    ∙ ap (λ posts. slice_get posts number) (sym (posts-next history entry)) ∙ is
