-- What is kept of a client and who hears the variables after latest posts caught up, one after the other.
use Rattle.std.proofs.Common.{◌≡◌, ◌≢◌, ◌∙◌, ◌<◌, ◌≤◌, ◌+◌, ◌==◌, ◌&&◌, ◌||◌, ℕ, Bool, true, false, cond, not, List, [], ◌∷◌, ◌++◌, get_or, length, map, Option, None, Some, option_map, fold, set, slice_get, suc, take, refl, ap, sym, subst, arith, if◌then◌else◌}
use Rattle.std.specs.List.{All, list_any}
use Rattle.std.proofs.lemmas.Bool.{eq-eqb, false≢true, ne_eqb}
use Rattle.std.proofs.lemmas.Option.{same_Some, slice_get-map, slice_get_within}
use Rattle.std.proofs.lemmas.List.{get_or-set_other, get_or-set_same, length-map, length-set}
use Rattle.std.proofs.lemmas.List.Elements.{All-set}
use Rattle.std.proofs.lemmas.List.Folds.{map_fixed}
use Rattle.std.proofs.lemmas.List.Sums.{fold-append}
use Rattle.std.proofs.lemmas.Slice.Eq.{bytes_eq-Decides}
use Rattle.moos_mail.proofs.Coming.{was-other}
use Rattle.moos_mail.proofs.Lists.{found-below, none-at, take-next}
use Rattle.moos_post.specs.declared.value.Post.{Post}
use Rattle.moos_post.specs.Delivery.{Inbox, is_new_for, Live, mailing, was_mailed, with_caught_up, with_came}
use Rattle.moos_post.specs.History.{name_of}
use Rattle.moos_post.specs.Patterns.{matches}
use Rattle.moos_db.specs.declared.mail.Origin.{Origin}
use Rattle.moos_db.specs.Database.{origin_of}
use Rattle.moos_db.specs.Clients.{ClientState, IsClient}
use Rattle.moos_db.specs.Subscriptions.{AreHeard, AreKeptAs, AreKnown, AreNoted, HasLatest, HasRecipients, IsNumbering, SubscriptionState, IsHeardBy, VariableState, VariablesState, subscriptions_of, is_new_at, is_recipient, mailed_if, name_at, of_client, with_inbox}
use Rattle.moos_db.specs.Registering.{IsCaught, IsLatestPost, StandsAt, catch_number, catch_post}
use Rattle.moos_db.specs.Tables.{latest_post_of, number_of}
use Rattle.moos_db.proofs.AfterPosts.{all-heard, apart-name, client-mailed, known-passed, was-own}
use Rattle.moos_db.proofs.AfterRegistering.{set-names}
use Rattle.moos_db.proofs.Changes.{all-at, all-same, all-set, AreClients-set, AreNoted-names, at-client, at-each, changed-twice, name-noted, named-at, names-at}
use Rattle.moos_db.proofs.Hearing.{any-subscriptions, is_new_of, new-alike, passed, registrations-passed, stamped}
use Rattle.moos_db.proofs.Picking.{found-is-latest}

-- one that was mailed before doesn't catch up
mailed-stays : (names : List (List ℕ)) (posts : List Post) (inbox : Inbox) (number : ℕ) → was_mailed number inbox.mailed ≡ true → catch_number names posts inbox number ≡ inbox
mailed-stays names posts inbox number mailed = through (slice_get posts number)
  where
    by : (new : Bool) (post : Post) → (if new && not (was_mailed number inbox.mailed) then with_caught_up names inbox number post else inbox) ≡ inbox
    by true post = ap (λ b. if not b then with_caught_up names inbox number post else inbox) mailed
    by false post = refl

    through : (found : Option Post) → catch_post names number inbox found ≡ inbox
    through None = refl
    through (Some post) = by (list_any (is_new_for names inbox.entries post) inbox.lives) post

-- the inbox after the post with this number, which wasn't mailed before, caught up where this says so
abbrev caught_if : Bool → List (List ℕ) → ℕ → Post → Inbox → Inbox
caught_if answer names number post inbox = record inbox {
  lives = map (passed (is_new_for names inbox.entries post) post) inbox.lives;
  mailed = if answer then inbox.mailed ++ mailing number inbox.entries ∷ [] else inbox.mailed;
}

caught-by : (names : List (List ℕ)) (posts : List Post) (inbox : Inbox) (number : ℕ) (post : Post) (answer : Bool) → slice_get posts number ≡ Some post → was_mailed number inbox.mailed ≡ false →
    answer ≡ list_any (is_new_for names inbox.entries post) inbox.lives → catch_number names posts inbox number ≡ caught_if answer names number post inbox
caught-by names posts inbox number post answer there new is =
    ap (catch_post names number inbox) there
    ∙ (λ i. if sym is i && not (new i) then with_caught_up names inbox number post else inbox)
    ∙ by answer is
  where
    by : (b : Bool) → b ≡ list_any (is_new_for names inbox.entries post) inbox.lives → (if b && not false then with_caught_up names inbox number post else inbox) ≡ caught_if b names number post inbox
    by true all = refl
    by false none =
        ap (λ lives. record inbox { lives = lives })
        (sym (map_fixed (passed (is_new_for names inbox.entries post) post) inbox.lives
        (λ k d within. ap (λ b. if b then with_came post (get_or inbox.lives k d) else get_or inbox.lives k d) (none-at (is_new_for names inbox.entries post) inbox.lives k d (sym none) within))))

-- who is new is the client's
new-own : (client made : ℕ) (source : List ℕ) (subscriptions : List SubscriptionState) → list_any (is_new_at client made source) subscriptions ≡ list_any (is_new_at client made source) (of_client client subscriptions)
new-own client made source [] = refl
new-own client made source (subscription ∷ subscriptions) = through (subscription.client == client) refl (new-own client made source subscriptions)
  where
    through : (b : Bool) → (subscription.client == client) ≡ b → list_any (is_new_at client made source) subscriptions ≡ list_any (is_new_at client made source) (of_client client subscriptions) →
        ((b && subscription.made == made) && matches subscription.reg.source source || list_any (is_new_at client made source) subscriptions)
        ≡ list_any (is_new_at client made source) (cond b (subscription ∷ of_client client subscriptions) (of_client client subscriptions))
    through true is rest = λ i. (sym is i && subscription.made == made) && matches subscription.reg.source source || rest i
    through false is rest = rest

-- All after a latest post that was never mailed to the client caught up, where it may.
kept-caught : (names : List (List ℕ)) (posts : List Post) (client number made place : ℕ) (post : Post) (answer : Bool) (inboxes : ℕ → Inbox) (before after : VariablesState) (states : List ClientState) (one other : ClientState) →
    slice_get posts number ≡ Some post → StandsAt made (inboxes client) → (is : IsCaught client made post.stamp (name_of names post.source) place answer before after) → is.variable.name ≡ post.var →
    latest_post_of post.var posts ≡ Some number → slice_get states client ≡ Some one → is_recipient is.variable.recipients client ≡ false → other ≡ record (mailed_if answer number one) { spare = other.spare } →
    AreKeptAs inboxes posts before states → AreKeptAs (with_inbox client (λ inbox. catch_number names posts inbox number) inboxes) posts after (set states client other)
kept-caught names posts client number made place post answer inboxes before after states one other there at is named last had fresh change are =
    let below : client < length states = slice_get_within states client one had in
    let count : ℕ = length states in
    let stands : IsClient own one = are.clients client one had in
    let latest : is.variable.latest ≡ Some number = all-at (HasLatest posts) before.all place is.variable are.heard.latest is.there ∙ ap (λ var. latest_post_of var posts) named ∙ last in
    let has : HasRecipients count inboxes is.variable = all-at (HasRecipients count inboxes) before.all place is.variable are.heard.recipients is.there in
    let new : was_mailed number own.mailed ≡ false = sym (has.mailed client number below latest) ∙ fresh in
    let made_at : own.entries ≡ made = at.0 in
    let fetched : own.fetched ≤ made = at.1 in
    let answers : answer ≡ list_any (is_new_for names own.entries post) own.lives
    = is.catches ∙ new-own client made source is.variable.subscriptions
    ∙ ap (list_any heard) ((all-at (IsHeardBy count inboxes) before.all place is.variable are.heard.heard is.there).each client below ∙ ap (λ var. subscriptions_of client var own.lives) named)
    ∙ any-subscriptions client post.var heard (comes client) own.lives (new-alike names client made post client)
    ∙ (λ i. list_any (λ live. eq-eqb client client refl i && is_new_for names (sym made_at i) post live) own.lives) in
    let caught : catch own ≡ caught_if answer names number post own = caught-by names posts own number post answer there new answers in
    let come : (n : ℕ) → (now n).lives ≡ map (passed (comes n) post) (inboxes n).lives
    = at-each client catch inboxes (λ n inbox. inbox.lives ≡ map (passed (comes n) post) (inboxes n).lives)
    (ap (λ (inbox : Inbox). inbox.lives) caught ∙ (λ i. map (passed (λ live. sym (eq-eqb client client refl) i && is_new_for names (made_at i) post live) post) own.lives))
    (λ n apart. sym ((λ i. map (passed (λ live. ne_eqb n client apart i && is_new_for names made post live) post) (inboxes n).lives) ∙ map_fixed (λ live. live) (inboxes n).lives (λ k d within. refl))) in
    let numbered : number_of post.var before.numbers ≡ Some place = ap (λ var. number_of var before.numbers) (sym named) ∙ is.numbering.each place is.variable is.there in
    let alike = new-alike names client made post in
    let marks : List Bool = if answer then set is.variable.recipients client true else is.variable.recipients in
    let later : VariableState = record is.variable { recipients = marks; subscriptions = map (stamped heard post.stamp) is.variable.subscriptions; room = is.room } in
    record {
      clients = AreClients-set client catch inboxes states other
          (subst (λ inbox. IsClient inbox other) (sym caught)
          (client-mailed answer number own (caught_if answer names number post own).lives one other stands (omega (arith, fetched, made_at)) (registrations-passed (is_new_for names own.entries post) post own.lives) change)) are.clients;
      heard = subst (λ n. AreHeard n now posts after) (sym (length-set states client other)) (record {
        heard = subst (All (IsHeardBy count now)) (sym is.all)
            (all-heard count post heard comes inboxes now alike come before.all before.numbers place is.variable is.variable.latest marks is.room is.numbering is.there named are.heard.heard);
        latest = subst (All (HasLatest posts)) (sym is.all)
            (All-set (HasLatest posts) before.all place later (all-at (HasLatest posts) before.all place is.variable are.heard.latest is.there) are.heard.latest);
        recipients = subst (All (HasRecipients count now)) (sym is.all)
            (all-set (HasRecipients count inboxes) (HasRecipients count now) before.all place later
            (record {
              each = marked-each answer is.variable.recipients count has.each;
              mailed = λ n m low is_latest.
                  let same : number ≡ m = same_Some number m (sym latest ∙ is_latest) in
                  subst (λ m. is_recipient marks n ≡ was_mailed m (now n).mailed) same
                  (at-each client catch inboxes (λ n inbox. n < count → is_recipient marks n ≡ was_mailed number inbox.mailed)
                  (λ low. marked-own answer is.variable.recipients (omega (arith, low, has.each)) fresh new ∙ ap (λ (inbox : Inbox). was_mailed number inbox.mailed) (sym caught))
                  (λ n apart low. marked-other answer is.variable.recipients n apart ∙ has.mailed n number low latest) n low);
            })
            (λ k variable stands apart held. record {
              each = held.each;
              mailed = λ n m low is_latest.
                  let far : number ≢ m = λ same. other-latest k variable m stands apart (sym (all-at (HasLatest posts) before.all k variable are.heard.latest stands) ∙ is_latest) numbered is.numbering same in
                  at-each client catch inboxes (λ n inbox. n < count → is_recipient variable.recipients n ≡ was_mailed m inbox.mailed)
                  (λ low. held.mailed client m low is_latest ∙ sym (mailed-apart answer m far) ∙ ap (λ (inbox : Inbox). was_mailed m inbox.mailed) (sym caught))
                  (λ n apart low. held.mailed n m low is_latest) n low;
            }) are.heard.recipients);
        known = subst (AreKnown count now) (sym is.numbers) (known-passed count post heard comes inboxes now alike come before.numbers place numbered are.heard.known);
      });
    }
  where
    source : List ℕ
    source = name_of names post.source

    own : Inbox
    own = inboxes client

    catch : Inbox → Inbox
    catch inbox = catch_number names posts inbox number

    now : ℕ → Inbox
    now = with_inbox client catch inboxes

    heard : SubscriptionState → Bool
    heard = is_new_at client made source

    comes : ℕ → Live → Bool
    comes = is_new_of names client made post

    -- the client is a recipient from now on where this says so, and each other as before
    marked-each : (answer : Bool) (recipients : List Bool) (count : ℕ) → length recipients ≡ count → length (if answer then set recipients client true else recipients) ≡ count
    marked-each true recipients count each = length-set recipients client true ∙ each
    marked-each false recipients count each = each

    marked-own : (answer : Bool) (recipients : List Bool) → client < length recipients → is_recipient recipients client ≡ false → was_mailed number own.mailed ≡ false →
        is_recipient (if answer then set recipients client true else recipients) client ≡ was_mailed number (caught_if answer names number post own).mailed
    marked-own true recipients below fresh new = get_or-set_same recipients client true false below ∙ sym (was-own number own.entries own.mailed)
    marked-own false recipients below fresh new = fresh ∙ sym new

    marked-other : (answer : Bool) (recipients : List Bool) (n : ℕ) → n ≢ client → is_recipient (if answer then set recipients client true else recipients) n ≡ is_recipient recipients n
    marked-other true recipients n apart = get_or-set_other recipients client n true false apart
    marked-other false recipients n apart = refl

    -- the latest post of another variable is another one, and was mailed where it was before
    other-latest : (k : ℕ) (variable : VariableState) (m : ℕ) → slice_get before.all k ≡ Some variable → k ≢ place → latest_post_of variable.name posts ≡ Some m → number_of post.var before.numbers ≡ Some place →
        IsNumbering before.all before.numbers → number ≢ m
    other-latest k variable m stands apart latest numbered numbering same =
        let found = found-is-latest posts variable.name m latest in
        let is : found.post ≡ post = same_Some found.post post (sym found.there ∙ ap (slice_get posts) (sym same) ∙ there) in
        false≢true (sym (apart-name before.all before.numbers place k post.var variable numbering numbered stands apart)
        ∙ (bytes_eq-Decides post.var variable.name).1 (ap (λ (one : Post). one.var) (sym is) ∙ found.var_is))

    mailed-apart : (answer : Bool) (m : ℕ) → number ≢ m → was_mailed m (caught_if answer names number post own).mailed ≡ was_mailed m own.mailed
    mailed-apart true m far = was-other m number own.entries own.mailed far
    mailed-apart false m far = refl

-- the post with this number, whose variable is noted
record IsFound (names : List (List ℕ)) (posts : List Post) (client made number : ℕ) (answer : Bool) (before after : VariablesState) : Type 0 where
  post : Post
  place : ℕ
  there : slice_get posts number ≡ Some post
  noted : slice_get before.noted number ≡ Some place
  is : IsCaught client made post.stamp (name_of names post.source) place answer before after
  named : is.variable.name ≡ post.var

pub noted-length : (vars : List (List ℕ)) (variables : VariablesState) → AreNoted vars variables → length variables.noted ≡ length vars
noted-length vars variables are = sym (length-map variables.noted (name_at variables.all)) ∙ ap length are ∙ length-map vars (λ (v : List ℕ). Some v)

-- which variable a post is of
pub noted-name : (vars : List (List ℕ)) (variables : VariablesState) (number place : ℕ) (var : List ℕ) → AreNoted vars variables → slice_get variables.noted number ≡ Some place → slice_get vars number ≡ Some var →
    name_at variables.all place ≡ Some var
noted-name vars variables number place var are noted there =
    same_Some (name_at variables.all place) (Some var)
    (sym (slice_get-map (name_at variables.all) variables.noted number ∙ ap (option_map (name_at variables.all)) noted)
    ∙ ap (λ list. slice_get list number) are ∙ slice_get-map (λ (v : List ℕ). Some v) vars number ∙ ap (option_map (λ (v : List ℕ). Some v)) there)

module _ (names : List (List ℕ)) (posts : List Post) (client made number : ℕ) (answer : Bool) (before after : VariablesState) (origin : Origin) (source : List ℕ) (below : number < length posts)
    (origin_is : option_map origin_of (slice_get posts number) ≡ Some origin) (source_is : source ≡ name_of names origin.client) (noted : AreNoted (map (λ (post : Post). post.var) posts) before)
    (catches : (place : ℕ) → slice_get before.noted number ≡ Some place → IsCaught client made origin.stamp source place answer before after) where
  found : IsFound names posts client made number answer before after
  found =
      let vars : List (List ℕ) = map (λ (post : Post). post.var) posts in
      let one : (post : Post) × (slice_get posts number ≡ Some post) = found-below posts number below in
      let at : (place : ℕ) × (slice_get before.noted number ≡ Some place) = found-below before.noted number (omega (arith, noted-length vars before noted, length-map posts (λ (post : Post). post.var), below)) in
      let from : origin_of one.0 ≡ origin = same_Some (origin_of one.0) origin (sym (ap (option_map origin_of) one.1) ∙ origin_is) in
      let is : IsCaught client made one.0.stamp (name_of names one.0.source) at.0 answer before after
      = subst (λ (o : Origin). IsCaught client made o.stamp (name_of names o.client) at.0 answer before after) (sym from)
      (subst (λ s. IsCaught client made origin.stamp s at.0 answer before after) source_is (catches at.0 at.1)) in
      record {
        post = one.0;
        place = at.0;
        there = one.1;
        noted = at.1;
        is = is;
        named = same_Some is.variable.name one.0.var
            (sym (name-noted vars before number at.0 is.variable at.1 is.there noted) ∙ slice_get-map (λ (post : Post). post.var) posts number ∙ ap (option_map (λ (post : Post). post.var)) one.1);
      }

  -- All after the latest post with this number caught up, where it may.
  pub catch-one : IsLatestPost posts number → ((place : ℕ) (variable : VariableState) → slice_get before.noted number ≡ Some place → slice_get before.all place ≡ Some variable → is_recipient variable.recipients client ≡ false) →
      (states : List ClientState) (one other : ClientState) → slice_get states client ≡ Some one → other ≡ record (mailed_if answer number one) { spare = other.spare } →
      (inboxes : ℕ → Inbox) → StandsAt made (inboxes client) → AreKeptAs inboxes posts before states → AreKeptAs (with_inbox client (λ inbox. catch_number names posts inbox number) inboxes) posts after (set states client other)
  catch-one last fresh states one other had change inboxes at are =
      kept-caught names posts client number made found.place found.post answer inboxes before after states one other found.there at found.is found.named (last found.post found.there) had
      (fresh found.place found.is.variable found.noted found.is.there) change are

  pub catch-noted : AreNoted (map (λ (post : Post). post.var) posts) after
  catch-noted =
      let is = found.is in
      AreNoted-names (map (λ (post : Post). post.var) posts) before after
      (λ n. ap (λ all. name_at all n) is.all ∙ names-at before.all _ (set-names before.all found.place is.variable _ is.there refl) n) is.noted noted

-- the latest post of a variable was mailed to just its recipients
recipient-mailed : (count : ℕ) (inboxes : ℕ → Inbox) (posts : List Post) (client number place : ℕ) (post : Post) (variable : VariableState) (variables : VariablesState) → AreHeard count inboxes posts variables → client < count →
    slice_get variables.all place ≡ Some variable → variable.name ≡ post.var → latest_post_of post.var posts ≡ Some number → is_recipient variable.recipients client ≡ was_mailed number (inboxes client).mailed
recipient-mailed count inboxes posts client number place post variable variables are below there named last =
    (all-at (HasRecipients count inboxes) variables.all place variable are.recipients there).mailed client number below
    (all-at (HasLatest posts) variables.all place variable are.latest there ∙ ap (λ var. latest_post_of var posts) named ∙ last)

-- All after one that was mailed before: as it was.
pub catch-mailed : (names : List (List ℕ)) (posts : List Post) (client number : ℕ) (variables : VariablesState) (states : List ClientState) → client < length states → number < length posts → IsLatestPost posts number →
    AreNoted (map (λ (post : Post). post.var) posts) variables →
    ((place : ℕ) (variable : VariableState) → slice_get variables.noted number ≡ Some place → slice_get variables.all place ≡ Some variable → is_recipient variable.recipients client ≡ true) →
    (inboxes : ℕ → Inbox) → AreKeptAs inboxes posts variables states → AreKeptAs (with_inbox client (λ inbox. catch_number names posts inbox number) inboxes) posts variables states
catch-mailed names posts client number variables states own below last noted mailed inboxes are =
    let vars : List (List ℕ) = map (λ (post : Post). post.var) posts in
    let one : (post : Post) × (slice_get posts number ≡ Some post) = found-below posts number below in
    let at : (place : ℕ) × (slice_get variables.noted number ≡ Some place) = found-below variables.noted number (omega (arith, noted-length vars variables noted, length-map posts (λ (post : Post). post.var), below)) in
    let named : name_at variables.all at.0 ≡ Some one.0.var
    = noted-name vars variables number at.0 one.0.var noted at.1 (slice_get-map (λ (post : Post). post.var) posts number ∙ ap (option_map (λ (post : Post). post.var)) one.1) in
    let variable = named-at variables.all at.0 one.0.var named in
    let was : was_mailed number (inboxes client).mailed ≡ true
    = sym (recipient-mailed (length states) inboxes posts client number at.0 one.0 variable.0 variables are.heard own variable.1 variable.2 (last one.0 one.1)) ∙ mailed at.0 variable.0 at.1 variable.1 in
    subst (λ now. AreKeptAs now posts variables states)
    (sym (all-same client (λ inbox. catch_number names posts inbox number) inboxes inboxes (mailed-stays names posts (inboxes client) number was) (λ n apart. refl))) are

-- several, one after the other

at-caught : (names : List (List ℕ)) (posts : List Post) (made : ℕ) (inbox : Inbox) (number : ℕ) → StandsAt made inbox → StandsAt made (catch_number names posts inbox number)
at-caught names posts made inbox number at = through (slice_get posts number)
  where
    by : (b : Bool) (post : Post) → StandsAt made (if b then with_caught_up names inbox number post else inbox)
    by true post = at
    by false post = at

    through : (found : Option Post) → StandsAt made (catch_post names number inbox found)
    through None = at
    through (Some post) = by (list_any (is_new_for names inbox.entries post) inbox.lives && not (was_mailed number inbox.mailed)) post

at-all : (names : List (List ℕ)) (posts : List Post) (made : ℕ) (inbox : Inbox) (numbers : List ℕ) → StandsAt made inbox → StandsAt made (fold (catch_number names posts) inbox numbers)
at-all names posts made inbox [] at = at
at-all names posts made inbox (number ∷ numbers) at = at-all names posts made (catch_number names posts inbox number) numbers (at-caught names posts made inbox number at)

-- one more
pub catch-next : (names : List (List ℕ)) (posts : List Post) (client made number place : ℕ) (numbers : List ℕ) (before after : VariablesState) (states others : List ClientState) (inboxes : ℕ → Inbox) → slice_get numbers place ≡ Some number →
    ((now : ℕ → Inbox) → StandsAt made (now client) → AreKeptAs now posts before states → AreKeptAs (with_inbox client (λ inbox. catch_number names posts inbox number) now) posts after others) →
    StandsAt made (inboxes client) → AreKeptAs (with_inbox client (λ inbox. fold (catch_number names posts) inbox (take place numbers)) inboxes) posts before states →
    AreKeptAs (with_inbox client (λ inbox. fold (catch_number names posts) inbox (take (place + 1) numbers)) inboxes) posts after others
catch-next names posts client made number place numbers before after states others inboxes there step at are =
    let next : place + 1 ≡ suc place = omega arith in
    let so : Inbox → Inbox = λ inbox. fold (catch_number names posts) inbox (take place numbers) in
    let more : take (place + 1) numbers ≡ take place numbers ++ number ∷ [] = ap (λ n. take n numbers) next ∙ take-next numbers place number there in
    subst (λ now. AreKeptAs now posts after others)
    (changed-twice client so (λ inbox. catch_number names posts inbox number) inboxes
    ∙ ap (λ (change : Inbox → Inbox). with_inbox client change inboxes)
    (λ i inbox. sym (ap (fold (catch_number names posts) inbox) more ∙ fold-append (catch_number names posts) inbox (take place numbers) (number ∷ [])) i))
    (step (with_inbox client so inboxes) (subst (StandsAt made) (sym (at-client client so inboxes)) (at-all names posts made (inboxes client) (take place numbers) at)) are)
