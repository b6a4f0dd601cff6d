-- What is kept of a client and who hears the variables after it made a registration.
use Rattle.std.proofs.Common.{◌≡◌, ◌≢◌, ◌∙◌, ◌<◌, ◌≤◌, ◌+◌, ◌==◌, ℕ, zero, suc, Bool, true, false, cond, List, [], ◌∷◌, ◌++◌, length, map, filter, None, Some, option_map, fold, slice_get, slice_set, append-nil, refl, ap, sym, subst, arith, inl, inr, if◌then◌else◌}
use Rattle.std.specs.List.{All}
use Rattle.std.proofs.lemmas.Bool.{cases_Bool, eqb-false, eqb-true, ne_eqb}
use Rattle.std.proofs.lemmas.List.{length-set, map-append}
use Rattle.std.proofs.lemmas.List.Elements.{All-append, All-cons, All-nil, All-push}
use Rattle.std.proofs.lemmas.List.Sums.{fold-append}
use Rattle.std.proofs.lemmas.Option.{same_Some, slice_get-map, slice_get_within}
use Rattle.moos_mail.proofs.Lists.{found-below}
use Rattle.moos_mail.proofs.Standing.{new_live}
use Rattle.moos_post.specs.declared.value.Post.{Post}
use Rattle.moos_post.specs.Delivery.{Inbox, Live}
use Rattle.moos_post.specs.Patterns.{matches}
use Rattle.moos_db.specs.declared.registration.Registration.{Registration}
use Rattle.moos_db.specs.Clients.{ClientState, IsClient, registration_of}
use Rattle.moos_db.specs.Subscriptions.{AreHeard, AreKeptAs, AreKnown, SubscriptionState, IsHeardBy, HasKnown, VariableState, VariablesState, fresh_subscription, fresh_subscriptions, subscriptions_of, of_client, with_lives}
use Rattle.moos_db.specs.Registering.{AreEach, AreEachAt, AreStill, HasRoomThrough, HaveRoomFor, Heard, IsAddedTo, IsPrepared, KeepsRoom, IsStill, PreparedState, heard_at_number, heard_through, heard_where, variable_names, with_prepared}
use Rattle.moos_db.proofs.AfterRegistering.{at-append, at-other, at-own, each-refl, each-set, each-then}
use Rattle.moos_db.proofs.Changes.{AreClients-set, at-each, changed-twice, each-shown, heard-changed, IsHeardSo}
use Rattle.moos_db.proofs.Hearing.{fresh-within, subscriptions-more, others-more, own-more}

-- who is to hear a variable

where-own : (client : ℕ) (live : Registration) (number : ℕ) (name : List ℕ) → heard_at_number number (heard_where client live number name) ≡ fresh_subscriptions client name (live ∷ [])
where-own client live number name = by (matches live.reg.var name)
  where
    by : (b : Bool) → heard_at_number number (if b then (number, fresh_subscription client live) ∷ [] else []) ≡ map (fresh_subscription client) (cond b (live ∷ []) [])
    by true = at-own number (fresh_subscription client live) []
    by false = refl

where-other : (client : ℕ) (live : Registration) (number other : ℕ) (name : List ℕ) → other ≢ number → heard_at_number other (heard_where client live number name) ≡ []
where-other client live number other name apart = by (matches live.reg.var name)
  where
    by : (b : Bool) → heard_at_number other (if b then (number, fresh_subscription client live) ∷ [] else []) ≡ []
    by true = at-other number other (fresh_subscription client live) apart
    by false = refl

through-other : (client : ℕ) (live : Registration) (from number : ℕ) (name : List ℕ) (names : List (List ℕ)) → number ≢ from →
    heard_at_number number (heard_through client live from (name ∷ names)) ≡ heard_at_number number (heard_through client live (suc from) names)
through-other client live from number name names apart =
    at-append number (heard_where client live from name) (heard_through client live (suc from) names)
    ∙ ap (λ front. front ++ heard_at_number number (heard_through client live (suc from) names)) (where-other client live from number name apart)

through-past : (client : ℕ) (live : Registration) (from number : ℕ) (names : List (List ℕ)) → number < from → heard_at_number number (heard_through client live from names) ≡ []
through-past client live from number [] below = refl
through-past client live from number (name ∷ names) below = through-other client live from number name names (λ same. omega (arith, same)) ∙ through-past client live (suc from) number names (omega arith)

through-own : (client : ℕ) (live : Registration) (from : ℕ) (name : List ℕ) (names : List (List ℕ)) → heard_at_number from (heard_through client live from (name ∷ names)) ≡ fresh_subscriptions client name (live ∷ [])
through-own client live from name names =
    at-append from (heard_where client live from name) (heard_through client live (suc from) names)
    ∙ ap (λ rest. heard_at_number from (heard_where client live from name) ++ rest) (through-past client live (suc from) from names (omega arith))
    ∙ append-nil (heard_at_number from (heard_where client live from name)) ∙ where-own client live from name

through-at : (client : ℕ) (live : Registration) (from number : ℕ) (names : List (List ℕ)) (name : List ℕ) → slice_get names number ≡ Some name →
    heard_at_number (from + number) (heard_through client live from names) ≡ fresh_subscriptions client name (live ∷ [])
through-at client live from number [] name there = absurd (let e : None ≡ Some name = there in cc)
through-at client live from zero (one ∷ names) name there =
    ap (λ n. heard_at_number n (heard_through client live from (one ∷ names))) (let e : from + 0 ≡ from = omega arith in e)
    ∙ through-own client live from one names ∙ ap (λ name. fresh_subscriptions client name (live ∷ [])) (same_Some one name there)
through-at client live from (suc number) (one ∷ names) name there =
    through-other client live from (from + suc number) one names (λ same. omega (arith, same))
    ∙ ap (λ n. heard_at_number n (heard_through client live (suc from) names)) (let e : from + suc number ≡ suc from + number = omega arith in e) ∙ through-at client live (suc from) number names name there

through-few : (client : ℕ) (live : Registration) (from number : ℕ) (names : List (List ℕ)) → length (heard_at_number number (heard_through client live from names)) ≤ 1
through-few client live from number [] = omega arith
through-few client live from number (name ∷ names) = elim (cases_Bool (number == from)) [
  | inl same ↦
      subst (λ n. length (heard_at_number n (heard_through client live from (name ∷ names))) ≤ 1) (sym (eqb-true number from same))
      (subst (λ (subscriptions : List SubscriptionState). length subscriptions ≤ 1) (sym (through-own client live from name names)) (by (matches live.reg.var name)))
  | inr apart ↦ subst (λ (subscriptions : List SubscriptionState). length subscriptions ≤ 1) (sym (through-other client live from number name names (eqb-false number from apart))) (through-few client live (suc from) number names)
]
  where
    by : (b : Bool) → length (map (fresh_subscription client) (cond b (live ∷ []) [])) ≤ 1
    by true = omega arith
    by false = omega arith

pub through-within : (client : ℕ) (live : Registration) (from : ℕ) (names : List (List ℕ)) (end : ℕ) → from + length names ≤ end → All (λ (one : Heard). one.0 < end) (heard_through client live from names)
through-within client live from [] end below = All-nil (λ (one : Heard). one.0 < end)
through-within client live from (name ∷ names) end below =
    All-append (λ (one : Heard). one.0 < end) (heard_where client live from name) (heard_through client live (suc from) names) (by (matches live.reg.var name)) (through-within client live (suc from) names end (omega arith))
  where
    by : (b : Bool) → All (λ (one : Heard). one.0 < end) (if b then (from, fresh_subscription client live) ∷ [] else [])
    by true = All-cons (λ (one : Heard). one.0 < end) (from, fresh_subscription client live) [] (omega (arith, below)) (All-nil (λ (one : Heard). one.0 < end))
    by false = All-nil (λ (one : Heard). one.0 < end)

-- who is to hear the variable with this number
through-named : (client : ℕ) (live : Registration) (variables : List VariableState) (number : ℕ) (variable : VariableState) → slice_get variables number ≡ Some variable →
    heard_at_number number (heard_through client live 0 (variable_names variables)) ≡ fresh_subscriptions client variable.name (live ∷ [])
through-named client live variables number variable there =
    ap (λ n. heard_at_number n (heard_through client live 0 (variable_names variables))) (let e : number ≡ 0 + number = omega arith in e)
    ∙ through-at client live 0 number (variable_names variables) variable.name (slice_get-map (λ (one : VariableState). one.name) variables number ∙ ap (option_map (λ (one : VariableState). one.name)) there)

-- there is room for all of them where there is with each variable that matches
pub room-through : (client : ℕ) (live : Registration) (before after : List VariableState) → AreEach (IsStill 0) before after → HasRoomThrough 1 live.reg.var before →
    HaveRoomFor (heard_through client live 0 (variable_names after)) after
room-through client live before after still room number variable there =
    let had : (x : VariableState) × (slice_get before number ≡ Some x) = found-below before number (omega (arith, still.each, slice_get_within after number variable there)) in
    let is : IsStill 0 had.0 variable = still.same number had.0 variable had.1 there in
    let name : variable.name ≡ had.0.name = ap (λ (v : VariableState). v.name) is.same in
    let more : matches live.reg.var variable.name ≡ true → 1 ≤ variable.room
    = λ matched. let h : 1 ≤ had.0.room = room number had.0 had.1 (ap (matches live.reg.var) (sym name) ∙ matched) in omega (arith, h, is.room) in
    subst (λ (subscriptions : List SubscriptionState). length subscriptions ≤ variable.room) (sym (through-named client live after number variable there)) (by (matches live.reg.var variable.name) more)
  where
    by : (b : Bool) → (b ≡ true → 1 ≤ variable.room) → length (map (fresh_subscription client) (cond b (live ∷ []) [])) ≤ variable.room
    by true more = more refl
    by false more = omega arith

-- the names stay
pub still-names : (used : ℕ) (before after : List VariableState) → AreEach (IsStill used) before after → variable_names after ≡ variable_names before
still-names used before after still =
    each-shown (λ (variable : VariableState). variable.name) before after
    (record { each = still.each; same = λ n one other was now. ap (λ (variable : VariableState). variable.name) (still.same n one other was now).same })

-- All after the client made a registration.
module _ (client : ℕ) (live : Registration) (inboxes : ℕ → Inbox) where
  abbrev more : List Live → List Live
  more lives = lives ++ new_live live.made live.reg ∷ []

  abbrev made : Inbox → Inbox
  made inbox = record inbox { lives = more inbox.lives }

  variable-made : (clients : ℕ) (variable other : VariableState) → client < clients → other ≡ record variable { subscriptions = variable.subscriptions ++ fresh_subscriptions client variable.name (live ∷ []); room = other.room } →
      IsHeardSo clients inboxes (with_lives client more inboxes) variable other
  variable-made clients variable other below same =
      let own : List Registration = filter (λ one. matches one.reg.var variable.name) (live ∷ []) in
      record {
        name = ap (λ (v : VariableState). v.name) same;
        latest = ap (λ (v : VariableState). v.latest) same;
        recipients = ap (λ (v : VariableState). v.recipients) same;
        heard = λ heard. subst (IsHeardBy clients (with_lives client more inboxes)) (sym same) (record {
          each = at-each client made inboxes (λ n inbox. n < clients → of_client n (variable.subscriptions ++ fresh_subscriptions client variable.name (live ∷ [])) ≡ subscriptions_of n variable.name inbox.lives)
              (λ low. own-more client variable.subscriptions own ∙ ap (λ front. front ++ fresh_subscriptions client variable.name (live ∷ [])) (heard.each client low) ∙ sym (subscriptions-more client variable.name (inboxes client).lives live))
              (λ n apart low. others-more client n variable.subscriptions own (ne_eqb client n (λ same. apart (sym same))) ∙ heard.each n low);
          within = All-append (λ (subscription : SubscriptionState). subscription.client < clients) variable.subscriptions (fresh_subscriptions client variable.name (live ∷ [])) heard.within (fresh-within client clients own below);
        });
      }

  pub kept-made : (posts : List Post) (before after : VariablesState) (states : List ClientState) (one other : ClientState) →
      AreEachAt (IsAddedTo (heard_through client live 0 (variable_names before.all))) before.all after.all → after.numbers ≡ before.numbers → slice_get states client ≡ Some one →
      other ≡ record one { lives = one.lives ++ live ∷ []; room = other.room } → AreKeptAs inboxes posts before states → AreKeptAs (with_lives client more inboxes) posts after (slice_set states client other)
  kept-made posts before after states one other added numbers had change are =
      let below : client < length states = slice_get_within states client one had in
      let is : IsClient (inboxes client) one = are.clients client one had in
      record {
        clients = AreClients-set client made inboxes states other (record {
          lives = ap (λ (c : ClientState). c.lives) change ∙ ap (λ lives. lives ++ live ∷ []) is.lives ∙ sym (map-append registration_of (inboxes client).lives (new_live live.made live.reg ∷ []));
          waits = ap (λ (c : ClientState). c.waits) change ∙ is.waits;
        }) are.clients;
        heard =
            subst (λ count. AreHeard count (with_lives client more inboxes) posts after) (sym (length-set states client other))
            (heard-changed (length states) inboxes (with_lives client more inboxes) posts before after
            (record {
              each = added.each;
              same = λ n was is first last.
                  let so : IsAddedTo (heard_through client live 0 (variable_names before.all)) n was is = added.same n was is first last in
                  variable-made (length states) was is below (so.same ∙ ap (λ subscriptions. record was { subscriptions = was.subscriptions ++ subscriptions; room = is.room }) (through-named client live before.all n was first));
            })
            (at-each client made inboxes (λ n inbox. inbox.mailed ≡ (inboxes n).mailed) refl (λ n apart. refl))
            (subst (AreKnown (length states) (with_lives client more inboxes)) (sym numbers)
            (at-each client made inboxes (λ n inbox. n < length states → All (HasKnown before.numbers) inbox.lives)
            (λ low. All-push (HasKnown before.numbers) (inboxes client).lives (new_live live.made live.reg) (are.heard.known client low) (λ var none. refl)) (λ n apart. are.heard.known n)))
            are.heard);
      }

-- what stays the same
pub still-made : (client : ℕ) (live : Registration) (first before after : VariablesState) (clients states : List ClientState) (one other : ClientState) →
    AreStill 0 first before clients states → AreEachAt (IsAddedTo (heard_through client live 0 (variable_names before.all))) before.all after.all → after.numbers ≡ before.numbers → slice_get states client ≡ Some one →
    other ≡ record one { lives = one.lives ++ live ∷ []; room = other.room } → one.room ≤ other.room + 1 → AreStill 1 first after clients (slice_set states client other)
still-made client live first before after clients states one other still added numbers had change room = record {
  variables =
      each-then (λ n. IsStill 0) (IsAddedTo (heard_through client live 0 (variable_names before.all))) (λ n. IsStill 1) first.all before.all after.all
      (λ n x y z was is. record {
        same = is.same ∙ ap (λ (v : VariableState). record v { subscriptions = y.subscriptions ++ heard_at_number n (heard_through client live 0 (variable_names before.all)); room = z.room }) was.same
            ∙ ap (λ (v : VariableState). record x { subscriptions = v.subscriptions; room = z.room }) (sym is.same);
        room = omega (arith, was.room, is.room, through-few client live 0 n (variable_names before.all));
      }) still.variables added;
  clients =
      each-then (λ n. KeepsRoom 0) (λ n. KeepsRoom 1) (λ n. KeepsRoom 1) clients states (slice_set states client other)
      (λ n x y z was is. record { room = omega (arith, was.room, is.room); spare = omega (arith, was.spare, is.spare) }) still.clients
      (each-set (λ n. KeepsRoom 1) states client one other (λ n x apart. record { room = omega arith; spare = omega arith }) had
      (record { room = room; spare = (let e : other.spare ≡ one.spare = ap (λ (c : ClientState). c.spare) change in omega arith) }));
  numbers = numbers ∙ still.numbers;
}

-- the next is still prepared
pub ready-next : (client more used : ℕ) (before now : List VariableState) (one : PreparedState) → IsPrepared client more before one → AreEach (IsStill used) before now → used + 1 ≤ more → IsPrepared client 1 now one
ready-next client more used before now one ready still left = record {
  subscriptions = ready.subscriptions ∙ ap (heard_through client one.live 0) (sym (still-names used before now still));
  room = λ number variable there matched.
      let had : (x : VariableState) × (slice_get before number ≡ Some x) = found-below before number (omega (arith, still.each, slice_get_within now number variable there)) in
      let is : IsStill used had.0 variable = still.same number had.0 variable had.1 there in
      let name : variable.name ≡ had.0.name = ap (λ (v : VariableState). v.name) is.same in
      let h : more ≤ had.0.room = ready.room number had.0 had.1 (ap (matches one.live.reg.var) (sym name) ∙ matched) in
      omega (arith, h, is.room);
}

pub still-more : (used : ℕ) (first before after : VariablesState) (clients states others : List ClientState) → AreStill used first before clients states → AreStill 1 before after states others → AreStill (used + 1) first after clients others
still-more used first before after clients states others was is = record {
  variables = each-then (λ n. IsStill used) (λ n. IsStill 1) (λ n. IsStill (used + 1)) first.all before.all after.all
      (λ n x y z one two. record {
        same = two.same ∙ ap (λ (v : VariableState). record v { subscriptions = z.subscriptions; room = z.room }) one.same;
        room = omega (arith, one.room, two.room);
      }) was.variables is.variables;
  clients = each-then (λ n. KeepsRoom used) (λ n. KeepsRoom 1) (λ n. KeepsRoom (used + 1)) clients states others
      (λ n x y z one two. record { room = omega (arith, one.room, two.room); spare = omega (arith, one.spare, two.spare) }) was.clients is.clients;
  numbers = is.numbers ∙ was.numbers;
}

pub still-none : (variables : VariablesState) (clients : List ClientState) → AreStill 0 variables variables clients clients
still-none variables clients = record {
  variables = each-refl (λ n. IsStill 0) variables.all (λ n x. record { same = refl; room = omega arith });
  clients = each-refl (λ n. KeepsRoom 0) clients (λ n x. record { room = omega arith; spare = omega arith });
  numbers = refl;
}

-- several registrations, one after the other

pub lives-twice : (client : ℕ) (first second : List Live → List Live) (inboxes : ℕ → Inbox) → with_lives client second (with_lives client first inboxes) ≡ with_lives client (λ lives. second (first lives)) inboxes
lives-twice client first second = changed-twice client (λ inbox. record inbox { lives = first inbox.lives }) (λ inbox. record inbox { lives = second inbox.lives })

pub kept-next : (client : ℕ) (all : List PreparedState) (one : PreparedState) (before after : VariablesState) (states others : List ClientState) (inboxes : ℕ → Inbox) (posts : List Post) →
    ((now : ℕ → Inbox) (posts : List Post) → AreKeptAs now posts before states → AreKeptAs (with_lives client (λ lives. with_prepared lives one) now) posts after others) →
    AreKeptAs (with_lives client (λ lives. fold with_prepared lives all) inboxes) posts before states →
    AreKeptAs (with_lives client (λ lives. fold with_prepared lives (all ++ one ∷ [])) inboxes) posts after others
kept-next client all one before after states others inboxes posts step are =
    subst (λ now. AreKeptAs now posts after others)
    (lives-twice client (λ lives. fold with_prepared lives all) (λ lives. with_prepared lives one) inboxes
    ∙ ap (λ (change : List Live → List Live). with_lives client change inboxes) (λ i lives. sym (fold-append with_prepared lives all (one ∷ [])) i))
    (step (with_lives client (λ lives. fold with_prepared lives all) inboxes) posts are)
