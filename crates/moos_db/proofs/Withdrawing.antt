-- What is kept once a registration is withdrawn.
use Rattle.std.proofs.Common.{ℕ, ◌≡◌, ◌∙◌, ◌<◌, ◌≤◌, Bool, true, false, not, List, length, filter, set, slice_get, Some, refl, ap, sym, subst, arith, if◌then◌else◌}
use Rattle.std.specs.List.{All, list_any}
use Rattle.std.proofs.lemmas.Bool.{ne_eqb, not_from_false}
use Rattle.std.proofs.lemmas.List.{length-set}
use Rattle.std.proofs.lemmas.List.Elements.{All-filter}
use Rattle.moos_post.specs.declared.value.Post.{Post}
use Rattle.moos_post.specs.Delivery.{Inbox, Live, without_patterns}
use Rattle.moos_post.specs.Patterns.{matches}
use Rattle.moos_mail.proofs.Lists.{filter-all, filter-alike, filter-map, list_any-map, none-at}
use Rattle.moos_db.specs.Clients.{ClientState, IsClient, has_registration, is_with_patterns, registration_of, without_registration}
use Rattle.moos_db.specs.Subscriptions.{AreHeard, AreKeptAs, AreKnown, SubscriptionState, IsHeardBy, HasKnown, VariableState, VariablesState, subscriptions_of, is_registration, of_client, with_lives}
use Rattle.moos_db.specs.Registering.{AreStill, KeepsRoom, IsStill}
use Rattle.moos_db.specs.Withdrawing.{AreWithdrawn, IsWithdrawn, without_subscription}
use Rattle.moos_db.proofs.AfterRegistering.{each-set}
use Rattle.moos_db.proofs.Changes.{all-same, AreClients-set, at-each, heard-changed}
use Rattle.moos_db.proofs.Hearing.{subscriptions-unmatched, subscriptions-withdrawn, of_client-filter, others-stay}

if-name : (b : Bool) (subscriptions : List SubscriptionState) (variable : VariableState) → (if b then record variable { subscriptions = subscriptions } else variable).name ≡ variable.name
if-name true subscriptions variable = refl
if-name false subscriptions variable = refl

if-still : (b : Bool) (subscriptions : List SubscriptionState) (room : ℕ) (variable : VariableState) →
    record (if b then record variable { subscriptions = subscriptions } else variable) { room = room } ≡ record variable { subscriptions = (if b then record variable { subscriptions = subscriptions } else variable).subscriptions; room = room }
if-still true subscriptions room variable = refl
if-still false subscriptions room variable = refl

pub withdrawn-name : (client : ℕ) (var source : List ℕ) (one other : VariableState) → IsWithdrawn client var source one other → other.name ≡ one.name
withdrawn-name client var source one other is =
    ap (λ (v : VariableState). v.name) is.same ∙ if-name (matches var one.name) (filter (λ subscription. not (is_registration client var source subscription)) one.subscriptions) one

withdrawn-still : (client : ℕ) (var source : List ℕ) (one other : VariableState) → IsWithdrawn client var source one other → IsStill 0 one other
withdrawn-still client var source one other is =
    let same : other ≡ record one { subscriptions = (without_subscription client var source one).subscriptions; room = other.room }
    = is.same ∙ if-still (matches var one.name) (filter (λ subscription. not (is_registration client var source subscription)) one.subscriptions) other.room one in
    record {
      same = same ∙ ap (λ subscriptions. record one { subscriptions = subscriptions; room = other.room }) (sym (ap (λ (v : VariableState). v.subscriptions) same));
      room = let more : one.room ≤ other.room = is.room in omega arith;
    }

-- The client's registration with these patterns is withdrawn.
module _ (client : ℕ) (var source : List ℕ) (inboxes : ℕ → Inbox) where
  abbrev left : Inbox → Inbox
  left inbox = record inbox { lives = without_patterns var source inbox.lives }

  abbrev now : ℕ → Inbox
  now = with_lives client (without_patterns var source) inboxes

  -- it hears through those that are left, and each other client as before
  heard-withdrawn : (clients : ℕ) (one other : VariableState) → IsWithdrawn client var source one other → IsHeardBy clients inboxes one → IsHeardBy clients now other
  heard-withdrawn clients one other is heard = subst (IsHeardBy clients now) (sym is.same) (through (matches var one.name) refl)
    where
      stays : SubscriptionState → Bool
      stays subscription = not (is_registration client var source subscription)

      through : (b : Bool) → matches var one.name ≡ b → IsHeardBy clients now (record (if b then record one { subscriptions = filter stays one.subscriptions } else one) { room = other.room })
      through true matched = record {
        each = λ number below. of_client-filter number stays one.subscriptions
            ∙ at-each client left inboxes (λ n inbox. n < clients → filter stays (of_client n one.subscriptions) ≡ subscriptions_of n one.name inbox.lives)
            (λ low. ap (filter stays) (heard.each client low) ∙ subscriptions-withdrawn client var source one.name (inboxes client).lives)
            (λ n apart low. others-stay client n var source one.subscriptions (ne_eqb n client apart) ∙ heard.each n low) number below;
        within = All-filter stays (λ (subscription : SubscriptionState). subscription.client < clients) one.subscriptions heard.within;
      }
      through false none = record {
        each = at-each client left inboxes (λ n inbox. n < clients → of_client n one.subscriptions ≡ subscriptions_of n one.name inbox.lives)
            (λ low. heard.each client low ∙ sym (subscriptions-unmatched client var source one.name (inboxes client).lives none)) (λ n apart. heard.each n);
        within = heard.within;
      }

  AreHeard-withdrawn : (clients : ℕ) (posts : List Post) (variables more : VariablesState) → AreWithdrawn client var source variables more → AreHeard clients inboxes posts variables → AreHeard clients now posts more
  AreHeard-withdrawn clients posts variables more is are =
      heard-changed clients inboxes now posts variables more
      (record {
        each = is.all.each;
        same = λ n one other was so.
            let gone : IsWithdrawn client var source one other = is.all.same n one other was so in
            record {
              name = withdrawn-name client var source one other gone;
              latest = ap (λ (v : VariableState). v.latest) (withdrawn-still client var source one other gone).same;
              recipients = ap (λ (v : VariableState). v.recipients) (withdrawn-still client var source one other gone).same;
              heard = heard-withdrawn clients one other gone;
            };
      })
      (at-each client left inboxes (λ n inbox. inbox.mailed ≡ (inboxes n).mailed) refl (λ n apart. refl))
      (subst (AreKnown clients now) (sym is.numbers)
      (at-each client left inboxes (λ n inbox. n < clients → All (HasKnown variables.numbers) inbox.lives)
      (λ low. All-filter (λ live. not (is_with_patterns var source (registration_of live))) (HasKnown variables.numbers) (inboxes client).lives (are.known client low)) (λ n apart. are.known n)))
      are

  pub AreKeptAs-withdrawn : (posts : List Post) (variables more : VariablesState) (clients : List ClientState) (one : ClientState) (room : ℕ) → slice_get clients client ≡ Some one → AreWithdrawn client var source variables more →
      AreKeptAs inboxes posts variables clients → AreKeptAs now posts more (set clients client (record one { lives = without_registration var source one.lives; room = room }))
  AreKeptAs-withdrawn posts variables more clients one room there gone are =
      let is : IsClient (inboxes client) one = are.clients client one there in
      let other : ClientState = record one { lives = without_registration var source one.lives; room = room } in
      record {
        clients = AreClients-set client left inboxes clients other (record {
          lives = ap (without_registration var source) is.lives ∙ filter-map (λ live. not (is_with_patterns var source live)) registration_of (inboxes client).lives;
          waits = is.waits;
        }) are.clients;
        heard = subst (λ n. AreHeard n now posts more) (sym (length-set clients client other)) (AreHeard-withdrawn (length clients) posts variables more gone are.heard);
      }

  -- It has no such registration.
  pub AreKeptAs-none : (posts : List Post) (variables : VariablesState) (clients : List ClientState) (one : ClientState) → slice_get clients client ≡ Some one → has_registration var source one.lives ≡ false →
      AreKeptAs inboxes posts variables clients → AreKeptAs now posts variables clients
  AreKeptAs-none posts variables clients one there none are =
      let lives : List Live = (inboxes client).lives in
      let has : Live → Bool = λ live. is_with_patterns var source (registration_of live) in
      let nobody : list_any has lives ≡ false
      = sym (list_any-map (is_with_patterns var source) registration_of lives) ∙ ap (list_any (is_with_patterns var source)) (sym (are.clients client one there).lives) ∙ none in
      let all : without_patterns var source lives ≡ lives
      = filter-alike (λ live. not (has live)) (λ live. true) lives (λ k d within. not_from_false _ (none-at has lives k d nobody within)) ∙ filter-all (λ live. true) lives (λ live. refl) in
      subst (λ same. AreKeptAs same posts variables clients) (sym (all-same client left inboxes inboxes (ap (λ lives. record (inboxes client) { lives = lives }) all) (λ n apart. refl))) are

pub AreStill-withdrawn : (client : ℕ) (var source : List ℕ) (variables more : VariablesState) (clients : List ClientState) (one other : ClientState) → slice_get clients client ≡ Some one → KeepsRoom 0 one other →
    AreWithdrawn client var source variables more → AreStill 0 variables more clients (set clients client other)
AreStill-withdrawn client var source variables more clients one other there ready gone = record {
  variables = record { each = gone.all.each; same = λ number first second at is. withdrawn-still client var source first second (gone.all.same number first second at is) };
  clients = each-set (λ n. KeepsRoom 0) clients client one other (λ n state apart. record { room = omega arith; spare = omega arith }) there ready;
  numbers = gone.numbers;
}
