-- What a call that isn't a post leaves of what is kept of the clients.
use Rattle.std.proofs.Common.{ℕ, ◌≡◌, ◌∙◌, suc, List, [], ◌∷◌, ◌++◌, fold, length, map, set, slice_get, Some, inl, inr, append-nil, refl, ap, sym, subst}
use Rattle.std.specs.List.{All}
use Rattle.std.proofs.lemmas.List.{length-set}
use Rattle.std.proofs.lemmas.List.Concat.{flat_map-append}
use Rattle.std.proofs.lemmas.List.Elements.{All-weaker}
use Rattle.std.proofs.lemmas.List.Sums.{fold-append}
use Rattle.moos_post.specs.declared.entry.Call.TheVariants.{Unregister, Fetch}
use Rattle.moos_post.specs.declared.entry.Entry.{Entry}
use Rattle.moos_post.specs.declared.value.Post.{Post}
use Rattle.moos_post.specs.Delivery.{empty_inbox, Inbox, inbox_of, mail_after, waiting, was_mailed, with_entry, with_own, with_post, without_patterns}
use Rattle.moos_post.specs.History.{History, posts_of, posts_of_entry}
use Rattle.moos_mail.proofs.Joined.{none_waits}
use Rattle.moos_mail.proofs.Orderly.{settled-inbox_of}
use Rattle.moos_db.specs.Clients.{ClientState, IsClient, registration_of}
use Rattle.moos_db.specs.Subscriptions.{AreHeard, AreKeptAs, AreNoted, HasRecipients, IsHeardBy, HasKnown, VariableState, VariablesState, subscriptions_of, with_inbox, with_lives}
use Rattle.moos_db.specs.Places.{AreKept, inboxes_after}
use Rattle.moos_db.specs.Registering.{AreStill, IsStill}
use Rattle.moos_db.proofs.Changes.{AreClients-set, AreNoted-names, at-each, names-each, set-cases}

-- the inbox after one entry more
pub next-inbox : (names : List (List ℕ)) (history : History) (entry : Entry) (client : ℕ) → inboxes_after names (history ++ entry ∷ []) client ≡ with_entry names client (inbox_of names client history) entry
next-inbox names history entry client = fold-append (with_entry names client) empty_inbox history (entry ∷ [])

-- the same is kept of both
pub record IsAlike (inbox other : Inbox) : Type 0 where
  pub lives : other.lives ≡ inbox.lives
  pub mailed : other.mailed ≡ inbox.mailed
  pub waits : waiting other ≡ waiting inbox

AreHeard-alike : (clients : ℕ) (inboxes others : ℕ → Inbox) (posts : List Post) (variables : VariablesState) → ((client : ℕ) → (others client).lives ≡ (inboxes client).lives) →
    ((client : ℕ) → (others client).mailed ≡ (inboxes client).mailed) → AreHeard clients inboxes posts variables → AreHeard clients others posts variables
AreHeard-alike clients inboxes others posts variables alike mailed held = record {
  heard = All-weaker (IsHeardBy clients inboxes) (IsHeardBy clients others)
      (λ variable heard. record { each = λ client below. heard.each client below ∙ ap (subscriptions_of client variable.name) (sym (alike client)); within = heard.within }) variables.all held.heard;
  latest = held.latest;
  recipients = All-weaker (HasRecipients clients inboxes) (HasRecipients clients others)
      (λ variable has. record { each = has.each; mailed = λ client number below latest. has.mailed client number below latest ∙ ap (was_mailed number) (sym (mailed client)) }) variables.all held.recipients;
  known = λ client below. subst (All (HasKnown variables.numbers)) (sym (alike client)) (held.known client below);
}

pub AreKeptAs-alike : (inboxes others : ℕ → Inbox) (posts : List Post) (variables : VariablesState) (clients : List ClientState) → ((client : ℕ) → IsAlike (inboxes client) (others client)) →
    AreKeptAs inboxes posts variables clients → AreKeptAs others posts variables clients
AreKeptAs-alike inboxes others posts variables clients alike held = record {
  clients = λ number client there. record {
    lives = (held.clients number client there).lives ∙ ap (map registration_of) (sym (alike number).lives);
    waits = (held.clients number client there).waits ∙ sym (alike number).waits;
  };
  heard = AreHeard-alike (length clients) inboxes others posts variables (λ client. (alike client).lives) (λ client. (alike client).mailed) held.heard;
}

pub no-posts : (history : History) (entry : Entry) → posts_of_entry entry ≡ [] → posts_of (history ++ entry ∷ []) ≡ posts_of history
no-posts history entry none = flat_map-append posts_of_entry history (entry ∷ []) ∙ ap (λ more. posts_of history ++ (more ++ [])) none ∙ append-nil (posts_of history)

-- The parts of a database after an entry that makes no posts, where they are what its client's own inbox says.
pub AreKept-quiet : (names : List (List ℕ)) (history : History) (entry : Entry) (variables more : VariablesState) (clients others : List ClientState) → posts_of_entry entry ≡ [] → length others ≡ length clients →
    ((vars : List (List ℕ)) → AreNoted vars variables → AreNoted vars more) → AreKept names history variables clients →
    AreKeptAs (with_inbox entry.client (λ inbox. with_own names inbox entry.call) (inboxes_after names history)) (posts_of history) more others → AreKept names (history ++ entry ∷ []) more others
AreKept-quiet names history entry variables more clients others none each noted before held =
    let own : ℕ → Inbox = with_inbox entry.client (λ inbox. with_own names inbox entry.call) (inboxes_after names history) in
    record {
      few = before.few;
      each = each ∙ before.each;
      kept = subst (λ posts. AreKeptAs (inboxes_after names (history ++ entry ∷ [])) posts more others) (sym (no-posts history entry none))
          (AreKeptAs-alike own (inboxes_after names (history ++ entry ∷ [])) (posts_of history) more others
          (λ client. subst (IsAlike (own client))
          (sym (next-inbox names history entry client ∙ ap (λ posts. record (fold (with_post names) (own client) posts) { entries = suc (inbox_of names client history).entries }) none))
          (record { lives = refl; mailed = refl; waits = refl })) held);
      noted = subst (λ posts. AreNoted (map (λ (post : Post). post.var) posts) more) (sym (no-posts history entry none)) (noted (map (λ (post : Post). post.var) (posts_of history)) before.noted);
    }

-- a fetch

pub AreKept-fetch : (names : List (List ℕ)) (history : History) (stamp client : ℕ) (variables : VariablesState) (clients : List ClientState) (one : ClientState) (spare : ℕ) → slice_get clients client ≡ Some one →
    AreKept names history variables clients → AreKept names (history ++ record { stamp = stamp; client = client; call = Fetch } ∷ []) variables (set clients client (record one { waits = []; spare = spare }))
AreKept-fetch names history stamp client variables clients one spare there before =
    let inboxes : ℕ → Inbox = inboxes_after names history in
    let fetches : Inbox → Inbox = λ inbox. with_own names inbox Fetch in
    let is : IsClient (inboxes client) one = before.kept.clients client one there in
    let other : ClientState = record one { waits = []; spare = spare } in
    AreKept-quiet names history (record { stamp = stamp; client = client; call = Fetch }) variables variables clients (set clients client other) refl (length-set clients client other) (λ vars noted. noted) before
    (record {
      clients = AreClients-set client fetches inboxes clients other
          (record { lives = is.lives; waits = sym (none_waits (inboxes client) (settled-inbox_of names client history)) }) before.kept.clients;
      heard = subst (λ n. AreHeard n (with_inbox client fetches inboxes) (posts_of history) variables) (sym (length-set clients client other))
          (AreHeard-alike (length clients) inboxes (with_inbox client fetches inboxes) (posts_of history) variables (at-each client fetches inboxes (λ n inbox. inbox.lives ≡ (inboxes n).lives) refl (λ n apart. refl))
          (at-each client fetches inboxes (λ n inbox. inbox.mailed ≡ (inboxes n).mailed) refl (λ n apart. refl)) before.kept.heard);
    })

-- more room with a client, or less
pub AreKept-room : (names : List (List ℕ)) (history : History) (client : ℕ) (variables : VariablesState) (clients : List ClientState) (one other : ClientState) → slice_get clients client ≡ Some one →
    other ≡ record one { spare = other.spare; room = other.room } → AreKept names history variables clients → AreKept names history variables (set clients client other)
AreKept-room names history client variables clients one other there same are =
    let inboxes : ℕ → Inbox = inboxes_after names history in
    let is : IsClient (inboxes client) one = are.kept.clients client one there in
    record {
      few = are.few;
      each = length-set clients client other ∙ are.each;
      kept = record {
        clients = λ number state found. elim (set-cases clients client number other state found) [
          | inl own ↦ subst (λ n. IsClient (inboxes n) state) (sym own.0) (subst (IsClient (inboxes client)) (sym own.1) (record {
            lives = ap (λ (c : ClientState). c.lives) same ∙ is.lives;
            waits = ap (λ (c : ClientState). c.waits) same ∙ is.waits;
          }))
          | inr apart ↦ are.kept.clients number state apart.1
        ];
        heard = subst (λ n. AreHeard n inboxes (posts_of history) variables) (sym (length-set clients client other)) are.kept.heard;
      };
      noted = are.noted;
    }

-- what waits for the client is its mail
pub AreKept-mail : (names : List (List ℕ)) (history : History) (client : ℕ) (variables : VariablesState) (clients : List ClientState) (one : ClientState) → slice_get clients client ≡ Some one →
    AreKept names history variables clients → one.waits ≡ mail_after names client history
AreKept-mail names history client variables clients one there before = (before.kept.clients client one there).waits

-- The parts of a database after a call that withdraws.
pub AreKept-unregister : (names : List (List ℕ)) (history : History) (stamp client : ℕ) (var source : List ℕ) (variables more : VariablesState) (clients others : List ClientState) → AreStill 0 variables more clients others → more.noted ≡ variables.noted →
    AreKeptAs (with_lives client (without_patterns var source) (inboxes_after names history)) (posts_of history) more others → AreKept names history variables clients →
    AreKept names (history ++ record { stamp = stamp; client = client; call = Unregister var source } ∷ []) more others
AreKept-unregister names history stamp client var source variables more clients others still noted held before =
    AreKept-quiet names history (record { stamp = stamp; client = client; call = Unregister var source }) variables more clients others refl still.clients.each
    (λ vars. AreNoted-names vars variables more (names-each (IsStill 0) variables.all more.all (λ one other is. ap (λ (v : VariableState). v.name) is.same) still.variables) noted) before held
