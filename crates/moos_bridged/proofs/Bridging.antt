-- Two histories that are bridged so far, as they go on.
use Rattle.std.proofs.Common.{◌≡◌, ◌≢◌, ℕ, ◌==◌, not, cond, List, [], ◌∷◌, ◌++◌, map, refl, sym, ap, ◌∙◌, append-nil, eq-eqb, ne_eqb}
use Rattle.std.specs.List.{list_all}
use Rattle.std.proofs.lemmas.List.{map-append}
use Rattle.std.proofs.lemmas.List.Elements.{filter-append}
use Rattle.moos_bridged.specs.Bridging.{IsBridgedSoFar}
use Rattle.moos_client.specs.Calls.{entries_of, entry_of}
use Rattle.moos_db.specs.Database.{letters_after}
use Rattle.moos_post.specs.declared.entry.Call.{Call}
use Rattle.moos_post.specs.declared.entry.Call.TheVariants.{Fetch, Post as Posts}
use Rattle.moos_post.specs.declared.entry.Entry.{Entry}
use Rattle.moos_post.specs.Delivery.{is_fetch}
use Rattle.moos_post.specs.History.{History}
use Rattle.moos_share.specs.Bridged.{bridge_number, bridge_opening, fetches_on, names_bridged, shared_entry}
use Rattle.moos_share.specs.declared.rule.Rule.{Rule}
use Rattle.moos_share.specs.Fetches.{fetch_entry, MailedFetch}
use Rattle.moos_share.specs.Renaming.{renamed}
use Rattle.moos_share.proofs.NextFetches.{entries_next, fetches_next, fetches_none, fetches_same}
use Rattle.script_reader.specs.declared.script.Script.{Script}

-- a client's entries with one more of another client, and of its own
pub other_next : (client : ℕ) (history : History) (entry : Entry) → entry.client ≢ client → entries_of client (history ++ entry ∷ []) ≡ entries_of client history
other_next client history entry other =
    filter-append (λ entry. entry.client == client) history (entry ∷ []) ∙ ap (λ b. entries_of client history ++ cond b (entry ∷ []) []) (ne_eqb entry.client client other) ∙ append-nil (entries_of client history)

pub own_next : (client stamp : ℕ) (call : Call) (history : History) → entries_of client (history ++ entry_of client stamp call ∷ []) ≡ entries_of client history ++ entry_of client stamp call ∷ []
own_next client stamp call history =
    filter-append (λ entry. entry.client == client) history (entry_of client stamp call ∷ []) ∙ ap (λ b. entries_of client history ++ cond b (entry_of client stamp call ∷ []) []) (eq-eqb client client refl)

-- and with more entries, of which none is its own
pub none_next : (client : ℕ) (history added : History) → entries_of client added ≡ [] → entries_of client (history ++ added) ≡ entries_of client history
none_next client history added none = filter-append (λ entry. entry.client == client) history added ∙ ap (λ more. entries_of client history ++ more) none ∙ append-nil (entries_of client history)

-- before the first fetch
pub bridged_begun : (first second : Script) (rules : List Rule) → IsBridgedSoFar first second rules [] (bridge_opening first rules ∷ []) []
bridged_begun first second rules = record {
  rest = [];
  opened = refl;
  fetched = sym (ap (map (fetch_entry (bridge_number first))) none);
  posted = sym (ap (map (shared_entry first second rules)) none);
  stamps_are = ap (map (λ (fetch : MailedFetch). fetch.stamp)) none;
}
  where
    opening : Entry
    opening = bridge_opening first rules

    none : fetches_on first (opening ∷ []) ≡ []
    none = fetches_none (names_bridged first) (bridge_number first) [] (opening ∷ []) (ap (λ b. list_all (λ entry. not (is_fetch entry.call)) (cond b (opening ∷ []) [])) (eq-eqb (bridge_number first) (bridge_number first) refl))

-- the clients make their calls
pub bridged_on : (first second : Script) (rules : List Rule) (stamps : List ℕ) (one two one_added two_added : History) → IsBridgedSoFar first second rules stamps one two → entries_of (bridge_number first) one_added ≡ [] → entries_of (bridge_number second) two_added ≡ []
    → IsBridgedSoFar first second rules stamps (one ++ one_added) (two ++ two_added)
bridged_on first second rules stamps one two one_added two_added so one_none two_none = record {
  rest = so.rest ++ one_added;
  opened = ap (λ history. history ++ one_added) so.opened;
  fetched = none_next (bridge_number first) so.rest one_added one_none ∙ so.fetched ∙ ap (map (fetch_entry (bridge_number first))) (sym same);
  posted = none_next (bridge_number second) two two_added two_none ∙ so.posted ∙ ap (map (shared_entry first second rules)) (sym same);
  stamps_are = ap (map (λ (fetch : MailedFetch). fetch.stamp)) same ∙ so.stamps_are;
}
  where
    same : fetches_on first (one ++ one_added) ≡ fetches_on first one
    same = fetches_same (names_bridged first) (bridge_number first) one one_added one_none

-- the fetch and the post of one carrying
abbrev pub fetch_at : Script → ℕ → Entry
fetch_at first stamp = entry_of (bridge_number first) stamp Fetch

abbrev pub post_at : Script → Script → List Rule → ℕ → History → Entry
post_at first second rules stamp one = entry_of (bridge_number second) stamp (Posts (renamed (names_bridged first) rules (letters_after (names_bridged first) (bridge_number first) one)))

-- the bridge carries
pub bridged_next : (first second : Script) (rules : List Rule) (stamps : List ℕ) (stamp : ℕ) (one two : History) → IsBridgedSoFar first second rules stamps one two
    → IsBridgedSoFar first second rules (stamps ++ stamp ∷ []) (one ++ fetch_at first stamp ∷ []) (two ++ post_at first second rules stamp one ∷ [])
bridged_next first second rules stamps stamp one two so = record {
  rest = so.rest ++ fetch_at first stamp ∷ [];
  opened = ap (λ history. history ++ fetch_at first stamp ∷ []) so.opened;
  fetched =
      entries_next (bridge_number first) stamp so.rest ∙ ap (λ entries. entries ++ fetch_at first stamp ∷ []) so.fetched
      ∙ sym (map-append (fetch_entry (bridge_number first)) old (new ∷ [])) ∙ ap (map (fetch_entry (bridge_number first))) (sym next);
  posted =
      own_next (bridge_number second) stamp (Posts (renamed (names_bridged first) rules new.mail)) two ∙ ap (λ entries. entries ++ post_at first second rules stamp one ∷ []) so.posted
      ∙ sym (map-append (shared_entry first second rules) old (new ∷ [])) ∙ ap (map (shared_entry first second rules)) (sym next);
  stamps_are = ap (map (λ (fetch : MailedFetch). fetch.stamp)) next ∙ map-append (λ (fetch : MailedFetch). fetch.stamp) old (new ∷ []) ∙ ap (λ stamps. stamps ++ stamp ∷ []) so.stamps_are;
}
  where
    old : List MailedFetch
    old = fetches_on first one

    new : MailedFetch
    new = record { stamp = stamp; mail = letters_after (names_bridged first) (bridge_number first) one }

    next : fetches_on first (one ++ fetch_at first stamp ∷ []) ≡ old ++ new ∷ []
    next = fetches_next (names_bridged first) (bridge_number first) stamp one
