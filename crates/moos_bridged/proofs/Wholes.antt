-- What a bridge has posted in the end: nothing waits for it in the first history, of which its own fetch is the last entry.
use Rattle.std.proofs.Common.{◌≡◌, ◌≢◌, ℕ, suc, ◌*◌, ◌≤◌, ◌==◌, ◌&&◌, ◌||◌, Bool, true, false, cond, eq-eqb, nat_le, List, [], ◌∷◌, ◌++◌, append-nil, filter, map, refl, sym, ap, ◌∙◌, arith}
use Rattle.std.specs.List.{list_all, list_any}
use Rattle.std.proofs.lemmas.Bool.{and_from, and_parts, eqb-true, false≢true}
use Rattle.std.proofs.lemmas.Bool.Decides.{nat_tests}
use Rattle.std.proofs.lemmas.List.Elements.{filter-append}
use Rattle.std.proofs.lemmas.List.Folds.{list_all-append}
use Rattle.moos_mail.proofs.Lists.{list_any-map}
use Rattle.moos_bridged.proofs.Bridging.{other_next}
use Rattle.moos_bridged.proofs.Fronts.{pairs_shared}
use Rattle.moos_bridged.proofs.Mailed.{mailed_all, mailed_is, opened_none}
use Rattle.moos_bridged.specs.Fronts.{HasCarriedAll}
use Rattle.moos_client.specs.Calls.{entries_of}
use Rattle.moos_db.specs.Database.{letters_at}
use Rattle.moos_post.specs.declared.entry.Entry.{Entry}
use Rattle.moos_post.specs.Delivery.{is_fetch, mail_after}
use Rattle.moos_post.specs.History.{History, posts_of}
use Rattle.moos_share.specs.Bridged.{bridge_moment, bridge_number, bridge_opening, fetches_on, IsShared, keeps_moments, names_bridged}
use Rattle.moos_share.specs.declared.rule.Rule.{Rule}
use Rattle.moos_share.specs.Fetches.{fetch_entry, letters_fetched, MailedFetch, pairs_posted}
use Rattle.moos_share.specs.Renaming.{renamed}
use Rattle.script_reader.specs.declared.script.Order.{Order}
use Rattle.script_reader.specs.declared.script.Order.TheVariants.{Race, Stamp}
use Rattle.script_reader.specs.declared.script.Script.{Script}

-- the last entry
record IsEnded (history : History) : Type 0 where
  front : History
  last : Entry
  is : history ≡ front ++ last ∷ []

ended : (entry : Entry) (history : History) → IsEnded (entry ∷ history)
ended entry [] = record { front = []; last = entry; is = refl }
ended entry (next ∷ history) = let rest = ended next history in record { front = entry ∷ rest.front; last = rest.last; is = ap (λ history. entry ∷ history) rest.is }

-- its moment is none of the first ones
ends_late : (bridge low : ℕ) (front : History) (last : Entry) → keeps_moments bridge low (front ++ last ∷ []) ≡ true → low ≤ bridge_moment bridge last
ends_late bridge low [] last keeps = let here = (and_parts (nat_le low (bridge_moment bridge last)) true keeps).0 in grind (arith, nat_tests, here)
ends_late bridge low (entry ∷ front) last keeps =
    let tests = and_parts (nat_le low (bridge_moment bridge entry)) (keeps_moments bridge (bridge_moment bridge entry) (front ++ last ∷ [])) keeps in
    let here = tests.0 in
    let later = ends_late bridge (bridge_moment bridge entry) front last tests.1 in
    grind (arith, nat_tests, here, later)

-- so no entry of the bridge stands before a client's entry of the same stamp
none_before : (bridge low : ℕ) (front : History) (last : Entry) → keeps_moments bridge low (front ++ last ∷ []) ≡ true → last.client == bridge ≡ false → list_any (λ entry. entry.stamp == last.stamp) (entries_of bridge front) ≡ true → ⊥
none_before bridge low [] last keeps other any = false≢true any
none_before bridge low (entry ∷ front) last keeps other any =
    let later = (and_parts (nat_le low (bridge_moment bridge entry)) (keeps_moments bridge (bridge_moment bridge entry) (front ++ last ∷ [])) keeps).1 in
    by (entry.client == bridge) refl (ends_late bridge (bridge_moment bridge entry) front last later) any (none_before bridge (bridge_moment bridge entry) front last later other)
  where
    same : Entry → Bool
    same one = one.stamp == last.stamp

    first : entry.client == bridge ≡ true → bridge_moment bridge entry ≤ bridge_moment bridge last → (b : Bool) → entry.stamp == last.stamp ≡ b → (b || list_any same (entries_of bridge front)) ≡ true → (list_any same (entries_of bridge front) ≡ true → ⊥) → ⊥
    first own late true is any rest =
        let own_moment : bridge_moment bridge entry ≡ suc (2 * entry.stamp) = ap (λ b. cond b (suc (2 * entry.stamp)) (2 * entry.stamp)) own in
        let last_moment : bridge_moment bridge last ≡ 2 * last.stamp = ap (λ b. cond b (suc (2 * last.stamp)) (2 * last.stamp)) other in
        let stamps = eqb-true entry.stamp last.stamp is in
        absurd (omega (arith, own_moment, last_moment, stamps, late))
    first own late false is any rest = rest any

    by : (own : Bool) → entry.client == bridge ≡ own → bridge_moment bridge entry ≤ bridge_moment bridge last → list_any same (cond own (entry ∷ entries_of bridge front) (entries_of bridge front)) ≡ true → (list_any same (entries_of bridge front) ≡ true → ⊥) → ⊥
    by true is late any rest = first is late (entry.stamp == last.stamp) refl any rest
    by false is late any rest = rest any

-- what all pass, some of them pass
all_own : (p q : Entry → Bool) (entries : List Entry) → list_all p entries ≡ true → list_all p (filter q entries) ≡ true
all_own p q [] all = refl
all_own p q (entry ∷ entries) all = let tests = and_parts (p entry) (list_all p entries) all in by (q entry) tests.0 (all_own p q entries tests.1)
  where
    by : (kept : Bool) → p entry ≡ true → list_all p (filter q entries) ≡ true → list_all p (cond kept (entry ∷ filter q entries) (filter q entries)) ≡ true
    by true here rest = and_from (p entry) (list_all p (filter q entries)) here rest
    by false here rest = rest

all_fetch : (client : ℕ) (fetches : List MailedFetch) → list_all (λ entry. is_fetch entry.call) (map (fetch_entry client) fetches) ≡ true
all_fetch client [] = refl
all_fetch client (one ∷ fetches) = all_fetch client fetches

-- a client's entries where its own is the last
own_last : (client : ℕ) (front : History) (last : Entry) → last.client == client ≡ true → entries_of client (front ++ last ∷ []) ≡ entries_of client front ++ last ∷ []
own_last client front last own = filter-append (λ entry. entry.client == client) front (last ∷ []) ∙ ap (λ b. entries_of client front ++ cond b (last ∷ []) []) own

last_passes : (p : Entry → Bool) (some : List Entry) (last : Entry) → list_all p (some ++ last ∷ []) ≡ true → p last ≡ true
last_passes p some last all = (and_parts (p last) true (and_parts (list_all p some) (p last && true) (sym (list_all-append p some (last ∷ [])) ∙ all)).1).0

module _ (first second : Script) (rules : List Rule) (one two : History) where
  abbrev names : List (List ℕ)
  names = names_bridged first

  abbrev n : ℕ
  n = bridge_number first

  -- in order Stamp
  stamp_end : (so : IsShared Stamp first second rules one two) (front : History) (last : Entry) → so.bridged.rest ≡ front ++ last ∷ [] → mail_after names n one ≡ []
  stamp_end so front last is = by (last.client == n) refl
    where
      opening : Entry
      opening = bridge_opening first rules

      whole : one ≡ (opening ∷ front) ++ last ∷ []
      whole = so.bridged.opened ∙ ap (λ rest. opening ∷ rest) is

      fetches : List MailedFetch
      fetches = fetches_on first one

      among : Entry → Bool
      among line = list_any (λ stamp. stamp == line.stamp) (map (λ (fetch : MailedFetch). fetch.stamp) fetches)

      -- a client's entry has the stamp of a fetch before it
      fetched_before : last.client ≢ n → list_any (λ entry. entry.stamp == last.stamp) (entries_of n front) ≡ true
      fetched_before other =
          let lines = (and_parts (list_all among first.lines) (list_all among second.lines) (sym (list_all-append among first.lines second.lines) ∙ so.bridged.ordered.stamps.all)).0 in
          let mine : entries_of last.client (opening ∷ front) ++ last ∷ [] ≡ entries_of last.client first.lines = sym (own_last last.client (opening ∷ front) last (eq-eqb last.client last.client refl)) ∙ ap (entries_of last.client) (sym whole) ∙ so.first_lines last.client other in
          let here : among last ≡ true = last_passes among (entries_of last.client (opening ∷ front)) last (ap (list_all among) mine ∙ all_own among (λ entry. entry.client == last.client) first.lines lines) in
          ap (list_any (λ (entry : Entry). entry.stamp == last.stamp)) (sym (other_next n front last other) ∙ ap (entries_of n) (sym is) ∙ so.bridged.fetched)
          ∙ list_any-map (λ (entry : Entry). entry.stamp == last.stamp) (fetch_entry n) fetches
          ∙ sym (list_any-map (λ stamp. stamp == last.stamp) (λ (fetch : MailedFetch). fetch.stamp) fetches) ∙ here

      by : (own : Bool) → last.client == n ≡ own → mail_after names n one ≡ []
      by true own =
          let fetch : is_fetch last.call ≡ true = last_passes (λ entry. is_fetch entry.call) (entries_of n front) last (ap (list_all (λ (entry : Entry). is_fetch entry.call)) (sym (own_last n front last own) ∙ ap (entries_of n) (sym is) ∙ so.bridged.fetched) ∙ all_fetch n fetches) in
          ap (mail_after names n) whole ∙ mailed_all names n (opening ∷ front) last (and_from (last.client == n) (is_fetch last.call) own fetch)
      by false own =
          let other : last.client ≢ n = λ e. false≢true (sym own ∙ eq-eqb last.client n e) in
          absurd (none_before n 0 front last (ap (keeps_moments n 0) (sym is) ∙ so.bridged.ordered.first_in_order) own (fetched_before other))

  stamp_none : IsShared Stamp first second rules one two → mail_after names n one ≡ []
  stamp_none so = by so.bridged.rest refl
    where
      by : (rest : History) → so.bridged.rest ≡ rest → mail_after names n one ≡ []
      by [] is = ap (mail_after names n) (so.bridged.opened ∙ ap (λ rest. bridge_opening first rules ∷ rest) is) ∙ opened_none names first rules
      by (entry ∷ later) is = let last = ended entry later in stamp_end so last.front last.last (is ∙ last.is)

  -- and in a race
  race_none : IsShared Race first second rules one two → mail_after names n one ≡ []
  race_none so =
      let fetch = so.bridged.ordered.ended.fetch in
      ap (mail_after names n) fetch.1 ∙ mailed_all names n fetch.0 (fetch_entry n so.bridged.ordered.ended.last) (ap (λ b. b && true) (eq-eqb n n refl))

  none_waits : (order : Order) → IsShared order first second rules one two → mail_after names n one ≡ []
  none_waits Stamp so = stamp_none so
  none_waits Race so = race_none so

pub carried_all : (order : Order) (first second : Script) (rules : List Rule) (one two : History) → IsShared order first second rules one two → HasCarriedAll first second rules one two
carried_all order first second rules one two so =
    ap pairs_posted so.bridged.posted ∙ pairs_shared (names_bridged first) rules (bridge_number second) (fetches_on first one)
    ∙ ap (renamed (names_bridged first) rules)
    (sym (mailed_is (names_bridged first) (bridge_number first) one
    ∙ ap (λ mail. letters_fetched (fetches_on first one) ++ letters_at (posts_of one) mail) (none_waits first second rules one two order so)
    ∙ append-nil (letters_fetched (fetches_on first one))))
