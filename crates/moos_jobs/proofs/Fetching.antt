-- How often the helm of a run has fetched, and which iterations stand in a part of its history.
use Rattle.std.proofs.Common.{◌≡◌, ℕ, zero, suc, ◌+◌, ◌*◌, ◌<◌, ◌≤◌, ◌==◌, ◌&&◌, Bool, true, false, not, codes, cond, nat_le, List, [], ◌∷◌, ◌++◌, length, drop, filter, Option, None, Some, inl, inr, refl, ap, sym, ◌∙◌, subst, arith, length-append, append_assoc, append-nil}
use Rattle.std.specs.Prelude.{◌⊎◌, IfSome}
use Rattle.std.proofs.Math.Dec.{eqb-suc-suc, eqb-suc-zero, eqb-zero-suc}
use Rattle.std.proofs.lemmas.Bool.{and_parts}
use Rattle.std.proofs.lemmas.Bool.Decides.{nat_tests}
use Rattle.std.proofs.lemmas.List.{drop_all, drop_at, drop-append-le, drop-drop}
use Rattle.std.proofs.lemmas.List.Elements.{filter-append}
use Rattle.std.proofs.lemmas.List.Sums.{length-filter, sum_by-append, sum_by_push}
use Rattle.helm_core.specs.declared.iteration.Iteration.{Iteration}
use Rattle.helm_core.specs.Ticks.{Tick, tick_of}
use Rattle.moos_client.specs.Calls.{entries_of}
use Rattle.moos_db.specs.Database.{letters_after}
use Rattle.moos_post.specs.declared.entry.Call.{Call}
use Rattle.moos_post.specs.declared.entry.Call.TheVariants.{Register, Unregister, Post as Posts, Fetch}
use Rattle.moos_post.specs.declared.entry.Entry.{Entry}
use Rattle.moos_post.specs.Delivery.{is_fetch}
use Rattle.moos_post.specs.History.{History}
use Rattle.moos_client.specs.Hearing.{heard_in}
use Rattle.moos_play.specs.Lawful.{heard_of, helm_number, names_with, opening_of, HelmSetup, tick_entries, ticks_of, mailed_in}
use Rattle.moos_play.specs.Plays.{clients_in, HasSteeredSoFar, HasTicked, helm_in, history_in, IsRunFor, iterations_by, iterations_made, Playing, script_played}
use Rattle.moos_report.specs.IterationLines.{helm_fetches, is_helm, is_helm_fetch, is_helm_post, is_posting}
use Rattle.moos_report.specs.Parts.{EndsWithin}
use Rattle.script_reader.specs.declared.script.Script.{Script}
use Rattle.script_reader.specs.Validity.{are_clients, IsValid}

-- among these names the helm's is at its number, if there is a helm, and nowhere else
abbrev pub IsHelmNamed : List (List ℕ) → Script → Option HelmSetup → Type 0
IsHelmNamed names script None = (client : ℕ) → is_helm names client ≡ false
IsHelmNamed names script (Some helm) = (client : ℕ) → is_helm names client ≡ (client == helm_number script)

-- a test that fails
not_true : (b : Bool) → not b ≡ true → b ≡ false
not_true true e = absurd cc
not_true false e = refl

-- no client of a script has the helm's name
none_named : (names : List (List ℕ)) → are_clients names ≡ true → (client : ℕ) → is_helm names client ≡ false
none_named [] good client = refl
none_named (name ∷ names) good zero = not_true _ (and_parts _ _ (and_parts _ (are_clients names) good).0).0
none_named (name ∷ names) good (suc client) = none_named names (and_parts _ (are_clients names) good).1 client

-- and behind them the helm alone has it, where none of the further names is the helm's
helm_named : (names further : List (List ℕ)) → are_clients names ≡ true → ((client : ℕ) → is_helm further client ≡ false) → (client : ℕ)
    → is_helm (names ++ codes "pHelmIvP" ∷ further) client ≡ (client == length names)
helm_named [] further good others zero = refl
helm_named [] further good others (suc client) = others client ∙ sym (eqb-suc-zero client)
helm_named (name ∷ names) further good others zero = not_true _ (and_parts _ _ (and_parts _ (are_clients names) good).0).0 ∙ sym (eqb-zero-suc (length names))
helm_named (name ∷ names) further good others (suc client) = helm_named names further (and_parts _ (are_clients names) good).1 others client ∙ sym (eqb-suc-suc client (length names))

-- so it is with the names of a valid script, its helm, where there is one, and further ones
pub named_beside : (script : Script) (helm : Option HelmSetup) (further : List (List ℕ)) → IsValid script → ((client : ℕ) → is_helm further client ≡ false) → (helm ≡ None → further ≡ [])
    → IsHelmNamed (names_with script helm ++ further) script helm
named_beside script None further valid others alone =
    subst (λ names. (client : ℕ) → is_helm names client ≡ false) (sym (ap (λ further. script.names ++ further) (alone refl) ∙ append-nil script.names)) (none_named script.names valid.clients)
named_beside script (Some helm) further valid others alone =
    subst (λ names. (client : ℕ) → is_helm names client ≡ (client == length script.names)) (sym (append_assoc script.names (codes "pHelmIvP" ∷ []) further))
    (helm_named script.names further valid.clients others)

-- one entry more
fetches_push : (names : List (List ℕ)) (past : History) (entry : Entry) → helm_fetches names (past ++ entry ∷ []) ≡ helm_fetches names past + cond (is_helm_fetch names entry) 1 0
fetches_push names past entry = sum_by_push (λ entry. cond (is_helm_fetch names entry) 1 0) past entry

-- some entries more
fetches_later : (names : List (List ℕ)) (past part : History) → helm_fetches names past ≤ helm_fetches names (past ++ part)
fetches_later names past part = omega (arith, sum_by-append (λ entry. cond (is_helm_fetch names entry) 1 0) past part)

fetches_next : (names : List (List ℕ)) (past part : History) (entry : Entry) (limit : ℕ) → helm_fetches names (past ++ entry ∷ part) ≤ limit → helm_fetches names ((past ++ entry ∷ []) ++ part) ≤ limit
fetches_next names past part entry limit up = subst (λ history. helm_fetches names history ≤ limit) (sym (append_assoc past (entry ∷ []) part)) up

-- an iteration whose Post entry stands here has a number up to that of the last fetch
ends_so_far : (names : List (List ℕ)) (past part : History) (limit : ℕ) → helm_fetches names (past ++ part) ≤ limit → EndsWithin names past 0 limit part
ends_so_far names past [] limit up = tt
ends_so_far names past (entry ∷ part) limit up =
    ((λ post some. (some, omega (arith, up, fetches_later names past (entry ∷ part)))), ends_so_far names (past ++ entry ∷ []) part limit (fetches_next names past part entry limit up))

-- without a helm nothing ends
ends_none : (names : List (List ℕ)) (past part : History) (first limit : ℕ) → ((client : ℕ) → is_helm names client ≡ false) → EndsWithin names past first limit part
ends_none names past [] first limit none = tt
ends_none names past (entry ∷ part) first limit none = (
  (λ post some. let both : false ≡ true = sym (none entry.client) ∙ (and_parts (is_posting entry.call) (is_helm names entry.client) post).1 in absurd cc),
  ends_none names (past ++ entry ∷ []) part first limit none,
)

-- a helm's calls that begin with a fetch, if any is there
abbrev BeginsFetching : List Entry → Type 0
BeginsFetching [] = Unit {0}
BeginsFetching (entry ∷ entries) = is_fetch entry.call ≡ true

-- what posts doesn't fetch
no_fetch : (call : Call) → is_posting call ≡ true → is_fetch call ≡ true → ⊥
no_fetch (Register regs) posts fetches = cc
no_fetch (Unregister var source) posts fetches = cc
no_fetch (Posts batch) posts fetches = cc
no_fetch Fetch posts fetches = cc

-- the helm has fetched since, or will before it posts
abbrev IsAhead : ℕ → ℕ → List Entry → Type 0
IsAhead first fetches entries = (first < fetches) ⊎ ((first ≤ fetches) × BeginsFetching entries)

module _ (names : List (List ℕ)) (number : ℕ) (named : (client : ℕ) → is_helm names client ≡ (client == number)) where
  -- the helm has fetched as often as it has heard
  fetched_heard : (past some : History) → length (filter (is_helm_fetch names) some) ≡ length (heard_in (mailed_in names) number past some)
  fetched_heard past [] = refl
  fetched_heard past (entry ∷ some) = by (is_helm names entry.client) (entry.client == number) (is_fetch entry.call) (named entry.client) (fetched_heard (past ++ entry ∷ []) some)
    where
      one : Tick
      one = tick_of entry.stamp (letters_after names number past)

      fetched : History
      fetched = filter (is_helm_fetch names) some

      heard : List Tick
      heard = heard_in (mailed_in names) number (past ++ entry ∷ []) some

      by : (h c f : Bool) → h ≡ c → length fetched ≡ length heard → length (cond (f && h) (entry ∷ fetched) fetched) ≡ length (cond (c && f) (one ∷ heard) heard)
      by true true true e so = ap suc so
      by true true false e so = so
      by false false true e so = so
      by false false false e so = so
      by true false f e so = absurd cc
      by false true f e so = absurd cc

  ahead_on : (first fetches : ℕ) (entry : Entry) (entries : List Entry) (h c f : Bool) → h ≡ c → is_fetch entry.call ≡ f → IsAhead first fetches (cond c (entry ∷ entries) entries) → IsAhead first (fetches + cond (f && h) 1 0) entries
  ahead_on first fetches entry entries h c f same is (inl more) = inl (omega (arith, more))
  ahead_on first fetches entry entries true true true same is (inr (few, begins)) = inl (omega (arith, few))
  ahead_on first fetches entry entries true true false same is (inr (few, begins)) = let both : true ≡ false = sym begins ∙ is in absurd cc
  ahead_on first fetches entry entries false false true same is (inr (few, begins)) = inr (omega (arith, few), begins)
  ahead_on first fetches entry entries false false false same is (inr (few, begins)) = inr (omega (arith, few), begins)
  ahead_on first fetches entry entries true false f same is (inr both) = absurd cc
  ahead_on first fetches entry entries false true f same is (inr both) = absurd cc

  posts_ahead : (first fetches : ℕ) (entry : Entry) (entries : List Entry) → is_helm_post names entry ≡ true → IsAhead first fetches (cond (entry.client == number) (entry ∷ entries) entries) → first < fetches
  posts_ahead first fetches entry entries post (inl more) = more
  posts_ahead first fetches entry entries post (inr (few, begins)) =
      let both = and_parts (is_posting entry.call) (is_helm names entry.client) post in
      absurd (no_fetch entry.call both.0 (subst (λ b. BeginsFetching (cond b (entry ∷ entries) entries)) (sym (named entry.client) ∙ both.1) begins))

  -- an iteration whose Post entry stands in a part in which the helm fetches first has a number from there on
  ends_here : (past part : History) (first limit : ℕ) → helm_fetches names (past ++ part) ≤ limit → IsAhead first (helm_fetches names past) (entries_of number part) → EndsWithin names past first limit part
  ends_here past [] first limit up ahead = tt
  ends_here past (entry ∷ part) first limit up ahead = (
    (λ post some. (posts_ahead first (helm_fetches names past) entry (entries_of number part) post ahead, omega (arith, up, fetches_later names past (entry ∷ part)))),
    ends_here (past ++ entry ∷ []) part first limit (fetches_next names past part entry limit up)
        (subst (λ fetches. IsAhead first fetches (entries_of number part)) (sym (fetches_push names past entry))
        (ahead_on first (helm_fetches names past) entry (entries_of number part) (is_helm names entry.client) (entry.client == number) (is_fetch entry.call) (named entry.client) refl ahead)),
  )

-- each tick has two entries, of which the first is a fetch
ticks_many : (helm : HelmSetup) (heard : List Tick) (n : ℕ) → length (ticks_of helm heard n) ≡ 2 * n
ticks_many helm heard zero = refl
ticks_many helm heard (suc n) = omega (arith, length-append (ticks_of helm heard n) (tick_entries helm heard n), ticks_many helm heard n)

fetching_more : (helm : HelmSetup) (heard : List Tick) (n : ℕ) (entries : List Entry) → BeginsFetching entries → BeginsFetching (entries ++ tick_entries helm heard n)
fetching_more helm heard n [] begins = refl
fetching_more helm heard n (entry ∷ entries) begins = begins

ticks_begin : (helm : HelmSetup) (heard : List Tick) (first n : ℕ) → BeginsFetching (drop (2 * first) (ticks_of helm heard n))
ticks_begin helm heard first zero = subst BeginsFetching (sym (drop_all {X = Entry} (2 * first) [] (omega arith))) tt
ticks_begin helm heard first (suc n) = by (nat_le first n) refl (ticks_begin helm heard first n)
  where
    front : History
    front = ticks_of helm heard n

    by : (b : Bool) → nat_le first n ≡ b → BeginsFetching (drop (2 * first) front) → BeginsFetching (drop (2 * first) (front ++ tick_entries helm heard n))
    by true e begins =
        let few : first ≤ n = grind (arith, nat_tests) in
        subst BeginsFetching (sym (drop-append-le (2 * first) front (tick_entries helm heard n) (omega (arith, few, ticks_many helm heard n))))
        (fetching_more helm heard n (drop (2 * first) front) begins)
    by false e begins =
        let past : n < first = grind (arith, nat_tests) in
        subst BeginsFetching (sym (drop_all (2 * first) (front ++ tick_entries helm heard n) (omega (arith, past, ticks_many helm heard (suc n))))) tt

-- from one stand of the helm to a later one it fetches first
steered_on : (names : List (List ℕ)) (helm : HelmSetup) (m n : ℕ) (history part : History) → HasTicked names helm m history → HasTicked names helm n (history ++ part) → BeginsFetching (entries_of helm.client part)
steered_on names helm m n history part before after = subst BeginsFetching (sym parts) (ticks_begin helm heard m n)
  where
    heard : List Tick
    heard = heard_of names helm.client (history ++ part)

    front : List Entry
    front = opening_of helm

    many : length (entries_of helm.client history) ≡ length front + 2 * m
    many = ap length before.own ∙ length-append front (ticks_of helm (heard_of names helm.client history) m) ∙ ap (λ n. length front + n) (ticks_many helm (heard_of names helm.client history) m)

    parts : entries_of helm.client part ≡ drop (2 * m) (ticks_of helm heard n)
    parts =
        sym (drop_at (entries_of helm.client history) (entries_of helm.client part) (length front + 2 * m) many)
        ∙ ap (drop (length front + 2 * m)) (sym (filter-append (λ entry. entry.client == helm.client) history part) ∙ after.own)
        ∙ sym (drop-drop (2 * m) (length front) (front ++ ticks_of helm heard n)) ∙ ap (drop (2 * m)) (drop_at front (ticks_of helm heard n) (length front) refl)

-- the helm of a play has fetched as often as it has made iterations
counted : (script : Script) (names : List (List ℕ)) (helm : Option HelmSetup) (made : List Iteration) (history : History) → IsHelmNamed names script helm → (helm ≡ None → made ≡ []) → IfSome helm (λ helm. helm.client ≡ helm_number script)
    → IfSome helm (λ helm. HasTicked names helm (length made) history) → helm_fetches names history ≡ length made
counted script names None made history named none number ticked = sym (length-filter (is_helm_fetch names) history) ∙ none_in history ∙ sym (ap length (none refl))
  where
    none_in : (history : History) → length (filter (is_helm_fetch names) history) ≡ 0
    none_in [] = refl
    none_in (entry ∷ history) = by (is_helm names entry.client) (is_fetch entry.call) (named entry.client) (none_in history)
      where
        by : (h f : Bool) → h ≡ false → length (filter (is_helm_fetch names) history) ≡ 0
            → length (cond (f && h) (entry ∷ filter (is_helm_fetch names) history) (filter (is_helm_fetch names) history)) ≡ 0
        by true f e so = absurd cc
        by false true e so = so
        by false false e so = so
counted script names (Some helm) made history named none number ticked =
    sym (length-filter (is_helm_fetch names) history) ∙ fetched_heard names (helm_number script) named [] history
    ∙ ap (λ number. length (heard_of names number history)) (sym number) ∙ ticked.many

-- the part between two rounds has the iterations that are made in it
pub part_ends : (script : Script) (names : List (List ℕ)) (helm : Option HelmSetup) (old new : List Iteration) (history part : History) → IsHelmNamed names script helm → (helm ≡ None → old ≡ []) → (helm ≡ None → new ≡ [])
    → IfSome helm (λ helm. helm.client ≡ helm_number script) → IfSome helm (λ helm. HasTicked names helm (length old) history) → IfSome helm (λ helm. HasTicked names helm (length new) (history ++ part))
    → EndsWithin names history (length old) (length new) part
part_ends script names None old new history part named none none' number before after = ends_none names history part (length old) (length new) named
part_ends script names (Some helm) old new history part named none none' number before after =
    let first = counted script names (Some helm) old history named none number before in
    let last = counted script names (Some helm) new (history ++ part) named none' number after in
    let begins = subst (λ n. BeginsFetching (entries_of n part)) number (steered_on names helm (length old) (length new) history part before after) in
    ends_here names (helm_number script) named history part (length old) (length new) (omega (arith, last)) (inr (omega (arith, first), begins))

-- what is known of a play between two rounds
pub record IsRunWell (play : Playing) : Type 0 where
  pub valid : IsValid (script_played play)
  pub helm : IfSome (helm_in play) (IsRunFor (script_played play) (length (iterations_made play)))
  pub steered : HasSteeredSoFar play

-- its helm, where there is one, has the number behind the script's clients
pub helm_behind : (script : Script) (made : ℕ) (helm : Option HelmSetup) → IfSome helm (IsRunFor script made) → IfSome helm (λ helm. helm.client ≡ helm_number script)
helm_behind script made None run = tt
helm_behind script made (Some helm) run = run.client

-- without a helm no iteration is made
pub none_without : (play : Playing) → helm_in play ≡ None → iterations_made play ≡ []
none_without play none = ap (λ helm. iterations_by (clients_in play) (history_in play) helm play.ticks) none

-- the helm's name stands among those of a play's clients where it is to
abbrev pub IsNamed : Playing → Type 0
IsNamed play = IsHelmNamed (clients_in play) (script_played play) (helm_in play)

pub fetched : (play : Playing) → IsRunWell play → IsNamed play → helm_fetches (clients_in play) (history_in play) ≡ length (iterations_made play)
fetched play well named =
    counted (script_played play) (clients_in play) (helm_in play) (iterations_made play) (history_in play) named (none_without play) (helm_behind (script_played play) (length (iterations_made play)) (helm_in play) well.helm) well.steered

-- what was written so far has no iteration that isn't made
pub ends_far : (play : Playing) → IsRunWell play → IsNamed play → EndsWithin (clients_in play) [] 0 (length (iterations_made play)) (history_in play)
ends_far play well named =
    ends_so_far (clients_in play) [] (history_in play) (length (iterations_made play)) (omega (arith, fetched play well named))
