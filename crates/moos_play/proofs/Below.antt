-- The entries of the clients known from the start, with those of further clients left out.
use Rattle.std.proofs.Common.{◌≡◌, ◌≢◌, ℕ, ◌+◌, ◌<◌, ◌≤◌, ◌==◌, ◌&&◌, Bool, true, false, cond, List, [], ◌∷◌, ◌++◌, filter, length, length-append, nat_le, nat_lt, Option, None, Some, refl, sym, ap, ◌∙◌, subst, arith, append-nil, ne_eqb}
use Rattle.std.specs.Prelude.{codes}
use Rattle.std.specs.List.{list_all}
use Rattle.std.proofs.lemmas.Bool.{and_from, and_parts}
use Rattle.std.proofs.lemmas.Bool.Decides.{nat_tests}
use Rattle.std.proofs.lemmas.List.Elements.{filter-append}
use Rattle.std.proofs.lemmas.List.Folds.{list_all-append}
use native.Mathlib.Decide.{ℕ_discrete}
use Rattle.helm_core.specs.Ticks.{Tick}
use Rattle.moos_client.specs.Calls.{entries_of}
use Rattle.moos_post.specs.declared.entry.Entry.{Entry}
use Rattle.moos_post.specs.History.{History}
use Rattle.moos_lawful.proofs.Parts.{below_kept}
use Rattle.moos_lawful.specs.Schedules.{clients_below, entries_below, entries_from}
use Rattle.moos_play.specs.Lawful.{heard_of, helm_number, IsLawful, IsLawfulBeside, KeepsOrder, known_clients, names_with, HelmSetup, tick_entries, ticks}
use Rattle.moos_client.proofs.Histories.{all_kept, all_own, front_pass}
use Rattle.script_reader.specs.declared.script.Order.{Order}
use Rattle.script_reader.specs.declared.script.Script.{Script}
use Rattle.turn_lock.specs.Passes.{Begins}

-- with a helm there is a name more
pub names_more : {A : Type 0} (script : Script) (run : A) → length (names_with script (Some run)) ≡ length script.names + 1
names_more script run = length-append script.names (codes "pHelmIvP" ∷ [])

-- how many clients are known from the start
pub known_more : {A : Type 0} (script : Script) (helm : Option A) → length script.names ≤ known_clients script helm
known_more script None = omega arith
known_more script (Some run) = omega (arith, names_more script run)

pub known_helm : {A : Type 0} (script : Script) (run : A) → helm_number script < known_clients script (Some run)
known_helm script run = omega (arith, names_more script run)

-- what a test keeps passes it
pub kept_pass : (p : Entry → Bool) (xs : History) → list_all p (filter p xs) ≡ true
kept_pass p [] = refl
kept_pass p (x ∷ xs) = by (p x) refl (kept_pass p xs)
  where
    by : (b : Bool) → p x ≡ b → list_all p (filter p xs) ≡ true → list_all p (cond b (x ∷ filter p xs) (filter p xs)) ≡ true
    by true here rest = and_from (p x) (list_all p (filter p xs)) here rest
    by false here rest = rest

-- nothing is kept of what passes a test that excludes it
pub kept_none : (p q : Entry → Bool) (xs : History) → ((x : Entry) → q x ≡ true → p x ≡ false) → list_all q xs ≡ true → filter p xs ≡ []
kept_none p q [] other all = refl
kept_none p q (x ∷ xs) other all =
    let tests = and_parts (q x) (list_all q xs) all in
    ap (λ b. cond b (x ∷ filter p xs) (filter p xs)) (other x tests.0) ∙ kept_none p q xs other tests.1

-- those of one client are below each number above its own
pub own_pass : (number n : ℕ) (xs : History) → n < number → clients_below number (entries_of n xs) ≡ true
own_pass number n [] less = refl
own_pass number n (x ∷ xs) less = by (x.client == n) refl (own_pass number n xs less)
  where
    by : (b : Bool) → (x.client == n) ≡ b → clients_below number (entries_of n xs) ≡ true → clients_below number (cond b (x ∷ entries_of n xs) (entries_of n xs)) ≡ true
    by true here rest = and_from (nat_lt x.client number) (clients_below number (entries_of n xs)) (grind (arith, nat_tests, here, less)) rest
    by false here rest = rest

-- the clients of some lines play fronts of their own, and one client beside them whatever it does
pub beside_pass : (number helm : ℕ) (lines added : List Entry) → helm < number → clients_below number lines ≡ true → ((n : ℕ) → n ≢ helm → Begins (entries_of n lines) (entries_of n added)) → clients_below number added ≡ true
beside_pass number helm lines added less clients fronts = all_own (λ entry. nat_lt entry.client number) added (λ n. by n (ℕ_discrete n helm))
  where
    by : (n : ℕ) → Dec (n ≡ helm) → clients_below number (entries_of n added) ≡ true
    by n (yes e) = own_pass number n added (omega (arith, e, less))
    by n (no other) = front_pass (λ entry. nat_lt entry.client number) (entries_of n lines) (entries_of n added) (fronts n other) (all_kept (λ entry. nat_lt entry.client number) (λ entry. entry.client == n) lines clients)

-- the entries of a tick are the helm's
pub tick_below : (helm : HelmSetup) (number : ℕ) (heard : List Tick) (i : ℕ) → helm.client < number → clients_below number (tick_entries helm heard i) ≡ true
tick_below helm number heard i less =
    let here : nat_lt helm.client number ≡ true = grind (arith, nat_tests, less) in
    and_from (nat_lt helm.client number) (nat_lt helm.client number && true) here (and_from (nat_lt helm.client number) true here refl)

-- two parts of a history
pub both_below : (number : ℕ) (some more : History) → clients_below number some ≡ true → clients_below number more ≡ true → clients_below number (some ++ more) ≡ true
both_below number some more a b = list_all-append (λ entry. nat_lt entry.client number) some more ∙ and_from (clients_below number some) (clients_below number more) a b

-- further clients have no more entries where known ones' are added
pub from_more : (number : ℕ) (some more : History) → clients_below number more ≡ true → entries_from number (some ++ more) ≡ entries_from number some
from_more number some more all =
    filter-append (λ entry. nat_le number entry.client) some more
    ∙ ap (λ end. entries_from number some ++ end) (kept_none (λ entry. nat_le number entry.client) (λ entry. nat_lt entry.client number) more (λ x less. grind (arith, nat_tests, less)) all)
    ∙ append-nil (entries_from number some)

-- all entries of a known client are among those of the known clients
pub own_below : (number n : ℕ) (xs : History) → n < number → entries_of n (entries_below number xs) ≡ entries_of n xs
own_below number n [] less = refl
own_below number n (x ∷ xs) less = by (nat_lt x.client number) refl (own_below number n xs less)
  where
    by : (b : Bool) → nat_lt x.client number ≡ b → entries_of n (entries_below number xs) ≡ entries_of n xs
        → entries_of n (cond b (x ∷ entries_below number xs) (entries_below number xs)) ≡ cond (x.client == n) (x ∷ entries_of n xs) (entries_of n xs)
    by true here rest = ap (λ rest. cond (x.client == n) (x ∷ rest) rest) rest
    by false here rest = rest ∙ sym (ap (λ b. cond b (x ∷ entries_of n xs) (entries_of n xs)) (ne_eqb x.client n (λ e. grind (arith, nat_tests, here, e, less))))

-- where there are no further clients a history is lawful by itself
pub lawful_alone : (order : Order) (script : Script) (helm : Option HelmSetup) (names : List (List ℕ)) (history : History) → names ≡ names_with script helm → IsLawfulBeside order script helm names history → IsLawful order script helm names history
lawful_alone order script helm names history is so = record {
  rest = so.rest;
  opened = so.opened;
  steered = subst (λ rest. entries_of (helm_number script) rest ≡ ticks helm script.stop (heard_of names (helm_number script) history)) all so.steered;
  own = λ n other. subst (λ rest. entries_of n rest ≡ entries_of n script.lines) all (so.own n other);
  moments = subst (KeepsOrder order (helm_number script)) all so.moments;
}
  where
    all : entries_below (known_clients script helm) so.rest ≡ so.rest
    all = below_kept (known_clients script helm) so.rest (subst (λ (names : List (List ℕ)). clients_below (length names) so.rest ≡ true) is so.named)
