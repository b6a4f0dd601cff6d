-- What a client hears in a history that goes on.
use Rattle.std.proofs.Common.{◌≡◌, ℕ, ◌==◌, ◌&&◌, Bool, true, false, cond, List, [], ◌∷◌, ◌++◌, length, suc, refl, sym, ap, ◌∙◌, arith, append-nil, append_assoc, eq-eqb}
use Rattle.std.specs.Prelude.{filter, not}
use Rattle.std.specs.List.{list_all}
use Rattle.std.proofs.lemmas.Bool.{and_parts, false≢true}
use Rattle.std.proofs.lemmas.List.Elements.{filter-append}
use Rattle.moos_post.specs.declared.entry.Call.TheVariants.{Fetch}
use Rattle.moos_post.specs.declared.entry.Entry.{Entry}
use Rattle.moos_post.specs.Delivery.{is_fetch}
use Rattle.moos_post.specs.History.{History}
use Rattle.moos_client.specs.Calls.{entries_of, entry_of}
use Rattle.moos_client.specs.Hearing.{fetches, heard_in, Mailed}

-- one part behind another
pub heard_append : {A : Type 0} (mailed : Mailed A) (client : ℕ) (past some more : History) → heard_in mailed client past (some ++ more) ≡ heard_in mailed client past some ++ heard_in mailed client (past ++ some) more
heard_append mailed client past [] more = ap (λ past. heard_in mailed client past more) (sym (append-nil past))
heard_append {A = A} mailed client past (entry ∷ some) more =
    by (entry.client == client && is_fetch entry.call) (heard_append mailed client (past ++ entry ∷ []) some more ∙ ap (λ past. heard_in mailed client (start ++ entry ∷ []) some ++ heard_in mailed client past more) (append_assoc start (entry ∷ []) some))
  where
    start : History
    start = past

    one : A
    one = mailed client entry.stamp past

    by : (b : Bool) → heard_in mailed client (past ++ entry ∷ []) (some ++ more) ≡ heard_in mailed client (past ++ entry ∷ []) some ++ heard_in mailed client (past ++ entry ∷ some) more
        → cond b (one ∷ heard_in mailed client (past ++ entry ∷ []) (some ++ more)) (heard_in mailed client (past ++ entry ∷ []) (some ++ more))
        ≡ cond b (one ∷ heard_in mailed client (past ++ entry ∷ []) some) (heard_in mailed client (past ++ entry ∷ []) some) ++ heard_in mailed client (past ++ entry ∷ some) more
    by true h = ap (λ heard. one ∷ heard) h
    by false h = h

-- as many mails as fetches
pub heard_many : {A : Type 0} (mailed : Mailed A) (client : ℕ) (past some : History) → length (heard_in mailed client past some) ≡ fetches (entries_of client some)
heard_many mailed client past [] = refl
heard_many {A = A} mailed client past (entry ∷ some) = by (entry.client == client) (is_fetch entry.call) refl (heard_many mailed client (past ++ entry ∷ []) some)
  where
    one : A
    one = mailed client entry.stamp past

    heard : List A
    heard = heard_in mailed client (past ++ entry ∷ []) some

    by : (b c : Bool) → is_fetch entry.call ≡ c → length heard ≡ fetches (entries_of client some) → length (cond (b && c) (one ∷ heard) heard) ≡ length (filter (λ entry. is_fetch entry.call) (cond b (entry ∷ entries_of client some) (entries_of client some)))
    by true true e h = ap suc h ∙ sym (ap (λ c. length (cond c (entry ∷ filter (λ entry. is_fetch entry.call) (entries_of client some)) (filter (λ entry. is_fetch entry.call) (entries_of client some)))) e)
    by true false e h = h ∙ sym (ap (λ c. length (cond c (entry ∷ filter (λ entry. is_fetch entry.call) (entries_of client some)) (filter (λ entry. is_fetch entry.call) (entries_of client some)))) e)
    by false c e h = h

-- a client without entries hears nothing
pub heard_none : {A : Type 0} (mailed : Mailed A) (client : ℕ) (past some : History) → entries_of client some ≡ [] → heard_in mailed client past some ≡ []
heard_none mailed client past [] none = refl
heard_none {A = A} mailed client past (entry ∷ some) none = by (entry.client == client) (is_fetch entry.call) none (heard_none mailed client (past ++ entry ∷ []) some)
  where
    one : A
    one = mailed client entry.stamp past

    by : (b c : Bool) → cond b (entry ∷ entries_of client some) (entries_of client some) ≡ [] → (entries_of client some ≡ [] → heard_in mailed client (past ++ entry ∷ []) some ≡ [])
        → cond (b && c) (one ∷ heard_in mailed client (past ++ entry ∷ []) some) (heard_in mailed client (past ++ entry ∷ []) some) ≡ []
    by true c none rest = absurd (omega (arith, ap length none))
    by false c none rest = rest none

-- nor in what has no fetch
pub heard_deaf : {A : Type 0} (mailed : Mailed A) (client : ℕ) (past some : History) → list_all (λ entry. not (is_fetch entry.call)) some ≡ true → heard_in mailed client past some ≡ []
heard_deaf mailed client past [] deaf = refl
heard_deaf {A = A} mailed client past (entry ∷ some) deaf =
    let tests = and_parts (not (is_fetch entry.call)) (list_all (λ entry. not (is_fetch entry.call)) some) deaf in
    by (entry.client == client) (is_fetch entry.call) tests.0 ∙ heard_deaf mailed client (past ++ entry ∷ []) some tests.1
  where
    one : A
    one = mailed client entry.stamp past

    by : (b c : Bool) → not c ≡ true → cond (b && c) (one ∷ heard_in mailed client (past ++ entry ∷ []) some) (heard_in mailed client (past ++ entry ∷ []) some) ≡ heard_in mailed client (past ++ entry ∷ []) some
    by true true none = absurd (false≢true none)
    by true false none = refl
    by false c none = refl

-- a call that is the client's next: none of its entries stands between it and what was there before
pub record IsNext (client : ℕ) (old new : History) (entry : Entry) : Type 0 where
  pub between : History
  pub none : entries_of client between ≡ []
  pub own : entry.client ≡ client
  pub is : new ≡ (old ++ between) ++ entry ∷ []

-- the client's entries are then one more
pub entries_next : (client : ℕ) (old new : History) (entry : Entry) → IsNext client old new entry → entries_of client new ≡ entries_of client old ++ entry ∷ []
entries_next client old new entry next =
    ap (entries_of client) next.is ∙ filter-append (λ entry. entry.client == client) (old ++ next.between) (entry ∷ [])
    ∙ ap (λ front. front ++ entries_of client (entry ∷ [])) (filter-append (λ entry. entry.client == client) old next.between ∙ ap (λ end. entries_of client old ++ end) next.none ∙ append-nil (entries_of client old))
    ∙ ap (λ b. entries_of client old ++ cond b (entry ∷ []) []) (eq-eqb entry.client client next.own)

-- what it heard before it has heard still
pub heard_on : {A : Type 0} (mailed : Mailed A) (client : ℕ) (old between : History) → entries_of client between ≡ [] → heard_in mailed client [] (old ++ between) ≡ heard_in mailed client [] old
heard_on mailed client old between none =
    heard_append mailed client [] old between ∙ ap (λ more. heard_in mailed client [] old ++ more) (heard_none mailed client old between none) ∙ append-nil (heard_in mailed client [] old)

-- a fetch hears the mail there, and no other call hears anything
pub heard_next : {A : Type 0} (mailed : Mailed A) (client : ℕ) (old new : History) (entry : Entry) → (next : IsNext client old new entry) → is_fetch entry.call ≡ false → heard_in mailed client [] new ≡ heard_in mailed client [] old
heard_next {A = A} mailed client old new entry next deaf =
    ap (heard_in mailed client []) next.is ∙ heard_append mailed client [] (old ++ next.between) (entry ∷ [])
    ∙ ap (λ more. heard_in mailed client [] (old ++ next.between) ++ more) (by (entry.client == client) (is_fetch entry.call) deaf) ∙ append-nil (heard_in mailed client [] (old ++ next.between))
    ∙ heard_on mailed client old next.between next.none
  where
    one : A
    one = mailed client entry.stamp (old ++ next.between)

    by : (b c : Bool) → c ≡ false → cond (b && c) (one ∷ []) [] ≡ []
    by true true e = absurd cc
    by true false e = refl
    by false c e = refl

pub heard_fetch : {A : Type 0} (mailed : Mailed A) (client : ℕ) (old new : History) (stamp : ℕ) → (next : IsNext client old new (entry_of client stamp Fetch))
    → heard_in mailed client [] new ≡ heard_in mailed client [] old ++ mailed client stamp (old ++ next.between) ∷ []
heard_fetch {A = A} mailed client old new stamp next =
    ap (heard_in mailed client []) next.is ∙ heard_append mailed client [] (old ++ next.between) (entry_of client stamp Fetch ∷ [])
    ∙ ap (λ b. heard_in mailed client [] (old ++ next.between) ++ cond (b && true) (one ∷ []) []) (eq-eqb client client refl)
    ∙ ap (λ heard. heard ++ one ∷ []) (heard_on mailed client old next.between next.none)
  where
    one : A
    one = mailed client stamp (old ++ next.between)
