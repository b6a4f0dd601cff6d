-- What a client is due to do is as much whatever it hears; so where nothing is left for the known clients, they add nothing.
use Rattle.std.proofs.Common.{◌≡◌, ℕ, zero, suc, ◌+◌, ◌-◌, ◌/◌, ◌<◌, ◌≤◌, ◌==◌, Bool, true, false, cond, List, [], ◌∷◌, ◌++◌, length, length-append, nat_lt, refl, ap, ◌∙◌, arith, append-nil, eq-eqb}
use Rattle.std.proofs.lemmas.Bool.{and_parts}
use Rattle.std.proofs.lemmas.Bool.Decides.{nat_tests}
use Rattle.std.proofs.lemmas.List.Elements.{filter-append}
use Rattle.moos_client.specs.Calls.{entries_of}
use Rattle.moos_client.specs.Hearing.{Mailed}
use Rattle.moos_lawful.specs.Answering.{Answerer, answers_of, due_of, schedule_of, turns_from}
use Rattle.moos_lawful.specs.Schedules.{clients_below, due_in, IsLawfulSoFar, Schedule}
use Rattle.moos_post.specs.declared.entry.Entry.{Entry}
use Rattle.moos_post.specs.History.{History}
use Rattle.moos_simulate.proofs.Turning.{rest_is}
use Rattle.moos_simulate.specs.Sailing.{hears}
use Rattle.script_reader.specs.declared.script.Order.TheVariants.{Stamp}

turns_many : {A : Type 0} (answerer : Answerer A) (n period : ℕ) (one other : List A) (i count : ℕ) → length (turns_from answerer n period one i count) ≡ length (turns_from answerer n period other i count)
turns_many answerer n period one other i zero = refl
turns_many answerer n period one other i (suc count) = ap (λ n. suc (suc n)) (turns_many answerer n period one other (suc i) count)

answers_many : {A : Type 0} (period ticks client : ℕ) (answerers : List (Answerer A)) (n : ℕ) (one other : List A) → length (answers_of period ticks client answerers n one) ≡ length (answers_of period ticks client answerers n other)
answers_many period ticks client [] n one other = refl
answers_many period ticks client (answerer ∷ others) n one other = by (client == n) (answers_many period ticks (suc client) others n one other)
  where
    by : (b : Bool) → length (answers_of period ticks (suc client) others n one) ≡ length (answers_of period ticks (suc client) others n other)
        → length (cond b (turns_from answerer n period one 0 ticks) (answers_of period ticks (suc client) others n one)) ≡ length (cond b (turns_from answerer n period other 0 ticks) (answers_of period ticks (suc client) others n other))
    by true rest = turns_many answerer n period one other 0 ticks
    by false rest = rest

due_many : {A : Type 0} (lines : List Entry) (clients period ticks : ℕ) (answerers : List (Answerer A)) (n : ℕ) (one other : List A) → length (due_of lines clients period ticks answerers n one) ≡ length (due_of lines clients period ticks answerers n other)
due_many lines clients period ticks answerers n one other = by (nat_lt n clients)
  where
    by : (b : Bool) → length (cond b (entries_of n lines) (answers_of period ticks clients answerers n one)) ≡ length (cond b (entries_of n lines) (answers_of period ticks clients answerers n other))
    by true = refl
    by false = answers_many period ticks clients answerers n one other

-- where nothing is left for the known clients, they add nothing
pub nothing_more : {A : Type 0} (lines : List Entry) (clients stop period : ℕ) (answerers : List (Answerer A)) (names : ℕ) (mailed : Mailed A) (history later : History)
    → (so : IsLawfulSoFar (schedule_of Stamp lines clients stop period answerers names mailed) history) → IsLawfulSoFar (schedule_of Stamp lines clients stop period answerers names mailed) (history ++ later)
    → ((n : ℕ) → n < clients + length answerers → so.left n ≡ []) → clients_below (clients + length answerers) later ≡ true → later ≡ []
nothing_more lines clients stop period answerers names mailed history [] so now none below = refl
nothing_more {A = A} lines clients stop period answerers names mailed history (x ∷ more) so now none below = absurd (omega (arith, few, many, same))
  where
    schedule : Schedule A
    schedule = schedule_of Stamp lines clients stop period answerers names mailed

    n : ℕ
    n = x.client

    known : n < clients + length answerers
    known = let test = (and_parts (nat_lt x.client (clients + length answerers)) (clients_below (clients + length answerers) more) below).0 in grind (arith, nat_tests, test)

    -- how many entries it has, without the part and with it
    few : length (due_in schedule n so.rest) ≡ length (entries_of n so.rest)
    few = ap length (so.own n known ∙ ap (λ left. entries_of n so.rest ++ left) (none n known) ∙ append-nil (entries_of n so.rest))

    own : entries_of n (x ∷ more) ≡ x ∷ entries_of n more
    own = ap (λ b. cond b (x ∷ entries_of n more) (entries_of n more)) (eq-eqb n n refl)

    whole : entries_of n now.rest ≡ entries_of n so.rest ++ x ∷ entries_of n more
    whole = ap (entries_of n) (rest_is schedule history (x ∷ more) so now) ∙ filter-append (λ entry. entry.client == n) so.rest (x ∷ more) ∙ ap (λ end. entries_of n so.rest ++ end) own

    many : suc (length (entries_of n so.rest)) ≤ length (due_in schedule n now.rest)
    many = omega (arith, ap length (now.own n known), length-append (entries_of n now.rest) (now.left n), ap length whole, length-append (entries_of n so.rest) (x ∷ entries_of n more))

    same : length (due_in schedule n now.rest) ≡ length (due_in schedule n so.rest)
    same = due_many lines clients period (suc (stop / period)) answerers n (hears schedule n now.rest) (hears schedule n so.rest)
