-- The schedule of a script's lines beside clients that answer each tick is settled step by step.
use Rattle.std.proofs.Common.{◌≡◌, ℕ, zero, suc, ◌+◌, ◌*◌, ◌/◌, ◌≤◌, ◌==◌, Bool, true, false, cond, List, [], ◌∷◌, ◌++◌, length, nat_lt, take, refl, sym, ap, ◌∙◌, arith}
use Rattle.std.specs.Prelude.{map}
use Rattle.std.proofs.lemmas.List.{take-append-le}
use Rattle.moos_post.specs.declared.entry.Call.{Call}
use Rattle.moos_post.specs.declared.entry.Call.TheVariants.{Post as Posts, Fetch}
use Rattle.moos_post.specs.declared.entry.Entry.{Entry}
use Rattle.moos_client.specs.Calls.{entries_of, entry_of}
use Rattle.moos_client.specs.Hearing.{fetches, Mailed}
use Rattle.moos_lawful.specs.Answering.{Answerer, answers_of, due_of, moment_in, schedule_of, turns_from}
use Rattle.moos_following.specs.Following.{IsStepwise}
use Rattle.script_reader.specs.declared.script.Order.{Order}
use Rattle.script_reader.specs.declared.script.Order.TheVariants.{Stamp, Race}

-- an entry's moment doesn't depend on its call
call_moment : (order : Order) (clients others n stamp : ℕ) (one other : Call) → moment_in order clients others (entry_of n stamp one) ≡ moment_in order clients others (entry_of n stamp other)
call_moment Stamp clients others n stamp one other = refl
call_moment Race clients others n stamp one other = refl

module _ {A : Type 0} (order : Order) (clients others : ℕ)
  where
    -- so when the turns are due doesn't depend on what was heard
    turns_moments : (answerer : Answerer A) (n period : ℕ) (heard other : List A) (i count : ℕ) → map (moment_in order clients others) (turns_from answerer n period heard i count) ≡ map (moment_in order clients others) (turns_from answerer n period other i count)
    turns_moments answerer n period heard other i zero = refl
    turns_moments answerer n period heard other i (suc count) =
        λ j. moment_in order clients others (entry_of n (i * period) Fetch)
        ∷ call_moment order clients others n (i * period) (Posts (answerer.says (take (suc i) heard))) (Posts (answerer.says (take (suc i) other))) j
        ∷ turns_moments answerer n period heard other (suc i) count j

    -- an answerer's next entry is settled by what it heard before that
    turns_settled : (answerer : Answerer A) (n period : ℕ) (heard more : List A) (i count : ℕ) (done : List Entry) (entry : Entry) (left : List Entry) → turns_from answerer n period (heard ++ more) i count ≡ done ++ entry ∷ left
        → i + fetches done ≤ length heard → (left' : List Entry) × (turns_from answerer n period heard i count ≡ done ++ entry ∷ left')
    turns_settled answerer n period heard more i zero [] entry left is few = absurd cc
    turns_settled answerer n period heard more i zero (d ∷ done) entry left is few = absurd cc
    turns_settled answerer n period heard more i (suc count) [] entry left is few = (later, ap (λ first. first ∷ later) (head is))
      where
        later : List Entry
        later = entry_of n (i * period) (Posts (answerer.says (take (suc i) heard))) ∷ turns_from answerer n period heard (suc i) count

        head : {first : Entry} {some : List Entry} → first ∷ some ≡ entry ∷ left → first ≡ entry
        head h = cc
    turns_settled answerer n period heard more i (suc count) (d ∷ []) entry left is few =
        let parts = two is in
        let one : fetches (d ∷ []) ≡ 1 = sym (ap (λ d. fetches (d ∷ [])) parts.0) in
        let early : take (suc i) (heard ++ more) ≡ take (suc i) heard = take-append-le (suc i) heard more (omega (arith, few, one)) in
        (turns_from answerer n period heard (suc i) count, λ j. parts.0 j ∷ (ap (λ known. entry_of n (i * period) (Posts (answerer.says known))) (sym early) ∙ parts.1) j ∷ turns_from answerer n period heard (suc i) count)
      where
        two : {a b : Entry} {some : List Entry} → a ∷ b ∷ some ≡ d ∷ entry ∷ left → (a ≡ d) × (b ≡ entry)
        two h = (cc, cc)
    turns_settled answerer n period heard more i (suc count) (d ∷ d' ∷ done) entry left is few =
        let first = parts is in
        let next : suc i + fetches done ≤ length heard = omega (arith, few, count_is first.0 first.1) in
        let early : take (suc i) (heard ++ more) ≡ take (suc i) heard = take-append-le (suc i) heard more (omega (arith, next)) in
        let rest = turns_settled answerer n period heard more (suc i) count done entry left first.2 next in
        (rest.0, λ j. first.0 j ∷ (ap (λ known. entry_of n (i * period) (Posts (answerer.says known))) (sym early) ∙ first.1) j ∷ rest.1 j)
      where
        parts : {a b : Entry} {some : List Entry} → a ∷ b ∷ some ≡ d ∷ d' ∷ (done ++ entry ∷ left) → (a ≡ d) × (b ≡ d') × (some ≡ done ++ entry ∷ left)
        parts h = (cc, cc, cc)

        count_is : entry_of n (i * period) Fetch ≡ d → entry_of n (i * period) (Posts (answerer.says (take (suc i) (heard ++ more)))) ≡ d' → fetches (d ∷ d' ∷ done) ≡ suc (fetches done)
        count_is a b = sym (λ j. fetches (a j ∷ b j ∷ done))

    answers_settled : (period ticks client : ℕ) (answerers : List (Answerer A)) (n : ℕ) (heard more : List A) (done : List Entry) (entry : Entry) (left : List Entry) → answers_of period ticks client answerers n (heard ++ more) ≡ done ++ entry ∷ left
        → fetches done ≤ length heard → (left' : List Entry) × (answers_of period ticks client answerers n heard ≡ done ++ entry ∷ left')
    answers_settled period ticks client [] n heard more [] entry left is few = absurd cc
    answers_settled period ticks client [] n heard more (d ∷ done) entry left is few = absurd cc
    answers_settled period ticks client (answerer ∷ rest) n heard more done entry left is few = by (client == n) is (answers_settled period ticks (suc client) rest n heard more done entry left)
      where
        by : (b : Bool) → cond b (turns_from answerer n period (heard ++ more) 0 ticks) (answers_of period ticks (suc client) rest n (heard ++ more)) ≡ done ++ entry ∷ left
            → (answers_of period ticks (suc client) rest n (heard ++ more) ≡ done ++ entry ∷ left → fetches done ≤ length heard → (left' : List Entry) × (answers_of period ticks (suc client) rest n heard ≡ done ++ entry ∷ left'))
            → (left' : List Entry) × (cond b (turns_from answerer n period heard 0 ticks) (answers_of period ticks (suc client) rest n heard) ≡ done ++ entry ∷ left')
        by true is others = turns_settled answerer n period heard more 0 ticks done entry left is (omega (arith, few))
        by false is others = others is few

    due_settled : (lines : List Entry) (period ticks : ℕ) (answerers : List (Answerer A)) (n : ℕ) (heard more : List A) (done : List Entry) (entry : Entry) (left : List Entry) → due_of lines clients period ticks answerers n (heard ++ more) ≡ done ++ entry ∷ left
        → fetches done ≤ length heard → (left' : List Entry) × (due_of lines clients period ticks answerers n heard ≡ done ++ entry ∷ left')
    due_settled lines period ticks answerers n heard more done entry left is few = by (nat_lt n clients) is
      where
        by : (b : Bool) → cond b (entries_of n lines) (answers_of period ticks clients answerers n (heard ++ more)) ≡ done ++ entry ∷ left
            → (left' : List Entry) × (cond b (entries_of n lines) (answers_of period ticks clients answerers n heard) ≡ done ++ entry ∷ left')
        by true is = (left, is)
        by false is = answers_settled period ticks clients answerers n heard more done entry left is few

    -- and when it is due from the start
    answers_moments : (period ticks client : ℕ) (answerers : List (Answerer A)) (n : ℕ) (heard other : List A) → map (moment_in order clients others) (answers_of period ticks client answerers n heard) ≡ map (moment_in order clients others) (answers_of period ticks client answerers n other)
    answers_moments period ticks client [] n heard other = refl
    answers_moments period ticks client (answerer ∷ rest) n heard other = by (client == n) (answers_moments period ticks (suc client) rest n heard other)
      where
        by : (b : Bool) → map (moment_in order clients others) (answers_of period ticks (suc client) rest n heard) ≡ map (moment_in order clients others) (answers_of period ticks (suc client) rest n other)
            → map (moment_in order clients others) (cond b (turns_from answerer n period heard 0 ticks) (answers_of period ticks (suc client) rest n heard)) ≡ map (moment_in order clients others) (cond b (turns_from answerer n period other 0 ticks) (answers_of period ticks (suc client) rest n other))
        by true h = turns_moments answerer n period heard other 0 ticks
        by false h = h

    due_moments : (lines : List Entry) (period ticks : ℕ) (answerers : List (Answerer A)) (n : ℕ) (heard other : List A) → map (moment_in order clients others) (due_of lines clients period ticks answerers n heard) ≡ map (moment_in order clients others) (due_of lines clients period ticks answerers n other)
    due_moments lines period ticks answerers n heard other = by (nat_lt n clients)
      where
        by : (b : Bool) → map (moment_in order clients others) (cond b (entries_of n lines) (answers_of period ticks clients answerers n heard)) ≡ map (moment_in order clients others) (cond b (entries_of n lines) (answers_of period ticks clients answerers n other))
        by true = refl
        by false = answers_moments period ticks clients answerers n heard other

-- so such a schedule is settled step by step
pub is_settled : {A : Type 0} (order : Order) (lines : List Entry) (clients stop period : ℕ) (answerers : List (Answerer A)) (names : ℕ) (mailed : Mailed A) → IsStepwise (schedule_of order lines clients stop period answerers names mailed)
is_settled order lines clients stop period answerers names mailed = record {
  next = λ n heard more done entry left is few. due_settled order clients (length answerers) lines period (suc (stop / period)) answerers n heard more done entry left is few;
  moments = λ n heard other. due_moments order clients (length answerers) lines period (suc (stop / period)) answerers n heard other;
}
