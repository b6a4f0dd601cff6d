-- One turn of a client that answers: it fetches and posts, and so it has made one turn more and the others as many as before.
use Rattle.std.proofs.Common.{◌≡◌, ◌≢◌, ℕ, zero, suc, ◌+◌, ◌-◌, ◌*◌, ◌<◌, ◌≤◌, ◌==◌, ◌&&◌, Bool, true, false, cond, List, [], ◌∷◌, ◌++◌, length, length-append, take, refl, sym, ap, ◌∙◌, arith, append-nil, append_assoc, eq-eqb}
use Rattle.std.proofs.lemmas.List.{append_cancel_left, append_cancel_right, take-append-le, take_all}
use Rattle.std.proofs.lemmas.List.Elements.{filter-append}
use Rattle.moos_post.specs.declared.entry.Call.TheVariants.{Post as Posts, Fetch}
use Rattle.moos_post.specs.declared.entry.Entry.{Entry}
use Rattle.moos_post.specs.declared.value.Pair.{Pair}
use Rattle.moos_post.specs.History.{History}
use Rattle.moos_client.specs.Calls.{entries_of, entry_of}
use Rattle.moos_client.proofs.Hearing.{heard_append, heard_none}
use Rattle.moos_lawful.specs.Answering.{Answerer, turns_from}
use Rattle.moos_lawful.specs.Schedules.{due_in, IsLawfulSoFar, IsPlayable, Schedule}
use Rattle.moos_lawful.proofs.Going.{next_on, NoneBefore}
use Rattle.moos_simulate.specs.Sailing.{HasMadeTurns, hears}

-- the first turns, and those behind them
pub turns_split : {A : Type 0} (answerer : Answerer A) (n period : ℕ) (heard : List A) (i count more : ℕ) → turns_from answerer n period heard i (count + more) ≡ turns_from answerer n period heard i count ++ turns_from answerer n period heard (i + count) more
turns_split answerer n period heard i zero more = λ j. turns_from answerer n period heard (start j) (none j)
  where
    start : i ≡ i + 0
    start = omega arith

    none : 0 + more ≡ more
    none = omega arith
turns_split answerer n period heard i (suc count) more =
    (λ j. turns_from answerer n period heard i (plus j))
    ∙ ap (λ later. entry_of n (i * period) Fetch ∷ entry_of n (i * period) (Posts (answerer.says (take (suc i) heard))) ∷ later)
    (turns_split answerer n period heard (suc i) count more ∙ (λ j. turns_from answerer n period heard (suc i) count ++ turns_from answerer n period heard (next j) more))
  where
    plus : suc count + more ≡ suc (count + more)
    plus = omega arith

    next : suc i + count ≡ i + suc count
    next = omega arith

-- the same from the first turn on
pub turns_front : {A : Type 0} (answerer : Answerer A) (n period : ℕ) (heard : List A) (count more : ℕ) → turns_from answerer n period heard 0 (count + more) ≡ turns_from answerer n period heard 0 count ++ turns_from answerer n period heard count more
turns_front answerer n period heard count more = turns_split answerer n period heard 0 count more ∙ (λ j. turns_from answerer n period heard 0 count ++ turns_from answerer n period heard (none j) more)
  where
    none : 0 + count ≡ count
    none = omega arith

-- turns don't change with what is heard later
pub turns_same : {A : Type 0} (answerer : Answerer A) (n period : ℕ) (heard more : List A) (i count : ℕ) → i + count ≤ length heard → turns_from answerer n period (heard ++ more) i count ≡ turns_from answerer n period heard i count
turns_same answerer n period heard more i zero below = refl
turns_same answerer n period heard more i (suc count) below =
    λ j. entry_of n (i * period) Fetch ∷ entry_of n (i * period) (Posts (answerer.says (take-append-le (suc i) heard more (omega (arith, below)) j))) ∷ turns_same answerer n period heard more (suc i) count (omega (arith, below)) j

-- what stands behind the start once some more does
pub rest_is : {A : Type 0} (schedule : Schedule A) (history later : History) (so : IsLawfulSoFar schedule history) (on : IsLawfulSoFar schedule (history ++ later)) → on.rest ≡ so.rest ++ later
rest_is schedule history later so on =
    append_cancel_left schedule.start on.rest (so.rest ++ later) (sym on.opened ∙ ap (λ front. front ++ later) so.opened ∙ append_assoc schedule.start so.rest later)

-- what a client has heard once it has fetched, and posted, and where it makes no entry
pub fetch_heard : {A : Type 0} (schedule : Schedule A) (n : ℕ) (rest : History) (stamp : ℕ) → hears schedule n (rest ++ entry_of n stamp Fetch ∷ []) ≡ hears schedule n rest ++ schedule.mailed n stamp (schedule.start ++ rest) ∷ []
fetch_heard schedule n rest stamp =
    heard_append schedule.mailed n schedule.start rest (entry_of n stamp Fetch ∷ [])
    ∙ ap (λ b. hears schedule n rest ++ cond (b && true) (schedule.mailed n stamp (schedule.start ++ rest) ∷ []) []) (eq-eqb n n refl)

pub post_heard : {A : Type 0} (schedule : Schedule A) (n : ℕ) (rest : History) (stamp : ℕ) (said : List Pair) → hears schedule n (rest ++ entry_of n stamp (Posts said) ∷ []) ≡ hears schedule n rest
post_heard schedule n rest stamp said = heard_append schedule.mailed n schedule.start rest (entry_of n stamp (Posts said) ∷ []) ∙ ap (λ more. hears schedule n rest ++ more) (deaf (n == n)) ∙ append-nil (hears schedule n rest)
  where
    deaf : (b : Bool) → cond (b && false) (schedule.mailed n stamp (schedule.start ++ rest) ∷ []) [] ≡ []
    deaf true = refl
    deaf false = refl

pub stays_heard : {A : Type 0} (schedule : Schedule A) (n : ℕ) (history later : History) (so : IsLawfulSoFar schedule history) (on : IsLawfulSoFar schedule (history ++ later)) → entries_of n later ≡ [] → hears schedule n on.rest ≡ hears schedule n so.rest
stays_heard schedule n history later so on none =
    ap (hears schedule n) (rest_is schedule history later so on) ∙ heard_append schedule.mailed n schedule.start so.rest later ∙ ap (λ more. hears schedule n so.rest ++ more) (heard_none schedule.mailed n (schedule.start ++ so.rest) later none) ∙ append-nil (hears schedule n so.rest)

module _ {A : Type 0} (schedule : Schedule A) (may : IsPlayable schedule) (answerer : Answerer A) (n period ticks : ℕ) (due : (heard : List A) → schedule.due n heard ≡ turns_from answerer n period heard 0 ticks)
  where
    -- what the client has heard, and that it has made so many turns
    abbrev heard_by : History → List A
    heard_by rest = hears schedule n rest

    abbrev Turned : (count : ℕ) (history : History) → IsLawfulSoFar schedule history → Type 0
    Turned count history so = HasMadeTurns schedule answerer n period ticks count history so

    -- the entries that it has made are those turns
    pub entries_are : (count : ℕ) (history : History) (so : IsLawfulSoFar schedule history) → n < schedule.known → Turned count history so → entries_of n so.rest ≡ turns_from answerer n period (heard_by so.rest) 0 count
    entries_are count history so known has =
        append_cancel_right (entries_of n so.rest) (turns_from answerer n period heard 0 count) (turns_from answerer n period heard count (ticks - count))
        (ap (λ left. entries_of n so.rest ++ left) (sym has.left) ∙ sym (so.own n known) ∙ due heard ∙ (λ j. turns_from answerer n period heard 0 (all j)) ∙ turns_front answerer n period heard count (ticks - count))
      where
        heard : List A
        heard = heard_by so.rest

        all : ticks ≡ count + (ticks - count)
        all = omega (arith, has.few)

    -- the next entry behind its own
    own_next : (rest : History) (entry : Entry) → entry.client ≡ n → entries_of n (rest ++ entry ∷ []) ≡ entries_of n rest ++ entry ∷ []
    own_next rest entry is = filter-append (λ entry. entry.client == n) rest (entry ∷ []) ∙ ap (λ b. entries_of n rest ++ cond b (entry ∷ []) []) (eq-eqb entry.client n is)

    -- it has fetched, and its post is left
    pub record HasFetched (count : ℕ) (history : History) (so : IsLawfulSoFar schedule history) : Type 0 where
      pub many : length (heard_by so.rest) ≡ suc count
      pub few : count < ticks
      pub left : so.left n ≡ entry_of n (count * period) (Posts (answerer.says (heard_by so.rest))) ∷ turns_from answerer n period (heard_by so.rest) (suc count) (ticks - suc count)

    -- THE FETCH of its next turn, where nothing that is left comes before it
    pub fetch_on : (count : ℕ) (history : History) (so : IsLawfulSoFar schedule history) → n < schedule.known → Turned count history so → count < ticks → NoneBefore schedule may (schedule.moment (entry_of n (count * period) Fetch)) so.left
        → (on : IsLawfulSoFar schedule (history ++ entry_of n (count * period) Fetch ∷ [])) × HasFetched count (history ++ entry_of n (count * period) Fetch ∷ []) on × ((m : ℕ) → m ≢ n → on.left m ≡ so.left m)
    fetch_on count history so known has more first = (on, record { many = many; few = more; left = left }, made.2)
      where
        fetching : Entry
        fetching = entry_of n (count * period) Fetch

        heard : List A
        heard = heard_by so.rest

        one : A
        one = schedule.mailed n (count * period) (schedule.start ++ so.rest)

        posting : List A → Entry
        posting known = entry_of n (count * period) (Posts (answerer.says known))

        rest : ticks - count ≡ suc (ticks - suc count)
        rest = omega (arith, more)

        later : List A → List Entry
        later known = turns_from answerer n period known (suc count) (ticks - suc count)

        next : so.left n ≡ fetching ∷ posting (take (suc count) heard) ∷ later heard
        next = has.left ∙ (λ j. turns_from answerer n period heard count (rest j))

        made : (on : IsLawfulSoFar schedule (history ++ fetching ∷ [])) × (length (so.left n) ≡ suc (length (on.left n))) × ((m : ℕ) → m ≢ n → on.left m ≡ so.left m)
        made = next_on schedule may history so n fetching (posting (take (suc count) heard) ∷ later heard) known next first

        on : IsLawfulSoFar schedule (history ++ fetching ∷ [])
        on = made.0

        stands : on.rest ≡ so.rest ++ fetching ∷ []
        stands = rest_is schedule history (fetching ∷ []) so on

        now : heard_by on.rest ≡ heard ++ one ∷ []
        now = ap heard_by stands ∙ fetch_heard schedule n so.rest (count * period)

        many : length (heard_by on.rest) ≡ suc count
        many = ap length now ∙ omega (arith, length-append heard (one ∷ []), has.many)

        all : ticks ≡ count + suc (ticks - suc count)
        all = omega (arith, more)

        whole : take (suc count) (heard ++ one ∷ []) ≡ heard ++ one ∷ []
        whole = take_all (suc count) (heard ++ one ∷ []) (omega (arith, length-append heard (one ∷ []), has.many))

        -- what it is due to do, over what it has heard now
        due_now : due_in schedule n on.rest ≡ (turns_from answerer n period heard 0 count ++ fetching ∷ []) ++ posting (heard ++ one ∷ []) ∷ later (heard ++ one ∷ [])
        due_now =
            due (heard_by on.rest) ∙ (λ j. turns_from answerer n period (now j) 0 (all j)) ∙ turns_front answerer n period (heard ++ one ∷ []) count (suc (ticks - suc count))
            ∙ (λ j. turns_same answerer n period heard (one ∷ []) 0 count (omega (arith, has.many)) j ++ fetching ∷ posting (whole j) ∷ later (heard ++ one ∷ []))
            ∙ sym (append_assoc (turns_from answerer n period heard 0 count) (fetching ∷ []) (posting (heard ++ one ∷ []) ∷ later (heard ++ one ∷ [])))

        own : entries_of n on.rest ≡ turns_from answerer n period heard 0 count ++ fetching ∷ []
        own = ap (entries_of n) stands ∙ own_next so.rest fetching refl ∙ ap (λ front. front ++ fetching ∷ []) (entries_are count history so known has)

        left : on.left n ≡ posting (heard_by on.rest) ∷ later (heard_by on.rest)
        left =
            append_cancel_left (turns_from answerer n period heard 0 count ++ fetching ∷ []) (on.left n) (posting (heard ++ one ∷ []) ∷ later (heard ++ one ∷ []))
            (ap (λ front. front ++ on.left n) (sym own) ∙ sym (on.own n known) ∙ due_now)
            ∙ (λ j. posting (sym now j) ∷ later (sym now j))

    -- THE POST behind it
    pub post_on : (count : ℕ) (history : History) (so : IsLawfulSoFar schedule history) → n < schedule.known → HasFetched count history so → NoneBefore schedule may (schedule.moment (entry_of n (count * period) (Posts (answerer.says (heard_by so.rest))))) so.left
        → (on : IsLawfulSoFar schedule (history ++ entry_of n (count * period) (Posts (answerer.says (heard_by so.rest))) ∷ [])) × Turned (suc count) (history ++ entry_of n (count * period) (Posts (answerer.says (heard_by so.rest))) ∷ []) on × ((m : ℕ) → m ≢ n → on.left m ≡ so.left m)
    post_on count history so known has first = (on, record { many = ap length now ∙ has.many; few = has.few; left = left }, made.2)
      where
        posting : Entry
        posting = entry_of n (count * period) (Posts (answerer.says (heard_by so.rest)))

        later : List Entry
        later = turns_from answerer n period (heard_by so.rest) (suc count) (ticks - suc count)

        made : (on : IsLawfulSoFar schedule (history ++ posting ∷ [])) × (length (so.left n) ≡ suc (length (on.left n))) × ((m : ℕ) → m ≢ n → on.left m ≡ so.left m)
        made = next_on schedule may history so n posting later known has.left first

        on : IsLawfulSoFar schedule (history ++ posting ∷ [])
        on = made.0

        stands : on.rest ≡ so.rest ++ posting ∷ []
        stands = rest_is schedule history (posting ∷ []) so on

        now : heard_by on.rest ≡ heard_by so.rest
        now = ap heard_by stands ∙ post_heard schedule n so.rest (count * period) (answerer.says (heard_by so.rest))

        left : on.left n ≡ turns_from answerer n period (heard_by on.rest) (suc count) (ticks - suc count)
        left =
            append_cancel_left (entries_of n so.rest ++ posting ∷ []) (on.left n) later
            (ap (λ front. front ++ on.left n) (sym (own_next so.rest posting refl) ∙ ap (entries_of n) (sym stands)) ∙ sym (on.own n known) ∙ ap (schedule.due n) now ∙ so.own n known
            ∙ ap (λ left. entries_of n so.rest ++ left) has.left ∙ sym (append_assoc (entries_of n so.rest) (posting ∷ []) later))
            ∙ (λ j. turns_from answerer n period (sym now j) (suc count) (ticks - suc count))

    -- A PART IN WHICH IT MAKES NO ENTRY changes nothing of its turns
    pub stays_turned : (count : ℕ) (history later : History) (so : IsLawfulSoFar schedule history) (on : IsLawfulSoFar schedule (history ++ later)) → n < schedule.known → entries_of n later ≡ [] → Turned count history so → Turned count (history ++ later) on
    stays_turned count history later so on known none has = record { many = ap length now ∙ has.many; few = has.few; left = left }
      where
        stands : on.rest ≡ so.rest ++ later
        stands = rest_is schedule history later so on

        now : heard_by on.rest ≡ heard_by so.rest
        now = stays_heard schedule n history later so on none

        own : entries_of n on.rest ≡ entries_of n so.rest
        own = ap (entries_of n) stands ∙ filter-append (λ entry. entry.client == n) so.rest later ∙ ap (λ more. entries_of n so.rest ++ more) none ∙ append-nil (entries_of n so.rest)

        left : on.left n ≡ turns_from answerer n period (heard_by on.rest) count (ticks - count)
        left =
            append_cancel_left (entries_of n so.rest) (on.left n) (so.left n) (ap (λ front. front ++ on.left n) (sym own) ∙ sym (on.own n known) ∙ ap (schedule.due n) now ∙ so.own n known)
            ∙ has.left ∙ (λ j. turns_from answerer n period (sym now j) count (ticks - count))
