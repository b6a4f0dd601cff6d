-- Lemmas on the parts of a report.
use Rattle.std.proofs.Common.{◌≡◌, ℕ, zero, suc, Bool, true, false, ◌+◌, ◌-◌, ◌<◌, ◌≤◌, ◌&&◌, ◌||◌, not, cond, Some, None, List, [], ◌∷◌, ◌++◌, map, flat_map, length, take, drop, refl, ap, sym, ◌∙◌, arith, add-one, codes, decimal, length-take, length-take-le}
use Rattle.std.specs.Prelude.{slice_get, option_map, if◌then◌else◌}
use Rattle.std.specs.List.{concat, filter}
use Rattle.std.proofs.Math.Seq.{drop-cons, take-suc}
use Rattle.std.proofs.lemmas.List.{append_assoc}
use Rattle.std.proofs.lemmas.List.Folds.{concat-append}
use Rattle.std.proofs.lemmas.List.Filters.{length-filter_more}
use Rattle.std.proofs.lemmas.List.Sums.{length-filter}
use Rattle.std.proofs.lemmas.Option.{get_or_from_slice_get, slice_get_past, slice_get_within}
use Rattle.moos_post.specs.declared.entry.Call.TheVariants.{Post as Posts, Fetch}
use Rattle.moos_post.specs.declared.entry.Entry.{Entry}
use Rattle.moos_post.specs.declared.value.Pair.{Pair}
use Rattle.moos_post.specs.declared.value.Post.{Post}
use Rattle.moos_post.specs.Delivery.{mail_at}
use Rattle.moos_post.specs.History.{History, posts_of, post_of, name_of}
use Rattle.moos_db.specs.declared.mail.Origin.{Origin}
use Rattle.moos_db.specs.Database.{pair_posted, origin_of}
use Rattle.moos_db.proofs.Growth.{posts-front}
use Rattle.helm_core.specs.declared.iteration.Iteration.{Iteration}
use Rattle.moos_text.specs.Numbers.{unsigned_text}
use Rattle.moos_report.specs.declared.setup.Setup.{Setup}
use Rattle.moos_report.specs.IterationLines.{current_text, fetches_first, helm_fetches, is_helm_fetch, is_helm_post, iteration_from, listed_text, outcome_text}
use Rattle.moos_report.specs.Report.{client_text, clients_text, entry_text, entries_text, said_text, post_text, letter_text, letters_text, call_text}

-- the first elements stand in the front where they stand in the list
pub slice_get_take : {X : Type 0} (xs : List X) (n i : ℕ) → i < n → slice_get (take n xs) i ≡ slice_get xs i
slice_get_take xs zero i below = absurd (omega (arith, below))
slice_get_take [] (suc n) i below = refl
slice_get_take (x ∷ xs) (suc n) zero below = refl
slice_get_take (x ∷ xs) (suc n) (suc i) below = slice_get_take xs n i (omega (arith, below))

-- the client that is due
pub clients_due : (names : List (List ℕ)) (number : ℕ) {name : List ℕ} → slice_get names number ≡ Some name
    → clients_text number (drop number names) ≡ client_text number name ++ clients_text (number + 1) (drop (number + 1) names)
clients_due names number {name = name} at =
    let within = slice_get_within names number name at in
    rw (drop-cons names number name within, get_or_from_slice_get names number name name at, add-one) refl

-- the entry that is due, and what follows it
pub entries_due : (setup : Setup) (first : ℕ) (iterations : List Iteration) (names : List (List ℕ)) (history : History) (k : ℕ) {entry : Entry} → slice_get history k ≡ Some entry
    → entries_text setup first iterations names (take k history) (drop k history)
    ≡ entry_text names (take k history) entry
    ++ (outcome_text setup first iterations names (take k history) entry ++ entries_text setup first iterations names (take (k + 1) history) (drop (k + 1) history))
entries_due setup first iterations names history k {entry = entry} at =
    let within = slice_get_within history k entry at in
    rw (drop-cons history k entry within, add-one, take-suc history k entry within, get_or_from_slice_get history k entry entry at) refl

-- how often the helm has fetched once one entry more is there
pub fetches_more : (names : List (List ℕ)) (history : History) (k : ℕ) {entry : Entry} → slice_get history k ≡ Some entry
    → helm_fetches names (take (k + 1) history) ≡ helm_fetches names (take k history) + (if is_helm_fetch names entry then 1 else 0)
fetches_more names history k {entry = entry} at =
    sym (length-filter (is_helm_fetch names) (take (k + 1) history))
    ∙ length-filter_more (is_helm_fetch names) history k entry (slice_get_within history k entry at)
    ∙ ap (λ it. length (filter (is_helm_fetch names) (take k history)) + cond (is_helm_fetch names it) 1 0) (get_or_from_slice_get history k entry entry at)
    ∙ ap (λ fetches. fetches + (if is_helm_fetch names entry then 1 else 0)) (length-filter (is_helm_fetch names) (take k history))

-- with one entry it fetches once at most
pub once_at_most : (fetches : Bool) → (if fetches then 1 else 0) ≤ 1
once_at_most true = omega arith
once_at_most false = omega arith

-- an iteration before the first of a list, and one from there on
iteration_before : (first number : ℕ) (iterations : List Iteration) → number < first → iteration_from first iterations number ≡ None
iteration_before zero number iterations before = absurd (omega (arith, before))
iteration_before (suc first) zero iterations before = refl
iteration_before (suc first) (suc number) iterations before = iteration_before first number iterations (omega (arith, before))

pub iteration_behind : (first number : ℕ) (iterations : List Iteration) → first ≤ number → iteration_from first iterations number ≡ slice_get iterations (number - first)
iteration_behind zero number iterations from = let e : number - 0 ≡ number = omega arith in rw e refl
iteration_behind (suc first) zero iterations from = absurd (omega (arith, from))
iteration_behind (suc first) (suc number) iterations from =
    let e : suc number - suc first ≡ number - first = omega arith in rw e (iteration_behind first number iterations (omega (arith, from)))

-- no iteration of a list follows where the helm hasn't fetched so often that its first one has begun
pub current_none : (setup : Setup) (first : ℕ) (iterations : List Iteration) (fetches : ℕ) → fetches ≤ first → current_text setup first iterations fetches ≡ []
current_none setup first iterations zero before = refl
current_none setup first iterations (suc number) before = rw (iteration_before first number iterations (omega (arith, before))) refl

-- where no iteration is given, none follows
none_from : (first number : ℕ) → iteration_from first [] number ≡ None
none_from zero number = refl
none_from (suc first) zero = refl
none_from (suc first) (suc number) = none_from first number

current_empty : (setup : Setup) (first fetches : ℕ) → current_text setup first [] fetches ≡ []
current_empty setup first zero = refl
current_empty setup first (suc number) = ap (listed_text setup number) (none_from first number)

-- what follows an entry, where the helm's fetches are counted if any iteration is given
pub outcome_counted : (setup : Setup) (first : ℕ) (iterations : List Iteration) (names : List (List ℕ)) (past : History) (entry : Entry) (fetches : ℕ)
    → (0 < length iterations → fetches ≡ helm_fetches names past)
    → (if is_helm_post names entry then current_text setup first iterations fetches else []) ≡ outcome_text setup first iterations names past entry
outcome_counted setup first [] names past entry fetches counted = λ i. if is_helm_post names entry then same i else []
  where
    same : current_text setup first [] fetches ≡ current_text setup first [] (helm_fetches names past)
    same = current_empty setup first fetches ∙ sym (current_empty setup first (helm_fetches names past))
outcome_counted setup first (iteration ∷ iterations) names past entry fetches counted =
    ap (λ fetches. if is_helm_post names entry then current_text setup first (iteration ∷ iterations) fetches else []) (counted (omega arith))

-- whether the helm fetches first is told by its first call from there on
module _ (names : List (List ℕ)) (history : History) (k from : ℕ) {entry : Entry} (at : slice_get history k ≡ Some entry) (same : fetches_first names (drop k history) ≡ fetches_first names (drop from history)) where
  first_due : fetches_first names (drop from history) ≡ (is_helm_fetch names entry || (not (is_helm_post names entry) && fetches_first names (drop (k + 1) history)))
  first_due =
      let within = slice_get_within history k entry at in
      let due : fetches_first names (drop k history) ≡ (is_helm_fetch names entry || (not (is_helm_post names entry) && fetches_first names (drop (k + 1) history))) =
      rw (drop-cons history k entry within, get_or_from_slice_get history k entry entry at, add-one) refl in
      sym same ∙ due

  pub first_fetch : is_helm_fetch names entry ≡ true → true ≡ fetches_first names (drop from history)
  first_fetch fetches = sym (first_due ∙ ap (λ b. b || (not (is_helm_post names entry) && fetches_first names (drop (k + 1) history))) fetches)

  pub first_post : is_helm_fetch names entry ≡ false → is_helm_post names entry ≡ true → false ≡ fetches_first names (drop from history)
  first_post other posts = sym (first_due ∙ (λ i. other i || (not (posts i) && fetches_first names (drop (k + 1) history))))

  pub first_later : is_helm_fetch names entry ≡ false → is_helm_post names entry ≡ false → fetches_first names (drop (k + 1) history) ≡ fetches_first names (drop from history)
  first_later other silent = sym (first_due ∙ (λ i. other i || (not (silent i) && fetches_first names (drop (k + 1) history))))

-- the iteration behind a fetch
pub current_is : (setup : Setup) (first : ℕ) (iterations : List Iteration) (fetches : ℕ) → first < fetches
    → current_text setup first iterations fetches ≡ listed_text setup (fetches - 1) (slice_get iterations (fetches - 1 - first))
current_is setup first iterations zero some = absurd (omega (arith, some))
current_is setup first iterations (suc number) some =
    let e : suc number - 1 ≡ number = omega arith in rw (e, iteration_behind first number iterations (omega (arith, some))) refl

-- the lines of a batch
pub batch_is : (names : List (List ℕ)) (stamp client : ℕ) (batch : List Pair)
    → flat_map (post_text names) (map (post_of stamp client) batch) ≡ flat_map (λ pair. said_text stamp (name_of names client) pair.var pair.value) batch
batch_is names stamp client [] = refl
batch_is names stamp client (pair ∷ batch) =
    ap (λ end. said_text stamp (name_of names client) pair.var pair.value ++ end) (batch_is names stamp client batch)

-- as many entries as the number says stand before an entry
pub length_past : (history : History) (k : ℕ) {entry : Entry} → slice_get history k ≡ Some entry → length (take k history) ≡ k
length_past history k {entry = entry} at = length-take-le k history (omega (arith, slice_get_within history k entry at))

-- the lines of an entry that posts
pub post_is : (names : List (List ℕ)) (past : History) (entry : Entry) {batch pairs : List Pair} {first : ℕ} {source : List ℕ} → entry.call ≡ Posts batch
    → first ≡ length (posts_of past) → source ≡ name_of names entry.client → pairs ≡ batch
    → call_text names past entry entry.call
    ≡ concat (codes " post " ∷ decimal first ∷ codes " " ∷ decimal (length pairs) ∷ codes "\n" ∷ []) ++ flat_map (λ pair. said_text entry.stamp source pair.var pair.value) pairs
post_is names past entry {batch = batch} is behind named all = rw (is, behind, named, all, batch_is names entry.stamp entry.client batch) refl

-- the lines of an entry that fetches
pub fetch_is : (names : List (List ℕ)) (history : History) (k : ℕ) (entry : Entry) {first : ℕ} {mail : List ℕ} → slice_get history k ≡ Some entry → entry.call ≡ Fetch
    → first ≡ length (posts_of (take k history)) → mail ≡ mail_at names history k
    → call_text names (take k history) entry entry.call ≡ codes " fetch\n" ++ letters_text names (take first (posts_of history)) mail
fetch_is names history k entry at is behind given = rw (given, at, is, behind, posts-front history k) refl

-- a letter whose number none of the first posts has
pub letter_none : (names : List (List ℕ)) (posts : List Post) (first number : ℕ) → first ≤ number
    → letter_text names number (slice_get (take first posts) number) ≡ []
letter_none names posts first number past =
    rw (slice_get_past (take first posts) number (omega (arith, length-take first posts))) refl

-- a letter whose number one of the first posts has
pub letter_is : (names : List (List ℕ)) (posts : List Post) (first number : ℕ) {origin : Origin} {pair : Pair} → number < first
    → option_map origin_of (slice_get posts number) ≡ Some origin → option_map pair_posted (slice_get posts number) ≡ Some pair
    → letter_text names number (slice_get (take first posts) number)
    ≡ concat (codes "%% mail " ∷ decimal number ∷ codes " " ∷ []) ++ said_text origin.stamp (name_of names origin.client) pair.var pair.value
letter_is names posts first number {origin = origin} {pair = pair} below =
    rw (slice_get_take posts first number below)
    (elim (slice_get posts number)
    as (λ post. option_map origin_of post ≡ Some origin → option_map pair_posted post ≡ Some pair
    → letter_text names number post ≡ concat (codes "%% mail " ∷ decimal number ∷ codes " " ∷ []) ++ said_text origin.stamp (name_of names origin.client) pair.var pair.value) [
      | None ↦ λ from said. cc
      | Some post ↦ λ from said.
          let same_origin : origin ≡ origin_of post = cc in
          let same_pair : pair ≡ pair_posted post = cc in
          rw (same_origin, same_pair) refl
    ])

-- the line of a letter, whose front is written with that of its post
pub mail_line : (digits : List ℕ) (stamp : ℕ) (var source value : List ℕ) →
    concat (codes "%% mail " ∷ digits ∷ codes " " ∷ unsigned_text stamp ∷ codes " " ∷ var ∷ codes " " ∷ source ∷ codes " " ∷ []) ++ value
    ≡ concat (codes "%% mail " ∷ digits ∷ codes " " ∷ []) ++ (concat (unsigned_text stamp ∷ codes " " ∷ var ∷ codes " " ∷ source ∷ codes " " ∷ []) ++ value)
mail_line digits stamp var source value =
    let front = codes "%% mail " ∷ digits ∷ codes " " ∷ [] in
    let said = unsigned_text stamp ∷ codes " " ∷ var ∷ codes " " ∷ source ∷ codes " " ∷ [] in
    ap (λ line. line ++ value) (concat-append front said) ∙ append_assoc (concat front) (concat said) value
