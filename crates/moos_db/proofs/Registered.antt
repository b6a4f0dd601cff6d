-- What is kept after a call that registers.
use Rattle.std.proofs.Common.{◌≡◌, ◌∙◌, ◌<◌, ◌+◌, ◌==◌, ◌&&◌, ◌||◌, ℕ, zero, suc, Bool, true, false, not, List, [], ◌∷◌, ◌++◌, length, map, fold, drop, Option, None, Some, get_or, option_and_then, option_map, slice_get, refl, ap, sym, subst, arith, inl, inr, if◌then◌else◌}
use Rattle.std.specs.List.{All, Contains, list_any, slice_index}
use Rattle.std.specs.List.Sorted.{IsStrictlyIncreasing}
use Rattle.std.specs.Option.{option_to_list}
use Rattle.std.proofs.Math.Bool.{or-false}
use Rattle.std.proofs.lemmas.Bool.{and_right, both_ways, eq-eqb, eqb-true, ne_eqb, or_cases, or_from, or_left, or_parts, or_right, true_from_ne_false}
use Rattle.std.proofs.lemmas.List.{length-map, take_all}
use Rattle.std.proofs.lemmas.List.Concat.{flat_map-append}
use Rattle.std.proofs.lemmas.List.Elements.{All-cons, All-filter, All-map, All-nil, All-weaker}
use Rattle.std.proofs.lemmas.List.Folds.{Any-from_list_any, list_any-append, list_any_at, list_any_none}
use Rattle.std.proofs.lemmas.Option.{get_or_from_slice_get, none-some, same_Some, slice_get-get_or, slice_get-map, slice_get_within}
use Rattle.moos_mail.specs.Registrations.{live_at, live_before, MadeReg}
use Rattle.moos_mail.specs.Sentences.{posts_before}
use Rattle.moos_mail.proofs.Coming.{AllMade}
use Rattle.moos_mail.proofs.Inboxes.{entries-inbox_of, posts-inbox_of}
use Rattle.moos_mail.proofs.Lists.{found-below, list_any-push, none-at}
use Rattle.moos_mail.proofs.Living.{IsUnder, live-under, lives-are}
use Rattle.moos_mail.proofs.Orderly.{settled-inbox_of}
use Rattle.moos_mail.proofs.Standing.{new_live}
use Rattle.moos_post.specs.declared.entry.Call.TheVariants.{Register}
use Rattle.moos_post.specs.declared.registration.Reg.{Reg}
use Rattle.moos_post.specs.declared.value.Post.{Post}
use Rattle.moos_post.specs.Delivery.{Inbox, inbox_of, is_latest, Live, with_own, with_reg, without_patterns}
use Rattle.moos_post.specs.History.{History, posts_of}
use Rattle.moos_post.specs.Patterns.{matches}
use Rattle.moos_db.specs.declared.registration.Registration.{Registration}
use Rattle.moos_db.specs.Clients.{ClientState, is_with_patterns, registration_of}
use Rattle.moos_db.specs.Subscriptions.{AreKeptAs, AreKnown, AreNoted, HasLatest, IsHeardBy, VariableState, VariablesState, fresh_subscription, name_at, with_inbox, with_lives}
use Rattle.moos_db.specs.Places.{AreKept, inboxes_after}
use Rattle.moos_db.specs.Registering.{AreEach, AreRoomier, HasRoomThrough, Heard, IsLatestPost, IsPrepared, IsRoomier, PreparedState, StandsAt, catch_number, heard_through, heard_where, latest_at, latest_heard, latest_prepared, variable_names, prepared_of, with_prepared}
use Rattle.moos_db.specs.Tables.{latest_post_of}
use Rattle.moos_db.proofs.AfterCalls.{AreKept-quiet}
use Rattle.moos_db.proofs.AfterRegistering.{roomier-names}
use Rattle.moos_db.proofs.Caught.{noted-length, noted-name}
use Rattle.moos_db.proofs.Changes.{all-at, all-same, AreNoted-names, at-client, at-others, heard-changed, named-at, names-each}
use Rattle.moos_db.proofs.Picking.{ArePicked, IsAbove, IsLatestOf, catching-picked, found-is-latest, is_made, is_one_of, latest-is-found}

-- more room

pub AreKept-roomier : (names : List (List ℕ)) (history : History) (before after : VariablesState) (states : List ClientState) → AreRoomier before after → AreKept names history before states → AreKept names history after states
AreKept-roomier names history before after states roomier are =
    let inboxes : ℕ → Inbox = inboxes_after names history in
    record {
      few = are.few;
      each = are.each;
      kept = record {
        clients = are.kept.clients;
        heard =
            heard-changed (length states) inboxes inboxes (posts_of history) before after
            (record {
              each = roomier.all.each;
              same = λ n one other was is.
                  let same = (roomier.all.same n one other was is).same in
                  record {
                    name = ap (λ (v : VariableState). v.name) same;
                    latest = ap (λ (v : VariableState). v.latest) same;
                    recipients = ap (λ (v : VariableState). v.recipients) same;
                    heard = λ heard. subst (IsHeardBy (length states) inboxes) (sym same) (record { each = heard.each; within = heard.within });
                  };
            })
            (λ client. refl) (subst (AreKnown (length states) inboxes) (sym roomier.numbers) are.kept.heard.known) are.kept.heard;
      };
      noted = AreNoted-names (map (λ (post : Post). post.var) (posts_of history)) before after
          (names-each IsRoomier before.all after.all (λ one other is. ap (λ (v : VariableState). v.name) is.same) roomier.all) roomier.noted are.noted;
    }

-- elements of lists of numbers

one-of : (number : ℕ) (numbers : List ℕ) → Contains numbers number → is_one_of number numbers ≡ true
one-of number numbers (k, below, is) = list_any_at (λ one. one == number) numbers k number below (eq-eqb (get_or numbers k number) number is)

of-one : (number : ℕ) (numbers : List ℕ) → is_one_of number numbers ≡ true → Contains numbers number
of-one number numbers is =
    let found = Any-from_list_any (λ one. one == number) numbers is in
    (found.0, found.2, subst (λ one. get_or numbers found.0 one ≡ one) (eqb-true found.1 number found.4) found.3)

rising-above : (one : ℕ) (numbers : List ℕ) → IsStrictlyIncreasing (one ∷ numbers) → IsAbove (suc one) numbers
rising-above one [] up = tt
rising-above one (next ∷ numbers) up = (
  (let h : one < next = up 0 (omega arith) in omega arith),
  rising-above next numbers (λ k below.
      subst (λ n. slice_index (next ∷ numbers) k < slice_index (one ∷ next ∷ numbers) n) (let e : suc k + 1 ≡ suc (k + 1) = omega arith in e) (up (suc k) (omega (arith, below)))),
)

above-all : (numbers : List ℕ) → IsStrictlyIncreasing numbers → IsAbove 0 numbers
above-all [] up = tt
above-all (one ∷ numbers) up = ((omega arith), rising-above one numbers up)

-- the numbers of the latest posts

one-of-option : (number : ℕ) (found : Option ℕ) → is_one_of number (option_to_list found) ≡ true → found ≡ Some number
one-of-option number None is = absurd (let e : false ≡ true = is in cc)
one-of-option number (Some one) is = ap (λ n. Some n) (eqb-true one number (sym (or-false (one == number)) ∙ is))

heard-from : (variables : List VariableState) (number : ℕ) (all : List Heard) → is_one_of number (latest_heard variables all) ≡ true → (place : ℕ) × (latest_at variables place ≡ Some number)
heard-from variables number [] is = absurd (let e : false ≡ true = is in cc)
heard-from variables number (one ∷ all) is =
    elim (or_cases (is_one_of number (option_to_list (latest_at variables one.0))) (is_one_of number (latest_heard variables all))
    (sym (list_any-append (λ x. x == number) (option_to_list (latest_at variables one.0)) (latest_heard variables all)) ∙ is)) [
      | inl here ↦ (one.0, one-of-option number (latest_at variables one.0) here)
      | inr later ↦ heard-from variables number all later
    ]

prepared-from : (variables : List VariableState) (number : ℕ) (all : List PreparedState) → is_one_of number (latest_prepared variables all) ≡ true → (place : ℕ) × (latest_at variables place ≡ Some number)
prepared-from variables number [] is = absurd (let e : false ≡ true = is in cc)
prepared-from variables number (one ∷ all) is =
    elim (or_cases (is_one_of number (latest_heard variables one.subscriptions)) (is_one_of number (latest_prepared variables all))
    (sym (list_any-append (λ x. x == number) (latest_heard variables one.subscriptions) (latest_prepared variables all)) ∙ is)) [
      | inl here ↦ heard-from variables number one.subscriptions here
      | inr later ↦ prepared-from variables number all later
    ]

one-more : (variables : List VariableState) (number : ℕ) (some more : List Heard) → is_one_of number (latest_heard variables (some ++ more)) ≡ (is_one_of number (latest_heard variables some) || is_one_of number (latest_heard variables more))
one-more variables number some more =
    ap (is_one_of number) (flat_map-append (λ one. option_to_list (latest_at variables one.0)) some more) ∙ list_any-append (λ x. x == number) (latest_heard variables some) (latest_heard variables more)

heard-to : (variables : List VariableState) (client : ℕ) (live : Registration) (from place number : ℕ) (names : List (List ℕ)) (name : List ℕ) → slice_get names place ≡ Some name → matches live.reg.var name ≡ true →
    latest_at variables (from + place) ≡ Some number → is_one_of number (latest_heard variables (heard_through client live from names)) ≡ true
heard-to variables client live from place number [] name there matched latest = absurd (let e : None ≡ Some name = there in cc)
heard-to variables client live from zero number (one ∷ names) name there matched latest =
    let own : latest_at variables from ≡ Some number = ap (latest_at variables) (let e : from ≡ from + 0 = omega arith in e) ∙ latest in
    one-more variables number (heard_where client live from one) (heard_through client live (suc from) names)
    ∙ or_left (is_one_of number (latest_heard variables (heard_where client live from one))) (is_one_of number (latest_heard variables (heard_through client live (suc from) names)))
    (ap (λ b. is_one_of number (latest_heard variables (if b then (from, fresh_subscription client live) ∷ [] else []))) (ap (matches live.reg.var) (same_Some one name there) ∙ matched)
    ∙ ap (λ found. is_one_of number (option_to_list found ++ [])) own ∙ or_left (number == number) false (eq-eqb number number refl))
heard-to variables client live from (suc place) number (one ∷ names) name there matched latest =
    one-more variables number (heard_where client live from one) (heard_through client live (suc from) names)
    ∙ or_right (is_one_of number (latest_heard variables (heard_where client live from one))) (is_one_of number (latest_heard variables (heard_through client live (suc from) names)))
    (heard-to variables client live (suc from) place number names name there matched (ap (latest_at variables) (let e : suc from + place ≡ from + suc place = omega arith in e) ∙ latest))

prepared-to : (variables : List VariableState) (client made place number : ℕ) (names : List (List ℕ)) (name : List ℕ) (regs : List Reg) → slice_get names place ≡ Some name → list_any (λ (reg : Reg). matches reg.var name) regs ≡ true →
    latest_at variables place ≡ Some number → is_one_of number (latest_prepared variables (map (prepared_of client made names) regs)) ≡ true
prepared-to variables client made place number names name [] there matched latest = absurd (let e : false ≡ true = matched in cc)
prepared-to variables client made place number names name (reg ∷ regs) there matched latest =
    list_any-append (λ x. x == number) (latest_heard variables (prepared_of client made names reg).subscriptions) (latest_prepared variables (map (prepared_of client made names) regs))
    ∙ (elim (or_cases (matches reg.var name) (list_any (λ (one : Reg). matches one.var name) regs) matched) [
      | inl here ↦
          or_left (is_one_of number (latest_heard variables (prepared_of client made names reg).subscriptions)) (is_one_of number (latest_prepared variables (map (prepared_of client made names) regs)))
          (heard-to variables client (record { reg = reg; made = made }) 0 place number names name there here (ap (latest_at variables) (let e : 0 + place ≡ place = omega arith in e) ∙ latest))
      | inr later ↦
          or_right (is_one_of number (latest_heard variables (prepared_of client made names reg).subscriptions)) (is_one_of number (latest_prepared variables (map (prepared_of client made names) regs)))
          (prepared-to variables client made place number names name regs there later latest)
    ])

-- which registrations are new

-- where no older registration was made at this entry, one that was is of those that were made
none-made : (made : ℕ) (var : List ℕ) (lives : List Live) (regs : List Reg) → list_any (is_made made var) lives ≡ false → list_any (λ (reg : Reg). matches reg.var var) regs ≡ false →
    list_any (is_made made var) (fold (with_reg made) lives regs) ≡ false
none-made made var lives [] old none = old
none-made made var lives (reg ∷ regs) old none =
    let parts = or_parts (matches reg.var var) (list_any (λ (one : Reg). matches one.var var) regs) none in
    let stays : Live → Bool = λ live. not (is_with_patterns reg.var reg.source (registration_of live)) in
    none-made made var (with_reg made lives reg) regs
    (list_any-push (is_made made var) (without_patterns reg.var reg.source lives) (new_live made reg)
    ∙ or_from (list_any (is_made made var) (without_patterns reg.var reg.source lives)) (made == made && matches reg.var var)
    (list_any_none (is_made made var) (without_patterns reg.var reg.source lives) (All-filter stays (λ live. is_made made var live ≡ false) lives (λ k d below. none-at (is_made made var) lives k d old below)))
    (and_right (made == made) (matches reg.var var) parts.0)) parts.1

-- each live registration was made by an entry of the history
made-before : (names : List (List ℕ)) (history : History) (client : ℕ) → All (λ (live : Live). live.made < length history) (inbox_of names client history).lives
made-before names history client =
    subst (All (λ (live : Live). live.made < length history))
    (sym (lives-are names client history (length history) (omega arith)) ∙ ap (λ past. (inbox_of names client past).lives) (take_all (length history) history (omega arith)))
    (all (live_before client history (length history)) (live-under client history (length history) (omega arith)))
  where
    all : (mades : List MadeReg) → AllMade (IsUnder (length history)) mades → All (λ (live : Live). live.made < length history) (map (live_at names client history (posts_before history (length history))) mades)
    all [] under = All-nil (λ (live : Live). live.made < length history)
    all (made ∷ mades) under = All-cons (λ (live : Live). live.made < length history) (live_at names client history (posts_before history (length history)) made)
        (map (live_at names client history (posts_before history (length history))) mades) under.0 (all mades under.1)

-- each number is that of the latest post of a variable
latest-there : (variables : List VariableState) (place number : ℕ) → latest_at variables place ≡ Some number → (v : VariableState) × (slice_get variables place ≡ Some v) × (v.latest ≡ Some number)
latest-there variables place number = through (slice_get variables place) refl
  where
    through : (found : Option VariableState) → slice_get variables place ≡ found → option_and_then (λ (v : VariableState). v.latest) found ≡ Some number → (v : VariableState) × (slice_get variables place ≡ Some v) × (v.latest ≡ Some number)
    through None is latest = absurd (none-some number latest)
    through (Some v) is latest = (v, is, latest)

prepared-latest : (posts : List Post) (variables : List VariableState) (number : ℕ) (all : List PreparedState) → All (HasLatest posts) variables → Contains (latest_prepared variables all) number → (var : List ℕ) × IsLatestOf var posts number
prepared-latest posts variables number all latests among =
    let from : (place : ℕ) × (latest_at variables place ≡ Some number) = prepared-from variables number all (one-of number (latest_prepared variables all) among) in
    let variable = latest-there variables from.0 number from.1 in
    (variable.0.name, found-is-latest posts variable.0.name number (sym (all-at (HasLatest posts) variables from.0 variable.0 latests variable.1) ∙ variable.2))

-- the numbers of the latest posts of the variables that the new registrations hear
are-picked : (posts : List Post) (client : ℕ) (inbox : Inbox) (regs : List Reg) (variables : VariablesState) (latest : List ℕ) → All (λ (live : Live). live.made < inbox.entries) inbox.lives →
    All (HasLatest posts) variables.all → AreNoted (map (λ (post : Post). post.var) posts) variables → IsStrictlyIncreasing latest →
    ((number : ℕ) → Contains latest number → Contains (latest_prepared variables.all (map (prepared_of client inbox.entries (variable_names variables.all)) regs)) number) →
    ((number : ℕ) → Contains (latest_prepared variables.all (map (prepared_of client inbox.entries (variable_names variables.all)) regs)) number → Contains latest number) →
    ArePicked posts 0 (record inbox { lives = fold (with_reg inbox.entries) inbox.lives regs }) latest
are-picked posts client inbox regs variables latest past latests noted up only each =
    let made : ℕ = inbox.entries in
    let all : List PreparedState = map (prepared_of client made (variable_names variables.all)) regs in
    record {
      rising = above-all latest up;
      only = λ number member.
          let is : (var : List ℕ) × IsLatestOf var posts number = prepared-latest posts variables.all number all latests (only number (of-one number latest member)) in
          (is.1.post, is.1.there, is.1.latest);
      each = λ number post from at newest new.
          let place : (k : ℕ) × (slice_get variables.noted number ≡ Some k)
          = found-below variables.noted number (omega (arith, noted-length (map (λ (one : Post). one.var) posts) variables noted, length-map posts (λ (one : Post). one.var), slice_get_within posts number post at)) in
          let name : name_at variables.all place.0 ≡ Some post.var
          = noted-name (map (λ (one : Post). one.var) posts) variables number place.0 post.var noted place.1 (slice_get-map (λ (one : Post). one.var) posts number ∙ ap (option_map (λ (one : Post). one.var)) at) in
          let variable = named-at variables.all place.0 post.var name in
          let is : latest_at variables.all place.0 ≡ Some number
          = ap (option_and_then (λ (v : VariableState). v.latest)) variable.1 ∙ all-at (HasLatest posts) variables.all place.0 variable.0 latests variable.1
          ∙ ap (λ var. latest_post_of var posts) variable.2 ∙ latest-is-found posts number post at newest in
          let old : list_any (is_made made post.var) inbox.lives ≡ false
          = list_any_none (is_made made post.var) inbox.lives (All-weaker (λ (live : Live). live.made < made) (λ live. is_made made post.var live ≡ false)
          (λ live before. ap (λ b. b && matches live.reg.var post.var) (ne_eqb live.made made (λ same. omega (arith, before, same)))) inbox.lives past) in
          let heard : list_any (λ (reg : Reg). matches reg.var post.var) regs ≡ true
          = true_from_ne_false (list_any (λ (reg : Reg). matches reg.var post.var) regs)
          (λ none. both_ways (list_any (is_made made post.var) (fold (with_reg made) inbox.lives regs)) (none-made made post.var inbox.lives regs old none) new) in
          one-of number latest (each number (of-one number (latest_prepared variables.all all)
          (prepared-to variables.all client made place.0 number (variable_names variables.all) post.var regs (slice_get-map (λ (v : VariableState). v.name) variables.all place.0 ∙ name) heard is)));
    }

-- all of it

lives-prepared : (client made : ℕ) (names : List (List ℕ)) (lives : List Live) (regs : List Reg) → fold with_prepared lives (map (prepared_of client made names) regs) ≡ fold (with_reg made) lives regs
lives-prepared client made names lives [] = refl
lives-prepared client made names lives (reg ∷ regs) = lives-prepared client made names (with_reg made lives reg) regs

-- the inbox stands at the next entry, and the registrations change nothing of that
pub stands-next : (names : List (List ℕ)) (history : History) (client : ℕ) (change : List Live → List Live) → StandsAt (length history) (with_lives client change (inboxes_after names history) client)
stands-next names history client change =
    let inbox : Inbox = inbox_of names client history in
    let entries : inbox.entries ≡ length history = entries-inbox_of names client history in
    subst (StandsAt (length history)) (sym (at-client client (λ inbox. record inbox { lives = change inbox.lives }) (inboxes_after names history)))
    (entries, omega (arith, entries, (settled-inbox_of names client history).orderly.fetched))

-- The parts of a database after a call that registers.
pub AreKept-register : (names : List (List ℕ)) (history : History) (stamp client : ℕ) (regs : List Reg) (variables more : VariablesState) (states others : List ClientState) (all : List PreparedState) (latest : List ℕ) →
    all ≡ map (prepared_of client (length history) (variable_names variables.all)) regs → IsStrictlyIncreasing latest →
    ((number : ℕ) → Contains latest number → Contains (latest_prepared variables.all all) number) → ((number : ℕ) → Contains (latest_prepared variables.all all) number → Contains latest number) →
    length others ≡ length states → AreNoted (map (λ (post : Post). post.var) (posts_of history)) more →
    AreKeptAs (with_inbox client (λ inbox. fold (catch_number names (posts_of history)) inbox latest) (with_lives client (λ lives. fold with_prepared lives all) (inboxes_after names history))) (posts_of history) more others →
    AreKept names history variables states → AreKept names (history ++ record { stamp = stamp; client = client; call = Register regs } ∷ []) more others
AreKept-register names history stamp client regs variables more states others all latest prepared up only each long noted held before =
    AreKept-quiet names history (record { stamp = stamp; client = client; call = Register regs }) variables more states others refl long (λ vars are. noted ∙ sym before.noted ∙ are) before
    (subst (λ now. AreKeptAs now posts more others) (all-same client catch (with_lives client make inboxes) (with_inbox client registers inboxes)
    (ap catch (at-client client made inboxes) ∙ caught ∙ sym (at-client client registers inboxes))
    (λ number apart. at-others client made inboxes number apart ∙ sym (at-others client registers inboxes number apart))) held)
  where
    posts : List Post
    posts = posts_of history

    inboxes : ℕ → Inbox
    inboxes = inboxes_after names history

    own : Inbox
    own = inboxes client

    make : List Live → List Live
    make lives = fold with_prepared lives all

    made : Inbox → Inbox
    made inbox = record inbox { lives = make inbox.lives }

    catch : Inbox → Inbox
    catch inbox = fold (catch_number names posts) inbox latest

    registers : Inbox → Inbox
    registers inbox = with_own names inbox (Register regs)

    entries : own.entries ≡ length history
    entries = entries-inbox_of names client history

    prepared_at : all ≡ map (prepared_of client own.entries (variable_names variables.all)) regs
    prepared_at = prepared ∙ ap (λ n. map (prepared_of client n (variable_names variables.all)) regs) (sym entries)

    picked : ArePicked posts 0 (record own { lives = fold (with_reg own.entries) own.lives regs }) latest
    picked = are-picked posts client own regs variables latest (subst (λ n. All (λ (live : Live). live.made < n) own.lives) (sym entries) (made-before names history client)) before.kept.heard.latest before.noted up
        (λ number among. subst (λ list. Contains (latest_prepared variables.all list) number) prepared_at (only number among))
        (λ number among. each number (subst (λ list. Contains (latest_prepared variables.all list) number) (sym prepared_at) among))

    caught : catch (made own) ≡ registers own
    caught =
        ap (λ lives. catch (record own { lives = lives })) (ap (fold with_prepared own.lives) prepared_at ∙ lives-prepared client own.entries (variable_names variables.all) own.lives regs)
        ∙ sym (catching-picked names posts 0 (record own { lives = fold (with_reg own.entries) own.lives regs }) own.posts latest (sym (posts-inbox_of names client history)) picked)

-- what the calls within ask for

pub all-ready : (client made : ℕ) (before after : List VariableState) (regs : List Reg) (all : List PreparedState) → all ≡ map (prepared_of client made (variable_names before)) regs → AreEach IsRoomier before after →
    All (λ (reg : Reg). HasRoomThrough (length regs) reg.var after) regs → All (IsPrepared client (length all) after) all
all-ready client made before after regs all prepared roomier room =
    let long : length regs ≡ length all = sym (ap length prepared ∙ length-map regs (prepared_of client made (variable_names before))) in
    subst (All (IsPrepared client (length all) after)) (sym prepared)
    (All-map (IsPrepared client (length all) after) (prepared_of client made (variable_names before)) regs
    (All-weaker (λ (reg : Reg). HasRoomThrough (length regs) reg.var after) (λ reg. IsPrepared client (length all) after (prepared_of client made (variable_names before) reg))
    (λ reg fits. record {
      subscriptions = ap (heard_through client (record { reg = reg; made = made }) 0) (sym (roomier-names before after roomier));
      room = subst (λ n. HasRoomThrough n reg.var after) long fits;
    }) regs room))

pub latest-below : (posts : List Post) (variables : List VariableState) (all : List PreparedState) (latest : List ℕ) → All (HasLatest posts) variables →
    ((number : ℕ) → Contains latest number → Contains (latest_prepared variables all) number) → All (λ number. number < length posts) latest
latest-below posts variables all latest latests only = λ k d below.
    let number : ℕ = get_or latest k d in
    let is : (var : List ℕ) × IsLatestOf var posts number
    = prepared-latest posts variables number all latests (only number (k, below, get_or_from_slice_get latest k number number (slice_get-get_or latest k d below))) in
    slice_get_within posts number is.1.post is.1.there

pub latest-posts : (posts : List Post) (variables : List VariableState) (all : List PreparedState) (latest : List ℕ) → All (HasLatest posts) variables →
    ((number : ℕ) → Contains latest number → Contains (latest_prepared variables all) number) → All (IsLatestPost posts) latest
latest-posts posts variables all latest latests only = λ k d below post there.
    let number : ℕ = get_or latest k d in
    let is : (var : List ℕ) × IsLatestOf var posts number
    = prepared-latest posts variables number all latests (only number (k, below, get_or_from_slice_get latest k number number (slice_get-get_or latest k d below))) in
    latest-is-found posts number post there
    (ap (λ (one : Post). is_latest one (drop (suc number) posts)) (same_Some post is.1.post (sym there ∙ is.1.there)) ∙ is.1.latest)
