-- The live registrations before each entry, and what came through them.
use Rattle.std.proofs.Common.{◌≡◌, ℕ, zero, suc, ◌+◌, ◌-◌, ◌<◌, ◌≤◌, Bool, true, false, cond, ◌==◌, ◌&&◌, ◌||◌, not, List, [], ◌∷◌, ◌++◌, append-nil, length, map, filter, fold, take, drop, slice_get, Some, All, refl, ap, sym, ◌∙◌, arith, subst, if◌then◌else◌, length-append}
use Rattle.std.proofs.Math.Bool.{or-false}
use Rattle.std.proofs.iter.runs.Lists.{nth_right}
use Rattle.std.proofs.lemmas.Bool.{eq-eqb, ne_eqb, and_right}
use Rattle.std.proofs.lemmas.List.{map-append, length-take-le, take-append-drop}
use Rattle.std.proofs.lemmas.List.Concat.{flat_map-append}
use Rattle.std.proofs.lemmas.List.Elements.{All-weaker}
use Rattle.std.proofs.lemmas.List.Folds.{list_any-append, list_any_none}
use Rattle.std.proofs.lemmas.Option.{slice_get_within}
use Rattle.std.specs.List.{list_any}
use mathlib.Core.List.{map-map}
use Rattle.moos_post.specs.declared.entry.Call.{Call}
use Rattle.moos_post.specs.declared.entry.Call.TheVariants.{Register, Unregister, Post as Posts, Fetch}
use Rattle.moos_post.specs.declared.entry.Entry.{Entry}
use Rattle.moos_post.specs.declared.registration.Reg.{Reg}
use Rattle.moos_post.specs.declared.value.Post.{Post}
use Rattle.moos_post.specs.Delivery.{Live, Mailing, Inbox, inbox_of, mailed_to, with_own, with_reg, with_entry}
use Rattle.moos_post.specs.History.{History, posts_of, posts_of_entry}
use Rattle.moos_mail.specs.Sentences.{posts_before}
use Rattle.moos_mail.specs.Registrations.{MadeReg, made_at, is_alike, is_ended_by, regs_of_call, last_of_each, live_from, live_before, is_mailed_at, live_at}
use Rattle.moos_mail.proofs.Catching.{catching, catching_as, lives-caught}
use Rattle.moos_mail.proofs.Coming.{AllMade, map-made, StandFrom, IsBy, lives-posts, posted-before}
use Rattle.moos_mail.proofs.Inboxes.{ended, entries-inbox_of, posts-inbox_of, posts-own}
use Rattle.moos_mail.proofs.Lists.{filter-all, filter-map, found-below, slice_get-front, take-next}
use Rattle.moos_mail.proofs.Mailed.{Grown, inbox-next, mailed-front, mailed-past}
use Rattle.moos_mail.proofs.Standing.{live-next, lives-regs, new_live}

-- entries that made registrations

made-append : (P : ℕ → Type 0) (mades more : List MadeReg) → AllMade P mades → AllMade P more → AllMade P (mades ++ more)
made-append P [] more all all' = all'
made-append P (made ∷ mades) more all all' = (all.0, made-append P mades more all.1 all')

made-map : (P : ℕ → Type 0) (entry : ℕ) (regs : List Reg) → P entry → AllMade P (map (made_at entry) regs)
made-map P entry [] here = tt
made-map P entry (reg ∷ regs) here = (here, made-map P entry regs here)

made-weaker : (P Q : ℕ → Type 0) (mades : List MadeReg) → ((entry : ℕ) → P entry → Q entry) → AllMade P mades → AllMade Q mades
made-weaker P Q [] weaker all = tt
made-weaker P Q (made ∷ mades) weaker all = (weaker made.entry all.0, made-weaker P Q mades weaker all.1)

pub made-filter : (P : ℕ → Type 0) (p : MadeReg → Bool) (mades : List MadeReg) → AllMade P mades → AllMade P (filter p mades)
made-filter P p [] all = tt
made-filter P p (made ∷ mades) all = through (p made) (made-filter P p mades all.1)
  where
    through : (passes : Bool) → AllMade P (filter p mades) → AllMade P (cond passes (made ∷ filter p mades) (filter p mades))
    through true rest = (all.0, rest)
    through false rest = rest

abbrev pub IsUnder : ℕ → ℕ → Type 0
IsUnder n entry = entry < n

made-under : (client n number : ℕ) (history : History) → number + length history ≤ n → AllMade (IsUnder n) (live_from client number history)
made-under client n number [] fits = tt
made-under client n number (entry ∷ history) fits =
    made-append (IsUnder n) _ (live_from client (suc number) history) (made-map (IsUnder n) number _ (omega (arith, fits)))
    (made-under client n (suc number) history (let e : number + suc (length history) ≤ n = fits in omega (arith, e)))

-- live registrations were made before
pub live-under : (client : ℕ) (history : History) (k : ℕ) → k ≤ length history → AllMade (IsUnder k) (live_before client history k)
live-under client history k within = made-under client k 0 (take k history) (omega (arith, length-take-le k history within))

-- posts by number

pub posts-split : (history : History) (k : ℕ) → posts_of history ≡ posts_of (take k history) ++ posts_of (drop k history)
posts-split history k = sym (ap posts_of (take-append-drop k history)) ∙ flat_map-append posts_of_entry (take k history) (drop k history)

posts-next : (history : History) (k : ℕ) (entry : Entry) → slice_get history k ≡ Some entry → posts_of (take (suc k) history) ≡ posts_of (take k history) ++ posts_of_entry entry
posts-next history k entry there =
    ap posts_of (take-next history k entry there) ∙ flat_map-append posts_of_entry (take k history) (entry ∷ [])
    ∙ ap (λ posts. posts_of (take k history) ++ posts) (append-nil (posts_of_entry entry))

pub before-next : (history : History) (k : ℕ) (entry : Entry) → slice_get history k ≡ Some entry → posts_before history (suc k) ≡ posts_before history k + length (posts_of_entry entry)
before-next history k entry there = ap length (posts-next history k entry there) ∙ length-append (posts_of (take k history)) (posts_of_entry entry)

-- the posts of a front, and those of an entry, by number
pub post-front : (history : History) (k n : ℕ) (post : Post) → slice_get (posts_of (take k history)) n ≡ Some post → slice_get (posts_of history) n ≡ Some post
post-front history k n post there = ap (λ posts. slice_get posts n) (posts-split history k) ∙ slice_get-front (posts_of (take k history)) (posts_of (drop k history)) n post there

pub stand-entry : (names : List (List ℕ)) (client : ℕ) (history : History) (k : ℕ) (entry : Entry) → slice_get history k ≡ Some entry → StandFrom names client history (posts_before history k) (posts_of_entry entry)
stand-entry names client history k entry there i post is =
    post-front history (suc k) (posts_before history k + i) post
    (ap (λ posts. slice_get posts (posts_before history k + i)) (posts-next history k entry there) ∙ nth_right (posts_of (take k history)) (posts_of_entry entry) i ∙ is)

before-suc : (history : History) (k : ℕ) → posts_before history k ≤ posts_before history (suc k)
before-suc history zero = omega arith
before-suc [] (suc k) = omega arith
before-suc (entry ∷ history) (suc k) =
    omega (arith, before-suc history k, length-append (posts_of_entry entry) (posts_of (take k history)), length-append (posts_of_entry entry) (posts_of (take (suc k) history)))

before-more : (history : History) (d k : ℕ) → posts_before history k ≤ posts_before history (d + k)
before-more history zero k = (let e : k ≡ 0 + k = omega arith in subst (λ n. posts_before history k ≤ posts_before history n) e (omega arith))
before-more history (suc d) k =
    let next : d + suc k ≡ suc d + k = omega arith in
    omega (arith, before-suc history k, subst (λ n. posts_before history (suc k) ≤ posts_before history n) next (before-more history d (suc k)))

-- Each registration that is live after entry k stands behind the posts before it.
pub live-by : (names : List (List ℕ)) (client : ℕ) (history : History) (k : ℕ) → k < length history → AllMade (IsBy names client history (posts_before history k)) (live_before client history (suc k))
live-by names client history k within =
    made-weaker (IsUnder (suc k)) (IsBy names client history (posts_before history k)) (live_before client history (suc k))
    (λ entry below. (let e : (k - entry) + entry ≡ k = omega arith in subst (λ n. posts_before history entry ≤ posts_before history n) e (before-more history (k - entry) entry)))
    (live-under client history (suc k) (omega (arith, within)))

-- mailings at one entry

-- nothing is mailed at an entry by what lies elsewhere
pub none-elsewhere : (n e : ℕ) (mailed : List Mailing) → All (λ one. one.entry ≡ e → ⊥) mailed → is_mailed_at n e mailed ≡ false
none-elsewhere n e mailed elsewhere =
    list_any_none (λ one. one.number == n && one.entry == e) mailed
    (All-weaker (λ (one : Mailing). one.entry ≡ e → ⊥) (λ one. (one.number == n && one.entry == e) ≡ false) (λ one other. and_right (one.number == n) (one.entry == e) (ne_eqb one.entry e other)) mailed elsewhere)

-- what is mailed at an entry is mailed by then
pub mailed-at : (names : List (List ℕ)) (client : ℕ) (history : History) (n e : ℕ) → e < length history → is_mailed_at n e (mailed_to names client history) ≡ is_mailed_at n e (mailed_to names client (take (suc e) history))
mailed-at names client history n e within =
    let grown : Grown (suc e) (mailed_to names client (take (suc e) history)) (mailed_to names client history) = mailed-front names client history (suc e) (omega (arith, within)) in
    ap (is_mailed_at n e) grown.is ∙ list_any-append (λ one. one.number == n && one.entry == e) (mailed_to names client (take (suc e) history)) grown.more
    ∙ ap (λ b. is_mailed_at n e (mailed_to names client (take (suc e) history)) || b)
    (none-elsewhere n e grown.more (All-weaker (λ (one : Mailing). suc e ≤ one.entry) (λ one. one.entry ≡ e → ⊥) (λ one late same. omega (arith, late, same)) grown.more grown.late))
    ∙ or-false (is_mailed_at n e (mailed_to names client (take (suc e) history)))

pub none-before : (names : List (List ℕ)) (client : ℕ) (history : History) (n e : ℕ) → e ≤ length history → is_mailed_at n e (mailed_to names client (take e history)) ≡ false
none-before names client history n e within =
    none-elsewhere n e (mailed_to names client (take e history))
    (All-weaker (λ (one : Mailing). (one.entry < e) × (one.number < posts_before history e)) (λ one. one.entry ≡ e → ⊥) (λ one past same. (let h : one.entry < e = past.0 in omega (arith, h, same))) _ (mailed-past names client history e within))

-- One entry.
module _ (names : List (List ℕ)) (client : ℕ) (history : History) (k : ℕ) (entry : Entry) (there : slice_get history k ≡ Some entry) where
  pub within : k < length history
  within = slice_get_within history k entry there

  abbrev pub front : Inbox
  front = inbox_of names client (take k history)

  -- the inbox after what the client's own call changes beside the posts
  abbrev pub own_part : Bool → Call → Inbox
  own_part own call = if own then with_own names front call else front

  pub front-entries : front.entries ≡ k
  front-entries = entries-inbox_of names client (take k history) ∙ length-take-le k history (omega (arith, within))

  pub front-posts : length front.posts ≡ posts_before history k
  front-posts = ap length (posts-inbox_of names client (take k history))

  -- what is mailed at the entry
  pub mailed-here : (n : ℕ) → is_mailed_at n k (mailed_to names client history) ≡ is_mailed_at n k (ended names client front entry).mailed
  mailed-here n = mailed-at names client history n k within ∙ ap (λ (inbox : Inbox). is_mailed_at n k inbox.mailed) (inbox-next names client history k entry there)

  pub mailed-own : (n : ℕ) → n < posts_before history k → is_mailed_at n k (own_part (entry.client == client) entry.call).mailed ≡ is_mailed_at n k (mailed_to names client history)
  mailed-own n below =
      sym (mailed-here n ∙ posted-before names client history n k (own_part (entry.client == client) entry.call) (posts_of_entry entry)
      (omega (arith, ap length (posts-own names front (entry.client == client) entry.call), front-posts, below)))

  abbrev f : MadeReg → Live
  f = live_at names client history (posts_before history k)

  -- the live registrations after a call
  abbrev pub next_live : Bool → Call → List MadeReg
  next_live own call =
      filter (λ made. not (own && is_ended_by made.reg call)) (live_before client history k) ++ map (made_at k) (last_of_each (if own then regs_of_call call else []))

  pub live-after : live_before client history (suc k) ≡ next_live (entry.client == client) entry.call
  live-after = live-next client history k entry (omega (arith, within)) there

  pub live-same : filter (λ made. not false) (live_before client history k) ++ [] ≡ live_before client history k
  live-same = append-nil (filter (λ made. not false) (live_before client history k)) ∙ filter-all (λ made. not false) (live_before client history k) (λ made. refl)

  -- the registrations of a Register entry before the posts that catch up
  pub lives-new : (regs : List Reg) → front.lives ≡ map f (live_before client history k) →
      fold (with_reg front.entries) front.lives regs ≡ map (catching names client history k 0) (next_live true (Register regs))
  lives-new regs lives =
      let stays : Live → Bool = λ live. not (list_any (is_alike live.reg) regs) in
      let old : List MadeReg = filter (λ made. not (list_any (is_alike made.reg) regs)) (live_before client history k) in
      let kept : map f old ≡ map (catching names client history k 0) old
      = map-made (IsUnder k) f (catching names client history k 0) old (λ made below. ap (λ own. catching_as names client history k own 0 made) (sym (ne_eqb made.entry k (λ same. omega (arith, same, below)))))
      (made-filter (IsUnder k) _ (live_before client history k) (live-under client history k (omega (arith, within)))) in
      let new : map (new_live k) (last_of_each regs) ≡ map (catching names client history k 0) (map (made_at k) (last_of_each regs))
      = sym (map-map (catching names client history k 0) (made_at k) (last_of_each regs) ∙ ap (λ own. map (λ reg. catching_as names client history k own 0 (made_at k reg)) (last_of_each regs)) (eq-eqb k k refl)) in
      ap (λ n. fold (with_reg n) front.lives regs) front-entries
      ∙ ap (λ one. fold (with_reg k) one regs) lives
      ∙ lives-regs k (map f (live_before client history k)) regs
      ∙ ap (λ one. one ++ map (new_live k) (last_of_each regs)) (filter-map stays f (live_before client history k) ∙ kept)
      ∙ ap (λ one. map (catching names client history k 0) old ++ one) new
      ∙ sym (map-append (catching names client history k 0) old (map (made_at k) (last_of_each regs)))

  abbrev IsLived : Bool → Call → Type 0
  IsLived own call = (own_part own call).lives ≡ map f (next_live own call)

  lives-own : (own : Bool) (call : Call) → ((n : ℕ) → n < posts_before history k → is_mailed_at n k (own_part own call).mailed ≡ is_mailed_at n k (mailed_to names client history)) →
      front.lives ≡ map f (live_before client history k) → IsLived own call
  lives-own false call final lives = lives ∙ ap (map f) (sym live-same)
  lives-own true (Posts batch) final lives = lives ∙ ap (map f) (sym live-same)
  lives-own true Fetch final lives = lives ∙ ap (map f) (sym live-same)
  lives-own true (Unregister var source) final lives =
      let gone : Reg → Bool = λ reg. not (is_ended_by reg (Unregister var source)) in
      ap (filter (λ live. gone live.reg)) lives ∙ filter-map (λ live. gone live.reg) f (live_before client history k) ∙ ap (map f) (sym (append-nil (filter (λ made. gone made.reg) (live_before client history k))))
  lives-own true (Register regs) final lives =
      lives-caught names client history k 0 front.posts (record front { lives = fold (with_reg front.entries) front.lives regs }) (next_live true (Register regs))
      (λ i post is. (let e : 0 + i ≡ i = omega arith in ap (slice_get (posts_of history)) e) ∙ post-front history k i post (subst (λ posts. slice_get posts i ≡ Some post) (posts-inbox_of names client (take k history)) is))
      (omega (arith, front-posts)) front-entries (λ m above. none-before names client history m k (omega (arith, within))) final (lives-new regs lives)
      ∙ ap (λ (g : MadeReg → Live). map g (next_live true (Register regs))) (λ i made. either made (made.entry == k) i)
    where
      either : (made : MadeReg) (own : Bool) → catching_as names client history k own (posts_before history k) made ≡ f made
      either made true = refl
      either made false = refl

  -- the live registrations, what came through them, and the posts
  pub lives-part : front.lives ≡ map f (live_before client history k) → (own_part (entry.client == client) entry.call).lives ≡ map f (live_before client history (suc k))
  lives-part lives = lives-own (entry.client == client) entry.call mailed-own lives ∙ ap (map f) (sym live-after)

  lives-next : front.lives ≡ map f (live_before client history k) →
      (with_entry names client front entry).lives ≡ map (live_at names client history (posts_before history (suc k))) (live_before client history (suc k))
  lives-next lives =
      lives-posts names client history (posts_before history k) (posts_of_entry entry) (own_part (entry.client == client) entry.call) (live_before client history (suc k))
      (stand-entry names client history k entry there) (live-by names client history k within) (lives-part lives)
      ∙ ap (λ n. map (live_at names client history n) (live_before client history (suc k))) (sym (before-next history k entry there))

-- The live registrations before each entry, in order, each with the posts that came through it.
pub lives-are : (names : List (List ℕ)) (client : ℕ) (history : History) (k : ℕ) → k ≤ length history →
    (inbox_of names client (take k history)).lives ≡ map (live_at names client history (posts_before history k)) (live_before client history k)
lives-are names client history zero within = refl
lives-are names client history (suc k) within =
    let found : (entry : Entry) × (slice_get history k ≡ Some entry) = found-below history k (omega (arith, within)) in
    ap (λ (inbox : Inbox). inbox.lives) (inbox-next names client history k found.0 found.1)
    ∙ lives-next names client history k found.0 found.1 (lives-are names client history k (omega (arith, within)))
