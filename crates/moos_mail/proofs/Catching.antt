-- Which posts catch up at a Register entry, and come through the registrations that it makes.
use Rattle.std.proofs.Common.{◌≡◌, ℕ, zero, suc, ◌+◌, ◌<◌, ◌≤◌, Bool, true, false, ◌==◌, ◌&&◌, not, List, [], ◌∷◌, ◌++◌, length, map, drop, slice_get, Some, None, refl, ap, sym, ◌∙◌, arith, subst, if◌then◌else◌}
use Rattle.std.proofs.lemmas.Bool.{lt-ltb, eqb-true, and_right}
use Rattle.std.specs.List.{list_any}
use mathlib.Core.List.{map-map}
use Rattle.moos_post.specs.declared.value.Post.{Post}
use Rattle.moos_post.specs.Delivery.{Live, Inbox, selects, with_came, mailed_to, is_new_for, is_latest, was_mailed, catches_up, with_caught_up, after_catching_up}
use Rattle.moos_post.specs.History.{History, posts_of}
use Rattle.moos_mail.specs.Sentences.{posts_before}
use Rattle.moos_mail.specs.Registrations.{MadeReg, is_mailed_at, live_with, came_through, live_at}
use Rattle.moos_mail.proofs.Coming.{mailed-own, mailed-other, was-other, StandFrom, stand-rest, stand-first}
use Rattle.moos_mail.proofs.Lists.{list_any-alike, list_any-map}

module _ (names : List (List ℕ)) where
  -- the inbox after a post that may catch up
  abbrev pub after_one : Inbox → ℕ → Post → Bool → Inbox
  after_one inbox number post catches = if catches then with_caught_up names inbox number post else inbox

  pub entries-one : (inbox : Inbox) (number : ℕ) (post : Post) (catches : Bool) → (after_one inbox number post catches).entries ≡ inbox.entries
  entries-one inbox number post true = refl
  entries-one inbox number post false = refl

  mailed-one : (n entry : ℕ) (inbox : Inbox) (number : ℕ) (post : Post) (catches : Bool) → (number ≡ n → ⊥) → is_mailed_at n entry (after_one inbox number post catches).mailed ≡ is_mailed_at n entry inbox.mailed
  mailed-one n entry inbox number post true other = mailed-other n number entry inbox.entries inbox.mailed other
  mailed-one n entry inbox number post false other = refl

  was-one : (n : ℕ) (inbox : Inbox) (number : ℕ) (post : Post) (catches : Bool) → (number ≡ n → ⊥) → was_mailed n (after_one inbox number post catches).mailed ≡ was_mailed n inbox.mailed
  was-one n inbox number post true other = was-other n number inbox.entries inbox.mailed other
  was-one n inbox number post false other = refl

  -- the registrations stay the same, whatever comes through them
  new-one : (entry : ℕ) (one : Post) (inbox : Inbox) (number : ℕ) (post : Post) (catches : Bool) →
      list_any (is_new_for names entry one) (after_one inbox number post catches).lives ≡ list_any (is_new_for names entry one) inbox.lives
  new-one entry one inbox number post false = refl
  new-one entry one inbox number post true =
      list_any-map (is_new_for names entry one) (λ live. if is_new_for names inbox.entries post live then with_came post live else live) inbox.lives
      ∙ list_any-alike _ (is_new_for names entry one) inbox.lives (λ live. through live (is_new_for names inbox.entries post live))
    where
      through : (live : Live) (new : Bool) → is_new_for names entry one (if new then with_came post live else live) ≡ is_new_for names entry one live
      through live true = refl
      through live false = refl

  -- a post catches up in its turn or never
  pub caught-before : (n entry number : ℕ) (inbox : Inbox) (later : List Post) → n < number → is_mailed_at n entry (after_catching_up names number inbox later).mailed ≡ is_mailed_at n entry inbox.mailed
  caught-before n entry number inbox [] below = refl
  caught-before n entry number inbox (post ∷ later) below =
      let catches : Bool = catches_up names inbox number post later in
      caught-before n entry (suc number) (after_one inbox number post catches) later (omega arith) ∙ mailed-one n entry inbox number post catches (λ same. omega (arith, same))

  -- where nothing was mailed at this entry from this number on, the post is mailed there where it catches up
  caught-here : (number : ℕ) (post : Post) (inbox : Inbox) (later : List Post) → is_mailed_at number inbox.entries inbox.mailed ≡ false →
      is_mailed_at number inbox.entries (after_catching_up names number inbox (post ∷ later)).mailed ≡ catches_up names inbox number post later
  caught-here number post inbox later new =
      caught-before number inbox.entries (suc number) (after_one inbox number post (catches_up names inbox number post later)) later (omega arith) ∙ through (catches_up names inbox number post later)
    where
      through : (catches : Bool) → is_mailed_at number inbox.entries (after_one inbox number post catches).mailed ≡ catches
      through true = mailed-own number inbox.entries inbox.mailed
      through false = new

  -- Each post is mailed where it is the latest of its variable, a new registration selects it and it was never mailed.
  pub caught-at : (number i : ℕ) (one : Post) (inbox : Inbox) (later : List Post) → slice_get later i ≡ Some one → is_mailed_at (number + i) inbox.entries inbox.mailed ≡ false →
      is_mailed_at (number + i) inbox.entries (after_catching_up names number inbox later).mailed
      ≡ (is_latest one (drop (suc i) later) && list_any (is_new_for names inbox.entries one) inbox.lives && not (was_mailed (number + i) inbox.mailed))
  caught-at number i one inbox [] at new = absurd (let e : None ≡ Some one = at in cc)
  caught-at number zero one inbox (post ∷ later) at new =
      let same : post ≡ one = (let e : Some post ≡ Some one = at in cc) in
      let here : number ≡ number + 0 = omega arith in
      subst (λ n. is_mailed_at n inbox.entries (after_catching_up names number inbox (post ∷ later)).mailed ≡ (is_latest one later && list_any (is_new_for names inbox.entries one) inbox.lives && not (was_mailed n inbox.mailed))) here
      (caught-here number post inbox later (subst (λ n. is_mailed_at n inbox.entries inbox.mailed ≡ false) (sym here) new)
      ∙ ap (λ x. is_latest x later && list_any (is_new_for names inbox.entries x) inbox.lives && not (was_mailed number inbox.mailed)) same)
  caught-at number (suc i) one inbox (post ∷ later) at new =
      let catches : Bool = catches_up names inbox number post later in
      let after : Inbox = after_one inbox number post catches in
      let next : suc number + i ≡ number + suc i = omega arith in
      let other : number ≡ suc number + i → ⊥ = λ same. omega (arith, same) in
      let rest : is_mailed_at (suc number + i) inbox.entries (after_catching_up names (suc number) after later).mailed
      ≡ (is_latest one (drop (suc i) later) && list_any (is_new_for names inbox.entries one) after.lives && not (was_mailed (suc number + i) after.mailed))
      = subst
      (λ entry. is_mailed_at (suc number + i) entry (after_catching_up names (suc number) after later).mailed
      ≡ (is_latest one (drop (suc i) later) && list_any (is_new_for names entry one) after.lives && not (was_mailed (suc number + i) after.mailed)))
      (entries-one inbox number post catches)
      (caught-at (suc number) i one after later at
      (mailed-one (suc number + i) after.entries inbox number post catches other
      ∙ ap (λ entry. is_mailed_at (suc number + i) entry inbox.mailed) (entries-one inbox number post catches)
      ∙ subst (λ n. is_mailed_at n inbox.entries inbox.mailed ≡ false) (sym next) new)) in
      subst (λ n. is_mailed_at n inbox.entries (after_catching_up names (suc number) after later).mailed ≡ (is_latest one (drop (suc i) later) && list_any (is_new_for names inbox.entries one) inbox.lives && not (was_mailed n inbox.mailed))) next
      (rest
      ∙ ap (λ b. is_latest one (drop (suc i) later) && b && not (was_mailed (suc number + i) after.mailed)) (new-one inbox.entries one inbox number post catches)
      ∙ ap (λ b. is_latest one (drop (suc i) later) && list_any (is_new_for names inbox.entries one) inbox.lives && not b) (was-one (suc number + i) inbox number post catches other))

-- What comes through the live registrations.
module _ (names : List (List ℕ)) (client : ℕ) (history : History) (k : ℕ) where
  abbrev pub catching_as : Bool → ℕ → MadeReg → Live
  catching_as own n made = if own then live_at names client history n made else live_at names client history (posts_before history k) made

  -- while posts catch up at entry k: its own registrations stand before post n, and all others before its first post
  abbrev pub catching : ℕ → MadeReg → Live
  catching n made = catching_as (made.entry == k) n made

  -- the next post of a registration that was made later
  came-next : (n : ℕ) (post : Post) (made : MadeReg) → slice_get (posts_of history) n ≡ Some post → n < posts_before history made.entry →
      live_at names client history (suc n) made ≡ (if is_mailed_at n made.entry (mailed_to names client history) && selects names made.reg post then with_came post (live_at names client history n made) else live_at names client history n made)
  came-next n post made there below = rw (there, lt-ltb n (posts_before history made.entry) below) (through (is_mailed_at n made.entry (mailed_to names client history) && selects names made.reg post))
    where
      through : (comes : Bool) → live_with made (if comes then came_through names client history made n ++ post ∷ [] else came_through names client history made n)
          ≡ (if comes then with_came post (live_at names client history n made) else live_at names client history n made)
      through true = refl
      through false = refl

  -- one post more, which is mailed at this entry or not
  catching-through : (n : ℕ) (post : Post) (mailed : Bool) (made : MadeReg) → slice_get (posts_of history) n ≡ Some post → n < posts_before history k → is_mailed_at n k (mailed_to names client history) ≡ mailed →
      (if mailed && is_new_for names k post (catching n made) then with_came post (catching n made) else catching n made) ≡ catching (suc n) made
  catching-through n post mailed made there below is = through (made.entry == k) refl
    where
      through : (own : Bool) → (made.entry == k) ≡ own → (if mailed && is_new_for names k post (catching_as own n made) then with_came post (catching_as own n made) else catching_as own n made) ≡ catching_as own (suc n) made
      through true own =
          let same : made.entry ≡ k = eqb-true made.entry k own in
          ap (λ b. if mailed && (b && selects names made.reg post) then with_came post (live_at names client history n made) else live_at names client history n made) own
          ∙ ap (λ b. if b && selects names made.reg post then with_came post (live_at names client history n made) else live_at names client history n made) (sym (ap (λ entry. is_mailed_at n entry (mailed_to names client history)) same ∙ is))
          ∙ sym (came-next n post made there (subst (λ entry. n < posts_before history entry) (sym same) below))
      through false old =
          ap (λ b. if mailed && (b && selects names made.reg post) then with_came post (live_at names client history (posts_before history k) made) else live_at names client history (posts_before history k) made) old
          ∙ ap (λ b. if b then with_came post (live_at names client history (posts_before history k) made) else live_at names client history (posts_before history k) made) (and_right mailed false refl)

  lives-one : (n : ℕ) (post : Post) (inbox : Inbox) (catches : Bool) (mades : List MadeReg) → slice_get (posts_of history) n ≡ Some post → n < posts_before history k → inbox.entries ≡ k →
      is_mailed_at n k (mailed_to names client history) ≡ catches → inbox.lives ≡ map (catching n) mades → (after_one names inbox n post catches).lives ≡ map (catching (suc n)) mades
  lives-one n post inbox true mades there below at is lives =
      ap (λ entry. map (λ live. if is_new_for names entry post live then with_came post live else live) inbox.lives) at
      ∙ ap (map (λ live. if is_new_for names k post live then with_came post live else live)) lives
      ∙ map-map (λ live. if is_new_for names k post live then with_came post live else live) (catching n) mades
      ∙ ap (λ (f : MadeReg → Live). map f mades) (λ i made. catching-through n post true made there below is i)
  lives-one n post inbox false mades there below at is lives =
      lives ∙ ap (λ (f : MadeReg → Live). map f mades) (λ i made. catching-through n post false made there below is i)

  -- The live registrations after the posts that caught up, where what these mailed is what the history mails at the entry.
  pub lives-caught : (n : ℕ) (later : List Post) (inbox : Inbox) (mades : List MadeReg) → StandFrom names client history n later → n + length later ≡ posts_before history k → inbox.entries ≡ k →
      ((m : ℕ) → n ≤ m → is_mailed_at m k inbox.mailed ≡ false) → ((m : ℕ) → m < posts_before history k → is_mailed_at m k (after_catching_up names n inbox later).mailed ≡ is_mailed_at m k (mailed_to names client history)) →
      inbox.lives ≡ map (catching n) mades → (after_catching_up names n inbox later).lives ≡ map (catching (posts_before history k)) mades
  lives-caught n [] inbox mades there count at new final lives = lives ∙ (let e : n ≡ posts_before history k = omega (arith, count) in ap (λ m. map (catching m) mades) e)
  lives-caught n (post ∷ later) inbox mades there count at new final lives =
      let catches : Bool = catches_up names inbox n post later in
      let below : n < posts_before history k = (let e : n + suc (length later) ≡ posts_before history k = count in omega (arith, e)) in
      let here : is_mailed_at n k (mailed_to names client history) ≡ catches
      = sym (final n below) ∙ subst (λ entry. is_mailed_at n entry (after_catching_up names n inbox (post ∷ later)).mailed ≡ catches) at
      (caught-here names n post inbox later (subst (λ entry. is_mailed_at n entry inbox.mailed ≡ false) (sym at) (new n (omega arith)))) in
      lives-caught (suc n) later (after_one names inbox n post catches) mades (stand-rest names client history n post later there) (let e : n + suc (length later) ≡ posts_before history k = count in omega (arith, e))
      (entries-one names inbox n post catches ∙ at) (λ m above. mailed-one names m k inbox n post catches (λ same. omega (arith, same)) ∙ new m (omega arith)) final
      (lives-one n post inbox catches mades (stand-first names client history n post later there) below at here lives)
