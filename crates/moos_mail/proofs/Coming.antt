-- Which posts come through a live registration and which are mailed, over the posts of one entry.
use Rattle.std.proofs.Common.{◌≡◌, ℕ, zero, suc, ◌+◌, ◌<◌, ◌≤◌, Bool, true, false, ◌==◌, ◌&&◌, List, [], ◌∷◌, ◌++◌, length, map, fold, slice_get, Some, None, refl, ap, sym, ◌∙◌, arith, subst, if◌then◌else◌}
use Rattle.std.proofs.lemmas.Bool.{le-ltb, eq-eqb, ne_eqb}
use Rattle.std.specs.List.{list_any}
use Rattle.std.proofs.Math.Bool.{or-false, or-true}
use mathlib.Core.List.{map-map}
use Rattle.moos_post.specs.declared.value.Post.{Post}
use Rattle.moos_post.specs.Delivery.{Live, Mailing, Inbox, is_due, with_came, with_post, mailing, was_mailed}
use Rattle.moos_post.specs.History.{History, posts_of}
use Rattle.moos_mail.specs.Sentences.{posts_before}
use Rattle.moos_mail.specs.Registrations.{MadeReg, is_mailed_at, live_with, came_through, live_at}
use Rattle.moos_mail.proofs.Lists.{length-push, list_any-map, list_any-push}

-- each of these was made at an entry of which, and of those before, this is so
abbrev pub AllMade : (ℕ → Type 0) → List MadeReg → Type 0
AllMade P [] = Unit {0}
AllMade P (made ∷ more) = P made.entry × AllMade P more

pub map-made : {Y : Type 0} (P : ℕ → Type 0) (f g : MadeReg → Y) (mades : List MadeReg) → ((made : MadeReg) → P made.entry → f made ≡ g made) → AllMade P mades → map f mades ≡ map g mades
map-made P f g [] alike all = refl
map-made P f g (made ∷ more) alike all = ap (λ y. y ∷ map f more) (alike made all.0) ∙ ap (λ rest. g made ∷ rest) (map-made P f g more alike all.1)

-- one mailing more is of its own number
pub mailed-own : (number entry : ℕ) (mailed : List Mailing) → is_mailed_at number entry (mailed ++ mailing number entry ∷ []) ≡ true
mailed-own number entry mailed =
    list_any-push (λ one. one.number == number && one.entry == entry) mailed (mailing number entry)
    ∙ rw (eq-eqb number number refl, eq-eqb entry entry refl) (or-true (is_mailed_at number entry mailed))

pub mailed-other : (n number entry at : ℕ) (mailed : List Mailing) → (number ≡ n → ⊥) → is_mailed_at n entry (mailed ++ mailing number at ∷ []) ≡ is_mailed_at n entry mailed
mailed-other n number entry at mailed other =
    list_any-push (λ one. one.number == n && one.entry == entry) mailed (mailing number at)
    ∙ rw (ne_eqb number n other) (or-false (is_mailed_at n entry mailed))

pub was-other : (n number at : ℕ) (mailed : List Mailing) → (number ≡ n → ⊥) → was_mailed n (mailed ++ mailing number at ∷ []) ≡ was_mailed n mailed
was-other n number at mailed other =
    list_any-push (λ one. one.number == n) mailed (mailing number at) ∙ rw (ne_eqb number n other) (or-false (was_mailed n mailed))

-- The posts of an entry, one after the other.
module _ (names : List (List ℕ)) (client : ℕ) (history : History) where
  -- these posts stand in the history from number p on
  abbrev pub StandFrom : ℕ → List Post → Type 0
  StandFrom p posts = (i : ℕ) (post : Post) → slice_get posts i ≡ Some post → slice_get (posts_of history) (p + i) ≡ Some post

  pub stand-rest : (p : ℕ) (post : Post) (posts : List Post) → StandFrom p (post ∷ posts) → StandFrom (suc p) posts
  stand-rest p post posts there i one is = (let e : suc p + i ≡ p + suc i = omega arith in ap (slice_get (posts_of history)) e) ∙ there (suc i) one is

  pub stand-first : (p : ℕ) (post : Post) (posts : List Post) → StandFrom p (post ∷ posts) → slice_get (posts_of history) p ≡ Some post
  stand-first p post posts there = (let e : p ≡ p + 0 = omega arith in ap (slice_get (posts_of history)) e) ∙ there 0 post refl

  -- a registration that was made before post p, after it
  due-through : (p : ℕ) (post : Post) (made : MadeReg) → slice_get (posts_of history) p ≡ Some post → posts_before history made.entry ≤ p →
      (if is_due names post (live_at names client history p made) then with_came post (live_at names client history p made) else live_at names client history p made) ≡ live_at names client history (suc p) made
  due-through p post made there before =
      rw (there, le-ltb p (posts_before history made.entry) before) (through (is_due names post (live_at names client history p made)))
    where
      through : (due : Bool) → (if due then with_came post (live_at names client history p made) else live_at names client history p made)
          ≡ live_with made (if due then came_through names client history made p ++ post ∷ [] else came_through names client history made p)
      through true = refl
      through false = refl

  abbrev pub IsBy : ℕ → ℕ → Type 0
  IsBy p entry = posts_before history entry ≤ p

  by-later : (p : ℕ) (mades : List MadeReg) → AllMade (IsBy p) mades → AllMade (IsBy (suc p)) mades
  by-later p [] all = tt
  by-later p (made ∷ more) all = (let h : posts_before history made.entry ≤ p = all.0 in omega arith, by-later p more all.1)

  lives-post : (p : ℕ) (post : Post) (inbox : Inbox) (mades : List MadeReg) → slice_get (posts_of history) p ≡ Some post → AllMade (IsBy p) mades → inbox.lives ≡ map (live_at names client history p) mades →
      (with_post names inbox post).lives ≡ map (live_at names client history (suc p)) mades
  lives-post p post inbox mades there all lives =
      let pass : Live → Live = λ live. if is_due names post live then with_came post live else live in
      ap (map pass) lives ∙ map-map pass (live_at names client history p) mades
      ∙ map-made (IsBy p) _ (live_at names client history (suc p)) mades (λ made before. due-through p post made there before) all

  -- the live registrations after these posts
  pub lives-posts : (p : ℕ) (posts : List Post) (inbox : Inbox) (mades : List MadeReg) → StandFrom p posts → AllMade (IsBy p) mades → inbox.lives ≡ map (live_at names client history p) mades →
      (fold (with_post names) inbox posts).lives ≡ map (live_at names client history (p + length posts)) mades
  lives-posts p [] inbox mades there all lives = lives ∙ (let e : p ≡ p + 0 = omega arith in ap (λ n. map (live_at names client history n) mades) e)
  lives-posts p (post ∷ posts) inbox mades there all lives =
      lives-posts (suc p) posts (with_post names inbox post) mades (stand-rest p post posts there) (by-later p mades all) (lives-post p post inbox mades (stand-first p post posts there) all lives)
      ∙ (let e : suc p + length posts ≡ p + suc (length posts) = omega arith in ap (λ n. map (live_at names client history n) mades) e)

  -- a post is mailed in its turn or never
  posted-other : (n : ℕ) (inbox : Inbox) (post : Post) (entry : ℕ) → (length inbox.posts ≡ n → ⊥) → is_mailed_at n entry (with_post names inbox post).mailed ≡ is_mailed_at n entry inbox.mailed
  posted-other n inbox post entry other = through (list_any (is_due names post) inbox.lives)
    where
      through : (due : Bool) → is_mailed_at n entry (if due then inbox.mailed ++ mailing (length inbox.posts) inbox.entries ∷ [] else inbox.mailed) ≡ is_mailed_at n entry inbox.mailed
      through true = mailed-other n (length inbox.posts) entry inbox.entries inbox.mailed other
      through false = refl

  pub posted-before : (n entry : ℕ) (inbox : Inbox) (posts : List Post) → n < length inbox.posts → is_mailed_at n entry (fold (with_post names) inbox posts).mailed ≡ is_mailed_at n entry inbox.mailed
  posted-before n entry inbox [] below = refl
  posted-before n entry inbox (post ∷ posts) below =
      posted-before n entry (with_post names inbox post) posts (omega (arith, length-push inbox.posts post)) ∙ posted-other n inbox post entry (λ same. omega (arith, same))

  -- the post with number p + i is mailed where it is due at some of the registrations
  pub posted-at : (p i : ℕ) (one : Post) (posts : List Post) (inbox : Inbox) (mades : List MadeReg) → length inbox.posts ≡ p → slice_get posts i ≡ Some one → StandFrom p posts → AllMade (IsBy p) mades →
      inbox.lives ≡ map (live_at names client history p) mades → is_mailed_at (p + i) inbox.entries inbox.mailed ≡ false →
      is_mailed_at (p + i) inbox.entries (fold (with_post names) inbox posts).mailed ≡ list_any (λ made. is_due names one (live_at names client history (p + i) made)) mades
  posted-at p i one [] inbox mades count at there all lives new = absurd (let e : None ≡ Some one = at in cc)
  posted-at p zero one (post ∷ posts) inbox mades count at there all lives new =
      let same : post ≡ one = (let e : Some post ≡ Some one = at in cc) in
      let here : p ≡ p + 0 = omega arith in
      subst (λ n. is_mailed_at n inbox.entries (fold (with_post names) (with_post names inbox post) posts).mailed ≡ list_any (λ made. is_due names one (live_at names client history n made)) mades) here
      (posted-before p inbox.entries (with_post names inbox post) posts (omega (arith, length-push inbox.posts post, count))
      ∙ through (list_any (is_due names post) inbox.lives) (subst (λ n. is_mailed_at n inbox.entries inbox.mailed ≡ false) (sym here) new)
      ∙ ap (list_any (is_due names post)) lives ∙ list_any-map (is_due names post) (live_at names client history p) mades
      ∙ ap (λ x. list_any (λ made. is_due names x (live_at names client history p made)) mades) same)
    where
      through : (due : Bool) → is_mailed_at p inbox.entries inbox.mailed ≡ false → is_mailed_at p inbox.entries (if due then inbox.mailed ++ mailing (length inbox.posts) inbox.entries ∷ [] else inbox.mailed) ≡ due
      through true new' = ap (λ n. is_mailed_at p inbox.entries (inbox.mailed ++ mailing n inbox.entries ∷ [])) count ∙ mailed-own p inbox.entries inbox.mailed
      through false new' = new'
  posted-at p (suc i) one (post ∷ posts) inbox mades count at there all lives new =
      let next : suc p + i ≡ p + suc i = omega arith in
      subst (λ n. is_mailed_at n inbox.entries (fold (with_post names) (with_post names inbox post) posts).mailed ≡ list_any (λ made. is_due names one (live_at names client history n made)) mades) next
      (posted-at (suc p) i one posts (with_post names inbox post) mades (length-push inbox.posts post ∙ ap suc count) at (stand-rest p post posts there) (by-later p mades all)
      (lives-post p post inbox mades (stand-first p post posts there) all lives)
      (posted-other (suc p + i) inbox post inbox.entries (λ same. omega (arith, same, count)) ∙ subst (λ n. is_mailed_at n inbox.entries inbox.mailed ≡ false) (sym next) new))
