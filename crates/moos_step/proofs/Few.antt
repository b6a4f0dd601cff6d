-- Players with few lines, who make their calls one after another beside those with many.
use Rattle.std.proofs.Common.{◌≡◌, ℕ, ◌==◌, List, [], ◌∷◌, ◌++◌, Ok, Err, OnOk, Result, refl, sym, ap, ◌∙◌, subst, append_assoc}
use Rattle.std.specs.Prelude.{OnErr}
use Rattle.std.specs.List.{All, AllZip}
use Rattle.std.specs.declared.alloc.AllocError.{AllocError}
use Rattle.std.proofs.lemmas.List.Elements.{All-cons, All-head, All-nil, All-tail, filter-append}
use Rattle.moos_client.specs.Calls.{entries_of, MayCall}
use Rattle.moos_post.specs.declared.entry.Entry.{Entry}
use Rattle.moos_step.proofs.Lines.{made_more, may_on, played_none}
use Rattle.moos_step.proofs.Played.{ok_part}
use Rattle.moos_step.specs.Steps.{CommunityLock, HasEnded, HasHeard, IsPlayed, Makes}
use Rattle.moos_step.specs.declared.player.Player.{Player}

-- nothing is played yet
pub ended_none : (before after : Player) → after.seat ≡ before.seat → HasEnded [] before after
ended_none before after same = subst (λ seat. Makes (IsPlayed [] after.ended) before.seat seat) (sym same) (played_none [] after.ended before.seat refl)

-- one line more
pub ended_more : (lines : List Entry) (line : Entry) (a b c : Player) → HasEnded lines a b → HasHeard line b c → HasEnded (lines ++ line ∷ []) a c
ended_more lines line a b c ended heard = by b.ended refl
  where
    n : ℕ
    n = a.seat.number

    next : List Entry
    next = entries_of n (line ∷ [])

    split : entries_of n (lines ++ line ∷ []) ≡ entries_of n lines ++ next
    split = filter-append (λ entry. entry.client == n) lines (line ∷ [])

    went_on : ended.added ≡ entries_of n lines → HasEnded (line ∷ []) b c → HasEnded (lines ++ line ∷ []) a c
    went_on all more =
        let number : b.seat.number ≡ n = ap (λ s. s.number) ended.made.same in
        let allowed : IsPlayed (line ∷ []) c.ended n more.added = subst (λ k. IsPlayed (line ∷ []) c.ended k more.added) number more.allowed in
        record {
          added = ended.added ++ more.added;
          made = made_more ended.added more.added a.seat b.seat c.seat ended.made more.made;
          allowed = record {
            front = (allowed.front.0, split ∙ ap (λ front. front ++ next) (sym all) ∙ ap (λ rest. ended.added ++ rest) allowed.front.1 ∙ sym (append_assoc ended.added more.added allowed.front.0));
            all = ok_part c.ended allowed.all (λ so. ap (λ front. front ++ more.added) all ∙ ap (λ rest. entries_of n lines ++ rest) so ∙ sym split);
          };
        }

    stood : OnOk b.ended (ended.added ≡ entries_of n (lines ++ line ∷ [])) → HasEnded (lines ++ line ∷ []) a b
    stood none = record {
      added = ended.added;
      made = ended.made;
      allowed = record {
        front = (ended.allowed.front.0 ++ next, split ∙ ap (λ front. front ++ next) ended.allowed.front.1 ∙ append_assoc ended.added ended.allowed.front.0 next);
        all = none;
      };
    }

    by : (e : Result (Unit {0}) AllocError) → b.ended ≡ e → HasEnded (lines ++ line ∷ []) a c
    by (Ok u) is = went_on (subst (λ r. OnOk r (ended.added ≡ entries_of n lines)) is ended.allowed.all) (subst (λ r. OnOk r (HasEnded (line ∷ []) b c)) is heard.played)
    by (Err e) is =
        subst (HasEnded (lines ++ line ∷ []) a) (sym (subst (λ r. OnErr r (c ≡ b)) is heard.stopped))
        (stood (subst (λ r. OnOk r (ended.added ≡ entries_of n (lines ++ line ∷ []))) (sym is) tt))

-- the same of all players
pub zip_none : (players : List Player) → AllZip (HasEnded []) players players
zip_none [] = tt
zip_none (p ∷ ps) = (ended_none p p refl, zip_none ps)

pub zip_more : (lines : List Entry) (line : Entry) (ps qs rs : List Player) → AllZip (HasEnded lines) ps qs → AllZip (HasHeard line) qs rs → AllZip (HasEnded (lines ++ line ∷ [])) ps rs
zip_more lines line [] [] [] ended heard = tt
zip_more lines line [] [] (r ∷ rs) ended heard = absurd heard
zip_more lines line [] (q ∷ qs) rs ended heard = absurd ended
zip_more lines line (p ∷ ps) [] rs ended heard = absurd ended
zip_more lines line (p ∷ ps) (q ∷ qs) [] ended heard = absurd heard
zip_more lines line (p ∷ ps) (q ∷ qs) (r ∷ rs) ended heard = (ended_more lines line p q r ended.0 heard.0, zip_more lines line ps qs rs ended.1 heard.1)

pub zip_append : (R : Player → Player → Type 0) (ps qs more others : List Player) → AllZip R ps qs → AllZip R more others → AllZip R (ps ++ more) (qs ++ others)
zip_append R [] [] more others one two = two
zip_append R [] (q ∷ qs) more others one two = absurd one
zip_append R (p ∷ ps) [] more others one two = absurd one
zip_append R (p ∷ ps) (q ∷ qs) more others one two = (one.0, zip_append R ps qs more others one.1 two)

-- players that have made entries may go on
pub all_may_on : (lock : CommunityLock) (lines : List Entry) (befores afters : List Player) → AllZip (HasEnded lines) befores afters → All (λ player. MayCall lock player.seat) befores → All (λ player. MayCall lock player.seat) afters
all_may_on lock lines [] [] zip may = All-nil (λ player. MayCall lock player.seat)
all_may_on lock lines [] (q ∷ qs) zip may = absurd zip
all_may_on lock lines (p ∷ ps) [] zip may = absurd zip
all_may_on lock lines (p ∷ ps) (q ∷ qs) zip may =
    All-cons (λ player. MayCall lock player.seat) q qs
    (may_on lock zip.0.added p.seat q.seat zip.0.made (All-head (λ player. MayCall lock player.seat) p ps may))
    (all_may_on lock lines ps qs zip.1 (All-tail (λ player. MayCall lock player.seat) p ps may))

-- what holds of all players of two lists holds of each list's
pub all_front : (P : Player → Type 0) (xs ys : List Player) → All P (xs ++ ys) → All P xs
all_front P [] ys all = All-nil P
all_front P (x ∷ xs) ys all = All-cons P x xs (All-head P x (xs ++ ys) all) (all_front P xs ys (All-tail P x (xs ++ ys) all))

pub all_back : (P : Player → Type 0) (xs ys : List Player) → All P (xs ++ ys) → All P ys
all_back P [] ys all = all
all_back P (x ∷ xs) ys all = all_back P xs ys (All-tail P x (xs ++ ys) all)
