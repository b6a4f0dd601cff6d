-- The mailings stand in the order of their entries, and those of one entry in the order of their numbers.
use Rattle.std.proofs.Common.{◌≡◌, ℕ, suc, ◌<◌, ◌≤◌, inl, inr, Bool, true, false, ◌==◌, List, [], ◌∷◌, ◌++◌, append_assoc, append-nil, length, fold, All, AllPairs, refl, sym, ◌∙◌, arith, subst, if◌then◌else◌}
use Rattle.std.proofs.lemmas.List.Elements.{All-append, All-cons, All-head, All-nil, All-tail, All-weaker}
use Rattle.std.proofs.lemmas.List.Kept.{AllPairs-cons}
use Rattle.std.specs.List.{list_any}
use Rattle.moos_post.specs.declared.entry.Call.{Call}
use Rattle.moos_post.specs.declared.entry.Call.TheVariants.{Register, Unregister, Post as Posts, Fetch}
use Rattle.moos_post.specs.declared.entry.Entry.{Entry}
use Rattle.moos_post.specs.declared.value.Post.{Post}
use Rattle.moos_post.specs.Delivery.{Mailing, Inbox, with_post, with_own, with_reg, with_entry, with_caught_up, after_catching_up, catches_up, mailing, mailed_to, empty_inbox, is_due}
use Rattle.moos_post.specs.History.{History, posts_of_call}
use Rattle.moos_mail.specs.Sentences.{IsBefore}
use Rattle.moos_mail.proofs.Inboxes.{ended}
use Rattle.moos_mail.proofs.Lists.{length-push}
use Rattle.moos_mail.proofs.Orderly.{IsSettled, settled-entry, settled-empty}

no-pairs : (R : Mailing → Mailing → Type 0) → AllPairs R []
no-pairs R i j d below within = absurd (omega (arith, within))

pairs-append : (R : Mailing → Mailing → Type 0) (xs ys : List Mailing) → AllPairs R xs → AllPairs R ys → All (λ x. All (R x) ys) xs → AllPairs R (xs ++ ys)
pairs-append R [] ys old new across = new
pairs-append R (x ∷ xs) ys old new across =
    AllPairs-cons R x (xs ++ ys)
    (All-append (R x) xs ys (λ j d within. old 0 (suc j) d (omega arith) (omega (arith, within))) (All-head (λ one. All (R one) ys) x xs across))
    (pairs-append R xs ys (λ i j d below within. old (suc i) (suc j) d (omega (arith, below)) (omega (arith, within))) new (All-tail (λ one. All (R one) ys) x xs across))

-- at this entry, of this number or a later one
record IsFrom (entry number : ℕ) (one : Mailing) : Type 0 where
  at : one.entry ≡ entry
  from : number ≤ one.number

-- what was mailed more at this entry, from this number on, has rising numbers
record HasRisen (entry number : ℕ) (before after : List Mailing) : Type 0 where
  more : List Mailing
  is : after ≡ before ++ more
  here : All (IsFrom entry number) more
  rising : AllPairs IsBefore more

none-risen : (entry number : ℕ) (mailed : List Mailing) → HasRisen entry number mailed mailed
none-risen entry number mailed = record { more = []; is = sym (append-nil mailed); here = All-nil (IsFrom entry number); rising = no-pairs IsBefore }

from-next : (entry number : ℕ) (more : List Mailing) → All (IsFrom entry (suc number)) more → All (IsFrom entry number) more
from-next entry number more here = All-weaker (IsFrom entry (suc number)) (IsFrom entry number) (λ one is. record { at = is.at; from = (let h : suc number ≤ one.number = is.from in omega arith) }) more here

-- the next number is mailed or not
risen-next : (entry number : ℕ) (before after : List Mailing) (mails : Bool) → HasRisen entry (suc number) (if mails then before ++ mailing number entry ∷ [] else before) after → HasRisen entry number before after
risen-next entry number before after false risen = record { more = risen.more; is = risen.is; here = from-next entry number risen.more risen.here; rising = risen.rising }
risen-next entry number before after true risen =
    record {
      more = mailing number entry ∷ risen.more;
      is = risen.is ∙ append_assoc before (mailing number entry ∷ []) risen.more;
      here = All-cons (IsFrom entry number) (mailing number entry) risen.more (record { at = refl; from = omega arith }) (from-next entry number risen.more risen.here);
      rising = AllPairs-cons IsBefore (mailing number entry) risen.more
          (All-weaker (IsFrom entry (suc number)) (IsBefore (mailing number entry)) (λ one is. inr (sym is.at, (let h : suc number ≤ one.number = is.from in omega arith))) risen.more risen.here) risen.rising;
    }

risen-posts : (names : List (List ℕ)) (inbox : Inbox) (posts : List Post) → HasRisen inbox.entries (length inbox.posts) inbox.mailed (fold (with_post names) inbox posts).mailed
risen-posts names inbox [] = none-risen inbox.entries (length inbox.posts) inbox.mailed
risen-posts names inbox (post ∷ posts) =
    let rest : Inbox = fold (with_post names) (with_post names inbox post) posts in
    risen-next inbox.entries (length inbox.posts) inbox.mailed rest.mailed (list_any (is_due names post) inbox.lives)
    (subst (λ n. HasRisen inbox.entries n (with_post names inbox post).mailed rest.mailed) (length-push inbox.posts post) (risen-posts names (with_post names inbox post) posts))

risen-catching : (names : List (List ℕ)) (number : ℕ) (inbox : Inbox) (posts : List Post) → HasRisen inbox.entries number inbox.mailed (after_catching_up names number inbox posts).mailed
risen-catching names number inbox [] = none-risen inbox.entries number inbox.mailed
risen-catching names number inbox (post ∷ later) = through (catches_up names inbox number post later) (risen-catching names (suc number) _ later)
  where
    through : (catches : Bool) →
        HasRisen (if catches then with_caught_up names inbox number post else inbox).entries (suc number) (if catches then with_caught_up names inbox number post else inbox).mailed (after_catching_up names (suc number) (if catches then with_caught_up names inbox number post else inbox) later).mailed →
        HasRisen inbox.entries number inbox.mailed (after_catching_up names (suc number) (if catches then with_caught_up names inbox number post else inbox) later).mailed
    through true risen = risen-next inbox.entries number inbox.mailed _ true risen
    through false risen = risen-next inbox.entries number inbox.mailed _ false risen

from-zero : (entry number : ℕ) (before after : List Mailing) → HasRisen entry number before after → HasRisen entry 0 before after
from-zero entry number before after risen =
    record {
      more = risen.more;
      is = risen.is;
      here = All-weaker (IsFrom entry number) (IsFrom entry 0) (λ one is. record { at = is.at; from = omega arith }) risen.more risen.here;
      rising = risen.rising;
    }

risen-call : (names : List (List ℕ)) (inbox : Inbox) (own : Bool) (stamp source : ℕ) (call : Call) →
    HasRisen inbox.entries 0 inbox.mailed (fold (with_post names) (if own then with_own names inbox call else inbox) (posts_of_call stamp source call)).mailed
risen-call names inbox true stamp source (Register regs) = risen-catching names 0 (record inbox { lives = fold (with_reg inbox.entries) inbox.lives regs }) inbox.posts
risen-call names inbox false stamp source (Register regs) = none-risen inbox.entries 0 inbox.mailed
risen-call names inbox true stamp source (Unregister var from) = none-risen inbox.entries 0 inbox.mailed
risen-call names inbox false stamp source (Unregister var from) = none-risen inbox.entries 0 inbox.mailed
risen-call names inbox true stamp source (Posts batch) = from-zero inbox.entries (length inbox.posts) inbox.mailed _ (risen-posts names inbox (posts_of_call stamp source (Posts batch)))
risen-call names inbox false stamp source (Posts batch) = from-zero inbox.entries (length inbox.posts) inbox.mailed _ (risen-posts names inbox (posts_of_call stamp source (Posts batch)))
risen-call names inbox true stamp source Fetch = none-risen inbox.entries 0 inbox.mailed
risen-call names inbox false stamp source Fetch = none-risen inbox.entries 0 inbox.mailed

rising-entry : (names : List (List ℕ)) (client : ℕ) (inbox : Inbox) (entry : Entry) → IsSettled inbox → AllPairs IsBefore inbox.mailed → AllPairs IsBefore (with_entry names client inbox entry).mailed
rising-entry names client inbox entry settled rising =
    let risen : HasRisen inbox.entries 0 inbox.mailed (ended names client inbox entry).mailed = risen-call names inbox (entry.client == client) entry.stamp entry.client entry.call in
    subst (AllPairs IsBefore) (sym risen.is)
    (pairs-append IsBefore inbox.mailed risen.more rising risen.rising
    (All-weaker (λ (one : Mailing). one.entry < inbox.entries) (λ one. All (IsBefore one) risen.more)
    (λ one done. All-weaker (IsFrom inbox.entries 0) (IsBefore one) (λ later is. inl (omega (arith, done, is.at))) risen.more risen.here) inbox.mailed settled.done))

rising-entries : (names : List (List ℕ)) (client : ℕ) (inbox : Inbox) (entries : History) → IsSettled inbox → AllPairs IsBefore inbox.mailed → AllPairs IsBefore (fold (with_entry names client) inbox entries).mailed
rising-entries names client inbox [] settled rising = rising
rising-entries names client inbox (entry ∷ entries) settled rising =
    rising-entries names client (with_entry names client inbox entry) entries (settled-entry names client inbox entry settled) (rising-entry names client inbox entry settled rising)

-- All mailings of a history stand in order.
pub rising-mailed : (names : List (List ℕ)) (client : ℕ) (history : History) → AllPairs IsBefore (mailed_to names client history)
rising-mailed names client history = rising-entries names client empty_inbox history settled-empty (no-pairs IsBefore)
