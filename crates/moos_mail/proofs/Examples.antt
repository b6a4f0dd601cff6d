-- The sentences of the delivery rule worked by hand.
use Rattle.std.proofs.Common.{◌≡◌, ℕ, zero, suc, ◌*◌, ◌≢◌, inl, inr, List, [], ◌∷◌, map, take, Some, None, Option, AllPairs, refl, ap, ◌∙◌, true, false, arith}
use Rattle.std.specs.Prelude.{pos, codes, slice_get}
use Rattle.std.specs.List.{list_all}
use Rattle.std.proofs.lemmas.List.Elements.{All-cons, All-head, All-nil}
use Rattle.std.proofs.lemmas.List.Kept.{AllPairs-cons}
use Rattle.moos_post.specs.declared.entry.Call.{Call}
use Rattle.moos_post.specs.declared.entry.Call.TheVariants.{Register, Unregister, Post as Posts, Fetch}
use Rattle.moos_post.specs.declared.entry.Entry.{Entry}
use Rattle.moos_post.specs.declared.registration.Reg.{Reg}
use Rattle.moos_post.specs.declared.value.Pair.{Pair}
use Rattle.moos_post.specs.declared.value.Post.{Post}
use Rattle.moos_post.specs.declared.value.Value.TheVariants.{Num}
use Rattle.moos_post.specs.Delivery.{mail_after, Mailing, mailed_to, mailing}
use Rattle.moos_post.specs.History.{History, posts_of}
use Rattle.moos_mail.specs.Mailboxes.{MailboxState}
use Rattle.moos_mail.specs.Registrations.{MadeReg, made_at, live_before, came_through, is_to_mail, is_mailed_at, IsLive, regs_of}
use Rattle.moos_mail.specs.Sentences.{given_at, given_before, HearsAll, keeps_lives, mailed_between, numbers_mailed, numbers_selected, posts_before, since, StampsRise, AreOnceEach, IsBefore, IsMadeBy}

abbrev at : ℕ → ℕ → Call → Entry
at stamp client call = record { stamp = stamp; client = client; call = call }

abbrev asks : List ℕ → ℕ → Call
asks var interval = Register (record { var = var; source = codes "*"; interval = interval } ∷ [])

abbrev says : List ℕ → ℕ → Pair
says var units = record { var = var; value = Num (pos (1000 * units)) }

-- Client 1 posts A and B, then A again. Client 0 registers late, and fetches three times: at entries 3, 5 and 7.
abbrev names : List (List ℕ)
names = codes "a" ∷ codes "b" ∷ []

abbrev history : History
history =
    at 0 1 (Posts (says (codes "A") 1 ∷ says (codes "B") 2 ∷ []))
    ∷ at 1000 1 (Posts (says (codes "A") 3 ∷ []))
    ∷ at 2000 0 (asks (codes "*") 500)
    ∷ at 3000 0 Fetch
    ∷ at 3000 1 (Posts (says (codes "A") 4 ∷ says (codes "A") 5 ∷ []))
    ∷ at 4000 0 Fetch
    ∷ at 5000 1 Fetch
    ∷ at 6000 0 Fetch ∷ []

posts-before : posts_before history 4 ≡ 3
posts-before = refl

since-last : since 0 history 5 ≡ 4
since-last = refl

since-first : since 0 history 3 ≡ 0
since-first = refl

-- The second fetch gives what was mailed at entry 4, and neither what the first one gave nor a post that wasn't due.
second : given_at names history 5 ≡ 3 ∷ []
second = refl

first : given_at names history 3 ≡ 1 ∷ 2 ∷ []
first = refl

-- Another client's fetch gives nothing of it, a third fetch nothing again, and a post nothing at all.
none : given_at names history 6 ≡ []
none = refl

again : given_at names history 7 ≡ []
again = refl

no-fetch : given_at names history 4 ≡ []
no-fetch = refl

all : mailed_between 0 8 (mailed_to names 0 history) ≡ 1 ∷ 2 ∷ 3 ∷ []
all = refl

-- three mailings of which each is as asked to those behind it
three : (R : Mailing → Mailing → Type 0) (one two last : Mailing) → R one two → R one last → R two last → AllPairs R (one ∷ two ∷ last ∷ [])
three R one two last near far next =
    AllPairs-cons R one (two ∷ last ∷ []) (All-cons (R one) two (last ∷ []) near (All-cons (R one) last [] far (All-nil (R one))))
    (AllPairs-cons R two (last ∷ []) (All-cons (R two) last [] next (All-nil (R two)))
    (AllPairs-cons R last [] (All-nil (R last)) (λ i j d below within. absurd (omega (arith, within)))))

abbrev in_order : List Mailing
in_order = mailing 1 2 ∷ mailing 2 2 ∷ mailing 3 4 ∷ []

-- What was mailed stands in order, each number once, and each at or behind the entry that made its post.
once_each : AreOnceEach history in_order
once_each = record {
  once = three (λ one later. one.number ≢ later.number) (mailing 1 2) (mailing 2 2) (mailing 3 4) (omega arith) (omega arith) (omega arith);
  made = All-cons (IsMadeBy history) (mailing 1 2) (mailing 2 2 ∷ mailing 3 4 ∷ []) (record { entry = omega arith; number = omega arith })
      (All-cons (IsMadeBy history) (mailing 2 2) (mailing 3 4 ∷ []) (record { entry = omega arith; number = omega arith })
      (All-cons (IsMadeBy history) (mailing 3 4) [] (record { entry = omega arith; number = omega arith }) (All-nil (IsMadeBy history))));
  rising = three IsBefore (mailing 1 2) (mailing 2 2) (mailing 3 4) (inr (refl, omega arith)) (inl (omega arith)) (inl (omega arith));
}

all_mailed : mailed_to names 0 history ≡ in_order
all_mailed = refl

-- Post 3 is made at entry 4, so it can't be mailed at entry 3, nor at an entry that the history doesn't have.
too_early : IsMadeBy history (mailing 3 3) → ⊥
too_early made = omega (arith, made.number)

no_entry : IsMadeBy history (mailing 3 8) → ⊥
no_entry made = omega (arith, made.entry)

-- A list with one number twice isn't such a list, nor one whose mailings of one entry or of two stand the other way round.
twice : AreOnceEach history (mailing 1 2 ∷ mailing 1 4 ∷ []) → ⊥
twice each = each.once 0 1 (mailing 0 0) (omega arith) (omega arith) refl

other_numbers : AreOnceEach history (mailing 2 2 ∷ mailing 1 2 ∷ []) → ⊥
other_numbers each = let before : IsBefore (mailing 2 2) (mailing 1 2) = each.rising 0 1 (mailing 0 0) (omega arith) (omega arith) in grind arith

other_entries : AreOnceEach history (mailing 3 4 ∷ mailing 1 2 ∷ []) → ⊥
other_entries each = let before : IsBefore (mailing 3 4) (mailing 1 2) = each.rising 0 1 (mailing 0 0) (omega arith) (omega arith) in grind arith

-- Before the second fetch one number waits.
abbrev box : MailboxState
box = record { waiting = 3 ∷ []; spare = 5 }

box_is : box.waiting ≡ given_at names history 5
box_is = refl

-- Live registrations: the second place of an entry ends the first, a later entry ends one of another, and a client's own
-- entries alone end its registrations.
abbrev reg : List ℕ → Reg
reg var = record { var = var; source = codes "*"; interval = 0 }

abbrev registering : History
registering =
    at 0 0 (Register (reg (codes "A") ∷ reg (codes "B") ∷ reg (codes "A") ∷ []))
    ∷ at 0 1 (Unregister (codes "A") (codes "*"))
    ∷ at 0 0 (Register (reg (codes "C") ∷ reg (codes "B") ∷ []))
    ∷ at 0 0 (Unregister (codes "A") (codes "?"))
    ∷ at 0 0 (Unregister (codes "C") (codes "*")) ∷ []

live-first : live_before 0 registering 2 ≡ made_at 0 (reg (codes "B")) ∷ made_at 0 (reg (codes "A")) ∷ []
live-first = refl

live-second : live_before 0 registering 4 ≡ made_at 0 (reg (codes "A")) ∷ made_at 2 (reg (codes "C")) ∷ made_at 2 (reg (codes "B")) ∷ []
live-second = refl

live-last : live_before 0 registering 5 ≡ made_at 0 (reg (codes "A")) ∷ made_at 2 (reg (codes "B")) ∷ []
live-last = refl

-- The registration for A is live by the third place of the first entry; that for C, and one with another interval, aren't.
is_live : IsLive 0 registering 5 (made_at 0 (reg (codes "A")))
is_live = record { entry = _; at = refl; place = 2; there = refl; last = refl; stays = refl }

withdrawn : IsLive 0 registering 5 (made_at 2 (reg (codes "C"))) → ⊥
withdrawn live = let stays : true ≡ false = live.stays in cc

made_anew : IsLive 0 registering 5 (made_at 0 (reg (codes "B"))) → ⊥
made_anew live = let stays : true ≡ false = live.stays in cc

not_yet : IsLive 0 registering 2 (made_at 2 (reg (codes "C"))) → ⊥
not_yet live = let at : None ≡ Some live.entry = live.at in cc

-- What stands at a place of an entry's registrations, where there is such an entry.
abbrev registered : ℕ → ℕ → Option Entry → Option Reg
registered client place None = None
registered client place (Some entry) = slice_get (regs_of client entry) place

other_client : IsLive 1 registering 2 (made_at 0 (reg (codes "B"))) → ⊥
other_client live = let none : None ≡ Some (reg (codes "B")) = ap (registered 1 live.place) live.at ∙ live.there in cc

abbrev interval_of : Option Reg → ℕ
interval_of None = 0
interval_of (Some one) = one.interval

other_interval : IsLive 0 registering 2 (made_at 0 (record (reg (codes "A")) { interval = 1 })) → ⊥
other_interval live = nowhere live.place (ap (registered 0 live.place) live.at ∙ live.there)
  where
    nowhere : (place : ℕ) → slice_get (reg (codes "A") ∷ reg (codes "B") ∷ reg (codes "A") ∷ []) place ≡ Some (record (reg (codes "A")) { interval = 1 }) → ⊥
    nowhere zero same = omega (arith, ap interval_of same)
    nowhere (suc zero) same = omega (arith, ap interval_of same)
    nowhere (suc (suc zero)) same = omega (arith, ap interval_of same)
    nowhere (suc (suc (suc place))) same = omega (arith, ap interval_of same)

-- What came through the registration of client 0 above: the latest of A and B at its own entry, then a post of A that is
-- at least the interval later, and not the one that is made together with it.
abbrev asked : MadeReg
asked = made_at 2 (record { var = codes "*"; source = codes "*"; interval = 500 })

numbers : map (λ (post : Post). post.stamp) (came_through names 0 history asked 5) ≡ 0 ∷ 1000 ∷ 3000 ∷ []
numbers = refl

-- At entry 2 posts 1 and 2 are to be mailed, since post 0 is not the latest of A; at entry 4 post 3, since 4 isn't due.
to-mail : map (λ n. is_to_mail names 0 history n 2) (0 ∷ 1 ∷ 2 ∷ 3 ∷ 4 ∷ []) ≡ false ∷ true ∷ true ∷ false ∷ false ∷ []
to-mail = refl

to-mail-later : map (λ n. is_to_mail names 0 history n 4) (0 ∷ 1 ∷ 2 ∷ 3 ∷ 4 ∷ []) ≡ false ∷ false ∷ false ∷ true ∷ false ∷ []
to-mail-later = refl

mailed-then : map (λ n. is_mailed_at n 4 (mailed_to names 0 history)) (0 ∷ 1 ∷ 2 ∷ 3 ∷ 4 ∷ []) ≡ false ∷ false ∷ false ∷ true ∷ false ∷ []
mailed-then = refl

-- By entry 5 the first fetch alone has given its mail, and nothing waits then but post 3. In the end all three were given.
joined-then : given_before names 0 history 5 ≡ 1 ∷ 2 ∷ []
joined-then = refl

waits-then : mail_after names 0 (take 5 history) ≡ 3 ∷ []
waits-then = refl

joined-all : (given_before names 0 history 8 ≡ 1 ∷ 2 ∷ 3 ∷ []) × (numbers_mailed names 0 history ≡ 1 ∷ 2 ∷ 3 ∷ [])
joined-all = (refl, refl)

-- A client that registers for A first, and without an interval, is mailed each post of A and none of B.
abbrev wants : ℕ → Reg
wants interval = record { var = codes "A"; source = codes "*"; interval = interval }

abbrev listening : History
listening =
    at 0 0 (Register (wants 0 ∷ []))
    ∷ at 0 1 (Posts (says (codes "A") 1 ∷ says (codes "B") 2 ∷ []))
    ∷ at 1000 1 (Posts (says (codes "A") 3 ∷ []))
    ∷ at 2000 0 Fetch ∷ []

hears-all : HearsAll 0 (wants 0 ∷ []) listening
hears-all = record {
  before = [];
  stamp = 0;
  later = at 0 1 (Posts (says (codes "A") 1 ∷ says (codes "B") 2 ∷ [])) ∷ at 1000 1 (Posts (says (codes "A") 3 ∷ [])) ∷ at 2000 0 Fetch ∷ [];
  is = refl;
  first = refl;
  once = refl;
  always = All-cons (λ (reg : Reg). reg.interval ≡ 0) (wants 0) [] refl (All-nil (λ (reg : Reg). reg.interval ≡ 0));
  rising = (omega arith, (omega arith, (omega arith, tt)));
}

selected-all : (numbers_selected names (wants 0 ∷ []) 0 (posts_of listening) ≡ 0 ∷ 2 ∷ []) × (numbers_mailed names 0 listening ≡ 0 ∷ 2 ∷ [])
selected-all = (refl, refl)

-- It isn't so with an interval, where it registers again, or where stamps fall.
with-interval : HearsAll 0 (wants 5 ∷ []) listening → ⊥
with-interval hears = omega (arith, All-head (λ (reg : Reg). reg.interval ≡ 0) (wants 5) [] hears.always)

registers-again : list_all (keeps_lives 0) listening ≡ false
registers-again = refl

stamps-fall : StampsRise 0 (record { stamp = 5; source = 1; var = codes "A"; value = Num (pos 0) } ∷ record { stamp = 3; source = 1; var = codes "A"; value = Num (pos 0) } ∷ []) → ⊥
stamps-fall rise = omega (arith, rise.1.0)
