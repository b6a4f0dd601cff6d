-- Registrations in sentences about the places of a history: which are live, which posts came through them, and so which
-- posts are mailed where.
use Rattle.std.specs.Prelude.{◌≡◌, ℕ, zero, suc, Bool, false, ◌&&◌, ◌==◌, not, nat_lt, if◌then◌else◌, List, [], ◌∷◌, ◌++◌, map, filter, take, drop, Option, Some, None, bytes_eq, slice_get}
use Rattle.std.specs.List.{list_any}
use Rattle.moos_post.specs.declared.entry.Call.{Call}
use Rattle.moos_post.specs.declared.entry.Call.TheVariants.{Register, Unregister, Post as Posts, Fetch}
use Rattle.moos_post.specs.declared.entry.Entry.{Entry}
use Rattle.moos_post.specs.declared.registration.Reg.{Reg}
use Rattle.moos_post.specs.declared.value.Post.{Post}
use Rattle.moos_post.specs.Delivery.{Live, Mailing, mailed_to, selects, is_due, is_latest, was_mailed}
use Rattle.moos_post.specs.History.{History, posts_of}
use Rattle.moos_mail.specs.Sentences.{posts_before}

-- a registration, and the entry that made it
pub record MadeReg : Type 0 where
  pub reg : Reg
  pub entry : ℕ

-- the registration, made at this entry
abbrev pub made_at : ℕ → Reg → MadeReg
made_at entry reg = record { reg = reg; entry = entry }

-- both have the same two patterns
abbrev pub is_alike : Reg → Reg → Bool
is_alike reg other = bytes_eq reg.var other.var && bytes_eq reg.source other.source

-- what a call registers
abbrev pub regs_of_call : Call → List Reg
regs_of_call (Register regs) = regs
regs_of_call (Unregister var source) = []
regs_of_call (Posts batch) = []
regs_of_call Fetch = []

-- what an entry registers for the client
abbrev pub regs_of : ℕ → Entry → List Reg
regs_of client entry = if entry.client == client then regs_of_call entry.call else []

-- the call registers or unregisters the same two patterns
abbrev pub is_ended_by : Reg → Call → Bool
is_ended_by reg (Register regs) = list_any (is_alike reg) regs
is_ended_by reg (Unregister var source) = bytes_eq reg.var var && bytes_eq reg.source source
is_ended_by reg (Posts batch) = false
is_ended_by reg Fetch = false

-- the entry ends the client's registration
abbrev pub ends : ℕ → Reg → Entry → Bool
ends client reg entry = entry.client == client && is_ended_by reg entry.call

-- the registrations of a list that have no later one like them
abbrev pub last_of_each : List Reg → List Reg
last_of_each [] = []
last_of_each (reg ∷ later) = if list_any (is_alike reg) later then last_of_each later else reg ∷ last_of_each later

-- The client's registrations that are live after these entries, the first of which has this number: each that no later
-- place of its own entry and no later entry ends, in the order in which they were made.
abbrev pub live_from : ℕ → ℕ → History → List MadeReg
live_from client number [] = []
live_from client number (entry ∷ later) =
    map (made_at number) (filter (λ reg. not (list_any (ends client reg) later)) (last_of_each (regs_of client entry)))
    ++ live_from client (suc number) later

-- the client's registrations that are live before entry k
abbrev pub live_before : ℕ → History → ℕ → List MadeReg
live_before client history k = live_from client 0 (take k history)

-- The registration is at a place of the list of an entry before k, and no later place of that list and no entry
-- between that one and k registers or unregisters the same patterns.
pub record IsLive (client : ℕ) (history : History) (k : ℕ) (made : MadeReg) : Type 0 where
  pub entry : Entry
  pub at : slice_get (take k history) made.entry ≡ Some entry
  pub place : ℕ
  pub there : slice_get (regs_of client entry) place ≡ Some made.reg
  pub last : list_any (is_alike made.reg) (drop (suc place) (regs_of client entry)) ≡ false
  pub stays : list_any (ends client made.reg) (drop (suc made.entry) (take k history)) ≡ false

-- post n was mailed at entry e
abbrev pub is_mailed_at : ℕ → ℕ → List Mailing → Bool
is_mailed_at n e mailed = list_any (λ one. one.number == n && one.entry == e) mailed

-- the registration, and the posts that came through it
abbrev pub live_with : MadeReg → List Post → Live
live_with made came = record { reg = made.reg; made = made.entry; came = came }

-- Post n comes through a registration through which these came before: a post that was made before the registration if
-- it is mailed at the registration's own entry and selected, and a later one if it is due.
abbrev pub comes_through : List (List ℕ) → ℕ → History → MadeReg → ℕ → List Post → Post → Bool
comes_through names client history made n came post =
    if nat_lt n (posts_before history made.entry)
    then is_mailed_at n made.entry (mailed_to names client history) && selects names made.reg post
    else is_due names post (live_with made came)

-- what came through the registration, with post n too if there is one and it comes through
abbrev pub with_next : List (List ℕ) → ℕ → History → MadeReg → ℕ → List Post → Option Post → List Post
with_next names client history made n came None = came
with_next names client history made n came (Some post) = if comes_through names client history made n came post then came ++ post ∷ [] else came

-- the posts before post n that came through the registration while it was live
abbrev pub came_through : List (List ℕ) → ℕ → History → MadeReg → ℕ → List Post
came_through names client history made zero = []
came_through names client history made (suc n) = with_next names client history made n (came_through names client history made n) (slice_get (posts_of history) n)

-- the registration as it is before post n
abbrev pub live_at : List (List ℕ) → ℕ → History → ℕ → MadeReg → Live
live_at names client history n made = live_with made (came_through names client history made n)

-- post n is due at some registration of the client that is live before entry e
abbrev pub is_due_at : List (List ℕ) → ℕ → History → ℕ → ℕ → Option Post → Bool
is_due_at names client history e n None = false
is_due_at names client history e n (Some post) = list_any (λ made. is_due names post (live_at names client history n made)) (live_before client history e)

-- some registration of the client that is made at entry e and live after it selects the post
abbrev pub is_wanted_anew : List (List ℕ) → ℕ → History → ℕ → Post → Bool
is_wanted_anew names client history e post = list_any (λ made. made.entry == e && selects names made.reg post) (live_before client history (suc e))

-- post n catches up at entry e: it is the latest of its variable, is wanted there anew, and wasn't mailed before
abbrev pub catches_up_at : List (List ℕ) → ℕ → History → ℕ → ℕ → Option Post → Bool
catches_up_at names client history e n None = false
catches_up_at names client history e n (Some post) =
    is_latest post (drop (suc n) (posts_of (take e history)))
    && is_wanted_anew names client history e post
    && not (was_mailed n (mailed_to names client (take e history)))

-- Post n is to be mailed at entry e: an earlier one if it catches up there, one that the entry makes if it is due,
-- and no later one.
abbrev pub is_to_mail : List (List ℕ) → ℕ → History → ℕ → ℕ → Bool
is_to_mail names client history n e =
    if nat_lt n (posts_before history e) then catches_up_at names client history e n (slice_get (posts_of history) n)
    else nat_lt n (posts_before history (suc e)) && is_due_at names client history e n (slice_get (posts_of history) n)
