-- What a registration prepares, and what stays the same while it is made.
use Rattle.std.specs.Prelude.{◌≡◌, ℕ, suc, ◌+◌, ◌≤◌, Bool, true, ◌&&◌, ◌==◌, not, if◌then◌else◌, List, [], ◌∷◌, ◌++◌, length, map, filter, Option, None, Some, option_and_then, option_to_list, slice_get, slice_set}
use Rattle.std.specs.List.{flat_map, list_any}
use Rattle.moos_post.specs.declared.registration.Reg.{Reg}
use Rattle.moos_post.specs.declared.value.Post.{Post}
use Rattle.moos_post.specs.Delivery.{Inbox, is_new_for, Live, was_mailed, with_caught_up, with_reg}
use Rattle.moos_post.specs.Patterns.{matches}
use Rattle.moos_db.specs.declared.registration.Registration.{Registration}
use Rattle.moos_db.specs.Clients.{ClientState}
use Rattle.moos_db.specs.Subscriptions.{SubscriptionState, IsNumbering, VariableState, VariablesState, caught_at, fresh_subscription, is_new_at}
use Rattle.moos_db.specs.Tables.{latest_post_of}

-- who is to hear a variable, with the variable's number
abbrev pub Heard : Type 0
Heard = ℕ × SubscriptionState

-- a registration that is to be made, and who are to hear a variable through it
pub record PreparedState : Type 0 where
  pub live : Registration
  pub subscriptions : List Heard

-- the names of these variables
abbrev pub variable_names : List VariableState → List (List ℕ)
variable_names variables = map (λ variable. variable.name) variables

-- who is to hear the variable with this number and name through the registration, if it matches
abbrev pub heard_where : ℕ → Registration → ℕ → List ℕ → List Heard
heard_where client live number name = if matches live.reg.var name then (number, fresh_subscription client live) ∷ [] else []

-- through the registration the client is to hear each variable that it matches, of those with these names, the first of which has
-- this number
abbrev pub heard_through : ℕ → Registration → ℕ → List (List ℕ) → List Heard
heard_through client live number [] = []
heard_through client live number (name ∷ names) = heard_where client live number name ++ heard_through client live (suc number) names

-- the registration that is to be made for this at this entry
abbrev pub prepared_of : ℕ → ℕ → List (List ℕ) → Reg → PreparedState
prepared_of client made names reg =
    record { live = record { reg = reg; made = made }; subscriptions = heard_through client (record { reg = reg; made = made }) 0 names }

-- who is to hear the variable with this number, among these
abbrev pub heard_at_number : ℕ → List Heard → List SubscriptionState
heard_at_number number all = map (λ one. one.1) (filter (λ one. one.0 == number) all)

-- the live registrations with this one added, which withdraws one with the same patterns
abbrev pub with_prepared : List Live → PreparedState → List Live
with_prepared lives one = with_reg one.live.made lives one.live.reg

-- the number of the latest post of the variable with this number
abbrev pub latest_at : List VariableState → ℕ → Option ℕ
latest_at variables number = option_and_then (λ variable. variable.latest) (slice_get variables number)

-- the numbers of the latest posts of the variables that these are to hear
abbrev pub latest_heard : List VariableState → List Heard → List ℕ
latest_heard variables all = flat_map (λ one. option_to_list (latest_at variables one.0)) all

-- the numbers of the latest posts of the variables that are to be heard through each of these registrations
abbrev pub latest_prepared : List VariableState → List PreparedState → List ℕ
latest_prepared variables all = flat_map (λ one. latest_heard variables one.subscriptions) all

-- each of these is related to the one at its place before, which may depend on the number of the place
pub record AreEachAt {X : Type 0} (R : ℕ → X → X → Type 0) (before after : List X) : Type 0 where
  pub each : length after ≡ length before
  pub same : (number : ℕ) (one other : X) → slice_get before number ≡ Some one → slice_get after number ≡ Some other → R number one other

-- each of these is related to the one at its place before, whatever the number of the place
abbrev pub AreEach : {X : Type 0} → (X → X → Type 0) → List X → List X → Type 0
AreEach R before after = AreEachAt (λ number. R) before after

-- there is room for these, each with the variable of its number
abbrev pub HaveRoomFor : List Heard → List VariableState → Type 0
HaveRoomFor all variables =
    (number : ℕ) (variable : VariableState) → slice_get variables number ≡ Some variable → length (heard_at_number number all) ≤ variable.room

-- the variable with this number after those of these that are to hear it do, for whom room was used
pub record IsAddedTo (all : List Heard) (number : ℕ) (one other : VariableState) : Type 0 where
  pub same : other ≡ record one { subscriptions = one.subscriptions ++ heard_at_number number all; room = other.room }
  pub room : one.room ≤ other.room + length (heard_at_number number all)

-- the variable is the same but for room, of which there is no less
pub record IsRoomier (one other : VariableState) : Type 0 where
  pub same : other ≡ record one { room = other.room }
  pub room : one.room ≤ other.room

-- each variable is the same but for room, of which there is no less, and their numbers and those noted of the posts are the same
pub record AreRoomier (before after : VariablesState) : Type 0 where
  pub all : AreEach IsRoomier before.all after.all
  pub numbers : after.numbers ≡ before.numbers
  pub noted : after.noted ≡ before.noted

-- the variable is the same but for who hears it, and at most `used` places of its room were used
pub record IsStill (used : ℕ) (one other : VariableState) : Type 0 where
  pub same : other ≡ record one { subscriptions = other.subscriptions; room = other.room }
  pub room : one.room ≤ other.room + used

-- at most `used` places of the client's room for registrations were used, and none of its room for letters
pub record KeepsRoom (used : ℕ) (one other : ClientState) : Type 0 where
  pub room : one.room ≤ other.room + used
  pub spare : one.spare ≤ other.spare

-- each variable is as `IsStill` says and each client as `KeepsRoom` says, and the variables' numbers are the same
pub record AreStill (used : ℕ) (before after : VariablesState) (states others : List ClientState) : Type 0 where
  pub variables : AreEach (IsStill used) before.all after.all
  pub clients : AreEach (KeepsRoom used) states others
  pub numbers : after.numbers ≡ before.numbers

-- each variable that the pattern matches has room for `room` who hear it
abbrev pub HasRoomThrough : ℕ → List ℕ → List VariableState → Type 0
HasRoomThrough room pattern variables =
    (number : ℕ) (variable : VariableState) → slice_get variables number ≡ Some variable → matches pattern variable.name ≡ true → room ≤ variable.room

-- the registration of the client is prepared, and each variable that it matches has room for `more` who hear it
pub record IsPrepared (client more : ℕ) (variables : List VariableState) (one : PreparedState) : Type 0 where
  pub subscriptions : one.subscriptions ≡ heard_through client one.live 0 (variable_names variables)
  pub room : HasRoomThrough more one.live.reg.var variables

-- `made` entries were before, and the client's last fetch was one of them, if it fetched
abbrev pub StandsAt : ℕ → Inbox → Type 0
StandsAt made inbox = (inbox.entries ≡ made) × (inbox.fetched ≤ made)

-- after this post, which is the latest of its variable and has this number, caught up if it may
abbrev pub catch_post : List (List ℕ) → ℕ → Inbox → Option Post → Inbox
catch_post names number inbox None = inbox
catch_post names number inbox (Some post) =
    if list_any (is_new_for names inbox.entries post) inbox.lives && not (was_mailed number inbox.mailed) then with_caught_up names inbox number post else inbox

-- after the post with this number, among these, caught up if it may
abbrev pub catch_number : List (List ℕ) → List Post → Inbox → ℕ → Inbox
catch_number names posts inbox number = catch_post names number inbox (slice_get posts number)

-- the post with this number, if there is one, is the latest of its variable
abbrev pub IsLatestPost : List Post → ℕ → Type 0
IsLatestPost posts number = (post : Post) → slice_get posts number ≡ Some post → latest_post_of post.var posts ≡ Some number

-- the latest post of the variable with this number, of this stamp and from the source, caught up with the client's registrations made
-- at this entry; this tells whether there was one
pub record IsCaught (client made stamp : ℕ) (source : List ℕ) (place : ℕ) (answer : Bool) (before after : VariablesState) : Type 0 where
  pub variable : VariableState
  pub numbering : IsNumbering before.all before.numbers
  pub there : slice_get before.all place ≡ Some variable
  pub catches : answer ≡ list_any (is_new_at client made source) variable.subscriptions
  pub room : ℕ
  pub all : after.all ≡ slice_set before.all place (record variable {
    recipients = if answer then slice_set variable.recipients client true else variable.recipients;
    subscriptions = map (caught_at client made stamp source) variable.subscriptions;
    room = room;
  })
  pub numbers : after.numbers ≡ before.numbers
  pub noted : after.noted ≡ before.noted
