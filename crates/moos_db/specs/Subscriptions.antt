-- Who hears a variable: of each client the live registrations whose pattern matches it, each with the stamp of the last post of the
-- variable that came through.
use Rattle.std.specs.Prelude.{◌≡◌, ◌<◌, ◌≤◌, ◌+◌, ◌⊎◌, ℕ, Bool, true, false, ◌&&◌, ◌==◌, if◌then◌else◌, List, [], ◌∷◌, ◌++◌, length, map, filter, Option, None, Some, option_map, unwrap_or, bytes_eq, slice_get, slice_index_or, slice_set, take}
use Rattle.std.specs.List.{All, list_any}
use Rattle.moos_post.specs.declared.registration.Reg.{Reg}
use Rattle.moos_post.specs.declared.value.Post.{Post}
use Rattle.moos_post.specs.Delivery.{Inbox, is_past, last_stamp, Live, was_mailed}
use Rattle.moos_post.specs.Patterns.{matches}
use Rattle.moos_db.specs.declared.registration.Registration.{Registration}
use Rattle.moos_db.specs.Clients.{AreClients, ClientState}
use Rattle.moos_db.specs.Tables.{GetsNumber, latest_post_of, number_of, Row}

-- a live registration of a client that hears a variable, the entry that made it, and the stamp of the last post of the variable that
-- came through it
pub record SubscriptionState : Type 0 where
  pub client : ℕ
  pub reg : Reg
  pub made : ℕ
  pub last : Option ℕ

-- a variable, the number of its latest post, if there is one, of each client by number whether that post was mailed to it, who hears
-- the variable, and how many more can be added to those without memory
pub record VariableState : Type 0 where
  pub name : List ℕ
  pub latest : Option ℕ
  pub recipients : List Bool
  pub subscriptions : List SubscriptionState
  pub room : ℕ

-- the client hears the variable through this registration
abbrev pub subscription_of : ℕ → List ℕ → Live → SubscriptionState
subscription_of client var live = record { client = client; reg = live.reg; made = live.made; last = last_stamp var live.came }

-- through which of these registrations the client hears the variable, in their order
abbrev pub subscriptions_of : ℕ → List ℕ → List Live → List SubscriptionState
subscriptions_of client var lives = map (subscription_of client var) (filter (λ live. matches live.reg.var var) lives)

-- who of these is the client, in their order
abbrev pub of_client : ℕ → List SubscriptionState → List SubscriptionState
of_client client subscriptions = filter (λ subscription. subscription.client == client) subscriptions

-- a post of this stamp from the source is due
abbrev pub hears_due : ℕ → List ℕ → SubscriptionState → Bool
hears_due stamp source subscription = matches subscription.reg.source source && is_past subscription.last stamp subscription.reg.interval

-- after such a post, which comes through if it is due
abbrev pub after_hearing : ℕ → List ℕ → SubscriptionState → SubscriptionState
after_hearing stamp source subscription = if hears_due stamp source subscription then record subscription { last = Some stamp } else subscription

-- who hears is the client, by a registration that was made at this entry and selects a post from the source
abbrev pub is_new_at : ℕ → ℕ → List ℕ → SubscriptionState → Bool
is_new_at client made source subscription = subscription.client == client && subscription.made == made && matches subscription.reg.source source

-- after a post of this stamp that catches up, which comes through if that is so
abbrev pub caught_at : ℕ → ℕ → ℕ → List ℕ → SubscriptionState → SubscriptionState
caught_at client made stamp source subscription = if is_new_at client made source subscription then record subscription { last = Some stamp } else subscription

-- who hears is the client, by its registration with these patterns
abbrev pub is_registration : ℕ → List ℕ → List ℕ → SubscriptionState → Bool
is_registration client var source subscription = subscription.client == client && bytes_eq subscription.reg.var var && bytes_eq subscription.reg.source source

-- a registration that was just made, through which nothing came
abbrev pub fresh_subscription : ℕ → Registration → SubscriptionState
fresh_subscription client live = record { client = client; reg = live.reg; made = live.made; last = None }

-- through which of these registrations, through which nothing of the variable came, the client hears it
abbrev pub fresh_subscriptions : ℕ → List ℕ → List Registration → List SubscriptionState
fresh_subscriptions client var lives = map (fresh_subscription client) (filter (λ live. matches live.reg.var var) lives)

-- the live registrations of the client with this number; none if there is no such client
abbrev pub lives_at : List ClientState → ℕ → List Registration
lives_at clients client = unwrap_or (option_map (λ one. one.lives) (slice_get clients client)) []

-- the variables, the table of their numbers, and of each post the number of its variable
pub record VariablesState : Type 0 where
  pub all : List VariableState
  pub numbers : List Row
  pub noted : List ℕ

-- the variable is heard by each client just as its inbox of the delivery rule says, and by nobody else
pub record IsHeardBy (clients : ℕ) (inboxes : ℕ → Inbox) (variable : VariableState) : Type 0 where
  pub each : (client : ℕ) → client < clients → of_client client variable.subscriptions ≡ subscriptions_of client variable.name (inboxes client).lives
  pub within : All (λ subscription. subscription.client < clients) variable.subscriptions

-- each who hears one of these variables is one of the first `clients` clients
abbrev pub HearBelow : ℕ → List VariableState → Type 0
HearBelow clients variables = All (λ variable. All (λ subscription. subscription.client < clients) variable.subscriptions) variables

-- the name of the variable with this number, if there is one
abbrev pub name_at : List VariableState → ℕ → Option (List ℕ)
name_at variables number = option_map (λ variable. variable.name) (slice_get variables number)

-- the table has for each variable its number, and no other number
pub record IsNumbering (variables : List VariableState) (numbers : List Row) : Type 0 where
  pub each : (number : ℕ) (variable : VariableState) → slice_get variables number ≡ Some variable → number_of variable.name numbers ≡ Some number
  pub only : (number : ℕ) (var : List ℕ) → number_of var numbers ≡ Some number → name_at variables number ≡ Some var

-- the numbers of variables that are noted are those of these
pub record AreNumbers (variables : VariablesState) : Type 0 where
  pub numbering : IsNumbering variables.all variables.numbers
  pub noted : All (λ number. number < length variables.all) variables.noted

-- the variables whose numbers are noted are these
abbrev pub AreNoted : List (List ℕ) → VariablesState → Type 0
AreNoted vars variables = map (name_at variables.all) variables.noted ≡ map (λ var. Some var) vars

-- of no variable without a number a post came through the registration
abbrev pub HasKnown : List Row → Live → Type 0
HasKnown numbers live = (var : List ℕ) → number_of var numbers ≡ None → last_stamp var live.came ≡ None

-- nor through any registration of a client
abbrev pub AreKnown : ℕ → (ℕ → Inbox) → List Row → Type 0
AreKnown clients inboxes numbers = (client : ℕ) → client < clients → All (HasKnown numbers) (inboxes client).lives

-- a variable's latest post is that of the variable among these
abbrev pub HasLatest : List Post → VariableState → Type 0
HasLatest posts variable = variable.latest ≡ latest_post_of variable.name posts

-- the client with this number is one of them
abbrev pub is_recipient : List Bool → ℕ → Bool
is_recipient recipients client = slice_index_or recipients client false

-- a variable's latest post, if there is one, was mailed to just these of the clients, as their inboxes say
pub record HasRecipients (clients : ℕ) (inboxes : ℕ → Inbox) (variable : VariableState) : Type 0 where
  pub each : length variable.recipients ≡ clients
  pub mailed : (client number : ℕ) → client < clients → variable.latest ≡ Some number → is_recipient variable.recipients client ≡ was_mailed number (inboxes client).mailed

-- Each variable is heard as the inboxes say, its latest post is that among these and was mailed as they say, and none came through but
-- of these variables.
pub record AreHeard (clients : ℕ) (inboxes : ℕ → Inbox) (posts : List Post) (variables : VariablesState) : Type 0 where
  pub heard : All (IsHeardBy clients inboxes) variables.all
  pub latest : All (HasLatest posts) variables.all
  pub recipients : All (HasRecipients clients inboxes) variables.all
  pub known : AreKnown clients inboxes variables.numbers

-- the variables with this one added, which the clients hear by their registrations, through which nothing of it came
pub record IsAdded (clients : List ClientState) (var : List ℕ) (before after : VariablesState) : Type 0 where
  pub recipients : List Bool
  pub subscriptions : List SubscriptionState
  pub room : ℕ
  pub marked : length recipients ≡ length clients
  pub each : (client : ℕ) → client < length clients → of_client client subscriptions ≡ fresh_subscriptions client var (lives_at clients client)
  pub within : All (λ subscription. subscription.client < length clients) subscriptions
  pub all : after.all ≡ before.all ++ record { name = var; latest = None; recipients = recipients; subscriptions = subscriptions; room = room } ∷ []
  pub numbers : GetsNumber var (length before.all) before.numbers after.numbers
  pub noted : after.noted ≡ before.noted

-- nothing changed but that a variable was added, or nothing
abbrev pub MayAdd : List ClientState → List ℕ → VariablesState → VariablesState → Type 0
MayAdd clients var before after = (after ≡ before) ⊎ ((number_of var before.numbers ≡ None) × IsAdded clients var before after)

-- the clients are the same but for room in their mailboxes
pub record AreAlike (before after : List ClientState) : Type 0 where
  pub each : length after ≡ length before
  pub same : (number : ℕ) (one other : ClientState) → slice_get before number ≡ Some one → slice_get after number ≡ Some other → other ≡ record one { spare = other.spare }

-- `more` posts can be mailed without memory to the client who hears
abbrev pub HasRoom : List ClientState → ℕ → SubscriptionState → Type 0
HasRoom clients more subscription = (client : ClientState) → slice_get clients subscription.client ≡ Some client → more ≤ client.spare

-- `more` posts can be mailed without memory to each client who hears a variable of one of the posts from this number on
abbrev pub HaveLetterRoom : List ClientState → VariablesState → ℕ → ℕ → Type 0
HaveLetterRoom clients variables from more = (post number : ℕ) (variable : VariableState) → from ≤ post → slice_get variables.noted post ≡ Some number →
    slice_get variables.all number ≡ Some variable → All (HasRoom clients more) variable.subscriptions

-- the client after the post with this number, which is mailed if this says so
abbrev pub mailed_if : Bool → ℕ → ClientState → ClientState
mailed_if mails number client = if mails then record client { waits = client.waits ++ number ∷ [] } else client

-- the clients after the post with this number, of this stamp and from the source, which is mailed to each at one of whose
-- subscriptions it is due
pub record AreMailed (number stamp : ℕ) (source : List ℕ) (subscriptions : List SubscriptionState) (before after : List ClientState) : Type 0 where
  pub each : length after ≡ length before
  pub mail : (client : ℕ) (one other : ClientState) → slice_get before client ≡ Some one → slice_get after client ≡ Some other →
      other ≡ record (mailed_if (list_any (hears_due stamp source) (of_client client subscriptions)) number one) { spare = other.spare }
  pub room : (client : ℕ) (one other : ClientState) → slice_get before client ≡ Some one → slice_get after client ≡ Some other → one.spare ≤ other.spare + 1

-- these are the recipients of such a post among so many clients
pub record AreRecipients (stamp : ℕ) (source : List ℕ) (subscriptions : List SubscriptionState) (clients : ℕ) (recipients : List Bool) : Type 0 where
  pub each : length recipients ≡ clients
  pub due : (client : ℕ) → client < clients → is_recipient recipients client ≡ list_any (hears_due stamp source) (of_client client subscriptions)

-- the post with this number is mailed to the client, which is one of its recipients from then on
pub record IsMailedTo (client number : ℕ) (recipients marked : List Bool) (clients others : List ClientState) : Type 0 where
  pub one : ClientState
  pub there : slice_get clients client ≡ Some one
  pub other : ClientState
  pub mailed : other ≡ record (mailed_if true number one) { spare = other.spare }
  pub room : one.spare ≤ other.spare + 1
  pub all : others ≡ slice_set clients client other
  pub mark : marked ≡ slice_set recipients client true

-- of each variable there is a mark for each of so many clients
abbrev pub HaveMarks : ℕ → List VariableState → Type 0
HaveMarks clients variables = All (λ variable. length variable.recipients ≡ clients) variables

-- the clients and who hears the variables are just what the inboxes say, if these are the posts so far
pub record AreKeptAs (inboxes : ℕ → Inbox) (posts : List Post) (variables : VariablesState) (all : List ClientState) : Type 0 where
  pub clients : AreClients inboxes all
  pub heard : AreHeard (length all) inboxes posts variables

-- the inboxes if the client's is changed so
abbrev pub with_inbox : ℕ → (Inbox → Inbox) → (ℕ → Inbox) → ℕ → Inbox
with_inbox client change inboxes number = if client == number then change (inboxes number) else inboxes number

-- the inboxes if the client's live registrations are changed so
abbrev pub with_lives : ℕ → (List Live → List Live) → (ℕ → Inbox) → ℕ → Inbox
with_lives client change inboxes = with_inbox client (λ inbox. record inbox { lives = change inbox.lives }) inboxes

-- posting: the post with this number, of the variable that is noted for it, came through those who hear it, and was mailed
pub record IsPosted (number stamp : ℕ) (source : List ℕ) (before after : VariablesState) (clients others : List ClientState) : Type 0 where
  pub at : ℕ
  pub variable : VariableState
  pub numbering : IsNumbering before.all before.numbers
  pub found : slice_get before.noted number ≡ Some at
  pub there : slice_get before.all at ≡ Some variable
  pub room : ℕ
  pub recipients : List Bool
  pub all : after.all ≡ slice_set before.all at (record variable { latest = Some number; recipients = recipients; subscriptions = map (after_hearing stamp source) variable.subscriptions; room = room })
  pub numbers : after.numbers ≡ before.numbers
  pub noted : after.noted ≡ before.noted
  pub mailed : AreMailed number stamp source variable.subscriptions clients others
  pub marked : AreRecipients stamp source variable.subscriptions (length clients) recipients

-- all is as the inboxes say, if these are the posts so far, whose variables are noted first
pub record AreReady (inboxes : ℕ → Inbox) (posts : List Post) (variables : VariablesState) (all : List ClientState) : Type 0 where
  pub stand : AreKeptAs inboxes posts variables all
  pub noted : AreNoted (map (λ post. post.var) posts) (record variables { noted = take (length posts) variables.noted })
