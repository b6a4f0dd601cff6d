-- What is kept of one client beside who hears what.
use Rattle.std.specs.Prelude.{◌≡◌, ℕ, Bool, ◌&&◌, not, List, [], map, filter, bytes_eq, slice_get, Some}
use Rattle.std.specs.List.{list_any}
use Rattle.moos_db.specs.declared.registration.Registration.{Registration}
use Rattle.moos_post.specs.Delivery.{Inbox, Live, waiting}

-- what the database keeps of a client: its live registrations in the order in which they were made, the numbers of the posts that
-- wait for its next fetch, how many more can be mailed without memory, and how many more registrations made
pub record ClientState : Type 0 where
  pub lives : List Registration
  pub waits : List ℕ
  pub spare : ℕ
  pub room : ℕ

-- what a client registered for and when, of a live registration
abbrev pub registration_of : Live → Registration
registration_of live = record { reg = live.reg; made = live.made }

-- a registration has both these patterns
abbrev pub is_with_patterns : List ℕ → List ℕ → Registration → Bool
is_with_patterns var source live = bytes_eq live.reg.var var && bytes_eq live.reg.source source

-- one of the registrations has both these patterns
abbrev pub has_registration : List ℕ → List ℕ → List Registration → Bool
has_registration var source lives = list_any (is_with_patterns var source) lives

-- the registrations without each that has both these patterns
abbrev pub without_registration : List ℕ → List ℕ → List Registration → List Registration
without_registration var source lives = filter (λ live. not (is_with_patterns var source live)) lives

-- what is kept of the client is its inbox of the delivery rule, without the posts themselves
pub record IsClient (inbox : Inbox) (client : ClientState) : Type 0 where
  pub lives : client.lives ≡ map registration_of inbox.lives
  pub waits : client.waits ≡ waiting inbox

-- each client is kept as its inbox says
abbrev pub AreClients : (ℕ → Inbox) → List ClientState → Type 0
AreClients inboxes clients = (number : ℕ) (client : ClientState) → slice_get clients number ≡ Some client → IsClient (inboxes number) client

-- nothing happened for the client
pub record IsBlank (client : ClientState) : Type 0 where
  pub lives : client.lives ≡ []
  pub waits : client.waits ≡ []
