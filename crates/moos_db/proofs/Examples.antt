-- Worked by hand: the latest posts of the variables C, B, A and C again, a table of their numbers, the letters of these posts, and what
-- is kept of a client.
use Rattle.std.specs.Prelude.{◌≡◌, ℕ, zero, suc, ◌<◌, Bool, bytes_eq, cond, find, if◌then◌else◌, option_map, List, [], ◌∷◌, length, Option, None, Some, unwrap_or, codes, false, true, pos, slice_get, take, slice_index_or}
use Rattle.std.proofs.Common.{refl, ap, subst, arith, ◌∙◌}
use Rattle.std.proofs.lemmas.Bool.{false≢true}
use Rattle.std.proofs.lemmas.List.Elements.{All-cons, All-head, All-nil}
use Rattle.std.proofs.lemmas.Option.{same_Some}
use Rattle.moos_post.specs.declared.entry.Call.{Call}
use Rattle.moos_post.specs.declared.entry.Call.TheVariants.{Register, Post as Posts, Fetch}
use Rattle.moos_post.specs.declared.entry.Entry.{Entry}
use Rattle.moos_post.specs.declared.registration.Reg.{Reg}
use Rattle.moos_post.specs.declared.value.Post.{Post}
use Rattle.moos_post.specs.declared.value.Value.TheVariants.{Num}
use Rattle.moos_post.specs.Delivery.{Inbox, last_stamp, mail_at, mailing, was_mailed}
use Rattle.moos_post.specs.History.{History, posts_of}
use Rattle.moos_post.proofs.Texts.{bytes_eq_comm}
use Rattle.moos_db.specs.Database.{after_entry, AreLetters, AreMails, Database, letter_at, letter_of, origin_of, pair_posted}
use Rattle.moos_db.specs.declared.mail.Letter.{Letter}
use Rattle.moos_db.specs.Clients.{ClientState, IsClient}
use Rattle.moos_db.specs.Subscriptions.{AreKnown, HasLatest, HasRecipients, SubscriptionState, subscriptions_of, is_recipient, IsHeardBy, HasKnown, of_client, VariableState, VariablesState, with_inbox}
use Rattle.moos_db.specs.Places.{inboxes_after, IsDb, IsLog, LogState, place_at, post_in}
use Rattle.moos_db.specs.Registering.{catch_number, catch_post, StandsAt}
use Rattle.moos_db.specs.Tables.{GetsNumber, latest_post_of, number_of, Row}

abbrev post : List ℕ → ℕ → Post
post var stamp = record { stamp = stamp; source = 0; var = var; value = Num (pos 0) }

abbrev posts : List Post
posts = post (codes "C") 10 ∷ post (codes "B") 20 ∷ post (codes "A") 30 ∷ post (codes "C") 5 ∷ []

abbrev row : List ℕ → ℕ → Row
row var number = record { var = var; number = number }

latest_of_c : latest_post_of (codes "C") posts ≡ Some 3
latest_of_c = refl

latest_of_b : latest_post_of (codes "B") posts ≡ Some 1
latest_of_b = refl

none_of_d : latest_post_of (codes "D") posts ≡ None
none_of_d = refl

-- In a table of C, B and A each has its number, whichever row comes first, and D has none.
abbrev table : List Row
table = row (codes "C") 0 ∷ row (codes "B") 1 ∷ row (codes "A") 2 ∷ []

number_of_b : number_of (codes "B") table ≡ Some 1
number_of_b = refl

no_number_of_d : number_of (codes "D") table ≡ None
no_number_of_d = refl

-- With the number 3 for D the row of D may be anywhere, and no other number changes.
d_is_numbered : GetsNumber (codes "D") 3 table (row (codes "D") 3 ∷ table)
d_is_numbered var = rw (bytes_eq_comm (codes "D") var) (elim (bytes_eq var (codes "D")) as
    (λ b. option_map (λ (one : Row). one.number) (cond b (Some (row (codes "D") 3)) (find (λ one. bytes_eq var one.var) table)) ≡ (if b then Some 3 else number_of var table)) [ true ↦ refl | false ↦ refl ])

c_has_another : GetsNumber (codes "D") 3 table (row (codes "D") 3 ∷ row (codes "C") 1 ∷ []) → ⊥
c_has_another numbered = omega (arith, ap (λ number. unwrap_or number 9) (numbered (codes "C")))

-- The second post is of variable B at stamp 20; there is no fifth.
letter : letter_at posts 1 ≡ Some (letter_of 1 (post (codes "B") 20))
letter = refl

no_letter : letter_at posts 4 ≡ None
no_letter = refl

said : pair_posted (post (codes "B") 20) ≡ record { var = codes "B"; value = Num (pos 0) }
said = refl

made : origin_of (post (codes "B") 20) ≡ record { stamp = 20; client = 0 }
made = refl

-- Client 1 posts A, and client 0 registers for all, with an interval of 100: post 0 catches up. Then client 1 posts A twice,
-- of which the second is due, and client 0 fetches.
abbrev at : ℕ → ℕ → Call → Entry
at stamp client call = record { stamp = stamp; client = client; call = call }

abbrev says : ℕ → Entry
says stamp = at stamp 1 (Posts (record { var = codes "A"; value = Num (pos 0) } ∷ []))

abbrev all : Reg
all = record { var = codes "*"; source = codes "*"; interval = 100 }

abbrev history : History
history = says 10 ∷ at 10 0 (Register (all ∷ [])) ∷ says 50 ∷ says 110 ∷ []

abbrev names : List (List ℕ)
names = codes "a" ∷ codes "b" ∷ []

-- Post 2 is the first of entry 3.
placed : post_in history (place_at 3 0) ≡ Some (record { stamp = 110; source = 1; var = codes "A"; value = Num (pos 0) })
placed = refl

misplaced : post_in history (place_at 3 1) ≡ None
misplaced = refl

-- At entry 1, when the registration is made, post 0 catches up, and comes through it. There is no post 1, and a post that
-- was mailed doesn't catch up again, nor one where no registration was made at this entry.
abbrev a_at : ℕ → Post
a_at stamp = record { stamp = stamp; source = 1; var = codes "A"; value = Num (pos 0) }

abbrev registered : Inbox
registered = record { fetched = 0; entries = 1; posts = a_at 10 ∷ []; lives = record { reg = all; made = 1; came = [] } ∷ []; mailed = [] }

abbrev caught : Inbox
caught = record registered { lives = record { reg = all; made = 1; came = a_at 10 ∷ [] } ∷ []; mailed = mailing 0 1 ∷ [] }

catches : catch_number names (a_at 10 ∷ []) registered 0 ≡ caught
catches = refl

catches_none : catch_number names (a_at 10 ∷ []) registered 1 ≡ registered
catches_none = refl

catches_once : catch_post names 0 caught (Some (a_at 10)) ≡ caught
catches_once = refl

catches_later : catch_post names 0 (record registered { entries = 2 }) (Some (a_at 10)) ≡ record registered { entries = 2 }
catches_later = refl

-- It is the inbox of client 0 that changes so, and no other.
caught_alone : (with_inbox 0 (λ inbox. caught) (λ client. registered) 0 ≡ caught) × (with_inbox 0 (λ inbox. caught) (λ client. registered) 1 ≡ registered)
caught_alone = (refl, refl)

stands_at : StandsAt 1 caught
stands_at = (refl, (omega arith))

stood_at : StandsAt 0 caught → ⊥
stood_at at = omega (arith, at.0)

-- What holds of each item of a list, by its place.
each_of : {X : Type 0} (P : ℕ → X → Type 0) (x : X) (xs : List X) → P 0 x → ((k : ℕ) (y : X) → slice_get xs k ≡ Some y → P (suc k) y) → (k : ℕ) (y : X) → slice_get (x ∷ xs) k ≡ Some y → P k y
each_of P x xs here later zero y same = let equal : x ≡ y = cc in subst (P zero) equal here
each_of P x xs here later (suc k) y same = later k y same

each_of_none : {X : Type 0} (P : ℕ → X → Type 0) (k : ℕ) (y : X) → slice_get [] k ≡ Some y → P k y
each_of_none P k y same = absurd (let none : None ≡ Some y = same in cc)

-- The database of this history with the fetch of client 0 behind it.
abbrev database : Database
database = after_entry (record { names = names; history = history }) (at 200 0 Fetch)

abbrev fetched : History
fetched = database.history

abbrev mail : List Letter
mail = letter_of 0 (a_at 10) ∷ letter_of 2 (a_at 110) ∷ []

abbrev IsMail : ℕ → List Letter → Type 0
IsMail k mail = AreLetters (posts_of (take k fetched)) (mail_at names fetched k) mail

-- Its mails: the fetch, entry 4, has those of posts 0 and 2, in this order, and no other entry has any.
are_mails : AreMails names fetched ([] ∷ [] ∷ [] ∷ [] ∷ mail ∷ [])
are_mails = record {
  each = refl;
  mail = each_of IsMail [] ([] ∷ [] ∷ [] ∷ mail ∷ []) refl
      (each_of (λ k. IsMail (suc k)) [] ([] ∷ [] ∷ mail ∷ []) refl
      (each_of (λ k. IsMail (suc (suc k))) [] ([] ∷ mail ∷ []) refl
      (each_of (λ k. IsMail (suc (suc (suc k)))) [] (mail ∷ []) refl
      (each_of (λ k. IsMail (suc (suc (suc (suc k))))) mail [] refl
      (each_of_none (λ k. IsMail (suc (suc (suc (suc (suc k)))))))))));
}

nothing_fetched : AreMails names fetched ([] ∷ [] ∷ [] ∷ [] ∷ [] ∷ []) → ⊥
nothing_fetched mails = omega (arith, ap length (mails.mail 4 [] refl))

-- the number of the first letter, and the stamp of the first post
abbrev first_number : List (Option Letter) → ℕ
first_number [] = 9
first_number (None ∷ later) = 9
first_number (Some one ∷ later) = one.number

abbrev first_stamp : List (Option Post) → ℕ
first_stamp [] = 9
first_stamp (None ∷ later) = 9
first_stamp (Some one ∷ later) = one.stamp

other_order : AreMails names fetched ([] ∷ [] ∷ [] ∷ [] ∷ (letter_of 2 (a_at 110) ∷ letter_of 0 (a_at 10) ∷ []) ∷ []) → ⊥
other_order mails = omega (arith, ap first_number (mails.mail 4 (letter_of 2 (a_at 110) ∷ letter_of 0 (a_at 10) ∷ []) refl))

one_mail_less : AreMails names fetched ([] ∷ [] ∷ [] ∷ [] ∷ []) → ⊥
one_mail_less mails = omega (arith, mails.each)

-- Where its posts stand, and what each entry gave.
abbrev letters : List (List ℕ)
letters = [] ∷ [] ∷ [] ∷ [] ∷ (0 ∷ 2 ∷ []) ∷ []

is_log : IsLog fetched letters (place_at 0 0 ∷ place_at 2 0 ∷ place_at 3 0 ∷ [])
is_log = record { each = refl; placed = refl }

post_left_out : IsLog fetched letters (place_at 0 0 ∷ place_at 2 0 ∷ []) → ⊥
post_left_out log = omega (arith, ap length log.placed)

places_swapped : IsLog fetched letters (place_at 2 0 ∷ place_at 0 0 ∷ place_at 3 0 ∷ []) → ⊥
places_swapped log = omega (arith, ap first_stamp log.placed)

abbrev journal : LogState
journal = record { entries = fetched; letters = letters }

given : (k : ℕ) → k < 5 → slice_index_or letters k [] ≡ mail_at names fetched k
given zero below = refl
given (suc zero) below = refl
given (suc (suc zero)) below = refl
given (suc (suc (suc zero))) below = refl
given (suc (suc (suc (suc zero)))) below = refl
given (suc (suc (suc (suc (suc k))))) below = absurd (omega (arith, below))

-- Client 0 hears A by its registration, and post 2 was the last that came through.
abbrev subscription : ℕ → SubscriptionState
subscription stamp = record { client = 0; reg = all; made = 1; last = Some stamp }

abbrev variable : List SubscriptionState → VariableState
variable subscriptions = record { name = codes "A"; latest = Some 2; recipients = true ∷ false ∷ []; subscriptions = subscriptions; room = 0 }

abbrev variables : List SubscriptionState → VariablesState
variables subscriptions = record { all = variable subscriptions ∷ []; numbers = row (codes "A") 0 ∷ []; noted = 0 ∷ 0 ∷ 0 ∷ [] }

abbrev first : ClientState
first = record { lives = record { reg = all; made = 1 } ∷ []; waits = []; spare = 0; room = 0 }

abbrev second : ClientState
second = record { lives = []; waits = []; spare = 0; room = 0 }

are_clients : (number : ℕ) (one : ClientState) → slice_get (first ∷ second ∷ []) number ≡ Some one → IsClient (inboxes_after names fetched number) one
are_clients = each_of (λ number one. IsClient (inboxes_after names fetched number) one) first (second ∷ []) (record { lives = refl; waits = refl })
    (each_of (λ number one. IsClient (inboxes_after names fetched (suc number)) one) second [] (record { lives = refl; waits = refl })
    (each_of_none (λ number one. IsClient (inboxes_after names fetched (suc (suc number))) one)))

is_heard : IsHeardBy 2 (inboxes_after names fetched) (variable (subscription 110 ∷ []))
is_heard = record { each = by_each; within = All-cons (λ (one : SubscriptionState). one.client < 2) (subscription 110) [] (omega arith) (All-nil (λ (one : SubscriptionState). one.client < 2)) }
  where
    by_each : (client : ℕ) → client < 2 → of_client client (subscription 110 ∷ []) ≡ subscriptions_of client (codes "A") (inboxes_after names fetched client).lives
    by_each zero below = refl
    by_each (suc zero) below = refl
    by_each (suc (suc client)) below = absurd (omega (arith, below))

-- nothing came through but posts of A
known_a : HasKnown (row (codes "A") 0 ∷ []) (record { reg = all; made = 1; came = a_at 10 ∷ a_at 110 ∷ [] })
known_a var none = through (bytes_eq var (codes "A")) refl none
  where
    through : (same : Bool) → bytes_eq var (codes "A") ≡ same → option_map (λ (one : Row). one.number) (if same then Some (row (codes "A") 0) else None) ≡ None → last_stamp var (a_at 10 ∷ a_at 110 ∷ []) ≡ None
    through true is none = absurd (let some : Some 0 ≡ None = none in cc)
    through false is none = ap (λ same. if same then Some 110 else (if same then Some 10 else None)) (bytes_eq_comm (codes "A") var ∙ is)

are_known : AreKnown 2 (inboxes_after names fetched) (row (codes "A") 0 ∷ [])
are_known zero below = All-cons (HasKnown (row (codes "A") 0 ∷ [])) (record { reg = all; made = 1; came = a_at 10 ∷ a_at 110 ∷ [] }) [] known_a (All-nil (HasKnown (row (codes "A") 0 ∷ [])))
are_known (suc zero) below = All-nil (HasKnown (row (codes "A") 0 ∷ []))
are_known (suc (suc client)) below = absurd (omega (arith, below))

-- the latest post of A was mailed to client 0 alone
have_got : HasRecipients 2 (inboxes_after names fetched) (variable (subscription 110 ∷ []))
have_got = record { each = refl; mailed = by_mail }
  where
    by_mail : (client number : ℕ) → client < 2 → Some 2 ≡ Some number → is_recipient (true ∷ false ∷ []) client ≡ was_mailed number (inboxes_after names fetched client).mailed
    by_mail zero number below latest = ap (λ n. was_mailed n (inboxes_after names fetched 0).mailed) (same_Some 2 number latest)
    by_mail (suc zero) number below latest = ap (λ n. was_mailed n (inboxes_after names fetched 1).mailed) (same_Some 2 number latest)
    by_mail (suc (suc client)) number below latest = absurd (omega (arith, below))

is_db : IsDb names journal (variables (subscription 110 ∷ [])) (first ∷ second ∷ [])
is_db = record {
  kept = record {
    few = omega arith;
    each = refl;
    kept = record {
      clients = are_clients;
      heard = record {
        heard = All-cons (IsHeardBy 2 (inboxes_after names fetched)) (variable (subscription 110 ∷ [])) [] is_heard (All-nil (IsHeardBy 2 (inboxes_after names fetched)));
        latest = All-cons (HasLatest (posts_of fetched)) (variable (subscription 110 ∷ [])) [] refl (All-nil (HasLatest (posts_of fetched)));
        recipients = All-cons (HasRecipients 2 (inboxes_after names fetched)) (variable (subscription 110 ∷ [])) [] have_got (All-nil (HasRecipients 2 (inboxes_after names fetched)));
        known = are_known;
      };
    };
    noted = refl;
  };
  lettered = refl;
  given = given;
}

-- The marks of an earlier post of A, which was mailed to nobody, are not those of the latest.
marks_kept : HasRecipients 2 (inboxes_after names fetched) (record (variable []) { recipients = false ∷ false ∷ [] }) → ⊥
marks_kept has = false≢true (has.mailed 0 2 (omega arith) refl)

-- It is no such database where the fetch's letters lack one, a client isn't kept, nobody hears A, the stamp of an earlier post is
-- kept, or the variable of a post isn't noted.
letter_lost : IsDb names (record journal { letters = [] ∷ [] ∷ [] ∷ [] ∷ (2 ∷ []) ∷ [] }) (variables (subscription 110 ∷ [])) (first ∷ second ∷ []) → ⊥
letter_lost db = omega (arith, ap length (db.given 4 (omega arith)))

client_lost : IsDb names journal (variables (subscription 110 ∷ [])) (first ∷ []) → ⊥
client_lost db = omega (arith, db.kept.each)

subscription_lost : IsDb names journal (variables []) (first ∷ second ∷ []) → ⊥
subscription_lost db = omega (arith, ap length ((All-head (IsHeardBy 2 (inboxes_after names fetched)) (variable []) [] db.kept.kept.heard.heard).each 0 (omega arith)))

abbrev first_stamp_through : List SubscriptionState → ℕ
first_stamp_through [] = 0
first_stamp_through (one ∷ later) = unwrap_or one.last 0

earlier_stamp : IsDb names journal (variables (subscription 10 ∷ [])) (first ∷ second ∷ []) → ⊥
earlier_stamp db =
    let same : 10 ≡ 110 = ap first_stamp_through ((All-head (IsHeardBy 2 (inboxes_after names fetched)) (variable (subscription 10 ∷ [])) [] db.kept.kept.heard.heard).each 0 (omega arith)) in
    omega (arith, same)

post_unnoted : IsDb names journal (record (variables (subscription 110 ∷ [])) { noted = 0 ∷ 0 ∷ [] }) (first ∷ second ∷ []) → ⊥
post_unnoted db = omega (arith, ap length db.kept.noted)
