-- What a database stands for: its clients' names and the history of the calls that it answered with Ok.
use Rattle.std.specs.Prelude.{◌≡◌, ℕ, List, [], ◌∷◌, ◌++◌, length, map, take, Option, Some, option_map, option_to_list, slice_get}
use Rattle.std.specs.List.{flat_map}
use Rattle.moos_post.specs.declared.entry.Entry.{Entry}
use Rattle.moos_post.specs.declared.value.Pair.{Pair}
use Rattle.moos_post.specs.declared.value.Post.{Post}
use Rattle.moos_post.specs.Delivery.{mail_after, mail_at}
use Rattle.moos_post.specs.History.{History, posts_of}
use Rattle.moos_db.specs.declared.mail.Letter.{Letter}
use Rattle.moos_db.specs.declared.mail.Origin.{Origin}

-- the clients' names by number, and the history
pub record Database : Type 0 where
  pub names : List (List ℕ)
  pub history : History

-- the database after one more entry
abbrev pub after_entry : Database → Entry → Database
after_entry database entry = record database { history = database.history ++ entry ∷ [] }

-- what a post says, without when and by whom
abbrev pub pair_posted : Post → Pair
pair_posted post = record { var = post.var; value = post.value }

-- when a post was made, and by which client
abbrev pub origin_of : Post → Origin
origin_of post = record { stamp = post.stamp; client = post.source }

-- the letter with this post and its number
abbrev pub letter_of : ℕ → Post → Letter
letter_of number post = record { number = number; post = post }

-- the letter with the post that has this number, if there is such a post
abbrev pub letter_at : List Post → ℕ → Option Letter
letter_at posts number = option_map (letter_of number) (slice_get posts number)

-- the mail is the posts with these numbers, in this order
abbrev pub AreLetters : List Post → List ℕ → List Letter → Type 0
AreLetters posts numbers mail = map (λ letter. Some letter) mail ≡ map (letter_at posts) numbers

-- the letters with the posts that have these numbers, in this order
abbrev pub letters_at : List Post → List ℕ → List Letter
letters_at posts numbers = flat_map (λ number. option_to_list (letter_at posts number)) numbers

-- the letters that a fetch of the client gives behind this history
abbrev pub letters_after : List (List ℕ) → ℕ → History → List Letter
letters_after names client history = letters_at (posts_of history) (mail_after names client history)

-- Each entry of the history has its mail: the posts mailed to its client since the fetch before, if it is a fetch, and
-- nothing otherwise.
pub record AreMails (names : List (List ℕ)) (history : History) (mails : List (List Letter)) : Type 0 where
  pub each : length mails ≡ length history
  pub mail : (k : ℕ) (mail : List Letter) → slice_get mails k ≡ Some mail →
      AreLetters (posts_of (take k history)) (mail_at names history k) mail
