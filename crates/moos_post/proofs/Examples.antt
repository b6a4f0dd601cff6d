-- The delivery rule worked by hand: what each fetch of some small histories gives.
use Rattle.std.proofs.Common.{◌≡◌, ℕ, ◌*◌, List, [], ◌∷◌, map, replicate, Some, refl, arith}
use Rattle.std.specs.Prelude.{pos, negsuc, codes, true, false}
use Rattle.moos_post.specs.declared.entry.Call.{Call}
use Rattle.moos_post.specs.declared.entry.Call.TheVariants.{Register, Unregister, Post as Posts, Fetch}
use Rattle.moos_post.specs.declared.entry.Entry.{Entry}
use Rattle.moos_post.specs.declared.value.Pair.{Pair}
use Rattle.moos_post.specs.declared.value.Post.{Post}
use Rattle.moos_post.specs.declared.value.Value.TheVariants.{Num}
use Rattle.moos_post.specs.Delivery.{mail_at}
use Rattle.moos_post.specs.History.{History, name_of, posts_of}
use Rattle.moos_post.specs.Patterns.{matches}
use Rattle.moos_post.specs.Words.{control_place, is_name, is_pattern, is_text, IsMilli}

abbrev at : ℕ → ℕ → Call → Entry
at stamp client call = record { stamp = stamp; client = client; call = call }

abbrev asks : List ℕ → ℕ → List ℕ → Call
asks var interval source = Register (record { var = var; source = source; interval = interval } ∷ [])

abbrev says : List ℕ → ℕ → Pair
says var units = record { var = var; value = Num (pos (1000 * units)) }

-- Clients 0 to 3 are log, two, p and q. A pattern for the source lets through whom it matches; `?` wants one byte.
abbrev patterned : History
patterned =
    at 0 0 (asks (codes "NAV_*") 0 (codes "p*"))
    ∷ at 500 1 (asks (codes "NAV_?") 0 (codes "*"))
    ∷ at 1000 2 (Posts (says (codes "NAV_") 1 ∷ says (codes "NAV_X") 2 ∷ says (codes "NAV_XY") 3 ∷ []))
    ∷ at 2000 3 (Posts (says (codes "NAV_X") 4 ∷ []))
    ∷ at 3000 0 Fetch ∷ at 4000 1 Fetch ∷ []

abbrev patterned_names : List (List ℕ)
patterned_names = codes "log" ∷ codes "two" ∷ codes "p" ∷ codes "q" ∷ []

batch_by_source : mail_at patterned_names patterned 4 ≡ 0 ∷ 1 ∷ 2 ∷ []
batch_by_source = refl

batch_by_length : mail_at patterned_names patterned 5 ≡ 1 ∷ 3 ∷ []
batch_by_length = refl

abbrev x : ℕ → Call
x units = Posts (says (codes "X") units ∷ [])

-- The interval counts from the last post that came through, and not from the last post.
interval : mail_at (codes "a" ∷ [])
    (at 0 0 (asks (codes "X") 500 (codes "*")) ∷ at 0 0 (x 1) ∷ at 499 0 (x 2) ∷ at 500 0 (x 3) ∷ at 999 0 (x 4) ∷ at 1000 0 (x 5) ∷ at 2000 0 Fetch ∷ []) 6
    ≡ 0 ∷ 2 ∷ 4 ∷ []
interval = refl

-- Registering late mails each variable's latest post once, when the registration is made.
late : mail_at (codes "a" ∷ codes "b" ∷ [])
    (at 0 0 (Posts (says (codes "A") 1 ∷ [])) ∷ at 1000 0 (Posts (says (codes "B") 2 ∷ [])) ∷ at 2000 0 (Posts (says (codes "A") 3 ∷ []))
    ∷ at 3000 1 (asks (codes "A") 0 (codes "*")) ∷ at 4000 1 (asks (codes "*") 0 (codes "*")) ∷ at 5000 1 Fetch ∷ []) 5
    ≡ 2 ∷ 1 ∷ []
late = refl

-- A post that was mailed once isn't mailed again to who withdraws and registers anew.
anew : mail_at (codes "b" ∷ codes "a" ∷ [])
    (at 0 0 (asks (codes "X") 10000 (codes "*")) ∷ at 1000 1 (x 1) ∷ at 2000 0 (Unregister (codes "X") (codes "*"))
    ∷ at 3000 0 (asks (codes "X") 10000 (codes "*")) ∷ at 4000 1 (x 2) ∷ at 5000 0 Fetch ∷ []) 5
    ≡ 0 ∷ 1 ∷ []
anew = refl

-- A fetch gives what was mailed since the one before, and an entry that is no fetch gives nothing.
since : mail_at (codes "pA" ∷ []) (at 0 0 (asks (codes "X") 0 (codes "*")) ∷ at 1000 0 (x 5) ∷ at 2000 0 Fetch ∷ at 3000 0 Fetch ∷ []) 3 ≡ []
since = refl

-- Patterns: a star that must be tried again, and question marks at both ends.
star_again : matches (codes "*ab?") (codes "aabab_") ≡ true
star_again = refl

no_run : matches (codes "a*b") (codes "abc") ≡ false
no_run = refl

-- The posts of a history have their number from their place, and their stamp and source from their entry.
stamps : map (λ (post : Post). post.stamp) (posts_of patterned) ≡ 1000 ∷ 1000 ∷ 1000 ∷ 2000 ∷ []
stamps = refl

sources : map (λ (post : Post). name_of patterned_names post.source) (posts_of patterned) ≡ codes "p" ∷ codes "p" ∷ codes "p" ∷ codes "q" ∷ []
sources = refl

-- Names: not empty, at most 64 bytes, and a digit not in front.
good_names : map is_name (codes "_" ∷ codes "a-1.B" ∷ replicate 64 97 ∷ []) ≡ true ∷ true ∷ true ∷ []
good_names = refl

bad_names : map is_name (codes "" ∷ codes "1a" ∷ codes "a b" ∷ codes "a*" ∷ replicate 65 97 ∷ []) ≡ false ∷ false ∷ false ∷ false ∷ false ∷ []
bad_names = refl

-- A pattern may begin with any of its bytes.
pattern : map is_pattern (codes "1?*" ∷ codes "" ∷ codes "a b" ∷ []) ≡ true ∷ false ∷ false ∷ []
pattern = refl

-- Texts may be empty and hold a tab and any byte above 127, but neither a line's end nor byte 127.
bad_first : control_place (97 ∷ 9 ∷ 10 ∷ 0 ∷ []) ≡ Some 2
bad_first = refl

text : map is_text ([] ∷ (9 ∷ 32 ∷ 255 ∷ []) ∷ (127 ∷ []) ∷ (31 ∷ []) ∷ []) ≡ true ∷ true ∷ false ∷ false ∷ []
text = refl

-- A value is at most a thousand million either way, in thousandths.
greatest : IsMilli (pos 1000000000000)
greatest = (grind arith, grind arith)

least : IsMilli (negsuc 999999999999)
least = (grind arith, grind arith)

too_great : IsMilli (pos 1000000000001) → ⊥
too_great milli = grind (arith, milli.1)

too_small : IsMilli (negsuc 1000000000000) → ⊥
too_small milli = grind (arith, milli.0)
