-- Letters that a bridge carries and such as it leaves out, worked by hand.
use Rattle.std.proofs.Common.{◌≡◌, ℕ, ◌≤◌, List, [], ◌∷◌, length, Option, Some, None, refl, sym, ap, subst, arith, leb-true}
use Rattle.std.specs.Prelude.{codes, pos}
use Rattle.moos_bridged.specs.LeftOut.{HasCarriedEach, IsCarried}
use Rattle.moos_client.specs.Calls.{entry_of}
use Rattle.moos_db.specs.declared.mail.Letter.{Letter}
use Rattle.moos_post.specs.declared.entry.Call.TheVariants.{Fetch, Post as Posts, Register}
use Rattle.moos_post.specs.declared.entry.Entry.{Entry}
use Rattle.moos_post.specs.declared.registration.Reg.{Reg}
use Rattle.moos_post.specs.declared.value.Pair.{Pair}
use Rattle.moos_post.specs.declared.value.Value.TheVariants.{Num}
use Rattle.moos_post.specs.History.{History}
use Rattle.moos_share.specs.declared.rule.Rule.{Rule}
use Rattle.moos_share.specs.Renaming.{carried_name}
use Rattle.script_reader.specs.declared.script.Script.{Script}

abbrev reg : List ℕ → List ℕ → Reg
reg var source = record { var = var; source = source; interval = 0 }

abbrev first : Script
first = record { names = codes "a" ∷ []; lines = []; stop = 0 }

abbrev second : Script
second = record { names = codes "b" ∷ []; lines = []; stop = 0 }

abbrev rules : List Rule
rules = record { reg = reg (codes "X") (codes "*"); prefix = Some (codes "A_"); line = 1 } ∷ record { reg = reg (codes "*") (codes "*"); prefix = None; line = 2 } ∷ []

-- client 0 posts a value
abbrev posts : List ℕ → ℕ → Entry
posts var n = entry_of 0 0 (Posts (record { var = var; value = Num (pos n) } ∷ []))

-- and the bridge, which is client 1 in both communities, posts such pairs
abbrev carries : List Pair → Entry
carries batch = entry_of 1 0 (Posts batch)

abbrev pair : List ℕ → ℕ → Pair
pair var n = record { var = var; value = Num (pos n) }

abbrev one : History
one = entry_of 1 0 (Register (reg (codes "X") (codes "*") ∷ reg (codes "*") (codes "*") ∷ [])) ∷ posts (codes "X") 1 ∷ entry_of 1 0 Fetch ∷ posts (codes "NAV_Y") 2 ∷ entry_of 1 0 Fetch ∷ []

-- a pair for each letter, in order
each : HasCarriedEach first second rules one (carries (pair (codes "A_X") 1 ∷ []) ∷ posts (codes "Z") 3 ∷ carries (pair (codes "NAV_Y") 2 ∷ []) ∷ [])
each = refl

-- the length of the first name
abbrev first_length : List (Option Pair) → ℕ
first_length [] = 0
first_length (None ∷ later) = 0
first_length (Some found ∷ later) = length found.var

one_lost : HasCarriedEach first second rules one (carries (pair (codes "A_X") 1 ∷ []) ∷ carries [] ∷ []) → ⊥
one_lost so = omega (arith, ap length so)

one_twice : HasCarriedEach first second rules one (carries (pair (codes "A_X") 1 ∷ pair (codes "A_X") 1 ∷ []) ∷ carries (pair (codes "NAV_Y") 2 ∷ []) ∷ []) → ⊥
one_twice so = omega (arith, ap length so)

other_order : HasCarriedEach first second rules one (carries (pair (codes "NAV_Y") 2 ∷ pair (codes "A_X") 1 ∷ []) ∷ []) → ⊥
other_order so = (let lengths : 5 ≡ 3 = ap first_length so in omega (arith, lengths))

by_second_rule : HasCarriedEach first second rules one (carries (pair (codes "X") 1 ∷ pair (codes "NAV_Y") 2 ∷ []) ∷ []) → ⊥
by_second_rule so = (let lengths : 1 ≡ 3 = ap first_length so in omega (arith, lengths))

-- a letter by its variable, of client 0
abbrev letter : List ℕ → Letter
letter var = record { number = 0; post = record { stamp = 0; source = 0; var = var; value = Num (pos 1) } }

abbrev long_name : List ℕ
long_name = codes "B234567890123456789012345678901234567890123456789012345678901234"

abbrev with_prefix : Rule
with_prefix = record { reg = reg (codes "*") (codes "*"); prefix = Some (codes "A"); line = 1 }

-- a name of 64 bytes is carried, one of 65 isn't, nor a letter that no rule selects
name_of_64 : IsCarried (codes "a" ∷ []) rules (letter long_name)
name_of_64 = record { rule = record { reg = reg (codes "*") (codes "*"); prefix = None; line = 2 }; first = refl; short = leb-true 64 64 refl }

name_of_65 : IsCarried (codes "a" ∷ []) (with_prefix ∷ []) (letter long_name) → ⊥
name_of_65 is =
    let same : with_prefix ≡ is.rule = (let e : Some with_prefix ≡ Some is.rule = is.first in cc) in
    let short : 65 ≤ 64 = subst (λ rule. length (carried_name rule long_name) ≤ 64) (sym same) is.short in
    omega (arith, short)

unselected : IsCarried (codes "a" ∷ []) (record { reg = reg (codes "*") (codes "b"); prefix = None; line = 1 } ∷ []) (letter (codes "X")) → ⊥
unselected is = (let e : None ≡ Some is.rule = is.first in cc)
