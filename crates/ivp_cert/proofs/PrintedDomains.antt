-- The first axes of a domain are a domain too.
use Rattle.std.proofs.Common.{◌≡◌, ℕ, zero, suc, ◌*◌, ◌^◌, ◌≤◌, Bool, true, false, cond, not, ◌&&◌, nat_lt, nat_le, Option, Some, None, Ok, List, [], ◌∷◌, ◌++◌, length, le_trans, refl, arith}
use Rattle.std.specs.Prelude.{is_none}
use Rattle.std.specs.List.{list_all, list_any, position_or_len}
use Rattle.std.proofs.lemmas.Bool.{and_parts, le-leb, le-ltb}
use Rattle.std.proofs.lemmas.Bool.Decides.{nat_tests}
use Rattle.std.proofs.lemmas.Nat.{mul-le}
use Rattle.ivp_domain.specs.declared.axis.Axis.{Axis}
use Rattle.ivp_domain.specs.Axes.{is_good_axis}
use Rattle.ivp_domain.specs.Domains.{bad_axis, domain_of, is_domain, repeated_after, repeated_place, same_name, size_of, size_on}
use Rattle.ivp_domain.proofs.Sizes.{few, good_axes}

good_both : (xs ys : List Axis) → list_all is_good_axis (xs ++ ys) ≡ true → list_all is_good_axis xs ≡ true
good_both [] ys h = refl
good_both (x ∷ xs) ys h = let both = and_parts (is_good_axis x) (list_all is_good_axis (xs ++ ys)) h in rw both.0 (good_both xs ys both.1)

sized : (axes : List Axis) (k : ℕ) → list_all is_good_axis axes ≡ true → 1 ≤ size_on k axes
sized [] k h = omega arith
sized (axis ∷ axes) zero h = grind (arith, nat_tests)
sized (axis ∷ axes) (suc k) h = sized axes k (and_parts (is_good_axis axis) (list_all is_good_axis axes) h).1

front_size : (xs ys : List Axis) (k : ℕ) → list_all is_good_axis (xs ++ ys) ≡ true → size_on k xs ≤ size_on k (xs ++ ys)
front_size [] ys k h = sized ys k h
front_size (x ∷ xs) ys zero h = omega arith
front_size (x ∷ xs) ys (suc k) h = front_size xs ys k (and_parts (is_good_axis x) (list_all is_good_axis (xs ++ ys)) h).1

smaller : (xs ys : List Axis) → list_all is_good_axis (xs ++ ys) ≡ true → size_of xs ≤ size_of (xs ++ ys)
smaller xs ys h =
    let all = xs ++ ys in
    mul-le (size_on 0 xs * size_on 1 xs * size_on 2 xs) (size_on 3 xs) (size_on 0 all * size_on 1 all * size_on 2 all) (size_on 3 all)
    (mul-le (size_on 0 xs * size_on 1 xs) (size_on 2 xs) (size_on 0 all * size_on 1 all) (size_on 2 all)
    (mul-le (size_on 0 xs) (size_on 1 xs) (size_on 0 all) (size_on 1 all) (front_size xs ys 0 h) (front_size xs ys 1 h)) (front_size xs ys 2 h)) (front_size xs ys 3 h)

none_bad : (axes : List Axis) → list_all is_good_axis axes ≡ true → position_or_len (λ axis. not (is_good_axis axis)) axes ≡ length axes
none_bad [] h = refl
none_bad (axis ∷ axes) h = let both = and_parts (is_good_axis axis) (list_all is_good_axis axes) h in rw both.0 (omega (arith, none_bad axes both.1))

no_bad_axis : (axes : List Axis) → list_all is_good_axis axes ≡ true → bad_axis axes ≡ None
no_bad_axis axes h =
    let past : nat_lt (position_or_len (λ axis. not (is_good_axis axis)) axes) (length axes) ≡ false = le-ltb (position_or_len (λ axis. not (is_good_axis axis)) axes) (length axes) (omega (arith, none_bad axes h)) in
    rw past refl

front_names : (past xs ys : List Axis) → repeated_after past (xs ++ ys) ≡ None → repeated_after past xs ≡ None
front_names past [] ys h = refl
front_names past (x ∷ xs) ys h = by (list_any (same_name x) past) (front_names (past ++ x ∷ []) xs ys) h
  where
    by : (b : Bool) → (repeated_after (past ++ x ∷ []) (xs ++ ys) ≡ None → repeated_after (past ++ x ∷ []) xs ≡ None) → cond b (Some (length past)) (repeated_after (past ++ x ∷ []) (xs ++ ys)) ≡ None → cond b (Some (length past)) (repeated_after (past ++ x ∷ []) xs) ≡ None
    by true more e = absurd (cc)
    by false more e = more e

none_of : (o : Option ℕ) → is_none o ≡ true → o ≡ None
none_of None h = refl
none_of (Some n) h = absurd (cc)

pub front_domain : (xs ys : List Axis) → is_domain (xs ++ ys) ≡ true → domain_of xs ≡ Ok xs
front_domain xs ys h =
    let all = xs ++ ys in
    let good = good_axes all h in
    let names = and_parts (nat_lt 0 (length all) && nat_le (length all) 4 && list_all is_good_axis all && nat_le (size_of all) (2 ^ 28)) (is_none (repeated_place all)) h in
    let fits : nat_le (size_of xs) (2 ^ 28) ≡ true = le-leb (size_of xs) (2 ^ 28) (le_trans (smaller xs ys good) (few all h)) in
    rw (no_bad_axis xs (good_both xs ys good), fits, front_names [] xs ys (none_of (repeated_place all) names.1)) refl
