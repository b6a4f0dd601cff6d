-- Two lists that are related place by place.
use Rattle.std.proofs.Common.{◌≡◌, ℕ, zero, suc, Bool, not, if◌then◌else◌, length, ◌+◌, ◌<◌, List, [], ◌∷◌, ◌++◌, take, Some, None, refl, ap, subst, ◌∙◌, arith}
use Rattle.std.specs.Prelude.{slice_get, slice_set, nat_lt, position}
use Rattle.std.specs.List.{All, AllZip, position_or_len}
use Rattle.std.proofs.lemmas.Option.{get_or_from_slice_get, slice_get_within}
use Rattle.std.proofs.lemmas.Slice.Zip.{AllZip-long}

-- what one is related to stands at its place
pub related_at : {A B : Type 0} (R : A → B → Type 0) (xs : List A) (ys : List B) (k : ℕ) (y : B) → AllZip R xs ys → slice_get ys k ≡ Some y → (x : A) × (slice_get xs k ≡ Some x) × R x y
related_at R [] [] k y all at = absurd (let e : None ≡ Some y = at in cc)
related_at R [] (other ∷ ys) k y all at = absurd all
related_at R (x ∷ xs) [] k y all at = absurd all
related_at R (x ∷ xs) (other ∷ ys) zero y all at = let e : Some other ≡ Some y = at in let same : other ≡ y = cc in (x, refl, subst (R x) same all.0)
related_at R (x ∷ xs) (other ∷ ys) (suc k) y all at = related_at R xs ys k y all.1 at

-- both get others at one place
pub set_in_both : {A B : Type 0} (R : A → B → Type 0) (xs : List A) (ys : List B) (k : ℕ) (x : A) (y : B) → AllZip R xs ys → R x y → AllZip R (slice_set xs k x) (slice_set ys k y)
set_in_both R [] [] k x y all is = tt
set_in_both R [] (other ∷ ys) k x y all is = absurd all
set_in_both R (one ∷ xs) [] k x y all is = absurd all
set_in_both R (one ∷ xs) (other ∷ ys) zero x y all is = (is, all.1)
set_in_both R (one ∷ xs) (other ∷ ys) (suc k) x y all is = (all.0, set_in_both R xs ys k x y all.1 is)

same_place_or_len : {A B : Type 0} (R : A → B → Type 0) (p : A → Bool) (q : B → Bool) → ((x : A) (y : B) → R x y → q y ≡ p x) → (xs : List A) (ys : List B) → AllZip R xs ys → position_or_len q ys ≡ position_or_len p xs
same_place_or_len R p q same [] [] all = refl
same_place_or_len R p q same [] (y ∷ ys) all = absurd all
same_place_or_len R p q same (x ∷ xs) [] all = absurd all
same_place_or_len R p q same (x ∷ xs) (y ∷ ys) all =
    ap (λ found. if not found then 1 + position_or_len q ys else 0) (same x y all.0) ∙ ap (λ place. if not (p x) then 1 + place else 0) (same_place_or_len R p q same xs ys all.1)

-- tests that agree find one place
pub same_place : {A B : Type 0} (R : A → B → Type 0) (p : A → Bool) (q : B → Bool) → ((x : A) (y : B) → R x y → q y ≡ p x) → (xs : List A) (ys : List B) → AllZip R xs ys → position q ys ≡ position p xs
same_place R p q same xs ys all =
    ap (λ place. if nat_lt place (length ys) then Some place else None) (same_place_or_len R p q same xs ys all)
    ∙ ap (λ long. if nat_lt (position_or_len p xs) long then Some (position_or_len p xs) else None) (AllZip-long R xs ys all)

-- one item more of the first so many
pub take_next : {A : Type 0} (xs : List A) (k : ℕ) (x : A) → slice_get xs k ≡ Some x → take (suc k) xs ≡ take k xs ++ x ∷ []
take_next [] k x at = absurd (let e : None ≡ Some x = at in cc)
take_next (first ∷ xs) zero x at = let e : Some first ≡ Some x = at in let same : first ≡ x = cc in ap (λ it. it ∷ []) same
take_next (first ∷ xs) (suc k) x at = ap (λ rest. first ∷ rest) (take_next xs k x at)

-- an item stands at each place
pub item_there : {A : Type 0} (xs : List A) (k : ℕ) → k < length xs → (x : A) × (slice_get xs k ≡ Some x)
item_there [] k within = absurd (omega (arith, within))
item_there (x ∷ xs) zero within = (x, refl)
item_there (x ∷ xs) (suc k) within = item_there xs k (omega arith)

-- what holds of all holds of the one at a place
pub holds_at : {A : Type 0} (P : A → Type 0) (xs : List A) (k : ℕ) (x : A) → slice_get xs k ≡ Some x → All P xs → P x
holds_at P xs k x at all = subst P (get_or_from_slice_get xs k x x at) (all k x (slice_get_within xs k x at))
