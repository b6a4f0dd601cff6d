-- Lists that are filled up to a fixed length, and the first place that fails a test.
use Rattle.std.proofs.Common.{◌≡◌, ℕ, ◌+◌, ◌-◌, Bool, true, false, not, cond, ◌&&◌, Some, None, List, [], ◌∷◌, ◌++◌, length, take, replicate, refl, ap, ◌∙◌, arith, ◌<◌, get_or, length-take}
use Rattle.std.specs.List.{list_all, position_from, slice_get}
use Rattle.std.proofs.Math.Seq.{take-append_seam}
use Rattle.std.proofs.lemmas.List.{get_or-take}
use Rattle.std.proofs.lemmas.Option.{slice_get-get_or}
use Rattle.ivp_domain.specs.Filled.{IsFilled}

-- what a filled array keeps of its list
pub kept : {A : Type 0} (P : List A → Type 0) (xs all : List A) (m : ℕ) (d : A) → all ≡ xs ++ replicate (m - length xs) d → P xs → P (take (length xs) all) × IsFilled m d (length xs) all
kept P xs all m d e h =
    let t : take (length xs) all ≡ xs = ap (take (length xs)) e ∙ take-append_seam xs (replicate (m - length xs) d) in
    rw t (h, (refl, e))

-- where none fails, all pass
pub none_fails : {X : Type 0} (p : X → Bool) (xs : List X) (i : ℕ) → position_from (λ x. not (p x)) i xs ≡ None → list_all p xs ≡ true
none_fails p [] i h = refl
none_fails p (x ∷ xs) i h =
    elim (p x) as (λ b. cond (not b) (Some i) (position_from (λ y. not (p y)) (i + 1) xs) ≡ None → (b && list_all p xs) ≡ true) [ true ↦ λ rest. none_fails p xs (i + 1) rest | false ↦ λ found. absurd (cc) ] h

-- what stands at a place of the front
pub slice_get-take : {A : Type 0} (all : List A) (n k : ℕ) (d : A) → k < length (take n all) → slice_get (take n all) k ≡ Some (get_or all k d)
slice_get-take all n k d h =
    let within : k < n = omega (arith, h, length-take n all) in
    slice_get-get_or (take n all) k d h ∙ ap Some (get_or-take n all k d within)
