-- The nearest vertex, vertex by vertex.
use Rattle.std.proofs.Common.{◌≡◌, ◌+◌, ℕ, zero, suc, List, [], ◌∷◌, ◌++◌, refl, ap, ◌∙◌, arith}
use Rattle.std.specs.Prelude.{fold}
use Rattle.std.specs.List.{range_with_len}
use Rattle.helm_geo.specs.declared.spot.Spot.{Spot}
use Rattle.bhv_kinds.specs.Targets.{nearer_vertex}

-- one number more
range_more : (from count : ℕ) → range_with_len from (suc count) ≡ range_with_len from count ++ (from + count) ∷ []
range_more from zero = rw (zero_more from) refl
  where
    zero_more : (n : ℕ) → n + 0 ≡ n
    zero_more n = omega arith
range_more from (suc count) = ap (λ rest. from ∷ rest) (range_more (from + 1) count ∙ ap (λ n. range_with_len (from + 1) count ++ n ∷ []) (again from count))
  where
    again : (from count : ℕ) → from + 1 + count ≡ from + suc count
    again from count = omega arith

-- folding goes on by one item
fold_more : {A B : Type 0} (f : B → A → B) (b : B) (xs : List A) (x : A) → fold f b (xs ++ x ∷ []) ≡ f (fold f b xs) x
fold_more f b [] x = refl
fold_more f b (y ∷ ys) x = fold_more f (f b y) ys x

-- so is the nearest of one vertex more the nearer of two
pub nearest_more : (polygon : List Spot) (here : Spot) (count : ℕ) → fold (nearer_vertex polygon here) 0 (range_with_len 0 (count + 1)) ≡ nearer_vertex polygon here (fold (nearer_vertex polygon here) 0 (range_with_len 0 count)) count
nearest_more polygon here count =
    ap (λ n. fold (nearer_vertex polygon here) 0 (range_with_len 0 n)) (suc_of count) ∙ ap (fold (nearer_vertex polygon here) 0) (range_more 0 count ∙ ap (λ n. range_with_len 0 count ++ n ∷ []) (from_none count))
    ∙ fold_more (nearer_vertex polygon here) 0 (range_with_len 0 count) count
  where
    suc_of : (n : ℕ) → n + 1 ≡ suc n
    suc_of n = omega arith

    from_none : (n : ℕ) → 0 + n ≡ n
    from_none n = omega arith
