-- Iterations over the same input.
use Rattle.std.proofs.Common.{◌≡◌, ℕ, zero, suc, ◌≤◌, List, [], ◌∷◌, ◌++◌, map, take, refl, sym, ap, ◌∙◌, arith}
use Rattle.helm_core.specs.Iterations.{iteration_at}
use Rattle.helm_core.specs.Plans.{Plan}
use Rattle.helm_core.specs.Ticks.{Tick}
use Rattle.helm_laws.specs.Files.{OfEveryPlan}
use Rattle.helm_laws.specs.Inputs.{input_of, SameInputSameIteration}
use Rattle.moos_play.specs.Lawful.{heard_of, iterations_of}
use Rattle.crew_laws.specs.Inputs.{SameInputSameIterations}

take_map : (n : ℕ) (ticks : List Tick) → map input_of (take n ticks) ≡ take n (map input_of ticks)
take_map zero [] = refl
take_map zero (tick ∷ ticks) = refl
take_map (suc n) [] = refl
take_map (suc n) (tick ∷ ticks) = ap (λ rest. input_of tick ∷ rest) (take_map n ticks)

none_taken : {A : Type 0} (xs : List A) → take zero xs ≡ []
none_taken [] = refl
none_taken (x ∷ xs) = refl

twice : {A : Type 0} (m n : ℕ) (xs : List A) → m ≤ n → take m (take n xs) ≡ take m xs
twice zero n xs less = none_taken (take n xs) ∙ sym (none_taken xs)
twice (suc m) zero xs less = absurd (omega (arith, less))
twice (suc m) (suc n) [] less = refl
twice (suc m) (suc n) (x ∷ xs) less = ap (λ rest. x ∷ rest) (twice m n xs (omega (arith, less)))

-- what is the same for n ticks is so for fewer
fewer : {A : Type 0} (m n : ℕ) (xs ys : List A) → m ≤ n → take n xs ≡ take n ys → take m xs ≡ take m ys
fewer m n xs ys less same = sym (twice m n xs less) ∙ ap (take m) same ∙ twice m n ys less

repeats : OfEveryPlan SameInputSameIteration → (plan : Plan) (ticks others : List Tick) (n m : ℕ) → m ≤ n → take n (map input_of ticks) ≡ take n (map input_of others) → iterations_of plan ticks m ≡ iterations_of plan others m
repeats law plan ticks others n zero less same = refl
repeats law plan ticks others n (suc m) less same =
    ap (λ front. front ++ iteration_at plan ticks m ∷ []) (repeats law plan ticks others n m (omega arith) same)
    ∙ ap (λ iteration. iterations_of plan others m ++ iteration ∷ [])
    (law plan ticks others m (take_map (suc m) ticks ∙ fewer (suc m) n (map input_of ticks) (map input_of others) less same ∙ sym (take_map (suc m) others)))

pub same_iterations : OfEveryPlan SameInputSameIteration → SameInputSameIterations
same_iterations law plan names others client other history past n same =
    repeats law plan (heard_of names client history) (heard_of others other past) n n (omega arith) (sym (take_map n (heard_of names client history)) ∙ same ∙ take_map n (heard_of others other past))
