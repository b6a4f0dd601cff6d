-- How a list is dealt among workers, in turn.
use Rattle.std.specs.Prelude.{ℕ, zero, suc, ◌-◌, List, [], ◌∷◌, map}
use Rattle.ivp_domain.specs.Boxes.{numbers_from}

-- what one of `workers` workers gets, who waits while `wait` others get one each
abbrev pub dealt_to : {A : Type 0} → ℕ → ℕ → List A → List A
dealt_to workers wait [] = []
dealt_to workers zero (x ∷ xs) = x ∷ dealt_to workers (workers - 1) xs
dealt_to workers (suc wait) (x ∷ xs) = dealt_to workers wait xs

-- what each of `workers` workers gets: worker 0 waits for nobody, and every other one for those before it
abbrev pub dealt : {A : Type 0} → ℕ → List A → List (List A)
dealt workers xs = map (λ number. dealt_to workers number xs) (numbers_from 0 workers)
