use Rattle.std.proofs.Common.{◌≡◌, ℕ, ◌+◌, ◌/◌, ◌%◌, List, [], ◌∷◌, drop, length, set, ap, ◌∙◌, arith, rules, length-set}
use Rattle.std.proofs.lemmas.List.{drop-set, drop_all}
use Rattle.moos_text.proofs.milli_text.write_decimals.Goals as goal

-- the last of 24 bytes, written from the last to the first
last_two : (xs : List ℕ) (a b : ℕ) → length xs ≡ 24 → drop 22 (set (set xs 23 b) 22 a) ≡ a ∷ b ∷ []
last_two xs a b long =
    drop-set (set xs 23 b) 22 a (omega (arith, length-set xs 23 b))
    ∙ ap (λ rest. a ∷ rest) (drop-set xs 23 b (omega arith) ∙ ap (λ rest. b ∷ rest) (drop_all 24 xs (omega arith)))

last_three : (xs : List ℕ) (a b c : ℕ) → length xs ≡ 24 → drop 21 (set (set (set xs 23 c) 22 b) 21 a) ≡ a ∷ b ∷ c ∷ []
last_three xs a b c long =
    drop-set (set (set xs 23 c) 22 b) 21 a (omega (arith, length-set (set xs 23 c) 22 b, length-set xs 23 c)) ∙ ap (λ rest. a ∷ rest) (last_two xs b c long)

last_four : (xs : List ℕ) (a b c d : ℕ) → length xs ≡ 24 → drop 20 (set (set (set (set xs 23 d) 22 c) 21 b) 20 a) ≡ a ∷ b ∷ c ∷ d ∷ []
last_four xs a b c d long =
    drop-set (set (set (set xs 23 d) 22 c) 21 b) 20 a
    (omega (arith, length-set (set (set xs 23 d) 22 c) 21 b, length-set (set xs 23 d) 22 c, length-set xs 23 d))
    ∙ ap (λ rest. a ∷ rest) (last_three xs b c d long)

pub returns-then-rest-eq0-2-clause-text : goal.returns-then-rest-eq0-2-clause-text
returns-then-rest-eq0-2-clause-text c =
    last_two c.args.buffer.now 46 (48 + c.args.rest / 100) (omega arith) ∙ search rules

pub returns-then-rest-eq0-3-clause-text : goal.returns-then-rest-eq0-3-clause-text
returns-then-rest-eq0-3-clause-text c =
    last_three c.args.buffer.now 46 (48 + c.args.rest / 100) (48 + c.args.rest / 10 % 10) (omega arith) ∙ search rules

pub returns-clause-text : goal.returns-clause-text
returns-clause-text c =
    last_four c.args.buffer.now 46 (48 + c.args.rest / 100) (48 + c.args.rest / 10 % 10) (48 + c.args.rest % 10) (omega arith)
    ∙ search rules
