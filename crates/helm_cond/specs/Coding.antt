-- Conditions as rows of symbols, each operator behind what it joins: by these a proof tells two conditions apart.
use Rattle.std.specs.Prelude.{◌≡◌, List, [], ◌∷◌, ◌++◌, fold}
use Rattle.std.specs.Coded.{Coded, code_by, coded_list}
use Rattle.std.proofs.Common.{refl, ap, ◌∙◌}
use Rattle.std.proofs.lemmas.List.Sums.{fold-append}
use Rattle.helm_cond.specs.declared.symbol.Symbol.{Symbol}
use Rattle.helm_cond.specs.declared.symbol.Symbol.TheVariants.{Open, Close, Not as NotWord, And as AndWord, Or as OrWord, Test}
use Rattle.helm_cond.specs.Conditions.{Condition, Compare, Not, And, Or}
use Rattle.helm_cond.specs.KeptConditions.{no_condition}

-- the row of a condition
abbrev pub postfix : Condition → List Symbol
postfix (Compare comparison) = Test comparison ∷ []
postfix (Not one) = postfix one ++ NotWord ∷ []
postfix (And one other) = (postfix one ++ postfix other) ++ AndWord ∷ []
postfix (Or one other) = (postfix one ++ postfix other) ++ OrWord ∷ []

-- the conditions that a row has made, the last first, after one more symbol
abbrev pub rebuilt : List Condition → Symbol → List Condition
rebuilt made (Test comparison) = Compare comparison ∷ made
rebuilt [] NotWord = []
rebuilt (one ∷ made) NotWord = Not one ∷ made
rebuilt [] AndWord = []
rebuilt (one ∷ []) AndWord = one ∷ []
rebuilt (other ∷ one ∷ made) AndWord = And one other ∷ made
rebuilt [] OrWord = []
rebuilt (one ∷ []) OrWord = one ∷ []
rebuilt (other ∷ one ∷ made) OrWord = Or one other ∷ made
rebuilt made Open = made
rebuilt made Close = made

-- the last condition
abbrev pub last_made : List Condition → Condition
last_made [] = no_condition
last_made (one ∷ made) = one

-- the condition of a row
abbrev pub condition_by : List Symbol → Condition
condition_by row = last_made (fold rebuilt [] row)

-- a row makes its condition again
pub remade : (one : Condition) (made : List Condition) → fold rebuilt made (postfix one) ≡ one ∷ made
remade (Compare comparison) made = refl
remade (Not one) made = fold-append rebuilt made (postfix one) (NotWord ∷ []) ∙ ap (λ before. rebuilt before NotWord) (remade one made)
remade (And one other) made =
    fold-append rebuilt made (postfix one ++ postfix other) (AndWord ∷ [])
    ∙ ap (λ before. rebuilt before AndWord) (fold-append rebuilt made (postfix one) (postfix other) ∙ ap (λ before. fold rebuilt before (postfix other)) (remade one made) ∙ remade other (one ∷ made))
remade (Or one other) made =
    fold-append rebuilt made (postfix one ++ postfix other) (OrWord ∷ [])
    ∙ ap (λ before. rebuilt before OrWord) (fold-append rebuilt made (postfix one) (postfix other) ∙ ap (λ before. fold rebuilt before (postfix other)) (remade one made) ∙ remade other (one ∷ made))

-- the code of conditions, by that of symbols
abbrev pub condition_code : Coded Symbol → Coded Condition
condition_code symbol = code_by (List Symbol) (coded_list symbol) postfix condition_by (λ one. ap last_made (remade one []))
