-- The same input, the same iterations: of two histories.
use Rattle.std.specs.Prelude.{◌≡◌, ℕ, List, map, take}
use Rattle.helm_core.specs.Plans.{Plan}
use Rattle.helm_laws.specs.Inputs.{input_of}
use Rattle.moos_play.specs.Lawful.{heard_of, iterations_of}
use Rattle.moos_post.specs.History.{History}

-- Two helms of one plan, each in its history, that heard the same at their first n ticks have the same iterations there, whoever else was
-- in these histories, and whatever happened behind.
abbrev pub SameInputSameIterations : Type 0
SameInputSameIterations = (plan : Plan) (names others : List (List ℕ)) (client other : ℕ) (history past : History) (n : ℕ)
    → map input_of (take n (heard_of names client history)) ≡ map input_of (take n (heard_of others other past))
    → iterations_of plan (heard_of names client history) n ≡ iterations_of plan (heard_of others other past) n
