-- The pairs of a batch, in the two ways in which it keeps them.
use Rattle.std.specs.Prelude.{List, [], ◌∷◌}
use Rattle.moos_post.specs.declared.batch.Kept.{Kept}
use Rattle.moos_post.specs.declared.batch.Kept.TheVariants.{One, Several}
use Rattle.moos_post.specs.declared.value.Pair.{Pair}

-- the pairs, in order
abbrev pub pairs_of : Kept → List Pair
pairs_of (One pair) = pair ∷ []
pairs_of (Several pairs) = pairs
