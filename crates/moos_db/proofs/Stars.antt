-- What a pattern that is a star alone matches.
use Rattle.std.proofs.Common.{◌≡◌, ◌≤◌, ◌<◌, ℕ, true, List, [], ◌∷◌, get_or, length, refl, ap, sym, ◌∙◌, arith}
use Rattle.moos_post.specs.Patterns.{matches}

star-matches : (source : List ℕ) → matches (42 ∷ []) source ≡ true
star-matches [] = refl
star-matches (byte ∷ source) = star-matches source

pub lone_star-matches : (pattern source : List ℕ) → 1 ≤ length pattern → length pattern < 2 → get_or pattern 0 0 ≡ 42 → true ≡ matches pattern source
lone_star-matches [] source least most star = absurd (omega (arith, least))
lone_star-matches (sign ∷ []) source least most star = sym (ap (λ one. matches (one ∷ []) source) star ∙ star-matches source)
lone_star-matches (sign ∷ second ∷ rest) source least most star = absurd (omega (arith, most))
