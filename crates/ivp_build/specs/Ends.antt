-- Where the cuts of a shape end, by arithmetic: each number is the place behind a cut, and one that is no greater than
-- the number before it ends none.
use Rattle.std.specs.Prelude.{ℕ, ◌+◌, ◌-◌, ◌/◌, nat_lt, if◌then◌else◌, min, max, List, [], ◌∷◌, slice_index}
use Rattle.ivp_build.specs.declared.crest.Crest.{Crest}
use Rattle.ivp_build.specs.declared.crest.Crest.TheVariants.{At, Round, UpTo, From}
use Rattle.ivp_build.specs.declared.slopes.Slopes.{Slopes}
use Rattle.ivp_build.specs.Cuts.{Run}

-- the runs that end before these places, the first beginning at `low`
abbrev pub runs_by : ℕ → List ℕ → List Run
runs_by low [] = []
runs_by low (end ∷ ends) = if nat_lt low end then record { low = low; high = end - 1 } ∷ runs_by end ends else runs_by low ends

-- the ends of the three zones over the places from `low` to before `until`, if `low` is `away` from the crest and each
-- next place is one farther
abbrev pub falling_ends : Slopes → ℕ → ℕ → ℕ → List ℕ
falling_ends s low away until = min (low + (s.top + 1 - away)) until ∷ min (low + (s.top + s.foot + 1 - away)) until ∷ until ∷ []

-- the ends over such places if `until` is `away` from the crest and each place before is one farther
abbrev pub rising_ends : Slopes → ℕ → ℕ → ℕ → List ℕ
rising_ends s low away until = max (until - (s.top + s.foot - away)) low ∷ max (until - (s.top - away)) low ∷ until ∷ []

-- three times three ends in one list
abbrev pub nine : List ℕ → List ℕ → List ℕ → List ℕ
nine a b c =
    slice_index a 0 ∷ slice_index a 1 ∷ slice_index a 2 ∷ slice_index b 0 ∷ slice_index b 1 ∷ slice_index b 2 ∷ slice_index c 0 ∷ slice_index c 1
    ∷ slice_index c 2 ∷ []

-- no further end
abbrev pub none_after : ℕ → List ℕ
none_after count = count ∷ count ∷ count ∷ []

-- the ends round a circle of `count` places: behind `far`, half way round from the summit, the left side begins
abbrev pub round_ends : Slopes → ℕ → ℕ → List ℕ
round_ends s summit count =
    let far = summit + count / 2 in
    if nat_lt far count then nine (rising_ends s 0 0 summit) (falling_ends s summit 0 (far + 1)) (rising_ends s (far + 1) summit count)
    else nine (falling_ends s 0 (count - summit) (far + 1 - count)) (rising_ends s (far + 1 - count) 0 summit) (falling_ends s summit 0 count)

-- the ends along an axis of `count` places
abbrev pub cut_ends : Slopes → ℕ → Crest → List ℕ
cut_ends s count (At summit) = nine (rising_ends s 0 0 summit) (falling_ends s summit 0 count) (none_after count)
cut_ends s count (Round summit places) = round_ends s summit count
cut_ends s count (UpTo last) = nine (falling_ends s last 0 count) (none_after count) (none_after count)
cut_ends s count (From first) = nine (rising_ends s 0 0 first) (none_after count) (none_after count)
