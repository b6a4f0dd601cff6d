-- The first lines of two missions, worked by hand from the generator's definition.
use Rattle.std.proofs.Common.{◌≡◌, ℕ, List, [], ◌∷◌, map, refl}
use Rattle.std.specs.Prelude.{pos, negsuc, codes}
use Rattle.moos_post.specs.declared.entry.Call.TheVariants.{Post as Posts, Fetch}
use Rattle.moos_post.specs.declared.entry.Entry.{Entry}
use Rattle.rand_pcg.specs.Lcg.{state_after}
use Rattle.mission_maker.specs.Draws.{draw, generator_behind}
use Rattle.mission_maker.specs.Generated.{line_at, position_told, saying, talk, turns, whole_number}

-- draws of 3 in their order
intervals_of_7 : map (λ k. draw 7 k 3) (0 ∷ 1 ∷ 2 ∷ 3 ∷ 4 ∷ 5 ∷ 6 ∷ 7 ∷ []) ≡ 0 ∷ 1 ∷ 2 ∷ 2 ∷ 1 ∷ 1 ∷ 2 ∷ 2 ∷ []
unfolding draw generator_behind state_after
intervals_of_7 = refl

intervals_of_0 : map (λ k. draw 0 k 3) (0 ∷ 1 ∷ 2 ∷ 3 ∷ 4 ∷ 5 ∷ 6 ∷ 7 ∷ []) ≡ 1 ∷ 1 ∷ 1 ∷ 0 ∷ 0 ∷ 1 ∷ 1 ∷ 1 ∷ []
unfolding draw generator_behind state_after
intervals_of_0 = refl

abbrev talks : ℕ → ℕ → List ℕ → ℕ → Entry
talks stamp client var n = line_at stamp client (Posts (saying var (whole_number (pos n)) ∷ []))

first_turns_of_7 : turns 7 0 8
    ≡ talks 100 0 (codes "V7") 233 ∷ talks 200 1 (codes "V12") 251 ∷ talks 300 2 (codes "V3") 298 ∷ talks 400 3 (codes "V13") 969
    ∷ talks 500 4 (codes "V10") 648 ∷ line_at 501 4 Fetch ∷ talks 600 5 (codes "V14") 997 ∷ line_at 601 5 Fetch ∷ talks 700 6 (codes "V3") 185
    ∷ line_at 701 6 Fetch ∷ talks 800 7 (codes "V0") 428 ∷ []
unfolding turns draw generator_behind state_after
first_turns_of_7 = refl

first_position_of_7 : position_told 7 0 ≡ line_at 950 8 (Posts (saying (codes "NAV_X") (whole_number (pos 108)) ∷ saying (codes "NAV_Y") (whole_number (negsuc 133)) ∷ []))
unfolding draw generator_behind state_after
first_position_of_7 = refl

next_turn_of_7 : talk 7 1 0 ≡ talks 1100 0 (codes "V4") 738
unfolding draw generator_behind state_after
next_turn_of_7 = refl
