-- The draws, and the lists of lines that grow by them.
use Rattle.std.proofs.Common.{◌≡◌, ℕ, ◌+◌, ◌<◌, List, ◌++◌, ◌∷◌, [], refl, arith, add-one, ap, sym, ◌∙◌, append_assoc}
use Rattle.moos_post.specs.declared.entry.Entry.{Entry}
use Rattle.mission_maker.specs.Draws.{draw}
use Rattle.mission_maker.specs.Generated.{fetch_behind, position_told, registration, registrations, seconds, talk, turns}

-- a draw is below what is drawn from
pub draw_below : (number draws n : ℕ) → 0 < n → draw number draws n < n
unfolding draw
draw_below number draws n some = omega arith

pub registrations_more : (number k : ℕ) → registrations number (k + 1) ≡ registrations number k ++ registration number k ∷ []
unfolding registrations
registrations_more number k = ap (registrations number) (add-one k)

pub turns_more : (number second k : ℕ) → turns number second (k + 1) ≡ turns number second k ++ talk number second k ∷ fetch_behind number second k
unfolding turns
turns_more number second k = ap (turns number second) (add-one k)

pub seconds_more : (number second : ℕ) → seconds number (second + 1) ≡ seconds number second ++ turns number second 8 ++ position_told number second ∷ []
unfolding seconds
seconds_more number second = ap (seconds number) (add-one second)

pub registrations_none : (number : ℕ) → registrations number 0 ≡ []
unfolding registrations
registrations_none number = refl

pub turns_none : (number second : ℕ) → turns number second 0 ≡ []
unfolding turns
turns_none number second = refl

pub seconds_none : (number : ℕ) → seconds number 0 ≡ []
unfolding seconds
seconds_none number = refl

-- one turn more, behind what was there
pub turns_on : (number second k : ℕ) (front before posted after : List Entry) → before ≡ front ++ turns number second k → posted ≡ before ++ talk number second k ∷ []
    → after ≡ posted ++ fetch_behind number second k → after ≡ front ++ turns number second (k + 1)
turns_on number second k front before posted after so one fetched =
    fetched ∙ ap (λ lines. lines ++ fetch_behind number second k) (one ∙ ap (λ lines. lines ++ talk number second k ∷ []) so)
    ∙ append_assoc (front ++ turns number second k) (talk number second k ∷ []) (fetch_behind number second k)
    ∙ append_assoc front (turns number second k) (talk number second k ∷ fetch_behind number second k) ∙ ap (λ lines. front ++ lines) (sym (turns_more number second k))

-- one second more, behind what was there
pub seconds_on : (number second : ℕ) (front before talked after : List Entry) → before ≡ front ++ seconds number second → talked ≡ before ++ turns number second 8
    → after ≡ talked ++ position_told number second ∷ [] → after ≡ front ++ seconds number (second + 1)
seconds_on number second front before talked after so turned told =
    told ∙ ap (λ lines. lines ++ position_told number second ∷ []) (turned ∙ ap (λ lines. lines ++ turns number second 8) so ∙ append_assoc front (seconds number second) (turns number second 8))
    ∙ append_assoc front (seconds number second ++ turns number second 8) (position_told number second ∷ []) ∙ ap (λ lines. front ++ lines) (sym (seconds_more number second))
