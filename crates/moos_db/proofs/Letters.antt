-- A mail is told by the numbers of its posts.
use Rattle.std.proofs.Common.{◌≡◌, ℕ, List, [], ◌∷◌, ◌++◌, length, map, Some, refl, ap, ◌∙◌, arith}
use Rattle.std.specs.Prelude.{option_to_list}
use Rattle.moos_post.specs.declared.value.Post.{Post}
use Rattle.moos_db.specs.declared.mail.Letter.{Letter}
use Rattle.moos_db.specs.Database.{AreLetters, letter_at, letters_at}

-- the mail that is the posts with these numbers is the letters at these numbers
pub letters_are : (posts : List Post) (numbers : List ℕ) (mail : List Letter) → AreLetters posts numbers mail → mail ≡ letters_at posts numbers
letters_are posts [] [] are = refl
letters_are posts [] (letter ∷ mail) are = absurd (omega (arith, ap length are))
letters_are posts (number ∷ numbers) [] are = absurd (omega (arith, ap length are))
letters_are posts (number ∷ numbers) (letter ∷ mail) are =
    let first : Some letter ≡ letter_at posts number = cc in
    let rest : map (λ letter. Some letter) mail ≡ map (letter_at posts) numbers = cc in
    ap (λ mail. letter ∷ mail) (letters_are posts numbers mail rest) ∙ ap (λ front. option_to_list front ++ letters_at posts numbers) first
