-- Lists by parts: the texts of a part and of what is left behind it, and those of one chunk after another.
use Rattle.std.proofs.Common.{◌≡◌, ℕ, ◌+◌, ◌*◌, List, ◌++◌, flat_map, take, drop, refl, sym, ap, ◌∙◌, arith, take-append-drop}
use Rattle.std.proofs.lemmas.List.{drop-drop}
use Rattle.std.proofs.lemmas.Grind.{flat_map-append}

-- a part, and what is left behind it
pub parted : {X : Type 0} (text : X → List ℕ) (n : ℕ) (xs part later : List X) → part ≡ take n xs → later ≡ drop n xs → flat_map text xs ≡ flat_map text part ++ flat_map text later
parted text n xs part later front back = rw (front, back) (ap (flat_map text) (sym (take-append-drop n xs)) ∙ flat_map-append text (take n xs) (drop n xs))

-- a chunk, and the chunks behind it
pub chunked : {X : Type 0} (text : X → List ℕ) (number : ℕ) (xs : List X) → flat_map text (drop (number * 16384) xs) ≡ flat_map text (take 16384 (drop (number * 16384) xs)) ++ flat_map text (drop ((number + 1) * 16384) xs)
chunked text number xs =
    let next : number * 16384 + 16384 ≡ (number + 1) * 16384 = omega arith in
    parted text 16384 (drop (number * 16384) xs) _ _ refl (sym (drop-drop 16384 (number * 16384) xs ∙ ap (λ n. drop n xs) next))
