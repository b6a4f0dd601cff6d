-- Bytes that are two parts, one behind the other.
use Rattle.std.proofs.Common.{◌≡◌, ℕ, List, ◌++◌, length, take, drop, refl, sym, ap, ◌∙◌}
use Rattle.std.proofs.lemmas.List.{drop_at, take-append-drop, take_at}

pub parts_joined : (bytes front behind : List ℕ) → take (length front) bytes ≡ front → drop (length front) bytes ≡ behind → bytes ≡ front ++ behind
parts_joined bytes front behind one other =
    sym (take-append-drop (length front) bytes) ∙ ap (λ part. part ++ drop (length front) bytes) one ∙ ap (λ part. front ++ part) other

pub joined_parts : (bytes front behind : List ℕ) → bytes ≡ front ++ behind → (take (length front) bytes ≡ front) × (drop (length front) bytes ≡ behind)
joined_parts bytes front behind is = (ap (take (length front)) is ∙ take_at front behind (length front) refl, ap (drop (length front)) is ∙ drop_at front behind (length front) refl)
