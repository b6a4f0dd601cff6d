-- Lists of places, part by part.
use Rattle.std.proofs.Common.{◌≡◌, ◌≤◌, ◌+◌, ◌-◌, ◌==◌, ℕ, suc, Bool, true, false, not, nat_le, nat_lt, cond, List, [], ◌∷◌, ◌++◌, length, take, drop, map, Option, Some, None, refl, ap, sym, subst, ◌∙◌, arith, length-append}
use Rattle.std.proofs.Math.Numerals.{one-add}
use Rattle.std.specs.Prelude.{option_map, option_and_then, position, MatchOption}
use Rattle.std.specs.Borrow.{Bor}
use Rattle.std.specs.List.{position_or_len, slice_split, onto_first}
use Rattle.std.proofs.lemmas.Bool.{le-ltb, lt-leb, ltb-false, ltb-true}
use Rattle.std.proofs.lemmas.List.{take_rest}
use Rattle.std.proofs.lemmas.List.Splits.{slice_split_first}
use Rattle.helm_geo.specs.declared.spot.Spot.{Spot}
use Rattle.helm_geo.specs.Polygons.{are_spots}
use Rattle.bhv_file.specs.Values.{all_of, kept_if, spot_of_parts, spot_of_text, spots_between}

-- the parts of a text that is cut at this byte
abbrev pub parts_at : ℕ → List ℕ → List (List ℕ)
parts_at byte text = slice_split (λ b. b == byte) text

-- the first part ends where the first such byte stands
pub cut_first : (byte : ℕ) (text : List ℕ) (place : ℕ) → position (λ b. b == byte) text ≡ Some place → parts_at byte text ≡ take place text ∷ parts_at byte (take (length text - (place + 1)) (drop (place + 1) text))
cut_first byte text place is = at (nat_lt (position_or_len (λ b. b == byte) text) (length text)) refl is
  where
    first : ℕ
    first = position_or_len (λ b. b == byte) text

    at : (b : Bool) → nat_lt first (length text) ≡ b → cond b (Some first) None ≡ Some place → parts_at byte text ≡ take place text ∷ parts_at byte (take (length text - (place + 1)) (drop (place + 1) text))
    at false h e = absurd cc
    at true h e =
        let same : first ≡ place = cc in
        subst (λ n. parts_at byte text ≡ take n text ∷ parts_at byte (take (length text - (n + 1)) (drop (n + 1) text))) same
        (slice_split_first (λ b. b == byte) text 0 (ltb-true first (length text) h) ∙ ap (λ rest. take first text ∷ parts_at byte rest) (sym (take_rest text (first + 1))))

one_part : (byte : ℕ) (text : List ℕ) → nat_lt (position_or_len (λ b. b == byte) text) (length text) ≡ false → parts_at byte text ≡ text ∷ []
one_part byte [] h = refl
one_part byte (b ∷ bytes) h = at (b == byte) refl (one_part byte bytes) h
  where
    at : (same : Bool) → (b == byte) ≡ same → (nat_lt (position_or_len (λ b. b == byte) bytes) (length bytes) ≡ false → parts_at byte bytes ≡ bytes ∷ []) → nat_lt (position_or_len (λ b. b == byte) (b ∷ bytes)) (suc (length bytes)) ≡ false → parts_at byte (b ∷ bytes) ≡ (b ∷ bytes) ∷ []
    at true e rest h =
        let none : nat_lt 0 (suc (length bytes)) ≡ false = subst (λ n. nat_lt n (suc (length bytes)) ≡ false) (ap (λ c. cond (not c) (1 + position_or_len (λ b. b == byte) bytes) 0) e) h in
        absurd (omega (arith, ltb-false 0 (suc (length bytes)) none))
    at false e rest h =
        let less : nat_lt (suc (position_or_len (λ b. b == byte) bytes)) (suc (length bytes)) ≡ false = subst (λ n. nat_lt n (suc (length bytes)) ≡ false) (ap (λ c. cond (not c) (1 + position_or_len (λ b. b == byte) bytes) 0) e ∙ one-add (position_or_len (λ b. b == byte) bytes)) h in
        rw e (ap (onto_first b) (rest (le-ltb (position_or_len (λ b. b == byte) bytes) (length bytes) (omega (arith, ltb-false (suc (position_or_len (λ b. b == byte) bytes)) (suc (length bytes)) less)))))

-- without such a byte it is one part
pub cut_none : (byte : ℕ) (text : List ℕ) → position (λ b. b == byte) text ≡ None → parts_at byte text ≡ text ∷ []
cut_none byte text is = at (nat_lt (position_or_len (λ b. b == byte) text) (length text)) refl is
  where
    at : (b : Bool) → nat_lt (position_or_len (λ b. b == byte) text) (length text) ≡ b → cond b (Some (position_or_len (λ b. b == byte) text)) None ≡ None → parts_at byte text ≡ text ∷ []
    at true h e = absurd cc
    at false h e = one_part byte text h

-- what stands before the first such byte, and what stands behind it where there is one
abbrev pub CutsAt : ℕ → List ℕ → List ℕ → Option (Bor (List ℕ)) → Type 0
CutsAt byte text part behind = MatchOption behind (parts_at byte text ≡ part ∷ []) (λ rest. parts_at byte text ≡ part ∷ parts_at byte rest.now)

pub some_part : (byte : ℕ) (text : List ℕ) → (part : List ℕ) × (rest : List (List ℕ)) × (parts_at byte text ≡ part ∷ rest)
some_part byte [] = ([], [], refl)
some_part byte (b ∷ bytes) = at (b == byte) (some_part byte bytes)
  where
    at : (same : Bool) → ((part : List ℕ) × (rest : List (List ℕ)) × (parts_at byte bytes ≡ part ∷ rest)) → (part : List ℕ) × (rest : List (List ℕ)) × (cond same ([] ∷ parts_at byte bytes) (onto_first b (parts_at byte bytes)) ≡ part ∷ rest)
    at true h = ([], parts_at byte bytes, refl)
    at false h = (b ∷ h.0, h.1, ap (onto_first b) h.2)

-- three and more parts are no place
pub two_commas : (x y behind : List ℕ) (two : Option (Bor (List ℕ))) (rest : Bor (List ℕ)) → CutsAt 44 behind y two → two ≡ Some rest → None ≡ spot_of_parts (x ∷ parts_at 44 behind)
two_commas x y behind two rest cut is =
    let last = some_part 44 rest.now in
    sym (ap (λ parts. spot_of_parts (x ∷ parts)) (subst (CutsAt 44 behind y) is cut ∙ ap (λ parts. y ∷ parts) last.2))

-- the places of what is left of a list, where there is something
abbrev pub rest_of : Option (Bor (List ℕ)) → Option (List Spot)
rest_of None = Some []
rest_of (Some left) = spots_between left.now

-- these places, and then those of the rest
abbrev pub joined : List Spot → Option (List Spot) → Option (List Spot)
joined spots rest = option_map (λ more. spots ++ more) rest

-- so many places were read of a text, and this is left
pub record IsListed (text : List ℕ) (spots : List Spot) (left : Option (Bor (List ℕ))) : Type 0 where
  pub whole : spots_between text ≡ joined spots (rest_of left)
  pub few : length spots ≤ 64
  pub within : are_spots spots ≡ true

-- the first place of what is left, and those behind it
first_of : (left part : List ℕ) (behind : Option (Bor (List ℕ))) → CutsAt 58 left part behind → spots_between left ≡ option_and_then (λ x. option_map (λ xs. x ∷ xs) (rest_of behind)) (spot_of_text part)
first_of left part None cut = ap (λ parts. all_of (map spot_of_text parts)) cut
first_of left part (Some rest) cut = ap (λ parts. all_of (map spot_of_text parts)) cut

abbrev pub few_of : Option (List Spot) → Option (List Spot)
few_of spots = kept_if (λ spots. nat_le (length spots) 64) spots

-- a place too many
too_many : (spots : List Spot) (spot : Spot) (rest : Option (List Spot)) → 64 ≤ length spots → few_of (joined spots (option_map (λ xs. spot ∷ xs) rest)) ≡ None
too_many spots spot None many = refl
too_many spots spot (Some more) many = rw (lt-leb (length (spots ++ spot ∷ more)) 64 (omega (arith, many, length-append spots (spot ∷ more)))) refl

pub many_listed : (text left part : List ℕ) (behind old : Option (Bor (List ℕ))) (spots : List Spot) (spot : Spot) → IsListed text spots old → rest_of old ≡ spots_between left → CutsAt 58 left part behind → Some spot ≡ spot_of_text part → 64 ≤ length spots → None ≡ few_of (spots_between text)
many_listed text left part behind old spots spot listed same cut is many =
    sym (ap few_of (listed.whole ∙ ap (joined spots) (same ∙ first_of left part behind cut ∙ ap (option_and_then (λ x. option_map (λ xs. x ∷ xs) (rest_of behind))) (sym is))) ∙ too_many spots spot (rest_of behind) many)
