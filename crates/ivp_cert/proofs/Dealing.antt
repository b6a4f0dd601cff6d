-- What is dealt in turn, one after the other, and taken back in turn.
use Rattle.std.proofs.Common.{◌≡◌, ℕ, zero, suc, ◌+◌, ◌-◌, ◌<◌, ◌≤◌, List, [], ◌∷◌, ◌++◌, length, map, flat_map, take, drop, get_or, set, refl, subst, sym, ap, ◌∙◌, arith, add-one, drop-cons, length-append}
use Rattle.std.specs.Prelude.{IfOk, Ok, Result, Some, slice_get, slice_index_or}
use Rattle.std.proofs.lemmas.Grind.{flat_map-append}
use Rattle.std.proofs.lemmas.List.{length-map, map-append, take_all, take_more}
use Rattle.ivp_domain.specs.Boxes.{numbers_from}
use Rattle.ivp_domain.proofs.Ranges.{length-numbers_from}
use Rattle.ivp_func.proofs.Meetings.{numbers_more}
use Rattle.ivp_cert.specs.Dealing.{dealt, dealt_to}

-- what all but the first worker get of a list is what all but the last get of the rest
others_next : {A : Type 0} (workers low n : ℕ) (x : A) (xs : List A) → map (λ number. dealt_to workers number (x ∷ xs)) (numbers_from (suc low) n) ≡ map (λ number. dealt_to workers number xs) (numbers_from low n)
others_next workers low zero x xs = refl
others_next workers low (suc n) x xs = ap (λ rest. dealt_to workers low xs ∷ rest) (others_next workers (suc low) n x xs)

-- the first worker gets the first one, and is then the last one for the rest
pub dealt_first : {A : Type 0} (others : ℕ) (x : A) (xs : List A) → dealt (suc others) (x ∷ xs) ≡ (x ∷ dealt_to (suc others) others xs) ∷ map (λ number. dealt_to (suc others) number xs) (numbers_from 0 others)
dealt_first others x xs =
    let same : suc others - 1 ≡ others = omega arith in
    ap (λ w. (x ∷ dealt_to (suc others) w xs) ∷ map (λ number. dealt_to (suc others) number (x ∷ xs)) (numbers_from 1 others)) same
    ∙ ap (λ rest. (x ∷ dealt_to (suc others) others xs) ∷ rest) (others_next (suc others) 0 others x xs)

pub dealt_last : {A : Type 0} (others : ℕ) (xs : List A) → map (λ number. dealt_to (suc others) number xs) (numbers_from 0 others) ++ dealt_to (suc others) others xs ∷ [] ≡ dealt (suc others) xs
dealt_last others xs =
    let last : 0 + others ≡ others = omega arith in
    sym (ap (map (λ number. dealt_to (suc others) number xs)) (numbers_more 0 others)
    ∙ (map-append (λ number. dealt_to (suc others) number xs) (numbers_from 0 others) ((0 + others) ∷ [])
    ∙ ap (λ w. map (λ number. dealt_to (suc others) number xs) (numbers_from 0 others) ++ dealt_to (suc others) w xs ∷ []) last))

-- as many get something as there are workers
pub length_dealt : {A : Type 0} (workers : ℕ) (xs : List A) → length (dealt workers xs) ≡ workers
length_dealt workers xs = length-map (numbers_from 0 workers) (λ number. dealt_to workers number xs) ∙ length-numbers_from 0 workers

-- shares that are what each worker from one on gets are what was dealt to them
dealt_from : {A : Type 0} (workers low : ℕ) (xs : List A) (shares : List (List A)) → ((k : ℕ) → k < length shares → slice_get shares k ≡ Some (dealt_to workers (low + k) xs)) → shares ≡ map (λ number. dealt_to workers number xs) (numbers_from low (length shares))
dealt_from workers low xs [] each = refl
dealt_from workers low xs (share ∷ shares) each =
    let here : low + 0 ≡ low = omega arith in
    let given : Some share ≡ Some (dealt_to workers (low + 0) xs) = each 0 (omega arith) in
    let first : share ≡ dealt_to workers low xs = cc in
    let rest = dealt_from workers (suc low) xs shares (λ k within. let up : low + suc k ≡ suc low + k = omega arith in each (suc k) (omega (arith, within)) ∙ ap (λ n. Some (dealt_to workers n xs)) up) in
    ap (λ one. one ∷ shares) first ∙ ap (λ ones. dealt_to workers low xs ∷ ones) rest

-- an answer that is one of the shares
answer_at : {A E : Type 0} (shares : List A) (k : ℕ) (d : Result A E) (x : A) → k < length shares → IfOk (slice_index_or (map Ok shares) k d) (λ share. share ≡ x) → slice_get shares k ≡ Some x
answer_at [] k d x within is = absurd (omega (arith, within))
answer_at (share ∷ shares) zero d x within is = ap Some is
answer_at (share ∷ shares) (suc k) d x within is = answer_at shares k d x (omega (arith, within)) is

-- what all workers answered is what was dealt to them
pub all_dealt : {A E : Type 0} (workers : ℕ) (xs : List A) (shares : List (List A)) (answers : List (Result (List A) E)) → map Ok shares ≡ answers → length answers ≡ workers → ((k : ℕ) (d : Result (List A) E) → k < workers → IfOk (slice_index_or answers k d) (λ share. share ≡ dealt_to workers k xs)) → shares ≡ dealt workers xs
all_dealt workers xs shares answers same many each =
    let len : length shares ≡ workers = sym (length-map shares Ok) ∙ (ap length same ∙ many) in
    let at : (k : ℕ) → k < length shares → slice_get shares k ≡ Some (dealt_to workers (0 + k) xs) =
    λ k within.
    let here : k ≡ 0 + k = omega arith in
    answer_at shares k (Ok xs) (dealt_to workers k xs) within (subst (λ rs. IfOk (slice_index_or rs k (Ok xs)) (λ share. share ≡ dealt_to workers k xs)) (sym same) (each k (Ok xs) (omega (arith, within, len)))) ∙ ap (λ n. Some (dealt_to workers n xs)) here in
    dealt_from workers 0 xs shares at ∙ ap (λ n. map (λ number. dealt_to workers number xs) (numbers_from 0 n)) len

-- so many of the dealt lists are joined, and the shares are what was dealt of the others
pub record AreJoined {A : Type 0} (workers : ℕ) (cuts : List (List A)) (n : ℕ) (shares : List (List (List A))) (lines : List A) : Type 0 where
  pub left : shares ≡ dealt workers (drop n cuts)
  pub joined : lines ≡ flat_map (λ cut. cut) (take n cuts)

-- none is joined yet
pub joined_none : {A : Type 0} (workers : ℕ) (cuts : List (List A)) (shares : List (List (List A))) (lines : List A) → lines ≡ [] → shares ≡ dealt workers cuts → AreJoined workers cuts 0 shares lines
joined_none workers cuts shares lines none is = record { left = is; joined = none }

-- the next list is joined: it is the first of the first share, which is then the last
pub joined_next : {A : Type 0} (workers n : ℕ) (cuts : List (List A)) (shares rotated : List (List (List A))) (d first rest : List (List A)) (lines after : List A) → 1 ≤ workers → n < length cuts → AreJoined workers cuts n shares lines → first ≡ get_or shares 0 d → after ≡ lines ++ flat_map (λ cut. cut) (take 1 first) → rest ≡ drop 1 first → rotated ≡ drop 1 (set shares 0 rest) ++ take 1 (set shares 0 rest) → AreJoined workers cuts (n + 1) rotated after
joined_next zero n cuts shares rotated d first rest lines after some within was read gave left turned = absurd (omega (arith, some))
joined_next (suc others) n cuts shares rotated d first rest lines after some within was read gave left turned =
    let cut = get_or cuts n [] in
    let later = drop (n + 1) cuts in
    let own = dealt_to (suc others) others later in
    let behind = map (λ number. dealt_to (suc others) number later) (numbers_from 0 others) in
    let next : drop n cuts ≡ cut ∷ later = drop-cons cuts n [] within ∙ ap (λ k. cut ∷ drop k cuts) (sym (add-one n)) in
    let are : shares ≡ (cut ∷ own) ∷ behind = was.left ∙ (ap (dealt (suc others)) next ∙ dealt_first others cut later) in
    let is : first ≡ cut ∷ own = read ∙ ap (λ ones. get_or ones 0 d) are in
    let is_left : rest ≡ own = left ∙ ap (drop 1) is in
    record {
      left =
          turned
          ∙ (ap (λ ones. drop 1 (set ones 0 rest) ++ take 1 (set ones 0 rest)) are
          ∙ (ap (λ one. behind ++ one ∷ []) is_left ∙ dealt_last others later));
      joined =
          gave
          ∙ (ap (λ one. lines ++ flat_map (λ c. c) (take 1 one)) is
          ∙ (ap (λ ls. ls ++ flat_map (λ c. c) (cut ∷ [])) was.joined
          ∙ (sym (flat_map-append (λ c. c) (take n cuts) (cut ∷ [])) ∙ ap (flat_map (λ c. c)) (sym (take_more cuts n [] within)))));
    }

-- all are joined
pub joined_all : {A : Type 0} (workers n : ℕ) (cuts : List (List A)) (shares : List (List (List A))) (lines : List A) → length cuts ≤ n → AreJoined workers cuts n shares lines → lines ≡ flat_map (λ cut. cut) cuts
joined_all workers n cuts shares lines past was = was.joined ∙ ap (flat_map (λ cut. cut)) (take_all n cuts past)

-- the first of some has become the last
pub turned_length : {A : Type 0} (xs ys : List A) (x : A) → ys ≡ drop 1 (set xs 0 x) ++ take 1 (set xs 0 x) → length ys ≡ length xs
turned_length [] ys x is = ap length is
turned_length (y ∷ xs) ys x is = ap length is ∙ omega (arith, length-append xs (x ∷ []))

-- lists that are joined are those of each
pub flat_each : {A B : Type 0} (f : A → List B) (xs : List A) → flat_map (λ cut. cut) (map f xs) ≡ flat_map f xs
flat_each f [] = refl
flat_each f (x ∷ xs) = ap (λ rest. f x ++ rest) (flat_each f xs)
