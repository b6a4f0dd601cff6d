-- The text of a path, as it is kept from line to line.
use Rattle.std.proofs.Common.{◌≡◌, ℕ, inl, inr, ◌+◌, ◌*◌, ◌<◌, ◌≤◌, List, [], ◌∷◌, ◌++◌, flat_map, length, set, take, sym, ap, subst, ◌∙◌, arith, append_assoc, append-nil, get_or-set_other, get_or-set_same, length-set, length-take, length-take-le, take-take}
use Rattle.std.specs.Prelude.{codes, decimal, slice_index}
use Rattle.std.specs.List.{concat}
use Rattle.std.proofs.lemmas.Bool.{cases_lt}
use Rattle.std.proofs.lemmas.Grind.{flat_map-append}
use Rattle.std.proofs.lemmas.List.{take-append-le, take-set-le, take_more_set}
use Rattle.ivp_cert.specs.PathTexts.{IsPathText}
use Rattle.ivp_cert.specs.Texts.{number_word}

-- a line up to its path, and what follows it
pub line_begun : (prefix path rest : List ℕ) → concat (prefix ∷ codes "cut" ∷ path ∷ []) ++ rest ≡ concat (prefix ∷ codes "cut" ∷ []) ++ (path ++ rest)
line_begun prefix path rest =
    append_assoc prefix (codes "cut" ++ (path ++ [])) rest
    ∙ (ap (λ t. prefix ++ (codes "cut" ++ (t ++ rest))) (append-nil path) ∙ sym (append_assoc prefix (codes "cut" ++ []) (path ++ rest)))

-- some numbers at the end are given up
pub fewer : (numbers : List ℕ) (len less : ℕ) (ends bytes : List ℕ) → less ≤ len → IsPathText numbers len ends bytes → IsPathText numbers less ends bytes
fewer numbers len less ends bytes under text =
    record {
      few = omega (arith, under, text.few);
      within = λ k up. text.within k (omega (arith, up, under));
      rising = λ j k below up. text.rising j k below (omega (arith, up, under));
      told = λ k up. text.told k (omega (arith, up, under));
    }

-- the numbers that are kept are those with which the path begins
pub begun : (numbers path : List ℕ) (len less : ℕ) → less ≤ length (take len numbers) → take less (take len numbers) ≡ take less path → take less numbers ≡ take (length (take less numbers)) path
begun numbers path len less under same =
    let all = length-take len numbers in
    let within : less ≤ len = omega (arith, under, all) in
    let have : less ≤ length numbers = omega (arith, under, all) in
    sym (take-take less len numbers within) ∙ (same ∙ ap (λ n. take n path) (sym (length-take-le less numbers have)))

-- one number more, with its text behind that of the others
pub longer : (numbers : List ℕ) (len number : ℕ) (ends bytes blanked written digits : List ℕ) (blank end : ℕ) → IsPathText numbers len ends bytes → len < length numbers → len + 1 < length ends → slice_index ends len ≤ length bytes → digits ≡ decimal number → length digits ≤ 10 → blank ≡ slice_index ends len + 1 → take blank blanked ≡ take (slice_index ends len) bytes ++ codes " " → end ≡ blank + length digits → take end written ≡ take blank blanked ++ digits → IsPathText (set numbers len number) (len + 1) (set ends (len + 1) end) written
longer numbers len number ends bytes blanked written digits blank end text have room fits is short one put_blank two put_digits =
    let start = slice_index ends len in
    let added = set ends (len + 1) end in
    let last : len ≤ len = omega arith in
    let word : take end written ≡ take start bytes ++ number_word number =
    put_digits ∙ (ap (λ front. front ++ digits) put_blank ∙ (append_assoc (take start bytes) (codes " ") digits ∙ ap (λ d. take start bytes ++ (codes " " ++ d)) (is ∙ sym (append-nil (decimal number))))) in
    let before : (n : ℕ) → n ≤ start → take n written ≡ take n bytes =
    λ n up.
    let long : length (take start bytes) ≡ start = length-take-le start bytes fits in
    sym (take-take n end written (omega (arith, up, one, two)))
    ∙ (ap (take n) word ∙ (take-append-le n (take start bytes) (number_word number) (omega (arith, up, long)) ∙ take-take n start bytes up)) in
    let low : (k : ℕ) → k ≤ len → slice_index added k ≡ slice_index ends k = λ k up. get_or-set_other ends (len + 1) k end 0 (λ e. omega (arith, e, up)) in
    let high : slice_index added (len + 1) ≡ end = get_or-set_same ends (len + 1) end 0 room in
    record {
      few = omega (arith, have, length-set numbers len number);
      within = λ k up. elim (cases_lt k (len + 1)) [
        | inl less ↦
            let under : k ≤ len = omega (arith, less) in
            let same = low k under in
            let old = text.within k under in
            omega (arith, same, old)
        | inr past ↦
            let e : k ≡ len + 1 = omega (arith, up, past) in
            let old = text.within len last in
            subst (λ n. slice_index added n ≤ 11 * n) (sym e) (omega (arith, high, old, one, two, short))
      ];
      rising = λ j k below up. elim (cases_lt k (len + 1)) [
        | inl less ↦
            let under : k ≤ len = omega (arith, less) in
            let same = low k under in
            let same_j = low j (omega (arith, below, under)) in
            let old = text.rising j k below under in
            omega (arith, same, same_j, old)
        | inr past ↦
            let e : k ≡ len + 1 = omega (arith, up, past) in
            subst (λ n. slice_index added j ≤ slice_index added n) (sym e) (elim (cases_lt j (len + 1)) [
              | inl less ↦
                  let under : j ≤ len = omega (arith, less) in
                  let same_j = low j under in
                  let old = text.rising j len under last in
                  omega (arith, high, same_j, old, one, two)
              | inr beyond ↦
                  let f : j ≡ len + 1 = omega (arith, e, below, beyond) in
                  subst (λ n. slice_index added n ≤ slice_index added (len + 1)) (sym f) (omega arith)
            ])
      ];
      told = λ k up. elim (cases_lt k (len + 1)) [
        | inl less ↦
            let under : k ≤ len = omega (arith, less) in
            ap (λ n. take n written) (low k under)
            ∙ (before (slice_index ends k) (text.rising k len under last) ∙ (text.told k under ∙ ap (flat_map number_word) (sym (take-set-le k numbers len number under))))
        | inr past ↦
            let e : k ≡ len + 1 = omega (arith, up, past) in
            subst (λ n. take (slice_index added n) written ≡ flat_map number_word (take n (set numbers len number))) (sym e)
            (ap (λ n. take n written) high
            ∙ (word
            ∙ (ap (λ t. t ++ number_word number) (text.told len last)
            ∙ (ap (λ t. flat_map number_word (take len numbers) ++ t) (sym (append-nil (number_word number)))
            ∙ (sym (flat_map-append number_word (take len numbers) (number ∷ [])) ∙ ap (flat_map number_word) (sym (take_more_set numbers len number have)))))))
      ];
    }
