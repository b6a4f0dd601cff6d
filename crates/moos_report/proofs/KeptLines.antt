-- Lines that are kept are those of the posts.
use Rattle.std.proofs.Common.{◌≡◌, ℕ, zero, suc, ◌+◌, ◌<◌, ◌≤◌, ◌⊎◌, inl, inr, List, [], ◌∷◌, ◌++◌, length, map, take, Option, Some, None, refl, ap, sym, subst, ◌∙◌, arith, codes, decimal, length-append}
use Rattle.std.specs.Prelude.{option_map, slice_get, unwrap_or}
use Rattle.std.specs.List.{concat}
use Rattle.std.proofs.lemmas.Grind.{flat_map-append}
use Rattle.std.proofs.lemmas.List.{length-map, map-append}
use Rattle.std.proofs.lemmas.Option.{slice_get-map, slice_get_within}
use Rattle.moos_post.specs.declared.entry.Call.TheVariants.{Post as Posts}
use Rattle.moos_post.specs.declared.entry.Entry.{Entry}
use Rattle.moos_post.specs.declared.value.Pair.{Pair}
use Rattle.moos_post.specs.declared.value.Post.{Post}
use Rattle.moos_post.specs.History.{History, name_of, post_of, posts_of, posts_of_call, posts_of_entry}
use Rattle.moos_db.proofs.Growth.{posts-more, posts-take}
use Rattle.moos_mail.proofs.Lists.{found-below, slice_get-front}
use Rattle.moos_mail.proofs.Living.{stand-entry}
use Rattle.moos_report.specs.Lines.{AreLines, AreLinesFrom, IsLineOrNone, KeepsLines, post_lines, StandAt}
use Rattle.moos_report.specs.Report.{letter_text, post_text, said_text}
use Rattle.moos_report.proofs.Reporting.{slice_get_take}

-- no line is kept
pub no_lines : (names : List (List ℕ)) (history : History) (lines : List (List ℕ)) → lines ≡ [] → KeepsLines names history lines
no_lines names history lines none = subst (KeepsLines names history) (sym none) (record { within = omega arith; each = λ number line text there at. absurd (let e : None ≡ Some line = there in cc) })

-- a line that isn't empty is there
line_there : (found : Option (List ℕ)) (line : List ℕ) → line ≡ unwrap_or found [] → 0 < length line → found ≡ Some line
line_there None line is some = absurd (omega (arith, ap length is, some))
line_there (Some one) line is some = ap Some (sym is)

kept_is : (texts lines : List (List ℕ)) (number : ℕ) (line text : List ℕ) → AreLines texts lines → slice_get texts number ≡ Some text → line ≡ unwrap_or (slice_get lines number) [] → 0 < length line → line ≡ text
kept_is texts lines number line text so at is some =
    elim (so.each number line text (line_there (slice_get lines number) line is some) at) [
      | inl none ↦ absurd (omega (arith, ap length none, some))
      | inr same ↦ same
    ]

-- a letter whose post's line is kept
pub letter_kept : (names : List (List ℕ)) (history : History) (lines : List (List ℕ)) (first number : ℕ) (line : List ℕ) → KeepsLines names history lines → first ≤ length (posts_of history) → number < first
    → line ≡ unwrap_or (slice_get lines number) [] → 0 < length line
    → letter_text names number (slice_get (take first (posts_of history)) number) ≡ concat (codes "%% mail " ∷ decimal number ∷ codes " " ∷ []) ++ line
letter_kept names history lines first number line so within below is some =
    let found : (post : Post) × (slice_get (posts_of history) number ≡ Some post) = found-below (posts_of history) number (omega (arith, within, below)) in
    let text : line ≡ post_text names found.0 = kept_is (post_lines names history) lines number line (post_text names found.0) so (slice_get-map (post_text names) (posts_of history) number ∙ ap (option_map (post_text names)) found.1) is some in
    ap (letter_text names number) (slice_get_take (posts_of history) first number below ∙ found.1) ∙ ap (λ line. concat (codes "%% mail " ∷ decimal number ∷ codes " " ∷ []) ++ line) (sym text)

-- what is found of a line from some number on
pub line_from : (first : ℕ) (some lines : List (List ℕ)) (k number : ℕ) (line text : List ℕ) → AreLinesFrom first some lines → slice_get some k ≡ Some text → number ≡ first + k → line ≡ unwrap_or (slice_get lines number) []
    → IsLineOrNone line text
line_from first some lines k number line text so there at is = by (slice_get lines (first + k)) refl (is ∙ ap (λ n. unwrap_or (slice_get lines n) []) at)
  where
    by : (found : Option (List ℕ)) → slice_get lines (first + k) ≡ found → line ≡ unwrap_or found [] → IsLineOrNone line text
    by None e is = inl is
    by (Some one) e is = subst (λ one. IsLineOrNone one text) (sym is) (so k one text there e)

-- one more is kept, or it isn't
at_end : (xs : List (List ℕ)) (x one : List ℕ) (n : ℕ) → slice_get (xs ++ x ∷ []) n ≡ Some one → (slice_get xs n ≡ Some one) ⊎ ((n ≡ length xs) × (one ≡ x))
at_end [] x one zero is = inr (refl, (let e : Some x ≡ Some one = is in cc))
at_end [] x one (suc n) is = absurd (let e : None ≡ Some one = is in cc)
at_end (y ∷ xs) x one zero is = inl is
at_end (y ∷ xs) x one (suc n) is =
    elim (at_end xs x one n is) [
      | inl there ↦ inl there
      | inr end ↦ inr (ap suc end.0, end.1)
    ]

pub kept_more : (texts before after : List (List ℕ)) (number : ℕ) (line text : List ℕ) → (after ≡ before) ⊎ ((number ≡ length before) × (after ≡ before ++ line ∷ [])) → IsLineOrNone line text → slice_get texts number ≡ Some text
    → AreLines texts before → AreLines texts after
kept_more texts before after number line text (inl same) is at so = subst (AreLines texts) (sym same) so
kept_more texts before after number line text (inr more) is at so = subst (AreLines texts) (sym more.1) (record {
  within = omega (arith, length-append before (line ∷ []), more.0, slice_get_within texts number text at);
  each = λ n one other there stands. elim (at_end before line one n there) [
    | inl old ↦ so.each n one other old stands
    | inr end ↦
        let same : text ≡ other = (let e : Some text ≡ Some other = sym at ∙ ap (slice_get texts) (more.0 ∙ sym end.0) ∙ stands in cc) in
        subst (λ one. IsLineOrNone one other) (sym end.1) (subst (IsLineOrNone line) same is)
  ];
})

-- the lines of an entry that posts
said : (names : List (List ℕ)) (stamp client : ℕ) (batch : List Pair) → map (post_text names) (map (post_of stamp client) batch) ≡ map (λ pair. said_text stamp (name_of names client) pair.var pair.value) batch
said names stamp client [] = refl
said names stamp client (pair ∷ batch) = ap (λ lines. said_text stamp (name_of names client) pair.var pair.value ∷ lines) (said names stamp client batch)

-- their numbers are below the count of all posts
pub batch_few : (history : History) (k : ℕ) (entry : Entry) → slice_get history k ≡ Some entry → (first : ℕ) (batch pairs : List Pair) → entry.call ≡ Posts batch → first ≡ length (posts_of (take k history)) → pairs ≡ batch
    → first + length pairs ≤ length (posts_of history)
batch_few history k entry at first batch pairs is behind all =
    let posts : length (posts_of_entry entry) ≡ length batch = ap (λ call. length (posts_of_call entry.stamp entry.client call)) is ∙ length-map batch (post_of entry.stamp entry.client) in
    omega (arith, posts-more history k at, posts-take history (k + 1), posts, behind, ap length all)

module _ (names : List (List ℕ)) (history : History) (k : ℕ) (entry : Entry) (at : slice_get history k ≡ Some entry) where
  pub batch_stands : (first : ℕ) (source : List ℕ) (batch pairs : List Pair) → entry.call ≡ Posts batch → first ≡ length (posts_of (take k history)) → source ≡ name_of names entry.client → pairs ≡ batch
      → StandAt first (map (λ pair. said_text entry.stamp source pair.var pair.value) pairs) (post_lines names history)
  batch_stands first source batch pairs is behind named all i text there =
      let lines : map (λ pair. said_text entry.stamp source pair.var pair.value) pairs ≡ map (post_text names) (posts_of_entry entry) =
      ap (λ pairs. map (λ pair. said_text entry.stamp source pair.var pair.value) pairs) all ∙ ap (λ source. map (λ pair. said_text entry.stamp source pair.var pair.value) batch) named
      ∙ sym (said names entry.stamp entry.client batch) ∙ ap (λ call. map (post_text names) (posts_of_call entry.stamp entry.client call)) (sym is) in
      by (slice_get (posts_of_entry entry) i) refl (sym (slice_get-map (post_text names) (posts_of_entry entry) i) ∙ ap (λ lines. slice_get lines i) (sym lines) ∙ there)
    where
      by : (found : Option Post) → slice_get (posts_of_entry entry) i ≡ found → option_map (post_text names) found ≡ Some text → slice_get (post_lines names history) (first + i) ≡ Some text
      by None e same = absurd (let h : None ≡ Some text = same in cc)
      by (Some post) e same =
          slice_get-map (post_text names) (posts_of history) (first + i)
          ∙ ap (option_map (post_text names)) (ap (λ n. slice_get (posts_of history) (n + i)) behind ∙ stand-entry names entry.client history k entry at i post e) ∙ same

  -- what is kept of them
  pub batch_lines : (first : ℕ) (source : List ℕ) (batch pairs : List Pair) (lines : List (List ℕ)) → entry.call ≡ Posts batch → first ≡ length (posts_of (take k history)) → source ≡ name_of names entry.client
      → pairs ≡ batch → KeepsLines names history lines → AreLinesFrom first (map (λ pair. said_text entry.stamp source pair.var pair.value) pairs) lines
  batch_lines first source batch pairs lines is behind named all so i line text there kept =
      so.each (first + i) line text kept (batch_stands first source batch pairs is behind named all i text there)

-- more posts leave the lines of those before
longer : (texts more lines : List (List ℕ)) → AreLines texts lines → AreLines (texts ++ more) lines
longer texts more lines so = record {
  within = omega (arith, so.within, length-append texts more);
  each = λ number line text there at.
      let old : (one : List ℕ) × (slice_get texts number ≡ Some one) = found-below texts number (omega (arith, so.within, slice_get_within lines number line there)) in
      let same : old.0 ≡ text = (let e : Some old.0 ≡ Some text = sym (slice_get-front texts more number old.0 old.1) ∙ at in cc) in
      subst (IsLineOrNone line) same (so.each number line old.0 there old.1);
}

-- a history that goes on leaves the lines of its posts
pub lines_on : (names : List (List ℕ)) (history more : History) (lines : List (List ℕ)) → KeepsLines names history lines → KeepsLines names (history ++ more) lines
lines_on names history more lines so =
    subst (λ texts. AreLines texts lines) (sym (ap (map (post_text names)) (flat_map-append posts_of_entry history more) ∙ map-append (post_text names) (posts_of history) (posts_of more)))
    (longer (post_lines names history) (post_lines names more) lines so)
