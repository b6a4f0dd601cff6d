-- A script has one history that is lawful in the order of the stamps and in the order of its lines.
use Rattle.std.proofs.Common.{◌≡◌, ◌≢◌, ℕ, zero, suc, ◌+◌, ◌*◌, ◌==◌, Bool, true, false, cond, get_or, nat_le, Option, List, [], ◌∷◌, ◌++◌, refl, sym, ap, ◌∙◌, subst, arith, eq-eqb, ne_eqb}
use Rattle.std.specs.Prelude.{map, filter, not}
use Rattle.std.proofs.lemmas.List.{append_cancel_left, map-append}
use Rattle.std.proofs.lemmas.List.Elements.{filter-append, filter_agree}
use Rattle.helm_core.specs.Ticks.{pairs_mailed}
use Rattle.moos_client.specs.Calls.{entries_of}
use Rattle.moos_db.specs.Database.{letters_after}
use Rattle.moos_lawful.proofs.Rising.{front_rises}
use Rattle.moos_lawful.specs.Schedules.{never_falls}
use Rattle.moos_post.specs.declared.entry.Entry.{Entry}
use Rattle.moos_post.specs.History.{History}
use Rattle.moos_play.specs.Lawful.{HelmSetup, helm_number, moment_of, opening}
use Rattle.script_reader.specs.declared.script.Order.TheVariants.{Stamp}
use Rattle.script_reader.specs.declared.script.Script.{Script}
use Rattle.play_laws.specs.Ordered.{entries_but, OrderedIsSole}
use Rattle.play_laws.proofs.Cutting.{done_by}
use Rattle.play_laws.proofs.Merged.{filter_none, merged}
use Rattle.play_laws.proofs.Steered.{AreMailed, InputsTell, same_helm}

-- the helm's entries, and those that aren't
abbrev one_if : Bool → ℕ
one_if b = cond b 1 0

abbrev side : ℕ → Entry → ℕ
side helm entry = one_if (entry.client == helm)

apart : (helm : ℕ) (one : Entry) → not (one.client == helm) ≡ true → one.client ≢ helm
apart helm one is same = by (one.client == helm) is (eq-eqb one.client helm same)
  where
    by : (b : Bool) → not b ≡ true → b ≡ true → ⊥
    by true is e = let h : false ≡ true = is in absurd cc
    by false is e = let h : false ≡ true = e in absurd cc

side_of : (helm : ℕ) (xs ys : History) → entries_of helm xs ≡ entries_of helm ys → entries_but helm xs ≡ entries_but helm ys → (n : ℕ) → filter (λ entry. side helm entry == n) xs ≡ filter (λ entry. side helm entry == n) ys
side_of helm xs ys own but zero = agree xs ∙ but ∙ sym (agree ys)
  where
    agree : (xs : History) → filter (λ entry. side helm entry == 0) xs ≡ entries_but helm xs
    agree xs = filter_agree (λ (entry : Entry). side helm entry == 0) (λ entry. not (entry.client == helm)) (λ entry. by (entry.client == helm)) xs
      where
        by : (b : Bool) → (one_if b == 0) ≡ not b
        by true = refl
        by false = refl
side_of helm xs ys own but (suc zero) = agree xs ∙ own ∙ sym (agree ys)
  where
    agree : (xs : History) → filter (λ entry. side helm entry == 1) xs ≡ entries_of helm xs
    agree xs = filter_agree (λ (entry : Entry). side helm entry == 1) (λ entry. entry.client == helm) (λ entry. by (entry.client == helm)) xs
      where
        by : (b : Bool) → (one_if b == 1) ≡ b
        by true = refl
        by false = refl
side_of helm xs ys own but (suc (suc n)) = none xs ∙ sym (none ys)
  where
    none : (xs : History) → filter (λ entry. side helm entry == suc (suc n)) xs ≡ []
    none xs = filter_none (λ (entry : Entry). side helm entry == suc (suc n)) xs (λ k d within. by (get_or xs k d).client)
      where
        by : (client : ℕ) → (one_if (client == helm) == suc (suc n)) ≡ false
        by client = at (client == helm)
          where
            at : (b : Bool) → (one_if b == suc (suc n)) ≡ false
            at true = ne_eqb 1 (suc (suc n)) (λ is. omega (arith, is))
            at false = ne_eqb 0 (suc (suc n)) (λ is. omega (arith, is))

-- two entries of one moment are both the helm's, or neither is
one_side : (helm : ℕ) (one other : Entry) → moment_of helm one ≡ moment_of helm other → side helm one ≡ side helm other
one_side helm one other same = by (one.client == helm) (other.client == helm) same
  where
    by : (b c : Bool) → cond b (suc (2 * one.stamp)) (2 * one.stamp) ≡ cond c (suc (2 * other.stamp)) (2 * other.stamp) → one_if b ≡ one_if c
    by true true same = refl
    by false false same = refl
    by true false same = absurd (omega (arith, same))
    by false true same = absurd (omega (arith, same))

-- Histories in the order of the moments are one if the helm's entries are the same in both, and the others too.
pub two_sides : (helm : ℕ) (xs ys : History) → never_falls 0 (map (moment_of helm) xs) ≡ true → never_falls 0 (map (moment_of helm) ys) ≡ true → entries_of helm xs ≡ entries_of helm ys → entries_but helm xs ≡ entries_but helm ys → xs ≡ ys
two_sides helm xs ys order order' own but =
    merged (moment_of helm) (side helm) (λ (entry : Entry). Unit {0}) (λ one other u v same. one_side helm one other same) 0 xs ys (λ k d within. tt) (λ k d within. tt) order order' (side_of helm xs ys own but)

-- the order of a front
pub front_order : (key : Entry → ℕ) (rest before : History) (entry : Entry) (behind : History) → rest ≡ before ++ entry ∷ behind → never_falls 0 (map key rest) ≡ true → never_falls 0 (map key before) ≡ true
front_order key rest before entry behind is order =
    front_rises 0 (map key before) (map key (entry ∷ behind)) (subst (λ (keys : List ℕ). never_falls 0 keys ≡ true) (ap (map key) is ∙ map-append key before (entry ∷ behind)) order)

-- behind the opening the entries that aren't the helm's are the same
but_same : (script : Script) (helm : Option HelmSetup) (rest other : History) → entries_but (helm_number script) (opening helm ++ rest) ≡ entries_but (helm_number script) (opening helm ++ other)
    → entries_but (helm_number script) rest ≡ entries_but (helm_number script) other
but_same script helm rest other same =
    append_cancel_left (entries_but (helm_number script) (opening helm)) (entries_but (helm_number script) rest) (entries_but (helm_number script) other)
    (sym (filter-append test (opening helm) rest) ∙ same ∙ filter-append test (opening helm) other)
  where
    test : Entry → Bool
    test entry = not (entry.client == helm_number script)

pub ordered_is_sole : InputsTell → OrderedIsSole
ordered_is_sole law script helm names history other lawful lawful' ordered ordered' =
    lawful'.opened
    ∙ ap (λ rest. opening helm ++ rest) (sym (two_sides (helm_number script) lawful.rest lawful'.rest lawful.moments lawful'.moments (same_helm law Stamp Stamp script helm names history other lawful lawful' alike).steered same))
    ∙ sym lawful.opened
  where
    test : Entry → Bool
    test entry = not (entry.client == helm_number script)

    same : entries_but (helm_number script) lawful.rest ≡ entries_but (helm_number script) lawful'.rest
    same = but_same script helm lawful.rest lawful'.rest (ap (entries_but (helm_number script)) (sym lawful.opened) ∙ ordered ∙ sym ordered' ∙ ap (entries_but (helm_number script)) lawful'.opened)

    alike : AreMailed script helm names lawful.rest lawful'.rest
    alike before behind before' behind' fetch own is is' mine =
        ap (λ before. pairs_mailed (letters_after names (helm_number script) (opening helm ++ before)))
        (two_sides (helm_number script) before before' (front_order (moment_of (helm_number script)) lawful.rest before fetch behind is lawful.moments)
        (front_order (moment_of (helm_number script)) lawful'.rest before' fetch behind' is' lawful'.moments) mine
        (done_by (helm_number script) (λ (entry : Entry). not (entry.client == helm_number script)) (apart (helm_number script)) lawful.rest before fetch behind is own lawful.moments
        ∙ ap (filter (λ (one : Entry). nat_le (moment_of (helm_number script) one) (moment_of (helm_number script) fetch))) same
        ∙ sym (done_by (helm_number script) (λ (entry : Entry). not (entry.client == helm_number script)) (apart (helm_number script)) lawful'.rest before' fetch behind' is' own lawful'.moments)))
