-- A letter to a template, by what is kept of the list.
use Rattle.std.proofs.Common.{◌≡◌, ℕ, ◌+◌, ◌<◌, Bool, true, false, ◌&&◌, ◌||◌, if◌then◌else◌, List, [], ◌∷◌, ◌++◌, length, map, take, fold, get_or, Option, Some, None, refl, ap, sym, subst, ◌∙◌, arith, add-one}
use Rattle.std.specs.Prelude.{bytes_eq, position, slice_get, slice_set}
use Rattle.std.specs.List.{All, AllZip, count_by, list_any}
use Rattle.std.specs.Option.{option_eq}
use Rattle.std.proofs.lemmas.List.{length-append, length-set, map-append, take_more}
use Rattle.std.proofs.lemmas.List.Elements.{All-push, All-set, All-weaker}
use Rattle.std.proofs.lemmas.List.Sums.{fold_push}
use Rattle.std.proofs.lemmas.Option.{slice_get_within}
use Rattle.std.proofs.lemmas.Slice.Zip.{AllZip-long, all_zipped_more}
use Rattle.moos_post.specs.declared.value.Pair.{Pair}
use Rattle.moos_db.specs.declared.mail.Letter.{Letter}
use Rattle.moos_db.specs.Database.{pair_posted}
use Rattle.ivp_domain.specs.declared.axis.Axis.{Axis}
use Rattle.bhv_file.specs.declared.common.Common.{Common}
use Rattle.bhv_file.specs.declared.file.Block.{Block}
use Rattle.bhv_file.specs.declared.spec.Spec.{Spec}
use Rattle.bhv_file.specs.Validity.{IsValidSpec}
use Rattle.helm_core.specs.declared.doer.Doer.{Doer}
use Rattle.helm_core.specs.Doers.{IsDoerOf}
use Rattle.bhv_kinds.specs.Changes.{KindChange, params_at}
use Rattle.bhv_life.specs.Standing.{IsLifeOf}
use Rattle.helm_core.specs.declared.behavior.Behavior.{Behavior}
use Rattle.helm_core.specs.declared.iteration.How.{How}
use Rattle.helm_core.specs.declared.iteration.How.TheVariants.{Refused, Changed, Spawned}
use Rattle.helm_core.specs.declared.iteration.Update.{Update}
use Rattle.helm_core.specs.declared.named.NamedPairs.{NamedPairs}
use Rattle.helm_core.specs.Behaviors.{BhvSoFar, Birth}
use Rattle.helm_core.specs.declared.helm_view.HelmView.{HelmView}
use Rattle.helm_core.specs.declared.turned.TurnsEnded.{TurnsEnded}
use Rattle.helm_core.specs.Kept.{AreFewFit, AreFit, HasHeardAndTurned, HasTurned, IsHeardAndTurned}
use Rattle.helm_core.specs.Plans.{is_template}
use Rattle.helm_core.specs.Standings.{AreFew, HasSpawned, BehaviorListState, HasAnswered, IsBehaviorList, IsFitKept, IsKept, IsReady, IsSpawning, MaySpawn, MayStep, behavior_list_of, is_called_in, is_kept_called}
use Rattle.helm_core.specs.Templates.{Spawning, answered, are_good, changed_by, heard_at_place, heard_by, heard_known, heard_new, heard_said, heard_to, bears_name, is_made_of, made_from, may_make, none_spawned, said_by, spawned, with_said}
use Rattle.helm_core.specs.Ticks.{pairs_mailed}
use Rattle.helm_core.proofs.Listing.{room_left}
use Rattle.helm_core.proofs.Readying.{GoesOn, ready_on}
use Rattle.helm_core.proofs.Serving.{doer_served, serves_said}
use Rattle.helm_core.proofs.Zips.{related_at, same_place, set_in_both, take_next, holds_at, item_there}

-- one of two, by a test
pub by_test : {A : Type 0} (P : A → Type 0) (asked test : Bool) (one other : A) → test ≡ asked → P (if asked then one else other) → P (if test then one else other)
by_test P asked test one other is p = subst (λ it. P (if it then one else other)) (sym is) p

not_first : (a b : Bool) → a ≡ false → (a && b) ≡ false
not_first a b is = ap (λ it. it && b) is

not_second : (a b : Bool) → b ≡ false → (a && b) ≡ false
not_second true b is = is
not_second false b is = refl

both : (a b : Bool) → a ≡ true → b ≡ true → (a && b) ≡ true
both a b is is' = ap (λ it. it && b) is ∙ is'

neither : (a b : Bool) → (a || b) ≡ false → (a ≡ false) × (b ≡ false)
neither true b is = absurd (let e : true ≡ false = is in cc)
neither false b is = (refl, is)

-- a refused letter changes nothing
pub refused : (blocks : List Block) (clock : ℕ) (template : Block) (before : Spawning) (kept : List Behavior) → AllZip (IsKept blocks clock) before.ones kept → HasAnswered blocks clock template before (answered template before before.ones Refused) kept Refused
refused blocks clock template before kept all = record { ones = all; answer = refl }

-- what is told of the doer that a behaviour has with the pairs of a letter: whether they are good
abbrev pub TellsGood : List Axis → Doer → Option (List ℕ) → Bool → Type 0
TellsGood axes doer pairs test = (spec : Spec) (changes : List KindChange) → IsDoerOf spec changes doer → test ≡ are_good axes (params_at spec changes) pairs

-- what is no item is none
pub nothing_there : {A : Type 0} (found : Option A) → ((x : A) → found ≡ Some x → ⊥) → found ≡ None
nothing_there None never = refl
nothing_there (Some x) never = absurd (never x refl)

-- the doer is the old one with the pairs of a letter
abbrev pub TakesPairs : List Axis → Doer → Option (List ℕ) → Doer → Type 0
TakesPairs axes old pairs new = (spec : Spec) (changes : List KindChange) → IsDoerOf spec changes old → IsDoerOf spec (with_said axes changes pairs) new

-- a letter with a name that none of the list has
module _ (axes : List Axis) (blocks : List Block) (clock at : ℕ) (template : Block) (before : Spawning) (said : NamedPairs) (kept : List Behavior) (all : AllZip (IsKept blocks clock) before.ones kept) where
  abbrev birth : Birth
  birth = record { iteration = at; letter = length before.answers }

  abbrev made' : Spawning
  made' = answered template before (before.ones ++ made_from axes template birth said ∷ []) (Spawned said.name)

  as_long : length kept ≡ length before.ones
  as_long = AllZip-long (IsKept blocks clock) before.ones kept all

  pub no_room : may_make blocks said.name (length kept) ≡ false → HasAnswered blocks clock template before (heard_new axes blocks at template before said) kept Refused
  no_room is =
      by_test (λ after. HasAnswered blocks clock template before after kept Refused) false (may_make blocks said.name (length before.ones) && are_good axes template.spec said.pairs) made' (answered template before before.ones Refused)
      (not_first (may_make blocks said.name (length before.ones)) (are_good axes template.spec said.pairs) (ap (may_make blocks said.name) (sym as_long) ∙ is)) (refused blocks clock template before kept all)

  pub bad_pairs : are_good axes template.spec said.pairs ≡ false → HasAnswered blocks clock template before (heard_new axes blocks at template before said) kept Refused
  bad_pairs is =
      by_test (λ after. HasAnswered blocks clock template before after kept Refused) false (may_make blocks said.name (length before.ones) && are_good axes template.spec said.pairs) made' (answered template before before.ones Refused)
      (not_second (may_make blocks said.name (length before.ones)) (are_good axes template.spec said.pairs) is) (refused blocks clock template before kept all)

  -- what is kept of the one that it makes
  pub kept_of_made : (one : Behavior) → one.name ≡ said.name → slice_get blocks one.block ≡ Some template → one.made ≡ true → IsDoerOf template.spec (with_said axes [] said.pairs) one.doer
      → ((common : Common) → IsLifeOf common [] one.life) → IsKept blocks clock (made_from axes template birth said) one
  kept_of_made one named of by_letter doer blank = record {
    name = named;
    block = of;
    made = by_letter;
    doer = doer;
    life = blank template.common;
    late = omega arith;
  }

  pub is_made : (one : Behavior) → may_make blocks said.name (length kept) ≡ true → are_good axes template.spec said.pairs ≡ true → IsKept blocks clock (made_from axes template birth said) one
      → HasAnswered blocks clock template before (heard_new axes blocks at template before said) (kept ++ one ∷ []) (Spawned said.name)
  is_made one room good is =
      by_test (λ after. HasAnswered blocks clock template before after (kept ++ one ∷ []) (Spawned said.name)) true (may_make blocks said.name (length before.ones) && are_good axes template.spec said.pairs) made' (answered template before before.ones Refused)
      (both (may_make blocks said.name (length before.ones)) (are_good axes template.spec said.pairs) (ap (may_make blocks said.name) (sym as_long) ∙ room) good)
      (record { ones = all_zipped_more (IsKept blocks clock) before.ones kept (made_from axes template birth said) one all is; answer = refl })

-- what is told of one that is kept: whether it was made of a template
abbrev pub TellsMaker : List Block → Block → Behavior → Bool → Type 0
TellsMaker blocks template one test = (block : Block) → slice_get blocks one.block ≡ Some block → test ≡ (one.made && bytes_eq block.common.name template.common.name)

-- a letter for one of the list
module _ (axes : List Axis) (blocks : List Block) (clock : ℕ) (template : Block) (before : Spawning) (said : NamedPairs) (kept : List Behavior) (place : ℕ) (one : Behavior) (all : AllZip (IsKept blocks clock) before.ones kept) (at : slice_get kept place ≡ Some one) where
  abbrev found : (it : BhvSoFar) × (slice_get before.ones place ≡ Some it) × IsKept blocks clock it one
  found = related_at (IsKept blocks clock) before.ones kept place one all at

  abbrev it : BhvSoFar
  it = found.0

  own : (test : Bool) → TellsMaker blocks template one test → test ≡ is_made_of template it
  own test tells = tells it.block found.2.block ∙ ap (λ made. made && bytes_eq it.block.common.name template.common.name) found.2.made

  abbrev changed' : Spawning
  changed' = answered template before (slice_set before.ones place (changed_by axes said it)) Changed

  abbrev test : Bool
  test = is_made_of template it && are_good axes (params_at it.block.spec it.changes) said.pairs

  there : (after : List Behavior) (how : How) (asked : Bool) → test ≡ asked → HasAnswered blocks clock template before (if asked then changed' else answered template before before.ones Refused) after how
      → HasAnswered blocks clock template before (heard_known axes template before said place (slice_get before.ones place)) after how
  there after how asked is p =
      subst (λ (get : Option BhvSoFar). HasAnswered blocks clock template before (heard_known axes template before said place get) after how) (sym found.1)
      (by_test (λ now. HasAnswered blocks clock template before now after how) asked test changed' (answered template before before.ones Refused) is p)

  pub of_another : (made : Bool) → TellsMaker blocks template one made → made ≡ false → HasAnswered blocks clock template before (heard_known axes template before said place (slice_get before.ones place)) kept Refused
  of_another made tells is =
      there kept Refused false (not_first (is_made_of template it) (are_good axes (params_at it.block.spec it.changes) said.pairs) (sym (own made tells) ∙ is)) (refused blocks clock template before kept all)

  pub bad_change : (good : Bool) → TellsGood axes one.doer said.pairs good → good ≡ false → HasAnswered blocks clock template before (heard_known axes template before said place (slice_get before.ones place)) kept Refused
  bad_change good tells is =
      there kept Refused false (not_second (is_made_of template it) (are_good axes (params_at it.block.spec it.changes) said.pairs) (sym (tells it.block.spec it.changes found.2.doer) ∙ is)) (refused blocks clock template before kept all)

  pub is_changed : (made good : Bool) (doer : Doer) → TellsMaker blocks template one made → made ≡ true → TellsGood axes one.doer said.pairs good → good ≡ true
      → ((spec : Spec) (changes : List KindChange) → IsDoerOf spec changes one.doer → IsDoerOf spec (with_said axes changes said.pairs) doer)
      → HasAnswered blocks clock template before (heard_known axes template before said place (slice_get before.ones place)) (slice_set kept place (record one { doer = doer })) Changed
  is_changed made good doer tells owns tells' fine after =
      there (slice_set kept place (record one { doer = doer })) Changed true
      (both (is_made_of template it) (are_good axes (params_at it.block.spec it.changes) said.pairs) (sym (own made tells) ∙ owns) (sym (tells' it.block.spec it.changes found.2.doer) ∙ fine))
      (record {
        ones = set_in_both (IsKept blocks clock) before.ones kept place (changed_by axes said it) (record one { doer = doer }) all
            (record { name = found.2.name; block = found.2.block; made = found.2.made; doer = after it.block.spec it.changes found.2.doer; life = found.2.life; late = found.2.late });
        answer = refl;
      })

-- the name stands at one place in the list and in what is kept of it
place_kept : (blocks : List Block) (clock : ℕ) (name : List ℕ) (ones : List BhvSoFar) (kept : List Behavior) → AllZip (IsKept blocks clock) ones kept → position (is_kept_called name) kept ≡ position (bears_name name) ones
place_kept blocks clock name ones kept all = same_place (IsKept blocks clock) (bears_name name) (is_kept_called name) (λ one is-kept is. ap (λ n. bytes_eq n name) is.name) ones kept all

-- a letter for a name that stands at a place, and for one that doesn't
pub known_said : (axes : List Axis) (blocks : List Block) (clock at : ℕ) (template : Block) (before : Spawning) (said : NamedPairs) (kept after : List Behavior) (place : ℕ) (how : How) → AllZip (IsKept blocks clock) before.ones kept
    → position (is_kept_called said.name) kept ≡ Some place → HasAnswered blocks clock template before (heard_known axes template before said place (slice_get before.ones place)) after how
    → HasAnswered blocks clock template before (heard_said axes blocks at template before (Some said)) after how
known_said axes blocks clock at template before said kept after place how all is answers =
    subst (λ (found : Option ℕ). HasAnswered blocks clock template before (heard_at_place axes blocks at template before said found) after how)
    (sym is ∙ place_kept blocks clock said.name before.ones kept all) answers

pub new_said : (axes : List Axis) (blocks : List Block) (clock at : ℕ) (template : Block) (before : Spawning) (said : NamedPairs) (kept after : List Behavior) (how : How) → AllZip (IsKept blocks clock) before.ones kept
    → position (is_kept_called said.name) kept ≡ None → HasAnswered blocks clock template before (heard_new axes blocks at template before said) after how
    → HasAnswered blocks clock template before (heard_said axes blocks at template before (Some said)) after how
new_said axes blocks clock at template before said kept after how all is answers =
    subst (λ (found : Option ℕ). HasAnswered blocks clock template before (heard_at_place axes blocks at template before said found) after how)
    (sym is ∙ place_kept blocks clock said.name before.ones kept all) answers

abbrev update_told : List ℕ → How → Update
update_told name how = record { name = name; how = how }

-- a letter of the template's variable, and one of another
pub told_more : (axes : List Axis) (blocks : List Block) (clock at : ℕ) (template : Block) (before : Spawning) (letter : Pair) (said : Option NamedPairs) (after : Spawning) (kept : List Behavior) (told told' : List Update) (name : List ℕ) (how : How)
    → option_eq bytes_eq template.common.updates (Some letter.var) ≡ true → heard_said axes blocks at template before said ≡ after → HasAnswered blocks clock template before after kept how
    → told ≡ before.answers → name ≡ template.common.name → told' ≡ told ++ record { name = name; how = how } ∷ []
    → IsSpawning blocks clock (if option_eq bytes_eq template.common.updates (Some letter.var) then heard_said axes blocks at template before said else before) kept told'
told_more axes blocks clock at template before letter said after kept told told' name how is same answers were named more =
    by_test (λ now. IsSpawning blocks clock now kept told') true (option_eq bytes_eq template.common.updates (Some letter.var)) (heard_said axes blocks at template before said) before is
    (subst (λ now. IsSpawning blocks clock now kept told') (sym same)
    (record {
      ones = answers.ones;
      answers = more ∙ ap (λ list. list ++ update_told name how ∷ []) were ∙ ap (λ n. before.answers ++ update_told n how ∷ []) named ∙ sym answers.answer;
    }))

pub told_none : (blocks : List Block) (clock : ℕ) (asked : Bool) (before after : Spawning) (kept : List Behavior) (told : List Update) → asked ≡ false → IsSpawning blocks clock before kept told
    → IsSpawning blocks clock (if asked then after else before) kept told
told_none blocks clock asked before after kept told is so_far = by_test (λ now. IsSpawning blocks clock now kept told) false asked after before is so_far

-- the letters to the block at a place, by whether it is a template
pub heard_template : (axes : List Axis) (blocks : List Block) (clock at : ℕ) (letters : List Pair) (before : Spawning) (place : ℕ) (block other : Block) (kept : List Behavior) (told : List Update)
    → slice_get blocks place ≡ Some block → slice_get blocks place ≡ Some other → is_template block ≡ true → IsSpawning blocks clock (fold (heard_to axes blocks at block) before letters) kept told
    → IsSpawning blocks clock (heard_by axes blocks at letters before other) kept told
heard_template axes blocks clock at letters before place block other kept told there there' is spawning =
    let both : Some block ≡ Some other = sym there ∙ there' in
    let same : block ≡ other = cc in
    subst (λ it. IsSpawning blocks clock (heard_by axes blocks at letters before it) kept told) same
    (by_test (λ now. IsSpawning blocks clock now kept told) true (is_template block) (fold (heard_to axes blocks at block) before letters) before is spawning)

pub heard_other : (axes : List Axis) (blocks : List Block) (clock at : ℕ) (letters : List Pair) (before : Spawning) (place : ℕ) (block other : Block) (kept : List Behavior) (told : List Update)
    → slice_get blocks place ≡ Some block → slice_get blocks place ≡ Some other → is_template block ≡ false → IsSpawning blocks clock before kept told
    → IsSpawning blocks clock (heard_by axes blocks at letters before other) kept told
heard_other axes blocks clock at letters before place block other kept told there there' is spawning =
    let both : Some block ≡ Some other = sym there ∙ there' in
    let same : block ≡ other = cc in
    subst (λ it. IsSpawning blocks clock (heard_by axes blocks at letters before it) kept told) same
    (by_test (λ now. IsSpawning blocks clock now kept told) false (is_template block) (fold (heard_to axes blocks at block) before letters) before is spawning)

-- one letter more to a template
pub letter_more : (axes : List Axis) (blocks : List Block) (at : ℕ) (template : Block) (before : Spawning) (letters : List Letter) (i : ℕ) (letter : Letter) → i < length letters → letter ≡ get_or letters i letter
    → fold (heard_to axes blocks at template) before (pairs_mailed (take (i + 1) letters)) ≡ heard_to axes blocks at template (fold (heard_to axes blocks at template) before (pairs_mailed (take i letters))) (pair_posted letter.post)
letter_more axes blocks at template before letters i letter within is =
    ap (λ list. fold (heard_to axes blocks at template) before (pairs_mailed list)) (take_more letters i letter within ∙ ap (λ (one : Letter). take i letters ++ one ∷ []) (sym is))
    ∙ ap (fold (heard_to axes blocks at template) before) (map-append (λ (one : Letter). pair_posted one.post) (take i letters) (letter ∷ []))
    ∙ fold_push (heard_to axes blocks at template) before (pairs_mailed (take i letters)) (pair_posted letter.post)

-- the letters to one block more
pub block_next : (axes : List Axis) (blocks : List Block) (at : ℕ) (letters : List Pair) (before : Spawning) (i : ℕ) (P : Spawning → Type 0) → i < length blocks
    → ((block : Block) → slice_get blocks i ≡ Some block → P (heard_by axes blocks at letters (fold (heard_by axes blocks at letters) before (take i blocks)) block))
    → P (fold (heard_by axes blocks at letters) before (take (i + 1) blocks))
block_next axes blocks at letters before i P within hears =
    let found : (block : Block) × (slice_get blocks i ≡ Some block) = item_there blocks i within in
    subst P
    (sym (ap (λ n. fold (heard_by axes blocks at letters) before (take n blocks)) (add-one i) ∙ ap (fold (heard_by axes blocks at letters) before) (take_next blocks i found.0 found.1)
    ∙ fold_push (heard_by axes blocks at letters) before (take i blocks) found.0))
    (hears found.0 found.1)

-- some of what a list is mapped to, and some of the list
any_mapped : {A B : Type 0} (p : B → Bool) (f : A → B) (xs : List A) → list_any p (map f xs) ≡ list_any (λ x. p (f x)) xs
any_mapped p f [] = refl
any_mapped p f (x ∷ xs) = ap (λ rest. p (f x) || rest) (any_mapped p f xs)

-- a template is called by a letter of its variable, and a block that is none by no letter
pub called : (letters : List Letter) (block : Block) (template mailed : Bool) → template ≡ is_template block → template ≡ true
    → mailed ≡ list_any (λ (letter : Letter). option_eq bytes_eq block.common.updates (Some letter.post.var)) letters → mailed ≡ is_called_in (pairs_mailed letters) block
called letters block template mailed same holds any =
    let of_variable : Pair → Bool = λ letter. option_eq bytes_eq block.common.updates (Some letter.var) in
    any ∙ sym (any_mapped of_variable (λ (letter : Letter). pair_posted letter.post) letters) ∙ sym (ap (λ it. it && list_any of_variable (pairs_mailed letters)) (sym same ∙ holds))

-- letters that are to no template
letters_pass : (axes : List Axis) (blocks : List Block) (at : ℕ) (template : Block) (letters : List Pair) (before : Spawning) → list_any (λ (letter : Pair). option_eq bytes_eq template.common.updates (Some letter.var)) letters ≡ false
    → fold (heard_to axes blocks at template) before letters ≡ before
letters_pass axes blocks at template [] before none = refl
letters_pass axes blocks at template (letter ∷ letters) before none =
    let parts = neither (option_eq bytes_eq template.common.updates (Some letter.var)) (list_any (λ (letter : Pair). option_eq bytes_eq template.common.updates (Some letter.var)) letters) none in
    ap (λ it. fold (heard_to axes blocks at template) (if it then heard_said axes blocks at template before (said_by letter.value) else before) letters) parts.0
    ∙ letters_pass axes blocks at template letters before parts.1

block_passes : (axes : List Axis) (blocks : List Block) (at : ℕ) (letters : List Pair) (before : Spawning) (block : Block) → is_called_in letters block ≡ false → heard_by axes blocks at letters before block ≡ before
block_passes axes blocks at letters before block none = by (is_template block) none
  where
    by : (template : Bool) → (template && list_any (λ (letter : Pair). option_eq bytes_eq block.common.updates (Some letter.var)) letters) ≡ false → (if template then fold (heard_to axes blocks at block) before letters else before) ≡ before
    by true is = letters_pass axes blocks at block letters before is
    by false is = refl

blocks_pass : (axes : List Axis) (blocks : List Block) (at : ℕ) (letters : List Pair) (before : Spawning) (some : List Block) → list_any (is_called_in letters) some ≡ false → fold (heard_by axes blocks at letters) before some ≡ before
blocks_pass axes blocks at letters before [] none = refl
blocks_pass axes blocks at letters before (block ∷ some) none =
    let parts = neither (is_called_in letters block) (list_any (is_called_in letters) some) none in
    ap (λ now. fold (heard_by axes blocks at letters) now some) (block_passes axes blocks at letters before block parts.0) ∙ blocks_pass axes blocks at letters before some parts.1

pub none_called : (axes : List Axis) (blocks : List Block) (at : ℕ) (letters : List Pair) (ones : List BhvSoFar) → list_any (is_called_in letters) blocks ≡ false → spawned axes blocks at letters ones ≡ none_spawned ones
none_called axes blocks at letters ones none = blocks_pass axes blocks at letters (none_spawned ones) blocks none

-- What letters leave: nothing is made, one is made, one is changed; and one after the other.
pub spawned_same : (axes : List Axis) (blocks : List Block) (kept : List Behavior) → MaySpawn blocks kept → HasSpawned axes blocks kept kept
spawned_same axes blocks kept may = record { may = may; fit = λ steps fit. fit }

pub spawned_on : (axes : List Axis) (blocks : List Block) (first second third : List Behavior) → HasSpawned axes blocks first second → HasSpawned axes blocks second third → HasSpawned axes blocks first third
spawned_on axes blocks first second third one other = record { may = other.may; fit = λ steps fit. other.fit steps (one.fit steps fit) }

served_by : (axes : List Axis) (template : Block) (pairs : Option (List ℕ)) (doer : Doer) → MayStep axes template → IsDoerOf template.spec (with_said axes [] pairs) doer → IsReady axes doer
served_by axes template pairs doer may is = record {
  some = (template.spec, with_said axes [] pairs, is);
  served = doer_served axes template.spec (with_said axes [] pairs) doer is (serves_said axes template.spec [] pairs may.served);
}

pub spawned_made : (axes : List Axis) (blocks : List Block) (template : Block) (name : List ℕ) (pairs : Option (List ℕ)) (kept : List Behavior) (one : Behavior) → slice_get blocks one.block ≡ Some template
    → may_make blocks name (length kept) ≡ true → IsDoerOf template.spec (with_said axes [] pairs) one.doer → MaySpawn blocks kept → HasSpawned axes blocks kept (kept ++ one ∷ [])
spawned_made axes blocks template name pairs kept one of room doer may =
    let within : one.block < length blocks = slice_get_within blocks one.block template of in
    record {
      may = record {
        few = subst (λ long. AreFew blocks long) (sym (length-append kept (one ∷ []))) (room_left _ (count_by is_template blocks) (length kept) room);
        within = All-push (λ (it : Behavior). it.block < length blocks) kept one may.within within;
        valid = may.valid;
      };
      fit = λ steps fit.
          All-push (IsFitKept axes blocks) kept one fit (record { within = within; ready = served_by axes template pairs one.doer (holds_at (MayStep axes) blocks one.block template of steps) doer });
    }

pub spawned_changed : (axes : List Axis) (blocks : List Block) (kept : List Behavior) (place : ℕ) (one : Behavior) (doer : Doer) → slice_get kept place ≡ Some one
    → ((spec : Spec) (changes : List KindChange) → IsDoerOf spec changes one.doer → GoesOn axes spec changes doer) → MaySpawn blocks kept
    → HasSpawned axes blocks kept (slice_set kept place (record one { doer = doer }))
spawned_changed axes blocks kept place one doer at on may =
    let other : Behavior = record one { doer = doer } in
    record {
      may = record {
        few = subst (λ long. AreFew blocks long) (sym (length-set kept place other)) may.few;
        within = All-set (λ (it : Behavior). it.block < length blocks) kept place other (holds_at (λ (it : Behavior). it.block < length blocks) kept place one at may.within) may.within;
        valid = may.valid;
      };
      fit = λ steps fit.
          let was : IsFitKept axes blocks one = holds_at (IsFitKept axes blocks) kept place one at fit in
          All-set (IsFitKept axes blocks) kept place other (record { within = was.within; ready = ready_on axes one.doer doer on was.ready }) fit;
    }

-- what a list gives: letters to templates may come
valid_of : (axes : List Axis) (blocks : List Block) → All (MayStep axes) blocks → All (λ (block : Block). IsValidSpec block.spec) blocks
valid_of axes blocks may = All-weaker (MayStep axes) (λ (block : Block). IsValidSpec block.spec) (λ block steps. steps.valid) blocks may

within_of : (axes : List Axis) (blocks : List Block) (kept : List Behavior) → All (IsFitKept axes blocks) kept → All (λ (one : Behavior). one.block < length blocks) kept
within_of axes blocks kept fit = All-weaker (IsFitKept axes blocks) (λ (one : Behavior). one.block < length blocks) (λ one is. is.within) kept fit

pub list_may_spawn : (behavior_list : BehaviorListState) → IsBehaviorList behavior_list → MaySpawn behavior_list.blocks behavior_list.kept
list_may_spawn behavior_list is = record { few = is.few; within = within_of behavior_list.axes behavior_list.blocks behavior_list.kept is.fit; valid = valid_of behavior_list.axes behavior_list.blocks is.may_step }

-- a list's turns where no letter is to a template
pub uncalled_turned : (behavior_list : BehaviorListState) (stamp : ℕ) (letters : List Pair) (now : HelmView) (answers : List Update) (turned : TurnsEnded) → list_any (is_called_in letters) behavior_list.blocks ≡ false → answers ≡ []
    → HasTurned behavior_list stamp letters now turned → HasHeardAndTurned behavior_list stamp letters now answers turned
uncalled_turned behavior_list stamp letters now answers turned none empty ended clock at seen ones later sees stands =
    subst (λ spawning. IsHeardAndTurned behavior_list.axes behavior_list.blocks seen spawning answers turned) (sym (none_called behavior_list.axes behavior_list.blocks at letters ones none))
    (record { told = empty; ended = ended clock seen ones later sees stands })

-- and where some are
pub called_turned : (behavior_list : BehaviorListState) (stamp : ℕ) (letters : List Pair) (now : HelmView) (answers : List Update) (kept : List Behavior) (turned : TurnsEnded)
    → ((clock at : ℕ) (ones : List BhvSoFar) → IsSpawning behavior_list.blocks clock (none_spawned ones) behavior_list.kept [] → IsSpawning behavior_list.blocks clock (spawned behavior_list.axes behavior_list.blocks at letters ones) kept answers)
    → HasTurned (behavior_list_of behavior_list.axes behavior_list.blocks kept) stamp letters now turned → HasHeardAndTurned behavior_list stamp letters now answers turned
called_turned behavior_list stamp letters now answers kept turned spawns ended clock at seen ones later sees stands =
    let spawning = spawns clock at ones (record { ones = stands; answers = refl }) in
    record { told = spawning.answers; ended = ended clock seen (spawned behavior_list.axes behavior_list.blocks at letters ones).ones later sees spawning.ones }

pub list_few_fit : (behavior_list : BehaviorListState) (kept : List Behavior) (turned : TurnsEnded) → AreFew behavior_list.blocks (length kept) → AreFit behavior_list.axes behavior_list.blocks (length kept) turned → AreFewFit behavior_list.axes behavior_list.blocks turned
list_few_fit behavior_list kept turned few fit = record { count = length kept; few = few; fit = fit }
