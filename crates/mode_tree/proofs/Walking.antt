-- A walk over the declarations comes to the mode.
use Rattle.std.proofs.Common.{◌≡◌, ℕ, zero, suc, ◌+◌, ◌<◌, ◌≤◌, Bool, true, false, not, ◌&&◌, List, [], ◌∷◌, ◌++◌, length, map, take, drop, Option, Some, None, refl, ap, sym, ◌∙◌, append_assoc, append-nil, arith}
use Rattle.std.proofs.Math.ListN.{set}
use Rattle.std.specs.Prelude.{nat_eq, nat_lt, is_some, if◌then◌else◌}
use Rattle.std.specs.Option.{option_eq}
use Rattle.std.proofs.lemmas.Bool.Decides.{nat_tests}
use Rattle.std.proofs.lemmas.List.{take_more_set, length-set, map-append}
use Rattle.bhv_file.specs.declared.decl.Decl.{Decl}
use Rattle.helm_cond.specs.Learnt.{Knowledge}
use Rattle.mode_tree.specs.declared.walk.Walk.{Walk}
use Rattle.mode_tree.specs.Modes.{ModePart, Named, Other, has_other, is_met}
use Rattle.mode_tree.specs.Paths.{parts_by, parts_of_path, are_below, ends_with_other, IsPathOf}
use Rattle.mode_tree.specs.Scans.{other_with, other_part, scan, ComesTo, IsWithin}
use Rattle.mode_tree.proofs.Scanned.{and_left, and_right}

-- what a walk is after a declaration that it goes into
abbrev pub into : Walk → ℕ → Walk
into walk number = record {
  path = record walk.path { len = walk.path.len + 1; decls = set walk.path.decls walk.path.len number };
  parent = Some number;
  other = None;
}

-- and after one whose OTHER name may count
abbrev pub aside : Walk → ℕ → Decl → Walk
aside walk number decl = record walk { other = other_with walk.other number decl }

named_more : (numbers : List ℕ) (len number : ℕ) → len < length numbers → map Named (take (len + 1) (set numbers len number)) ≡ map Named (take len numbers) ++ Named number ∷ []
named_more numbers len number within = ap (map Named) (take_more_set numbers len number within) ∙ map-append Named (take len numbers) (number ∷ [])

module _ (known : Knowledge) (walk : Walk) (number : ℕ) (decl : Decl) (more : List Decl) (all : List ModePart) where
  -- a path of 16 parts goes no further
  pub full_on : 16 ≤ walk.path.len → ComesTo known walk number (decl ∷ more) all → ComesTo known walk (number + 1) more all
  full_on full comes = record {
    parts = comes.parts;
    room = comes.room;
    row = comes.row;
    named = comes.named;
    is = by comes.parts comes.room comes.is;
  }
    where
      by : (parts : ℕ) → walk.path.len + parts ≡ 16 → map Named (take walk.path.len walk.path.decls) ++ scan known parts walk.parent walk.other number (decl ∷ more) ≡ all →
          map Named (take walk.path.len walk.path.decls) ++ scan known parts walk.parent walk.other (number + 1) more ≡ all
      by zero room is = is
      by (suc parts) room is = absurd (omega arith)

  -- a declaration elsewhere is passed over
  pub elsewhere_on : option_eq nat_eq decl.parent walk.parent ≡ false → ComesTo known walk number (decl ∷ more) all → ComesTo known walk (number + 1) more all
  elsewhere_on off comes = record {
    parts = comes.parts;
    room = comes.room;
    row = comes.row;
    named = comes.named;
    is = by comes.parts comes.is;
  }
    where
      by : (parts : ℕ) → map Named (take walk.path.len walk.path.decls) ++ scan known parts walk.parent walk.other number (decl ∷ more) ≡ all →
          map Named (take walk.path.len walk.path.decls) ++ scan known parts walk.parent walk.other (number + 1) more ≡ all
      by zero is = is
      by (suc parts) is =
          ap (λ own. map Named (take walk.path.len walk.path.decls)
          ++ (if own then (if is_met known decl then Named number ∷ scan known parts (Some number) None (number + 1) more else scan known (suc parts) walk.parent (other_with walk.other number decl) (number + 1) more)
          else scan known (suc parts) walk.parent walk.other (number + 1) more)) (sym off)
          ∙ is

  -- one that is met is gone into
  pub met_on : walk.path.len < 16 → option_eq nat_eq decl.parent walk.parent ≡ true → is_met known decl ≡ true → ComesTo known walk number (decl ∷ more) all → ComesTo known (into walk number) (number + 1) more all
  met_on room own met comes = by comes.parts comes.room comes.is
    where
      by : (parts : ℕ) → walk.path.len + parts ≡ 16 → map Named (take walk.path.len walk.path.decls) ++ scan known parts walk.parent walk.other number (decl ∷ more) ≡ all →
          ComesTo known (into walk number) (number + 1) more all
      by zero left is = absurd (omega arith)
      by (suc parts) left is = record {
        parts = parts;
        room = omega arith;
        row = length-set walk.path.decls walk.path.len number ∙ comes.row;
        named = comes.named;
        is =
            ap (λ front. front ++ scan known parts (Some number) None (number + 1) more) (named_more walk.path.decls walk.path.len number (omega (arith, comes.row)))
            ∙ append_assoc (map Named (take walk.path.len walk.path.decls)) (Named number ∷ []) (scan known parts (Some number) None (number + 1) more)
            ∙ ap (λ test. map Named (take walk.path.len walk.path.decls)
            ++ (if test then Named number ∷ scan known parts (Some number) None (number + 1) more else scan known (suc parts) walk.parent (other_with walk.other number decl) (number + 1) more)) (sym met)
            ∙ ap (λ test. map Named (take walk.path.len walk.path.decls)
            ++ (if test then (if is_met known decl then Named number ∷ scan known parts (Some number) None (number + 1) more else scan known (suc parts) walk.parent (other_with walk.other number decl) (number + 1) more)
            else scan known (suc parts) walk.parent walk.other (number + 1) more)) (sym own)
            ∙ is;
      }

  -- and of one that isn't the OTHER name may count
  pub aside_on : walk.path.len < 16 → option_eq nat_eq decl.parent walk.parent ≡ true → is_met known decl ≡ false → ComesTo known walk number (decl ∷ more) all → ComesTo known (aside walk number decl) (number + 1) more all
  aside_on room own unmet comes = record {
    parts = comes.parts;
    room = comes.room;
    row = comes.row;
    named = comes.named;
    is = by comes.parts comes.room comes.is;
  }
    where
      by : (parts : ℕ) → walk.path.len + parts ≡ 16 → map Named (take walk.path.len walk.path.decls) ++ scan known parts walk.parent walk.other number (decl ∷ more) ≡ all →
          map Named (take walk.path.len walk.path.decls) ++ scan known parts walk.parent (other_with walk.other number decl) (number + 1) more ≡ all
      by zero left is = absurd (omega arith)
      by (suc parts) left is =
          ap (λ test. map Named (take walk.path.len walk.path.decls)
          ++ (if test then Named number ∷ scan known parts (Some number) None (number + 1) more else scan known (suc parts) walk.parent (other_with walk.other number decl) (number + 1) more)) (sym unmet)
          ∙ ap (λ test. map Named (take walk.path.len walk.path.decls)
          ++ (if test then (if is_met known decl then Named number ∷ scan known parts (Some number) None (number + 1) more else scan known (suc parts) walk.parent (other_with walk.other number decl) (number + 1) more)
          else scan known (suc parts) walk.parent walk.other (number + 1) more)) (sym own)
          ∙ is

-- the parts of a path without an OTHER name, and of one with one at the end
all_named : (numbers : List ℕ) → parts_by false numbers ≡ map Named numbers
all_named [] = refl
all_named (number ∷ []) = refl
all_named (number ∷ next ∷ rest) = ap (λ more. Named number ∷ more) (all_named (next ∷ rest))

last_other : (numbers : List ℕ) (number : ℕ) → parts_by true (numbers ++ number ∷ []) ≡ map Named numbers ++ Other number ∷ []
last_other [] number = refl
last_other (first ∷ []) number = refl
last_other (first ∷ next ∷ rest) number = ap (λ more. Named first ∷ more) (last_other (next ∷ rest) number)

-- the walk's end
pub other_end : (known : Knowledge) (walk : Walk) (number other : ℕ) (all : List ModePart) → walk.other ≡ Some other → walk.path.len < 16 → ComesTo known walk number [] all →
    parts_by true (take (walk.path.len + 1) (set walk.path.decls walk.path.len other)) ≡ all
other_end known walk number other all has room comes = by comes.parts comes.room comes.is
  where
    by : (parts : ℕ) → walk.path.len + parts ≡ 16 → map Named (take walk.path.len walk.path.decls) ++ scan known parts walk.parent walk.other number [] ≡ all →
        parts_by true (take (walk.path.len + 1) (set walk.path.decls walk.path.len other)) ≡ all
    by zero left is = absurd (omega arith)
    by (suc parts) left is =
        ap (parts_by true) (take_more_set walk.path.decls walk.path.len other (omega (arith, comes.row)))
        ∙ last_other (take walk.path.len walk.path.decls) other
        ∙ ap (λ one. map Named (take walk.path.len walk.path.decls) ++ other_part one) (sym has) ∙ is

pub plain_end : (known : Knowledge) (walk : Walk) (number : ℕ) (all : List ModePart) → ((other : ℕ) → walk.other ≡ Some other → 16 ≤ walk.path.len) → ComesTo known walk number [] all →
    parts_of_path walk.path ≡ all
plain_end known walk number all full comes =
    ap (λ other. parts_by other (take walk.path.len walk.path.decls)) comes.named ∙ all_named (take walk.path.len walk.path.decls)
    ∙ by walk.other full comes.parts comes.room comes.is
  where
    by : (counts : Option ℕ) → ((other : ℕ) → counts ≡ Some other → 16 ≤ walk.path.len) → (parts : ℕ) → walk.path.len + parts ≡ 16 →
        map Named (take walk.path.len walk.path.decls) ++ scan known parts walk.parent counts number [] ≡ all → map Named (take walk.path.len walk.path.decls) ≡ all
    by counts full zero left is = sym (append-nil (map Named (take walk.path.len walk.path.decls))) ∙ is
    by None full (suc parts) left is = sym (append-nil (map Named (take walk.path.len walk.path.decls))) ∙ is
    by (Some other) full (suc parts) left is = absurd (let long : 16 ≤ walk.path.len = full other refl in omega arith)

pub not_false : (b : Bool) → not b ≡ false → b ≡ true
not_false true h = refl
not_false false h = absurd (let e : true ≡ false = h in cc)

pub not_true : (b : Bool) → not b ≡ true → b ≡ false
not_true false h = refl
not_true true h = absurd (let e : false ≡ true = h in cc)

below_more : (number : ℕ) (numbers : List ℕ) → are_below number numbers ≡ true → are_below (number + 1) numbers ≡ true
below_more number [] all = refl
below_more number (one ∷ rest) all =
    let first : nat_lt one number ≡ true = and_left (nat_lt one number) (are_below number rest) all in
    let more : nat_lt one (number + 1) ≡ true = grind (arith, nat_tests) in
    ap (λ test. test && are_below (number + 1) rest) more ∙ below_more number rest (and_right (nat_lt one number) (are_below number rest) all)

below_push : (number : ℕ) (numbers : List ℕ) (last : ℕ) → are_below number numbers ≡ true → last < number → are_below number (numbers ++ last ∷ []) ≡ true
below_push number [] last all below = let test : nat_lt last number ≡ true = grind (arith, nat_tests) in ap (λ first. first && true) test
below_push number (one ∷ rest) last all below =
    ap (λ test. test && are_below number (rest ++ last ∷ [])) (and_left (nat_lt one number) (are_below number rest) all)
    ∙ below_push number rest last (and_right (nat_lt one number) (are_below number rest) all) below

-- a walk stays within the declarations that it has seen
pub within_more : (decls : List Decl) (number : ℕ) (walk : Walk) → IsWithin decls number walk → IsWithin decls (number + 1) walk
within_more decls number walk within = record {
  short = within.short;
  row = within.row;
  below = below_more number (take walk.path.len walk.path.decls) within.below;
  plain = within.plain;
  other = λ one is. (let before : one < number = (within.other one is).0 in omega arith, (within.other one is).1);
}

pub within_into : (decls : List Decl) (number : ℕ) (walk : Walk) → walk.path.len < 16 → IsWithin decls number walk → IsWithin decls (number + 1) (into walk number)
within_into decls number walk room within = record {
  short = omega arith;
  row = length-set walk.path.decls walk.path.len number ∙ within.row;
  below =
      ap (are_below (number + 1)) (take_more_set walk.path.decls walk.path.len number (omega (arith, within.row)))
      ∙ below_push (number + 1) (take walk.path.len walk.path.decls) number (below_more number (take walk.path.len walk.path.decls) within.below) (omega arith);
  plain = within.plain;
  other = λ one is. absurd (let e : None ≡ Some one = is in cc);
}

pub within_aside : (decls : List Decl) (number : ℕ) (walk : Walk) (decl : Decl) → has_other decls number ≡ is_some decl.other → IsWithin decls number walk → IsWithin decls (number + 1) (aside walk number decl)
within_aside decls number walk decl own within = record {
  short = within.short;
  row = within.row;
  below = below_more number (take walk.path.len walk.path.decls) within.below;
  plain = within.plain;
  other = by walk.other within.other;
}
  where
    if_has : (has : Bool) → has_other decls number ≡ has → (one : ℕ) → (if has then Some number else None) ≡ Some one → (one < number + 1) × (has_other decls one ≡ true)
    if_has true is one same = let e : number ≡ one = cc in (omega arith, ap (has_other decls) (sym e) ∙ is)
    if_has false is one same = absurd (let e : None ≡ Some one = same in cc)

    by : (counts : Option ℕ) → ((one : ℕ) → counts ≡ Some one → (one < number) × (has_other decls one ≡ true)) →
        (one : ℕ) → other_with counts number decl ≡ Some one → (one < number + 1) × (has_other decls one ≡ true)
    by (Some other) before one is = (let below : one < number = (before one is).0 in omega arith, (before one is).1)
    by None before one is = if_has (is_some decl.other) own one is

-- a declaration further on has an OTHER name where its row says so
pub other_at : (decls : List Decl) (number : ℕ) (decl : Decl) (more : List Decl) → drop number decls ≡ decl ∷ more → has_other decls number ≡ is_some decl.other
other_at [] zero decl more is = absurd (let e : [] ≡ decl ∷ more = is in cc)
other_at [] (suc number) decl more is = absurd (let e : [] ≡ decl ∷ more = is in cc)
other_at (first ∷ rest) zero decl more is = let same : first ≡ decl = cc in ap (λ (one : Decl). is_some one.other) same
other_at (first ∷ rest) (suc number) decl more is = other_at rest number decl more is

-- and so does its path
pub path_within : (decls : List Decl) (walk : Walk) → IsWithin decls (length decls) walk → IsPathOf decls walk.path
path_within decls walk within = record {
  short = within.short;
  declared = within.below;
  other = λ is. absurd (let e : true ≡ false = sym is ∙ within.plain in cc);
}

pub other_within : (decls : List Decl) (walk : Walk) (other : ℕ) → walk.path.len < 16 → walk.other ≡ Some other → IsWithin decls (length decls) walk →
    are_below (length decls) (take (walk.path.len + 1) (set walk.path.decls walk.path.len other)) ≡ true
other_within decls walk other room has within =
    ap (are_below (length decls)) (take_more_set walk.path.decls walk.path.len other (omega (arith, within.row)))
    ∙ below_push (length decls) (take walk.path.len walk.path.decls) other within.below (within.other other has).0

last_has : (decls : List Decl) (numbers : List ℕ) (last : ℕ) → ends_with_other decls (numbers ++ last ∷ []) ≡ has_other decls last
last_has decls [] last = refl
last_has decls (one ∷ []) last = refl
last_has decls (one ∷ next ∷ rest) last = last_has decls (next ∷ rest) last

pub other_last : (decls : List Decl) (walk : Walk) (other : ℕ) → walk.path.len < 16 → walk.other ≡ Some other → IsWithin decls (length decls) walk →
    ends_with_other decls (take (walk.path.len + 1) (set walk.path.decls walk.path.len other)) ≡ true
other_last decls walk other room has within =
    ap (ends_with_other decls) (take_more_set walk.path.decls walk.path.len other (omega (arith, within.row)))
    ∙ last_has decls (take walk.path.len walk.path.decls) other ∙ (within.other other has).1
