-- Modes worked by hand.
use Rattle.std.proofs.Common.{◌≡◌, ℕ, List, [], ◌∷◌, map, Option, Some, None, refl}
use Rattle.std.specs.Prelude.{codes}
use Rattle.std.specs.List.{range_with_len}
use Rattle.moos_post.specs.declared.value.Pair.{Pair}
use Rattle.moos_post.specs.declared.value.Value.TheVariants.{Text}
use Rattle.helm_cond.specs.declared.operator.Operator.TheVariants.{Equal}
use Rattle.helm_cond.specs.Conditions.{Condition, Compare}
use Rattle.helm_cond.specs.Learnt.{latest_of}
use Rattle.bhv_file.specs.declared.decl.Decl.{Decl}
use Rattle.mode_tree.specs.Modes.{Named, Other, mode_of, mode_text}

-- the variable is this text
abbrev is : List ℕ → List ℕ → Condition
is var text = Compare (record { var = var; operator = Equal; literal = Text text })

abbrev says : List ℕ → List ℕ → Pair
says var text = record { var = var; value = Text text }

abbrev root : List ℕ → Condition → Option (List ℕ) → Decl
root name condition other = record { name = name; parent = None; conds = condition ∷ []; other = other }

abbrev child : List ℕ → ℕ → List ℕ → Condition → Option (List ℕ) → Decl
child name parent parent_name condition other =
    record { name = name; parent = Some parent; conds = is (codes "MODE") parent_name ∷ condition ∷ []; other = other }

-- ACTIVE, else INACTIVE; while active SURVEYING, else RETURNING.
abbrev survey : List Decl
survey =
    root (codes "ACTIVE") (is (codes "DEPLOY") (codes "true")) (Some (codes "INACTIVE"))
    ∷ child (codes "SURVEYING") 0 (codes "ACTIVE") (is (codes "SURVEY") (codes "true")) None
    ∷ child (codes "RETURNING") 0 (codes "ACTIVE") (is (codes "RETURN") (codes "true")) None ∷ []

abbrev orders : List ℕ → List ℕ → List ℕ → List Pair
orders deploy survey return = says (codes "DEPLOY") deploy ∷ says (codes "SURVEY") survey ∷ says (codes "RETURN") return ∷ []

abbrev mode : List Decl → List Pair → List ℕ
mode decls learnt = mode_text decls (latest_of learnt)

-- Of two children that are met the first counts.
first_child : mode survey (orders (codes "true") (codes "true") (codes "true")) ≡ codes "ACTIVE:SURVEYING"
first_child = refl

second_child : mode survey (orders (codes "true") (codes "false") (codes "true")) ≡ codes "ACTIVE:RETURNING"
second_child = refl

no_child : mode survey (orders (codes "true") (codes "false") (codes "false")) ≡ codes "ACTIVE"
no_child = refl

-- A child isn't asked where its parent isn't met.
other_name : mode survey (orders (codes "false") (codes "true") (codes "true")) ≡ codes "INACTIVE"
other_name = refl

other_part : mode_of survey (latest_of []) ≡ Other 0 ∷ []
other_part = refl

-- Two roots, the second one with children declared around another root; A has an OTHER name, which B's siblings share.
abbrev wood : List Decl
wood =
    root (codes "A") (is (codes "P") (codes "a")) None
    ∷ root (codes "B") (is (codes "P") (codes "b")) (Some (codes "NO_B"))
    ∷ child (codes "B1") 1 (codes "B") (is (codes "Q") (codes "1")) None
    ∷ root (codes "C") (is (codes "P") (codes "c")) (Some (codes "NO_C"))
    ∷ child (codes "B2") 1 (codes "B") (is (codes "Q") (codes "2")) (Some (codes "NO_B2"))
    ∷ child (codes "B2x") 4 (codes "B:B2") (is (codes "R") (codes "x")) (Some (codes "NO_B2x")) ∷ []

-- The OTHER name is that of the first sibling that has one, and not of the first sibling.
later_other : mode wood [] ≡ codes "NO_B"
later_other = refl

no_children : mode wood (says (codes "P") (codes "a") ∷ []) ≡ codes "A"
no_children = refl

below_other : mode wood (says (codes "P") (codes "b") ∷ []) ≡ codes "B:NO_B2"
below_other = refl

first_below : mode wood (says (codes "P") (codes "b") ∷ says (codes "Q") (codes "1") ∷ []) ≡ codes "B:B1"
first_below = refl

deep : mode_of wood (latest_of (says (codes "P") (codes "b") ∷ says (codes "Q") (codes "2") ∷ says (codes "R") (codes "x") ∷ [])) ≡ Named 1 ∷ Named 4 ∷ Named 5 ∷ []
deep = refl

deep_other : mode wood (says (codes "P") (codes "b") ∷ says (codes "Q") (codes "2") ∷ []) ≡ codes "B:B2:NO_B2x"
deep_other = refl

last_root : mode wood (says (codes "P") (codes "c") ∷ says (codes "Q") (codes "1") ∷ []) ≡ codes "C"
last_root = refl

none : mode [] [] ≡ []
none = refl

-- Sixteen declarations, each the child of the one before: the path has all of them.
abbrev chain : List Decl
chain = root (codes "A") (is (codes "P") (codes "p")) None
    ∷ map (λ parent. child (codes "A") parent (codes "A") (is (codes "P") (codes "p")) None) (range_with_len 0 15)

sixteen : mode_of chain (latest_of (says (codes "P") (codes "p") ∷ [])) ≡ map Named (range_with_len 0 16)
sixteen = refl
