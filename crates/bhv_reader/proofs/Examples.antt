-- Behaviour files and refusals worked by hand.
use Rattle.std.proofs.Common.{◌≡◌, ℕ, List, [], ◌∷◌, ◌++◌, Some, None, refl}
use Rattle.std.specs.Prelude.{codes, Ok, Err, pos, Result}
use Rattle.moos_post.specs.declared.value.Value.TheVariants.{Num, Text}
use Rattle.moos_text.specs.declared.cause.Cause.TheVariants.{B1, B2, B3, B5, B7, B8}
use Rattle.moos_text.specs.declared.cause.ReadFault.{ReadFault}
use Rattle.moos_text.specs.declared.cause.ReadFault.TheVariants.{At}
use Rattle.helm_cond.specs.declared.operator.Operator.TheVariants.{Equal}
use Rattle.helm_cond.specs.Conditions.{Compare, Condition}
use Rattle.bhv_file.specs.declared.file.BhvFile.{BhvFile}
use Rattle.bhv_reader.specs.Behaviors.{behaviors_of}

-- a variable has this text
abbrev is : List ℕ → List ℕ → Condition
is var text = Compare (record { var = var; operator = Equal; literal = Text text })

-- a root with an OTHER name, and a child of it
abbrev survey : List ℕ
survey = codes "initialize DEPLOY = 1 // off\nset MODE = ACTIVE {\n DEPLOY = true\n} INACTIVE\nSet MODE = SURVEYING\n\n{\n MODE = active\n}\n"

two_modes : behaviors_of [] survey
    ≡ Ok (record {
      opening = record { var = codes "DEPLOY"; value = Num (pos 1000) } ∷ [];
      decls = record { name = codes "ACTIVE"; parent = None; conds = is (codes "DEPLOY") (codes "true") ∷ []; other = Some (codes "INACTIVE") }
          ∷ record { name = codes "SURVEYING"; parent = Some 0; conds = is (codes "MODE") (codes "active") ∷ []; other = None } ∷ [];
      blocks = [];
      unused = [];
    })
two_modes = refl

-- behind these modes, of which the last line is line 9
abbrev behind : List ℕ → Result BhvFile ReadFault
behind lines = behaviors_of [] (survey ++ lines)

path_of_two_parts : behind (codes "set MODE = A {\nMODE = Active:Surveying\n}\nset MODE = B {\nMODE = ACTIVE\n} C:D\n") ≡ Err (At 15 B1)
path_of_two_parts = refl

parts_behind_one_another : behind (codes "set MODE = A {\nMODE = Surveying:Active\n}") ≡ Err (At 11 B7)
parts_behind_one_another = refl

two_are_meant : behind (codes "set MODE = SURVEYING {\n}\nset MODE = A {\nMODE = SURVEYING\n}") ≡ Err (At 13 B8)
two_are_meant = refl

second_parent : behind (codes "set MODE = A {\nMODE = ACTIVE\nMODE = ACTIVE") ≡ Err (At 12 B5)
second_parent = refl

parent_in_a_condition : behind (codes "set MODE = A {\nnot MODE = ACTIVE") ≡ Err (At 11 B5)
parent_in_a_condition = refl

no_end : behind (codes "set MODE = A {\n\n") ≡ Err (At 11 B2)
no_end = refl

no_type : behind (codes "Behavior = {") ≡ Err (At 10 B1)
no_type = refl

unknown_type : behind (codes "behavior = BHV_Way\n{") ≡ Err (At 10 B3)
unknown_type = refl
