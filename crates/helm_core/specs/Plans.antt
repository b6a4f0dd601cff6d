-- What a helm is made of, and the variables that it registers for.
use Rattle.std.specs.Prelude.{ℕ, Bool, ◌||◌, if◌then◌else◌, List, [], ◌∷◌, ◌++◌, map, fold, codes, bytes_eq}
use Rattle.std.specs.List.{flat_map, list_any}
use Rattle.std.specs.Option.{option_to_list}
use Rattle.moos_post.specs.declared.registration.Reg.{Reg}
use Rattle.moos_post.specs.declared.value.Pair.{Pair}
use Rattle.ivp_domain.specs.declared.axis.Axis.{Axis}
use Rattle.helm_cond.specs.Conditions.{names_in}
use Rattle.bhv_file.specs.declared.decl.Decl.{Decl}
use Rattle.bhv_file.specs.declared.file.BhvFile.{BhvFile}
use Rattle.bhv_file.specs.declared.file.Block.{Block}
use Rattle.mission_reader.specs.declared.mission.Mission.{Mission}

-- what a helm is made of: its domain, the pairs that it posts at first, its modes, and what its file says of behaviours, in order
pub record Plan : Type 0 where
  pub axes : List Axis
  pub opening : List Pair
  pub decls : List Decl
  pub blocks : List Block

-- the plan that a mission and a behaviour file make
abbrev pub plan_made : Mission → BhvFile → Plan
plan_made mission file = record { axes = mission.domain; opening = file.opening; decls = file.decls; blocks = file.blocks }

-- the block is a template: it never runs itself, and letters make behaviours of it
abbrev pub is_template : Block → Bool
is_template block = block.common.template

-- the variables of the override, in both spellings, and of position and depth
abbrev pub always_read : List (List ℕ)
always_read =
    codes "MOOS_MANUAL_OVERRIDE" ∷ codes "MOOS_MANUAL_OVERIDE" ∷ codes "NAV_X" ∷ codes "NAV_Y" ∷ codes "NAV_DEPTH" ∷ []

-- the variables of a declaration's conditions, from left to right
abbrev pub decl_names : Decl → List (List ℕ)
decl_names decl = flat_map names_in decl.conds

-- the variables of the conditions of a behaviour or a template, and then the one of its updates
abbrev pub block_names : Block → List (List ℕ)
block_names block = flat_map names_in block.common.conds ++ option_to_list block.common.updates

-- every variable that the helm reads, in order, some of them several times
abbrev pub names_read : Plan → List (List ℕ)
names_read plan = always_read ++ flat_map decl_names plan.decls ++ flat_map block_names plan.blocks

-- the names, and this one if it isn't among them; MODE is the helm's own and never wanted
abbrev pub with_wanted : List (List ℕ) → List ℕ → List (List ℕ)
with_wanted names name = if bytes_eq name (codes "MODE") || list_any (bytes_eq name) names then names else names ++ name ∷ []

-- a registration for a variable, from everybody and at any time
abbrev pub reg_wanted : List ℕ → Reg
reg_wanted name = record { var = name; source = codes "*"; interval = 0 }

-- The helm registers for each variable that it reads, once.
abbrev pub wants_of : Plan → List Reg
wants_of plan = map reg_wanted (fold with_wanted [] (names_read plan))
