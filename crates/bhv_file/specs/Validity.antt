-- What every behaviour file keeps that was read.
use Rattle.std.specs.Prelude.{◌≡◌, ℕ, ◌^◌, ◌<◌, ◌≤◌, Bool, true, false, not, ◌&&◌, ◌||◌, List, [], ◌∷◌, ◌++◌, length, codes, bytes_eq, IsTrue, IfSome, Option, Some, None, is_some, Result, Ok}
use Rattle.std.specs.List.{All, list_all, list_any}
use Rattle.std.specs.Option.{option_or}
use Rattle.moos_post.specs.declared.value.Pair.{Pair}
use Rattle.moos_post.specs.declared.value.Value.{Value}
use Rattle.moos_post.specs.Entries.{IsPair}
use Rattle.moos_post.specs.Words.{is_name}
use Rattle.moos_text.specs.declared.cause.Cause.{Cause}
use Rattle.moos_text.specs.Refusals.{and_then}
use Rattle.helm_cond.specs.Conditions.{Condition, HasNames, names_in, parent_of}
use Rattle.ivp_domain.specs.declared.axis.Axis.{Axis}
use Rattle.bhv_file.specs.declared.common.Common.{Common}
use Rattle.bhv_file.specs.declared.decl.Decl.{Decl}
use Rattle.bhv_file.specs.declared.file.BhvFile.{BhvFile}
use Rattle.bhv_file.specs.declared.file.Block.{Block}
use Rattle.bhv_file.specs.declared.file.Unused.{Unused}
use Rattle.bhv_file.specs.declared.spec.Spec.{Spec}
use Rattle.bhv_file.specs.Paths.{the_one, meant_by, parent_path, paths_of}
use Rattle.bhv_file.specs.Params.{has_axes, keeps_relations, lacks_places}
use Rattle.bhv_file.specs.Ranges.{KeepsRanges}
use Rattle.bhv_file.specs.Serving.{suits}

-- the condition names the mode
abbrev pub names_mode : Condition → Bool
names_mode cond = list_any (bytes_eq (codes "MODE")) (names_in cond)

-- a mode has a parent line already
abbrev pub has_parent_line : List Condition → Bool
has_parent_line conds = list_any (λ cond. is_some (parent_of cond)) conds

-- a condition of a mode is in its form: one that names MODE is a parent line, and there is at most one such line
abbrev pub fits_mode : List Condition → Condition → Bool
fits_mode conds cond = not (names_mode cond) || (is_some (parent_of cond) && not (has_parent_line conds))

-- each of the conditions fits a mode that has those before it
abbrev pub fit_mode : List Condition → List Condition → Bool
fit_mode before [] = true
fit_mode before (cond ∷ conds) = fits_mode before cond && fit_mode (before ++ cond ∷ []) conds

-- what the parent line among conditions names
abbrev pub parent_line : List Condition → Option Value
parent_line [] = None
parent_line (cond ∷ conds) = option_or (parent_of cond) (parent_line conds)

-- the number of the parent among earlier declarations, by the parent line
abbrev pub parent_said : List Decl → Option Value → Result (Option ℕ) Cause
parent_said earlier None = Ok None
parent_said earlier (Some literal) = and_then (λ number. Ok (Some number)) (the_one (meant_by earlier literal))

-- A declaration behind earlier ones: what is named in it has a name's form, its conditions are at most 64 and fit a mode, its
-- parent is the one that they name, and its path has at most 16 names.
pub record IsDecl (earlier : List Decl) (decl : Decl) : Type 0 where
  pub name : IsTrue (is_name decl.name)
  pub other : IfSome decl.other (λ name. IsTrue (is_name name))
  pub conds : All HasNames decl.conds
  pub few : length decl.conds ≤ 64
  pub fit : IsTrue (fit_mode [] decl.conds)
  pub parent : parent_said earlier (parent_line decl.conds) ≡ Ok decl.parent
  pub before : IfSome decl.parent (λ parent. parent < length earlier)
  pub short : length (parent_path (paths_of earlier) decl.parent) < 16

-- each of these is a declaration behind those before it
abbrev pub AreDecls : List Decl → List Decl → Type 0
AreDecls earlier [] = Unit {0}
AreDecls earlier (decl ∷ decls) = IsDecl earlier decl × AreDecls (earlier ++ decl ∷ []) decls

-- the flags of all kinds that a behaviour has
abbrev pub flags_of : Common → List Pair
flags_of common = common.runflags ++ (common.idleflags ++ (common.activeflags ++ (common.inactiveflags ++ common.endflags)))

-- What is named in a behaviour has a name's form, and its flags are pairs. It has at most 64 conditions and 32 flags, and lasts
-- at most 1,000,000 seconds or for ever. A template has `updates`.
pub record IsValidCommon (common : Common) : Type 0 where
  pub name : IsTrue (is_name common.name)
  pub updates : IfSome common.updates (λ name. IsTrue (is_name name))
  pub conds : All HasNames common.conds
  pub flags : All IsPair (flags_of common)
  pub few_conds : length common.conds ≤ 64
  pub few_flags : length (flags_of common) ≤ 32
  pub lasts : IfSome common.duration (λ time. time ≤ 10 ^ 9)
  pub heard : IsTrue common.template → IsTrue (is_some common.updates)

-- A behaviour's parameters are in their ranges, its places are given, and the relations between its parameters hold.
pub record IsValidSpec (spec : Spec) : Type 0 where
  pub ranges : KeepsRanges spec
  pub given : lacks_places spec.shape ≡ false
  pub relations : IsTrue (keeps_relations spec.shape)

-- a name is that of one of these behaviours
abbrev pub is_taken : List Block → List ℕ → Bool
is_taken blocks name = list_any (λ block. bytes_eq block.common.name name) blocks

-- A behaviour behind earlier ones: it is valid, and none of them has its name.
pub record IsBlock (earlier : List Block) (block : Block) : Type 0 where
  pub common : IsValidCommon block.common
  pub spec : IsValidSpec block.spec
  pub named : is_taken earlier block.common.name ≡ false

-- each of these is a behaviour behind those before it
abbrev pub AreBlocks : List Block → List Block → Type 0
AreBlocks earlier [] = Unit {0}
AreBlocks earlier (block ∷ blocks) = IsBlock earlier block × AreBlocks (earlier ++ block ∷ []) blocks

-- A file has at most 256 opening pairs, as many declarations and 64 behaviours, each of which is one behind those before it. The
-- pairs and the unused parameters' names are in the form of pairs and names.
pub record IsValidFile (file : BhvFile) : Type 0 where
  pub opening : All IsPair file.opening
  pub unused : All (λ (unused : Unused). IsTrue (is_name unused.name)) file.unused
  pub few_pairs : length file.opening ≤ 256
  pub few_decls : length file.decls ≤ 256
  pub decls : AreDecls [] file.decls
  pub few_blocks : length file.blocks ≤ 64
  pub blocks : AreBlocks [] file.blocks

-- the domain has the axes that each of these behaviours needs, and suits it
abbrev pub serves : List Axis → List Block → Bool
serves domain blocks = list_all (λ block. has_axes domain block.spec.shape && suits domain block.spec.shape) blocks
