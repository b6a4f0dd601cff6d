-- The plan of a valid mission and a valid behaviour file is well formed.
use Rattle.std.proofs.Common.{◌≡◌, ℕ, Bool, true, false, cond, ◌&&◌, ◌||◌, nat_le, List, [], ◌∷◌, ◌++◌, length, map, flat_map, Option, Some, None, refl, arith}
use Rattle.std.specs.Prelude.{IfSome, IsTrue, bytes_eq, codes, fold}
use Rattle.std.specs.List.{All, list_all, list_any, AllByRecursion as Each}
use Rattle.std.specs.Option.{option_to_list}
use Rattle.std.proofs.lemmas.Bool.{and_parts}
use Rattle.std.proofs.lemmas.Bool.Decides.{nat_tests}
use Rattle.std.proofs.lemmas.List.Elements.{All-from_recursion, recursion_from_All}
use Rattle.moos_io.proofs.Lists.{each_append, each_true, each_weaker, true_each}
use Rattle.moos_post.specs.Entries.{IsPair, IsReg}
use Rattle.moos_post.specs.Words.{begins_name, is_name_byte, is_pattern, is_pattern_byte}
use Rattle.ivp_domain.specs.declared.axis.Axis.{Axis}
use Rattle.ivp_cert.specs.declared.claim.Decision.{Decision}
use Rattle.helm_cond.specs.Conditions.{Condition, HasNames, names_in}
use Rattle.helm_cond.specs.Learnt.{latest_of}
use Rattle.bhv_file.specs.declared.decl.Decl.{Decl}
use Rattle.bhv_file.specs.declared.file.BhvFile.{BhvFile}
use Rattle.bhv_file.specs.declared.file.Block.{Block}
use Rattle.bhv_file.specs.Validity.{AreBlocks, AreDecls, IsValidFile}
use Rattle.mission_reader.specs.declared.mission.Mission.{Mission}
use Rattle.mission_reader.specs.Validity.{HaveAxisNames, IsValidMission}
use Rattle.mode_tree.proofs.Worded.{mode_is_text}
use Rattle.helm_core.specs.declared.showing.TurnShown.{TurnShown}
use Rattle.helm_core.specs.Behaviors.{all_begun, has_fault}
use Rattle.helm_core.specs.Lists.{list_at, showings_at}
use Rattle.ivp_cert.specs.Certificates.{best_decision}
use Rattle.helm_core.specs.Decisions.{active_problem, decision_made, some_active}
use Rattle.helm_core.specs.Iterations.{iteration_at}
use Rattle.helm_core.specs.Plans.{always_read, block_names, decl_names, names_read, plan_made, reg_wanted, with_wanted}
use Rattle.helm_core.specs.PastIterations.{past_iteration_at, past_iteration_before}
use Rattle.helm_core.specs.Ticks.{Tick, learnt_at, seen_at}
use Rattle.helm_core.specs.WellFormed.{IsWellFormed, IsWellFormedPlan}
use Rattle.helm_core.proofs.Listing.{IsNamed, names_hold}
use Rattle.helm_core.proofs.NamesTold.{all_told, answers_named, showings_named}
use Rattle.helm_core.proofs.Pairing.{HasValidCommon, all_posts}

-- the behaviours of a file
blocks_valid : (earlier blocks : List Block) → AreBlocks earlier blocks → Each HasValidCommon blocks
blocks_valid earlier [] valid = tt
blocks_valid earlier (block ∷ blocks) valid = (valid.0.common, blocks_valid (earlier ++ block ∷ []) blocks valid.1)

-- the names that are read
each_flat : {X Y : Type 0} (P : Y → Type 0) (f : X → List Y) (xs : List X) → Each (λ x. Each P (f x)) xs → Each P (flat_map f xs)
each_flat P f [] all = tt
each_flat P f (x ∷ xs) all = each_append P (f x) (flat_map f xs) all.0 (each_flat P f xs all.1)

conds_named : (conds : List Condition) → All HasNames conds → Each IsNamed (flat_map names_in conds)
conds_named conds all =
    each_flat IsNamed names_in conds
    (each_weaker HasNames (λ cond. Each IsNamed (names_in cond)) (λ cond. recursion_from_All IsNamed (names_in cond)) conds (recursion_from_All HasNames conds all))

decls_named : (earlier decls : List Decl) → AreDecls earlier decls → Each (λ decl. Each IsNamed (decl_names decl)) decls
decls_named earlier [] valid = tt
decls_named earlier (decl ∷ decls) valid = (conds_named decl.conds valid.0.conds, decls_named (earlier ++ decl ∷ []) decls valid.1)

update_named : (updates : Option (List ℕ)) → IfSome updates IsNamed → Each IsNamed (option_to_list updates)
update_named None is = tt
update_named (Some name) is = (is, tt)

block_named : (block : Block) → HasValidCommon block → Each IsNamed (block_names block)
block_named block valid =
    each_append IsNamed (flat_map names_in block.common.conds) (option_to_list block.common.updates) (conds_named block.common.conds valid.conds) (update_named block.common.updates valid.updates)

all_named : (mission : Mission) (file : BhvFile) → IsValidFile file → Each IsNamed (names_read (plan_made mission file))
all_named mission file valid =
    each_append IsNamed (always_read ++ flat_map decl_names file.decls) (flat_map block_names file.blocks)
    (each_append IsNamed always_read (flat_map decl_names file.decls) (refl, (refl, (refl, (refl, (refl, tt))))) (each_flat IsNamed decl_names file.decls (decls_named [] file.decls valid.decls)))
    (each_flat IsNamed block_names file.blocks
    (each_weaker HasValidCommon (λ block. Each IsNamed (block_names block)) block_named file.blocks (blocks_valid [] file.blocks valid.blocks)))

-- a name that is wanted
wanted_named : (names : List (List ℕ)) (name : List ℕ) → Each IsNamed names → IsNamed name → Each IsNamed (with_wanted names name)
wanted_named names name all is = by (bytes_eq name (codes "MODE") || list_any (bytes_eq name) names)
  where
    by : (passed : Bool) → Each IsNamed (cond passed names (names ++ name ∷ []))
    by true = all
    by false = each_append IsNamed names (name ∷ []) all (is, tt)

all_wanted : (names rest : List (List ℕ)) → Each IsNamed names → Each IsNamed rest → Each IsNamed (fold with_wanted names rest)
all_wanted names [] all more = all
all_wanted names (name ∷ rest) all more = all_wanted (with_wanted names name) rest (wanted_named names name all more.0) more.1

-- a name is a pattern
pub name_pattern : (name : List ℕ) → IsNamed name → IsTrue (is_pattern name)
name_pattern [] is = absurd cc
name_pattern (first ∷ rest) is =
    let name = first ∷ rest in
    let parts = and_parts (begins_name first && list_all is_name_byte name) (nat_le (length name) 64) is in
    let bytes = (and_parts (begins_name first) (list_all is_name_byte name) parts.0).1 in
    let all : list_all is_pattern_byte name ≡ true
    = true_each is_pattern_byte name (each_weaker (λ byte. is_name_byte byte ≡ true) (λ byte. is_pattern_byte byte ≡ true) (λ byte is. grind (arith, nat_tests)) name (each_true is_name_byte name bytes)) in
    grind (arith, nat_tests)

all_regs : (names : List (List ℕ)) → Each IsNamed names → Each IsReg (map reg_wanted names)
all_regs [] all = tt
all_regs (name ∷ names) all = (record { var = name_pattern name all.0; source = refl; interval = omega arith }, all_regs names all.1)

-- the axes that are decided over are those of the domain
named_axes : (axes : List Axis) (showings : List TurnShown) → HaveAxisNames axes → IfSome (decision_made axes showings) (λ decision. HaveAxisNames decision.problem.axes)
named_axes axes showings named = by (some_active showings)
  where
    by : (active : Bool) → IfSome (cond active (Some (best_decision (active_problem axes showings))) None) (λ (decision : Decision). HaveAxisNames decision.problem.axes)
    by true = named
    by false = tt

iterations_formed : (mission : Mission) (file : BhvFile) → IsValidMission mission → IsValidFile file → (ticks : List Tick) (i : ℕ) → IsWellFormed (iteration_at (plan_made mission file) ticks i)
iterations_formed mission file valid read ticks i =
    let plan = plan_made mission file in
    let mode = mode_is_text file.decls (latest_of (learnt_at ticks i)) read.decls in
    let blocks = blocks_valid [] file.blocks read.blocks in
    let posts = all_posts plan ticks i valid.domain blocks read.few_blocks mode in
    let seen = seen_at file.decls ticks i in
    let ones = list_at plan ticks i in
    let names = each_weaker HasValidCommon (λ block. IsNamed block.common.name) (λ block valid. valid.name) file.blocks blocks in
    let named = showings_named mission.domain seen (list_any has_fault (all_begun mission.domain seen ones)) ones (names_hold plan ticks i names) in
    record {
      names = all_told plan (past_iteration_before plan ticks i) (past_iteration_at plan ticks i) (answers_named plan ticks i names) named;
      posts = (omega (arith, posts.few), All-from_recursion IsPair _ posts.all);
      mode = mode;
      axes = named_axes mission.domain (showings_at (plan_made mission file) ticks i) valid.axes;
    }

pub well_formed : (mission : Mission) (file : BhvFile) → IsValidMission mission → IsValidFile file → IsWellFormedPlan (plan_made mission file)
well_formed mission file valid read = record {
  wants = All-from_recursion IsReg _ (all_regs _ (all_wanted [] (names_read (plan_made mission file)) tt (all_named mission file read)));
  opening = (omega (arith, read.few_pairs), read.opening);
  iterations = iterations_formed mission file valid read;
}
