-- What becomes of the last function of a problem, by what making it answers.
use Rattle.std.proofs.Common.{◌≡◌, ◌≤◌, Ok, Err, arith, ◌∷◌, ◌++◌, [], length, refl, ap, ◌∙◌}
use Rattle.std.proofs.lemmas.Bool.{false_from_ne_true}
use Rattle.moos_text.specs.Refusals.{fault_at, IsFirst}
use Rattle.ivp_func.specs.declared.func.FuncFault.{FuncFault}
use Rattle.ivp_func.specs.declared.func.FuncFault.TheVariants.{TooMany, NotPartition, ValueOut, NoMemory}
use Rattle.ivp_func.specs.Functions.{Function, has_values, is_partition}
use Rattle.ivp_func.specs.Making.{MadeFunction}
use Rattle.ivp_func.specs.Pieces.{is_value}
use Rattle.ivp_func.proofs.PointTests.{partition_passes, passes_partition, passes_values, values_pass}
use Rattle.ivp_cert.specs.Making.{line_fault}
use Rattle.ivp_cert.specs.Problems.{finished}
use Rattle.ivp_cert.specs.Unfinished.{UnfinishedSum}

-- pieces that make a function
pub made_good : (sum : UnfinishedSum) (func : Function) → MadeFunction sum.before.axes sum.pieces (Ok func) → finished sum ≡ Ok (record { axes = sum.before.axes; terms = sum.before.terms ++ record { weight = sum.weight; func = func } ∷ [] })
made_good sum func made =
    let partition = partition_passes sum.before.axes sum.pieces made.1 in
    let values = values_pass sum.before.axes sum.pieces made.2 in
    rw (partition, values, made.3) refl

-- and pieces that make none
pub made_bad : (sum : UnfinishedSum) (fault : FuncFault) → length sum.pieces ≤ 4096 → MadeFunction sum.before.axes sum.pieces (Err fault) → IsFirst (fault_at sum.line (line_fault fault)) (finished sum)
made_bad sum TooMany few made = absurd (omega arith)
made_bad sum (NotPartition point count) few made =
    let fails = false_from_ne_true (is_partition sum.before.axes sum.pieces) (λ e. made.3 (made.2 ∙ passes_partition sum.before.axes sum.pieces e point made.1)) in rw fails refl
made_bad sum (ValueOut point value) few made =
    let partition = partition_passes sum.before.axes sum.pieces made.1 in
    let fails = false_from_ne_true (has_values sum.before.axes sum.pieces) (λ e. let good = passes_values sum.before.axes sum.pieces e point made.2 in let same = ap is_value made.3 in let out = made.4 in cc) in
    rw (partition, fails) refl
made_bad sum NoMemory few made = tt
