-- The helm is run as its files say, and its report tells what they declare.
use Rattle.std.proofs.Common.{◌≡◌, ◌∙◌, nat_lt, List, [], ◌∷◌, length, ap, refl, arith}
use Rattle.std.proofs.lemmas.Bool.{lt-ltb}
use Rattle.bhv_file.specs.declared.decl.Decl.{Decl}
use Rattle.helm_core.specs.Posts.{are_declared_modes}
use Rattle.moos_play.specs.Lawful.{helm_number}
use Rattle.moos_jobs.proofs.helm_files.fit_helm.Goals as goal

-- modes are declared where there is a declaration
declared : (decls : List Decl) → nat_lt 0 (length decls) ≡ are_declared_modes decls
declared [] = refl
declared (decl ∷ decls) = lt-ltb 0 (length (decl ∷ decls)) (omega arith)

pub returns-clause-setup : goal.returns-clause-setup
returns-clause-setup c = λ i. record {
  unused = c.replace-unused.ensures.value i;
  modes = (ap (nat_lt 0) c.len.ensures ∙ declared c.args.files.file.decls) i;
}

pub returns-clause-steers : goal.returns-clause-steers
returns-clause-steers c = λ script. λ i. record { client = helm_number script; plan = c.in_ok-helm.ensures.plan i; period = c.args.files.mission.period }
