use Rattle.std.proofs.Common.{◌≡◌, ◌∙◌, Ok, arith, rules, subst, sym}
use Rattle.std.proofs.lemmas.Bool.Decides.{nat_tests}
use Rattle.std.specs.declared.alloc.AllocError.{AllocError}
use Rattle.moos_play.specs.declared.stage.Stage.{Stage}
use Rattle.moos_play.specs.Plays.{next_stamp}
use Rattle.moos_play.specs.Runs.{HasPlayedOn, shown_by}
use Rattle.moos_play.proofs.Stepped.{stepped_at, stepped_err, stepped_none, stepped_ok, stepped_twice}
use Rattle.moos_play.proofs.stage.Stage.finish_stamp.Goals as goal

pub loop-alloc-init : goal.loop-alloc-init
loop-alloc-init g c = record { stepped = stepped_none c.args.stamp c.args.self.now c.requires.at_play; less = omega arith }

pub loop-alloc-preserved : goal.loop-alloc-preserved
loop-alloc-preserved g c =
    let before = c.loop-alloc.self in
    let after = c.go_on.new.self in
    let here : c.next_stamp.result ≡ c.args.stamp = grind (arith, nat_tests, c.loop-alloc-test.true) in
    let is : next_stamp (shown_by before) ≡ c.args.stamp = sym c.next_stamp.ensures ∙ here in
    record {
      stepped = stepped_twice (Ok tt) c.args.stamp c.args.self.now before after c.requires.at_play c.loop-alloc.invariant.stepped (stepped_ok c.args.stamp before after (stepped_at is c.in_ok-go_on.ensures.stepped));
      less = search rules;
    }

pub returns-then-not-branch-clause-stepped : goal.returns-then-not-branch-clause-stepped
returns-then-not-branch-clause-stepped g c =
    subst (λ (play : Stage). HasPlayedOn {A = Unit {0}} {E = AllocError} c.args.stamp c.args.self.now play (Ok tt)) (sym (c.in_ok-go_on.ensures.over (search rules)).1) c.loop-alloc.invariant.stepped

pub returns-in_err-go_on-clause-stepped : goal.returns-in_err-go_on-clause-stepped
returns-in_err-go_on-clause-stepped g c =
    let before = c.loop-alloc.self in
    let after = c.go_on.new.self in
    let here : c.next_stamp.result ≡ c.args.stamp = grind (arith, nat_tests, c.loop-alloc-test.true) in
    let is : next_stamp (shown_by before) ≡ c.args.stamp = sym c.next_stamp.ensures ∙ here in
    stepped_err _ c.args.stamp c.args.self.now after (search rules) (stepped_twice _ c.args.stamp c.args.self.now before after c.requires.at_play c.loop-alloc.invariant.stepped (stepped_at is c.in_err-go_on.ensures.stepped))
