use Rattle.std.proofs.Common.{◌≡◌, ◌≤◌, ◌+◌, ◌-◌, take, drop, ap, sym, ◌∙◌, arith, rules, length-drop}
use lib.Seq.{paste}
use Rattle.std.proofs.lemmas.List.{drop-take}
use Rattle.std.proofs.lemmas.List.Edits.{take-paste}
use Rattle.moos_files.proofs.held_bytes.HeldBytes.let_go.Goals as goal

pub returns : goal.returns
returns c =
    let count = c.args.count in
    let all = c.self.inside.bytes in
    let left = c.self.inside.len - count in
    let within : count ≤ c.self.inside.len = search rules in
    let same : left ≡ 0 + left = omega arith in
    let behind : count + left ≡ c.self.inside.len = omega (arith, within) in
    ap (take left) c.copy_within.ensures.after
    ∙ ap (λ k. take k (paste all 0 (drop count all) left)) same ∙ take-paste all 0 (drop count all) left (omega arith) (omega (arith, length-drop count all))
    ∙ sym (drop-take count left all) ∙ ap (λ k. drop count (take k all)) behind
    ∙ ap (drop count) c.self.view_is
