use Rattle.std.proofs.Common.{◌≡◌, true, false, ap, codes, subst, sym, ◌∙◌}
use Rattle.std.specs.Prelude.{Ok}
use Rattle.std.specs.Str.{str_eq_ignore_ascii_case}
use Rattle.moos_text.specs.Pairs.{sides_of}
use Rattle.bhv_reader.specs.declared.reading.Unclosed.TheVariants.{OfMode}
use Rattle.bhv_reader.specs.Behaviors.{begins_by, mode_begun}
use Rattle.moos_text.specs.Standing.{behind_head}
use Rattle.bhv_reader.specs.Places.{mode_block, standing_at}
use Rattle.bhv_reader.proofs.Faults.{behavior_place, behavior_said, head_placed, mode_said}
use Rattle.bhv_reader.proofs.reading.after_loose.Goals as goal

pub returns-then-is_named-clause-read : goal.returns-then-is_named-clause-read
returns-then-is_named-clause-read c =
    let file = c.args.file.now in
    let text = c.args.text.now in
    let mode = c.in_ok-mode.mode in
    let set : begins_by (codes "set") text ≡ true = ap (λ word. str_eq_ignore_ascii_case word (codes "set")) (sym c.split_word.ensures.first) ∙ sym c.is_named.ensures ∙ c.if-is_named.true in
    let begun = subst (λ rest. mode_begun file (sides_of rest) ≡ Ok (mode_block file mode)) c.split_word.ensures.behind c.in_ok-mode.ensures.begun in
    mode_said c.args.domain.now file text c.args.line (mode_block file mode) set begun ∙ ap Ok (sym (head_placed file text (OfMode mode)) ∙ ap (standing_at file) (sym c.behind_head.ensures))

pub returns-in_ok-block-in-Ok-clause-read : goal.returns-in_ok-block-in-Ok-clause-read
returns-in_ok-block-in-Ok-clause-read c =
    let file = c.args.file.now in
    let text = c.args.text.now in
    let set : begins_by (codes "set") text ≡ false = ap (λ word. str_eq_ignore_ascii_case word (codes "set")) (sym c.split_word.ensures.first) ∙ sym c.is_named.ensures ∙ c.if-is_named.false in
    let initialize : begins_by (codes "initialize") text ≡ false = ap (λ word. str_eq_ignore_ascii_case word (codes "initialize")) (sym c.split_word.ensures.first) ∙ sym c.is_named-2.ensures ∙ c.if-is_named-2.false in
    behavior_said c.args.domain.now file text c.args.line set initialize ∙ ap (behavior_place file text) (sym c.in-Ok.ensures)
    ∙ ap (λ block. Ok (behind_head text block)) (sym (c.in_ok-block-in-Ok.ensures.block file))
    ∙ ap Ok (sym (head_placed file text c.in_ok-block-in-Ok.block) ∙ ap (standing_at file) (sym c.behind_head-in-Ok.ensures))

pub returns-in-Err-clause-refused : goal.returns-in-Err-clause-refused
returns-in-Err-clause-refused c =
    let file = c.args.file.now in
    let text = c.args.text.now in
    let set : begins_by (codes "set") text ≡ false = ap (λ word. str_eq_ignore_ascii_case word (codes "set")) (sym c.split_word.ensures.first) ∙ sym c.is_named.ensures ∙ c.if-is_named.false in
    let initialize : begins_by (codes "initialize") text ≡ false = ap (λ word. str_eq_ignore_ascii_case word (codes "initialize")) (sym c.split_word.ensures.first) ∙ sym c.is_named-2.ensures ∙ c.if-is_named-2.false in
    behavior_said c.args.domain.now file text c.args.line set initialize ∙ ap (behavior_place file text) (sym c.in-Err.ensures)
