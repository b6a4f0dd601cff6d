use Rattle.std.proofs.Common.{◌≡◌, Some, length, refl, sym, ◌∙◌}
use Rattle.std.specs.Prelude.{slice_get}
use Rattle.std.proofs.lemmas.Option.{slice_get_read}
use Rattle.helm_core.specs.Ticks.{pairs_mailed}
use Rattle.helm_core.proofs.Spawns.{heard_other, heard_template, spawned_same}
use Rattle.helm_core.proofs.spawning.hear_by.Goals as goal

pub hear_all-requires : goal.hear_all-requires
hear_all-requires c = record {
  at = slice_get_read c.args.blocks.now (length c.args.blocks.now) c.args.place c.index-blocks-place.result refl c.requires.place c.index-blocks-place.is;
  may = c.requires.may;
}

pub returns-then-not-is_template-clause-heard : goal.returns-then-not-is_template-clause-heard
returns-then-not-is_template-clause-heard c clock at before block there is =
    let here : slice_get c.args.blocks.now c.args.place ≡ Some c.index-blocks-place.result = slice_get_read c.args.blocks.now (length c.args.blocks.now) c.args.place c.index-blocks-place.result refl c.requires.place c.index-blocks-place.is in
    heard_other c.args.domain.now c.args.blocks.now clock at (pairs_mailed c.args.letters.now) before c.args.place c.index-blocks-place.result block c.args.kept.now.items c.args.answers.now here there (sym c.is_template.ensures ∙ c.if-not-is_template.true) is

pub returns-then-not-is_template-clause-more : goal.returns-then-not-is_template-clause-more
returns-then-not-is_template-clause-more c = spawned_same c.args.domain.now c.args.blocks.now c.args.kept.now.items c.requires.may

pub returns-clause-heard : goal.returns-clause-heard
returns-clause-heard c clock at before block there is =
    let here : slice_get c.args.blocks.now c.args.place ≡ Some c.index-blocks-place.result = slice_get_read c.args.blocks.now (length c.args.blocks.now) c.args.place c.index-blocks-place.result refl c.requires.place c.index-blocks-place.is in
    heard_template c.args.domain.now c.args.blocks.now clock at (pairs_mailed c.args.letters.now) before c.args.place c.index-blocks-place.result block c.hear_all.new.kept.items c.hear_all.new.answers here there (sym c.is_template.ensures ∙ c.if-not-is_template.false)
    (c.in_ok-hear_all.ensures.heard clock at before is)

pub returns-clause-more : goal.returns-clause-more
returns-clause-more c = c.in_ok-hear_all.ensures.more
