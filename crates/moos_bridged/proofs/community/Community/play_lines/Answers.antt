use Rattle.std.proofs.Common.{◌≡◌, ◌∙◌, ap, arith, length, nat_lt, Ok, refl, rules, subst, sym, true}
use Rattle.std.specs.List.{list_all}
use Rattle.std.specs.declared.alloc.AllocError.{AllocError}
use Rattle.moos_bridged.proofs.Lines.{all_cut, lines_below}
use Rattle.moos_bridged.proofs.Playing.{counts_kept, plays_lines, rests_played}
use Rattle.moos_bridged.specs.Communities.{community_script, lines_cut}
use Rattle.moos_post.specs.declared.entry.Entry.{Entry}
use Rattle.moos_step.specs.Steps.{GoesOn, IsPlayed}
use Rattle.moos_bridged.proofs.community.Community.play_lines.Goals as goal

pub play_step-requires-clause-lines : goal.play_step-requires-clause-lines
play_step-requires-clause-lines g c κs lives =
    let community = c.args.self.now in
    let script = community_script community in
    subst (λ n. list_all (λ (line : Entry). nat_lt line.client n) (lines_cut community.from c.args.to c.all.result.now) ≡ true) (sym (ap length c.as_mut_slice-calls.ensures.value ∙ c.requires.resting.calls))
    (subst (λ lines. list_all (λ (line : Entry). nat_lt line.client (length script.names)) (lines_cut community.from c.args.to lines) ≡ true) (sym c.all.ensures)
    (all_cut (λ (line : Entry). nat_lt line.client (length script.names)) script.lines community.from c.args.to (lines_below (length script.names) 0 script.stop script.lines c.requires.resting.valid.lines)))

pub returns-clause-resting : goal.returns-clause-resting
returns-clause-resting g c =
    let community = c.args.self.now in
    let made = c.in_ok-play_step.ensures in
    rests_played community _ c.requires.resting refl refl (omega (arith, c.requires.more)) c.requires.within
    (counts_kept community.calls.len community.calls.items c.play_step.new.calls (c.play_step.auto.calls ∙ ap length c.as_mut_slice-calls.ensures.value) (search rules) ∙ (search rules)) made.gathered
    (subst (λ lines. GoesOn (IsPlayed {E = AllocError} (lines_cut community.from c.args.to lines) (Ok tt)) community.first.seat c.play_step.new.first.seat) c.all.ensures made.goes_on)

pub returns-clause-played : goal.returns-clause-played
returns-clause-played g c =
    let community = c.args.self.now in
    let made = c.in_ok-play_step.ensures in
    plays_lines community _ c.requires.resting refl refl (lines_cut community.from c.args.to (community_script community).lines)
    (subst (λ lines. GoesOn (IsPlayed {E = AllocError} (lines_cut community.from c.args.to lines) (Ok tt)) community.first.seat c.play_step.new.first.seat) c.all.ensures made.goes_on)
