use Rattle.std.proofs.Common.{ap, refl, ◌∙◌}
use Rattle.std.specs.Prelude.{option_map}
use Rattle.helm_core.specs.Decisions.{decision_made}
use Rattle.helm_core.specs.Helms.{allstop_text}
use Rattle.helm_core.specs.Iterations.{all_faults, all_states, all_updates}
use Rattle.helm_core.specs.Kept.{first_posts}
use Rattle.helm_core.specs.Posts.{mentions_course, mentions_depth, mentions_speed}
use Rattle.helm_core.proofs.Answering.{answered, posts_all}
use Rattle.helm_core.proofs.helm.Helm.iteration.Goals as goal

pub returns : goal.returns
returns g c =
    let told = c.in_ok-told.told in
    let showings = c.args.showings.items in
    let all = c.as_slice-all.ensures.value in
    let decided = c.in_ok-decision.ensures.made ∙ ap (λ axes. decision_made axes showings) c.domain-domain.ensures in
    answered c.args.self.now c.args.stamp c.args.now.now c.args.answers showings told.mode told.updates told.states told.faults c.in_ok-decision.decision c.add_decided.new.posts
    c.in_ok-told.ensures.mode (c.in_ok-told.ensures.updates ∙ ap (all_updates c.args.self.now.behavior_list.blocks c.args.answers) all) (c.in_ok-told.ensures.states ∙ ap all_states all) (c.in_ok-told.ensures.faults ∙ ap all_faults all) decided
    (posts_all c.args.self.now c.args.now.now showings told.posts c.add_decided.new.posts c.mentions_course-course.result c.mentions_speed-speed.result c.mentions_depth-depth.result (allstop_text c.args.allstop)
    c.in_ok-decision.decision (option_map allstop_text c.args.self.now.allstop) (c.in_ok-told.ensures.posts ∙ ap (first_posts c.args.self.now c.args.now.now) all) (c.mentions_course-course.ensures ∙ ap mentions_course all)
    (c.mentions_speed-speed.ensures ∙ ap mentions_speed all) (c.mentions_depth-depth.ensures ∙ ap mentions_depth all) c.requires.allstop decided refl c.in_ok-add_decided.ensures)
