use Rattle.std.proofs.Common.{rules, ◌≡◌, ◌++◌, ap, ◌∙◌}
use Rattle.std.specs.Prelude.{codes}
use Rattle.moos_text.specs.Numbers.{milli_text}
use Rattle.contact_avoid.specs.Contacts.{behavior_name}
use Rattle.contact_avoid.proofs.Worded.{inside_is_text}
use Rattle.contact_avoid.proofs.posts.inside_text.Goals as goal

pub returns-clause-value : goal.returns-clause-value
returns-clause-value c =
    let r = c.args.report.now in
    let named : c.append.new.text.items ≡ behavior_name r ++ codes " # contact=" ++ r.name = search rules in
    let east : c.append_number.new.text.items ≡ c.append.new.text.items ++ codes " # contact_x=" ++ milli_text r.x = c.in_ok-append_number.ensures.ok in
    let north : c.append_number-2.new.text.items ≡ c.append_number.new.text.items ++ codes " # contact_y=" ++ milli_text r.y = c.in_ok-append_number-2.ensures.ok in
    let fast : c.append_number-3.new.text.items ≡ c.append_number-2.new.text.items ++ codes " # contact_speed=" ++ milli_text r.speed = c.in_ok-append_number-3.ensures.ok in
    let all : c.append_number-4.new.text.items ≡ c.append_number-3.new.text.items ++ codes " # contact_heading=" ++ milli_text r.heading = c.in_ok-append_number-4.ensures.ok in
    all
    ∙ ap (λ text. text ++ codes " # contact_heading=" ++ milli_text r.heading) (fast
    ∙ ap (λ text. text ++ codes " # contact_speed=" ++ milli_text r.speed) (north
    ∙ ap (λ text. text ++ codes " # contact_y=" ++ milli_text r.y) (east
    ∙ ap (λ text. text ++ codes " # contact_x=" ++ milli_text r.x) named)))

pub returns-clause-text : goal.returns-clause-text
returns-clause-text c =
    inside_is_text c.args.report.now c.behavior_name.ensures.name c.append_number.ensures.within c.append_number-2.ensures.within c.append_number-3.ensures.within c.append_number-4.ensures.within
