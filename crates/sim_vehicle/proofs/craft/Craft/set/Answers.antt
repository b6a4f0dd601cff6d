use Rattle.std.proofs.Common.{rules, ◌≡◌, sym, ap, subst, w64, ◌∙◌}
use Rattle.std.proofs.lemmas.Int.{to_z-of_z}
use Rattle.sim_vehicle.specs.Settings.{AreAllowed, set_to}
use Rattle.sim_vehicle.proofs.Kept.{set_to_allowed}
use Rattle.sim_vehicle.proofs.craft.Craft.set.Goals as goal

pub invariant_of-self : goal.invariant_of-self
invariant_of-self c =
    let made = c.set.ensures ∙ ap (set_to c.self.inside.settings c.args.setting) (to_z-of_z w64 c.args.number c.ranges.number) in
    subst AreAllowed (sym made) (set_to_allowed c.self.inside.settings c.args.setting c.args.number c.requires c.self.invariant)

pub returns : goal.returns
returns c =
    let view : c.self.inside.settings ≡ c.args.self.now = search rules in
    c.set.ensures ∙ ap (set_to c.self.inside.settings c.args.setting) (to_z-of_z w64 c.args.number c.ranges.number)
    ∙ ap (λ settings. set_to settings c.args.setting c.args.number) view
