use Rattle.std.proofs.Common.{rules, ◌≡◌, ◌∙◌, ◌*ℤ◌, ◌+ℤ◌, ◌-ℤ◌, pos, int_div, w64, to_z, of_z}
use Rattle.std.proofs.lemmas.Int.{to_z-of_z}
use Rattle.sim_vehicle.specs.Steering.{heading_error, limited, rig_after, thrust_of}
use Rattle.sim_vehicle.proofs.rig.Rig.control.Goals as goal

pub returns-clause-drive : goal.returns-clause-drive
returns-clause-drive c =
    let craft = c.args.craft.now in
    let rig = c.args.self.now in
    let error : to_z w64 (of_z w64 c.heading_error-error.result) ≡ heading_error c.args.want_heading c.args.heading
    = to_z-of_z w64 c.heading_error-error.result (search rules) ∙ c.heading_error-error.ensures.value in
    let integral : to_z w64 (of_z w64 c.integral_with-integral.result) ≡ (rig_after craft rig (heading_error c.args.want_heading c.args.heading)).integral
    = to_z-of_z w64 c.integral_with-integral.result (search rules) ∙ c.integral_with-integral.ensures.value ∙ (λ i. (rig_after craft rig (error i)).integral) in
    let change : to_z w64 (of_z w64 c.change_to-change.result) ≡ heading_error c.args.want_heading c.args.heading -ℤ rig.last_error
    = to_z-of_z w64 c.change_to-change.result (search rules) ∙ c.change_to-change.ensures.value ∙ (λ i. error i -ℤ rig.last_error) in
    let rudder = to_z-of_z w64 c.rudder_of.result (search rules) ∙ c.rudder_of.ensures.value
    ∙ (λ i. limited craft.max_rudder (int_div (error i *ℤ craft.yaw_kp +ℤ integral i *ℤ craft.yaw_ki +ℤ change i *ℤ craft.yaw_kd) (pos 1000))) in
    let thrust : to_z w64 (of_z w64 c.thrust_of.result) ≡ thrust_of craft c.args.want_speed = to_z-of_z w64 c.thrust_of.result (search rules) ∙ c.thrust_of.ensures.value in
    λ i. record { rudder = rudder i; thrust = thrust i }
