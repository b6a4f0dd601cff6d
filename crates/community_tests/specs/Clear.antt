-- A behaviour that keeps clear of a contact 20 metres to the east, which lies still, by the default distances.
use Rattle.std.specs.Prelude.{Bool, pos, codes, Some}
use Rattle.bhv_file.specs.declared.spec.Shape.TheVariants.{AvoidCollision}
use Rattle.bhv_file.specs.declared.spec.Spec.{Spec}

-- the parameters of a behaviour that keeps clear of a contact, which may be clear for good
abbrev pub kept_clear : Bool → Spec
kept_clear resolved = record {
  weight = 100000;
  shape = AvoidCollision (record {
    contact = Some (codes "b");
    contact_x = Some (pos 20000);
    contact_y = Some (pos 0);
    contact_speed = Some (pos 0);
    contact_heading = Some (pos 0);
    near = pos 10000;
    far = pos 75000;
    resolved = resolved;
    piece_size = 12;
  });
}
