-- What the clients keep between their turns. This serves their calls alone: what they post is said without it, in Clients.
use Rattle.std.specs.Prelude.{◌≡◌, ℕ, ℤ, if◌then◌else◌, List, codes, bytes_eq, fold, length, map, Option}
use Rattle.moos_db.specs.declared.mail.Letter.{Letter}
use Rattle.moos_db.specs.Database.{pair_posted}
use Rattle.moos_post.specs.declared.value.Pair.{Pair}
use Rattle.bhv_file.specs.Known.{as_number}
use Rattle.contact_avoid.specs.declared.ranges.Ranges.{Ranges}
use Rattle.contact_avoid.specs.Standing.{Knows}
use Rattle.sim_clients.specs.declared.basic_contact_mgr.BasicContactMgr.{BasicContactMgr}
use Rattle.sim_clients.specs.declared.marine_pid.MarinePid.{MarinePid}
use Rattle.sim_clients.specs.declared.sim_marine.SimMarine.{SimMarine}
use Rattle.sim_clients.specs.Clients.{hull_by, number_by, rig_after_turns}
use Rattle.sim_vehicle.specs.declared.settings.CraftSettings.{CraftSettings}
use Rattle.sim_vehicle.specs.Motion.{IsHull}

-- the pairs of a mail
abbrev pub pairs_in_mail : List Letter → List Pair
pairs_in_mail mail = map (λ letter. pair_posted letter.post) mail

-- the number of a variable once a pair was heard, if it was another one before
abbrev pub number_with : List ℕ → Option ℤ → Pair → Option ℤ
number_with var before pair = if bytes_eq var pair.var then as_number pair.value else before

-- the latest number of a variable once these pairs were heard, one after another
abbrev pub number_after : List ℕ → Option ℤ → List Pair → Option ℤ
number_after var before pairs = fold (number_with var) before pairs

-- pMarinePID has had a turn for each of these mails: it keeps its controller, and the latest numbers
pub record IsPidAfter (craft : CraftSettings) (mails : List (List Pair)) (pid : MarinePid) : Type 0 where
  pub rig : pid.rig ≡ rig_after_turns craft mails (length mails)
  pub want_heading : pid.want_heading ≡ number_by mails (codes "DESIRED_HEADING")
  pub want_speed : pid.want_speed ≡ number_by mails (codes "DESIRED_SPEED")
  pub heading : pid.heading ≡ number_by mails (codes "NAV_HEADING")

-- uSimMarine has had a turn for each of these mails: it keeps where the vehicle is, and the latest numbers
pub record IsSimAfter (craft : CraftSettings) (period : ℕ) (mails : List (List Pair)) (sim : SimMarine) : Type 0 where
  pub hull : sim.hull ≡ hull_by craft period mails
  pub within : IsHull craft sim.hull
  pub rudder : sim.rudder ≡ number_by mails (codes "DESIRED_RUDDER")
  pub thrust : sim.thrust ≡ number_by mails (codes "DESIRED_THRUST")
  pub want_depth : sim.want_depth ≡ number_by mails (codes "DESIRED_DEPTH")

-- pBasicContactMgr has had a turn for each of these mails: its manager has these ranges, and knows these mails
abbrev pub IsMgrAfter : Ranges → List (List Pair) → BasicContactMgr → Type 0
IsMgrAfter ranges mails mgr = Knows ranges mails mgr.manager
