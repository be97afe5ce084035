-- What a port may do, by its status and its link events.
use Rattle.std.specs.Prelude.{◌≡◌, List}
use Rattle.lldp_transmit.specs.Moments.{moments, is_allowed, is_up}
use Rattle.lldp_engine.specs.Options.{Options}
use Rattle.lldp_engine.specs.Status.{transmits}
use Rattle.lldp_engine.specs.Port.Past.{Happened, status_after, up_after, settings_of, causes_after}

-- A port's transmit machine may transmit if and only if the port's status allows it. Its link is up
-- if and only if the last link event says so, or if there was none.
pub record FollowsStatus (o : Options) (past : List Happened) : Type 0 where
  pub right : is_allowed (settings_of o) (moments (settings_of o) (causes_after o past))
      ≡ transmits (status_after o past)
  pub link : is_up (moments (settings_of o) (causes_after o past)) ≡ up_after past
