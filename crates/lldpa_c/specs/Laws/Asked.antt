-- The options that C passes, field by field.
use Rattle.std.specs.Prelude.{◌≡◌, true, false, map, Some, None}
use Rattle.lldp_engine.specs.declared.agent.options.Role.{Role}
use Rattle.lldpa_c.specs.declared.options.LldpaOptions.{LldpaOptions}
use Rattle.lldpa_c.specs.Opening.{asked, role_numbered}

-- Each option has the value of its field. `management` is None exactly if `managed` is false.
pub record AsksForEach (o : LldpaOptions) : Type 0 where
  pub names : (asked o).names ≡ map (λ text. text.octets.now) o.ports.now
  pub mac : (asked o).mac ≡ o.mac
  pub hostname : (asked o).hostname ≡ o.hostname.octets.now
  pub managed : o.managed ≡ true → (asked o).management ≡ Some o.management
  pub unmanaged : o.managed ≡ false → (asked o).management ≡ None
  pub role : (role : Role) → role_numbered o.role ≡ Some role → (asked o).role ≡ role
  pub max_neighbors : (asked o).max_neighbors ≡ o.max_neighbors
  pub credit_max : (asked o).credit_max ≡ o.credit_max
  pub fast_init : (asked o).fast_init ≡ o.fast_init
  pub reinit : (asked o).reinit ≡ o.reinit
  pub receive_only : (asked o).receive_only ≡ o.receive_only
