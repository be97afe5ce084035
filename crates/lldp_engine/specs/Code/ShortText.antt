-- The greatest lengths of texts in settings and in configurations.
use Rattle.std.specs.Prelude.{◌≡◌, ◌≤◌, length, IfSome}
use Rattle.lldp_engine.specs.Configuration.{Configuration}
use Rattle.lldp_engine.specs.Event.{Event, set, hostname, description}
use Rattle.lldp_pdu.specs.Range.{most_text}

-- Holds if the event sets no text, or a text of at most 255 octets.
abbrev pub HasShortText : Event → Type 0
HasShortText (set (hostname text)) = length text ≤ most_text
HasShortText (set (description text)) = length text ≤ most_text
HasShortText event = Unit {0}

-- Both texts have at most 255 octets, and a management address has 4 octets.
pub record HasShortTexts (c : Configuration) : Type 0 where
  pub hostname : length c.hostname ≤ most_text
  pub description : length c.description ≤ most_text
  pub management : IfSome c.management (λ address. length address ≡ 4)
