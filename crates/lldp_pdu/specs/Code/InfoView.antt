-- The value of an `Info` in contracts.
use Rattle.lldp_pdu.specs.declared.info.Info.TheInside.{Inside}
use Rattle.lldp_pdu.specs.Cut.{cut}
use Rattle.lldp_pdu.specs.Info.{LldpInfo}
use Rattle.lldp_pdu.specs.Code.Seen.{none_seen, kept_seen}
use Rattle.lldp_pdu.specs.View.{msap_view}

abbrev pub info_view : Inside → LldpInfo
info_view i =
    record {
      msap = msap_view i.msap;
      ttl = i.ttl;
      octets = i.octets.now;
      kept = kept_seen none_seen (cut i.optional.now).tlvs;
      discarded = i.discarded;
      unrecognized = i.unrecognized;
    }
