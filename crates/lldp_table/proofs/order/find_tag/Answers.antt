use Rattle.lldp_table.proofs.Slots.Search.{found, not_found}
use Rattle.lldp_table.proofs.order.find_tag.Goals as goal

pub returns-in-Some : goal.returns-in-Some
returns-in-Some c = found c.args.tags.now c.args.tag c.args.from c.args.end c.requires.least c.requires.most c.in-Some.ahead c.in-Some.ensures

pub returns-in-None : goal.returns-in-None
returns-in-None c = not_found c.args.tags.now c.args.tag c.args.from c.args.end c.requires.least c.requires.most c.in-None.ensures
