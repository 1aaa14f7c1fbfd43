-- `links::put_links` meets its contract: there is room for each kind of links after those before it (LinkWrites).
use Rattle.flow_links.proofs.LinkWrites.{added_join}
use Rattle.flow_links.proofs.links.put_links.Goals as goal

pub returns-clause-added : goal.returns-clause-added
returns-clause-added c = added_join c.add_sources.ensures.added (added_join c.add_sinks.ensures.added c.add_crosses.ensures.added)
