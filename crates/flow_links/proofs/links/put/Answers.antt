-- `links::put` meets its contract: two places of each row are written (LinkWrites.put-added).
use Rattle.flow_links.proofs.LinkWrites.{put_added}
use Rattle.flow_links.proofs.links.put.Goals as goal

pub returns-clause-added : goal.returns-clause-added
returns-clause-added c = put_added (record { from = c.args.from; to = c.args.to; cap = c.args.cap }) c.args.rows.now.heads.now c.args.rows.now.caps.now c.args.rows.now.next c.requires.free
