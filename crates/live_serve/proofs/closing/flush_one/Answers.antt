use Rattle.live_serve.proofs.Coming.{closed}
use Rattle.live_serve.proofs.closing.flush_one.Goals as goal

pub returns : goal.returns
returns g c o past out =
    closed g.D.Disk.view o past _ out _ _ (c.flush-flushed.ensures.makes _ out.stands) c.flush-flushed.ensures.shape c.flush-flushed.ensures.honest c.flush-flushed.ensures.quiet c.flush-flushed.ensures.left
