use Rattle.tm_ddops.proofs.Reach.{inner_from_gathered}
use Rattle.tm_ddops.proofs.reached.inner_nodes.Goals as goal

pub returns : goal.returns
returns c =
    inner_from_gathered c.args.store.now c.args.f c.in_ok-inner.inner.keys c.gather.new.inner.keys
    c.in_ok-inner.ensures.empty c.len.ensures.unique c.in_ok-gather.ensures
