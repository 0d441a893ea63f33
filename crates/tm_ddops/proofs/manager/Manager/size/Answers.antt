use Rattle.std.proofs.Common.{subst, sym}
use Rattle.tm_ddops.specs.Reached.{IsInnerNodes}
use Rattle.tm_ddops.proofs.manager.Manager.size.Goals as goal

pub returns : goal.returns
returns c = (
  c.in_ok-inner.inner.keys,
  subst (λ m. IsInnerNodes m.table c.args.f c.in_ok-inner.inner.keys) c.self.view_is c.in_ok-inner.ensures,
  sym c.len.ensures.len,
)
