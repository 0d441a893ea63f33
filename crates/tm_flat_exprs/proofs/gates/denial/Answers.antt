use Rattle.tm_flat_exprs.proofs.Later.{makes_denial}
use Rattle.tm_flat_exprs.proofs.gates.denial.Goals as goal

pub returns : goal.returns
returns c = makes_denial c.args.terms.now c.make.new.terms c.args.a c.in_ok-id.id c.requires c.in_ok-id.ensures
