use Rattle.std.proofs.Common.{refl, arith}
use Rattle.tm_dd.specs.NodeId.{complement}
use Rattle.tm_dd.proofs.Meaning.{means-complement, level_of-complement}
use Rattle.tm_dd.proofs.NodeIdLemmas.{complement-complement, position_of-complement}
use Rattle.tm_dd.proofs.node.NodeId.complement.Goals as goal

pub returns-clause-value : goal.returns-clause-value
unfolding complement
returns-clause-value c = refl

pub returns-clause-meaning : goal.returns-clause-meaning
unfolding complement
returns-clause-meaning c s v = means-complement s c.args.self v

pub returns-clause-level : goal.returns-clause-level
unfolding complement
returns-clause-level c s = level_of-complement s c.args.self

pub returns-clause-known : goal.returns-clause-known
unfolding complement
returns-clause-known c s known = omega (arith, known, position_of-complement c.args.self)

pub returns-clause-back : goal.returns-clause-back
unfolding complement
returns-clause-back c = complement-complement c.args.self
