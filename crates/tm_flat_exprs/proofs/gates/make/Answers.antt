use Rattle.tm_flat_exprs.proofs.Later.{made}
use Rattle.tm_flat_exprs.proofs.gates.make.Goals as goal

pub returns : goal.returns
returns c =
    made c.args.terms.now c.mk.new.self c.args.term c.in_ok-id.id c.requires c.mk.ensures.earlier
    c.mk.ensures.sound c.in_ok-id.ensures.known c.in_ok-id.ensures.width c.in_ok-id.ensures.value
