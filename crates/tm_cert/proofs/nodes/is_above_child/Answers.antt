use Rattle.std.proofs.Common.{Some, None, sym}
use Rattle.tm_cert.proofs.Lists.{is_above_child-inner}
use Rattle.tm_cert.proofs.nodes.is_above_child.Goals as goal

pub returns-in-Some : goal.returns-in-Some
returns-in-Some c =
    rw c.from.ensures
    (sym (is_above_child-inner c.args.nodes.now.keys c.args.level c.args.id (Some c.in-Some.child.now) c.if-id-lt2.false
    c.in-Some.ensures.key))

pub returns-in-None : goal.returns-in-None
returns-in-None c =
    sym (is_above_child-inner c.args.nodes.now.keys c.args.level c.args.id None c.if-id-lt2.false c.in-None.ensures.key)
