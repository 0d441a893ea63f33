use Rattle.tm_base.proofs.Names.{times_in-push_same, times_in-push_other}
use Rattle.tm_base.proofs.mem_files.keep_name.Goals as goal

pub returns-clause-ok : goal.returns-clause-ok
returns-clause-ok c =
    rw (c.in_ok-push.ensures.items, c.in_ok-from_bytes.ensures, c.as_bytes.ensures.value)
    (times_in-push_same c.args.names.now.items c.args.name.now)

pub returns-clause-others : goal.returns-clause-others
returns-clause-others c = λ name differs.
    rw (c.in_ok-push.ensures.items, c.in_ok-from_bytes.ensures, c.as_bytes.ensures.value)
    (times_in-push_other c.args.names.now.items c.args.name.now name differs)
