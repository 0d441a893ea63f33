use Rattle.std.proofs.Common.{rules}
use Rattle.tm_cir.specs.View.{num_tree, truth_tree}
use Rattle.tm_cparse.specs.View.{tokens_of}
use Rattle.tm_cparse.proofs.Readings.{moved_amount, refused_amount, refused_amount_end}
use Rattle.tm_cparse.proofs.expression.shift.Goals as goal

pub returns-in_err-by-clause-refused : goal.returns-in_err-by-clause-refused
returns-in_err-by-clause-refused c =
    let h = refused_amount c.args.op (num_tree c.args.a) c.args.spots.now _ c.requires c.in_err-by.ensures.refused in
    search rules

pub returns-in_err-rest-clause-refused : goal.returns-in_err-rest-clause-refused
returns-in_err-rest-clause-refused c =
    let h = refused_amount_end c.args.op (num_tree c.args.a) c.in_ok-by.by (tokens_of c.args.spots.now)
    c.in_ok-by.rest.now _ c.requires c.in_ok-by.ensures.low c.in_ok-by.ensures.taken c.in_err-rest.ensures.refused in
    search rules

pub returns-clause-moved : goal.returns-clause-moved
returns-clause-moved c = λ root ps.
    moved_amount root ps c.args.op (num_tree c.args.a) c.in_ok-by.by (truth_tree c.in_ok-shifted.field-0)
    (tokens_of c.args.spots.now) (tokens_of c.in_ok-by.rest.now) (tokens_of c.in_ok-rest.rest.now)
    c.in_ok-by.ensures.low c.in_ok-shifted.ensures c.in_ok-by.ensures.taken c.in_ok-rest.ensures.taken
