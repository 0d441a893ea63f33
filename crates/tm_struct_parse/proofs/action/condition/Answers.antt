use Rattle.tm_cir.specs.View.{truth_tree}
use Rattle.tm_cparse.specs.View.{tokens_of}
use Rattle.tm_struct_parse.proofs.Tests.{condition_no_open, condition_no_truth, condition_no_close, condition_read}
use Rattle.tm_struct_parse.proofs.action.condition.Goals as goal

pub returns-in-Err-clause-refused : goal.returns-in-Err-clause-refused
returns-in-Err-clause-refused c =
    condition_no_open c.args.spots.now _ c.in-Err.ensures.refused

pub returns-in-Err-truth-clause-refused : goal.returns-in-Err-truth-clause-refused
returns-in-Err-truth-clause-refused c =
    condition_no_truth (tokens_of c.args.spots.now) (tokens_of c.in-Ok.read.now) _
    c.in-Ok.ensures.taken c.in-Err-truth.ensures.refused

pub returns-in-Err-need_sign-clause-refused : goal.returns-in-Err-need_sign-clause-refused
returns-in-Err-need_sign-clause-refused c =
    condition_no_close (truth_tree c.in-Ok-truth.read.0) (tokens_of c.args.spots.now)
    (tokens_of c.in-Ok.read.now) c.in-Ok-truth.read.1.now _ c.in-Ok.ensures.taken c.in-Ok-truth.ensures.taken
    c.in-Err-need_sign.ensures.refused

pub returns-clause-taken : goal.returns-clause-taken
returns-clause-taken c =
    condition_read (truth_tree c.in-Ok-truth.read.0) (tokens_of c.args.spots.now) (tokens_of c.in-Ok.read.now)
    (tokens_of c.in-Ok-truth.read.1.now) (tokens_of c.in-Ok-need_sign.read.now) c.in-Ok.ensures.taken
    c.in-Ok-truth.ensures.taken c.in-Ok-need_sign.ensures.taken
