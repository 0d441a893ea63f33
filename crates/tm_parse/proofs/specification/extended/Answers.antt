use Rattle.std.proofs.Common.{arith, rules}
use Rattle.tm_parse.proofs.Templates.{extending_none, extending_more, taken_extended, no_extended}
use Rattle.tm_parse.proofs.specification.extended.Goals as goal

pub loop-sort-init : goal.loop-sort-init
loop-sort-init c = record { so_far = extending_none _; shorter = omega arith }

pub loop-sort-preserved : goal.loop-sort-preserved
loop-sort-preserved c = record {
  so_far = extending_more c.loop-sort.invariant.so_far (search rules) c.in-Ok.ensures.taken
      c.in_ok-push_decl.ensures;
  shorter = omega (arith, c.in-Ok.ensures.shorter);
}

pub returns-in-Err-clause-refused : goal.returns-in-Err-clause-refused
returns-in-Err-clause-refused c =
    no_extended c.loop-sort.invariant.so_far (search rules) _ c.in-Err.ensures.refused

pub returns-clause-taken : goal.returns-clause-taken
returns-clause-taken c = taken_extended (search rules) c.loop-sort.invariant.so_far
