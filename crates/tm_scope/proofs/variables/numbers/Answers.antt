use Rattle.std.proofs.Common.{nat_eq, ap, arith}
use Rattle.std.specs.Cmp.Lexicographic.{pointwise}
use Rattle.tm_scope.specs.Directory.{index_of}
use Rattle.tm_scope.proofs.Positions.{position-noted}
use Rattle.tm_scope.proofs.variables.numbers.Goals as goal

pub loop-number-preserved : goal.loop-number-preserved
loop-number-preserved c = λ path.
    position-noted (λ v. pointwise nat_eq path v.path) c.args.vars.now c.loop-number.number c.index-vars-number.result
    (index_of c.loop-number.numbers.entries path) (index_of c.note.new.numbers.entries path)
    (pointwise nat_eq path c.as_bytes.result.now) (omega arith) c.index-vars-number.is
    (ap (pointwise nat_eq path) c.as_bytes.ensures) (c.in_ok-note.ensures path) (c.loop-number.invariant path)
