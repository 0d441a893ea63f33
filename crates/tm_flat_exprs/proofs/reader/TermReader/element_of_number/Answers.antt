use Rattle.std.proofs.Common.{subst}
use Rattle.tm_scope.specs.Types.{ty_of}
use Rattle.tm_syntax.specs.Tree.{number}
use Rattle.tm_flat_exprs.specs.Valued.{FindsElement}
use Rattle.tm_design.proofs.OperandParts.{sized_at}
use Rattle.tm_flat_exprs.proofs.Reading.{element_has_type, numbered_found}
use Rattle.tm_flat_exprs.proofs.reader.TermReader.element_of_number.Goals as goal

pub element_at-requires-clause-sized : goal.element_at-requires-clause-sized
element_at-requires-clause-sized c = sized_at c.args.self.now c.requires.typed

pub element_at-requires-clause-typed : goal.element_at-requires-clause-typed
element_at-requires-clause-typed c =
    element_has_type c.args.self.now c.args.memory.now (ty_of c.args.asked) c.args.path.now (number c.args.index.now)
    c.unwrap_or-number.result c.args.terms.now c.requires.ready c.requires.typed

pub returns : goal.returns
returns c =
    numbered_found c.args.self.now c.args.memory.now (ty_of c.args.asked) c.args.path.now c.args.index.now
    c.args.terms.now c.element_at.new.terms c.in_ok-value.value c.requires.typed
    (subst (λ n. FindsElement c.args.self.now c.args.memory.now (ty_of c.args.asked) c.args.path.now n c.args.terms.now
    c.element_at.new.terms c.in_ok-value.value) c.unwrap_or-number.ensures c.in_ok-value.ensures)
