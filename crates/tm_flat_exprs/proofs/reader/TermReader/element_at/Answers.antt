use Rattle.std.proofs.Common.{Some, subst}
use Rattle.tm_scope.specs.Types.{ty_of}
use Rattle.tm_flat_exprs.specs.Valued.{FindsCell}
use Rattle.tm_flat_exprs.proofs.Reading.{element_kept, no_element}
use Rattle.tm_flat_exprs.proofs.reader.TermReader.element_at.Goals as goal

pub returns-in-Some : goal.returns-in-Some
returns-in-Some c =
    element_kept c.args.self.now c.args.memory.now (ty_of c.args.ty) c.args.path.now c.args.index c.args.terms.now
    c.cell_term.new.terms c.in-Some.id
    (subst (FindsCell c.args.self.now c.args.memory.now (ty_of c.args.ty) c.args.path.now (Some c.args.index)
    c.args.terms.now c.cell_term.new.terms) c.in-Some.is c.in_ok-id.ensures)

pub returns-in_ok-zero-in-None : goal.returns-in_ok-zero-in-None
returns-in_ok-zero-in-None c =
    no_element c.args.self.now c.args.memory.now (ty_of c.args.ty) c.args.path.now c.args.index c.args.terms.now
    c.cell_term.new.terms c.number_term.new.terms c.in_ok-zero-in-None.zero
    (subst (FindsCell c.args.self.now c.args.memory.now (ty_of c.args.ty) c.args.path.now (Some c.args.index)
    c.args.terms.now c.cell_term.new.terms) c.in-None.is c.in_ok-id.ensures)
    c.in_ok-zero-in-None.ensures
