use Rattle.std.proofs.Common.{sym, ap, ◌∙◌, subst}
use Rattle.tm_scope.specs.Cells.{ScopedCells}
use Rattle.tm_scope.specs.Types.{ty_of}
use Rattle.tm_flat_exprs.specs.Kept.{IsCellKept}
use Rattle.tm_flat_exprs.specs.Merged.{Reads}
use Rattle.tm_flat_exprs.proofs.Reading.{cell_kept, read_found}
use Rattle.tm_flat_exprs.proofs.reader.TermReader.term_in.Goals as goal

pub read-requires-clause-kept : goal.read-requires-clause-kept
read-requires-clause-kept c =
    subst (IsCellKept c.args.terms.now c.args.memory.now c.self.inside.at c.args.cell) (sym c.bits-width.ensures.bits)
    (cell_kept c.args.self.now c.args.memory.now (ty_of c.args.ty) c.args.cell c.self.inside.at c.args.terms.now
    (sym (ap (λ (s : ScopedCells). s.at) c.self.view_is) ∙ c.self.invariant.0) c.requires.ready c.requires.typed)

pub returns : goal.returns
returns c =
    read_found c.args.self.now c.args.memory.now (ty_of c.args.ty) c.args.cell c.self.inside.at c.args.terms.now
    c.read.new.terms c.in_ok-id.id (sym (ap (λ (s : ScopedCells). s.at) c.self.view_is) ∙ c.self.invariant.0)
    c.requires.ready
    (subst (λ w. Reads c.args.terms.now c.read.new.terms c.args.memory.now c.self.inside.at c.args.cell w
    c.in_ok-id.id) c.bits-width.ensures.bits c.in_ok-id.ensures)
