use Rattle.std.proofs.Common.{ℕ, ◌^◌, ◌<◌, None, sym, subst, arith}
use Rattle.tm_scope.specs.Types.{ty_of}
use Rattle.tm_flat_exprs.specs.Made.{Makes}
use Rattle.tm_flat_exprs.specs.Valued.{bits_in, FindsCell}
use Rattle.tm_design.proofs.OperandParts.{sized_at}
use Rattle.tm_flat_exprs.proofs.Reading.{constant_below, constant_found, path_found, path_has_type}
use Rattle.tm_flat_exprs.proofs.reader.TermReader.path_term.Goals as goal

pub cell_term-requires-clause-sized : goal.cell_term-requires-clause-sized
cell_term-requires-clause-sized c = sized_at c.args.self.now c.requires.typed

pub cell_term-requires-clause-typed : goal.cell_term-requires-clause-typed
cell_term-requires-clause-typed c =
    path_has_type c.args.self.now c.args.memory.now (ty_of c.args.asked) c.args.path.now c.args.terms.now
    c.requires.ready c.requires.typed

pub number_term-requires-clause-sized : goal.number_term-requires-clause-sized
number_term-requires-clause-sized c = sized_at c.args.self.now c.requires.typed

pub number_term-requires-clause-below : goal.number_term-requires-clause-below
number_term-requires-clause-below c =
    subst (λ (n : ℕ). n < 2 ^ bits_in c.args.self.now (ty_of c.args.asked)) (sym c.constant-number.ensures)
    (constant_below c.args.self.now c.args.memory.now (ty_of c.args.asked) c.args.path.now c.args.terms.now
    c.cell_term.new.terms
    (subst (FindsCell c.args.self.now c.args.memory.now (ty_of c.args.asked) c.args.path.now None c.args.terms.now
    c.cell_term.new.terms) c.in-None.is c.in_ok-value.ensures) c.requires.typed
    (subst (λ (n : ℕ). n < 2 ^ 64) c.constant-number.ensures (omega (arith, c.constant-number.type_inv))))

pub returns-in-Some : goal.returns-in-Some
returns-in-Some c =
    path_found c.args.self.now c.args.memory.now (ty_of c.args.asked) c.args.path.now c.args.terms.now
    c.cell_term.new.terms c.in-Some.value
    (subst (FindsCell c.args.self.now c.args.memory.now (ty_of c.args.asked) c.args.path.now None c.args.terms.now
    c.cell_term.new.terms) c.in-Some.is c.in_ok-value.ensures)

pub returns-in_ok-value-in-None : goal.returns-in_ok-value-in-None
returns-in_ok-value-in-None c =
    constant_found c.args.self.now c.args.memory.now (ty_of c.args.asked) c.args.path.now c.args.terms.now
    c.cell_term.new.terms c.number_term.new.terms c.in_ok-value-in-None.value
    (subst (FindsCell c.args.self.now c.args.memory.now (ty_of c.args.asked) c.args.path.now None c.args.terms.now
    c.cell_term.new.terms) c.in-None.is c.in_ok-value.ensures)
    (subst (λ (n : ℕ). Makes c.cell_term.new.terms c.number_term.new.terms
    (bits_in c.args.self.now (ty_of c.args.asked)) c.in_ok-value-in-None.value (λ u v. n)) c.constant-number.ensures
    c.in_ok-value-in-None.ensures)
