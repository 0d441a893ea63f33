use Rattle.std.proofs.Common.{ℕ, ◌^◌, ◌<◌, sym, subst}
use Rattle.tm_scope.specs.Types.{ty_of}
use Rattle.tm_flat_exprs.specs.Made.{Makes}
use Rattle.tm_flat_exprs.specs.Valued.{bits_in}
use Rattle.tm_flat_exprs.proofs.Forms.{literal_below, literal_found}
use Rattle.tm_flat_exprs.proofs.reader.TermReader.literal_term.Goals as goal

pub number_term-requires-clause-below : goal.number_term-requires-clause-below
number_term-requires-clause-below c =
    subst (λ (n : ℕ). n < 2 ^ bits_in c.args.self.now (ty_of c.args.asked)) (sym c.unwrap_or.ensures)
    (literal_below c.args.self.now c.args.memory.now (ty_of c.args.asked) c.args.number.now c.requires.typed)

pub returns : goal.returns
returns c =
    literal_found c.args.self.now c.args.memory.now (ty_of c.args.asked) c.args.number.now c.args.terms.now
    c.number_term.new.terms c.in_ok-value.value c.requires.ready
    (subst (λ (n : ℕ). Makes c.args.terms.now c.number_term.new.terms (bits_in c.args.self.now (ty_of c.args.asked))
    c.in_ok-value.value (λ u v. n)) c.unwrap_or.ensures c.in_ok-value.ensures)
