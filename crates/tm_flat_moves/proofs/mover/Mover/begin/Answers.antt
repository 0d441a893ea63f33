use Rattle.std.proofs.Common.{◌≡◌, length, subst, arith}
use Rattle.tm_flat_moves.specs.Begun.{AreInputTerms}
use Rattle.tm_flat_moves.proofs.Beginning.{begins}
use Rattle.tm_flat_moves.proofs.mover.Mover.begin.Goals as goal

pub returns-clause-begins : goal.returns-clause-begins
returns-clause-begins c =
    let d = c.args.self.now.design.now in
    let many : c.len-vars.result ≡ length d.vars.items = omega (arith, c.len-vars.ensures, d.vars.ok.0) in
    begins d c.args.course.now.terms c.input_terms.new.terms c.args.guard c.in_ok-values.values.items
    c.new-memory.result c.requires.inputs c.requires.guard
    (subst (λ n. AreInputTerms c.args.course.now.terms c.input_terms.new.terms 0 n c.in_ok-values.values.items) many
    c.in_ok-values.ensures)
    c.new-memory.ensures.values c.new-memory.ensures.keeps c.new-memory.ensures.memory c.new.result c.new.ensures
