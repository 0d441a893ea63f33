use Rattle.tm_flat_exprs.proofs.Versions.{chosen_made}
use Rattle.tm_flat_exprs.proofs.memory.step_terms.StepTerms.read.Goals as goal

pub returns-in_ok-id-in-None : goal.returns-in_ok-id-in-None
returns-in_ok-id-in-None c =
    chosen_made c.args.terms.now c.make.new.terms c.chosen.new.terms c.args.self.now c.args.cell c.args.width
    c.in_ok-zero.zero c.in_ok-id-in-None.id c.in_ok-zero.ensures c.in_ok-id-in-None.ensures
