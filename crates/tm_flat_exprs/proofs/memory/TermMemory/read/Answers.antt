use Rattle.std.proofs.Common.{sym, subst}
use Rattle.tm_flat_exprs.specs.Kept.{IsCellKept, KeptTerms}
use Rattle.tm_flat_exprs.specs.Made.{Makes}
use Rattle.tm_flat_exprs.specs.Versions.{step_value}
use Rattle.tm_flat_exprs.proofs.Memories.{known_state, known_step, reads_state, reads_step}
use Rattle.tm_flat_exprs.proofs.memory.TermMemory.read.Goals as goal

pub read_variable-requires-clause-known : goal.read_variable-requires-clause-known
read_variable-requires-clause-known c =
    known_state c.args.terms.now c.args.self.now c.args.at c.in-State.number c.args.width
    (subst (λ n. IsCellKept c.args.terms.now c.args.self.now c.args.at n c.args.width) c.in-State.is c.requires.kept)

pub returns-in_ok-id-in-State : goal.returns-in_ok-id-in-State
returns-in_ok-id-in-State c =
    reads_state c.args.terms.now c.read_variable.new.terms c.args.self.now c.args.at c.args.cell c.in-State.number
    c.args.width c.in_ok-id-in-State.id c.in-State.is c.in_ok-id-in-State.ensures

pub read-requires-clause-versions : goal.read-requires-clause-versions
read-requires-clause-versions c =
    let k : KeptTerms = record { values = c.self.inside.values.items; step = c.self.inside.step } in
    known_step c.args.terms.now k (record { at = c.args.at; slot = c.in-Step.slot }) c.args.width
    (subst (λ n. IsCellKept c.args.terms.now k c.args.at n c.args.width) c.in-Step.is
    (subst (λ (k : KeptTerms). IsCellKept c.args.terms.now k c.args.at c.args.cell c.args.width) (sym c.self.view_is)
    c.requires.kept))

pub returns-in_ok-id-in-Step : goal.returns-in_ok-id-in-Step
returns-in_ok-id-in-Step c =
    reads_step c.args.terms.now c.read.new.terms c.args.self.now c.args.at c.args.cell c.in-Step.slot c.args.width
    c.in_ok-id-in-Step.id c.in-Step.is
    (subst (λ (k : KeptTerms). Makes c.args.terms.now c.read.new.terms c.args.width c.in_ok-id-in-Step.id
    (λ u v. step_value u v k.step (record { at = c.args.at; slot = c.in-Step.slot }))) c.self.view_is
    c.in_ok-id-in-Step.ensures)
