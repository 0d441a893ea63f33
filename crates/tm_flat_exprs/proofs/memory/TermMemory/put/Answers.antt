use Rattle.std.proofs.Common.{◌≡◌, Some, refl, sym, subst}
use Rattle.std.proofs.lemmas.Option.{same_Some}
use Rattle.tm_syntax.specs.Design.Cells.{in_state}
use Rattle.tm_scope.specs.Cells.{cell_at}
use Rattle.tm_design.specs.declared.step_cells.StepCell.{StepCell}
use Rattle.tm_flat_exprs.specs.Kept.{KeptTerms, Keeps, type_at}
use Rattle.tm_flat_exprs.specs.Merged.{IsMemory}
use Rattle.tm_flat_exprs.proofs.Puts.{state_memory, state_put, step_memory, step_put}
use Rattle.tm_flat_exprs.proofs.memory.TermMemory.put.Goals as goal

pub returns-in-State-clause-keeps : goal.returns-in-State-clause-keeps
returns-in-State-clause-keeps c = λ x u v m d apart keeps is.
    let there : Some (in_state c.in-State.number) ≡ Some d =
    subst (λ n. cell_at x c.args.at n ≡ Some d) c.in-State.is is in
    state_put x u v c.args.self.now m keeps c.in-State.number d c.args.id c.put_variable.new.self
    (same_Some (in_state c.in-State.number) d there) c.put_variable.ensures.values c.put_variable.ensures.step

pub returns-in-State-clause-memory : goal.returns-in-State-clause-memory
returns-in-State-clause-memory c = λ x t ty memory typed term.
    state_memory x t c.args.self.now memory ty c.args.id term c.args.at c.in-State.number c.put_variable.new.self
    (subst (λ n. type_at x c.args.at n ≡ Some ty) c.in-State.is typed) c.put_variable.ensures.values
    c.put_variable.ensures.step

pub returns-in_ok-set-in-Step-clause-keeps : goal.returns-in_ok-set-in-Step-clause-keeps
returns-in_ok-set-in-Step-clause-keeps c = λ x u v m d apart keeps is.
    let k : KeptTerms = record { values = c.self.inside.values.items; step = c.self.inside.step } in
    let n : KeptTerms = record { values = c.self.inside.values.items; step = c.set.new.self } in
    let cell : StepCell = record { at = c.args.at; slot = c.in-Step.slot } in
    step_put x u v k m (subst (λ k. Keeps x u v k m) (sym c.self.view_is) keeps) apart cell d c.args.id n refl
    (subst (λ n. cell_at x c.args.at n ≡ Some d) c.in-Step.is is) c.in_ok-set-in-Step.ensures

pub returns-in_ok-set-in-Step-clause-memory : goal.returns-in_ok-set-in-Step-clause-memory
returns-in_ok-set-in-Step-clause-memory c = λ x t ty memory typed term.
    let k : KeptTerms = record { values = c.self.inside.values.items; step = c.self.inside.step } in
    let n : KeptTerms = record { values = c.self.inside.values.items; step = c.set.new.self } in
    let cell : StepCell = record { at = c.args.at; slot = c.in-Step.slot } in
    step_memory x t k (subst (IsMemory x t) (sym c.self.view_is) memory) ty c.args.id term cell n
    (subst (λ n. type_at x c.args.at n ≡ Some ty) c.in-Step.is typed) refl c.in_ok-set-in-Step.ensures
