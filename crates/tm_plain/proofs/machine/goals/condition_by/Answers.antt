use Rattle.std.proofs.Common.{◌≡◌, List, ℕ, ap, ◌∙◌, subst}
use Rattle.tm_syntax.specs.Tree.View.{expr_tree}
use Rattle.tm_syntax.specs.Scopes.Context.{outside}
use Rattle.tm_syntax.specs.Design.View.{design_tree}
use Rattle.tm_sem.specs.State.{StateData}
use Rattle.tm_sem.specs.Value.{plain_memory, holds_in}
use Rattle.tm_plain_bodies.specs.Tables.{tables_of}
use Rattle.tm_plain_exprs.specs.Valued.{Holds}
use Rattle.tm_plain.proofs.Machines.{holds_at}
use Rattle.tm_plain.proofs.machine.goals.condition_by.Goals as goal

pub holds_outside-requires-clause-kept : goal.holds_outside-requires-clause-kept
holds_outside-requires-clause-kept c =
    (plain_memory c.in_ok-values.values.items, c.new-store.ensures.keeps c.args.reader.now.tables)

pub returns : goal.returns
returns c =
    let e = expr_tree c.args.e.now in
    let k = c.new-store.result in
    let s = c.args.reader.now in
    let values : c.in_ok-values.values.items ≡ c.args.state.now.values
    = c.in_ok-values.ensures.items ∙ c.as_slice.ensures.value ∙ ap (λ (s : StateData). s.values) c.state.view_is in
    let t = c.holds_outside.result in
    λ d n same.
    holds_at d n c.in_ok-values.values.items k e t (c.new-store.ensures.keeps (tables_of d))
    (subst (λ s. Holds s k e t) same c.holds_outside.ensures)
    ∙ ap (λ (vs : List ℕ). holds_in (design_tree d) (record { instance = n; body = outside }) (plain_memory vs) e)
    values
