use Rattle.std.proofs.Common.{◌≡◌, ℕ, None, Some, sym, ap, ◌∙◌, subst}
use Rattle.std.proofs.lemmas.Result.{IfOk-weaker}
use Rattle.tm_syntax.specs.declared.design.Design.{Design}
use Rattle.tm_syntax.specs.declared.design.Ty.TheVariants as types
use Rattle.tm_syntax.specs.Tree.View.{expr_tree}
use Rattle.tm_syntax.specs.Scopes.Context.{outside}
use Rattle.tm_syntax.specs.Design.View.{design_tree}
use Rattle.tm_scope.specs.Cells.{ScopedCells}
use Rattle.tm_sem.specs.Step.{memory_of}
use Rattle.tm_sem.specs.Value.{holds_in}
use Rattle.tm_design.specs.Typed.{HasTypeAt}
use Rattle.tm_plain.specs.Tasks.{outside_of}
use Rattle.tm_plain.proofs.Machines.{one_found}
use Rattle.tm_plain.proofs.machine.goals.condition_holds.Goals as goal

pub condition_by-requires-clause-typed : goal.condition_by-requires-clause-typed
condition_by-requires-clause-typed c =
    subst (λ s. HasTypeAt s types.Bool (expr_tree c.args.e.now))
    (sym (one_found c.args.found.now c.in-Some.reader _ c.in-Some.is c.requires.2)) c.requires.3

pub condition_by-requires-clause-outside : goal.condition_by-requires-clause-outside
condition_by-requires-clause-outside c =
    ap (λ (s : ScopedCells). s.at.body)
    (one_found c.args.found.now c.in-Some.reader (outside_of c.requires.0 c.requires.1) c.in-Some.is c.requires.2)

pub unreachable-requires : goal.unreachable-requires
unreachable-requires c =
    let both : None ≡ Some (outside_of c.requires.0 c.requires.1) = sym c.in-None.is ∙ c.requires.2 in cc

pub returns : goal.returns
returns c =
    let s = c.in-Some.reader in
    let e = expr_tree c.args.e.now in
    IfOk-weaker c.condition_by.result
    (λ t. (d : Design) (n : ℕ) → s ≡ outside_of d n →
    t ≡ holds_in (design_tree d) (record { instance = n; body = outside }) (memory_of c.args.state.now) e)
    (λ t. (d : Design) (n : ℕ) → c.args.found.now ≡ Some (outside_of d n) →
    t ≡ holds_in (design_tree d) (record { instance = n; body = outside }) (memory_of c.args.state.now) e)
    (λ t holds. λ d n found. holds d n (one_found c.args.found.now s (outside_of d n) c.in-Some.is found))
    c.condition_by.ensures
