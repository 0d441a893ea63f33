use Rattle.std.proofs.Common.{◌≡◌, ℕ, Some, ◌∙◌}
use Rattle.std.proofs.lemmas.Result.{IfOk-weaker}
use Rattle.tm_syntax.specs.declared.design.Design.{Design}
use Rattle.tm_syntax.specs.declared.design.Ty.TheVariants as types
use Rattle.tm_syntax.specs.Tree.View.{expr_tree}
use Rattle.tm_syntax.specs.Scopes.Context.{outside}
use Rattle.tm_syntax.specs.Design.View.{design_tree}
use Rattle.tm_syntax.specs.Design.Scope.{site}
use Rattle.tm_scope.specs.declared.cells.site_body.SiteBody.{SiteBody}
use Rattle.tm_scope.specs.declared.context.BodyName.TheVariants.{Outside}
use Rattle.tm_sem.specs.Step.{memory_of}
use Rattle.tm_sem.specs.Value.{holds_in}
use Rattle.tm_plain.specs.Tasks.{outside_of}
use Rattle.tm_plain.proofs.Conditions.{has_site}
use Rattle.tm_plain.proofs.Machines.{found_by, there}
use Rattle.tm_plain.proofs.machine.Machine.holds_outside.Goals as goal

pub condition_holds-requires : goal.condition_holds-requires
condition_holds-requires c =
    let m = c.args.self.now in
    let n = c.args.instance in
    let at : SiteBody = record { instance = n; body = Outside } in
    let r = c.reader-found.result in (
      m,
      n,
      there (site (design_tree m) n) (outside_of m n) r
          (found_by m c.self.inside.runner at r (c.self.invariant.0 ∙ c.self.view_is) c.reader-found.ensures)
          (has_site m at types.Bool (expr_tree c.args.e.now) c.requires),
      c.requires,
    )

pub returns : goal.returns
returns c =
    let m = c.args.self.now in
    let n = c.args.instance in
    let at : SiteBody = record { instance = n; body = Outside } in
    let r = c.reader-found.result in
    let e = expr_tree c.args.e.now in
    let found : r ≡ Some (outside_of m n) =
    there (site (design_tree m) n) (outside_of m n) r
    (found_by m c.self.inside.runner at r (c.self.invariant.0 ∙ c.self.view_is) c.reader-found.ensures)
    (has_site m at types.Bool e c.requires) in
    IfOk-weaker c.condition_holds.result
    (λ t. (d : Design) (n : ℕ) → r ≡ Some (outside_of d n) →
    t ≡ holds_in (design_tree d) (record { instance = n; body = outside }) (memory_of c.args.state.now) e)
    (λ t. t ≡ holds_in (design_tree m) (record { instance = n; body = outside }) (memory_of c.args.state.now) e)
    (λ t holds. holds m n found)
    c.condition_holds.ensures
