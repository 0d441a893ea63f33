-- The bodies of a sound design of a text may be walked.
use Rattle.std.proofs.Common.{ℕ, sym, subst}
use Rattle.std.specs.List.{AllByRecursion}
use Rattle.tm_syntax.specs.declared.design.Design.{Design}
use Rattle.tm_syntax.specs.Tree.{BodyTree, row_of}
use Rattle.tm_syntax.specs.Tree.View.{body_tree, spec_tree}
use Rattle.tm_syntax.specs.Scopes.Context.{Context}
use Rattle.tm_syntax.specs.Scopes.Parts.{body_stmts, stmts_in}
use Rattle.tm_syntax.specs.Design.View.{design_tree}
use Rattle.tm_syntax.specs.Faults.{IsOfText, IsSound}
use Rattle.tm_typing.proofs.Sound.{checked}
use Rattle.tm_design.proofs.ParamCells.{parameters}
use Rattle.tm_design.proofs.SettledDesigns.{settled}
use Rattle.tm_locations.specs.Locations.{AreLocations, LocationTable}
use Rattle.tm_design.proofs.Apart.{slots_apart}
use Rattle.tm_plain_bodies.specs.Tables.{tables_of}
use Rattle.tm_plain_bodies.proofs.CalledTasks.{task_body_of}
use Rattle.tm_plain_bodies.proofs.Found.{own_cells}
use Rattle.tm_flat_bodies.specs.Walks.{AreWalkable}
use Rattle.tm_flat_design.specs.Tables.{walk_tables}
use Rattle.tm_flat_design.proofs.Alike.{parameters_alike, settled_alike}
use Rattle.tm_flat_design.proofs.Promising.{IsAsked, body_asked, row_asked}
use Rattle.tm_flat_design.proofs.Typing.{row_typed}

pub walkable : (d : Design) → IsSound (design_tree d) → IsOfText (design_tree d).spec → (l : LocationTable)
    (p first : ℕ) → AreLocations l (design_tree d) p → AreWalkable (walk_tables d l first)
walkable d sound of l p first are =
    let tree = design_tree d in
    let typed = checked tree sound of in
    record {
      settled = λ e has.
          settled_alike tree e (sym has.text) (sym has.instances) (sym has.vars) (settled tree sound of);
      parameters = λ e has.
          parameters_alike tree e (sym has.text) (sym has.instances) (sym has.vars)
          (parameters tree typed sound.numbered);
      apart = slots_apart (tables_of d) sound.once;
      bodies = λ at task there.
          let own = task_body_of d at task there in
          row_typed d sound of at own.context own.stands (row_of (body_stmts (body_tree task.body)))
          (row_asked own.context (body_stmts (body_tree task.body))
          (subst (λ (c : Context). AllByRecursion (IsAsked c) (stmts_in (body_tree task.body))) own.here
          (subst (λ (b : BodyTree). AllByRecursion (IsAsked own.body.context) (stmts_in b)) own.tree
          (body_asked (spec_tree d.spec) typed own.body own.among))));
      design = tree;
      process = p;
      cells = own_cells d;
      are = are;
    }
