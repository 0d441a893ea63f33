-- The controllable task of a number, table by table.
use Rattle.std.proofs.Common.{◌≡◌, ℕ, Option, Some, slice_get, refl, ap, ◌∙◌}
use Rattle.std.specs.Option.{option_and_then, option_map}
use Rattle.std.proofs.lemmas.Option.{slice_get-map}
use Rattle.tm_syntax.specs.declared.design.Design.{Design}
use Rattle.tm_syntax.specs.declared.design.Item.{Item}
use Rattle.tm_syntax.specs.declared.tree.TaskDef.{TaskDef}
use Rattle.tm_syntax.specs.Tree.View.{task_tree, template_tree}
use Rattle.tm_syntax.specs.Design.{DesignTree, instance_node}
use Rattle.tm_syntax.specs.Design.Cells.{Called, task_called}
use Rattle.tm_syntax.specs.Design.Scope.{Site, site}
use Rattle.tm_syntax.specs.Design.View.{design_tree}
use Rattle.tm_scope.specs.Cells.{HasCells, ScopedCells}
use Rattle.tm_scope.specs.declared.cells.site_body.SiteBody.{SiteBody}
use Rattle.tm_scope.specs.declared.context.BodyName.TheVariants.{Task}
use Rattle.tm_scope.proofs.CellSites.{site-here}
use Rattle.tm_sem.specs.Step.{task_of}
use Rattle.tm_locations.proofs.CalledBodies.{made}
use Rattle.tm_design.specs.Parameters.{task_at}
use Rattle.tm_design.proofs.OperandCells.{TaskPlace, task_place}
use Rattle.tm_flat_exprs.specs.Tables.{cells_of}
use Rattle.tm_flat_moves.specs.Controllable.{IsControllable}

-- the tables of a design are its own
pub own_cells : (d : Design) → HasCells (cells_of d) (design_tree d)
own_cells d = record { text = refl; instances = refl; vars = refl }

-- the task of a number of an instance
module _ (d : Design) (n k : ℕ) where
  abbrev tree : DesignTree
  tree = design_tree d

  abbrev at_task : SiteBody
  at_task = record { instance = n; body = Task k }

  abbrev pub body_at : ScopedCells
  body_at = record { tables = cells_of d; at = at_task }

  abbrev called_here : Option Site → Option Called
  called_here = option_and_then (λ (u : Site). task_called tree u k)

  -- where it is there, it is what a call runs
  module _ (task : TaskDef) (there : task_at body_at ≡ Some task) where
    abbrev pub place : TaskPlace body_at task
    place = task_place body_at task there

    abbrev pub home : Site
    home = record { number = n; node = instance_node place.instance; template = template_tree place.template }

    home_is : site tree n ≡ Some home
    home_is =
        site-here (cells_of d) tree (own_cells d) n place.instance place.here place.template place.at

    listed : slice_get home.template.tasks k ≡ Some (task_tree task)
    listed =
        let same : k ≡ place.index = let names : Task k ≡ Task place.index = place.body in cc in
        slice_get-map task_tree place.template.tasks.items k
        ∙ ap (option_map task_tree) (ap (slice_get place.template.tasks.items) same ∙ place.is)

    pub is_called : called_here (site tree n) ≡ Some (made tree home k (task_tree task))
    is_called = ap called_here home_is ∙ ap (option_map (made tree home k)) listed

-- where a number leads to an item, and this one to a task
module _ (d : Design) (number : ℕ) (item : Item) (listed : slice_get d.tasks.items number ≡ Some item) (k : ℕ)
    (index : item.index ≡ Some k) where
  abbrev of_item : Item → Option Called
  of_item item =
      option_and_then (λ (u : Site). option_and_then (task_called (design_tree d) u) item.index)
      (site (design_tree d) item.instance)

  task_is : task_of (design_tree d) number
      ≡ option_and_then (λ (u : Site). task_called (design_tree d) u k) (site (design_tree d) item.instance)
  task_is =
      ap (option_and_then of_item) listed
      ∙ ap (λ index. option_and_then (λ (u : Site). option_and_then (task_called (design_tree d) u) index)
      (site (design_tree d) item.instance)) index

  pub is_controllable : (task : TaskDef) → task_at (body_at d item.instance k) ≡ Some task →
      IsControllable (cells_of d) (design_tree d) number (record { instance = item.instance; body = Task k }) task
  is_controllable task there = record {
    called = made (design_tree d) (home d item.instance k task there) k (task_tree task);
    is = task_is ∙ is_called d item.instance k task there;
    by = is_called d item.instance k task there;
    scope = refl;
    body = refl;
    stands = there;
  }
