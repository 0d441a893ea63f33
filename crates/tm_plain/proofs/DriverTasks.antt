-- The tasks that the driver calls, by the tables of a design.
use Rattle.std.proofs.Common.{◌≡◌, ℕ, Option, None, Some, List, length, map, slice_get, refl, ap, ◌∙◌, subst}
use Rattle.std.specs.Prelude.{IfNone, IfSome}
use Rattle.std.specs.Option.{option_and_then, option_map}
use Rattle.std.proofs.lemmas.Option.{slice_get-map}
use Rattle.tm_syntax.specs.declared.design.Design.{Design}
use Rattle.tm_syntax.specs.declared.design.Instance.{Instance}
use Rattle.tm_syntax.specs.declared.design.Item.{Item}
use Rattle.tm_syntax.specs.declared.tree.TaskDef.{TaskDef}
use Rattle.tm_syntax.specs.declared.tree.Template.{Template}
use Rattle.tm_syntax.specs.Tree.{BodyTree}
use Rattle.tm_syntax.specs.Tree.View.{body_tree, task_tree, template_tree}
use Rattle.tm_syntax.specs.Scopes.Context.{task_body}
use Rattle.tm_syntax.specs.Design.{DesignTree, instance_node}
use Rattle.tm_syntax.specs.Design.Cells.{Called, task_called}
use Rattle.tm_syntax.specs.Design.Scope.{Scope, Site, site}
use Rattle.tm_syntax.specs.Design.View.{design_tree}
use Rattle.tm_scope.specs.Cells.{ScopedCells, cell_at}
use Rattle.tm_scope.specs.Instances.{IsOver, task_called_at}
use Rattle.tm_scope.specs.declared.cells.site_body.CellNumber.{CellNumber}
use Rattle.tm_scope.specs.declared.cells.site_body.SiteBody.{SiteBody}
use Rattle.tm_scope.specs.declared.context.BodyName.TheVariants.{Task}
use Rattle.tm_scope.proofs.CellSites.{site-here}
use Rattle.tm_sem.specs.Step.{task_of}
use Rattle.tm_locations.specs.Inner.Walks.{seen}
use Rattle.tm_locations.proofs.TableCallees.{with-task, without-instance, without-site, without-task, without-template}
use Rattle.tm_locations.proofs.WalkCalls.{told}
use Rattle.tm_design.specs.Parameters.{AreCalledCells, named_task, task_at}
use Rattle.tm_design.proofs.OperandCells.{TaskPlace, task_place}
use Rattle.tm_plain_bodies.specs.declared.frame.Frame.{Frame}
use Rattle.tm_plain_bodies.specs.Frames.{IsFrame}
use Rattle.tm_plain_bodies.specs.Tables.{body_of, sites_of, tables_of}
use Rattle.tm_design.proofs.Found.{map_is}
use Rattle.tm_plain_bodies.proofs.Found.{own_cells}
use Rattle.tm_design.proofs.CalledParameters.{as_many_cells, has_parameters}
use Rattle.tm_design.specs.Runnable.{HasSizedCalls, HasTypedCells}
use Rattle.tm_plain.specs.declared.machine.tasks.DriverTask.{DriverTask}
use Rattle.tm_plain.specs.Tasks.{IsDriverTask, IsFoundTask}

-- the tasks of the instances of a design, as calls run them
module _ (d : Design) (n k : ℕ) where
  abbrev tree : DesignTree
  tree = design_tree d

  own : IsOver (sites_of d) tree
  own = record { text = refl; instances = refl }

  abbrev at_task : SiteBody
  at_task = record { instance = n; body = Task k }

  abbrev told_of : TaskDef → Scope × BodyTree
  told_of def = seen (record { instance = n; body = task_body k }) (body_tree def.body)

  abbrev Told : Option TaskDef → Type 0
  Told o = option_map told (task_called_at tree (record { instance = n; index = k })) ≡ option_map told_of o

  by_task : (i : Instance) (t : Template) → slice_get d.instances.items n ≡ Some i →
      slice_get d.spec.templates.items i.template ≡ Some t → (o : Option TaskDef) → slice_get t.tasks.items k ≡ o →
      Told o
  by_task i t there here None is = without-task (sites_of d) tree own n i there t here k is
  by_task i t there here (Some def) is = with-task (sites_of d) tree own n i there t here k def is

  by_template : (i : Instance) → slice_get d.instances.items n ≡ Some i → (o : Option Template) →
      slice_get d.spec.templates.items i.template ≡ o → Told (option_and_then (λ t. named_task t (Task k)) o)
  by_template i there None is =
      without-site tree n k (without-template (sites_of d) tree own n i there is)
  by_template i there (Some t) is = by_task i t there is (slice_get t.tasks.items k) refl

  by_instance : (o : Option Instance) → slice_get d.instances.items n ≡ o →
      Told (option_and_then (λ (i : Instance). option_and_then (λ t. named_task t (Task k))
      (slice_get d.spec.templates.items i.template)) o)
  by_instance None is = without-site tree n k (without-instance (sites_of d) tree own n is)
  by_instance (Some i) is = by_template i is (slice_get d.spec.templates.items i.template) refl

  pub tasks_told : Told (task_at (body_of d at_task))
  tasks_told = by_instance (slice_get d.instances.items n) refl

  pub no_task_called : task_at (body_of d at_task) ≡ None →
      task_called_at tree (record { instance = n; index = k }) ≡ None
  no_task_called none =
      by (task_called_at tree (record { instance = n; index = k })) (tasks_told ∙ ap (option_map told_of) none)
    where
      by : (o : Option Called) → option_map told o ≡ None → o ≡ None
      by None is = refl
      by (Some c) is = absurd (cc)

-- the task of a number of an instance, table by table
module _ (d : Design) (n k : ℕ) where
  abbrev body_at : SiteBody
  body_at = record { instance = n; body = Task k }

  pub without_instance_there : slice_get d.instances.items n ≡ None → task_at (body_of d body_at) ≡ None
  without_instance_there none = rw none

  module _ (i : Instance) (there : slice_get d.instances.items n ≡ Some i) where
    pub without_template_there : slice_get d.spec.templates.items i.template ≡ None →
        task_at (body_of d body_at) ≡ None
    without_template_there none = rw (there, none)

    pub task_there : (t : Template) → slice_get d.spec.templates.items i.template ≡ Some t →
        task_at (body_of d body_at) ≡ slice_get t.tasks.items k
    task_there t here = rw (there, here)

-- where the task of a body stands, and its parameters
module _ (d : Design) (at : SiteBody) (task : TaskDef) (stands : task_at (body_of d at) ≡ Some task) where
  pub place : TaskPlace (body_of d at) task
  place = task_place (body_of d at) task stands

  abbrev pub home : Site
  home = record { number = at.instance; node = instance_node place.instance; template = template_tree place.template }

  pub home_is : site (design_tree d) at.instance ≡ Some home
  home_is =
      site-here (tables_of d) (design_tree d) (own_cells d) at.instance place.instance place.here place.template
      place.at

  pub listed : slice_get home.template.tasks place.index ≡ Some (task_tree task)
  listed = slice_get-map task_tree place.template.tasks.items place.index ∙ ap (option_map task_tree) place.is

-- what a slice lends where a number leads to nothing, and where it leads to an item
module _ (d : Design) (number : ℕ) where
  abbrev of_item : Item → Option Called
  of_item item =
      option_and_then (λ (at : Site). option_and_then (task_called (design_tree d) at) item.index)
      (site (design_tree d) item.instance)

  pub without_item : slice_get d.tasks.items number ≡ None → task_of (design_tree d) number ≡ None
  without_item none = ap (option_and_then of_item) none

  module _ (item : Item) (listed : slice_get d.tasks.items number ≡ Some item) where
    by_index : (o : Option ℕ) → item.index ≡ o →
        task_of (design_tree d) number
        ≡ option_and_then (λ (at : Site). option_and_then (task_called (design_tree d) at) o)
        (site (design_tree d) item.instance)
    by_index o is =
        ap (option_and_then of_item) listed
        ∙ ap (λ index. option_and_then (λ (at : Site). option_and_then (task_called (design_tree d) at) index)
        (site (design_tree d) item.instance)) is

    pub without_index : item.index ≡ None → task_of (design_tree d) number ≡ None
    without_index none = by_index None none ∙ nothing (site (design_tree d) item.instance)
      where
        nothing : (o : Option Site) →
            option_and_then (λ (at : Site). option_and_then (task_called (design_tree d) at) None) o ≡ None
        nothing None = refl
        nothing (Some at) = refl

    module _ (k : ℕ) (index : item.index ≡ Some k) where
      abbrev at : SiteBody
      at = record { instance = item.instance; body = Task k }

      task_is : task_of (design_tree d) number
          ≡ task_called_at (design_tree d) (record { instance = item.instance; index = k })
      task_is = by_index (Some k) index

      pub without_task : task_at (body_of d at) ≡ None → task_of (design_tree d) number ≡ None
      without_task none = task_is ∙ no_task_called d item.instance k none

      pub without_frame : site (design_tree d) item.instance ≡ None → task_of (design_tree d) number ≡ None
      without_frame none =
          task_is ∙ ap (option_and_then (λ (s : Site). task_called (design_tree d) s k)) none

      pub is_driver_task : HasTypedCells (design_tree d) → HasSizedCalls (design_tree d) → (f : Frame)
          (task : TaskDef) → task_at (body_of d at) ≡ Some task → IsFrame d at f → IsDriverTask d number f task
      is_driver_task typed sized f task there frame =
          let c = map_is told (task_called_at (design_tree d) (record { instance = item.instance; index = k }))
          (seen (record { instance = item.instance; body = task_body k }) (body_tree task.body))
          (tasks_told d item.instance k ∙ ap (option_map (told_of d item.instance k)) there) in
          record {
            at = at;
            called = c.0;
            is = task_is ∙ c.1;
            by = c.1;
            scope = ap (λ (p : Scope × BodyTree). p.0) c.2;
            body = ap (λ (p : Scope × BodyTree). p.1) c.2;
            stands = there;
            frame = frame;
            as_many =
                as_many_cells (body_of d at) task there (design_tree d) (own_cells d) (has_parameters typed) c.0 c.1;
            sized = sized number c.0 (task_is ∙ c.1);
          }

-- a task that the driver calls, by the reader of its frame
module _ (d : Design) (number : ℕ) (f : Frame) (task : TaskDef) (of : IsDriverTask d number f task) where
  pub task_here : task_at f.reader ≡ Some task
  task_here = ap task_at of.frame.reader ∙ of.stands

  -- the numbers of the cells of its parameters
  pub cells_are : (numbers : List CellNumber) → AreCalledCells f.reader (length task.params.items) numbers →
      map (cell_at f.reader.tables f.reader.at) numbers ≡ map Some of.called.params
  cells_are numbers are =
      ap (λ (s : ScopedCells). map (cell_at s.tables s.at) numbers) of.frame.reader
      ∙ (subst (λ s. AreCalledCells s (length task.params.items) numbers) of.frame.reader are).cells (design_tree d)
      (own_cells d) of.called of.by of.as_many

-- a task that is there was found
pub found_task : (d : Design) (number : ℕ) (o : Option DriverTask) →
    IfSome o (λ k. IsDriverTask d number k.frame k.task.now) →
    IfNone o (task_of (design_tree d) number ≡ None) → (task_of (design_tree d) number ≡ None → ⊥) →
    IsFoundTask d number o
found_task d number (Some k) is none some = is
found_task d number None is none some = some none

-- and stands in the body of its frame
pub tasks_here : (d : Design) (number : ℕ) (o : Option DriverTask) →
    IfSome o (λ k. IsDriverTask d number k.frame k.task.now) → IfSome o (λ k. task_at k.frame.reader ≡ Some k.task.now)
tasks_here d number (Some k) is = task_here d number k.frame k.task.now is
tasks_here d number None is = is
