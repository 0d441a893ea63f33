-- The parameters of controllable tasks, by the tables of a design.
use Rattle.std.proofs.Common.{◌≡◌, ℕ, ◌+◌, Bor, Option, None, Some, List, [], ◌∷◌, ◌++◌, arith, map, slice_get, refl, sym, ap, ◌∙◌, subst}
use Rattle.std.specs.Prelude.{All, IfNone, IfSome, drop, unwrap_or}
use Rattle.std.specs.List.{AllByRecursion, AllZip, range_with_len}
use Rattle.std.specs.declared.alloc.Global.{Global}
use Rattle.std.specs.declared.vec.Vec.{Vec}
use Rattle.std.proofs.lemmas.List.{map-append}
use Rattle.std.proofs.lemmas.List.Elements.{All-push}
use Rattle.std.specs.Option.{option_and_then, option_map}
use Rattle.std.proofs.lemmas.Option.{slice_get-map}
use Rattle.tm_syntax.specs.declared.design.Design.{Design}
use Rattle.tm_syntax.specs.declared.design.Instance.{Instance}
use Rattle.tm_syntax.specs.declared.design.Item.{Item}
use Rattle.tm_syntax.specs.declared.design.Ty.{Ty}
use Rattle.tm_syntax.specs.declared.design.Ty.TheVariants as types
use Rattle.tm_syntax.specs.declared.tree.Param.{Param}
use Rattle.tm_syntax.specs.declared.tree.Spec.{Spec}
use Rattle.tm_syntax.specs.declared.tree.TaskDef.{TaskDef}
use Rattle.tm_syntax.specs.declared.tree.Template.{Template}
use Rattle.tm_syntax.specs.Tree.{TaskTree}
use Rattle.tm_syntax.specs.Tree.View.{spec_tree, task_tree, template_tree}
use Rattle.tm_syntax.specs.Scopes.Names.{type_of}
use Rattle.tm_syntax.specs.Design.{DesignTree, instance_node}
use Rattle.tm_syntax.specs.Design.Cells.{Called, Cell, cell_type, task_called}
use Rattle.tm_syntax.specs.Design.Scope.{Site, site}
use Rattle.tm_syntax.specs.Design.Sizes.{type_bits}
use Rattle.tm_syntax.specs.Design.View.{design_tree}
use Rattle.tm_typing.specs.HasType.{IsSized}
use Rattle.tm_scope.proofs.CellSites.{site-absent, site-here, site-without}
use Rattle.tm_sem.specs.Run.{asked_by}
use Rattle.tm_sem.specs.Step.{task_of}
use Rattle.tm_flat.specs.Inputs.{parameter_widths}
use Rattle.tm_flat.specs.IsFlat.{AreWidths}
use Rattle.tm_flat_exprs.specs.Tables.{cells_of}
use Rattle.tm_flat_states.specs.Markable.{HasArguments}
use Rattle.tm_flat_states.specs.Parameters.{AreNarrow, IsDriverTask}
use Rattle.tm_flat_states.proofs.Numbered.{range_pushed}
use Rattle.tm_flat_states.proofs.StatedTerms.{own_cells}

mapped : {X Y : Type 0} (f : X → Y) (o : Option X) (x : X) → o ≡ Some x → (y : Y) × (option_map f o ≡ Some y)
mapped f o x is = (f x, ap (option_map f) is)

some_call : (d : DesignTree) (s : Site) (k : ℕ) (task : TaskTree) → slice_get s.template.tasks k ≡ Some task →
    (c : Called) × (task_called d s k ≡ Some c)
some_call d s k task is = mapped _ (slice_get s.template.tasks k) task is

unmapped : {X Y : Type 0} (f : X → Y) (o : Option X) → o ≡ None → option_map f o ≡ None
unmapped f o is = ap (option_map f) is

no_call : (d : DesignTree) (s : Site) (k : ℕ) → slice_get s.template.tasks k ≡ None → task_called d s k ≡ None
no_call d s k none = unmapped _ (slice_get s.template.tasks k) none

-- ---- the controllable task of a number, table by table
module _ (d : Design) (number : ℕ) where
  abbrev tree : DesignTree
  tree = design_tree d

  abbrev of_item : Item → Option Called
  of_item item =
      option_and_then (λ (at : Site). option_and_then (task_called tree at) item.index) (site tree item.instance)

  pub without_item : slice_get d.tasks.items number ≡ None → task_of tree number ≡ None
  without_item none = ap (option_and_then of_item) none

  module _ (item : Item) (listed : slice_get d.tasks.items number ≡ Some item) where
    abbrev at_index : Option ℕ → Option Site → Option Called
    at_index index at = option_and_then (λ (s : Site). option_and_then (task_called tree s) index) at

    by_index : (o : Option ℕ) → item.index ≡ o → task_of tree number ≡ at_index o (site tree item.instance)
    by_index o is =
        ap (option_and_then of_item) listed ∙ ap (λ index. at_index index (site tree item.instance)) is

    nothing : (o : Option Site) → at_index None o ≡ None
    nothing None = refl
    nothing (Some at) = refl

    pub without_index : item.index ≡ None → task_of tree number ≡ None
    without_index none = by_index None none ∙ nothing (site tree item.instance)

    module _ (k : ℕ) (index : item.index ≡ Some k) where
      by_site : (o : Option Site) → site tree item.instance ≡ o → task_of tree number ≡ at_index (Some k) o
      by_site o is = by_index (Some k) index ∙ ap (at_index (Some k)) is

      pub without_instance : slice_get d.instances.items item.instance ≡ None → task_of tree number ≡ None
      without_instance none = by_site None (site-absent (cells_of d) tree (own_cells d) item.instance none)

      module _ (i : Instance) (there : slice_get d.instances.items item.instance ≡ Some i) where
        pub without_template : slice_get d.spec.templates.items i.template ≡ None → task_of tree number ≡ None
        without_template none =
            by_site None (site-without (cells_of d) tree (own_cells d) item.instance i there none)

        module _ (t : Template) (here : slice_get d.spec.templates.items i.template ≡ Some t) where
          abbrev home : Site
          home = record { number = item.instance; node = instance_node i; template = template_tree t }

          home_is : site tree item.instance ≡ Some home
          home_is = site-here (cells_of d) tree (own_cells d) item.instance i there t here

          task_is : task_of tree number ≡ task_called tree home k
          task_is = by_site (Some home) home_is

          tasks_are : slice_get home.template.tasks k ≡ option_map task_tree (slice_get t.tasks.items k)
          tasks_are = slice_get-map task_tree t.tasks.items k

          pub without_task : slice_get t.tasks.items k ≡ None → task_of tree number ≡ None
          without_task none = task_is ∙ no_call tree home k (tasks_are ∙ ap (option_map task_tree) none)

          pub is_driver_task : (task : TaskDef) → slice_get t.tasks.items k ≡ Some task → IsDriverTask d number task
          is_driver_task task is =
              let own : slice_get home.template.tasks k ≡ Some (task_tree task) =
              tasks_are ∙ ap (option_map task_tree) is in
              let call = some_call tree home k (task_tree task) own in
              record {
                instance = item.instance;
                home = home;
                index = k;
                called = call.0;
                is = task_is ∙ call.1;
                stands = home_is;
                listed = own;
                by = call.1;
              }

-- ---- the types of its parameters
module _ (d : DesignTree) where
  asked_is : (c : Cell) (ty : Ty) → cell_type d c ≡ Some ty → asked_by d (Some c) ≡ ty
  asked_is c ty is = ap (λ o. unwrap_or o types.Bool) is

  first_is : (c : Cell) (cs : List Cell) (p : Param) (ps : List Param) →
      map (cell_type d) (c ∷ cs) ≡ map (λ (q : Param). Some (type_of q.ty)) (p ∷ ps) →
      cell_type d c ≡ Some (type_of p.ty)
  first_is c cs p ps same = let both = same in cc

  bits_along : (cs : List Cell) (ps : List Param) →
      map (cell_type d) cs ≡ map (λ (p : Param). Some (type_of p.ty)) ps →
      map (λ (p : Param). type_bits d.spec (type_of p.ty)) ps ≡ parameter_widths d cs
  bits_along [] [] same = refl
  bits_along [] (p ∷ ps) same = absurd (cc)
  bits_along (c ∷ cs) [] same = absurd (cc)
  bits_along (c ∷ cs) (p ∷ ps) same =
      let first = asked_is c (type_of p.ty) (first_is c cs p ps same) in
      let rest = bits_along cs ps (ap (drop 1) same) in
      (λ i. type_bits d.spec (sym first i) ∷ rest i)

  sized_along : (cs : List Cell) (ps : List Param) →
      map (cell_type d) cs ≡ map (λ (p : Param). Some (type_of p.ty)) ps →
      AllByRecursion (λ c. IsSized (asked_by d (Some c))) cs → AllByRecursion (λ (p : Param). IsSized (type_of p.ty)) ps
  sized_along [] [] same all = tt
  sized_along [] (p ∷ ps) same all = absurd (cc)
  sized_along (c ∷ cs) [] same all = absurd (cc)
  sized_along (c ∷ cs) (p ∷ ps) same all = (
    subst IsSized (asked_is c (type_of p.ty) (first_is c cs p ps same)) all.0,
    sized_along cs ps (ap (drop 1) same) all.1,
  )

module _ (d : Design) (has : HasArguments (design_tree d)) (number : ℕ) (task : TaskDef)
    (of : IsDriverTask d number task)
  where
    same_types : map (cell_type (design_tree d)) of.called.params
        ≡ map (λ (p : Param). Some (type_of p.ty)) task.params.items
    same_types =
        has.parameters.parameters of.instance of.home of.index (task_tree task) of.called of.stands of.listed of.by

    pub params_sized : (params : List Param) → params ≡ task.params.items →
        AllByRecursion (λ (p : Param). IsSized (type_of p.ty)) params
    params_sized params same =
        subst (AllByRecursion (λ (p : Param). IsSized (type_of p.ty))) (sym same)
        (sized_along (design_tree d) of.called.params task.params.items same_types (has.sized number of.called of.is))

    pub widths_are : (spec : Spec) (params : List Param) (widths : List ℕ) → spec ≡ d.spec →
        params ≡ task.params.items →
        widths ≡ map (λ (p : Param). type_bits (spec_tree spec) (type_of p.ty)) params →
        AreWidths (design_tree d) number widths
    widths_are spec params widths text same are callee there =
        let one : of.called ≡ callee = let a = of.is in let b = there in cc in
        are
        ∙ (λ i. map (λ (p : Param). type_bits (spec_tree (text i)) (type_of p.ty)) (same i))
        ∙ bits_along (design_tree d) of.called.params task.params.items same_types
        ∙ ap (λ (c : Called). parameter_widths (design_tree d) c.params) one

-- where there is no such task, any widths are those of its parameters
pub no_widths : (d : DesignTree) (number : ℕ) (widths : List ℕ) → task_of d number ≡ None → AreWidths d number widths
no_widths d number widths none callee there = absurd (let a = none in let b = there in cc)

pub none_here : {X : Type 0} (o : Option X) (P : Type 0) → o ≡ None → P → IfNone o P
none_here o P is p = subst (λ x. IfNone x P) (sym is) p

pub none_found : {X : Type 0} (o : Option X) (P : X → Type 0) → o ≡ None → IfSome o P
none_found o P is = subst (λ x. IfSome x P) (sym is) tt

-- what was found of a task
pub found_task : (d : Design) (number : ℕ) (o : Option (Bor TaskDef)) (task : Bor TaskDef) → o ≡ Some task →
    IfSome o (λ t. IsDriverTask d number t.now) → IsDriverTask d number task.now
found_task d number o task is found = subst (λ x. IfSome x (λ t. IsDriverTask d number t.now)) is found

pub no_task : (d : Design) (number : ℕ) (o : Option (Bor TaskDef)) → o ≡ None →
    IfNone o (task_of (design_tree d) number ≡ None) → task_of (design_tree d) number ≡ None
no_task d number o is none = subst (λ x. IfNone x (task_of (design_tree d) number ≡ None)) is none

-- ---- the widths of one more task
lists_more : (all more : List (Vec ℕ Global)) (w : Vec ℕ Global) → more ≡ all ++ w ∷ [] →
    map (λ (l : Vec ℕ Global). l.items) all ++ w.items ∷ [] ≡ map (λ (l : Vec ℕ Global). l.items) more
lists_more all more w pushed =
    sym (ap (map (λ (l : Vec ℕ Global). l.items)) pushed ∙ map-append (λ (l : Vec ℕ Global). l.items) all (w ∷ []))

pub more_widths : (d : DesignTree) (n : ℕ) (all more : List (Vec ℕ Global)) (w : Vec ℕ Global) →
    AllZip (AreWidths d) (range_with_len 0 n) (map (λ (l : Vec ℕ Global). l.items) all) → AreWidths d n w.items →
    more ≡ all ++ w ∷ [] → AllZip (AreWidths d) (range_with_len 0 (n + 1)) (map (λ (l : Vec ℕ Global). l.items) more)
more_widths d n all more w so_far one pushed =
    let at : n ≡ 0 + n = omega arith in
    subst (AllZip (AreWidths d) (range_with_len 0 (n + 1))) (lists_more all more w pushed)
    (range_pushed (AreWidths d) 0 n (map (λ (l : Vec ℕ Global). l.items) all) w.items so_far
    (subst (λ k. AreWidths d k w.items) at one))

pub more_narrow : (all more : List (Vec ℕ Global)) (w : Vec ℕ Global) →
    All AreNarrow (map (λ (l : Vec ℕ Global). l.items) all) → AreNarrow w.items → more ≡ all ++ w ∷ [] →
    All AreNarrow (map (λ (l : Vec ℕ Global). l.items) more)
more_narrow all more w so_far one pushed =
    subst (All AreNarrow) (lists_more all more w pushed)
    (All-push AreNarrow (map (λ (l : Vec ℕ Global). l.items) all) w.items so_far one)
