-- Designs of one text with the same instances and variables: names mean the same in them.
use Rattle.std.proofs.Common.{◌≡◌, ℕ, ◌<◌, ◌^◌, Option, None, Some, List, [], ◌∷◌, ◌++◌, map, refl, sym, ap, ◌∙◌, subst}
use Rattle.std.specs.Prelude.{nat_eq, position, slice_get, unwrap_or, if◌then◌else◌}
use Rattle.std.specs.Cmp.Lexicographic.{pointwise}
use Rattle.std.specs.List.{filter_map}
use Rattle.std.specs.Option.{option_and_then, option_map, option_to_list}
use Rattle.tm_syntax.specs.declared.design.Var.{Var}
use Rattle.tm_syntax.specs.declared.tree.Ident.{Ident}
use Rattle.tm_syntax.specs.declared.tree.Param.{Param}
use Rattle.tm_syntax.specs.Tree.{SpecTree, TaskTree, TemplateTree}
use Rattle.tm_syntax.specs.Scopes.Context.{Context, Frame, Slot, frame_of, param_slot, slot_named, task_body, task_frame}
use Rattle.tm_syntax.specs.Scopes.Names.{constant_value, is_spelled, last_name}
use Rattle.tm_syntax.specs.Scopes.Types.{array_length}
use Rattle.tm_syntax.specs.Design.{DesignTree, InstanceNode, member_path, neighbor}
use Rattle.tm_syntax.specs.Design.Scope.{Scope, Site, context, length_in, site, site_along}
use Rattle.tm_syntax.specs.Design.Cells.{Cell, called, cell, cell_type, in_state, in_step, member_cell, own_cell, slot_cell, task_called, variable_at, variable_path}
use Rattle.tm_syntax.specs.Design.Sizes.{type_bits}
use Rattle.tm_scope.specs.declared.context.BodyName.{BodyName}
use Rattle.tm_scope.specs.declared.context.BodyName.TheVariants.{Process, Task, Outside}
use Rattle.tm_design.specs.Parameters.{called_by}
use Rattle.tm_design.specs.Settled.{AreSettled, constant_at}
use Rattle.tm_design.specs.Values.{HasParameters}

module _ (d e : DesignTree) (text : d.spec ≡ e.spec) (instances : d.instances ≡ e.instances) (vars : d.vars ≡ e.vars)
  where
    -- instances, and where paths lead from them
    pub site_alike : (n : ℕ) → site d n ≡ site e n
    site_alike n i =
        option_and_then (λ (node : InstanceNode). option_map
        (λ (t : TemplateTree). record { number = n; node = node; template = t })
        (slice_get (text i).templates node.template)) (slice_get (instances i) n)

    along_alike : (at : Site) (names : List Ident) → site_along d at names ≡ site_along e at names
    along_alike at [] = refl
    along_alike at (name ∷ []) = refl
    along_alike at (name ∷ next ∷ names) =
        by (λ s. along_alike s (next ∷ names))
      where
        by : ((s : Site) → site_along d s (next ∷ names) ≡ site_along e s (next ∷ names)) →
            site_along d at (name ∷ next ∷ names) ≡ site_along e at (name ∷ next ∷ names)
        by rest i =
            option_and_then (λ n. option_and_then (λ (s : Site). rest s i) (site_alike n i))
            (neighbor at.node at.template name.text)

    pub context_alike : (scope : Scope) → context d scope ≡ context e scope
    context_alike scope i =
        option_map (λ (at : Site). record { spec = text i; template = at.template; body = scope.body })
        (site_alike scope.instance i)

    pub length_alike : (scope : Scope) (names : List Ident) → length_in d scope names ≡ length_in e scope names
    length_alike scope names = ap (option_and_then (λ (c : Context). array_length c names)) (context_alike scope)

    -- cells, and their types
    variable_alike : (path : List ℕ) → variable_at d path ≡ variable_at e path
    variable_alike path i = option_map in_state (position (λ (v : Var). pointwise nat_eq path v.path) (vars i))

    slot_alike : (scope : Scope) (at : Site) (frame : Frame) (slot : Slot) →
        slot_cell d scope at frame slot ≡ slot_cell e scope at frame slot
    slot_alike scope at frame slot i =
        if frame.kept
        then variable_alike (member_path at.node.path frame.name ++ 46 ∷ slot.name) i
        else Some (in_step scope slot.name slot.ty)

    own_alike : (scope : Scope) (at : Site) (names : List Ident) → own_cell d scope at names ≡ own_cell e scope at names
    own_alike scope at [] = refl
    own_alike scope at (name ∷ next ∷ names) = refl
    own_alike scope at (name ∷ []) = λ i.
        option_and_then (λ (frame : Frame). option_and_then (λ (slot : Slot). slot_alike scope at frame slot i)
        (slot_named frame name.text)) (frame_of (text i) at.template scope.body)

    member_alike : (at : Site) (names : List Ident) (index : Option ℕ) →
        member_cell d at names index ≡ member_cell e at names index
    member_alike at names index i =
        option_and_then (λ (s : Site). variable_alike (variable_path s.node (last_name names) index) i)
        (along_alike at names i)

    pub cell_alike : (scope : Scope) (names : List Ident) (index : Option ℕ) →
        cell d scope names index ≡ cell e scope names index
    cell_alike scope names index i =
        option_and_then (λ (at : Site). slice_get (option_to_list (own_alike scope at names i)
        ++ option_to_list (member_alike at names index i)) 0) (site_alike scope.instance i)

    pub type_alike : (c : Cell) → cell_type d c ≡ cell_type e c
    type_alike (in_state k) = λ i. option_map (λ (v : Var). v.ty) (slice_get (vars i) k)
    type_alike (in_step scope name ty) = refl

    -- what is called
    task_alike : (at : Site) (k : ℕ) → task_called d at k ≡ task_called e at k
    task_alike at k i =
        option_map (λ (task : TaskTree). record {
          scope = record { instance = at.number; body = task_body k };
          params = filter_map (λ (p : Param). slot_alike (record { instance = at.number; body = task_body k }) at
              (task_frame (text i) at.template task) (param_slot p) i) task.params;
          body = task.body;
        }) (slice_get at.template.tasks k)

    pub called_alike : (scope : Scope) (names : List Ident) → called d scope names ≡ called e scope names
    called_alike scope names i =
        option_and_then (λ (at : Site). option_and_then (λ (s : Site). option_and_then (λ k. task_alike s k i)
        (position (λ (task : TaskTree). is_spelled (last_name names) task.name) s.template.tasks))
        (along_alike at names i)) (site_alike scope.instance i)

    pub by_alike : (n : ℕ) (body : BodyName) → called_by d n body ≡ called_by e n body
    by_alike n (Process k) = refl
    by_alike n (Task k) = λ i. option_and_then (λ (s : Site). task_alike s k i) (site_alike n i)
    by_alike n Outside = refl

    -- what is settled of one is settled of the other
    pub settled_alike : AreSettled d → AreSettled e
    settled_alike settled = record {
      variables = λ scope c names ty found here own is.
          sym (type_alike found)
          ∙ settled.variables scope c names ty found (context_alike scope ∙ here) own
          (cell_alike scope names None ∙ is);
      constants = λ scope c names ty here own sort none small.
          let same : constant_at d names ≡ constant_at e names =
          λ i. unwrap_or (option_and_then (λ (name : Ident). constant_value (text i) name.text) (slice_get names 0)) 0
          in
          subst (λ n. n < 2 ^ type_bits e.spec ty) same
          (subst (λ (spec : SpecTree). constant_at d names < 2 ^ type_bits spec ty) text
          (settled.constants scope c names ty (context_alike scope ∙ here) own sort (cell_alike scope names None ∙ none)
          (subst (λ n. n < 2 ^ 64) (sym same) small)));
      elements = λ scope c names index ty found here named is.
          sym (type_alike found)
          ∙ settled.elements scope c names index ty found (context_alike scope ∙ here) named
          (cell_alike scope names (Some index) ∙ is);
      ends = λ scope names size index long past.
          sym (cell_alike scope names (Some index))
          ∙ settled.ends scope names size index (length_alike scope names ∙ long) past;
    }

    pub parameters_alike : HasParameters d → HasParameters e
    parameters_alike has = record {
      parameters = λ n s k task c here there called.
          let same : map (cell_type d) c.params ≡ map (cell_type e) c.params =
          λ i. map (λ (x : Cell). type_alike x i) c.params in
          sym same ∙ has.parameters n s k task c (site_alike n ∙ here) there (task_alike s k ∙ called);
    }
