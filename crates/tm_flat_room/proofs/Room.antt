-- The choices and arguments of a sound design of a text fit into the bits that there are for them.
use Rattle.std.proofs.Common.{◌≡◌, ℕ, zero, suc, ◌≤◌, Bool, true, false, Option, None, Some, List, [], ◌∷◌, ◌++◌, map, refl, sym, ap, ◌∙◌, subst, arith, nat_lt}
use Rattle.std.proofs.lemmas.Bool.Decides.{nat_tests}
use Rattle.std.specs.Prelude.{slice_get}
use Rattle.std.specs.List.{AllByRecursion, enumerate_from, filter, flat_map}
use Rattle.std.specs.Option.{option_map, option_map_or}
use Rattle.tm_syntax.specs.declared.fault.Quantity.{Quantity}
use Rattle.tm_syntax.specs.declared.fault.Quantity.TheVariants as quantity
use Rattle.tm_syntax.specs.declared.tree.Ident.{Ident}
use Rattle.tm_syntax.specs.declared.design.Design.{Design}
use Rattle.tm_syntax.specs.Tree.{BodyTree, StmtTree, assign, invoke, branch, repeat, forever, choose, assert, assume, pause, wait, magic, row_of, stmts_of, TaskTree, TemplateTree, SpecTree}
use Rattle.tm_syntax.specs.Scopes.Context.{Context}
use Rattle.tm_syntax.specs.Scopes.Parts.{BodyAt, bodies, body_stmts, stmts_in, task_body_at}
use Rattle.tm_syntax.specs.Scopes.Pauses.{call_depth, is_controllable}
use Rattle.tm_syntax.specs.Counts.Bodies.{controllable_bodies, param_bits, process_bodies, step_bodies}
use Rattle.tm_syntax.specs.Counts.Choices.{Paths, body_paths, path_sums}
use Rattle.tm_syntax.specs.Counts.Instances.{instance_templates}
use Rattle.tm_syntax.specs.Faults.{IsSound, IsOfText}
use Rattle.tm_syntax.specs.Faults.Limits.{count_of, counted, first_above, limit_of}
use Rattle.tm_syntax.specs.Design.{DesignTree}
use Rattle.tm_syntax.specs.Design.Cells.{Called}
use Rattle.tm_syntax.specs.Design.Locations.{Location, Thread, body_locations, locations, rest, thread}
use Rattle.tm_syntax.specs.Design.Scope.{Scope, Site}
use Rattle.tm_syntax.specs.Design.View.{design_tree}
use Rattle.tm_syntax.specs.Design.Work.{WorkItem, body_items, perform, performs}
use Rattle.tm_typing.proofs.Listed.{In, all_hold, found_in, holds_in, in_behind, in_filter, in_flat, in_front, in_get, in_map, no_thing}
use Rattle.tm_locations.proofs.CalledBodies.{made, site-template}
use Rattle.tm_design.proofs.CountedProcesses.{IsThread, process-in, process-there, thread-is}
use Rattle.tm_design.proofs.Indices.{in_enumerated}
use Rattle.tm_flat_room.proofs.TextBodies.{IsBody, task_is}
use Rattle.tm_design.proofs.FewPlaces.{at_most_greatest, few_places, template_counted}
use Rattle.tm_design.proofs.TypedCells.{typed_cells}
use Rattle.tm_flat.specs.BitStep.{HasRoom}
use Rattle.tm_flat.specs.Fitting.{ArgumentsFit, ItemsFit}
use Rattle.tm_flat.specs.Inputs.{room, AreSmall}
use Rattle.tm_flat_room.proofs.Alternatives.{HasAlternatives, HaveAlternatives}
use Rattle.tm_flat_room.proofs.Arguments.{arguments_fit, cell_bits}
use Rattle.tm_flat_room.proofs.Bodies.{body_fine, body_located, call_locations, call_paths, context_of, scope_of_task, text_of}
use Rattle.tm_flat_room.proofs.Chosen.{HasOne, chosen}
use Rattle.tm_flat_room.proofs.Driven.{IsDrivenTask, driven}
use Rattle.tm_flat_room.proofs.Memory.{HasFew, enums_short, few}
use Rattle.tm_flat_room.proofs.Rests.{row_rests, row_then}
use Rattle.tm_flat_room.proofs.Sums.{Stays, Within}

-- what no limit is below
within_limit : (spec : SpecTree) → first_above spec ≡ None → (q : Quantity) → In q counted →
    count_of spec q ≤ limit_of q
within_limit spec none q among = by (nat_lt (limit_of q) (count_of spec q)) refl
  where
    by : (b : Bool) → nat_lt (limit_of q) (count_of spec q) ≡ b → count_of spec q ≤ limit_of q
    by true above = no_thing (sym none ∙ (found_in (λ q. nat_lt (limit_of q) (count_of spec q)) counted among above).1)
    by false within = grind (arith, nat_tests)

-- the statements of a row of statements are these
stmts_are : (ss : List StmtTree) → stmts_of (row_of ss) ≡ ss
stmts_are [] = refl
stmts_are (s ∷ ss) = ap (λ (l : List StmtTree). s ∷ l) (stmts_are ss)

none_behind : {A : Type 0} (xs : List A) → xs ++ [] ≡ xs
none_behind [] = refl
none_behind (x ∷ xs) = ap (λ l. x ∷ l) (none_behind xs)

module _ (d : DesignTree) (sound : IsSound d) (of : IsOfText d.spec) (small : AreSmall d)
    (have : HaveAlternatives d.spec) where
  -- the paths of the bodies that steps begin with stay within the room
  sums_within : (t : TemplateTree) → In t (instance_templates d.spec) → (b : BodyAt) → In b (step_bodies d.spec t) →
      Within 0 (path_sums (body_paths (suc (call_depth d.spec)) b))
  unfolding room
  sums_within t counts b steps m i =
      let few : count_of d.spec quantity.Choices ≤ 64 =
      within_limit d.spec sound.within.counts quantity.Choices (in_get counted 7 refl) in
      let most = at_most_greatest m
      (flat_map (λ (t : TemplateTree). flat_map (λ (b : BodyAt). path_sums (body_paths (suc (call_depth d.spec)) b))
      (step_bodies d.spec t)) (instance_templates d.spec))
      (in_flat (λ (t : TemplateTree). flat_map (λ (b : BodyAt).
      path_sums (body_paths (suc (call_depth d.spec)) b)) (step_bodies d.spec t)) (instance_templates d.spec) counts
      (in_flat (λ (b : BodyAt). path_sums (body_paths (suc (call_depth d.spec)) b)) (step_bodies d.spec t) steps i)) in
      omega (arith, few, most)

  -- what that says of a body
  module _ (b : BodyAt) (within : Within 0 (path_sums (body_paths (suc (call_depth d.spec)) b))) where
    abbrev p : Paths
    p = body_paths (suc (call_depth d.spec)) b

    across_within : Within 0 p.across
    across_within m i =
        within m (in_front (p.across ++ p.inward ++ p.outward) p.between
        (in_front (p.across ++ p.inward) p.outward (in_front p.across p.inward i)))

    stays : Stays 0 p
    stays = record {
      across = across_within;
      inward = λ m i. within m (in_front (p.across ++ p.inward ++ p.outward) p.between
          (in_front (p.across ++ p.inward) p.outward (in_behind p.across p.inward i)));
    }

    outward_within : Within 0 p.outward
    outward_within m i =
        within m (in_front (p.across ++ p.inward ++ p.outward) p.between
        (in_behind (p.across ++ p.inward) p.outward i))

    between_within : Within 0 p.between
    between_within m i = within m (in_behind (p.across ++ p.inward ++ p.outward) p.between i)

  module _ (scope : Scope) (s : Site) (body : BodyTree) (at : IsBody d sound of scope s body)
      (within : Within 0 (path_sums (body_paths (suc (call_depth d.spec))
      (text_of d sound of small have scope s body))))
    where
      abbrev text : BodyAt
      text = text_of d sound of small have scope s body

      abbrev here : Context
      here = context_of d sound of small have scope s

      abbrev calls : List Ident → Paths
      calls = call_paths d sound of small have (call_depth d.spec) here

      abbrev located : List Ident → List WorkItem → List Location
      located = call_locations d sound of small have scope (call_depth d.spec) []

      -- a body fits from its start on
      body_fits : ItemsFit room d (map (perform scope []) (body_stmts body)) 0
      body_fits =
          subst (λ (items : List WorkItem). ItemsFit room d items 0)
          (none_behind (performs scope [] (row_of (body_stmts body)))
          ∙ ap (map (perform scope [])) (stmts_are (body_stmts body)))
          (row_then d scope here calls located [] (row_of (body_stmts body))
          (body_fine d sound of small have scope s body at) [] 0 (stays text within)
          (λ m i. across_within text within m i))

      -- and from each of its locations on
      rests_fit : AllByRecursion (λ (l : Location). ItemsFit room d l.rest 0)
          (body_locations (suc (call_depth d.spec)) d scope [] body [])
      rests_fit =
          row_rests d scope here calls located [] (row_of (body_stmts body))
          (body_fine d sound of small have scope s body at) (body_located d sound of small have scope s body at []) []
          (between_within text within)
          (λ m i. let far = outward_within text within m i in omega (arith, far))

  process_within : (p : ℕ) (h : Thread) → (is : IsThread d p h) →
      Within 0 (path_sums (body_paths (suc (call_depth d.spec)) (text_of d sound of small have h.scope is.at
      h.process.body)))
  process_within p h is =
      sums_within is.at.template (template_counted d sound of h.scope.instance is.at is.there)
      (text_of d sound of small have h.scope is.at h.process.body)
      (in_front (process_bodies d.spec is.at.template) (controllable_bodies d.spec is.at.template)
      (process-there d p h is.at is is.there))

  process_body : (p : ℕ) (h : Thread) → (is : IsThread d p h) → IsBody d sound of h.scope is.at h.process.body
  process_body p h is = record {
    there = is.there;
    template = in_get d.spec.templates is.at.node.template (site-template d h.scope.instance is.at is.there);
    is = process-in d p h is.at is is.there;
  }

  processes_fit : (p k : ℕ) → ItemsFit room d (rest d p k) 0
  processes_fit p zero = by (thread d p) refl
    where
      by : (o : Option Thread) → thread d p ≡ o →
          ItemsFit room d (option_map_or (λ (t : Thread). map (perform t.scope []) (body_stmts t.process.body)) o []) 0
      by None e = omega arith
      by (Some h) e =
          let is = thread-is d p h e in
          body_fits h.scope is.at h.process.body (process_body p h is) (process_within p h is)
  processes_fit p (suc k) = at (slice_get (locations d p) k) refl
    where
      by : (o : Option Thread) → thread d p ≡ o →
          AllByRecursion (λ (l : Location). ItemsFit room d l.rest 0)
          (option_map_or (λ (t : Thread). body_locations (suc (call_depth d.spec)) d t.scope [] t.process.body []) o [])
      by None e = tt
      by (Some h) e =
          let is = thread-is d p h e in
          rests_fit h.scope is.at h.process.body (process_body p h is) (process_within p h is)

      at : (o : Option Location) → slice_get (locations d p) k ≡ o →
          ItemsFit room d (option_map_or (λ (l : Location). l.rest) o []) 0
      at None e = omega arith
      at (Some l) e =
          holds_in (λ (l : Location). ItemsFit room d l.rest 0) (locations d p) (by (thread d p) refl)
          (in_get (locations d p) k e)

  module _ (c : Called) (x : IsDrivenTask d sound c) where
    task_within : Within 0 (path_sums (body_paths (suc (call_depth d.spec)) (text_of d sound of small have
        (scope_of_task d sound of small have x.at x.number) x.at x.task.body)))
    task_within =
        sums_within x.at.template (template_counted d sound of x.at.number x.at x.there)
        (text_of d sound of small have (scope_of_task d sound of small have x.at x.number) x.at x.task.body)
        (in_behind (process_bodies d.spec x.at.template) (controllable_bodies d.spec x.at.template)
        (in_map (task_body_at d.spec x.at.template)
        (filter (λ (k : ℕ × TaskTree). is_controllable k.1.kind) (enumerate_from 0 x.at.template.tasks))
        (in_filter (λ (k : ℕ × TaskTree). is_controllable k.1.kind) (enumerate_from 0 x.at.template.tasks)
        (in_enumerated x.at.template.tasks x.number x.is) x.controllable)))

    task_fits : ItemsFit room d (body_items c.scope [] c.body) 0
    task_fits =
        subst (λ (c : Called). ItemsFit room d (body_items c.scope [] c.body) 0) x.called
        (body_fits (scope_of_task d sound of small have x.at x.number) x.at x.task.body
        (task_is d sound of x.at x.number x.task x.there x.is) task_within)

    params_fit : ArgumentsFit room d c.params 0
    unfolding room
    params_fit =
        let few : count_of d.spec quantity.Arguments ≤ 64 =
        within_limit d.spec sound.within.counts quantity.Arguments (in_get counted 8 refl) in
        let most = at_most_greatest (param_bits d.spec x.task.params)
        (flat_map (λ (t : TemplateTree). map (λ (k : TaskTree). param_bits d.spec k.params)
        (filter (λ (k : TaskTree). is_controllable k.kind) t.tasks)) (instance_templates d.spec))
        (in_flat (λ (t : TemplateTree). map (λ (k : TaskTree). param_bits d.spec k.params)
        (filter (λ (k : TaskTree). is_controllable k.kind) t.tasks)) (instance_templates d.spec)
        (template_counted d sound of x.at.number x.at x.there)
        (in_map (λ (k : TaskTree). param_bits d.spec k.params)
        (filter (λ (k : TaskTree). is_controllable k.kind) x.at.template.tasks)
        (in_filter (λ (k : TaskTree). is_controllable k.kind) x.at.template.tasks
        (in_get x.at.template.tasks x.number x.is) x.controllable))) in
        let bits = cell_bits d x.task.params (made d x.at x.number x.task).params
        ((typed_cells d sound of).parameters x.at.number x.at x.number x.task (made d x.at x.number x.task) x.there x.is
        (ap (option_map (made d x.at x.number)) x.is)) in
        subst (λ (c : Called). ArgumentsFit room d c.params 0) x.called
        (arguments_fit d small (made d x.at x.number x.task).params 0 (omega (arith, few, most, bits)))

  pub has_room : HasRoom d
  has_room = record {
    processes = processes_fit;
    tasks = λ n c is. task_fits c (driven d sound n c is);
    arguments = λ n c is. params_fit c (driven d sound n c is);
  }

-- where choices have an alternative, and few, they have both
both_had : (s : StmtTree) → HasOne s → HasFew s → HasAlternatives s
both_had (assign _ _ _) one few = tt
both_had (invoke _ _) one few = tt
both_had (branch _ _ _) one few = tt
both_had (repeat _ _ _) one few = tt
both_had (forever _ _) one few = tt
both_had (choose _ _) one few = (one, few)
both_had (assert _ _) one few = tt
both_had (assume _ _) one few = tt
both_had (pause _) one few = tt
both_had (wait _ _) one few = tt
both_had (magic _) one few = tt

alternatives : (d : Design) → IsOfText (design_tree d).spec → HaveAlternatives (design_tree d).spec
alternatives d of =
    all_hold (λ (b : BodyAt). AllByRecursion HasAlternatives (stmts_in b.body)) (bodies (design_tree d).spec)
    (λ b i. all_hold HasAlternatives (stmts_in b.body)
    (λ s j. both_had s
    (holds_in HasOne (stmts_in b.body)
    (holds_in (λ (b : BodyAt). AllByRecursion HasOne (stmts_in b.body)) (bodies (design_tree d).spec)
    (chosen (design_tree d).spec of) i) j)
    (holds_in HasFew (stmts_in b.body)
    (holds_in (λ (b : BodyAt). AllByRecursion HasFew (stmts_in b.body)) (bodies (design_tree d).spec) (few d) i) j)))

-- the numbers of a sound design in memory are small
pub are_small : (d : Design) → IsSound (design_tree d) → IsOfText (design_tree d).spec → AreSmall (design_tree d)
are_small d sound of = record {
  enums = enums_short d;
  locations = λ p. let few = (few_places (design_tree d) sound of).places p in omega (arith, few);
  processes = let few = (few_places (design_tree d) sound of).processes in omega (arith, few);
}

pub design_has_room : (d : Design) → IsSound (design_tree d) → IsOfText (design_tree d).spec → HasRoom (design_tree d)
design_has_room d sound of = has_room (design_tree d) sound of (are_small d sound of) (alternatives d of)
