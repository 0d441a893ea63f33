-- The atoms of the pool of a checked design are truths where they stand.
use Rattle.std.proofs.Common.{◌≡◌, ℕ, zero, suc, Bool, Option, None, Some, List, [], ◌∷◌, ◌++◌, map, slice_get, refl, ap, ◌∙◌}
use Rattle.std.specs.List.{AllByRecursion, enumerate_from, filter, flat_map}
use Rattle.std.specs.Option.{option_map, option_map_or, option_and_then}
use Rattle.std.specs.Prelude.{not}
use Rattle.tm_syntax.specs.declared.design.Item.{Item}
use Rattle.tm_syntax.specs.declared.design.Ty.TheVariants as types
use Rattle.tm_syntax.specs.declared.tree.Ident.{Ident}
use Rattle.tm_syntax.specs.Tree.{BodyTree, NamedTree, ProcessTree, StmtTree, TaskTree, TemplateTree, assert, assign, assume, branch, choose, forever, invoke, magic, pause, repeat, wait}
use Rattle.tm_syntax.specs.Scopes.Context.{outside, process_body, task_body}
use Rattle.tm_syntax.specs.Scopes.Parts.{body_exprs, condition, exprs, own_calls, process_body_at, stmts_in, task_body_at, template_bodies, template_exprs}
use Rattle.tm_syntax.specs.Scopes.Pauses.{call_depth}
use Rattle.tm_syntax.specs.Design.{DesignTree, InstanceNode}
use Rattle.tm_syntax.specs.Design.Atoms.{Atom, body_atoms, claim_atoms, expr_atoms, in_template, is_lasting, named_atoms, pool_atoms, pooled, process_atoms, resolved_atom, same_atom, stmt_conditions, task_atoms, without_repeats}
use Rattle.tm_syntax.specs.Design.Cells.{Called, called}
use Rattle.tm_syntax.specs.Design.Scope.{Scope, Site, site}
use Rattle.tm_syntax.specs.Faults.{IsTyped}
use Rattle.tm_typing.specs.HasType.{HasType}
use Rattle.tm_typing.specs.Promises.{HasAskedType}
use Rattle.tm_typing.proofs.Listed.{In, all_hold, all_join, flat_holds, holds_in, in_behind, in_flat, in_front, in_get, in_map, of_filter}
use Rattle.tm_typing.proofs.Promises.{exprs_typed}
use Rattle.tm_states.specs.Promised.{IsPromised}
use Rattle.tm_design.proofs.Indices.{in_enumerated}
use Rattle.tm_states.proofs.Bodies.{called_task}
use Rattle.tm_states.proofs.Promised.{body_promised}
use Rattle.tm_states.proofs.Standing.{BodyStands, called_stands, site_template, task_stands}
use Rattle.tm_flat_pool.specs.Truths.{IsTruth}
use Rattle.tm_flat_pool.proofs.TypedAtoms.{atoms_are_truths}

-- what is left of a list has what all of it has
filtered : {A : Type 0} (P : A → Type 0) (p : A → Bool) (xs : List A) → AllByRecursion P xs →
    AllByRecursion P (filter p xs)
filtered P p xs all = all_hold P (filter p xs) (λ x inside. holds_in P xs all (of_filter p xs inside).0)

not_repeated : {A : Type 0} (P : A → Type 0) (same : A → A → Bool) (xs : List A) → AllByRecursion P xs →
    AllByRecursion P (without_repeats same xs)
not_repeated P same [] all = tt
not_repeated P same (x ∷ xs) all =
    (all.0, filtered P (λ y. not (same x y)) (without_repeats same xs) (not_repeated P same xs all.1))

module _ (d : DesignTree) where
  abbrev AreTruths : List Atom → Type 0
  AreTruths atoms = AllByRecursion (IsTruth d) atoms

  -- those of a pool are
  pooled_truths : (atoms : List Atom) → AreTruths atoms → AreTruths (pooled d atoms)
  pooled_truths atoms all =
      not_repeated (IsTruth d) (λ a b. same_atom (resolved_atom d a) (resolved_atom d b))
      (filter (λ a. is_lasting (resolved_atom d a)) atoms)
      (filtered (IsTruth d) (λ a. is_lasting (resolved_atom d a)) atoms all)

  -- the template of an instance is where the instance stands
  stands_at : (n : ℕ) (node : InstanceNode) (t : TemplateTree) → slice_get d.instances n ≡ Some node →
      slice_get d.spec.templates node.template ≡ Some t →
      site d n ≡ Some (record { number = n; node = node; template = t })
  stands_at n node t there is =
      ap (option_and_then (λ (k : InstanceNode). option_map (λ (u : TemplateTree). record {
        number = n;
        node = k;
        template = u;
      }) (slice_get d.spec.templates k.template))) there
      ∙ ap (option_map (λ (u : TemplateTree). record { number = n; node = node; template = u })) is

  -- the atoms of an item are truths where those of its index in each template are
  item_truths : (f : TemplateTree → ℕ → ℕ → List Atom) (item : Item) →
      ((u : Site) → site d item.instance ≡ Some u → (k : ℕ) → AreTruths (f u.template item.instance k)) →
      AreTruths (in_template d f item)
  item_truths f item each = by (slice_get d.instances item.instance) refl
    where
      at_index : (node : InstanceNode) (t : TemplateTree) → slice_get d.instances item.instance ≡ Some node →
          slice_get d.spec.templates node.template ≡ Some t → (o : Option ℕ) →
          AreTruths (option_map_or (f t item.instance) o [])
      at_index node t there is None = tt
      at_index node t there is (Some k) =
          each (record { number = item.instance; node = node; template = t })
          (stands_at item.instance node t there is) k

      at_template : (node : InstanceNode) → slice_get d.instances item.instance ≡ Some node →
          (o : Option TemplateTree) → slice_get d.spec.templates node.template ≡ o →
          AreTruths (option_map_or (λ t. option_map_or (f t item.instance) item.index []) o [])
      at_template node there None is = tt
      at_template node there (Some t) is = at_index node t there is item.index

      by : (o : Option InstanceNode) → slice_get d.instances item.instance ≡ o →
          AreTruths (option_map_or (λ node. option_map_or (λ t. option_map_or (f t item.instance) item.index [])
          (slice_get d.spec.templates node.template) []) o [])
      by None is = tt
      by (Some node) is = at_template node is (slice_get d.spec.templates node.template) refl

  module _ (typed : IsTyped d.spec) where
    -- the conditions of a statement
    stmt_truths : (scope : Scope) (body : BodyTree) (h : BodyStands d scope body) (s : StmtTree) →
        IsPromised h.place s → AreTruths (flat_map (expr_atoms d scope) (stmt_conditions s))
    stmt_truths scope body h (assign _ _ _) p = tt
    stmt_truths scope body h (invoke _ _) p = tt
    stmt_truths scope body h (branch e _ _) p =
        all_join (IsTruth d) (expr_atoms d scope e) []
        (atoms_are_truths d scope h.place h.here e (p.exprs.0 types.Bool refl)) tt
    stmt_truths scope body h (repeat _ e _) p =
        all_join (IsTruth d) (expr_atoms d scope e) []
        (atoms_are_truths d scope h.place h.here e (p.exprs.0 types.Bool refl)) tt
    stmt_truths scope body h (forever _ _) p = tt
    stmt_truths scope body h (choose _ _) p = tt
    stmt_truths scope body h (assert _ e) p =
        all_join (IsTruth d) (expr_atoms d scope e) []
        (atoms_are_truths d scope h.place h.here e (p.exprs.0 types.Bool refl)) tt
    stmt_truths scope body h (assume _ e) p =
        all_join (IsTruth d) (expr_atoms d scope e) []
        (atoms_are_truths d scope h.place h.here e (p.exprs.0 types.Bool refl)) tt
    stmt_truths scope body h (pause _) p = tt
    stmt_truths scope body h (wait _ e) p =
        all_join (IsTruth d) (expr_atoms d scope e) []
        (atoms_are_truths d scope h.place h.here e (p.exprs.0 types.Bool refl)) tt
    stmt_truths scope body h (magic _) p = tt

    -- the conditions of a body, with those that it calls
    body_truths : (depth : ℕ) (scope : Scope) (body : BodyTree) → BodyStands d scope body →
        AreTruths (body_atoms depth d scope body)
    body_truths zero scope body h = tt
    body_truths (suc depth) scope body h =
        flat_holds (IsTruth d) (λ s. flat_map (expr_atoms d scope) (stmt_conditions s)
        ++ flat_map (λ names. option_map_or (λ (k : Called). body_atoms depth d k.scope k.body) (called d scope names)
        [])
        (own_calls s)) (stmts_in body)
        (λ s inside. all_join (IsTruth d) (flat_map (expr_atoms d scope) (stmt_conditions s))
        (flat_map (λ names. option_map_or (λ (k : Called). body_atoms depth d k.scope k.body) (called d scope names) [])
        (own_calls s))
        (stmt_truths scope body h s (holds_in (IsPromised h.place) (stmts_in body) h.promised inside))
        (flat_holds (IsTruth d)
        (λ names. option_map_or (λ (k : Called). body_atoms depth d k.scope k.body) (called d scope names) [])
        (own_calls s) (λ names _. by names (λ c stands. body_truths depth c.scope c.body stands) (called d scope names)
        refl)))
      where
        by : (names : List Ident) →
            ((c : Called) → BodyStands d c.scope c.body → AreTruths (body_atoms depth d c.scope c.body)) →
            (o : Option Called) → called d scope names ≡ o →
            AreTruths (option_map_or (λ (k : Called). body_atoms depth d k.scope k.body) o [])
        by names each None is = tt
        by names each (Some c) is = each c (called_stands d typed c (called_task d scope names c is))

    -- the process of a number of an instance
    process_stands : (n : ℕ) (u : Site) → site d n ≡ Some u → (k : ℕ) (process : ProcessTree) →
        slice_get u.template.processes k ≡ Some process →
        BodyStands d (record { instance = n; body = process_body k }) process.body
    process_stands n u there k process is =
        let b = process_body_at d.spec u.template (k, process) in record {
          place = b.context;
          here = ap (option_map (λ (v : Site). record {
            spec = d.spec;
            template = v.template;
            body = process_body k;
          })) there;
          promised = body_promised d.spec typed b
              (in_flat (template_bodies d.spec) d.spec.templates (site_template d n u there)
              (in_front (map (process_body_at d.spec u.template) (enumerate_from 0 u.template.processes))
              (map (task_body_at d.spec u.template) (enumerate_from 0 u.template.tasks))
              (in_map (process_body_at d.spec u.template) (enumerate_from 0 u.template.processes)
              (in_enumerated u.template.processes k is))));
        }

    process_truths : (item : Item) → AreTruths (process_atoms d item)
    process_truths item =
        item_truths (λ t i k. option_map_or (λ (p : ProcessTree).
        body_atoms (suc (call_depth d.spec)) d (record { instance = i; body = process_body k }) p.body)
        (slice_get t.processes k) []) item
        (λ u there k. by u there k (slice_get u.template.processes k) refl)
      where
        by : (u : Site) → site d item.instance ≡ Some u → (k : ℕ) (o : Option ProcessTree) →
            slice_get u.template.processes k ≡ o →
            AreTruths (option_map_or (λ (p : ProcessTree). body_atoms (suc (call_depth d.spec)) d
            (record { instance = item.instance; body = process_body k }) p.body) o [])
        by u there k None is = tt
        by u there k (Some p) is =
            body_truths (suc (call_depth d.spec)) (record { instance = item.instance; body = process_body k }) p.body
            (process_stands item.instance u there k p is)

    task_truths : (item : Item) → AreTruths (task_atoms d item)
    task_truths item =
        item_truths (λ t i k. option_map_or (λ (task : TaskTree).
        body_atoms (suc (call_depth d.spec)) d (record { instance = i; body = task_body k }) task.body)
        (slice_get t.tasks k) []) item
        (λ u there k. by u there k (slice_get u.template.tasks k) refl)
      where
        by : (u : Site) → site d item.instance ≡ Some u → (k : ℕ) (o : Option TaskTree) →
            slice_get u.template.tasks k ≡ o →
            AreTruths (option_map_or (λ (task : TaskTree). body_atoms (suc (call_depth d.spec)) d
            (record { instance = item.instance; body = task_body k }) task.body) o [])
        by u there k None is = tt
        by u there k (Some task) is =
            body_truths (suc (call_depth d.spec)) (record { instance = item.instance; body = task_body k }) task.body
            (task_stands d typed item.instance u there k task is)

    -- a named condition of a template is a truth
    named_typed : (u : Site) (n : ℕ) → site d n ≡ Some u → (named : NamedTree) →
        In named (u.template.goals ++ u.template.fairs) →
        HasType (record { spec = d.spec; template = u.template; body = outside }) types.Bool named.expr
    named_typed u n there named inside =
        holds_in HasAskedType (exprs d.spec) (exprs_typed d.spec typed)
        (in_flat (template_exprs d.spec) d.spec.templates (site_template d n u there)
        (in_behind (flat_map (λ b. map (λ e. record { context = b.context; asked = e }) (body_exprs b))
        (template_bodies d.spec u.template))
        (map (λ (k : NamedTree). record {
          context = record { spec = d.spec; template = u.template; body = outside };
          asked = condition k.expr;
        }) (u.template.goals ++ u.template.fairs))
        (in_map (λ (k : NamedTree). record {
          context = record { spec = d.spec; template = u.template; body = outside };
          asked = condition k.expr;
        }) (u.template.goals ++ u.template.fairs) inside))) types.Bool refl

    -- the atoms of goals or of fairness conditions, which `sort` tells of a template
    named_truths : (sort : TemplateTree → List NamedTree) →
        ((t : TemplateTree) (k : NamedTree) → In k (sort t) → In k (t.goals ++ t.fairs)) → (item : Item) →
        AreTruths (named_atoms d sort item)
    named_truths sort among item =
        item_truths (λ t i k. option_map_or (λ (n : NamedTree).
        expr_atoms d (record { instance = i; body = outside }) n.expr) (slice_get (sort t) k) []) item
        (λ u there k. by u there k (slice_get (sort u.template) k) refl)
      where
        by : (u : Site) → site d item.instance ≡ Some u → (k : ℕ) (o : Option NamedTree) →
            slice_get (sort u.template) k ≡ o →
            AreTruths (option_map_or (λ (n : NamedTree).
            expr_atoms d (record { instance = item.instance; body = outside }) n.expr) o [])
        by u there k None is = tt
        by u there k (Some named) is =
            atoms_are_truths d (record { instance = item.instance; body = outside })
            (record { spec = d.spec; template = u.template; body = outside })
            (ap (option_map (λ (v : Site). record { spec = d.spec; template = v.template; body = outside })) there)
            named.expr
            (named_typed u item.instance there named (among u.template named (in_get (sort u.template) k is)))

    claim_truths : AreTruths (claim_atoms d)
    claim_truths =
        all_join (IsTruth d) (flat_map (named_atoms d (λ t. t.goals)) d.goals)
        (flat_map (named_atoms d (λ t. t.fairs)) d.fairs)
        (flat_holds (IsTruth d) (named_atoms d (λ t. t.goals)) d.goals
        (λ item _. named_truths (λ t. t.goals) (λ t k inside. in_front t.goals t.fairs inside) item))
        (flat_holds (IsTruth d) (named_atoms d (λ t. t.fairs)) d.fairs
        (λ item _. named_truths (λ t. t.fairs) (λ t k inside. in_behind t.goals t.fairs inside) item))

    -- the atoms of the pool
    pub pool_truths : AreTruths (pool_atoms d)
    pool_truths =
        pooled_truths (claim_atoms d ++ flat_map (process_atoms d) d.processes ++ flat_map (task_atoms d) d.tasks)
        (all_join (IsTruth d) (claim_atoms d ++ flat_map (process_atoms d) d.processes)
        (flat_map (task_atoms d) d.tasks)
        (all_join (IsTruth d) (claim_atoms d) (flat_map (process_atoms d) d.processes) claim_truths
        (flat_holds (IsTruth d) (process_atoms d) d.processes (λ item _. process_truths item)))
        (flat_holds (IsTruth d) (task_atoms d) d.tasks (λ item _. task_truths item)))
