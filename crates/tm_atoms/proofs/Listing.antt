-- The items of a design, one behind the other.
use Rattle.std.proofs.Common.{◌≡◌, ℕ, suc, Option, None, Some, List, [], ◌∷◌, ◌++◌, ◌+◌, ◌<◌, ◌≤◌, append-nil, append_assoc, drop, get_or, length, map, slice_get, refl, sym, ap, ◌∙◌, subst, true≢false}
use Rattle.std.specs.Prelude.{IfSome}
use Rattle.std.proofs.lemmas.Option.{none-some, same_Some}
use Rattle.std.proofs.lemmas.List.{at_drop_more, drop_all}
use Rattle.std.specs.List.{AllByRecursion, flat_map}
use Rattle.std.specs.Option.{option_map, option_map_or, option_and_then}
use Rattle.tm_syntax.specs.declared.design.Item.{Item}
use Rattle.tm_syntax.specs.Tree.{BodyTree, ExprTree, NamedTree, ProcessTree, StmtTree, TaskTree, TemplateTree}
use Rattle.tm_syntax.specs.Scopes.Context.{outside, process_body, task_body}
use Rattle.tm_syntax.specs.Scopes.Parts.{own_calls, stmts_in}
use Rattle.tm_syntax.specs.Scopes.Pauses.{call_depth}
use Rattle.tm_syntax.specs.Design.{DesignTree, InstanceNode}
use Rattle.tm_syntax.specs.Design.Atoms.{Atom, body_atoms, expr_atoms, in_template, named_atoms, pooled, process_atoms, task_atoms}
use Rattle.tm_syntax.specs.Design.Cells.{Called, task_called}
use Rattle.tm_syntax.specs.Design.Scope.{Scope, Site, site}
use Rattle.tm_scope.specs.Cells.{CellTables, HasCells}
use Rattle.tm_scope.specs.Instances.{task_called_at}
use Rattle.tm_scope.specs.declared.members.SiteTask.{SiteTask}
use Rattle.tm_atoms.specs.declared.atom.AtomAt.{AtomAt}
use Rattle.tm_atoms.specs.Atoms.{atom_of}
use Rattle.tm_atoms.specs.Pool.{AreNoted, with_atoms}
use Rattle.tm_atoms.specs.Inner.Ranks.{AllDescend, Descends, IsRanked}
use Rattle.tm_atoms.specs.Inner.Bodies.{item_seen, named_seen, process_seen, seen, task_seen}
use Rattle.tm_atoms.specs.Inner.Pools.{Adds, AreNumbered, noted_atoms}
use Rattle.tm_atoms.specs.Inner.Walks.{AllNoted, HasNoted, HasWalked, IsIdle, IsRoot, WalkTables, has_entered, seen_atoms}
use Rattle.tm_atoms.proofs.BodyTables.{made, placed}
use Rattle.tm_atoms.proofs.Noting.{all-later, pooled_is, with_both}

module _ (d : DesignTree) where
  pub walked-none : (w : WalkTables) → IsIdle d w → HasWalked d w w []
  walked-none w idle = record { idle = idle; are = refl }

  pub walked-then : (u v w : WalkTables) (xs ys : List Atom) → HasWalked d u v xs → HasWalked d v w ys →
      HasWalked d u w (xs ++ ys)
  walked-then u v w xs ys first second = record {
    idle = second.idle;
    are = second.are ∙ ap (λ pool. with_atoms d pool ys) first.are ∙ sym (with_both d (noted_atoms u.pool) xs ys);
  }

  -- what is noted while nothing is walked
  pub walked-added : (w v : WalkTables) (atoms : List Atom) → v.entered ≡ w.entered → v.todo ≡ w.todo →
      Adds d w.pool v.pool atoms → IsIdle d w → HasWalked d w v atoms
  walked-added w v atoms entered todo adds idle =
      let added = adds idle.numbered in
      record {
        idle = record {
          numbered = added.numbered;
          noted = subst (AllNoted d (noted_atoms v.pool)) (sym entered) (λ task k among called.
              subst (λ pool. AreNoted d pool (body_atoms (call_depth d.spec) d k.scope k.body)) (sym added.are)
              (all-later d (noted_atoms w.pool) atoms (body_atoms (call_depth d.spec) d k.scope k.body)
              (idle.noted task k among called)));
          todo = todo ∙ idle.todo;
        };
        are = added.are;
      }

  module _ {X Y : Type 0} (sort : TemplateTree → List X) (found : ℕ → X → Y) (item : Item) where
    -- what an item gives, by what is seen of it
    pub seen-in : {Z : Type 0} (f : Y → List Z) →
        in_template d (λ t i k. option_map_or (λ x. f (found k x)) (slice_get (sort t) k) []) item
        ≡ option_map_or f (item_seen d sort found item) []
    seen-in {Z} f = by (slice_get d.instances item.instance)
      where
        of_index : (t : TemplateTree) (k : ℕ) (o : Option X) →
            option_map_or (λ x. f (found k x)) o [] ≡ option_map_or f (option_map (found k) o) []
        of_index t k None = refl
        of_index t k (Some x) = refl

        of_template : (t : TemplateTree) (o : Option ℕ) →
            option_map_or (λ k. option_map_or (λ x. f (found k x)) (slice_get (sort t) k) []) o []
            ≡ option_map_or f (option_and_then (λ k. option_map (found k) (slice_get (sort t) k)) o) []
        of_template t None = refl
        of_template t (Some k) = of_index t k (slice_get (sort t) k)

        of_node : (o : Option TemplateTree) →
            option_map_or (λ t.
            option_map_or (λ k. option_map_or (λ x. f (found k x)) (slice_get (sort t) k) []) item.index []) o []
            ≡ option_map_or f (option_and_then (λ t.
            option_and_then (λ k. option_map (found k) (slice_get (sort t) k)) item.index) o) []
        of_node None = refl
        of_node (Some t) = of_template t item.index

        by : (o : Option InstanceNode) →
            option_map_or (λ node. option_map_or (λ t.
            option_map_or (λ k. option_map_or (λ x. f (found k x)) (slice_get (sort t) k) []) item.index [])
            (slice_get d.spec.templates node.template) []) o []
            ≡ option_map_or f (option_and_then (λ t.
            option_and_then (λ k. option_map (found k) (slice_get (sort t) k)) item.index)
            (option_and_then (λ (node : InstanceNode). slice_get d.spec.templates node.template) o)) []
        by None = refl
        by (Some node) = of_node (slice_get d.spec.templates node.template)

    -- what is seen of an item is a member of the template of an instance that is there
    pub record IsThere (y : Y) : Type 0 where
      pub at : Site
      pub there : site d item.instance ≡ Some at
      pub number : at.number ≡ item.instance
      pub k : ℕ
      pub x : X
      pub is : slice_get (sort at.template) k ≡ Some x
      pub same : found k x ≡ y

    pub is-there : (y : Y) → item_seen d sort found item ≡ Some y → IsThere y
    is-there y e = by (slice_get d.instances item.instance) refl e
      where
        of_index : (s : Site) → site d item.instance ≡ Some s → s.number ≡ item.instance → (k : ℕ) (o : Option X) →
            slice_get (sort s.template) k ≡ o → option_map (found k) o ≡ Some y → IsThere y
        of_index s there number k None at e = absurd (none-some y e)
        of_index s there number k (Some x) at e = record {
          at = s;
          there = there;
          number = number;
          k = k;
          x = x;
          is = at;
          same = same_Some (found k x) y e;
        }

        of_template : (s : Site) → site d item.instance ≡ Some s → s.number ≡ item.instance → (o : Option ℕ) →
            option_and_then (λ k. option_map (found k) (slice_get (sort s.template) k)) o ≡ Some y → IsThere y
        of_template s there number None e = absurd (none-some y e)
        of_template s there number (Some k) e = of_index s there number k (slice_get (sort s.template) k) refl e

        of_node : (node : InstanceNode) → slice_get d.instances item.instance ≡ Some node → (o : Option TemplateTree) →
            slice_get d.spec.templates node.template ≡ o →
            option_and_then (λ t. option_and_then (λ k. option_map (found k) (slice_get (sort t) k)) item.index) o
            ≡ Some y → IsThere y
        of_node node at None template e = absurd (none-some y e)
        of_node node at (Some t) template e =
            of_template (placed item.instance node t)
            (ap (option_and_then (λ (n : InstanceNode).
            option_map (placed item.instance n) (slice_get d.spec.templates n.template))) at
            ∙ ap (option_map (placed item.instance node)) template)
            refl item.index e

        by : (o : Option InstanceNode) → slice_get d.instances item.instance ≡ o →
            option_and_then (λ t. option_and_then (λ k. option_map (found k) (slice_get (sort t) k)) item.index)
            (option_and_then (λ (node : InstanceNode). slice_get d.spec.templates node.template) o) ≡ Some y → IsThere y
        by None at e = absurd (none-some y e)
        by (Some node) at e = of_node node at (slice_get d.spec.templates node.template) refl e

  -- what holds of everything holds of all items
  all-hold : {X : Type 0} (P : X → Type 0) → ((x : X) → P x) → (xs : List X) → AllByRecursion P xs
  all-hold P each [] = tt
  all-hold P each (x ∷ xs) = (each x, all-hold P each xs)

  -- a task of a template is called where it stands
  called-there : (s : Site) (k : ℕ) (t : TaskTree) → slice_get s.template.tasks k ≡ Some t →
      (c : Called) × (task_called d s k ≡ Some c)
      × (seen c.scope c.body ≡ seen (record { instance = s.number; body = task_body k }) t.body)
  called-there s k t at = (made d s k t, ap (option_map (made d s k)) at, refl)

  module _ (rank : Scope → ℕ) (ranked : IsRanked d rank) (item : Item) where
    pub process-root : IfSome (process_seen d item) (IsRoot d rank)
    process-root = by (process_seen d item) refl
      where
        by : (o : Option (Scope × BodyTree)) → process_seen d item ≡ o → IfSome o (IsRoot d rank)
        by None e = tt
        by (Some b) e =
            let found = is-there (λ t. t.processes)
            (λ k (p : ProcessTree). seen (record { instance = item.instance; body = process_body k }) p.body) item b
            e in
            subst (IsRoot d rank) found.same (record {
              at = found.at;
              there = found.there;
              descend = all-hold
                  (λ (s : StmtTree). AllByRecursion
                  (Descends d rank (record { instance = item.instance; body = process_body found.k })) (own_calls s))
                  (λ s. all-hold (Descends d rank (record { instance = item.instance; body = process_body found.k }))
                  (λ path. ranked.processes item.instance found.k path) (own_calls s)) (stmts_in found.x.body);
            })

    pub task-root : IfSome (task_seen d item) (IsRoot d rank)
    task-root = by (task_seen d item) refl
      where
        by : (o : Option (Scope × BodyTree)) → task_seen d item ≡ o → IfSome o (IsRoot d rank)
        by None e = tt
        by (Some b) e =
            let found = is-there (λ t. t.tasks)
            (λ k (t : TaskTree). seen (record { instance = item.instance; body = task_body k }) t.body) item b e in
            let task : SiteTask = record { instance = item.instance; index = found.k } in
            let called = called-there found.at found.k found.x found.is in
            let there : task_called_at d task ≡ Some called.0 =
            ap (option_and_then (λ (s : Site). task_called d s found.k)) found.there ∙ called.1 in
            subst (IsRoot d rank) found.same (record {
              at = found.at;
              there = found.there;
              descend =
                  subst (λ (n : ℕ). AllDescend d rank (record { instance = n; body = task_body found.k })
                  (stmts_in found.x.body)) found.number
                  (subst (λ (c : Scope × BodyTree). AllDescend d rank c.0 (stmts_in c.1)) called.2
                  (ranked.tasks task called.0 there));
            })

  module _ (sort : TemplateTree → List NamedTree) (item : Item) where
    named-is : named_atoms d sort item
        ≡ option_map_or (expr_atoms d (record { instance = item.instance; body = outside })) (named_seen d sort item) []
    named-is = seen-in sort (λ k (n : NamedTree). n.expr) item
        (expr_atoms d (record { instance = item.instance; body = outside }))

    -- a goal or fairness condition that is noted
    pub named-walked : (x : CellTables) → HasCells x d → (e : ExprTree) → Some e ≡ named_seen d sort item →
        (w v : WalkTables) → HasNoted x w v (record { instance = item.instance; body = outside }) e → IsIdle d w →
        HasWalked d w v (named_atoms d sort item)
    named-walked x over e is w v noted idle =
        let found = is-there sort (λ k (n : NamedTree). n.expr) item e (sym is) in
        subst (HasWalked d w v)
        (sym (named-is
        ∙ ap (λ o. option_map_or (expr_atoms d (record { instance = item.instance; body = outside })) o []) (sym is)))
        (walked-added w v (expr_atoms d (record { instance = item.instance; body = outside }) e) noted.entered
        noted.todo
        (noted.adds d over found.at found.there) idle)

    -- one that is not there
    pub named-absent : None ≡ named_seen d sort item → (w : WalkTables) → IsIdle d w →
        HasWalked d w w (named_atoms d sort item)
    named-absent is w idle =
        subst (HasWalked d w w)
        (sym (named-is
        ∙ ap (λ o. option_map_or (expr_atoms d (record { instance = item.instance; body = outside })) o []) (sym is)))
        (walked-none w idle)

  -- the atoms of a process and of a task, by what is seen of them
  pub process-is : (item : Item) → process_atoms d item ≡ seen_atoms d (process_seen d item)
  process-is item =
      seen-in (λ t. t.processes)
      (λ k (p : ProcessTree). seen (record { instance = item.instance; body = process_body k }) p.body) item
      (λ b. body_atoms (suc (call_depth d.spec)) d b.0 b.1)

  pub task-is : (item : Item) → task_atoms d item ≡ seen_atoms d (task_seen d item)
  task-is item =
      seen-in (λ t. t.tasks)
      (λ k (t : TaskTree). seen (record { instance = item.instance; body = task_body k }) t.body) item
      (λ b. body_atoms (suc (call_depth d.spec)) d b.0 b.1)

  -- some items are noted, and the others are left
  pub record AreListed (w v : WalkTables) (f : Item → List Atom) (left : List Item) (whole : List Atom) : Type 0 where
    pub front : List Atom
    pub walked : HasWalked d w v front
    pub are : front ++ flat_map f left ≡ whole

  pub listed-none : (w : WalkTables) (f : Item → List Atom) (items : List Item) → IsIdle d w →
      AreListed w w f items (flat_map f items)
  listed-none w f items idle = record { front = []; walked = walked-none w idle; are = refl }

  pub listed-more : (w v u : WalkTables) (f : Item → List Atom) (items : List Item) (i : ℕ) (x : Item)
      (whole : List Atom) → i < length items → x ≡ get_or items i x → AreListed w v f (drop i items) whole →
      (IsIdle d v → HasWalked d v u (f x)) → AreListed w u f (drop (i + 1) items) whole
  listed-more w v u f items i x whole within is listed step = record {
    front = listed.front ++ f x;
    walked = walked-then w v u listed.front (f x) listed.walked (step listed.walked.idle);
    are = append_assoc listed.front (f x) (flat_map f (drop (i + 1) items))
        ∙ ap (λ ys. listed.front ++ ys)
        (sym (at_drop_more (flat_map f) items i x within
        ∙ ap (λ y. f y ++ flat_map f (drop (i + 1) items)) (sym is)))
        ∙ listed.are;
  }

  pub listed-all : (w v : WalkTables) (f : Item → List Atom) (items : List Item) (i : ℕ) (whole : List Atom) →
      length items ≤ i → AreListed w v f (drop i items) whole → HasWalked d w v whole
  listed-all w v f items i whole end listed =
      subst (HasWalked d w v)
      (sym (append-nil listed.front) ∙ ap (λ ys. listed.front ++ ys) (sym (ap (flat_map f) (drop_all i items end)))
      ∙ listed.are) listed.walked

  -- what is noted behind nothing is the pool
  pub pool-listed : (w v : WalkTables) (atoms : List Atom) → noted_atoms w.pool ≡ [] → HasWalked d w v atoms →
      noted_atoms v.pool ≡ pooled d atoms
  pool-listed w v atoms none walked = walked.are ∙ ap (λ pool. with_atoms d pool atoms) none ∙ pooled_is d atoms

-- where nothing is noted and entered, and nothing is to be walked, all has been walked
pub begun : (d : DesignTree) (w : WalkTables) → w.pool ≡ record {
  numbers = record { names = []; nodes = [] };
  atoms = [];
}
    → w.entered ≡ [] → w.todo ≡ [] → IsIdle d w × (noted_atoms w.pool ≡ [])
begun d w pool entered todo = (
  record {
    numbered = subst (AreNumbered d) (sym pool) tt;
    noted = λ task k among called.
        absurd (true≢false (sym among ∙ ap (λ tasks. has_entered tasks task) entered));
    todo = todo;
  },
  ap noted_atoms pool,
)

-- the atoms of entries, as they are listed
pub listed-atoms : (es : List (ℕ × AtomAt)) → map atom_of (map (λ e. e.1) es) ≡ map (λ e. atom_of e.1) es
listed-atoms [] = refl
listed-atoms (e ∷ es) = ap (λ atoms. atom_of e.1 ∷ atoms) (listed-atoms es)
