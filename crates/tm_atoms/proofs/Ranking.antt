-- How deep calls nest below a body: where calls are in order, this ranks the bodies of a design.
use Rattle.std.proofs.Common.{◌≡◌, ℕ, zero, suc, ◌<◌, ◌≤◌, max, Option, None, Some, List, [], ◌∷◌, ◌++◌, map, position, slice_get, refl, sym, ap, ◌∙◌, arith}
use Rattle.std.specs.List.{AllByRecursion, flat_map}
use Rattle.std.specs.Option.{option_map_or, option_and_then}
use Rattle.tm_syntax.specs.declared.tree.Ident.{Ident}
use Rattle.tm_syntax.specs.Tree.{BodyTree, StmtTree}
use Rattle.tm_syntax.specs.Counts.Instances.{greatest}
use Rattle.tm_syntax.specs.Scopes.Calls.{body_calls}
use Rattle.tm_syntax.specs.Scopes.Context.{BodyName, process_body, task_body, outside}
use Rattle.tm_syntax.specs.Scopes.Names.{is_spelled, last_name}
use Rattle.tm_syntax.specs.Scopes.Parts.{own_calls, stmts_in}
use Rattle.tm_syntax.specs.Scopes.Pauses.{call_depth}
use Rattle.tm_syntax.specs.Design.{DesignTree}
use Rattle.tm_syntax.specs.Design.Atoms.{Atom, body_atoms, expr_atoms, stmt_conditions}
use Rattle.tm_syntax.specs.Design.Cells.{Called, called, task_called}
use Rattle.tm_syntax.specs.Design.Scope.{Scope, Site, site, site_along}
use Rattle.tm_scope.specs.Instances.{task_called_at}
use Rattle.tm_scope.specs.declared.members.SiteTask.{SiteTask}
use Rattle.tm_locations.specs.Locations.{LeadsByText}
use Rattle.tm_locations.proofs.CalledBodies.{along-number, made, site-number}
use Rattle.tm_atoms.specs.Orders.{HasCallOrder}
use Rattle.tm_atoms.specs.Inner.Bodies.{body_of_task}
use Rattle.tm_atoms.specs.Inner.Ranks.{AllDescend, Descends, IsRanked}
use Rattle.tm_atoms.proofs.Settling.{settled-body}
use Rattle.tm_atoms.proofs.TaskSites.{leads-some, mapped, number-of_site}
use Rattle.tm_atoms.proofs.Walking.{all-of-both}

module _ {X : Type 0} where
  -- what follows for each item follows for all
  all-weaker : (P Q : X → Type 0) → ((x : X) → P x → Q x) → (xs : List X) → AllByRecursion P xs → AllByRecursion Q xs
  all-weaker P Q weaker [] all = tt
  all-weaker P Q weaker (x ∷ xs) all = (weaker x all.0, all-weaker P Q weaker xs all.1)

  -- numbers that are the same have the same greatest one
  greatest-same : (f g : X → ℕ) (xs : List X) → AllByRecursion (λ x. f x ≡ g x) xs →
      greatest (map f xs) ≡ greatest (map g xs)
  greatest-same f g [] all = refl
  greatest-same f g (x ∷ xs) all = λ i. max (all.0 i) (greatest-same f g xs all.1 i)

  -- none is above the greatest one
  below-greatest : (f : X → ℕ) (xs : List X) (m : ℕ) → greatest (map f xs) ≤ m → AllByRecursion (λ x. f x ≤ m) xs
  below-greatest f [] m below = tt
  below-greatest f (x ∷ xs) m below =
      let both : max (f x) (greatest (map f xs)) ≤ m = below in
      (omega (arith, both), below-greatest f xs m (omega (arith, both)))

  greatest-within : (f : X → ℕ) (m : ℕ) → ((x : X) → f x ≤ m) → (xs : List X) → greatest (map f xs) ≤ m
  greatest-within f m within [] = omega arith
  greatest-within f m within (x ∷ xs) =
      let first = within x in
      let others = greatest-within f m within xs in
      let both : max (f x) (greatest (map f xs)) ≤ m = omega (arith, first, others) in both

-- what holds of all calls of some statements holds of those of each
all-by_parts : (P : List Ident → Type 0) (ss : List StmtTree) → AllByRecursion P (flat_map own_calls ss) →
    AllByRecursion (λ s. AllByRecursion P (own_calls s)) ss
all-by_parts P [] all = tt
all-by_parts P (s ∷ ss) all =
    let parts = all-of-both P (own_calls s) (flat_map own_calls ss) all in (parts.0, all-by_parts P ss parts.1)

-- two readings of calls that say the same say the same of lists
flat-same : {X : Type 0} (f g : X → List Atom) (xs : List X) → AllByRecursion (λ x. f x ≡ g x) xs →
    flat_map f xs ≡ flat_map g xs
flat-same f g [] all = refl
flat-same f g (x ∷ xs) all = λ i. all.0 i ++ flat-same f g xs all.1 i

stmts-same : (own : StmtTree → List Atom) (f g : List Ident → List Atom) (ss : List StmtTree) →
    AllByRecursion (λ path. f path ≡ g path) (flat_map own_calls ss) →
    flat_map (λ s. own s ++ flat_map f (own_calls s)) ss ≡ flat_map (λ s. own s ++ flat_map g (own_calls s)) ss
stmts-same own f g [] all = refl
stmts-same own f g (s ∷ ss) all =
    let parts = all-of-both (λ path. f path ≡ g path) (own_calls s) (flat_map own_calls ss) all in
    λ i. (own s ++ flat-same f g (own_calls s) parts.0 i) ++ stmts-same own f g ss parts.1 i

-- how deep calls nest below a body, at most so deep
abbrev height : DesignTree → ℕ → Scope → BodyTree → ℕ
height d zero scope body = 0
height d (suc depth) scope body =
    greatest (map (λ path. option_map_or (λ (k : Called). suc (height d depth k.scope k.body)) (called d scope path) 0)
    (body_calls body))

module _ (d : DesignTree) where
  -- how deep calls nest below what a path calls, with the call
  abbrev call_height : ℕ → Scope → List Ident → ℕ
  call_height depth scope path =
      option_map_or (λ (k : Called). suc (height d depth k.scope k.body)) (called d scope path) 0

  height-by_calls : (m n : ℕ) (scope : Scope) (body : BodyTree) →
      AllByRecursion (λ path.
      option_map_or (λ (k : Called). height d m k.scope k.body) (called d scope path) 0
      ≡ option_map_or (λ (k : Called). height d n k.scope k.body) (called d scope path) 0) (body_calls body) →
      height d (suc m) scope body ≡ height d (suc n) scope body
  height-by_calls m n scope body all =
      greatest-same (call_height m scope) (call_height n scope) (body_calls body)
      (all-weaker (λ path.
      option_map_or (λ (k : Called). height d m k.scope k.body) (called d scope path) 0
      ≡ option_map_or (λ (k : Called). height d n k.scope k.body) (called d scope path) 0)
      (λ path. call_height m scope path ≡ call_height n scope path) (λ path. by (called d scope path)) (body_calls body)
      all)
    where
      by : (o : Option Called) →
          option_map_or (λ (k : Called). height d m k.scope k.body) o 0
          ≡ option_map_or (λ (k : Called). height d n k.scope k.body) o 0 →
          option_map_or (λ (k : Called). suc (height d m k.scope k.body)) o 0
          ≡ option_map_or (λ (k : Called). suc (height d n k.scope k.body)) o 0
      by None e = refl
      by (Some k) e = ap (λ n. suc n) e

  -- calls nest no deeper than they may
  height-within : (n : ℕ) (scope : Scope) (body : BodyTree) → height d n scope body ≤ n
  height-within zero scope body = omega arith
  height-within (suc n) scope body =
      greatest-within (call_height n scope) (suc n) (λ path. by (height-within n) (called d scope path))
      (body_calls body)
    where
      by : ((s : Scope) (b : BodyTree) → height d n s b ≤ n) → (o : Option Called) →
          option_map_or (λ (k : Called). suc (height d n k.scope k.body)) o 0 ≤ suc n
      by within None = omega arith
      by within (Some k) =
          let h = within k.scope k.body in
          let deeper : suc (height d n k.scope k.body) ≤ suc n = omega (arith, h) in deeper

  atoms-by_calls : (m n : ℕ) (scope : Scope) (body : BodyTree) →
      AllByRecursion (λ path.
      option_map_or (λ (k : Called). body_atoms m d k.scope k.body) (called d scope path) []
      ≡ option_map_or (λ (k : Called). body_atoms n d k.scope k.body) (called d scope path) []) (body_calls body) →
      body_atoms (suc m) d scope body ≡ body_atoms (suc n) d scope body
  atoms-by_calls m n scope body all =
      stmts-same (λ (s : StmtTree). flat_map (expr_atoms d scope) (stmt_conditions s))
      (λ path. option_map_or (λ (k : Called). body_atoms m d k.scope k.body) (called d scope path) [])
      (λ path. option_map_or (λ (k : Called). body_atoms n d k.scope k.body) (called d scope path) []) (stmts_in body)
      all

  -- the rank of a body: that of a task is how deep calls nest below it, and all others are above all tasks
  abbrev body_rank : ℕ → BodyName → ℕ
  body_rank i (task_body k) =
      option_map_or (λ (c : Called). height d (call_depth d.spec) c.scope c.body)
      (task_called_at d (record { instance = i; index = k })) 0
  body_rank i (process_body k) = suc (call_depth d.spec)
  body_rank i outside = suc (call_depth d.spec)

  abbrev rank : Scope → ℕ
  rank scope = body_rank scope.instance scope.body

  -- the body of a task of an instance stands there
  scope-of_task : (task : SiteTask) (k : Called) → task_called_at d task ≡ Some k → k.scope ≡ body_of_task task
  scope-of_task task k there =
      let of_site = leads-some (λ (s : Site). task_called d s task.index) (site d task.instance) k there in
      let def = mapped (made d of_site.0 task.index) (slice_get of_site.0.template.tasks task.index) k of_site.2 in
      let number = number-of_site d task.instance of_site.0 of_site.1 in
      ap (λ (c : Called). c.scope) (sym def.1) ∙ λ i. record { instance = number i; body = task_body task.index }

  -- what a path calls is a task of an instance
  called-task : (scope : Scope) (path : List Ident) (k : Called) → called d scope path ≡ Some k →
      (task : SiteTask) × (task_called_at d task ≡ Some k)
  called-task scope path k e =
      let from = leads-some (λ (at : Site). option_and_then (λ (s : Site). option_and_then (task_called d s)
      (position (λ task. is_spelled (last_name path) task.name) s.template.tasks)) (site_along d at path))
      (site d scope.instance) k e in
      let to = leads-some (λ (s : Site). option_and_then (task_called d s)
      (position (λ task. is_spelled (last_name path) task.name) s.template.tasks)) (site_along d from.0 path) k from.2
      in
      let at = leads-some (task_called d to.0)
      (position (λ task. is_spelled (last_name path) task.name) to.0.template.tasks) k to.2 in
      let there = along-number d path from.0 to.0 (site-number d scope.instance from.0 from.1) to.1 in (
        record { instance = to.0.number; index = at.0 },
        ap (option_and_then (λ (s : Site). task_called d s at.0)) there ∙ at.2,
      )

  rank-of_task : (task : SiteTask) (k : Called) → task_called_at d task ≡ Some k →
      rank k.scope ≡ height d (call_depth d.spec) k.scope k.body
  rank-of_task task k there =
      ap rank (scope-of_task task k there)
      ∙ ap (λ o. option_map_or (λ (c : Called). height d (call_depth d.spec) c.scope c.body) o 0) there

  rank-of_called : (scope : Scope) (path : List Ident) (k : Called) → called d scope path ≡ Some k →
      rank k.scope ≡ height d (call_depth d.spec) k.scope k.body
  rank-of_called scope path k e = let found = called-task scope path k e in rank-of_task found.0 k found.1

  module _ (by_text : LeadsByText d) (has : HasCallOrder d.spec) where
    height-settled : (task : SiteTask) (k : Called) → task_called_at d task ≡ Some k →
        height d (suc (call_depth d.spec)) k.scope k.body ≡ height d (call_depth d.spec) k.scope k.body
    height-settled =
        settled-body d (height d) 0 height-by_calls has.order by_text has.ordered has.covers
        (suc (call_depth d.spec)) (call_depth d.spec) (omega (arith, has.short)) has.short

    atoms-settled : (task : SiteTask) (k : Called) → task_called_at d task ≡ Some k →
        body_atoms (suc (call_depth d.spec)) d k.scope k.body ≡ body_atoms (call_depth d.spec) d k.scope k.body
    atoms-settled =
        settled-body d (λ n scope body. body_atoms n d scope body) [] atoms-by_calls has.order by_text has.ordered
        has.covers (suc (call_depth d.spec)) (call_depth d.spec) (omega (arith, has.short)) has.short

    -- what a task calls has a lower rank
    task-descends : (task : SiteTask) (k : Called) → task_called_at d task ≡ Some k →
        AllDescend d rank k.scope (stmts_in k.body)
    task-descends task k there =
        let own : rank k.scope ≡ height d (suc (call_depth d.spec)) k.scope k.body =
        rank-of_task task k there ∙ sym (height-settled task k there) in
        all-by_parts (Descends d rank k.scope) (stmts_in k.body)
        (all-weaker (λ path. call_height (call_depth d.spec) k.scope path ≤ rank k.scope) (Descends d rank k.scope)
        (λ path below c e. lower path c e below) (body_calls k.body)
        (below-greatest (call_height (call_depth d.spec) k.scope) (body_calls k.body) (rank k.scope)
        (omega (arith, own))))
      where
        lower : (path : List Ident) (c : Called) → called d k.scope path ≡ Some c →
            call_height (call_depth d.spec) k.scope path ≤ rank k.scope → rank c.scope < rank k.scope
        lower path c e below =
            let is : call_height (call_depth d.spec) k.scope path
            ≡ suc (height d (call_depth d.spec) c.scope c.body) =
            ap (λ o. option_map_or (λ (c : Called). suc (height d (call_depth d.spec) c.scope c.body)) o 0) e in
            let own = rank-of_called k.scope path c e in
            omega (arith, is, own, below)

    -- what a process calls has a lower rank
    process-descends : (i k : ℕ) (path : List Ident) →
        Descends d rank (record { instance = i; body = process_body k }) path
    process-descends i k path = λ c e.
        let own = rank-of_called (record { instance = i; body = process_body k }) path c e in
        let within = height-within (call_depth d.spec) c.scope c.body in
        let lower : rank c.scope < suc (call_depth d.spec) = omega (arith, own, within) in lower

    pub is-ranked : IsRanked d rank
    is-ranked = record { tasks = task-descends; processes = process-descends; settled = atoms-settled }

-- where paths lead by the text, and the calls of the text are in order, the bodies of a design are ranked
pub ranked : (d : DesignTree) → LeadsByText d → HasCallOrder d.spec → (rank : Scope → ℕ) × IsRanked d rank
ranked d by_text has = (rank d, is-ranked d by_text has)
