-- The bodies of a design have as many locations as their text counts, where values call nothing that is counted.
use Rattle.std.proofs.Common.{◌≡◌, ℕ, zero, suc, ◌+◌, ◌≤◌, Option, None, Some, List, [], ◌∷◌, ◌++◌, length, map, position, slice_get, refl, ap, ◌∙◌, subst, arith}
use Rattle.std.proofs.lemmas.Option.{none-some, same_Some}
use Rattle.std.specs.List.{AllByRecursion, enumerate_from}
use Rattle.std.specs.Option.{option_map, option_map_or, option_and_then}
use Rattle.tm_base.specs.declared.place.Place.{Place}
use Rattle.tm_syntax.specs.declared.tree.Ident.{Ident}
use Rattle.tm_syntax.specs.Tree.{BodyTree, TaskTree, TemplateTree}
use Rattle.tm_syntax.specs.Scopes.Context.{BodyName, Context, task_body}
use Rattle.tm_syntax.specs.Scopes.Calls.{callee}
use Rattle.tm_syntax.specs.Scopes.Names.{is_spelled, last_name}
use Rattle.tm_syntax.specs.Scopes.Parts.{BodyAt, bodies, body_stmts, process_body_at, stmts_in, task_body_at, template_bodies}
use Rattle.tm_syntax.specs.Counts.Bodies.{weight_below}
use Rattle.tm_syntax.specs.Design.{DesignTree}
use Rattle.tm_syntax.specs.Design.Cells.{Called, called, task_called}
use Rattle.tm_syntax.specs.Design.Locations.{Location, body_locations}
use Rattle.tm_syntax.specs.Design.Scope.{Scope, Site, site, site_along}
use Rattle.tm_syntax.specs.Design.Work.{WorkItem, call_place}
use Rattle.tm_typing.proofs.Listed.{In, first_of, later_of, in_behind, in_flat, in_get, in_map}
use Rattle.tm_locations.specs.Locations.{LeadsByText}
use Rattle.tm_locations.proofs.CalledBodies.{along-number, made, site-number, site-template}
use Rattle.tm_design.proofs.CountedLocations.{HasQuietValue, of_location, stmts-counted}

-- an item with its index
pub in-enumerated : {X : Type 0} (xs : List X) (n k : ℕ) (x : X) → slice_get xs k ≡ Some x →
    In (n + k, x) (enumerate_from n xs)
in-enumerated [] n k x e = absurd (none-some x e)
in-enumerated {X} (y ∷ ys) n zero x e =
    subst (λ (p : ℕ × X). In p (enumerate_from n (y ∷ ys))) (λ i. (still i, same_Some y x e i)) first_of
  where
    still : n ≡ n + 0
    still = omega arith
in-enumerated {X} (y ∷ ys) n (suc k) x e =
    subst (λ (j : ℕ). In (j, x) (enumerate_from n (y ∷ ys))) further (later_of (in-enumerated ys (n + 1) k x e))
  where
    further : n + 1 + k ≡ n + suc k
    further = omega arith

module _ (d : DesignTree) (by_text : LeadsByText d) where
  -- where a body of an instance stands in the text
  abbrev pub standing : Site → BodyName → Context
  standing s name = record { spec = d.spec; template = s.template; body = name }

  abbrev pub body_in : Site → BodyName → BodyTree → BodyAt
  body_in s name body = record { context = standing s name; body = body }

  -- what is counted of a call, where calls nest so deep
  abbrev pub call_count : ℕ → Context → List Ident → ℕ
  call_count n c path = option_map_or (weight_below of_location n) (callee c path) 0

  -- the bodies of instances, where calls nest so deep, have as many locations as are counted
  abbrev AreCounted : ℕ → Type 0
  AreCounted n =
      (scope : Scope) → (s : Site) → site d scope.instance ≡ Some s → (name : BodyName) → (body : BodyTree) →
      In (body_in s name body) (bodies d.spec) → (trail : List Place) → (after : List WorkItem) →
      length (body_locations n d scope trail body after) ≡ weight_below of_location n (body_in s name body)

  -- the bodies of tasks of an instance stand in the text
  task-in : (s : Site) → site d s.number ≡ Some s → (k : ℕ) (task : TaskTree) →
      slice_get s.template.tasks k ≡ Some task → In (body_in s (task_body k) task.body) (bodies d.spec)
  task-in s there k task at =
      in_flat (template_bodies d.spec) d.spec.templates
      (in_get d.spec.templates s.node.template (site-template d s.number s there))
      (in_behind (map (process_body_at d.spec s.template) (enumerate_from 0 s.template.processes))
      (map (task_body_at d.spec s.template) (enumerate_from 0 s.template.tasks))
      (in_map (task_body_at d.spec s.template) (enumerate_from 0 s.template.tasks)
      (subst (λ (j : ℕ). In (j, task) (enumerate_from 0 s.template.tasks)) same
      (in-enumerated s.template.tasks 0 k task at))))
    where
      same : 0 + k ≡ k
      same = omega arith

  module _ (n : ℕ) (counted : AreCounted n) (trail : List Place) (path : List Ident) (left : List WorkItem) where
    -- the locations of what is called
    abbrev found_in : Option Called → List Location
    found_in o =
        option_map_or (λ (k : Called). body_locations n d k.scope (call_place path ++ trail) k.body left) o []

    -- the body of a task in the text
    abbrev text_task : TemplateTree → ℕ → TaskTree → BodyAt
    text_task t k task =
        record { context = record { spec = d.spec; template = t; body = task_body k }; body = task.body }

    of_task : (u : Site) → site d u.number ≡ Some u → (k : ℕ) (o : Option TaskTree) →
        slice_get u.template.tasks k ≡ o →
        length (found_in (option_map (made d u k) o))
        ≡ option_map_or (weight_below of_location n) (option_map (text_task u.template k) o) 0
    of_task u there k None at = refl
    of_task u there k (Some task) at =
        counted (record { instance = u.number; body = task_body k }) u there (task_body k) task.body
        (task-in u there k task at) (call_place path ++ trail) left

    of_number : (u : Site) → site d u.number ≡ Some u → (o : Option ℕ) →
        length (found_in (option_and_then (task_called d u) o))
        ≡ option_map_or (weight_below of_location n)
        (option_and_then (λ k. option_map (text_task u.template k) (slice_get u.template.tasks k)) o) 0
    of_number u there None = refl
    of_number u there (Some k) = of_task u there k (slice_get u.template.tasks k) refl

    of_site : (s : Site) → site d s.number ≡ Some s → (o : Option Site) → site_along d s path ≡ o →
        length (found_in (option_and_then (λ (u : Site). option_and_then (task_called d u)
        (position (λ (task : TaskTree). is_spelled (last_name path) task.name) u.template.tasks)) o))
        ≡ option_map_or (weight_below of_location n) (option_and_then (λ (t : TemplateTree). option_and_then
        (λ k. option_map (text_task t k) (slice_get t.tasks k))
        (position (λ (task : TaskTree). is_spelled (last_name path) task.name) t.tasks))
        (option_map (λ (u : Site). u.template) o)) 0
    of_site s there None along = refl
    of_site s there (Some u) along =
        of_number u (along-number d path s u there along)
        (position (λ (task : TaskTree). is_spelled (last_name path) task.name) u.template.tasks)

    -- a call has as many locations as are counted of it
    call-counted : (scope : Scope) (s : Site) → site d scope.instance ≡ Some s → (name : BodyName) →
        length (found_in (called d scope path)) ≡ call_count n (standing s name) path
    call-counted scope s there name =
        ap (λ (o : Option Site). length (found_in (option_and_then (λ (at : Site). option_and_then (λ (u : Site).
        option_and_then (task_called d u)
        (position (λ (task : TaskTree). is_spelled (last_name path) task.name) u.template.tasks))
        (site_along d at path)) o))) there
        ∙ of_site s (site-number d scope.instance s there) (site_along d s path) refl
        ∙ ap (λ (o : Option TemplateTree). option_map_or (weight_below of_location n)
        (option_and_then (λ (t : TemplateTree). option_and_then
        (λ k. option_map (text_task t k) (slice_get t.tasks k))
        (position (λ (task : TaskTree). is_spelled (last_name path) task.name) t.tasks)) o) 0)
        (by_text scope.instance s path there)

  -- values call nothing that is counted, where calls nest so deep
  abbrev pub AreQuietValues : ℕ → Type 0
  AreQuietValues n =
      (b : BodyAt) → In b (bodies d.spec) → b.context.spec ≡ d.spec →
      AllByRecursion (HasQuietValue (call_count n b.context)) (stmts_in b.body)

  pub counted-bodies : (limit : ℕ) → ((n : ℕ) → n ≤ limit → AreQuietValues n) → (n : ℕ) → n ≤ suc limit →
      AreCounted n
  counted-bodies limit quiet zero deep = λ scope s there name body among trail after. refl
  counted-bodies limit quiet (suc n) deep = λ scope s there name body among trail after.
      stmts-counted
      (λ path left. option_map_or (λ (k : Called).
      body_locations n d k.scope (call_place path ++ trail) k.body left) (called d scope path) [])
      (call_count n (standing s name)) scope trail
      (λ path left. call-counted n (counted-bodies limit quiet n (omega (arith, deep))) trail path left scope s there
      name)
      (body_stmts body) after (quiet n (omega (arith, deep)) (body_in s name body) among refl)
