-- A process of a design has as many locations as its text counts.
use Rattle.std.proofs.Common.{◌≡◌, ℕ, suc, ◌+◌, ◌≤◌, false, Option, None, Some, List, [], find, length, map, slice_get, refl, sym, ap, ◌∙◌, subst, arith}
use Rattle.std.proofs.lemmas.Option.{none-some, same_Some}
use Rattle.std.proofs.lemmas.List.Sums.{sum_by-cons}
use Rattle.std.specs.Prelude.{sum_by}
use Rattle.std.specs.List.{AllByRecursion, enumerate_from}
use Rattle.std.specs.Option.{option_map, option_map_or, option_and_then}
use Rattle.tm_syntax.specs.declared.design.Item.{Item}
use Rattle.tm_syntax.specs.declared.tree.Ident.{Ident}
use Rattle.tm_syntax.specs.Tree.{ValueTree, star, result, plain, StmtTree, assign, invoke, branch, repeat, forever, choose, assert, assume, pause, wait, magic, ProcessTree, SpecTree, TaskTree, TemplateTree}
use Rattle.tm_syntax.specs.Scopes.Calls.{callee}
use Rattle.tm_syntax.specs.Scopes.Context.{BodyName, Context, process_body}
use Rattle.tm_syntax.specs.Scopes.Names.{is_spelled, last_name, template_along}
use Rattle.tm_syntax.specs.Scopes.Parts.{BodyAt, bodies, process_body_at, stmts_in, task_body_at, template_bodies, value_calls}
use Rattle.tm_syntax.specs.Scopes.Pauses.{body_pauses, call_depth, is_uncontrollable, task_reached}
use Rattle.tm_syntax.specs.Counts.Bodies.{process_bodies, process_locations, weight_below}
use Rattle.tm_syntax.specs.Faults.{IsOfText, IsSound, IsTyped}
use Rattle.tm_syntax.specs.Design.{DesignTree}
use Rattle.tm_syntax.specs.Design.Locations.{Thread, body_locations, end_number, locations, thread}
use Rattle.tm_syntax.specs.Design.Scope.{Site, site}
use Rattle.tm_typing.specs.Statements.{HasResult, StmtResolves, ValueResolves}
use Rattle.tm_typing.proofs.Leading.{along_is}
use Rattle.tm_typing.proofs.Listed.{In, all_hold, holds_in, in_flat, in_front, in_get, in_map, of_find, of_flat}
use Rattle.tm_typing.proofs.Promises.{named}
use Rattle.tm_typing.proofs.Asked.{body_stands}
use Rattle.tm_typing.proofs.Sound.{checked}
use Rattle.tm_typing.proofs.Statements.{bodies_resolve}
use Rattle.tm_design.specs.ProcessTexts.{process_text}
use Rattle.tm_locations.proofs.CalledBodies.{site-number, site-template}
use Rattle.tm_design.proofs.CountedBodies.{counted-bodies, in-enumerated}
use Rattle.tm_design.proofs.CountedLocations.{HasQuietValue, of_location}
use Rattle.tm_design.proofs.QuietCounts.{call-none, quiet-count}
use Rattle.tm_design.proofs.QuietProcedures.{quiet_procedure}
use Rattle.tm_locations.proofs.TextLeads.{sound_leads}

-- a task with its template
abbrev paired : TemplateTree → TaskTree → TemplateTree × TaskTree
paired t k = (t, k)

-- a task that is reached is one of a template of the text
module _ (spec : SpecTree) (typed : IsTyped spec) where
  reached-in : (t : TemplateTree) → In t spec.templates → (path : List Ident) (u : TemplateTree) (k : TaskTree) →
      task_reached spec t path ≡ Some (u, k) → In u spec.templates × In k u.tasks
  reached-in t at path u k e = of_along (template_along spec t path) refl e
    where
      of_task : (v : TemplateTree) → In v spec.templates → (o : Option TaskTree) →
          find (λ (k : TaskTree). is_spelled (last_name path) k.name) v.tasks ≡ o →
          option_map (paired v) o ≡ Some (u, k) → In u spec.templates × In k u.tasks
      of_task v there None found e = absurd (none-some (paired u k) e)
      of_task v there (Some j) found e =
          let same : paired v j ≡ paired u k = same_Some (paired v j) (paired u k) e in
          subst (λ (p : TemplateTree × TaskTree). In p.0 spec.templates × In p.1 p.0.tasks) same
          (there, (of_find (λ (k : TaskTree). is_spelled (last_name path) k.name) v.tasks found).0)

      of_along : (o : Option TemplateTree) → template_along spec t path ≡ o →
          option_and_then (λ (v : TemplateTree). option_map (paired v)
          (find (λ (k : TaskTree). is_spelled (last_name path) k.name) v.tasks)) o ≡ Some (u, k) →
          In u spec.templates × In k u.tasks
      of_along None along e = absurd (none-some (paired u k) e)
      of_along (Some v) along e =
          of_task v (along_is spec (named spec typed) t v path at along)
          (find (λ (k : TaskTree). is_spelled (last_name path) k.name) v.tasks) refl e

  module _ (n : ℕ) (deep : n ≤ call_depth spec) (t : TemplateTree) (at : In t spec.templates) (body : BodyName) where
    -- where the text of a body stands
    abbrev standing : Context
    standing = record { spec = spec; template = t; body = body }

    -- the locations that a call counts
    abbrev counts : List Ident → ℕ
    counts path = option_map_or (weight_below of_location n) (callee standing path) 0

    -- a call that stands as a value counts none
    result-quiet : (target path : List Ident) (count : ℕ) → HasResult standing target path count → counts path ≡ 0
    result-quiet target path count r =
        let k = r.callee in
        let among = reached-in t at path k.template k.task k.is in
        call-none n (call_depth spec) (quiet-count n (call_depth spec) deep) standing path
        (ap (λ o. option_map_or (λ (p : TemplateTree × TaskTree).
        body_pauses (call_depth spec) spec p.0 p.1.body) o false) k.is
        ∙ quiet_procedure spec typed.atomic k.template among.0 k.task among.1 (ap is_uncontrollable r.is))

    value-quiet : (target : List Ident) (v : ValueTree) → ValueResolves standing target v →
        sum_by counts (value_calls v) ≡ 0
    value-quiet target (star _) r = refl
    value-quiet target (result path es) r =
        let one = sum_by-cons counts path [] in
        let none = result-quiet target path (length es) r in
        omega (arith, one, none)
    value-quiet target (plain _) r = refl

    stmt-quiet : (s : StmtTree) → StmtResolves standing s → HasQuietValue counts s
    stmt-quiet (assign names _ v) r = value-quiet names v r.1
    stmt-quiet (invoke _ _) r = tt
    stmt-quiet (branch _ _ _) r = tt
    stmt-quiet (repeat _ _ _) r = tt
    stmt-quiet (forever _ _) r = tt
    stmt-quiet (choose _ _) r = tt
    stmt-quiet (assert _ _) r = tt
    stmt-quiet (assume _ _) r = tt
    stmt-quiet (pause _) r = tt
    stmt-quiet (wait _ _) r = tt
    stmt-quiet (magic _) r = tt

  -- values call nothing that counts a location
  body-quiet : (n : ℕ) → n ≤ call_depth spec → (b : BodyAt) → In b (bodies spec) →
      AllByRecursion (HasQuietValue (λ path. option_map_or (weight_below of_location n) (callee b.context path) 0))
      (stmts_in b.body)
  body-quiet n deep b i =
      let u = of_flat (template_bodies spec) spec.templates i in
      let stands = body_stands spec (named spec typed) u.0 b u.2 in
      let all = holds_in (λ (b : BodyAt). AllByRecursion (StmtResolves b.context) (stmts_in b.body)) (bodies spec)
      (bodies_resolve spec typed) i in
      all_hold (HasQuietValue (λ path. option_map_or (weight_below of_location n) (callee b.context path) 0))
      (stmts_in b.body) (λ s j.
      subst (λ (c : Context).
      HasQuietValue (λ path. option_map_or (weight_below of_location n) (callee c path) 0) s) (sym stands.1)
      (stmt-quiet n deep u.0 u.1 stands.0 s
      (subst (λ (c : Context). StmtResolves c s) stands.1
      (holds_in (StmtResolves b.context) (stmts_in b.body) all j))))

-- a process of an instance
abbrev made : Site → ℕ → ProcessTree → Thread
made s k q = record { scope = record { instance = s.number; body = process_body k }; process = q }

module _ (d : DesignTree) (p : ℕ) (h : Thread) where
  -- a process is one of the template of its instance
  pub record IsThread : Type 0 where
    pub at : Site
    pub number : ℕ
    pub there : site d h.scope.instance ≡ Some at
    pub body : h.scope.body ≡ process_body number
    pub is : slice_get at.template.processes number ≡ Some h.process

  pub thread-is : thread d p ≡ Some h → IsThread
  thread-is e = of_item (slice_get d.processes p) e
    where
      of_process : (s : Site) → site d s.number ≡ Some s → (k : ℕ) → (o : Option ProcessTree) →
          slice_get s.template.processes k ≡ o → option_map (made s k) o ≡ Some h → IsThread
      of_process s there k None at e = absurd (none-some h e)
      of_process s there k (Some q) at e =
          let is : made s k q ≡ h = same_Some (made s k q) h e in
          record {
            at = s;
            number = k;
            there = ap (λ (h : Thread). site d h.scope.instance) (sym is) ∙ there;
            body = ap (λ (h : Thread). h.scope.body) (sym is);
            is = at ∙ ap (λ (h : Thread). Some h.process) is;
          }

      of_index : (s : Site) → site d s.number ≡ Some s → (o : Option ℕ) →
          option_and_then (λ k. option_map (made s k) (slice_get s.template.processes k)) o ≡ Some h → IsThread
      of_index s there None e = absurd (none-some h e)
      of_index s there (Some k) e = of_process s there k (slice_get s.template.processes k) refl e

      of_site : (n : ℕ) (index : Option ℕ) (o : Option Site) → site d n ≡ o →
          option_and_then (λ (s : Site).
          option_and_then (λ k. option_map (made s k) (slice_get s.template.processes k)) index) o ≡ Some h → IsThread
      of_site n index None at e = absurd (none-some h e)
      of_site n index (Some s) at e = of_index s (site-number d n s at) index e

      of_item : (o : Option Item) →
          option_and_then (λ (item : Item). option_and_then (λ (s : Site).
          option_and_then (λ k. option_map (made s k) (slice_get s.template.processes k)) item.index)
          (site d item.instance)) o ≡ Some h → IsThread
      of_item None e = absurd (none-some h e)
      of_item (Some item) e = of_site item.instance item.index (site d item.instance) refl e

module _ (d : DesignTree) (p : ℕ) (h : Thread) (s : Site) (is : IsThread d p h)
    (there : site d h.scope.instance ≡ Some s) where
  -- its body is one of those of that template
  pub process-there : In (process_text d s h) (process_bodies d.spec s.template)
  process-there =
      let same : is.at ≡ s = same_Some is.at s (sym is.there ∙ there) in
      let at : slice_get s.template.processes is.number ≡ Some h.process =
      ap (λ (s : Site). slice_get s.template.processes is.number) (sym same) ∙ is.is in
      subst (λ (name : BodyName).
      In (record { context = record { spec = d.spec; template = s.template; body = name }; body = h.process.body })
      (process_bodies d.spec s.template)) (sym is.body)
      (in_map (process_body_at d.spec s.template) (enumerate_from 0 s.template.processes)
      (subst (λ (k : ℕ). In (k, h.process) (enumerate_from 0 s.template.processes)) front
      (in-enumerated s.template.processes 0 is.number h.process at)))
    where
      front : 0 + is.number ≡ is.number
      front = omega arith

  pub process-in : In (process_text d s h) (bodies d.spec)
  process-in =
      in_flat (template_bodies d.spec) d.spec.templates
      (in_get d.spec.templates s.node.template (site-template d h.scope.instance s there))
      (in_front (process_bodies d.spec s.template)
      (map (task_body_at d.spec s.template) (enumerate_from 0 s.template.tasks)) process-there)

pub counted_process : (d : DesignTree) → IsSound d → IsOfText d.spec → (p : ℕ) (h : Thread) (s : Site) →
    thread d p ≡ Some h → site d h.scope.instance ≡ Some s →
    process_locations (process_text d s h) ≡ end_number d p + 1
counted_process d sound text p h s is there =
    let by_text = sound_leads d sound in
    let depth = call_depth d.spec in
    let typed = checked d sound text in
    let found = ap (λ (o : Option Thread). option_map_or
    (λ h. body_locations (suc depth) d h.scope [] h.process.body []) o []) is in
    let counted = counted-bodies d by_text depth (λ n deep b i same. body-quiet d.spec typed n deep b i) (suc depth)
    (omega arith) h.scope s there h.scope.body h.process.body (process-in d p h s (thread-is d p h is) there) [] [] in
    let long : length (locations d p) ≡ length (body_locations (suc depth) d h.scope [] h.process.body []) =
    ap length found in
    omega (arith, counted, long)
