-- The table of a process, by what a walk of its body finds.
use Rattle.std.proofs.Common.{◌≡◌, ℕ, suc, ◌≤◌, Option, None, Some, List, [], length, map, slice_get, refl, sym, ap, ◌∙◌, subst, arith}
use Rattle.std.proofs.lemmas.Option.{none-some, same_Some}
use Rattle.std.specs.List.{AllZip}
use Rattle.std.specs.Option.{option_map, option_map_or, option_and_then}
use Rattle.tm_syntax.specs.declared.design.Item.{Item}
use Rattle.tm_syntax.specs.declared.member.Member.{Member}
use Rattle.tm_syntax.specs.Tree.{ProcessTree, SpecTree}
use Rattle.tm_syntax.specs.Scopes.Context.{process_body}
use Rattle.tm_syntax.specs.Scopes.Parts.{body_stmts}
use Rattle.tm_syntax.specs.Scopes.Pauses.{call_depth}
use Rattle.tm_syntax.specs.Design.{DesignTree}
use Rattle.tm_syntax.specs.Design.Locations.{Location, Thread, body_locations, locations, rest, thread}
use Rattle.tm_syntax.specs.Design.Scope.{Site, site}
use Rattle.tm_syntax.specs.Design.Work.{WorkItem, perform}
use Rattle.tm_scope.specs.CallOrder.{CoversTasks, IsCallOrder}
use Rattle.tm_locations.specs.Locations.{AreLocations, IsRest, IsRow, LeadsByText, LocationTable, nothing_left}
use Rattle.tm_locations.proofs.CalledBodies.{site-number}
use Rattle.tm_locations.proofs.SettledBodies.{settled}

module _ (d : DesignTree) (p : ℕ) where
  -- the instance of a process is there
  pub thread-site : (h : Thread) → thread d p ≡ Some h → (s : Site) × (site d h.scope.instance ≡ Some s)
  thread-site h e = of_item (slice_get d.processes p) e
    where
      of_process : (s : Site) → site d s.number ≡ Some s → (k : ℕ) → (o : Option ProcessTree) →
          option_map (λ (q : ProcessTree).
          record { scope = record { instance = s.number; body = process_body k }; process = q }) o ≡ Some h →
          (s : Site) × (site d h.scope.instance ≡ Some s)
      of_process s there k None e = absurd (none-some h e)
      of_process s there k (Some q) e =
          let is : record { scope = record { instance = s.number; body = process_body k }; process = q } ≡ h =
          same_Some (record { scope = record { instance = s.number; body = process_body k }; process = q }) h e in
          (s, ap (λ (h : Thread). site d h.scope.instance) (sym is) ∙ there)

      of_index : (s : Site) → site d s.number ≡ Some s → (o : Option ℕ) →
          option_and_then (λ k. option_map (λ (q : ProcessTree).
          record { scope = record { instance = s.number; body = process_body k }; process = q })
          (slice_get s.template.processes k)) o ≡ Some h → (s : Site) × (site d h.scope.instance ≡ Some s)
      of_index s there None e = absurd (none-some h e)
      of_index s there (Some k) e = of_process s there k (slice_get s.template.processes k) e

      of_site : (n : ℕ) (index : Option ℕ) (o : Option Site) → site d n ≡ o →
          option_and_then (λ (at : Site). option_and_then (λ k. option_map (λ (q : ProcessTree).
          record { scope = record { instance = at.number; body = process_body k }; process = q })
          (slice_get at.template.processes k)) index) o ≡ Some h → (s : Site) × (site d h.scope.instance ≡ Some s)
      of_site n index None at e = absurd (none-some h e)
      of_site n index (Some s) at e = of_index s (site-number d n s at) index e

      of_item : (o : Option Item) →
          option_and_then (λ (item : Item). option_and_then (λ (at : Site). option_and_then (λ k. option_map
          (λ (q : ProcessTree).
          record { scope = record { instance = at.number; body = process_body k }; process = q })
          (slice_get at.template.processes k)) item.index) (site d item.instance)) o ≡ Some h →
          (s : Site) × (site d h.scope.instance ≡ Some s)
      of_item None e = absurd (none-some h e)
      of_item (Some item) e = of_site item.instance item.index (site d item.instance) refl e

  -- where there is no such process, there are no locations, and nothing is to be done
  pub no-process : (t : LocationTable) → t.rows ≡ [] → t.start ≡ 0 → thread d p ≡ None → AreLocations t d p
  no-process t rows start none = record {
    rows =
        subst (λ rows. AllZip (IsRow t.trails t.rests) rows (locations d p)) (sym rows)
        (subst (λ (ls : List Location). AllZip (IsRow t.trails t.rests) [] ls)
        (sym (ap (λ (o : Option Thread). option_map_or
        (λ h. body_locations (suc (call_depth d.spec)) d h.scope [] h.process.body []) o []) none)) tt);
    start =
        subst (λ k. IsRest t.trails t.rests k (rest d p 0)) (sym start)
        (subst (λ (items : List WorkItem). IsRest t.trails t.rests 0 items)
        (sym (ap (λ (o : Option Thread). option_map_or
        (λ h. map (perform h.scope []) (body_stmts h.process.body)) o []) none)) nothing_left);
  }

  -- what a walk of its body finds are its locations
  pub of-process : (t : LocationTable) (spec : SpecTree) (order : List Member) → d.spec ≡ spec → LeadsByText d →
      IsCallOrder spec order → CoversTasks spec order → length order ≤ call_depth spec → (h : Thread) →
      thread d p ≡ Some h → (depth : ℕ) → depth ≡ length order →
      (depth ≤ call_depth d.spec →
      AllZip (IsRow t.trails t.rests) t.rows (body_locations (suc depth) d h.scope [] h.process.body [])) →
      IsRest t.trails t.rests t.start (map (perform h.scope []) (body_stmts h.process.body)) → AreLocations t d p
  of-process t spec order text by_text ordered covers short h is depth deep found start =
      let here = thread-site h is in
      let low : length order ≤ call_depth d.spec =
      subst (λ (s : SpecTree). length order ≤ call_depth s) (sym text) short in
      let same : length order ≤ depth = subst (λ k. length order ≤ k) (sym deep) (omega arith) in
      let within : depth ≤ call_depth d.spec = subst (λ k. k ≤ call_depth d.spec) (sym deep) low in
      let all : body_locations (suc depth) d h.scope [] h.process.body [] ≡ locations d p =
      settled d order by_text
      (subst (λ (s : SpecTree). IsCallOrder s order) (sym text) ordered)
      (subst (λ (s : SpecTree). CoversTasks s order) (sym text) covers) depth (call_depth d.spec) same low h.scope
      here.0 here.1 [] h.process.body []
      ∙ ap (λ (o : Option Thread). option_map_or
      (λ h. body_locations (suc (call_depth d.spec)) d h.scope [] h.process.body []) o []) (sym is) in
      record {
        rows = subst (λ (ls : List Location). AllZip (IsRow t.trails t.rests) t.rows ls) all (found within);
        start = subst (λ (items : List WorkItem). IsRest t.trails t.rests t.start items)
            (ap (λ (o : Option Thread). option_map_or
            (λ h. map (perform h.scope []) (body_stmts h.process.body)) o []) (sym is)) start;
      }
