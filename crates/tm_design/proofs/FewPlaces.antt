-- Sound designs of texts have few processes, and their processes few locations.
use Rattle.std.proofs.Common.{◌≡◌, ℕ, suc, ◌<◌, ◌≤◌, Bool, true, false, Option, None, Some, List, [], length, map, refl, sym, ap, ◌∙◌, subst, arith, nat_lt}
use Rattle.std.specs.Option.{option_map_or, option_to_list}
use Rattle.std.specs.List.{flat_map}
use Rattle.std.proofs.lemmas.Bool.Decides.{nat_tests}
use Rattle.tm_syntax.specs.declared.fault.Quantity.TheVariants as quantity
use Rattle.tm_syntax.specs.Tree.{SpecTree, TemplateTree}
use Rattle.tm_syntax.specs.Scopes.Pauses.{call_depth}
use Rattle.tm_syntax.specs.Counts.Bodies.{count_locations, process_bodies, process_locations}
use Rattle.tm_syntax.specs.Counts.Instances.{greatest, instance_templates}
use Rattle.tm_syntax.specs.Design.{DesignTree, template_of}
use Rattle.tm_syntax.specs.Design.Locations.{Thread, body_locations, end_number, locations, thread}
use Rattle.tm_syntax.specs.Design.Scope.{Site, site}
use Rattle.tm_syntax.specs.Faults.{IsOfText, IsSound}
use Rattle.tm_syntax.specs.Faults.Limits.{count_of, counted, first_above, limit_of}
use Rattle.tm_syntax.proofs.Instances.{templates_agree}
use Rattle.tm_syntax.proofs.Limits.{few_processes}
use Rattle.tm_typing.proofs.Listed.{In, first_of, found_in, in_flat, in_get, in_map, later_of, no_thing}
use Rattle.tm_design.specs.ProcessTexts.{process_text}
use Rattle.tm_design.proofs.CountedProcesses.{counted_process, process-there, thread-is}
use Rattle.tm_design.proofs.FoundCells.{is_site}
use Rattle.tm_design.specs.Runnable.{HasFewPlaces}

-- each of some numbers is at most the greatest
pub at_most_greatest : (n : ℕ) (ns : List ℕ) → In n ns → n ≤ greatest ns
at_most_greatest n _ (first_of {xs = ns}) = omega arith
at_most_greatest n _ (later_of {y = m} {xs = ns} i) = let deeper = at_most_greatest n ns i in omega (arith, deeper)

-- where no quantity is above its limit, the locations of a process are not
few_counted : (spec : SpecTree) → first_above spec ≡ None → count_locations spec ≤ 1024
few_counted spec none = by (nat_lt 1024 (count_locations spec)) refl
  where
    by : (b : Bool) → nat_lt 1024 (count_locations spec) ≡ b → count_locations spec ≤ 1024
    by true above =
        let found = found_in (λ q. nat_lt (limit_of q) (count_of spec q)) {x = quantity.Locations} counted
        (in_get counted 9 refl) above in
        no_thing (sym none ∙ found.1)
    by false within = grind (arith, nat_tests)

module _ (d : DesignTree) (sound : IsSound d) (of : IsOfText d.spec) where
  -- the template of an instance is counted
  pub template_counted : (n : ℕ) (s : Site) → site d n ≡ Some s → In s.template (instance_templates d.spec)
  template_counted n s there =
      let is = is_site d n s there in
      subst (In s.template) (templates_agree d sound.no_template_cycle sound.numbered)
      (in_flat (template_of d.spec) d.instances (in_get d.instances s.number is.node)
      (subst (λ o. In s.template (option_to_list o)) (sym is.template) first_of))

  few_of_thread : (p : ℕ) (h : Thread) → thread d p ≡ Some h → end_number d p < 1024
  few_of_thread p h there =
      let is = thread-is d p h there in
      let own = counted_process d sound of p h is.at there is.there in
      let within = few_counted d.spec sound.within.counts in
      let most = at_most_greatest (process_locations (process_text d is.at h))
      (flat_map (λ (t : TemplateTree). map process_locations (process_bodies d.spec t)) (instance_templates d.spec))
      (in_flat (λ (t : TemplateTree). map process_locations (process_bodies d.spec t)) (instance_templates d.spec)
      (template_counted h.scope.instance is.at is.there)
      (in_map process_locations (process_bodies d.spec is.at.template) (process-there d p h is.at is is.there))) in
      omega (arith, own, most, within)

  few_locations : (p : ℕ) → end_number d p < 1024
  few_locations p = by (thread d p) refl
    where
      by : (o : Option Thread) → thread d p ≡ o → end_number d p < 1024
      by None none =
          let long : length (locations d p) ≡ 0 =
          ap (λ (o : Option Thread). length (option_map_or
          (λ h. body_locations (suc (call_depth d.spec)) d h.scope [] h.process.body []) o [])) none in
          omega (arith, long)
      by (Some h) there = few_of_thread p h there

pub few_places : (d : DesignTree) → IsSound d → IsOfText d.spec → HasFewPlaces d
few_places d sound of = record {
  processes = let few = few_processes d sound in omega (arith, few);
  places = λ p. let few = few_locations d sound of p in omega (arith, few);
}
