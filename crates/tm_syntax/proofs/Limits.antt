-- What the limits say of a design that keeps its facts.
use Rattle.std.proofs.Common.{◌≡◌, ◌+◌, ◌<◌, ◌≤◌, Bool, true, false, None, Some, List, [], ◌∷◌, length, refl, sym, ap, ◌∙◌, arith, cond, nat_lt}
use Rattle.std.specs.Prelude.{not, sum_by, count_by}
use Rattle.std.specs.List.{AllByRecursion, find}
use Rattle.std.proofs.lemmas.Bool.Decides.{nat_tests}
use Rattle.std.proofs.lemmas.List.Sums.{sum_by-le-sum_by}
use Rattle.tm_syntax.specs.declared.design.Var.{Var}
use Rattle.tm_syntax.specs.declared.fault.Quantity.{Quantity}
use Rattle.tm_syntax.specs.Tree.{ProcessTree, TemplateTree, SpecTree}
use Rattle.tm_syntax.specs.Design.{DesignTree}
use Rattle.tm_syntax.specs.Design.Sizes.{type_bits}
use Rattle.tm_syntax.specs.Counts.Instances.{instance_templates}
use Rattle.tm_syntax.specs.Counts.Bodies.{variable_bits, template_bits}
use Rattle.tm_syntax.specs.Faults.Limits.{limit_of, count_of, counted}
use Rattle.tm_syntax.specs.Faults.{IsSound}
use Rattle.tm_syntax.proofs.Instances.{instances_counted, processes_counted, tasks_counted, goals_counted, fairs_counted}
use Rattle.tm_syntax.proofs.Variables.{variables_counted}

none_found : {X : Type 0} (p : X → Bool) (xs : List X) → find p xs ≡ None → AllByRecursion (λ x. p x ≡ false) xs
none_found p [] e = tt
none_found p (x ∷ xs) e = by (p x) refl (none_found p xs)
  where
    by : (b : Bool) → p x ≡ b → (find p xs ≡ None → AllByRecursion (λ x. p x ≡ false) xs) →
        (p x ≡ false) × AllByRecursion (λ x. p x ≡ false) xs
    by true h rest = absurd (let found = sym (ap (λ b. cond b (Some x) (find p xs)) h) ∙ e in cc)
    by false h rest = (h, rest (sym (ap (λ b. cond b (Some x) (find p xs)) h) ∙ e))

-- a quantity is at most its limit
IsBounded : SpecTree → Quantity → Type 0
IsBounded spec q = count_of spec q ≤ limit_of q

bounded : (spec : SpecTree) (qs : List Quantity) →
    AllByRecursion (λ q. nat_lt (limit_of q) (count_of spec q) ≡ false) qs → AllByRecursion (IsBounded spec) qs
unfolding IsBounded
bounded spec [] all = tt
bounded spec (q ∷ qs) all = ((let h = all.0 in grind (arith, nat_tests)), bounded spec qs all.1)

module _ (d : DesignTree) (sound : IsSound d) where
  all_bounded : AllByRecursion (IsBounded d.spec) counted
  all_bounded =
      bounded d.spec counted (none_found (λ q. nat_lt (limit_of q) (count_of d.spec q)) counted sound.within.counts)

  pub few_instances : length d.instances ≤ 64
  unfolding IsBounded
  few_instances =
      let count = instances_counted d sound.no_template_cycle sound.numbered in
      let bound = all_bounded.1.0 in omega arith

  pub few_processes : length d.processes ≤ 30
  unfolding IsBounded
  few_processes =
      let count = processes_counted d sound.no_template_cycle sound.numbered in
      let bound = all_bounded.1.1.0 in omega arith

  pub few_goals : length d.goals ≤ 16
  unfolding IsBounded
  few_goals =
      let count = goals_counted d sound.no_template_cycle sound.numbered in
      let bound = all_bounded.1.1.1.0 in omega arith

  pub few_fairs : length d.fairs < 32
  unfolding IsBounded
  few_fairs =
      let count = fairs_counted d sound.no_template_cycle sound.numbered in
      let bound = all_bounded.1.1.1.1.0 in
      let part = sum_by-le-sum_by (λ (t : TemplateTree). length t.fairs)
      (λ (t : TemplateTree). count_by (λ (p : ProcessTree). not p.lazy) t.processes + length t.fairs)
      (instance_templates d.spec) (λ t. omega arith) in omega arith

  pub few_tasks : length d.tasks ≤ 64
  unfolding IsBounded
  few_tasks =
      let count = tasks_counted d sound.no_template_cycle sound.numbered in
      let bound = all_bounded.1.1.1.1.1.0 in omega arith

  pub few_bits : sum_by (λ (v : Var). type_bits d.spec v.ty) d.vars ≤ 256
  unfolding IsBounded
  few_bits =
      let count = variables_counted d sound.no_template_cycle sound.numbered in
      let bound = all_bounded.1.1.1.1.1.1.0 in
      let part = sum_by-le-sum_by (variable_bits d.spec) (template_bits d.spec) (instance_templates d.spec)
      (λ t. omega arith) in omega arith
