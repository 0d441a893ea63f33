-- The bits of a design's variables are those that are counted over its text.
use Rattle.std.proofs.Common.{◌≡◌, ℕ, zero, suc, ◌+◌, ◌*◌, Bool, true, false, Option, None, Some, List, [], ◌∷◌, ◌++◌, length, refl, sym, ap, ◌∙◌, arith, cond}
use Rattle.std.specs.Prelude.{map, sum_by}
use Rattle.std.specs.Fmt.{decimal}
use Rattle.std.specs.Option.{option_map, option_map_or}
use Rattle.std.specs.List.{flat_map, enumerate_from, range_with_len}
use Rattle.std.proofs.lemmas.List.Sums.{sum_by-append, sum_by-cons}
use Rattle.tm_syntax.specs.declared.design.Var.{Var}
use Rattle.tm_syntax.specs.declared.tree.Num.{Num}
use Rattle.tm_syntax.specs.declared.tree.Param.{Param}
use Rattle.tm_syntax.specs.Tree.{LocalTree, VarTree, ProcessTree, TaskTree, TemplateTree, SpecTree}
use Rattle.tm_syntax.specs.Scopes.Names.{number_of, type_of}
use Rattle.tm_syntax.specs.Scopes.Pauses.{is_kept}
use Rattle.tm_syntax.specs.Scopes.Calls.{ReachesTemplate}
use Rattle.tm_syntax.specs.Design.{InstanceNode, DesignTree, IsDesign, template_of, member_path, literal_value, element_paths, declared_vars, kept_var, process_vars, task_vars, instance_vars}
use Rattle.tm_syntax.specs.Design.Sizes.{type_bits}
use Rattle.tm_syntax.specs.Counts.Instances.{total}
use Rattle.tm_syntax.specs.Counts.Bodies.{var_bits, local_bits, param_bits, task_bits, variable_bits}
use Rattle.tm_syntax.proofs.Instances.{templates_agree}

sum_flat : {X Y : Type 0} (f : Y → ℕ) (g : X → List Y) (h : X → ℕ) → ((x : X) → sum_by f (g x) ≡ h x) → (xs : List X) →
    sum_by f (flat_map g xs) ≡ sum_by h xs
sum_flat f g h each [] = refl
sum_flat f g h each (x ∷ xs) =
    sum_by-append f (g x) (flat_map g xs) ∙ (λ i. each x i + sum_flat f g h each xs i) ∙ sym (sum_by-cons h x xs)

sum_mapped : {X Y : Type 0} (f : Y → ℕ) (g : X → Y) (xs : List X) → sum_by f (map g xs) ≡ sum_by (λ x. f (g x)) xs
sum_mapped f g [] = refl
sum_mapped f g (x ∷ xs) =
    sum_by-cons f (g x) (map g xs) ∙ ap (λ n. f (g x) + n) (sum_mapped f g xs) ∙ sym (sum_by-cons (λ x. f (g x)) x xs)

sum_alike : {X : Type 0} (n : ℕ) (xs : List X) → sum_by (λ _. n) xs ≡ length xs * n
sum_alike n [] = omega arith
sum_alike n (x ∷ xs) = sum_by-cons (λ _. n) x xs ∙ ap (λ m. n + m) (sum_alike n xs) ∙ one_more (length xs)
  where
    one_more : (m : ℕ) → n + m * n ≡ suc m * n
    one_more m = grind arith

paths_made : (size : Option Num) (base : List ℕ) →
    length (element_paths size base) ≡ option_map_or number_of size 1
paths_made None base = refl
paths_made (Some n) base = made (number_of n) 0
  where
    made : (count low : ℕ) → length (map (λ k. base ++ 46 ∷ decimal k) (range_with_len low count)) ≡ count
    made zero low = refl
    made (suc count) low = ap suc (made count (low + 1))

module _ (spec : SpecTree) where
  bits : Var → ℕ
  bits v = type_bits spec v.ty

  declared_bits : (i : ℕ) (base : List ℕ) (d : VarTree) → sum_by bits (declared_vars spec i base d) ≡ var_bits spec d
  unfolding bits
  declared_bits i base d =
      sum_mapped bits (λ p. record {
        path = p;
        ty = type_of d.ty;
        init = option_map (literal_value spec) d.init;
        instance = i;
      }) (element_paths d.size (member_path base d.name.text))
      ∙ sum_alike (type_bits spec (type_of d.ty)) (element_paths d.size (member_path base d.name.text))
      ∙ ap (λ n. n * type_bits spec (type_of d.ty)) (paths_made d.size (member_path base d.name.text))

  kept_locals : (i : ℕ) (base : List ℕ) (ls : List LocalTree) →
      sum_by bits (map (λ (l : LocalTree). kept_var i base l.ty l.name) ls) ≡ local_bits spec ls
  unfolding bits
  kept_locals i base ls = sum_mapped bits (λ (l : LocalTree). kept_var i base l.ty l.name) ls

  kept_params : (i : ℕ) (base : List ℕ) (ps : List Param) →
      sum_by bits (map (λ (p : Param). kept_var i base p.ty p.name) ps) ≡ param_bits spec ps
  unfolding bits
  kept_params i base ps = sum_mapped bits (λ (p : Param). kept_var i base p.ty p.name) ps

  kept_bits : (t : TemplateTree) (i : ℕ) (base : List ℕ) (k : TaskTree) →
      sum_by bits (task_vars spec t i base k) ≡ task_bits spec t k
  kept_bits t i base k = by (is_kept spec t k)
    where
      by : (b : Bool) →
          sum_by bits (cond b (map (λ (p : Param). kept_var i (member_path base k.name.text) p.ty p.name) k.params
          ++ map (λ (l : LocalTree). kept_var i (member_path base k.name.text) l.ty l.name) k.body.locals) [])
          ≡ cond b (param_bits spec k.params + local_bits spec k.body.locals) 0
      by true =
          sum_by-append bits (map (λ (p : Param). kept_var i (member_path base k.name.text) p.ty p.name) k.params)
          (map (λ (l : LocalTree). kept_var i (member_path base k.name.text) l.ty l.name) k.body.locals)
          ∙ (λ j. kept_params i (member_path base k.name.text) k.params j
          + kept_locals i (member_path base k.name.text) k.body.locals j)
      by false = refl

  -- the variables of an instance of a template
  template_variables : ℕ → List ℕ → TemplateTree → List Var
  template_variables i base t =
      flat_map (declared_vars spec i base) t.vars ++ flat_map (process_vars i base) t.processes
      ++ flat_map (task_vars spec t i base) t.tasks

  template_counted : (i : ℕ) (base : List ℕ) (t : TemplateTree) →
      sum_by bits (template_variables i base t) ≡ variable_bits spec t
  unfolding template_variables
  template_counted i base t =
      sum_by-append bits (flat_map (declared_vars spec i base) t.vars ++ flat_map (process_vars i base) t.processes)
      (flat_map (task_vars spec t i base) t.tasks)
      ∙ ap (λ n. n + sum_by bits (flat_map (task_vars spec t i base) t.tasks))
      (sum_by-append bits (flat_map (declared_vars spec i base) t.vars) (flat_map (process_vars i base) t.processes))
      ∙ (λ j. sum_flat bits (declared_vars spec i base) (var_bits spec) (declared_bits i base) t.vars j
      + sum_flat bits (process_vars i base) (λ (p : ProcessTree). local_bits spec p.body.locals)
      (λ p. kept_locals i (member_path base p.name.text) p.body.locals) t.processes j
      + sum_flat bits (task_vars spec t i base) (task_bits spec t) (kept_bits t i base) t.tasks j)

  instances_counted_by : (k : ℕ) (nodes : List InstanceNode) →
      sum_by bits (flat_map (instance_vars spec) (enumerate_from k nodes))
      ≡ sum_by (variable_bits spec) (flat_map (template_of spec) nodes)
  unfolding template_variables
  instances_counted_by k [] = refl
  instances_counted_by k (n ∷ nodes) =
      sum_by-append bits (instance_vars spec (k, n)) (flat_map (instance_vars spec) (enumerate_from (k + 1) nodes))
      ∙ (λ i. sum_flat bits (template_variables k n.path) (variable_bits spec) (template_counted k n.path)
      (template_of spec n) i + instances_counted_by (k + 1) nodes i)
      ∙ sym (sum_by-append (variable_bits spec) (template_of spec n) (flat_map (template_of spec) nodes))

-- the variables of a design have as many bits as are counted
pub variables_counted : (d : DesignTree) → ((t : ℕ) → ¬ ReachesTemplate d.spec t t) → IsDesign d →
    sum_by (λ (v : Var). type_bits d.spec v.ty) d.vars ≡ total d.spec (variable_bits d.spec)
unfolding bits
variables_counted d acyclic design =
    ap (sum_by (λ (v : Var). type_bits d.spec v.ty)) design.vars
    ∙ instances_counted_by d.spec 0 d.instances
    ∙ ap (sum_by (variable_bits d.spec)) (templates_agree d acyclic design)
