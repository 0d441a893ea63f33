-- Each element of an array that a text declares has a variable.
use Rattle.std.proofs.Common.{◌≡◌, ℕ, zero, suc, ◌+◌, ◌<◌, ◌≤◌, ◌≢◌, ◌⊎◌, inl, inr, Some, List, ◌∷◌, ◌++◌, refl, sym, subst, arith}
use Rattle.std.specs.Fmt.{decimal}
use Rattle.std.specs.List.{enumerate_from, flat_map, range_with_len}
use Rattle.std.specs.Option.{option_to_list}
use Rattle.tm_syntax.specs.declared.design.Var.{Var}
use Rattle.tm_syntax.specs.declared.tree.Num.{Num}
use Rattle.tm_syntax.specs.Tree.{SpecTree, TemplateTree, VarTree}
use Rattle.tm_syntax.specs.Scopes.Names.{number_of}
use Rattle.tm_syntax.specs.Design.{InstanceNode, declared_vars, element_paths, instance_vars, member_path, process_vars, task_vars, template_of}
use Rattle.tm_typing.proofs.Listed.{In, first_of, in_flat, in_front, in_map, later_of}
use Rattle.tm_flat_stmts.proofs.Pieces.{one_or_other}
use Rattle.tm_design.proofs.EachVariable.{declared_var}
use Rattle.tm_design.proofs.Holders.{IsThere}
use Rattle.tm_design.proofs.Indices.{in_enumerated}
use Rattle.tm_design.proofs.Sites.{IsSite}

-- each number of a range stands in it
range_has : (count low k : ℕ) → low ≤ k → k < low + count → In k (range_with_len low count)
range_has zero low k least most = absurd (omega (arith, least, most))
range_has (suc count) low k least most = by (one_or_other low k) (range_has count (low + 1) k)
  where
    by : (low ≡ k) ⊎ (low ≢ k) → (low + 1 ≤ k → k < low + 1 + count → In k (range_with_len (low + 1) count)) →
        In k (range_with_len low (suc count))
    by (inl same) rest = subst (λ n. In n (low ∷ range_with_len (low + 1) count)) same first_of
    by (inr other) rest = later_of (rest (omega (arith, least, other)) (omega (arith, most)))

module _ (spec : SpecTree) (ns : List InstanceNode) (k : ℕ) (n : InstanceNode) (t : TemplateTree)
    (site : IsSite spec ns k n t) (w : VarTree) (at : In w t.vars) (size : Num) (is : w.size ≡ Some size) (index : ℕ)
    (below : index < number_of size) where
  abbrev base : List ℕ
  base = member_path n.path w.name.text

  abbrev path : List ℕ
  path = base ++ 46 ∷ decimal index

  among : In path (element_paths w.size base)
  among =
      subst (λ o. In path (element_paths o base)) (sym is)
      (in_map (λ j. base ++ 46 ∷ decimal j) (range_with_len 0 (number_of size))
      (range_has (number_of size) 0 index (omega arith) (omega (arith, below))))

  abbrev element : Var
  element = declared_var spec w k path

  declared : In element (declared_vars spec k n.path w)
  declared = in_map (declared_var spec w k) (element_paths w.size base) among

  of_template : In element
      (flat_map (declared_vars spec k n.path) t.vars
      ++ flat_map (process_vars k n.path) t.processes
      ++ flat_map (task_vars spec t k n.path) t.tasks)
  of_template =
      in_front (flat_map (declared_vars spec k n.path) t.vars ++ flat_map (process_vars k n.path) t.processes)
      (flat_map (task_vars spec t k n.path) t.tasks)
      (in_front (flat_map (declared_vars spec k n.path) t.vars) (flat_map (process_vars k n.path) t.processes)
      (in_flat (declared_vars spec k n.path) t.vars at declared))

  pub element_there : IsThere spec ns path
  element_there = (
    element,
    in_flat (instance_vars spec) (enumerate_from 0 ns) (in_enumerated ns k site.node)
        (in_flat (λ (t : TemplateTree). flat_map (declared_vars spec k n.path) t.vars
        ++ flat_map (process_vars k n.path) t.processes
        ++ flat_map (task_vars spec t k n.path) t.tasks) (template_of spec n)
        (subst (λ o. In t (option_to_list o)) (sym site.template) first_of) of_template),
    refl,
  )
