-- A sound design has as many variables as bits of variables at most: a type whose width numbers can have takes a bit.
use Rattle.std.proofs.Common.{ℕ, ◌≤◌, List, [], ◌∷◌, map, length, sym, subst, arith}
use Rattle.std.specs.Prelude.{sum_by}
use Rattle.std.specs.Option.{option_map}
use Rattle.std.specs.List.{AllByRecursion}
use Rattle.std.proofs.lemmas.List.Sums.{sum_by-cons}
use Rattle.tm_syntax.specs.declared.design.Ty.{Ty}
use Rattle.tm_syntax.specs.declared.design.Ty.TheVariants as types
use Rattle.tm_syntax.specs.declared.design.Var.{Var}
use Rattle.tm_syntax.specs.declared.tree.Param.{Param}
use Rattle.tm_syntax.specs.Tree.{LocalTree, VarTree, ProcessTree, TaskTree, TemplateTree, SpecTree}
use Rattle.tm_syntax.specs.Scopes.Names.{type_of}
use Rattle.tm_syntax.specs.Design.{DesignTree, member_path, literal_value, element_paths, declared_vars, kept_var, process_vars}
use Rattle.tm_syntax.specs.Design.Sizes.{type_bits}
use Rattle.tm_syntax.specs.Faults.{IsSound}
use Rattle.tm_syntax.proofs.Limits.{few_bits}
use Rattle.tm_typing.specs.HasType.{IsSized}
use Rattle.tm_typing.proofs.Listed.{all_hold, all_join, map_holds}
use Rattle.tm_typing.proofs.Slots.{AreSized, var_sized, process_local_sized, param_sized, task_local_sized}
use Rattle.tm_typing.proofs.Promises.{types_sized}
use Rattle.tm_typing.proofs.Held.{HoldsOf, slot_vars, all_vars}

-- where each weighs one at least, all weigh as many as there are
weighed : {X : Type 0} (f : X → ℕ) (xs : List X) → AllByRecursion (λ x. 1 ≤ f x) xs → length xs ≤ sum_by f xs
weighed f [] all = omega arith
weighed f (x ∷ xs) all =
    let one = all.0 in let rest = weighed f xs all.1 in omega (arith, sum_by-cons f x xs)

-- a variable takes a bit
abbrev TakesBit : SpecTree → Var → Type 0
TakesBit spec v = 1 ≤ type_bits spec v.ty

module _ (spec : SpecTree) where
  has_bit : (ty : Ty) → IsSized ty → 1 ≤ type_bits spec ty
  has_bit types.Bool sized = omega arith
  has_bit (types.Uint n) sized = sized.low
  has_bit (types.Enum name) sized = omega arith

  template_bits : (i : ℕ) (base : List ℕ) (t : TemplateTree) → AreSized t → HoldsOf (TakesBit spec) spec i base t
  template_bits i base t sized = record {
    vars = all_hold (λ (v : VarTree). AllByRecursion (TakesBit spec) (declared_vars spec i base v)) t.vars
        (λ v j. map_holds (TakesBit spec)
        (λ p. record { path = p; ty = type_of v.ty; init = option_map (literal_value spec) v.init; instance = i })
        (element_paths v.size (member_path base v.name.text))
        (λ p _. has_bit (type_of v.ty) (var_sized t v sized j)));
    processes = all_hold (λ (p : ProcessTree). AllByRecursion (TakesBit spec) (process_vars i base p)) t.processes
        (λ p j. map_holds (TakesBit spec) (λ (l : LocalTree). kept_var i (member_path base p.name.text) l.ty l.name)
        p.body.locals (λ l k. has_bit (type_of l.ty) (process_local_sized t p l sized j k)));
    tasks = all_hold (λ (k : TaskTree). AllByRecursion (TakesBit spec) (slot_vars i base k)) t.tasks
        (λ k j. all_join (TakesBit spec)
        (map (λ (p : Param). kept_var i (member_path base k.name.text) p.ty p.name) k.params)
        (map (λ (l : LocalTree). kept_var i (member_path base k.name.text) l.ty l.name) k.body.locals)
        (map_holds (TakesBit spec) (λ (p : Param). kept_var i (member_path base k.name.text) p.ty p.name) k.params
        (λ p m. has_bit (type_of p.ty) (param_sized t k p sized j m)))
        (map_holds (TakesBit spec) (λ (l : LocalTree). kept_var i (member_path base k.name.text) l.ty l.name)
        k.body.locals (λ l m. has_bit (type_of l.ty) (task_local_sized t k l sized j m))));
  }

-- a sound design has few variables
pub few_vars : (d : DesignTree) → IsSound d → length d.vars ≤ 256
few_vars d sound =
    let all = subst (AllByRecursion (TakesBit d.spec)) (sym sound.numbered.vars)
    (all_vars d.spec d.instances (TakesBit d.spec)
    (λ i at t j. template_bits d.spec i.0 i.1.path t (types_sized d.spec sound.fitting t j))) in
    let few = few_bits d sound in
    let many = weighed (λ (v : Var). type_bits d.spec v.ty) d.vars all in
    omega arith
