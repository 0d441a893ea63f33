-- The variables of the designs of a checked text: their types have widths that numbers can have, and values, of which
-- their declared values are some.
use Rattle.std.proofs.Common.{◌≡◌, ℕ, ◌^◌, ◌<◌, ◌≤◌, Bool, true, false, cond, Option, None, Some, List, [], ◌∷◌, ◌++◌, refl, sym, ap, ◌∙◌, subst, arith}
use Rattle.std.specs.Prelude.{min, nat_lt, unwrap_or, IfSome}
use Rattle.std.specs.Option.{option_map, option_map_or, option_to_list}
use Rattle.std.specs.List.{AllByRecursion, flat_map}
use Rattle.std.proofs.lemmas.Bool.Decides.{nat_tests}
use Rattle.tm_syntax.specs.declared.tree.Num.{Num}
use Rattle.tm_syntax.specs.declared.tree.TypeName.{TypeName}
use Rattle.tm_syntax.specs.declared.design.Ty.{Ty}
use Rattle.tm_syntax.specs.declared.design.Ty.TheVariants as types
use Rattle.tm_syntax.specs.declared.design.Var.{Var}
use Rattle.tm_syntax.specs.Tree.{ExprTree, truth, number, path, group, unary, binary, shift, conditional, cast, element, VarTree, TemplateTree, SpecTree}
use Rattle.tm_syntax.specs.Scopes.Names.{number_of, type_of}
use Rattle.tm_syntax.specs.Scopes.Parts.{exprs, template_types}
use Rattle.tm_syntax.specs.Scopes.Types.{constant_type}
use Rattle.tm_syntax.specs.Design.{InstanceNode, literal_value}
use Rattle.tm_syntax.specs.Design.Sizes.{type_size}
use Rattle.tm_syntax.specs.Faults.Literals.{length_faults, misfit_numbers, literal_numbers, number_fits, var_numbers, type_numbers, asked_numbers}
use Rattle.tm_syntax.specs.Faults.Mismatches.{literal_fits}
use Rattle.tm_syntax.specs.Faults.Operands.{expr_place, same_type}
use Rattle.tm_syntax.specs.Faults.Marks.{place_unless}
use Rattle.tm_syntax.specs.Faults.{IsTyped}
use Rattle.tm_typing.specs.HasType.{IsSized}
use Rattle.tm_typing.proofs.Fitting.{contrary, both_empty, fits_there, same_types}
use Rattle.tm_typing.proofs.Listed.{In, first_of, none_of}
use Rattle.tm_typing.proofs.Promises.{named, types_sized}
use Rattle.tm_design.specs.Values.{VarFits}
use Rattle.tm_design.proofs.ConstantValues.{constant_in_type}
use Rattle.tm_design.proofs.EachVariable.{holds_of_all}
use Rattle.tm_design.proofs.Holders.{vars_of_all}
use Rattle.tm_design.proofs.WrittenTypes.{var_written, var_suits, written_has_values}

-- a number that fits a type of numbers is one of its values
number_below : (n : Num) (w : ℕ) → w ≤ 64 → number_fits (types.Uint w) n ≡ true → number_of n < 2 ^ w
number_below n w most fits = by n.value refl fits
  where
    by : (o : Option ℕ) → n.value ≡ o → option_map_or (λ v. nat_lt v (2 ^ min w 64)) o false ≡ true →
        number_of n < 2 ^ w
    by None is e = contrary e
    by (Some v) is e =
        let same : min w 64 ≡ w = omega (arith, most) in
        let below : nat_lt v (2 ^ w) ≡ true = subst (λ k. nat_lt v (2 ^ k) ≡ true) same e in
        let less : v < 2 ^ w = grind (arith, nat_tests) in
        subst (λ x. x < 2 ^ w) (sym (ap (λ o. unwrap_or o 0) is)) less

module _ (spec : SpecTree) (checked : IsTyped spec) where
  -- a literal that fits a type has one of its values
  literal_in_type : (ty : Ty) → IsSized ty → (e : ExprTree) → literal_fits spec ty e ≡ true →
      literal_numbers ty e ≡ [] → literal_value spec e < type_size spec ty
  literal_in_type ty sized (truth at b) fits numbers =
      subst (λ t. cond b 1 0 < type_size spec t) (sym (same_types ty types.Bool fits)) (small b)
    where
      small : (b : Bool) → cond b 1 0 < 2
      small true = omega arith
      small false = omega arith
  literal_in_type types.Bool sized (number n) fits numbers = contrary fits
  literal_in_type (types.Enum _) sized (number n) fits numbers = contrary fits
  literal_in_type (types.Uint w) sized (number n) fits numbers =
      number_below n w sized.high (fits_there (number_fits (types.Uint w) n) n.place numbers)
  literal_in_type ty sized (path []) fits numbers = contrary fits
  literal_in_type ty sized (path (name ∷ next ∷ names)) fits numbers = contrary fits
  literal_in_type ty sized (path (name ∷ [])) fits numbers = by (constant_type spec (name ∷ [])) refl fits
    where
      by : (o : Option Ty) → constant_type spec (name ∷ []) ≡ o → option_map_or (same_type ty) o false ≡ true →
          literal_value spec (path (name ∷ [])) < type_size spec ty
      by None is e = contrary e
      by (Some own) is e =
          constant_in_type spec name ty (is ∙ ap Some (sym (same_types ty own e))) (named spec checked).text_once
  literal_in_type ty sized (group _ _) fits numbers = contrary fits
  literal_in_type ty sized (unary _ _ _) fits numbers = contrary fits
  literal_in_type ty sized (binary _ _ _ _) fits numbers = contrary fits
  literal_in_type ty sized (shift _ _ _ _) fits numbers = contrary fits
  literal_in_type ty sized (conditional _ _ _ _) fits numbers = contrary fits
  literal_in_type ty sized (cast _ _ _) fits numbers = contrary fits
  literal_in_type ty sized (element _ _) fits numbers = contrary fits

  module _ (t : TemplateTree) (here : In t spec.templates) where
    -- the numbers of a variable fit
    var_fitting : (w : VarTree) → In w t.vars → var_numbers w ≡ []
    var_fitting w i =
        let first = both_empty
        (flat_map (λ (t : TemplateTree). flat_map type_numbers (template_types t) ++ flat_map var_numbers t.vars)
        spec.templates)
        (flat_map asked_numbers (exprs spec)) checked.fitting in
        none_of var_numbers t.vars
        (both_empty (flat_map type_numbers (template_types t)) (flat_map var_numbers t.vars)
        (none_of (λ (t : TemplateTree). flat_map type_numbers (template_types t) ++ flat_map var_numbers t.vars)
        spec.templates first.0 here)).1 i

    sized_here : (ty : TypeName) → In ty (template_types t) → IsSized (type_of ty)
    sized_here = types_sized spec checked.fitting t here

    -- a declared value is one of the variable's type
    init_in_type : (w : VarTree) → In w t.vars →
        IfSome (option_map (literal_value spec) w.init) (λ n. n < type_size spec (type_of w.ty))
    init_in_type w i = by w.init refl
      where
        by : (o : Option ExprTree) → w.init ≡ o →
            IfSome (option_map (literal_value spec) o) (λ n. n < type_size spec (type_of w.ty))
        by None is = tt
        by (Some e) is =
            let there : In e (option_to_list w.init) = subst (λ o. In e (option_to_list o)) (sym is) first_of in
            literal_in_type (type_of w.ty) (sized_here w.ty (var_written t w i)) e
            (fits_there (literal_fits spec (type_of w.ty) e) (expr_place e)
            (none_of (λ e. place_unless (literal_fits spec (type_of w.ty) e) (expr_place e)) (option_to_list w.init)
            (var_suits spec checked t here w i) there))
            (none_of (literal_numbers (type_of w.ty)) (option_to_list w.init)
            (both_empty (flat_map length_faults (option_to_list w.size))
            (flat_map (literal_numbers (type_of w.ty)) (option_to_list w.init)) (var_fitting w i)).1 there)

  -- so it is with all variables
  pub vars_fit : (ns : List InstanceNode) → AllByRecursion (VarFits spec) (vars_of_all spec ns)
  vars_fit =
      holds_of_all spec (VarFits spec)
      (λ t here w at i base. record {
        sized = sized_here t here w.ty (var_written t w at);
        filled = written_has_values spec checked t here w.ty (var_written t w at);
        init = init_in_type t here w at;
      })
      (λ t here ty written i base name. record {
        sized = sized_here t here ty written;
        filled = written_has_values spec checked t here ty written;
        init = written_has_values spec checked t here ty written;
      })

-- the types of variables have widths that numbers can have, where the numbers of a text fit
pub vars_sized : (spec : SpecTree) → misfit_numbers spec ≡ [] → (ns : List InstanceNode) →
    AllByRecursion (λ (v : Var). IsSized v.ty) (vars_of_all spec ns)
vars_sized spec fitting =
    holds_of_all spec (λ (v : Var). IsSized v.ty)
    (λ t here w at i base. types_sized spec fitting t here w.ty (var_written t w at))
    (λ t here ty written i base name. types_sized spec fitting t here ty written)
