-- The value of a constant stands in the first enum that has it.
use Rattle.std.proofs.Common.{◌≡◌, ℕ, suc, Bool, true, false, cond, Option, None, Some, List, [], ◌∷◌, map, slice_get, position, find, is_some, refl, sym, ap, ◌∙◌, true≢false}
use Rattle.std.specs.Prelude.{◌||◌}
use Rattle.std.specs.Option.{option_map, option_and_then}
use Rattle.std.specs.List.{list_any, filter_map, cons_option}
use Rattle.tm_syntax.specs.declared.tree.EnumDef.{EnumDef}
use Rattle.tm_syntax.specs.declared.tree.Spec.{Spec}
use Rattle.tm_syntax.specs.Tree.View.{enum_tree, spec_tree}
use Rattle.tm_syntax.specs.Scopes.Names.{is_spelled, constant_value}
use Rattle.tm_scope.proofs.Positions.{position-cons, find-position}

-- a position is found where some element passes
pub is_some-position : {X : Type 0} (p : X → Bool) (xs : List X) → is_some (position p xs) ≡ list_any p xs
is_some-position p [] = refl
is_some-position p (x ∷ xs) = ap is_some (position-cons p x xs) ∙ by (p x) (is_some-position p xs)
  where
    one_on : (o : Option ℕ) → is_some (option_map suc o) ≡ is_some o
    one_on None = refl
    one_on (Some k) = refl

    by : (here : Bool) → is_some (position p xs) ≡ list_any p xs →
        is_some (cond here (Some 0) (option_map suc (position p xs))) ≡ (here || list_any p xs)
    by true rest = refl
    by false rest = one_on (position p xs) ∙ rest

module _ (name : List ℕ) where
  -- whether an enum has the constant, and at which value
  abbrev pub has : EnumDef → Bool
  has e = list_any (is_spelled name) e.constants.items

  abbrev pub value_in : EnumDef → Option ℕ
  value_in e = position (is_spelled name) e.constants.items

  first_value : (es : List EnumDef) →
      slice_get (filter_map (λ e. position (is_spelled name) e.constants) (map enum_tree es)) 0
      ≡ option_and_then value_in (find has es)
  first_value [] = refl
  first_value (e ∷ es) = by (value_in e) (has e) refl (is_some-position (is_spelled name) e.constants.items)
      (first_value es)
    where
      by : (o : Option ℕ) (b : Bool) → value_in e ≡ o → is_some o ≡ b →
          slice_get (filter_map (λ e. position (is_spelled name) e.constants) (map enum_tree es)) 0
          ≡ option_and_then value_in (find has es) →
          slice_get (cons_option o (filter_map (λ e. position (is_spelled name) e.constants) (map enum_tree es))) 0
          ≡ option_and_then value_in (cond b (Some e) (find has es))
      by (Some k) true at is rest = sym at
      by None false at is rest = rest
      by (Some k) false at is rest = absurd (true≢false is)
      by None true at is rest = absurd (true≢false (sym is))

  module _ (s : Spec) where
    constant_value-positions : constant_value (spec_tree s) name
        ≡ option_and_then value_in (option_and_then (slice_get s.enums.items) (position has s.enums.items))
    constant_value-positions =
        first_value s.enums.items ∙ ap (option_and_then value_in) (find-position has s.enums.items)

    pub value_absent : position has s.enums.items ≡ None → constant_value (spec_tree s) name ≡ None
    value_absent e =
        constant_value-positions
        ∙ ap (λ o. option_and_then value_in (option_and_then (slice_get s.enums.items) o)) e

    pub value_found : (number : ℕ) (def : EnumDef) → position has s.enums.items ≡ Some number →
        slice_get s.enums.items number ≡ Some def → constant_value (spec_tree s) name ≡ value_in def
    value_found number def e at =
        constant_value-positions
        ∙ ap (λ o. option_and_then value_in (option_and_then (slice_get s.enums.items) o)) e
        ∙ ap (option_and_then value_in) at
