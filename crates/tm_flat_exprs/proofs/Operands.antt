-- The bits of the operands of an operator.
use Rattle.std.proofs.Common.{◌≡◌, ℕ, refl, sym, ap, ◌∙◌, subst}
use Rattle.tm_base.specs.declared.place.Place.{Place}
use Rattle.tm_syntax.specs.declared.tree.BinaryOperator.{BinaryOperator}
use Rattle.tm_syntax.specs.declared.tree.BinaryOperator.TheVariants.{Equal, NotEqual, Less, LessEqual, Greater}
use Rattle.tm_syntax.specs.declared.tree.BinaryOperator.TheVariants.{GreaterEqual, AndAlso, OrElse}
use Rattle.tm_syntax.specs.declared.design.Ty.{Ty}
use Rattle.tm_syntax.specs.declared.design.Ty.TheVariants as types
use Rattle.tm_syntax.specs.Tree.{ExprTree, SpecTree, binary}
use Rattle.tm_syntax.specs.Tree.View.{spec_tree}
use Rattle.tm_syntax.specs.Design.{DesignTree}
use Rattle.tm_syntax.specs.Design.Scope.{operand_type}
use Rattle.tm_syntax.specs.Design.Sizes.{type_bits, width}
use Rattle.tm_scope.specs.Cells.{HasCells, ScopedCells, scope_of}
use Rattle.tm_sem.specs.Value.{binary_value}
use Rattle.tm_design.specs.declared.sorts.OperatorSort.{OperatorSort}
use Rattle.tm_design.specs.declared.sorts.OperatorSort.TheVariants.{Arithmetic, Comparison, Conjunction, Disjunction}
use Rattle.tm_design.specs.Sorts.{sort_of}
use Rattle.tm_design.specs.Typed.{HasTypeAt}
use Rattle.tm_design.proofs.OperandParts.{first_operand, operand_is, operands, second_operand, sized_at}
use Rattle.tm_flat_exprs.specs.Operators.{joined_width}
use Rattle.tm_flat_exprs.specs.Valued.{IsOperandType}

-- a comparison does not see the width, nor does logic
any_width : (op : BinaryOperator) (w x m n : ℕ) → (sort_of op ≡ Arithmetic → ⊥) →
    binary_value op w m n ≡ binary_value op x m n
any_width Equal w x m n is = refl
any_width NotEqual w x m n is = refl
any_width Less w x m n is = refl
any_width LessEqual w x m n is = refl
any_width Greater w x m n is = refl
any_width GreaterEqual w x m n is = refl
any_width AndAlso w x m n is = refl
any_width OrElse w x m n is = refl
any_width _ w x m n is = absurd (is refl)

module _ (s : ScopedCells) (asked : Ty) (at : Place) (op : BinaryOperator) (a b : ExprTree)
    (h : HasTypeAt s asked (binary at op a b)) (ty : Ty)
    (is : (d : DesignTree) → HasCells s.tables d → ty ≡ operand_type d (scope_of s.at) op asked a b) where
  abbrev spec : SpecTree
  spec = spec_tree s.tables.spec

  same : (operands s asked at op a b h).ty ≡ ty
  same = operand_is s asked at op a b h ty is

  truths : (t : Ty) → t ≡ types.Bool → 1 ≡ type_bits spec t
  truths t e = ap (type_bits spec) (sym e)

  -- what the operator gives is as wide as the type of the whole
  joins : (sort : OperatorSort) → sort_of op ≡ sort →
      joined_width (sort_of op) (type_bits spec ty) ≡ type_bits spec asked
  joins Arithmetic e =
      ap (λ k. joined_width k (type_bits spec ty)) e
      ∙ ap (type_bits spec) (sym same ∙ (operands s asked at op a b h).arithmetic e)
  joins Comparison e =
      ap (λ k. joined_width k (type_bits spec ty)) e
      ∙ truths asked ((operands s asked at op a b h).truth (λ f. let g = sym e ∙ f in cc))
  joins Conjunction e =
      ap (λ k. joined_width k (type_bits spec ty)) e
      ∙ truths asked ((operands s asked at op a b h).truth (λ f. let g = sym e ∙ f in cc))
  joins Disjunction e =
      ap (λ k. joined_width k (type_bits spec ty)) e
      ∙ truths asked ((operands s asked at op a b h).truth (λ f. let g = sym e ∙ f in cc))

  -- the bits of the operands do for the width of their arithmetic
  alike : (m n : ℕ) (sort : OperatorSort) → sort_of op ≡ sort →
      binary_value op (type_bits spec ty) m n ≡ binary_value op (width ty) m n
  alike m n Arithmetic e =
      let number = (operands s asked at op a b h).number e in
      subst (λ t. binary_value op (type_bits spec t) m n ≡ binary_value op (width t) m n) (sym number.1 ∙ same) refl
  alike m n Comparison e = any_width op (type_bits spec ty) (width ty) m n (λ f. let g = sym e ∙ f in cc)
  alike m n Conjunction e = any_width op (type_bits spec ty) (width ty) m n (λ f. let g = sym e ∙ f in cc)
  alike m n Disjunction e = any_width op (type_bits spec ty) (width ty) m n (λ f. let g = sym e ∙ f in cc)

  pub operand_bits : IsOperandType s op asked a b ty
  operand_bits = record {
    first = first_operand s asked at op a b h ty is;
    second = second_operand s asked at op a b h ty is;
    sized = sized_at s (first_operand s asked at op a b h ty is);
    meets = λ d has. sym (is d has);
    conjunction = λ e. sym (truths ty (sym same ∙ (operands s asked at op a b h).conjunction e));
    disjunction = λ e. sym (truths ty (sym same ∙ (operands s asked at op a b h).disjunction e));
    bits = joins (sort_of op) refl;
    arithmetic = λ m n. alike m n (sort_of op) refl;
  }
