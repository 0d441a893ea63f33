-- The numbers of resolved expressions, by those of their parts.
use Rattle.std.proofs.Common.{◌≡◌, ℕ, Bool, true, false, Option, None, Some, List, refl, sym, ap, ◌∙◌, subst}
use Rattle.std.specs.Prelude.{◌&&◌}
use Rattle.std.proofs.lemmas.Option.{none-some}
use Rattle.std.specs.Option.{option_map}
use Rattle.tm_base.specs.declared.shift_operator.ShiftOperator.{ShiftOperator}
use Rattle.tm_syntax.specs.declared.tree.Ident.{Ident}
use Rattle.tm_syntax.specs.declared.tree.UnaryOperator.{UnaryOperator}
use Rattle.tm_syntax.specs.declared.tree.BinaryOperator.{BinaryOperator}
use Rattle.tm_syntax.specs.Tree.{ExprTree, number}
use Rattle.tm_syntax.specs.Scopes.Names.{last_name}
use Rattle.tm_syntax.specs.Design.{DesignTree}
use Rattle.tm_syntax.specs.Design.Atoms.{Resolved, a_number, a_unary, a_binary, a_shift, a_choice, a_cast, an_element, a_constant, a_variable, of_step, first_element, is_lasting, resolved_cell, resolved_element}
use Rattle.tm_syntax.specs.Design.Cells.{Cell, cell, in_state}
use Rattle.tm_syntax.specs.Design.Scope.{Scope}
use Rattle.tm_atoms.specs.Inner.Nodes.{binary_of, shift_of, unary_of}
use Rattle.tm_atoms.specs.Inner.Numbers.{HasNumber, IsNode, NumberTables, number_node, unary_node, binary_node, shift_node, choice_node, cast_node, element_node, variable_node, step_node, literal}
use Rattle.tm_atoms.specs.declared.node.Node.{Node}
use Rattle.tm_atoms.specs.declared.node.Node.TheVariants as node
use Rattle.tm_atoms.specs.declared.node.Operator.{Operator}
use Rattle.tm_atoms.specs.declared.resolved.Numbered.{Numbered}
use Rattle.tm_atoms.proofs.Numbered.{grown-then, has-then, number-grown}

-- what a node that is noted stands for
abbrev pub IsNoting : NumberTables → NumberTables → Node → Bool → Numbered → Type 0
IsNoting t u made lasting n = (r : Resolved) → IsNode t made r → lasting ≡ is_lasting r → HasNumber t u n r

-- a number is that of its value
pub of-number : (t u : NumberTables) (n : Numbered) (k value : ℕ) → k ≡ value → IsNoting t u (node.Number k) true n →
    HasNumber t u n (a_number value)
of-number t u n k value is noting =
    subst (λ k. HasNumber t u n (a_number k)) is (noting (a_number k) (number_node k) refl)

module _ (s t u : NumberTables) (n e : Numbered) (x : Resolved) (has : HasNumber s t e x) where
  pub of-unary : (op : UnaryOperator) (o : Operator) → o ≡ unary_of op →
      IsNoting t u (node.Unary o e.number) e.lasting n → HasNumber s u n (a_unary op x)
  of-unary op o sign noting =
      has-then s t u n (a_unary op x) has.grown
      (noting (a_unary op x)
      (subst (λ o. IsNode t (node.Unary o e.number) (a_unary op x)) (sym sign) (unary_node op has.is.number))
      has.is.lasting)

  pub of-shift : (op : ShiftOperator) (o : Operator) → o ≡ shift_of op → (k by : ℕ) → k ≡ by →
      IsNoting t u (node.Shift o e.number k) e.lasting n → HasNumber s u n (a_shift op x by)
  of-shift op o sign k by amount noting =
      subst (λ k. HasNumber s u n (a_shift op x k)) amount
      (has-then s t u n (a_shift op x k) has.grown
      (noting (a_shift op x k)
      (subst (λ o. IsNode t (node.Shift o e.number k) (a_shift op x k)) (sym sign) (shift_node op k has.is.number))
      has.is.lasting))

  pub of-cast : (k to : ℕ) → k ≡ to → IsNoting t u (node.Cast k e.number) e.lasting n →
      HasNumber s u n (a_cast to x)
  of-cast k to width noting =
      subst (λ k. HasNumber s u n (a_cast k x)) width
      (has-then s t u n (a_cast k x) has.grown (noting (a_cast k x) (cast_node k has.is.number) has.is.lasting))

  pub of-element : (k first : ℕ) → k ≡ first → IsNoting t u (node.Element k e.number) e.lasting n →
      HasNumber s u n (an_element first x)
  of-element k first is noting =
      subst (λ k. HasNumber s u n (an_element k x)) is
      (has-then s t u n (an_element k x) has.grown
      (noting (an_element k x) (element_node k has.is.number) has.is.lasting))

pub of-binary : (r s t u : NumberTables) (n a b : Numbered) (x y : Resolved) → HasNumber r s a x →
    HasNumber s t b y → (op : BinaryOperator) (o : Operator) → o ≡ binary_of op → (l : Bool) →
    l ≡ (a.lasting && b.lasting) → IsNoting t u (node.Binary o a.number b.number) l n →
    HasNumber r u n (a_binary op x y)
of-binary r s t u n a b x y left right op o sign l lasting noting =
    has-then r t u n (a_binary op x y) (grown-then r s t left.grown right.grown)
    (noting (a_binary op x y)
    (subst (λ o. IsNode t (node.Binary o a.number b.number) (a_binary op x y)) (sym sign)
    (binary_node op (number-grown s t right.grown left.is.number) right.is.number))
    (lasting ∙ λ i. left.is.lasting i && right.is.lasting i))

pub of-choice : (q r s t u : NumberTables) (n e a b : Numbered) (x y z : Resolved) → HasNumber q r e x →
    HasNumber r s a y → HasNumber s t b z → (l m : Bool) → l ≡ (e.lasting && a.lasting) → m ≡ (l && b.lasting) →
    IsNoting t u (node.Conditional e.number a.number b.number) m n → HasNumber q u n (a_choice x y z)
of-choice q r s t u n e a b x y z test left right l m first second noting =
    has-then q t u n (a_choice x y z)
    (grown-then q r t test.grown (grown-then r s t left.grown right.grown))
    (noting (a_choice x y z)
    (choice_node
    (number-grown s t right.grown (number-grown r s left.grown test.is.number))
    (number-grown s t right.grown left.is.number)
    right.is.number)
    (second ∙ (λ i. first i && b.lasting)
    ∙ λ i. (test.is.lasting i && left.is.lasting i) && right.is.lasting i))

module _ (d : DesignTree) (scope : Scope) (names : List Ident) (index : Resolved) where
  -- an element whose index is a number
  pub element-literal : (e : ExprTree) (k : ℕ) → literal e ≡ Some k →
      resolved_element d scope names e index ≡ resolved_cell (cell d scope names (Some k)) (last_name names)
  element-literal (number n) k is =
      ap (λ o. resolved_cell (cell d scope names o) (last_name names)) is
  element-literal _ k is = absurd (none-some k is)

  -- an element whose index is none
  pub element-other : (e : ExprTree) → literal e ≡ None →
      resolved_element d scope names e index ≡ an_element (first_element (cell d scope names (Some 0))) index
  element-other (number n) is = absurd cc
  element-other _ is = refl

-- the number of what a path means
module _ (t u : NumberTables) (n : Numbered) (name : List ℕ) (o : Option Cell) where
  pub of-state : (k : ℕ) → Some (in_state k) ≡ o → IsNoting t u (node.Variable k) true n →
      HasNumber t u n (resolved_cell o name)
  of-state k is noting =
      subst (λ o. HasNumber t u n (resolved_cell o name)) is (noting (a_variable k) (variable_node k) refl)

  pub of-constant : None ≡ o → (m : List ℕ) → m ≡ name → HasNumber t u n (a_constant m) →
      HasNumber t u n (resolved_cell o name)
  of-constant is m same constant =
      subst (λ o. HasNumber t u n (resolved_cell o name)) is
      (subst (λ m. HasNumber t u n (a_constant m)) same constant)

  pub of-slot : {X : Type 0} (f : X → Cell) → ((x : X) (m : List ℕ) → resolved_cell (Some (f x)) m ≡ of_step) →
      (found : Option X) → option_map f found ≡ o → (c : Cell) → option_map f found ≡ Some c →
      IsNoting t u node.Step false n → HasNumber t u n (resolved_cell o name)
  of-slot f step None is c there noting = absurd (none-some c there)
  of-slot f step (Some x) is c there noting =
      subst (λ o. HasNumber t u n (resolved_cell o name)) is
      (subst (HasNumber t u n) (sym (step x name)) (noting of_step step_node refl))
