-- Numbers of resolved expressions: two are one exactly where the expressions are one.
use Rattle.std.proofs.Common.{◌≡◌, ℕ, Bool, true, false, Some, slice_get, refl, sym, ap, ◌∙◌, true≢false}
use Rattle.std.specs.Prelude.{nat_eq}
use Rattle.std.proofs.lemmas.Bool.{eqb-true}
use Rattle.std.proofs.lemmas.Option.{same_Some}
use Rattle.tm_base.specs.declared.shift_operator.ShiftOperator.{ShiftOperator}
use Rattle.tm_base.specs.declared.shift_operator.ShiftOperator.TheVariants as shifts
use Rattle.tm_syntax.specs.declared.tree.UnaryOperator.{UnaryOperator}
use Rattle.tm_syntax.specs.declared.tree.UnaryOperator.TheVariants as unary
use Rattle.tm_syntax.specs.declared.tree.BinaryOperator.{BinaryOperator}
use Rattle.tm_syntax.specs.declared.tree.BinaryOperator.TheVariants as binary
use Rattle.tm_syntax.specs.Design.Atoms.{Resolved, a_truth, a_number, a_constant, a_variable, a_unary, a_binary, a_shift, a_choice, a_cast, an_element, same_atom}
use Rattle.tm_atoms.specs.Inner.Nodes.{binary_of, shift_of, unary_of}
use Rattle.tm_atoms.specs.Inner.Numbers.{IsGrown, IsNode, IsNumber, IsNumbered, IsSound, HasNumber, NumberTables, numbered, truth_node, number_node, constant_node, variable_node, step_node, unary_node, binary_node, shift_node, choice_node, cast_node, element_node}
use Rattle.tm_atoms.specs.declared.node.Node.{Node}
use Rattle.tm_atoms.specs.declared.node.Node.TheVariants as node
use Rattle.tm_atoms.specs.declared.node.Operator.{Operator}
use Rattle.tm_atoms.specs.declared.node.Operator.TheVariants as operator
use Rattle.tm_atoms.specs.declared.resolved.Numbered.{Numbered}
use Rattle.tm_atoms.proofs.SameAtoms.{atom-is, atom-itself, number-itself}

-- the operators of the text that operators of nodes stand for
abbrev unary_from : Operator → UnaryOperator
unary_from operator.Not = unary.Not
unary_from _ = unary.Complement

abbrev binary_from : Operator → BinaryOperator
binary_from operator.NotEqual = binary.NotEqual
binary_from operator.Less = binary.Less
binary_from operator.LessEqual = binary.LessEqual
binary_from operator.Greater = binary.Greater
binary_from operator.GreaterEqual = binary.GreaterEqual
binary_from operator.Add = binary.Add
binary_from operator.Subtract = binary.Subtract
binary_from operator.And = binary.And
binary_from operator.AndAlso = binary.AndAlso
binary_from operator.Or = binary.Or
binary_from operator.OrElse = binary.OrElse
binary_from operator.Xor = binary.Xor
binary_from _ = binary.Equal

abbrev shift_from : Operator → ShiftOperator
shift_from operator.ShiftRight = shifts.Right
shift_from _ = shifts.Left

unary-back : (o : UnaryOperator) → unary_from (unary_of o) ≡ o
unary-back unary.Complement = refl
unary-back unary.Not = refl

binary-back : (o : BinaryOperator) → binary_from (binary_of o) ≡ o
binary-back binary.Equal = refl
binary-back binary.NotEqual = refl
binary-back binary.Less = refl
binary-back binary.LessEqual = refl
binary-back binary.Greater = refl
binary-back binary.GreaterEqual = refl
binary-back binary.Add = refl
binary-back binary.Subtract = refl
binary-back binary.And = refl
binary-back binary.AndAlso = refl
binary-back binary.Or = refl
binary-back binary.OrElse = refl
binary-back binary.Xor = refl

shift-back : (o : ShiftOperator) → shift_from (shift_of o) ≡ o
shift-back shifts.Left = refl
shift-back shifts.Right = refl

module _ (t : NumberTables) where
  mutual
    -- one number stands for one expression
    pub same-resolved : {j k : ℕ} {r s : Resolved} → IsNumber t j r → IsNumber t k s → j ≡ k → r ≡ s
    same-resolved (numbered {k = j} {n = n} at a) (numbered {k = k} {n = m} there b) e =
        same-meaning a b (same_Some n m (sym at ∙ ap (slice_get t.nodes) e ∙ there))

    same-meaning : {n m : Node} {r s : Resolved} → IsNode t n r → IsNode t m s → n ≡ m → r ≡ s
    same-meaning (truth_node a) (truth_node b) e = ap a_truth cc
    same-meaning (number_node a) (number_node b) e = ap a_number cc
    same-meaning (constant_node {k = j} {name = x} at) (constant_node {k = k} {name = y} there) e =
        let same : j ≡ k = cc in ap a_constant (same_Some x y (sym at ∙ ap (slice_get t.names) same ∙ there))
    same-meaning (variable_node a) (variable_node b) e = ap a_variable cc
    same-meaning step_node step_node e = refl
    same-meaning (unary_node o {a = a} m) (unary_node p {a = b} n) e =
        let number : a ≡ b = cc in
        let sign : unary_of o ≡ unary_of p = cc in
        let rest = same-resolved m n number in
        λ i. a_unary ((sym (unary-back o) ∙ ap unary_from sign ∙ unary-back p) i) (rest i)
    same-meaning (binary_node o {a = a} {b = b} l r) (binary_node p {a = x} {b = y} m n) e =
        let left : a ≡ x = cc in
        let right : b ≡ y = cc in
        let sign : binary_of o ≡ binary_of p = cc in
        let first = same-resolved l m left in
        let second = same-resolved r n right in
        λ i. a_binary ((sym (binary-back o) ∙ ap binary_from sign ∙ binary-back p) i) (first i) (second i)
    same-meaning (shift_node o {a = a} k m) (shift_node p {a = b} l n) e =
        let number : a ≡ b = cc in
        let by : k ≡ l = cc in
        let sign : shift_of o ≡ shift_of p = cc in
        let rest = same-resolved m n number in
        λ i. a_shift ((sym (shift-back o) ∙ ap shift_from sign ∙ shift-back p) i) (rest i) (by i)
    same-meaning (choice_node {e = c} {a = a} {b = b} l m r) (choice_node {e = d} {a = x} {b = y} u v w) e =
        let test : c ≡ d = cc in
        let left : a ≡ x = cc in
        let right : b ≡ y = cc in
        let first = same-resolved l u test in
        let second = same-resolved m v left in
        let third = same-resolved r w right in
        λ i. a_choice (first i) (second i) (third i)
    same-meaning (cast_node k {a = a} m) (cast_node l {a = b} n) e =
        let number : a ≡ b = cc in
        let to : k ≡ l = cc in
        let rest = same-resolved m n number in
        λ i. a_cast (to i) (rest i)
    same-meaning (element_node k {a = a} m) (element_node l {a = b} n) e =
        let number : a ≡ b = cc in
        let first : k ≡ l = cc in
        let rest = same-resolved m n number in
        λ i. an_element (first i) (rest i)
    same-meaning _ _ e = absurd cc

  module _ (sound : IsSound t) where
    mutual
      -- one expression has one number
      pub same-number : {j k : ℕ} {r s : Resolved} → IsNumber t j r → IsNumber t k s → r ≡ s → j ≡ k
      same-number (numbered {k = j} {n = n} at a) (numbered {k = k} {n = m} there b) e =
          sound.nodes j k m (at ∙ ap (λ n. Some n) (same-node a b e)) there

      same-node : {n m : Node} {r s : Resolved} → IsNode t n r → IsNode t m s → r ≡ s → n ≡ m
      same-node (truth_node a) (truth_node b) e = ap node.Truth cc
      same-node (number_node a) (number_node b) e = ap node.Number cc
      same-node (constant_node {k = j} {name = x} at) (constant_node {k = k} {name = y} there) e =
          let name : x ≡ y = cc in ap node.Constant (sound.names j k y (at ∙ ap (λ n. Some n) name) there)
      same-node (variable_node a) (variable_node b) e = ap node.Variable cc
      same-node step_node step_node e = refl
      same-node (unary_node o {x = x} m) (unary_node p {x = y} n) e =
          let part : x ≡ y = cc in
          let sign : o ≡ p = cc in
          let number = same-number m n part in
          λ i. node.Unary (unary_of (sign i)) (number i)
      same-node (binary_node o {x = x} {y = y} l r) (binary_node p {x = z} {y = w} m n) e =
          let left : x ≡ z = cc in
          let right : y ≡ w = cc in
          let sign : o ≡ p = cc in
          let first = same-number l m left in
          let second = same-number r n right in
          λ i. node.Binary (binary_of (sign i)) (first i) (second i)
      same-node (shift_node o {x = x} k m) (shift_node p {x = y} l n) e =
          let part : x ≡ y = cc in
          let by : k ≡ l = cc in
          let sign : o ≡ p = cc in
          let number = same-number m n part in
          λ i. node.Shift (shift_of (sign i)) (number i) (by i)
      same-node (choice_node {x = x} {y = y} {z = z} l m r) (choice_node {x = a} {y = b} {z = c} u v w) e =
          let test : x ≡ a = cc in
          let left : y ≡ b = cc in
          let right : z ≡ c = cc in
          let first = same-number l u test in
          let second = same-number m v left in
          let third = same-number r w right in
          λ i. node.Conditional (first i) (second i) (third i)
      same-node (cast_node k {x = x} m) (cast_node l {x = y} n) e =
          let part : x ≡ y = cc in
          let to : k ≡ l = cc in
          let number = same-number m n part in
          λ i. node.Cast (to i) (number i)
      same-node (element_node k {x = x} m) (element_node l {x = y} n) e =
          let part : x ≡ y = cc in
          let first : k ≡ l = cc in
          let number = same-number m n part in
          λ i. node.Element (first i) (number i)
      same-node _ _ e = absurd cc

    -- two expressions are one exactly where their numbers are
    pub atoms-by_number : {j k : ℕ} {r s : Resolved} → IsNumber t j r → IsNumber t k s → same_atom r s ≡ nat_eq j k
    atoms-by_number {j} {k} {r} {s} at there = by (nat_eq j k) refl (same_atom r s) refl
      where
        by : (b : Bool) → nat_eq j k ≡ b → (c : Bool) → same_atom r s ≡ c → c ≡ b
        by true number true is = refl
        by false number false is = refl
        by true number false is =
            absurd (true≢false (sym (atom-itself r)
            ∙ ap (λ s. same_atom r s) (same-resolved at there (eqb-true j k number)) ∙ is))
        by false number true is =
            absurd (true≢false (sym (number-itself j)
            ∙ ap (λ k. nat_eq j k) (same-number at there (atom-is r s is)) ∙ number))

module _ (t u : NumberTables) (grown : IsGrown t u) where
  mutual
    -- each number stands for what it stood for
    pub number-grown : {k : ℕ} {r : Resolved} → IsNumber t k r → IsNumber u k r
    number-grown (numbered {k = k} {n = n} at a) = numbered (grown.nodes k n at) (node-grown a)

    pub node-grown : {n : Node} {r : Resolved} → IsNode t n r → IsNode u n r
    node-grown (truth_node b) = truth_node b
    node-grown (number_node n) = number_node n
    node-grown (constant_node {k = k} {name = name} at) = constant_node (grown.names k name at)
    node-grown (variable_node k) = variable_node k
    node-grown step_node = step_node
    node-grown (unary_node o m) = unary_node o (number-grown m)
    node-grown (binary_node o l r) = binary_node o (number-grown l) (number-grown r)
    node-grown (shift_node o n m) = shift_node o n (number-grown m)
    node-grown (choice_node l m r) = choice_node (number-grown l) (number-grown m) (number-grown r)
    node-grown (cast_node n m) = cast_node n (number-grown m)
    node-grown (element_node k m) = element_node k (number-grown m)

  pub numbered-grown : (n : Numbered) (r : Resolved) → IsNumbered t n r → IsNumbered u n r
  numbered-grown n r is = record { number = number-grown is.number; lasting = is.lasting }

pub grown-then : (t u v : NumberTables) → IsGrown t u → IsGrown u v → IsGrown t v
grown-then t u v first second = record {
  names = λ k x at. second.names k x (first.names k x at);
  nodes = λ k x at. second.nodes k x (first.nodes k x at);
}

-- what was noted after a table grew
pub has-then : (t u v : NumberTables) (n : Numbered) (r : Resolved) → IsGrown t u → HasNumber u v n r →
    HasNumber t v n r
has-then t u v n r first has = record { grown = grown-then t u v first has.grown; sound = has.sound; is = has.is }
