-- The numbers of resolved expressions: each number stands for a node, whose parts are numbers.
use Rattle.std.specs.Prelude.{◌≡◌, ℕ, Bool, Option, None, Some, List, slice_get}
use Rattle.tm_base.specs.declared.shift_operator.ShiftOperator.{ShiftOperator}
use Rattle.tm_syntax.specs.declared.tree.UnaryOperator.{UnaryOperator}
use Rattle.tm_syntax.specs.declared.tree.BinaryOperator.{BinaryOperator}
use Rattle.tm_syntax.specs.Tree.{ExprTree, number}
use Rattle.tm_syntax.specs.Scopes.Names.{number_of}
use Rattle.tm_syntax.specs.Design.Atoms.{Resolved, is_lasting, a_truth, a_number, a_constant, a_variable, of_step, a_unary, a_binary, a_shift, a_choice, a_cast, an_element}
use Rattle.tm_atoms.specs.Inner.Nodes.{binary_of, shift_of, unary_of}
use Rattle.tm_atoms.specs.declared.node.Node.{Node}
use Rattle.tm_atoms.specs.declared.node.Node.TheVariants as node
use Rattle.tm_atoms.specs.declared.resolved.Numbered.{Numbered}

-- the names of constants and the nodes, by their numbers
pub record NumberTables : Type 0 where
  pub names : List (List ℕ)
  pub nodes : List Node

-- nothing stands twice in a list
abbrev pub AreDistinct : {X : Type 0} → List X → Type 0
AreDistinct {X} xs = (j k : ℕ) (x : X) → slice_get xs j ≡ Some x → slice_get xs k ≡ Some x → j ≡ k

-- neither a name nor a node has two numbers
pub record IsSound (t : NumberTables) : Type 0 where
  pub names : AreDistinct t.names
  pub nodes : AreDistinct t.nodes

-- each item of a list keeps its index
abbrev pub Keeps : {X : Type 0} → List X → List X → Type 0
Keeps {X} old new = (k : ℕ) (x : X) → slice_get old k ≡ Some x → slice_get new k ≡ Some x

-- each number stands for what it stood for
pub record IsGrown (old new : NumberTables) : Type 0 where
  pub names : Keeps old.names new.names
  pub nodes : Keeps old.nodes new.nodes

mutual
  -- a number stands for a resolved expression
  pub data IsNumber (t : NumberTables) : ℕ → Resolved → Type 0 where
    numbered : {k : ℕ} {n : Node} {r : Resolved} → slice_get t.nodes k ≡ Some n → IsNode t n r → IsNumber t k r

  -- a node stands for a resolved expression
  pub data IsNode (t : NumberTables) : Node → Resolved → Type 0 where
    truth_node : (b : Bool) → IsNode t (node.Truth b) (a_truth b)
    number_node : (n : ℕ) → IsNode t (node.Number n) (a_number n)
    constant_node : {k : ℕ} {name : List ℕ} → slice_get t.names k ≡ Some name →
        IsNode t (node.Constant k) (a_constant name)
    variable_node : (k : ℕ) → IsNode t (node.Variable k) (a_variable k)
    step_node : IsNode t node.Step of_step
    unary_node : (o : UnaryOperator) {a : ℕ} {x : Resolved} → IsNumber t a x →
        IsNode t (node.Unary (unary_of o) a) (a_unary o x)
    binary_node : (o : BinaryOperator) {a b : ℕ} {x y : Resolved} → IsNumber t a x → IsNumber t b y →
        IsNode t (node.Binary (binary_of o) a b) (a_binary o x y)
    shift_node : (o : ShiftOperator) {a : ℕ} {x : Resolved} (n : ℕ) → IsNumber t a x →
        IsNode t (node.Shift (shift_of o) a n) (a_shift o x n)
    choice_node : {e a b : ℕ} {x y z : Resolved} → IsNumber t e x → IsNumber t a y → IsNumber t b z →
        IsNode t (node.Conditional e a b) (a_choice x y z)
    cast_node : (n : ℕ) {a : ℕ} {x : Resolved} → IsNumber t a x → IsNode t (node.Cast n a) (a_cast n x)
    element_node : (k : ℕ) {a : ℕ} {x : Resolved} → IsNumber t a x → IsNode t (node.Element k a) (an_element k x)

-- a resolved expression has this number, and nothing in it lives for one step exactly where this is said
pub record IsNumbered (t : NumberTables) (n : Numbered) (r : Resolved) : Type 0 where
  pub number : IsNumber t n.number r
  pub lasting : n.lasting ≡ is_lasting r

-- what the number of a resolved expression is after it was noted
pub record HasNumber (old new : NumberTables) (n : Numbered) (r : Resolved) : Type 0 where
  pub grown : IsGrown old new
  pub sound : IsSound new
  pub is : IsNumbered new n r

-- the value of an expression that is a number
abbrev pub literal : ExprTree → Option ℕ
literal (number n) = Some (number_of n)
literal _ = None
