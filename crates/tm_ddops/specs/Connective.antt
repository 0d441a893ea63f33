-- The binary operations.
use Rattle.std.specs.Prelude.{◌≢◌, Bool, ◌&&◌, ◌||◌, not, nat_le, if◌then◌else◌}
use Rattle.tm_dd.specs.declared.node.NodeId.{NodeId}
use Rattle.tm_dd.specs.declared.node.TheConstants.{FALSE, TRUE}
use Rattle.tm_dd.specs.NodeId.{number_of, IsConstant, complement}
use Rattle.tm_ddops.specs.declared.choice.Choice.{Choice}
use Rattle.tm_ddops.specs.declared.connective.Connective.{Connective}
use Rattle.tm_ddops.specs.declared.connective.Connective.TheVariants.{And, Or, Xor}
use Rattle.tm_ddops.specs.declared.operation.Operation.{Operation}
use Rattle.tm_ddops.specs.declared.operation.Operation.TheVariants as operation

-- either, but not both
abbrev pub xor : Bool → Bool → Bool
xor a b = if a then not b else b

-- the value of a binary operation
abbrev pub connective_value : Connective → Bool → Bool → Bool
connective_value And a b = a && b
connective_value Or a b = a || b
connective_value Xor a b = xor a b

-- the smaller of two ids
abbrev pub smaller : NodeId → NodeId → NodeId
smaller f g = if nat_le (number_of f) (number_of g) then f else g

-- the larger of two ids
abbrev pub larger : NodeId → NodeId → NodeId
larger f g = if nat_le (number_of f) (number_of g) then g else f

-- the operation with its operands in the order in which it is remembered
abbrev pub connective_operation : Connective → NodeId → NodeId → Operation
connective_operation And f g = operation.And (smaller f g) (larger f g)
connective_operation Or f g = operation.Or (smaller f g) (larger f g)
connective_operation Xor f g = operation.Xor (smaller f g) (larger f g)

-- the operation as a choice
abbrev pub connective_choice : Connective → NodeId → NodeId → Choice
connective_choice And f g = record { test = f; if_true = g; if_false = FALSE }
connective_choice Or f g = record { test = f; if_true = TRUE; if_false = g }
connective_choice Xor f g = record { test = f; if_true = complement g; if_false = g }

-- two ids are those of different inner nodes
pub record AreTwoNodes (f g : NodeId) : Type 0 where
  pub f_inner : ¬ IsConstant f
  pub g_inner : ¬ IsConstant g
  pub differ : f ≢ g
