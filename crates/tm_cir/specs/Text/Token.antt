-- The tokens of the C text. A name of the design is told by its number.
use Rattle.std.specs.Prelude.{ℕ}
use Rattle.tm_cir.specs.declared.block.NumOperator.{NumOperator}
use Rattle.tm_base.specs.declared.shift_operator.ShiftOperator.{ShiftOperator}
use Rattle.tm_cir.specs.declared.block.Comparison.{Comparison}
use Rattle.tm_cir.specs.declared.block.Junction.{Junction}

-- a word that has one meaning
pub data Word : Type 0 where
  void : Word
  driver_turn : Word
  if_word : Word
  else_word : Word
  goto : Word
  return_word : Word
  termite_leave : Word
  termite_goal : Word
  termite_last : Word

-- a sign; an operator's sign is told by its operator
pub data Sign : Type 0 where
  open_parenthesis : Sign
  close_parenthesis : Sign
  open_brace : Sign
  close_brace : Sign
  colon : Sign
  semicolon : Sign
  comma : Sign
  question : Sign
  tilde : Sign
  bang : Sign
  arithmetic : NumOperator → Sign
  shifting : ShiftOperator → Sign
  comparing : Comparison → Sign
  joining : Junction → Sign

-- a token: a word, the label of a block, a variable, the location of a process, a controllable task, a constant or a
-- sign
pub data Token : Type 0 where
  word : Word → Token
  label : ℕ → Token
  variable : ℕ → Token
  location : ℕ → Token
  task : ℕ → Token
  constant : ℕ → Token
  sign : Sign → Token
