-- The layout of printed C: each label on a line of its own, statements on lines that begin with a tab, and within a
-- line one space around the operators of two and three operands, behind `if`, `else`, `goto` and each comma, and before
-- `goto` and `else`.
use Rattle.std.specs.Prelude.{ℕ, ◌+◌, List, [], ◌∷◌, ◌++◌, codes, slice_get}
use Rattle.std.specs.Fmt.{decimal}
use Rattle.std.specs.Option.{option_map_or}
use Rattle.std.specs.List.{flat_map}
use Rattle.tm_syntax.specs.declared.design.Var.{Var}
use Rattle.tm_syntax.specs.declared.design.Item.{Item}
use Rattle.tm_syntax.specs.Design.{DesignTree}
use Rattle.tm_cir.specs.Tree.{NumTree, constant, var, location, goal, last, complement, binary, shift, conditional, TruthTree, num, negation, compare, join, BlockTree, test, call, leave, idle}
use Rattle.tm_cir.specs.Text.Token.{arithmetic, shifting, comparing, joining}
use Rattle.tm_cir.specs.Text.Spelling.{sign_text, item_name}

-- the name of a variable, of the location of a process, and of a controllable task (118 is `v`, 112 is `p`, 116 is `t`)
abbrev pub variable_name : DesignTree → ℕ → List ℕ
variable_name d k = option_map_or (λ (v : Var). item_name 118 k v.path) (slice_get d.vars k) []

-- the name of the location of a process (112 is `p`)
abbrev pub location_name : DesignTree → ℕ → List ℕ
location_name d k = option_map_or (λ (p : Item). item_name 112 k p.path) (slice_get d.processes k) []

-- the name of a controllable task (116 is `t`)
abbrev pub task_name : DesignTree → ℕ → List ℕ
task_name d k = option_map_or (λ (t : Item). item_name 116 k t.path) (slice_get d.tasks k) []

-- a constant
abbrev pub constant_text : ℕ → List ℕ
constant_text n = decimal n ++ codes "ULL"

-- two operands with a sign between them
abbrev pub between : List ℕ → List ℕ → List ℕ → List ℕ
between a s b = codes "(" ++ a ++ codes " " ++ s ++ codes " " ++ b ++ codes ")"

abbrev mutual
  -- a number
  pub num_text : DesignTree → NumTree → List ℕ
  num_text d (constant n) = constant_text n
  num_text d (var k) = variable_name d k
  num_text d (location p) = location_name d p
  num_text d goal = codes "termite_goal"
  num_text d last = codes "termite_last"
  num_text d (complement a) = codes "(~" ++ num_text d a ++ codes ")"
  num_text d (binary op a b) = between (num_text d a) (sign_text (arithmetic op)) (num_text d b)
  num_text d (shift op a by) = between (num_text d a) (sign_text (shifting op)) (constant_text by)
  num_text d (conditional t a b) =
      codes "(" ++ truth_text d t ++ codes " ? " ++ num_text d a ++ codes " : " ++ num_text d b ++ codes ")"

  -- a truth value
  pub truth_text : DesignTree → TruthTree → List ℕ
  truth_text d (num n) = num_text d n
  truth_text d (negation t) = codes "(!" ++ truth_text d t ++ codes ")"
  truth_text d (compare op a b) = between (num_text d a) (sign_text (comparing op)) (num_text d b)
  truth_text d (join op t u) = between (truth_text d t) (sign_text (joining op)) (truth_text d u)

-- the arguments of a call
abbrev pub arguments_text : DesignTree → List NumTree → List ℕ
arguments_text d [] = []
arguments_text d (a ∷ others) = num_text d a ++ flat_map (λ b. codes ", " ++ num_text d b) others

-- a jump to a block
abbrev pub goto_text : ℕ → List ℕ
goto_text k = codes "goto L" ++ decimal k ++ codes ";"

-- what a block does
abbrev pub statement_text : DesignTree → BlockTree → List ℕ
statement_text d (test t first second) =
    codes "\tif (" ++ truth_text d t ++ codes ") " ++ goto_text first ++ codes " else " ++ goto_text second
    ++ codes "\n"
statement_text d (call k args) =
    codes "\t" ++ task_name d k ++ codes "(" ++ arguments_text d args ++ codes ");\n\treturn;\n"
statement_text d (leave p) = codes "\ttermite_leave(" ++ constant_text p ++ codes ");\n\treturn;\n"
statement_text d idle = codes "\treturn;\n"

-- blocks, of which the first has this label
abbrev pub blocks_text : DesignTree → ℕ → List BlockTree → List ℕ
blocks_text d k [] = []
blocks_text d k (b ∷ bs) =
    codes "L" ++ decimal k ++ codes ":\n" ++ statement_text d b ++ blocks_text d (k + 1) bs

-- the whole text
abbrev pub driver_text : DesignTree → List BlockTree → List ℕ
driver_text d bs =
    codes "#include \"termite.h\"\n\nvoid driver_turn(void)\n{\n" ++ blocks_text d 0 bs ++ codes "}\n"
