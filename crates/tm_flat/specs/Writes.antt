-- Which state variables may be assigned between one location and the next, by the text alone: behind what never falls
-- through nothing is.
use Rattle.std.specs.Prelude.{ℕ, zero, suc, ◌+◌, Bool, false, ◌||◌, Option, None, Some, List, [], ◌∷◌, nat_eq, unwrap_or}
use Rattle.std.specs.Option.{option_map_or}
use Rattle.std.specs.List.{list_any, range_with_len}
use Rattle.tm_syntax.specs.declared.tree.Ident.{Ident}
use Rattle.tm_syntax.specs.Tree.{ExprTree, number, ValueTree, star, result, plain, StmtTree, assign, invoke, branch, repeat, forever, choose, assert, assume, pause, wait, magic, StmtRow, nothing, then, row_of, BlockRow, nowhere, or_else}
use Rattle.tm_syntax.specs.Scopes.Names.{number_of}
use Rattle.tm_syntax.specs.Scopes.Pauses.{call_depth}
use Rattle.tm_syntax.specs.Design.{DesignTree}
use Rattle.tm_syntax.specs.Design.Scope.{Scope, length_in}
use Rattle.tm_syntax.specs.Design.Cells.{Cell, in_state, in_step, cell, Called, called}
use Rattle.tm_syntax.specs.Design.Work.{WorkItem, perform, deliver}
use Rattle.tm_syntax.specs.Scopes.Parts.{body_stmts}
use Rattle.tm_flat.specs.Positions.{choice_bits, stmt_after, body_after, item_after}

-- whether a cell is the state variable of this number
abbrev pub is_variable : ℕ → Cell → Bool
is_variable v (in_state k) = nat_eq v k
is_variable v (in_step _ _ _) = false

-- whether a target may be the variable: it is the element of a number, or may be any element of its array
abbrev pub target_writes : DesignTree → Scope → ℕ → List Ident → Option ExprTree → Bool
target_writes d scope v names None = option_map_or (is_variable v) (cell d scope names None) false
target_writes d scope v names (Some (number n)) =
    option_map_or (is_variable v) (cell d scope names (Some (number_of n))) false
target_writes d scope v names (Some _) =
    list_any (λ i. option_map_or (is_variable v) (cell d scope names (Some i)) false)
    (range_with_len 0 (unwrap_or (length_in d scope names) 0))

-- whether a call may assign the variable: as a parameter, or in the body
abbrev pub call_writes : (Called → ℕ → Bool) → DesignTree → Scope → ℕ → List Ident → ℕ → Bool
call_writes body d scope v names k =
    option_map_or (λ callee. list_any (is_variable v) callee.params || body callee k) (called d scope names) false

-- whether the call in what is assigned may assign the variable
abbrev pub value_writes : (Called → ℕ → Bool) → DesignTree → Scope → ℕ → ValueTree → ℕ → Bool
value_writes body d scope v (star _) k = false
value_writes body d scope v (result names _) k = call_writes body d scope v names k
value_writes body d scope v (plain _) k = false

-- whether a statement that begins at a position may assign the variable, given the positions behind bodies and which
-- bodies may
abbrev mutual
  pub stmt_writes : (Called → ℕ → Option ℕ) → (Called → ℕ → Bool) → DesignTree → Scope → ℕ → StmtTree → ℕ → Bool
  stmt_writes after body d scope v (assign names index value) k =
      target_writes d scope v names index || value_writes body d scope v value k
  stmt_writes after body d scope v (invoke names _) k = call_writes body d scope v names k
  stmt_writes after body d scope v (branch _ first second) k =
      row_writes after body d scope v first k || row_writes after body d scope v second k
  stmt_writes after body d scope v (repeat _ _ inner) k = row_writes after body d scope v inner k
  stmt_writes after body d scope v (forever _ inner) k = row_writes after body d scope v inner k
  stmt_writes after body d scope v (choose _ blocks) k =
      blocks_write after body d scope v blocks (k + choice_bits blocks)
  stmt_writes after body d scope v (assert _ _) k = false
  stmt_writes after body d scope v (assume _ _) k = false
  stmt_writes after body d scope v (pause _) k = false
  stmt_writes after body d scope v (wait _ _) k = false
  stmt_writes after body d scope v (magic _) k = false

  pub row_writes : (Called → ℕ → Option ℕ) → (Called → ℕ → Bool) → DesignTree → Scope → ℕ → StmtRow → ℕ → Bool
  row_writes after body d scope v nothing k = false
  row_writes after body d scope v (then first others) k =
      stmt_writes after body d scope v first k
      || option_map_or (λ i. row_writes after body d scope v others i) (stmt_after after d scope first k) false

  pub blocks_write : (Called → ℕ → Option ℕ) → (Called → ℕ → Bool) → DesignTree → Scope → ℕ → BlockRow → ℕ → Bool
  blocks_write after body d scope v nowhere k = false
  blocks_write after body d scope v (or_else first others) k =
      row_writes after body d scope v first k || blocks_write after body d scope v others k

-- whether a body may assign the variable, where calls nest at most so deep
abbrev pub body_writes : ℕ → DesignTree → ℕ → Called → ℕ → Bool
body_writes zero d v callee k = false
body_writes (suc depth) d v callee k =
    row_writes (body_after depth d) (body_writes depth d v) d callee.scope v (row_of (body_stmts callee.body)) k

-- whether a work item may assign the variable
abbrev pub item_writes : DesignTree → ℕ → WorkItem → ℕ → Bool
item_writes d v (perform scope _ s) k =
    stmt_writes (body_after (call_depth d.spec) d) (body_writes (call_depth d.spec) d v) d scope v s k
item_writes d v (deliver target _ _) k = option_map_or (is_variable v) target false

-- whether work items that are worked off from a position on may assign the variable
abbrev pub items_write : DesignTree → ℕ → List WorkItem → ℕ → Bool
items_write d v [] k = false
items_write d v (first ∷ others) k =
    item_writes d v first k || option_map_or (λ i. items_write d v others i) (item_after d first k) false
