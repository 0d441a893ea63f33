-- At which position of the choice bits a run goes on behind a statement, by the text alone. Behind an `if` or a
-- `choice` it is the greatest of the positions behind its branches, of those that fall through.
use Rattle.std.specs.Prelude.{ℕ, zero, suc, ◌+◌, ◌-◌, Option, None, Some, length, max, unwrap_or, List}
use Rattle.std.specs.Option.{option_and_then}
use Rattle.tm_syntax.specs.declared.tree.Ident.{Ident}
use Rattle.tm_syntax.specs.declared.design.Ty.{Ty}
use Rattle.tm_syntax.specs.declared.design.Ty.TheVariants as types
use Rattle.tm_syntax.specs.Tree.{path, ValueTree, star, result, plain, StmtTree, assign, invoke, branch, repeat, forever, choose, assert, assume, pause, wait, magic, StmtRow, nothing, then, row_of, BlockRow, nowhere, or_else, blocks_of}
use Rattle.tm_syntax.specs.Scopes.Pauses.{call_depth}
use Rattle.tm_syntax.specs.Design.{DesignTree}
use Rattle.tm_syntax.specs.Design.Scope.{Scope, type_in}
use Rattle.tm_syntax.specs.Design.Cells.{Called, called}
use Rattle.tm_syntax.specs.Design.Sizes.{bits_of_number, type_bits}
use Rattle.tm_syntax.specs.Design.Work.{WorkItem, perform, deliver}
use Rattle.tm_syntax.specs.Scopes.Parts.{body_stmts}

-- the type of a target, or of the elements of its array
abbrev pub target_type : DesignTree → Scope → List Ident → Ty
target_type d scope names = unwrap_or (type_in d scope (path names)) types.Bool

-- the bits in which any value of a target is written
abbrev pub target_bits : DesignTree → Scope → List Ident → ℕ
target_bits d scope names = type_bits d.spec (target_type d scope names)

-- the bits in which the number of an alternative is written: as many as the greatest needs, at least one
abbrev pub choice_bits : BlockRow → ℕ
choice_bits blocks = bits_of_number (length (blocks_of blocks) - 1)

-- the greater of two positions, of those that are there
abbrev pub later : Option ℕ → Option ℕ → Option ℕ
later None other = other
later (Some i) None = Some i
later (Some i) (Some j) = Some (max i j)

-- the position behind a call, given those behind bodies
abbrev pub call_after : (Called → ℕ → Option ℕ) → DesignTree → Scope → List Ident → ℕ → Option ℕ
call_after body d scope names k = option_and_then (λ callee. body callee k) (called d scope names)

-- the position behind what is assigned to a target
abbrev pub value_after : (Called → ℕ → Option ℕ) → DesignTree → Scope → List Ident → ValueTree → ℕ → Option ℕ
value_after body d scope target (star _) k = Some (k + target_bits d scope target)
value_after body d scope target (result names _) k = call_after body d scope names k
value_after body d scope target (plain _) k = Some k

-- the position behind a statement that begins at a position, or none where it never falls through
abbrev mutual
  pub stmt_after : (Called → ℕ → Option ℕ) → DesignTree → Scope → StmtTree → ℕ → Option ℕ
  stmt_after body d scope (assign target _ v) k = value_after body d scope target v k
  stmt_after body d scope (invoke names _) k = call_after body d scope names k
  stmt_after body d scope (branch _ first second) k =
      later (row_after body d scope first k) (row_after body d scope second k)
  stmt_after body d scope (repeat _ _ _) k = Some k
  stmt_after body d scope (forever _ _) k = None
  stmt_after body d scope (choose _ blocks) k = blocks_after body d scope blocks (k + choice_bits blocks)
  stmt_after body d scope (assert _ _) k = Some k
  stmt_after body d scope (assume _ _) k = Some k
  stmt_after body d scope (pause _) k = None
  stmt_after body d scope (wait _ _) k = None
  stmt_after body d scope (magic _) k = None

  -- the position behind statements in a row
  pub row_after : (Called → ℕ → Option ℕ) → DesignTree → Scope → StmtRow → ℕ → Option ℕ
  row_after body d scope nothing k = Some k
  row_after body d scope (then first others) k =
      option_and_then (λ i. row_after body d scope others i) (stmt_after body d scope first k)

  -- the position behind alternatives that all begin at one position
  pub blocks_after : (Called → ℕ → Option ℕ) → DesignTree → Scope → BlockRow → ℕ → Option ℕ
  blocks_after body d scope nowhere k = None
  blocks_after body d scope (or_else first others) k =
      later (row_after body d scope first k) (blocks_after body d scope others k)

-- the position behind a body, where calls nest at most so deep
abbrev pub body_after : ℕ → DesignTree → Called → ℕ → Option ℕ
body_after zero d callee k = None
body_after (suc depth) d callee k =
    row_after (body_after depth d) d callee.scope (row_of (body_stmts callee.body)) k

-- the position behind a work item
abbrev pub item_after : DesignTree → WorkItem → ℕ → Option ℕ
item_after d (perform scope _ s) k = stmt_after (body_after (call_depth d.spec) d) d scope s k
item_after d (deliver _ _ _) k = Some k
