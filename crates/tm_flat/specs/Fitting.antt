-- What is asked of a text so that every list of choices can be written in bits: so many bits are enough on each path,
-- calls nest no deeper than there are tasks, no body of a loop falls through, and each choice has bits enough. And the
-- same of arguments.
use Rattle.std.specs.Prelude.{◌≡◌, ℕ, zero, suc, ◌+◌, ◌^◌, ◌≤◌, Option, None, Some, List, [], ◌∷◌, length, MatchOption}
use Rattle.tm_syntax.specs.declared.tree.Ident.{Ident}
use Rattle.tm_syntax.specs.Tree.{ValueTree, star, result, plain, StmtTree, assign, invoke, branch, repeat, forever, choose, assert, assume, pause, wait, magic, StmtRow, nothing, then, row_of, BlockRow, nowhere, or_else, blocks_of}
use Rattle.tm_syntax.specs.Scopes.Pauses.{call_depth}
use Rattle.tm_syntax.specs.Design.{DesignTree}
use Rattle.tm_syntax.specs.Design.Scope.{Scope}
use Rattle.tm_syntax.specs.Design.Cells.{Cell, Called, called, cell}
use Rattle.tm_syntax.specs.Design.Sizes.{type_size, type_bits}
use Rattle.tm_syntax.specs.Design.Work.{WorkItem, perform, deliver}
use Rattle.tm_syntax.specs.Scopes.Parts.{body_stmts}
use Rattle.tm_sem.specs.Run.{asked_by}
use Rattle.tm_flat.specs.Positions.{target_bits, choice_bits, stmt_after, row_after, body_after, item_after}

-- the bits of a target are enough for each value of its cell
abbrev pub TargetFits : DesignTree → Scope → List Ident → Type 0
TargetFits d scope names =
    (index : Option ℕ) → type_size d.spec (asked_by d (cell d scope names index)) ≤ 2 ^ target_bits d scope names

-- the bits of a choice are enough for the number of each alternative
abbrev pub ChoiceFits : BlockRow → Type 0
ChoiceFits blocks = length (blocks_of blocks) ≤ 2 ^ choice_bits blocks

-- a call, given which bodies fit
abbrev pub CallFits : (Called → ℕ → Type 0) → DesignTree → Scope → List Ident → ℕ → Type 0
CallFits Fits d scope names k = MatchOption (called d scope names) (Unit {0}) (λ callee. Fits callee k)

-- what is assigned
abbrev pub ValueFits : (Called → ℕ → Type 0) → DesignTree → Scope → List Ident → ValueTree → ℕ → Type 0
ValueFits Fits d scope target (star _) k = TargetFits d scope target
ValueFits Fits d scope target (result names _) k = CallFits Fits d scope names k
ValueFits Fits d scope target (plain _) k = Unit {0}

-- a statement that begins at a position, given which bodies fit and what the positions behind them are
abbrev mutual
  pub StmtFits : ℕ → (Called → ℕ → Option ℕ) → (Called → ℕ → Type 0) → DesignTree → Scope → StmtTree → ℕ → Type 0
  StmtFits room after Fits d scope (assign target _ v) k = ValueFits Fits d scope target v k
  StmtFits room after Fits d scope (invoke names _) k = CallFits Fits d scope names k
  StmtFits room after Fits d scope (branch _ first second) k =
      RowFits room after Fits d scope first k × RowFits room after Fits d scope second k
  StmtFits room after Fits d scope (repeat _ _ body) k =
      (row_after after d scope body k ≡ None) × RowFits room after Fits d scope body k
  StmtFits room after Fits d scope (forever _ body) k =
      (row_after after d scope body k ≡ None) × RowFits room after Fits d scope body k
  StmtFits room after Fits d scope (choose _ blocks) k =
      ChoiceFits blocks × (k + choice_bits blocks ≤ room)
      × BlocksFit room after Fits d scope blocks (k + choice_bits blocks)
  StmtFits room after Fits d scope (assert _ _) k = Unit {0}
  StmtFits room after Fits d scope (assume _ _) k = Unit {0}
  StmtFits room after Fits d scope (pause _) k = Unit {0}
  StmtFits room after Fits d scope (wait _ _) k = Unit {0}
  StmtFits room after Fits d scope (magic _) k = Unit {0}

  -- statements in a row: each position between them is within the room
  pub RowFits : ℕ → (Called → ℕ → Option ℕ) → (Called → ℕ → Type 0) → DesignTree → Scope → StmtRow → ℕ → Type 0
  RowFits room after Fits d scope nothing k = k ≤ room
  RowFits room after Fits d scope (then first others) k =
      (k ≤ room) × StmtFits room after Fits d scope first k
      × MatchOption (stmt_after after d scope first k) (Unit {0}) (λ i. RowFits room after Fits d scope others i)

  -- alternatives that all begin at one position
  pub BlocksFit : ℕ → (Called → ℕ → Option ℕ) → (Called → ℕ → Type 0) → DesignTree → Scope → BlockRow → ℕ → Type 0
  BlocksFit room after Fits d scope nowhere k = Unit {0}
  BlocksFit room after Fits d scope (or_else first others) k =
      RowFits room after Fits d scope first k × BlocksFit room after Fits d scope others k

-- a body, where calls nest at most so deep
abbrev pub BodyFits : ℕ → ℕ → DesignTree → Called → ℕ → Type 0
BodyFits room zero d callee k = ⊥
BodyFits room (suc depth) d callee k =
    RowFits room (body_after depth d) (BodyFits room depth d) d callee.scope (row_of (body_stmts callee.body)) k

-- a work item
abbrev pub ItemFits : ℕ → DesignTree → WorkItem → ℕ → Type 0
ItemFits room d (perform scope _ s) k =
    StmtFits room (body_after (call_depth d.spec) d) (BodyFits room (call_depth d.spec) d) d scope s k
ItemFits room d (deliver _ _ _) k = Unit {0}

-- work items that are worked off from a position on
abbrev pub ItemsFit : ℕ → DesignTree → List WorkItem → ℕ → Type 0
ItemsFit room d [] k = k ≤ room
ItemsFit room d (first ∷ others) k =
    (k ≤ room) × ItemFits room d first k × MatchOption (item_after d first k) (Unit {0}) (λ i. ItemsFit room d others i)

-- parameters whose arguments stand in bits from a position on
abbrev pub ArgumentsFit : ℕ → DesignTree → List Cell → ℕ → Type 0
ArgumentsFit room d [] k = k ≤ room
ArgumentsFit room d (c ∷ cs) k =
    (type_size d.spec (asked_by d (Some c)) ≤ 2 ^ type_bits d.spec (asked_by d (Some c)))
    × ArgumentsFit room d cs (k + type_bits d.spec (asked_by d (Some c)))
