-- Values, statements and bodies, from the left to the right: what stands behind what was read.
use Rattle.std.specs.Prelude.{◌≡◌, ℕ, ◌+◌, ◌⊎◌, Bool, true, false, Option, Some, None, List, [], ◌∷◌}
use Rattle.std.specs.declared.vec.Vec.{Vec}
use Rattle.std.specs.declared.alloc.Global.{Global}
use Rattle.tm_base.specs.declared.place.Place.{Place}
use Rattle.tm_syntax.specs.declared.token.Token.{Token}
use Rattle.tm_syntax.specs.declared.token.TokenKind.{TokenKind}
use Rattle.tm_syntax.specs.declared.token.TokenKind.TheVariants as token
use Rattle.tm_syntax.specs.declared.token.Word.{Word}
use Rattle.tm_syntax.specs.declared.token.Word.TheVariants as word
use Rattle.tm_syntax.specs.declared.token.Sign.TheVariants as sign
use Rattle.tm_syntax.specs.declared.tree.Ident.{Ident}
use Rattle.tm_syntax.specs.declared.tree.Stmt.{Stmt}
use Rattle.tm_syntax.specs.Tree.View.{stmt_trees}
use Rattle.tm_syntax.specs.Tree.{ExprTree, ValueTree, result, plain, StmtTree, assign, invoke, branch, repeat, forever, choose, assert, assume, pause, wait, magic, StmtRow, nothing, then, row_of, alternatives_of, LocalTree, BodyTree}
use Rattle.tm_syntax.specs.Grammar.Parts.{Has, IsMark, IsPath, AreEach, IsOptional, AreParted, AreArguments}
use Rattle.tm_syntax.specs.Grammar.Statements.{IsValue, IsCondition, IsBlock, AreStmts, IsLocal, IsReturn, IsBraced, IsAnswering}
use Rattle.tm_parse.specs.Reading.{Reach, IsBound, IsOpening, GoesOn}
use Rattle.tm_parse.specs.Operands.{AnExpr, GoesExpr, IsEnclosed, IsPlaceFrom, IsExprFrom}
use Rattle.tm_parse.specs.declared.statements.StmtSort.{StmtSort}
use Rattle.tm_parse.specs.declared.statements.StmtSort.TheVariants as sort
use Rattle.tm_parse.specs.declared.statements.FlatSort.TheVariants as flat

-- a token of this kind goes on with the form
abbrev pub GoesAt : TokenKind → Option TokenKind → Type 0
GoesAt k kind = kind ≡ Some k

-- expressions with commas between them
abbrev pub AreExprs : List ℕ → ℕ → Reach → List ExprTree → List Token → List Token → Type 0
AreExprs text depth reach es a b = AreParted sign.Comma (AnExpr text 0 depth reach) es a b

-- forms with commas between them, or none, in parentheses
abbrev pub InArguments : ℕ → {X : Type 0} → (Reach → X → List Token → List Token → Type 0) → Reach → List X →
    List Token → List Token → Type 0
InArguments depth {X} Is reach xs a b = AreArguments (IsBound reach) depth (Is reach) xs a b

-- arguments of a call, in their parentheses
abbrev pub AreArgs : List ℕ → ℕ → Reach → List ExprTree → List Token → List Token → Type 0
AreArgs text depth = InArguments depth (AnExpr text 0 (depth + 1))

-- what is assigned
abbrev pub AValue : List ℕ → ℕ → Reach → ValueTree → List Token → List Token → Type 0
AValue text depth reach v a b = IsValue text (IsBound reach) depth v a b

-- a token goes on with what is assigned
abbrev pub GoesValue : Option TokenKind → Type 0
GoesValue kind = GoesOn sign.OpenParenthesis (GoesExpr 0) kind

-- what stands behind a path that begins a value: arguments, or the rest of an expression
pub data IsValueFrom (text : List ℕ) (depth : ℕ) (names : List Ident) (reach : Reach) :
    ValueTree → List Token → List Token → Type 0 where
  from_call : {es : List ExprTree} {a b : List Token} → AreArgs text depth reach es a b →
      IsValueFrom text depth names reach (result names es) a b
  from_operand : {e f : ExprTree} {a b c : List Token} → IsPlaceFrom text names depth reach e a b →
      IsExprFrom text depth e reach f b c → IsValueFrom text depth names reach (plain f) a c

-- a condition in its parentheses
abbrev pub ACondition : List ℕ → ℕ → Reach → ExprTree → List Token → List Token → Type 0
ACondition text depth reach e a b = IsCondition text (IsBound reach) depth e a b

-- a word, a condition and a semicolon
pub data IsTest (text : List ℕ) (w : Word) (depth : ℕ) (reach : Reach) :
    Place × ExprTree → List Token → List Token → Type 0 where
  tests : {p : Place} {e : ExprTree} {a b c d : List Token} → IsMark (token.Word w) p a b →
      ACondition text depth reach e b c → Has (token.Sign sign.Semicolon) c d → IsTest text w depth reach (p, e) a d

-- a token and a semicolon
pub data IsShort (k : TokenKind) (reach : Reach) : Place → List Token → List Token → Type 0 where
  shortly : {p : Place} {a b c : List Token} → IsMark k p a b → Has (token.Sign sign.Semicolon) b c →
      IsShort k reach p a c

-- an index in its brackets, or nothing
abbrev pub AnIndex : List ℕ → ℕ → Reach → Option ExprTree → List Token → List Token → Type 0
AnIndex text depth reach index a b =
    IsOptional (IsEnclosed text sign.OpenBracket sign.CloseBracket depth reach) index a b

-- what stands behind a path that begins a statement: arguments, or an index, `=` and a value; and a semicolon
pub data IsStmtFrom (text : List ℕ) (depth : ℕ) (names : List Ident) (reach : Reach) :
    StmtTree → List Token → List Token → Type 0 where
  from_arguments : {es : List ExprTree} {a b c : List Token} → AreArgs text depth reach es a b →
      Has (token.Sign sign.Semicolon) b c → IsStmtFrom text depth names reach (invoke names es) a c
  from_place : {index : Option ExprTree} {v : ValueTree} {a b c d e : List Token} → AnIndex text depth reach index a b →
      Has (token.Sign sign.Assign) b c → AValue text depth reach v c d → Has (token.Sign sign.Semicolon) d e →
      IsStmtFrom text depth names reach (assign names index v) a e

-- statements in braces
abbrev pub ABlock : List ℕ → ℕ → Reach → List StmtTree → List Token → List Token → Type 0
ABlock text depth reach body a b = IsBlock text (IsBound reach) depth body a b

mutual
  -- what stands behind the word `if`
  pub data IsIfFrom (text : List ℕ) (reach : Reach) : ℕ → StmtTree → List Token → List Token → Type 0 where
    from_test : {depth : ℕ} {e : ExprTree} {body : List StmtTree} {other : StmtRow} {a b c d : List Token} →
        ACondition text depth reach e a b → ABlock text depth reach body b c →
        IsElse text reach depth other c d → IsIfFrom text reach depth (branch e (row_of body) other) a d

  -- nothing more, or `else` and what stands behind it
  pub data IsElse (text : List ℕ) (reach : Reach) : ℕ → StmtRow → List Token → List Token → Type 0 where
    else_none : {depth : ℕ} {a : List Token} → IsElse text reach depth nothing a a
    else_some : {depth : ℕ} {other : StmtRow} {a b c : List Token} → Has (token.Word word.Else) a b →
        IsElseFrom text reach depth other b c → IsElse text reach depth other a c

  -- a block, or an `if`, which opens a level
  pub data IsElseFrom (text : List ℕ) (reach : Reach) : ℕ → StmtRow → List Token → List Token → Type 0 where
    from_block : {depth : ℕ} {body : List StmtTree} {a b : List Token} → ABlock text depth reach body a b →
        IsElseFrom text reach depth (row_of body) a b
    from_if : {depth : ℕ} {p : Place} {s : StmtTree} {a b c : List Token} →
        IsOpening (token.Word word.If) depth reach p a b → IsIfFrom text reach (depth + 1) s b c →
        IsElseFrom text reach depth (then s nothing) a c

-- what stands behind the word `if`, as a form
abbrev pub AnIfFrom : List ℕ → ℕ → Reach → StmtTree → List Token → List Token → Type 0
AnIfFrom text depth reach s a b = IsIfFrom text reach depth s a b

-- what may stand behind the first branch of an `if`, as a form
abbrev pub AnElse : List ℕ → ℕ → Reach → StmtRow → List Token → List Token → Type 0
AnElse text depth reach other a b = IsElse text reach depth other a b

-- what stands behind `else`, as a form
abbrev pub AnElseFrom : List ℕ → ℕ → Reach → StmtRow → List Token → List Token → Type 0
AnElseFrom text depth reach other a b = IsElseFrom text reach depth other a b

-- the row of the statements of a block
abbrev pub row_tree : Vec Stmt Global → StmtRow
row_tree body = row_of (stmt_trees body.items)

-- `or` and a block, as a row
pub data IsOrBlock (text : List ℕ) (depth : ℕ) (reach : Reach) : StmtRow → List Token → List Token → Type 0 where
  or_block : {body : List StmtTree} {a b c : List Token} → Has (token.Word word.Or) a b →
      ABlock text depth reach body b c → IsOrBlock text depth reach (row_of body) a c

-- two or more blocks with `or` between them
pub data IsChoice (text : List ℕ) (depth : ℕ) (reach : Reach) : List StmtRow → List Token → List Token → Type 0 where
  choices : {body : List StmtTree} {second : StmtRow} {others : List StmtRow} {a b c d : List Token} →
      ABlock text depth reach body a b → IsOrBlock text depth reach second b c →
      AreEach (IsOrBlock text depth reach) others c d → IsChoice text depth reach (row_of body ∷ second ∷ others) a d

-- the statement that begins with a token
abbrev pub sort_of_kind : TokenKind → Option StmtSort
sort_of_kind token.Name = Some sort.Path
sort_of_kind (token.Word word.If) = Some sort.If
sort_of_kind (token.Word word.While) = Some sort.While
sort_of_kind (token.Word word.Forever) = Some sort.Forever
sort_of_kind (token.Word word.Choice) = Some sort.Choice
sort_of_kind (token.Word word.Assert) = Some (sort.Flat flat.Assert)
sort_of_kind (token.Word word.Assume) = Some (sort.Flat flat.Assume)
sort_of_kind (token.Word word.Pause) = Some (sort.Flat flat.Pause)
sort_of_kind (token.Word word.Wait) = Some (sort.Flat flat.Wait)
sort_of_kind (token.Sign sign.Ellipsis) = Some (sort.Flat flat.Magic)
sort_of_kind _ = None

-- the sort of the statement that a token begins, if there is one
abbrev pub stmt_sort : Option TokenKind → Option StmtSort
stmt_sort None = None
stmt_sort (Some kind) = sort_of_kind kind

-- a statement of a sort
pub data IsSorted (text : List ℕ) (depth : ℕ) (reach : Reach) :
    StmtSort → StmtTree → List Token → List Token → Type 0 where
  is_path : {names : List Ident} {s : StmtTree} {a b c : List Token} → IsPath text names a b →
      IsStmtFrom text depth names reach s b c → IsSorted text depth reach sort.Path s a c
  is_if : {s : StmtTree} {a b c : List Token} → Has (token.Word word.If) a b → AnIfFrom text depth reach s b c →
      IsSorted text depth reach sort.If s a c
  is_while : {p : Place} {e : ExprTree} {body : List StmtTree} {a b c d : List Token} →
      IsMark (token.Word word.While) p a b → ACondition text depth reach e b c → ABlock text depth reach body c d →
      IsSorted text depth reach sort.While (repeat p e (row_of body)) a d
  is_forever : {p : Place} {body : List StmtTree} {a b c : List Token} → IsMark (token.Word word.Forever) p a b →
      ABlock text depth reach body b c → IsSorted text depth reach sort.Forever (forever p (row_of body)) a c
  is_choice : {p : Place} {blocks : List StmtRow} {a b c : List Token} → IsMark (token.Word word.Choice) p a b →
      IsChoice text depth reach blocks b c → IsSorted text depth reach sort.Choice
      (choose p (alternatives_of blocks)) a c
  is_assert : {t : Place × ExprTree} {a b : List Token} → IsTest text word.Assert depth reach t a b →
      IsSorted text depth reach (sort.Flat flat.Assert) (assert t.0 t.1) a b
  is_assume : {t : Place × ExprTree} {a b : List Token} → IsTest text word.Assume depth reach t a b →
      IsSorted text depth reach (sort.Flat flat.Assume) (assume t.0 t.1) a b
  is_pause : {p : Place} {a b : List Token} → IsShort (token.Word word.Pause) reach p a b →
      IsSorted text depth reach (sort.Flat flat.Pause) (pause p) a b
  is_wait : {t : Place × ExprTree} {a b : List Token} → IsTest text word.Wait depth reach t a b →
      IsSorted text depth reach (sort.Flat flat.Wait) (wait t.0 t.1) a b
  is_magic : {p : Place} {a b : List Token} → IsShort (token.Sign sign.Ellipsis) reach p a b →
      IsSorted text depth reach (sort.Flat flat.Magic) (magic p) a b

-- a statement of a sort, as a form
abbrev pub AStmtOf : List ℕ → ℕ → StmtSort → Reach → StmtTree → List Token → List Token → Type 0
AStmtOf text depth k reach s a b = IsSorted text depth reach k s a b

-- a token goes on with a statement
abbrev pub GoesStmt : Option TokenKind → Type 0
GoesStmt kind = GoesAt (token.Word word.Else) kind ⊎ GoesAt (token.Word word.Or) kind

-- statements
abbrev pub SomeStmts : List ℕ → ℕ → Reach → List StmtTree → List Token → List Token → Type 0
SomeStmts text depth reach ss a b = AreStmts text (IsBound reach) depth ss a b

-- a token goes on with statements
abbrev pub GoesStmts : Option TokenKind → Type 0
GoesStmts kind = ((k : StmtSort) × (stmt_sort kind ≡ Some k)) ⊎ GoesStmt kind

-- a token goes on with declarations of locals and statements
abbrev pub GoesBody : Option TokenKind → Type 0
GoesBody kind = (GoesAt (token.Word word.Bool) kind ⊎ GoesAt (token.Word word.Uint) kind) ⊎ GoesStmts kind

-- the declaration of a local
abbrev pub ALocal : List ℕ → ℕ → Reach → LocalTree → List Token → List Token → Type 0
ALocal text depth reach d a b = IsLocal text (IsBound reach) depth d a b

-- declarations of locals, and statements
pub record AreBody (text : List ℕ) (depth : ℕ) (reach : Reach) (body : List LocalTree × List StmtTree)
    (tokens rest : List Token) : Type 0 where
  pub between : List Token
  pub locals : AreEach (ALocal text depth reach) body.0 tokens between
  pub stmts : SomeStmts text depth reach body.1 between rest

-- `return`, an expression and a semicolon, or nothing
abbrev pub AnAnswer : List ℕ → ℕ → Reach → Option ExprTree → List Token → List Token → Type 0
AnAnswer text depth reach answer a b = IsOptional (IsReturn text (IsBound reach) depth) answer a b

-- a body in braces
abbrev pub ABraced : List ℕ → ℕ → Reach → BodyTree → List Token → List Token → Type 0
ABraced text depth reach body a b = IsBraced text (IsBound reach) depth body a b

-- a procedure's body in braces
abbrev pub AnAnswering : List ℕ → ℕ → Reach → BodyTree → List Token → List Token → Type 0
AnAnswering text depth reach body a b = IsAnswering text (IsBound reach) depth body a b

-- whether a kind of token is a name
abbrev pub is_name : TokenKind → Bool
is_name token.Name = true
is_name _ = false

-- a name begins here
abbrev pub begins_name : List Token → Bool
begins_name [] = false
begins_name (t ∷ ts) = is_name t.kind

-- a token of this kind begins a type, and the name of a local stands behind it
abbrev pub begins_type : TokenKind → List Token → Bool
begins_type (token.Word word.Bool) ts = true
begins_type (token.Word word.Uint) ts = true
begins_type token.Name ts = begins_name ts
begins_type _ ts = false

-- the declaration of a local begins here: with `bool`, `uint` or two names
abbrev pub begins_local : List Token → Bool
begins_local [] = false
begins_local (t ∷ ts) = begins_type t.kind ts
