-- The grammar of statements and bodies.
use Rattle.std.specs.Prelude.{ℕ, ◌+◌, Option, Some, None, List, [], ◌∷◌, ◌++◌}
use Rattle.tm_base.specs.declared.place.Place.{Place}
use Rattle.tm_syntax.specs.declared.token.Token.{Token}
use Rattle.tm_syntax.specs.declared.token.TokenKind.TheVariants as token
use Rattle.tm_syntax.specs.declared.token.Word.TheVariants as word
use Rattle.tm_syntax.specs.declared.token.Sign.TheVariants as sign
use Rattle.tm_syntax.specs.declared.tree.Ident.{Ident}
use Rattle.tm_syntax.specs.declared.tree.Num.{Num}
use Rattle.tm_syntax.specs.declared.tree.TypeName.{TypeName}
use Rattle.tm_syntax.specs.declared.tree.TypeName.TheVariants as written
use Rattle.tm_syntax.specs.Tree.{ExprTree, ValueTree, star, result, plain, StmtTree, assign, invoke, branch, repeat, forever, choose, assert, assume, pause, wait, magic, StmtRow, nothing, then, row_of, alternatives_of, LocalTree, BodyTree}
use Rattle.tm_syntax.specs.Grammar.Parts.{Has, IsMark, IsName, IsNumber, AreEach, IsOptional, AreArguments, IsPath}
use Rattle.tm_syntax.specs.Grammar.Expressions.{IsExpr}

-- expr
abbrev pub IsWholeExpr : List ℕ → (List Token → ℕ → Type 0) → ℕ → ExprTree → List Token → List Token → Type 0
IsWholeExpr text May depth e a b = IsExpr text May 0 depth e a b

-- type = "bool" | "uint" "<" NUMBER ">" | NAME
pub data IsType (text : List ℕ) : TypeName → List Token → List Token → Type 0 where
  type_bool : {at : Place} {a b : List Token} → IsMark (token.Word word.Bool) at a b → IsType text (written.Bool at) a b
  type_uint : {at : Place} {n : Num} {a b c d e : List Token} →
      IsMark (token.Word word.Uint) at a b → Has (token.Sign sign.Less) b c → IsNumber text n c d →
      Has (token.Sign sign.Greater) d e → IsType text (written.Uint at n) a e
  type_name : {name : Ident} {a b : List Token} → IsName text name a b → IsType text (written.Enum name) a b

-- place = path [ "[" expr "]" ]
pub data IsPlace (text : List ℕ) (May : List Token → ℕ → Type 0) (depth : ℕ) :
    List Ident → Option ExprTree → List Token → List Token → Type 0 where
  place_path : {names : List Ident} {a b : List Token} → IsPath text names a b → IsPlace text May depth names None a b
  place_element : {names : List Ident} {e : ExprTree} {a b c d f : List Token} →
      IsPath text names a b → Has (token.Sign sign.OpenBracket) b c → May b (depth + 1) →
      IsWholeExpr text May (depth + 1) e c d → Has (token.Sign sign.CloseBracket) d f →
      IsPlace text May depth names (Some e) a f

-- args, in their parentheses
abbrev pub AreArgs : List ℕ → (List Token → ℕ → Type 0) → ℕ → List ExprTree → List Token → List Token → Type 0
AreArgs text May depth es a b = AreArguments May depth (IsWholeExpr text May (depth + 1)) es a b

-- value = "*" | path "(" [ args ] ")" | expr
pub data IsValue (text : List ℕ) (May : List Token → ℕ → Type 0) (depth : ℕ) :
    ValueTree → List Token → List Token → Type 0 where
  value_star : {at : Place} {a b : List Token} → IsMark (token.Sign sign.Star) at a b →
      IsValue text May depth (star at) a b
  value_call : {names : List Ident} {es : List ExprTree} {a b c : List Token} →
      IsPath text names a b → AreArgs text May depth es b c → IsValue text May depth (result names es) a c
  value_expr : {e : ExprTree} {a b : List Token} → IsWholeExpr text May depth e a b →
      IsValue text May depth (plain e) a b

-- "(" expr ")"
pub data IsCondition (text : List ℕ) (May : List Token → ℕ → Type 0) (depth : ℕ) :
    ExprTree → List Token → List Token → Type 0 where
  condition : {e : ExprTree} {a b c d : List Token} →
      Has (token.Sign sign.OpenParenthesis) a b → May a (depth + 1) → IsWholeExpr text May (depth + 1) e b c →
      Has (token.Sign sign.CloseParenthesis) c d → IsCondition text May depth e a d

mutual
  -- stmt
  pub data IsStmt (text : List ℕ) (May : List Token → ℕ → Type 0) :
      ℕ → StmtTree → List Token → List Token → Type 0 where
    -- place "=" value ";"
    stmt_assign : {depth : ℕ} {names : List Ident} {index : Option ExprTree} {v : ValueTree} {a b c d e : List Token} →
        IsPlace text May depth names index a b → Has (token.Sign sign.Assign) b c → IsValue text May depth v c d →
        Has (token.Sign sign.Semicolon) d e → IsStmt text May depth (assign names index v) a e
    -- path "(" [ args ] ")" ";"
    stmt_call : {depth : ℕ} {names : List Ident} {es : List ExprTree} {a b c d : List Token} →
        IsPath text names a b → AreArgs text May depth es b c → Has (token.Sign sign.Semicolon) c d →
        IsStmt text May depth (invoke names es) a d
    -- ifstmt
    stmt_if : {depth : ℕ} {s : StmtTree} {a b : List Token} → IsIf text May depth s a b → IsStmt text May depth s a b
    -- "while" "(" expr ")" block
    stmt_while : {depth : ℕ} {at : Place} {e : ExprTree} {body : List StmtTree} {a b c d : List Token} →
        IsMark (token.Word word.While) at a b → IsCondition text May depth e b c → IsBlock text May depth body c d →
        IsStmt text May depth (repeat at e (row_of body)) a d
    -- "forever" block
    stmt_forever : {depth : ℕ} {at : Place} {body : List StmtTree} {a b c : List Token} →
        IsMark (token.Word word.Forever) at a b → IsBlock text May depth body b c →
        IsStmt text May depth (forever at (row_of body)) a c
    -- "choice" block { "or" block } "or" block
    stmt_choice : {depth : ℕ} {at : Place} {blocks : List StmtRow} {last : List StmtTree} {a b c d e : List Token} →
        IsMark (token.Word word.Choice) at a b → AreAlternatives text May depth blocks b c →
        Has (token.Word word.Or) c d → IsBlock text May depth last d e →
        IsStmt text May depth (choose at (alternatives_of (blocks ++ row_of last ∷ []))) a e
    -- "assert" "(" expr ")" ";"
    stmt_assert : {depth : ℕ} {at : Place} {e : ExprTree} {a b c d : List Token} →
        IsMark (token.Word word.Assert) at a b → IsCondition text May depth e b c →
        Has (token.Sign sign.Semicolon) c d → IsStmt text May depth (assert at e) a d
    -- "assume" "(" expr ")" ";"
    stmt_assume : {depth : ℕ} {at : Place} {e : ExprTree} {a b c d : List Token} →
        IsMark (token.Word word.Assume) at a b → IsCondition text May depth e b c →
        Has (token.Sign sign.Semicolon) c d → IsStmt text May depth (assume at e) a d
    -- "pause" ";"
    stmt_pause : {depth : ℕ} {at : Place} {a b c : List Token} →
        IsMark (token.Word word.Pause) at a b → Has (token.Sign sign.Semicolon) b c →
        IsStmt text May depth (pause at) a c
    -- "wait" "(" expr ")" ";"
    stmt_wait : {depth : ℕ} {at : Place} {e : ExprTree} {a b c d : List Token} →
        IsMark (token.Word word.Wait) at a b → IsCondition text May depth e b c →
        Has (token.Sign sign.Semicolon) c d → IsStmt text May depth (wait at e) a d
    -- "..." ";"
    stmt_magic : {depth : ℕ} {at : Place} {a b c : List Token} →
        IsMark (token.Sign sign.Ellipsis) at a b → Has (token.Sign sign.Semicolon) b c →
        IsStmt text May depth (magic at) a c

  -- ifstmt = "if" "(" expr ")" block [ "else" ( block | ifstmt ) ], where the `if` of an `else if` opens a level
  pub data IsIf (text : List ℕ) (May : List Token → ℕ → Type 0) :
      ℕ → StmtTree → List Token → List Token → Type 0 where
    if_alone : {depth : ℕ} {e : ExprTree} {yes_block : List StmtTree} {a b c d : List Token} →
        Has (token.Word word.If) a b → IsCondition text May depth e b c → IsBlock text May depth yes_block c d →
        IsIf text May depth (branch e (row_of yes_block) nothing) a d
    if_else : {depth : ℕ} {e : ExprTree} {yes_block no_block : List StmtTree} {a b c d f g : List Token} →
        Has (token.Word word.If) a b → IsCondition text May depth e b c → IsBlock text May depth yes_block c d →
        Has (token.Word word.Else) d f → IsBlock text May depth no_block f g →
        IsIf text May depth (branch e (row_of yes_block) (row_of no_block)) a g
    if_else_if : {depth : ℕ} {e : ExprTree} {yes_block : List StmtTree} {s : StmtTree} {a b c d f g : List Token} →
        Has (token.Word word.If) a b → IsCondition text May depth e b c → IsBlock text May depth yes_block c d →
        Has (token.Word word.Else) d f → May f (depth + 1) → IsIf text May (depth + 1) s f g →
        IsIf text May depth (branch e (row_of yes_block) (then s nothing)) a g

  -- block = "{" { stmt } "}"
  pub data IsBlock (text : List ℕ) (May : List Token → ℕ → Type 0) :
      ℕ → List StmtTree → List Token → List Token → Type 0 where
    block : {depth : ℕ} {stmts : List StmtTree} {a b c d : List Token} →
        Has (token.Sign sign.OpenBrace) a b → May a (depth + 1) → AreStmts text May (depth + 1) stmts b c →
        Has (token.Sign sign.CloseBrace) c d → IsBlock text May depth stmts a d

  -- { stmt }
  pub data AreStmts (text : List ℕ) (May : List Token → ℕ → Type 0) :
      ℕ → List StmtTree → List Token → List Token → Type 0 where
    stmts_none : {depth : ℕ} {a : List Token} → AreStmts text May depth [] a a
    stmts_more : {depth : ℕ} {ss : List StmtTree} {s : StmtTree} {a b c : List Token} →
        AreStmts text May depth ss a b → IsStmt text May depth s b c → AreStmts text May depth (ss ++ s ∷ []) a c

  -- block { "or" block }
  pub data AreAlternatives (text : List ℕ) (May : List Token → ℕ → Type 0) :
      ℕ → List StmtRow → List Token → List Token → Type 0 where
    alternatives_one : {depth : ℕ} {body : List StmtTree} {a b : List Token} → IsBlock text May depth body a b →
        AreAlternatives text May depth (row_of body ∷ []) a b
    alternatives_more : {depth : ℕ} {blocks : List StmtRow} {body : List StmtTree} {a b c d : List Token} →
        AreAlternatives text May depth blocks a b → Has (token.Word word.Or) b c → IsBlock text May depth body c d →
        AreAlternatives text May depth (blocks ++ row_of body ∷ []) a d

-- type NAME "=" value ";"
pub data IsLocal (text : List ℕ) (May : List Token → ℕ → Type 0) (depth : ℕ) :
    LocalTree → List Token → List Token → Type 0 where
  local : {ty : TypeName} {name : Ident} {v : ValueTree} {a b c d e f : List Token} →
      IsType text ty a b → IsName text name b c → Has (token.Sign sign.Assign) c d →
      IsValue text May depth v d e → Has (token.Sign sign.Semicolon) e f →
      IsLocal text May depth (record { ty = ty; name = name; value = v }) a f

-- body = { type NAME "=" value ";" } { stmt }
pub data IsBody (text : List ℕ) (May : List Token → ℕ → Type 0) (depth : ℕ) :
    List LocalTree → List StmtTree → List Token → List Token → Type 0 where
  body : {locals : List LocalTree} {stmts : List StmtTree} {a b c : List Token} →
      AreEach (IsLocal text May depth) locals a b → AreStmts text May depth stmts b c →
      IsBody text May depth locals stmts a c

-- "return" expr ";"
pub data IsReturn (text : List ℕ) (May : List Token → ℕ → Type 0) (depth : ℕ) :
    ExprTree → List Token → List Token → Type 0 where
  return : {e : ExprTree} {a b c d : List Token} →
      Has (token.Word word.Return) a b → IsWholeExpr text May depth e b c → Has (token.Sign sign.Semicolon) c d →
      IsReturn text May depth e a d

-- "{" body "}"
pub data IsBraced (text : List ℕ) (May : List Token → ℕ → Type 0) (depth : ℕ) :
    BodyTree → List Token → List Token → Type 0 where
  braced : {locals : List LocalTree} {stmts : List StmtTree} {a b c d : List Token} →
      Has (token.Sign sign.OpenBrace) a b → May a (depth + 1) → IsBody text May (depth + 1) locals stmts b c →
      Has (token.Sign sign.CloseBrace) c d →
      IsBraced text May depth (record { locals = locals; stmts = stmts; answer = None }) a d

-- "{" body [ "return" expr ";" ] "}"
pub data IsAnswering (text : List ℕ) (May : List Token → ℕ → Type 0) (depth : ℕ) :
    BodyTree → List Token → List Token → Type 0 where
  answering : {locals : List LocalTree} {stmts : List StmtTree} {answer : Option ExprTree} {a b c d e : List Token} →
      Has (token.Sign sign.OpenBrace) a b → May a (depth + 1) → IsBody text May (depth + 1) locals stmts b c →
      IsOptional (IsReturn text May (depth + 1)) answer c d → Has (token.Sign sign.CloseBrace) d e →
      IsAnswering text May depth (record { locals = locals; stmts = stmts; answer = answer }) a e
