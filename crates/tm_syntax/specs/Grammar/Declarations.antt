-- The grammar of what a template declares.
use Rattle.std.specs.Prelude.{ℕ, true, false, Option, Some, None, List, [], ◌∷◌}
use Rattle.tm_base.specs.declared.place.Place.{Place}
use Rattle.tm_syntax.specs.declared.token.Token.{Token}
use Rattle.tm_syntax.specs.declared.token.TokenKind.TheVariants as token
use Rattle.tm_syntax.specs.declared.token.Word.TheVariants as word
use Rattle.tm_syntax.specs.declared.token.Sign.TheVariants as sign
use Rattle.tm_syntax.specs.declared.tree.Ident.{Ident}
use Rattle.tm_syntax.specs.declared.tree.Num.{Num}
use Rattle.tm_syntax.specs.declared.tree.TypeName.{TypeName}
use Rattle.tm_syntax.specs.declared.tree.TaskKind.{TaskKind}
use Rattle.tm_syntax.specs.declared.tree.TaskKind.TheVariants as kind
use Rattle.tm_syntax.specs.declared.tree.Param.{Param}
use Rattle.tm_syntax.specs.Tree.{ExprTree, truth, number, path, BodyTree, InstanceTree, VarTree, NamedTree, ProcessTree, TaskTree}
use Rattle.tm_syntax.specs.Grammar.Parts.{Has, IsMark, IsName, IsNumber, IsOptional, MayBeEnclosed, AreArguments}
use Rattle.tm_syntax.specs.Grammar.Statements.{IsWholeExpr, IsType, IsBraced, IsAnswering}

-- literal = NUMBER | "true" | "false" | NAME
pub data IsLiteral (text : List ℕ) : ExprTree → List Token → List Token → Type 0 where
  literal_number : {n : Num} {a b : List Token} → IsNumber text n a b → IsLiteral text (number n) a b
  literal_true : {at : Place} {a b : List Token} → IsMark (token.Word word.True) at a b →
      IsLiteral text (truth at true) a b
  literal_false : {at : Place} {a b : List Token} → IsMark (token.Word word.False) at a b →
      IsLiteral text (truth at false) a b
  literal_name : {name : Ident} {a b : List Token} → IsName text name a b → IsLiteral text (path (name ∷ [])) a b

-- "[" NUMBER "]", where the bracket opens no level
pub data IsLength (text : List ℕ) : Num → List Token → List Token → Type 0 where
  size_of : {n : Num} {a b c d : List Token} →
      Has (token.Sign sign.OpenBracket) a b → IsNumber text n b c → Has (token.Sign sign.CloseBracket) c d →
      IsLength text n a d

-- "=" literal
pub data IsInitial (text : List ℕ) : ExprTree → List Token → List Token → Type 0 where
  initial : {e : ExprTree} {a b c : List Token} → Has (token.Sign sign.Assign) a b → IsLiteral text e b c →
      IsInitial text e a c

-- params = type NAME { "," type NAME }: one of them
pub data IsParam (text : List ℕ) : Param → List Token → List Token → Type 0 where
  param : {ty : TypeName} {name : Ident} {a b c : List Token} → IsType text ty a b → IsName text name b c →
      IsParam text (record { ty = ty; name = name }) a c

-- "instance" NAME NAME [ "(" NAME { "," NAME } ")" ] ";"
pub data IsInstance (text : List ℕ) (May : List Token → ℕ → Type 0) (depth : ℕ) :
    InstanceTree → List Token → List Token → Type 0 where
  instance : {template name : Ident} {args : List Ident} {a b c d e f : List Token} →
      Has (token.Word word.Instance) a b → IsName text template b c → IsName text name c d →
      MayBeEnclosed May depth (IsName text) args d e → Has (token.Sign sign.Semicolon) e f →
      IsInstance text May depth (record { template = template; name = name; args = args }) a f

-- type NAME [ "[" NUMBER "]" ] [ "=" literal ] ";"
pub data IsVar (text : List ℕ) : VarTree → List Token → List Token → Type 0 where
  variable : {ty : TypeName} {name : Ident} {size : Option Num} {init : Option ExprTree} {a b c d e f : List Token} →
      IsType text ty a b → IsName text name b c → IsOptional (IsLength text) size c d →
      IsOptional (IsInitial text) init d e → Has (token.Sign sign.Semicolon) e f →
      IsVar text (record { ty = ty; name = name; size = size; init = init }) a f

-- NAME "=" expr ";"
pub data IsNamed (text : List ℕ) (May : List Token → ℕ → Type 0) (depth : ℕ) :
    NamedTree → List Token → List Token → Type 0 where
  named : {name : Ident} {e : ExprTree} {a b c d f : List Token} →
      IsName text name a b → Has (token.Sign sign.Assign) b c → IsWholeExpr text May depth e c d →
      Has (token.Sign sign.Semicolon) d f → IsNamed text May depth (record { name = name; expr = e }) a f

-- [ "lazy" ] "process" NAME "{" body "}"
pub data IsProcess (text : List ℕ) (May : List Token → ℕ → Type 0) (depth : ℕ) :
    ProcessTree → List Token → List Token → Type 0 where
  process_fair : {name : Ident} {body : BodyTree} {a b c d : List Token} →
      Has (token.Word word.Process) a b → IsName text name b c → IsBraced text May depth body c d →
      IsProcess text May depth (record { lazy = false; name = name; body = body }) a d
  process_lazy : {name : Ident} {body : BodyTree} {a b c d e : List Token} →
      Has (token.Word word.Lazy) a b → Has (token.Word word.Process) b c → IsName text name c d →
      IsBraced text May depth body d e →
      IsProcess text May depth (record { lazy = true; name = name; body = body }) a e

-- NAME "(" [ params ] ")" and a body, where params = type NAME { "," type NAME }
pub data IsTaskOf (text : List ℕ) (May : List Token → ℕ → Type 0) (depth : ℕ)
    (IsBodyOf : BodyTree → List Token → List Token → Type 0) (k : TaskKind) :
    TaskTree → List Token → List Token → Type 0 where
  task_of : {name : Ident} {params : List Param} {body : BodyTree} {a b c d : List Token} →
      IsName text name a b → AreArguments May depth (IsParam text) params b c → IsBodyOf body c d →
      IsTaskOf text May depth IsBodyOf k (record { kind = k; name = name; params = params; body = body }) a d

-- "task" ( "controllable" | "uncontrollable" ) NAME "(" [ params ] ")" "{" body "}"
-- | "procedure" ( type | "void" ) NAME "(" [ params ] ")" "{" body [ "return" expr ";" ] "}"
pub data IsTask (text : List ℕ) (May : List Token → ℕ → Type 0) (depth : ℕ) :
    TaskTree → List Token → List Token → Type 0 where
  task_controllable : {task : TaskTree} {a b c d : List Token} →
      Has (token.Word word.Task) a b → Has (token.Word word.Controllable) b c →
      IsTaskOf text May depth (IsBraced text May depth) kind.Controllable task c d → IsTask text May depth task a d
  task_uncontrollable : {task : TaskTree} {a b c d : List Token} →
      Has (token.Word word.Task) a b → Has (token.Word word.Uncontrollable) b c →
      IsTaskOf text May depth (IsBraced text May depth) kind.Uncontrollable task c d → IsTask text May depth task a d
  procedure_typed : {ty : TypeName} {task : TaskTree} {a b c d : List Token} →
      Has (token.Word word.Procedure) a b → IsType text ty b c →
      IsTaskOf text May depth (IsAnswering text May depth) (kind.Procedure (Some ty)) task c d →
      IsTask text May depth task a d
  procedure_void : {task : TaskTree} {a b c d : List Token} →
      Has (token.Word word.Procedure) a b → Has (token.Word word.Void) b c →
      IsTaskOf text May depth (IsAnswering text May depth) (kind.Procedure None) task c d →
      IsTask text May depth task a d
