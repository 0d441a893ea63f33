-- The scan of statements and bodies: behind them what waited before them waits.
use Rattle.std.proofs.Common.{◌≡◌, ℕ, ◌+◌, Option, None, List, [], ◌∷◌, refl, ap, ◌∙◌}
use Rattle.tm_syntax.specs.declared.token.Token.{Token}
use Rattle.tm_syntax.specs.declared.token.TokenKind.{TokenKind}
use Rattle.tm_syntax.specs.declared.token.TokenKind.TheVariants as token
use Rattle.tm_syntax.specs.declared.token.Word.TheVariants as word
use Rattle.tm_syntax.specs.declared.token.Sign.TheVariants as sign
use Rattle.tm_syntax.specs.declared.tree.Ident.{Ident}
use Rattle.tm_syntax.specs.declared.tree.TypeName.{TypeName}
use Rattle.tm_syntax.specs.Tree.{ExprTree, ValueTree, StmtTree, StmtRow, LocalTree, BodyTree}
use Rattle.tm_syntax.specs.Grammar.Parts.{Has, IsName, AreEach, each_none, each_more, AreParted, parted_one, parted_more, IsOptional, optional_none, optional_some, AreEnclosed, enclosed, MayBeEnclosed, enclosed_none, enclosed_some, AreArguments, arguments_none, arguments_some}
use Rattle.tm_syntax.specs.Grammar.Statements.{IsWholeExpr, IsType, type_bool, type_uint, type_name, IsPlace, place_path, place_element, IsValue, value_star, value_call, value_expr, IsCondition, condition, IsStmt, stmt_assign, stmt_call, stmt_if, stmt_while, stmt_forever, stmt_choice, stmt_assert, stmt_assume, stmt_pause, stmt_wait, stmt_magic, IsIf, if_alone, if_else, if_else_if, IsBlock, block, AreStmts, stmts_none, stmts_more, AreAlternatives, alternatives_one, alternatives_more, IsLocal, local, IsBody, body, IsReturn, return, IsBraced, braced, IsAnswering, answering}
use Rattle.tm_parse.proofs.Names.{name_has}
use Rattle.tm_parse.proofs.Scan.{Waiting, opened, asking, joined, sizing, other, chained, claiming, State, state, levels, bare, past_else, past_if, past_bracket, past_claim, close, step, depth_if, depth_of}
use Rattle.tm_parse.proofs.Scanned.{Here, behind_plain, Known, Rest, Ends, Calm}
use Rattle.tm_parse.proofs.ScannedExprs.{Level, level_opened, scan_path, opens, scan_width, scan_whole}
use Rattle.tm_parse.proofs.Terminals.{mark_has}

-- where an expression ends, whose end is still to be seen, and where none does
pub rest_ends : {May : List Token → ℕ → Type 0} {tokens : List Token} {w : List Waiting} {a : List Token} → Level w →
    Rest May tokens w a → Ends May tokens w a
rest_ends {w} level r = record {
  last = state w r.height;
  height = r.height;
  here = r.here;
  ends = level.stops 0 r.height;
}

pub rest_calm : {May : List Token → ℕ → Type 0} {tokens : List Token} {w : List Waiting} {a : List Token} → Level w →
    Rest May tokens w a → Calm May tokens w a
rest_calm {w} level r = record { waiting = w; height = r.height; here = r.here; calm = level.is_bare }

pub rest_of : {May : List Token → ℕ → Type 0} {tokens : List Token} {w : List Waiting} {h : ℕ} {a : List Token} →
    Here May tokens (state w h) a → Rest May tokens w a
rest_of {h} here = record { height = h; here = here }

-- the tokens behind an expression
comma_rest : {May : List Token → ℕ → Type 0} {tokens : List Token} {w : List Waiting} {a b : List Token} →
    Ends May tokens w a → Has (token.Sign sign.Comma) a b → Rest May tokens w b
comma_rest e m = rest_of (behind_plain e.here m refl e.ends)

pub semicolon_rest : {May : List Token → ℕ → Type 0} {tokens : List Token} {w v : List Waiting} {a b : List Token} →
    past_claim w ≡ v → Ends May tokens w a → Has (token.Sign sign.Semicolon) a b → Rest May tokens v b
semicolon_rest past e m =
    rest_of (behind_plain e.here m refl (ap (λ (r : State). state (past_claim r.waiting) r.height) e.ends
    ∙ ap (λ l. state l e.height) past))

parenthesis_rest : {May : List Token → ℕ → Type 0} {tokens : List Token} {w : List Waiting} {a b : List Token} →
    Ends May tokens (opened ∷ w) a → Has (token.Sign sign.CloseParenthesis) a b → Rest May tokens w b
parenthesis_rest e m = rest_of (behind_plain e.here m refl (ap close e.ends))

bracket_rest : {May : List Token → ℕ → Type 0} {tokens : List Token} {w : List Waiting} {a b : List Token} →
    Ends May tokens (opened ∷ w) a → Has (token.Sign sign.CloseBracket) a b → Rest May tokens w b
bracket_rest e m = rest_of (behind_plain e.here m refl (ap close e.ends))

-- a token behind which no `else if` waits
pub calm_rest : {May : List Token → ℕ → Type 0} {tokens : List Token} {w : List Waiting} {kind : TokenKind}
    {a b : List Token} → (c : Calm May tokens w a) → Has kind a b →
    depth_of kind (state c.waiting c.height) ≡ None →
    step kind (state c.waiting c.height) ≡ state (bare c.waiting) c.height → Rest May tokens w b
calm_rest c m none next = rest_of (behind_plain c.here m none (next ∙ ap (λ l. state l c.height) c.calm))

-- forms that a scan goes through
abbrev pub Scans : (List Token → ℕ → Type 0) → List Token → List Waiting → {X : Type 0} →
    (X → List Token → List Token → Type 0) → (X → List Token → List Token → Type 0) → Type 0
Scans May tokens w {X} Is Or =
    (x : X) (c d : List Token) → Rest May tokens w c → Is x c d → Or x c d × Ends May tokens w d

pub each_scan : {May : List Token → ℕ → Type 0} {tokens : List Token} {w : List Waiting} {X : Type 0}
    {Is Or : X → List Token → List Token → Type 0} {xs : List X} {a b : List Token} →
    ((x : X) (c d : List Token) → Rest May tokens w c → Is x c d → Or x c d × Rest May tokens w d) →
    Rest May tokens w a → AreEach Is xs a b → AreEach Or xs a b × Rest May tokens w b
each_scan f r each_none = (each_none, r)
each_scan f r (each_more front last) =
    let one = each_scan f r front in
    let two = f _ _ _ one.1 last in
    (each_more one.0 two.0, two.1)

pub parted_scan : {May : List Token → ℕ → Type 0} {tokens : List Token} {w : List Waiting} {X : Type 0}
    {Is Or : X → List Token → List Token → Type 0} {xs : List X} {a b : List Token} → Scans May tokens w Is Or →
    Rest May tokens w a → AreParted sign.Comma Is xs a b → AreParted sign.Comma Or xs a b × Ends May tokens w b
parted_scan f r (parted_one is) = let one = f _ _ _ r is in (parted_one one.0, one.1)
parted_scan f r (parted_more front m last) =
    let one = parted_scan f r front in
    let two = f _ _ _ (comma_rest one.1 m) last in
    (parted_more one.0 m two.0, two.1)

enclosed_scan : {May : List Token → ℕ → Type 0} {tokens : List Token} {w : List Waiting} {depth : ℕ} {X : Type 0}
    {Is Or : X → List Token → List Token → Type 0} {xs : List X} {a b : List Token} → levels w ≡ depth →
    Scans May tokens (opened ∷ w) Is Or → Rest May tokens w a → AreEnclosed May depth Is xs a b →
    AreEnclosed (Known May tokens) depth Or xs a b × Rest May tokens w b
enclosed_scan {w} same f r (enclosed o may is c) =
    let p = opens w same r.here o refl may refl in
    let one = parted_scan f (rest_of p.0) is in
    (enclosed o p.1 one.0 c, parenthesis_rest one.1 c)

pub may_be_scan : {May : List Token → ℕ → Type 0} {tokens : List Token} {w : List Waiting} {depth : ℕ} {X : Type 0}
    {Is Or : X → List Token → List Token → Type 0} {xs : List X} {a b : List Token} → levels w ≡ depth →
    Scans May tokens (opened ∷ w) Is Or → Rest May tokens w a → MayBeEnclosed May depth Is xs a b →
    MayBeEnclosed (Known May tokens) depth Or xs a b × Rest May tokens w b
may_be_scan same f r enclosed_none = (enclosed_none, r)
may_be_scan same f r (enclosed_some is) = let one = enclosed_scan same f r is in (enclosed_some one.0, one.1)

pub arguments_scan : {May : List Token → ℕ → Type 0} {tokens : List Token} {w : List Waiting} {depth : ℕ} {X : Type 0}
    {Is Or : X → List Token → List Token → Type 0} {xs : List X} {a b : List Token} → levels w ≡ depth →
    Scans May tokens (opened ∷ w) Is Or → Rest May tokens w a → AreArguments May depth Is xs a b →
    AreArguments (Known May tokens) depth Or xs a b × Rest May tokens w b
arguments_scan {w} same f r (arguments_none o may c) =
    let p = opens w same r.here o refl may refl in
    (arguments_none o p.1 c, parenthesis_rest (rest_ends (level_opened w) (rest_of p.0)) c)
arguments_scan same f r (arguments_some is) = let one = enclosed_scan same f r is in (arguments_some one.0, one.1)

-- names and types
pub name_rest : {text : List ℕ} {May : List Token → ℕ → Type 0} {tokens : List Token} {w : List Waiting} {n : Ident}
    {a b : List Token} → bare w ≡ w → Rest May tokens w a → IsName text n a b → Rest May tokens w b
name_rest same r n = rest_of (behind_plain r.here (name_has n) refl (ap (λ l. state l 1) same))

pub name_scans : {text : List ℕ} {May : List Token → ℕ → Type 0} {tokens : List Token} (w : List Waiting) →
    Scans May tokens (opened ∷ w) (IsName text) (IsName text)
name_scans w x c d r n = (n, rest_ends (level_opened w) (name_rest refl r n))

pub type_rest : {text : List ℕ} {May : List Token → ℕ → Type 0} {tokens : List Token} {w : List Waiting} {ty : TypeName}
    {a b : List Token} → bare w ≡ w → Rest May tokens w a → IsType text ty a b → Rest May tokens w b
type_rest same r (type_bool m) =
    rest_of (behind_plain r.here (mark_has m) refl (ap (λ l. state l r.height) same))
type_rest {May} {tokens} {w} same r (type_uint {b} m l n g) =
    let sized : Here May tokens (state (sizing ∷ w) r.height) b = behind_plain r.here (mark_has m) refl refl in
    rest_of (scan_width sized l n g)
type_rest same r (type_name n) = name_rest same r n

-- expressions in arguments
expr_scans : {text : List ℕ} {May : List Token → ℕ → Type 0} {tokens : List Token} {w : List Waiting} {depth : ℕ} →
    levels w ≡ depth → Scans May tokens (opened ∷ w) (IsWholeExpr text May (depth + 1))
    (IsWholeExpr text (Known May tokens) (depth + 1))
expr_scans {w} same x c d r is = scan_whole (ap (λ n. n + 1) same) (level_opened w) r.here is

scan_place : {text : List ℕ} {May : List Token → ℕ → Type 0} {tokens : List Token} {w : List Waiting} {depth : ℕ}
    {names : List Ident} {index : Option ExprTree} {a b : List Token} → levels w ≡ depth → Level w →
    Calm May tokens w a → IsPlace text May depth names index a b →
    IsPlace text (Known May tokens) depth names index a b × Rest May tokens w b
scan_place same level c (place_path p) = (place_path p, rest_of (scan_path level.is_bare c p))
scan_place {w} same level c (place_element p o may e m) =
    let b = opens w same (scan_path level.is_bare c p) o level.inside may refl in
    let one = scan_whole (ap (λ n. n + 1) same) (level_opened w) b.0 e in
    (place_element p o b.1 one.0 m, bracket_rest one.1 m)

pub scan_value : {text : List ℕ} {May : List Token → ℕ → Type 0} {tokens : List Token} {w : List Waiting} {depth : ℕ}
    {v : ValueTree} {a b : List Token} → levels w ≡ depth → Level w → Rest May tokens w a →
    IsValue text May depth v a b → IsValue text (Known May tokens) depth v a b × Ends May tokens w b
scan_value same level r (value_star m) =
    (value_star m, rest_ends level (rest_of (behind_plain r.here (mark_has m) refl refl)))
scan_value same level r (value_call p es) =
    let one = arguments_scan same (expr_scans same) (rest_of (scan_path level.is_bare (rest_calm level r) p)) es in
    (value_call p one.0, rest_ends level one.1)
scan_value same level r (value_expr is) = let one = scan_whole same level r.here is in (value_expr one.0, one.1)

scan_condition : {text : List ℕ} {May : List Token → ℕ → Type 0} {tokens : List Token} {w : List Waiting} {depth : ℕ}
    {e : ExprTree} {a b : List Token} → levels w ≡ depth → Rest May tokens w a → IsCondition text May depth e a b →
    IsCondition text (Known May tokens) depth e a b × Rest May tokens w b
scan_condition {w} same r (condition o may is c) =
    let p = opens w same r.here o refl may refl in
    let one = scan_whole (ap (λ n. n + 1) same) (level_opened w) p.0 is in
    (condition o p.1 one.0 c, parenthesis_rest one.1 c)

-- the tokens of a statement
rest_semicolon : {May : List Token → ℕ → Type 0} {tokens : List Token} {v : List Waiting} {a b : List Token} →
    Rest May tokens (opened ∷ v) a → Has (token.Sign sign.Semicolon) a b → Calm May tokens (opened ∷ v) b
rest_semicolon {v} r n =
    rest_calm (level_opened v) (semicolon_rest refl (rest_ends (level_opened v) r) n)

scan_test : {text : List ℕ} {May : List Token → ℕ → Type 0} {tokens : List Token} {v : List Waiting} {depth : ℕ}
    {e : ExprTree} {a b c : List Token} → levels (opened ∷ v) ≡ depth → Rest May tokens (opened ∷ v) a →
    IsCondition text May depth e a b → Has (token.Sign sign.Semicolon) b c →
    IsCondition text (Known May tokens) depth e a b × Calm May tokens (opened ∷ v) c
scan_test same r e n = let one = scan_condition same r e in (one.0, rest_semicolon one.1 n)

-- behind a closing brace
brace_rest : {May : List Token → ℕ → Type 0} {tokens : List Token} {v : List Waiting} {a b : List Token} →
    Calm May tokens (opened ∷ v) a → Has (token.Sign sign.CloseBrace) a b → Rest May tokens v b
brace_rest c m = rest_of (behind_plain c.here m refl (ap (λ l. state (past_bracket l) c.height) c.calm))

-- an `if` that stands behind no `else`
plain_if : (w : List Waiting) {v : List Waiting} → bare w ≡ opened ∷ v →
    (depth_if w ≡ None) × (past_if w ≡ opened ∷ v)
plain_if [] calm = (refl, calm)
plain_if (opened ∷ w) calm = (refl, calm)
plain_if (asking t ∷ w) calm = (refl, calm)
plain_if (joined k l h ∷ w) calm = (refl, calm)
plain_if (sizing ∷ w) calm = (refl, calm)
plain_if (other ∷ w) {v} calm = let never : other ∷ w ≡ opened ∷ v = calm in absurd (cc)
plain_if (chained ∷ w) calm = (refl, calm)
plain_if (claiming ∷ w) calm = (refl, calm)

if_begins : {text : List ℕ} {May : List Token → ℕ → Type 0} {depth : ℕ} {s : StmtTree} {a b : List Token} →
    IsIf text May depth s a b → (c : List Token) × Has (token.Word word.If) a c
if_begins (if_alone m e i) = (_, m)
if_begins (if_else m e i n j) = (_, m)
if_begins (if_else_if m e i n may h) = (_, m)

mutual
  -- statements behind an opening brace
  pub scan_stmt : {text : List ℕ} {May : List Token → ℕ → Type 0} {tokens : List Token} (v : List Waiting) {depth : ℕ}
      {s : StmtTree} {a b : List Token} → levels (opened ∷ v) ≡ depth → Calm May tokens (opened ∷ v) a →
      IsStmt text May depth s a b → IsStmt text (Known May tokens) depth s a b × Calm May tokens (opened ∷ v) b
  scan_stmt v same c (stmt_assign p m e n) =
      let one = scan_place same (level_opened v) c p in
      let two = scan_value same (level_opened v) (rest_of (behind_plain one.1.here m refl refl)) e in
      (stmt_assign one.0 m two.0 n, rest_calm (level_opened v) (semicolon_rest refl two.1 n))
  scan_stmt v same c (stmt_call p es n) =
      let one = arguments_scan same (expr_scans same) (rest_of (scan_path refl c p)) es in
      (stmt_call p one.0 n, rest_semicolon one.1 n)
  scan_stmt v same c (stmt_if h) =
      let plain = plain_if c.waiting c.calm in
      let one = scan_if (opened ∷ v) same refl
      (λ d m. rest_of (behind_plain c.here m plain.0 (ap (λ l. state l c.height) plain.1))) h in
      (stmt_if one.0, one.1)
  scan_stmt v same c (stmt_while m e i) =
      let one = scan_condition same (calm_rest c (mark_has m) refl refl) e in
      let two = scan_block (opened ∷ v) (opened ∷ v) same same refl one.1 i in
      (stmt_while m one.0 two.0, rest_calm (level_opened v) two.1)
  scan_stmt v same c (stmt_forever m i) =
      let one = scan_block (opened ∷ v) (opened ∷ v) same same refl (calm_rest c (mark_has m) refl refl) i in
      (stmt_forever m one.0, rest_calm (level_opened v) one.1)
  scan_stmt v same c (stmt_choice m are n i) =
      let one = scan_alternatives v same (calm_rest c (mark_has m) refl refl) are in
      let two = scan_block (opened ∷ v) (opened ∷ v) same same refl (rest_of (behind_plain one.1.here n refl refl)) i in
      (stmt_choice m one.0 n two.0, rest_calm (level_opened v) two.1)
  scan_stmt v same c (stmt_assert m e n) =
      let one = scan_test same (calm_rest c (mark_has m) refl refl) e n in (stmt_assert m one.0 n, one.1)
  scan_stmt v same c (stmt_assume m e n) =
      let one = scan_test same (calm_rest c (mark_has m) refl refl) e n in (stmt_assume m one.0 n, one.1)
  scan_stmt v same c (stmt_pause m n) =
      (stmt_pause m n, rest_semicolon (calm_rest c (mark_has m) refl refl) n)
  scan_stmt v same c (stmt_wait m e n) =
      let one = scan_test same (calm_rest c (mark_has m) refl refl) e n in (stmt_wait m one.0 n, one.1)
  scan_stmt v same c (stmt_magic m n) =
      (stmt_magic m n, rest_semicolon (calm_rest c (mark_has m) refl refl) n)

  scan_if : {text : List ℕ} {May : List Token → ℕ → Type 0} {tokens : List Token} (w : List Waiting) {depth : ℕ}
      {s : StmtTree} {a b : List Token} → levels w ≡ depth → past_else w ≡ w →
      ((c : List Token) → Has (token.Word word.If) a c → Rest May tokens w c) →
      IsIf text May depth s a b → IsIf text (Known May tokens) depth s a b × Calm May tokens (bare w) b
  scan_if w same past enter (if_alone m e i) =
      let one = scan_condition same (enter _ m) e in
      let two = scan_block w w same same past one.1 i in
      (if_alone m one.0 two.0, record { waiting = w; height = two.1.height; here = two.1.here; calm = refl })
  scan_if w same past enter (if_else m e i n j) =
      let one = scan_condition same (enter _ m) e in
      let two = scan_block w w same same past one.1 i in
      let three = scan_block (other ∷ w) w same same refl (rest_of (behind_plain two.1.here n refl refl)) j in (
        if_else m one.0 two.0 n three.0,
        record { waiting = w; height = three.1.height; here = three.1.here; calm = refl },
      )
  scan_if {May} {tokens} w same past enter (if_else_if {f = after} m e i n may h) =
      let one = scan_condition same (enter _ m) e in
      let two = scan_block w w same same past one.1 i in
      let there : Here May tokens (state (other ∷ w) two.1.height) after = behind_plain two.1.here n refl refl in
      let three = scan_if (chained ∷ w) (ap (λ n. n + 1) same) refl
      (λ c m. rest_of (opens w same there m refl may refl).0) h in
      (if_else_if m one.0 two.0 n (opens w same there (if_begins h).1 refl may refl).1 three.0, three.1)

  scan_block : {text : List ℕ} {May : List Token → ℕ → Type 0} {tokens : List Token} (v w : List Waiting) {depth : ℕ}
      {ss : List StmtTree} {a b : List Token} → levels v ≡ depth → levels w ≡ depth → past_else v ≡ w →
      Rest May tokens v a →
      IsBlock text May depth ss a b → IsBlock text (Known May tokens) depth ss a b × Rest May tokens w b
  scan_block v w before same past r (block o may is c) =
      let p = opens v before r.here o refl may (ap (λ l. state (opened ∷ l) r.height) past) in
      let one = scan_stmts w (ap (λ n. n + 1) same) (rest_calm (level_opened w) (rest_of p.0)) is in
      (block o p.1 one.0 c, brace_rest one.1 c)

  scan_stmts : {text : List ℕ} {May : List Token → ℕ → Type 0} {tokens : List Token} (v : List Waiting) {depth : ℕ}
      {ss : List StmtTree} {a b : List Token} → levels (opened ∷ v) ≡ depth → Calm May tokens (opened ∷ v) a →
      AreStmts text May depth ss a b → AreStmts text (Known May tokens) depth ss a b × Calm May tokens (opened ∷ v) b
  scan_stmts v same c stmts_none = (stmts_none, c)
  scan_stmts v same c (stmts_more front last) =
      let one = scan_stmts v same c front in
      let two = scan_stmt v same one.1 last in
      (stmts_more one.0 two.0, two.1)

  scan_alternatives : {text : List ℕ} {May : List Token → ℕ → Type 0} {tokens : List Token} (v : List Waiting)
      {depth : ℕ} {rows : List StmtRow} {a b : List Token} → levels (opened ∷ v) ≡ depth →
      Rest May tokens (opened ∷ v) a → AreAlternatives text May depth rows a b →
      AreAlternatives text (Known May tokens) depth rows a b × Rest May tokens (opened ∷ v) b
  scan_alternatives v same r (alternatives_one i) =
      let one = scan_block (opened ∷ v) (opened ∷ v) same same refl r i in (alternatives_one one.0, one.1)
  scan_alternatives v same r (alternatives_more are m i) =
      let one = scan_alternatives v same r are in
      let two = scan_block (opened ∷ v) (opened ∷ v) same same refl (rest_of (behind_plain one.1.here m refl refl)) i in
      (alternatives_more one.0 m two.0, two.1)

-- the declaration of a local
scan_local : {text : List ℕ} {May : List Token → ℕ → Type 0} {tokens : List Token} {v : List Waiting} {depth : ℕ}
    {d : LocalTree} {a b : List Token} → levels (opened ∷ v) ≡ depth → Rest May tokens (opened ∷ v) a →
    IsLocal text May depth d a b → IsLocal text (Known May tokens) depth d a b × Rest May tokens (opened ∷ v) b
scan_local {v} same r (local ty n m e s) =
    let named = name_rest refl (type_rest refl r ty) n in
    let one = scan_value same (level_opened v) (rest_of (behind_plain named.here m refl refl)) e in
    (local ty n m one.0 s, semicolon_rest refl one.1 s)

scan_body : {text : List ℕ} {May : List Token → ℕ → Type 0} {tokens : List Token} {v : List Waiting} {depth : ℕ}
    {ls : List LocalTree} {ss : List StmtTree} {a b : List Token} → levels (opened ∷ v) ≡ depth →
    Rest May tokens (opened ∷ v) a → IsBody text May depth ls ss a b →
    IsBody text (Known May tokens) depth ls ss a b × Calm May tokens (opened ∷ v) b
scan_body {v} same r (body ls ss) =
    let one = each_scan (λ x c d r is. scan_local same r is) r ls in
    let two = scan_stmts v same (rest_calm (level_opened v) one.1) ss in
    (body one.0 two.0, two.1)

-- bodies in braces
pub scan_braced : {text : List ℕ} {May : List Token → ℕ → Type 0} {tokens : List Token} {w : List Waiting} {depth : ℕ}
    {d : BodyTree} {a b : List Token} → levels w ≡ depth → past_else w ≡ w → Rest May tokens w a →
    IsBraced text May depth d a b → IsBraced text (Known May tokens) depth d a b × Rest May tokens w b
scan_braced {w} same past r (braced o may is c) =
    let p = opens w same r.here o refl may (ap (λ l. state (opened ∷ l) r.height) past) in
    let one = scan_body (ap (λ n. n + 1) same) (rest_of p.0) is in
    (braced o p.1 one.0 c, brace_rest one.1 c)

scan_answer : {text : List ℕ} {May : List Token → ℕ → Type 0} {tokens : List Token} {v : List Waiting} {depth : ℕ}
    {e : Option ExprTree} {a b : List Token} → levels (opened ∷ v) ≡ depth → Calm May tokens (opened ∷ v) a →
    IsOptional (IsReturn text May depth) e a b →
    IsOptional (IsReturn text (Known May tokens) depth) e a b × Calm May tokens (opened ∷ v) b
scan_answer same c optional_none = (optional_none, c)
scan_answer {v} same c (optional_some (return m e s)) =
    let one = scan_whole same (level_opened v) (calm_rest c m refl refl).here e in
    (optional_some (return m one.0 s), rest_calm (level_opened v) (semicolon_rest refl one.1 s))

pub scan_answering : {text : List ℕ} {May : List Token → ℕ → Type 0} {tokens : List Token} {w : List Waiting}
    {depth : ℕ} {d : BodyTree} {a b : List Token} → levels w ≡ depth → past_else w ≡ w → Rest May tokens w a →
    IsAnswering text May depth d a b → IsAnswering text (Known May tokens) depth d a b × Rest May tokens w b
scan_answering {w} same past r (answering o may is answer c) =
    let p = opens w same r.here o refl may (ap (λ l. state (opened ∷ l) r.height) past) in
    let one = scan_body (ap (λ n. n + 1) same) (rest_of p.0) is in
    let two = scan_answer (ap (λ n. n + 1) same) one.1 answer in
    (answering o p.1 one.0 two.0 c, brace_rest two.1 c)
