-- Statements by their first tokens, and rows of them.
use Rattle.std.proofs.Common.{◌≡◌, ℕ, inl, inr, Option, Some, None, List, [], ◌∷◌, ◌++◌, refl, sym, ap, ◌∙◌, subst}
use Rattle.tm_base.specs.declared.place.Place.{Place}
use Rattle.tm_syntax.specs.declared.token.Token.{Token}
use Rattle.tm_syntax.specs.declared.token.TokenKind.{TokenKind}
use Rattle.tm_syntax.specs.declared.token.TokenKind.TheVariants as token
use Rattle.tm_syntax.specs.declared.token.Word.TheVariants as word
use Rattle.tm_syntax.specs.declared.token.Sign.TheVariants as sign
use Rattle.tm_syntax.specs.declared.tree.Ident.{Ident}
use Rattle.tm_syntax.specs.Tree.{ExprTree, ValueTree, StmtTree, assign, choose, StmtRow, row_of, alternatives_of}
use Rattle.tm_syntax.specs.Grammar.Parts.{Has, IsMark, IsPath, AreEach, each_none, each_more, optional_none, optional_some}
use Rattle.tm_syntax.specs.Grammar.Statements.{IsPlace, place_path, place_element, IsStmt, stmt_assign, stmt_call, stmt_if, stmt_while, stmt_forever, stmt_choice, stmt_assert, stmt_assume, stmt_pause, stmt_wait, stmt_magic, IsIf, if_alone, if_else, if_else_if, stmts_none, stmts_more, AreAlternatives, alternatives_one, alternatives_more}
use Rattle.tm_parse.specs.declared.stop.Stop.{Stop}
use Rattle.tm_parse.specs.declared.statements.StmtSort.{StmtSort}
use Rattle.tm_parse.specs.declared.statements.StmtSort.TheVariants as sort
use Rattle.tm_parse.specs.declared.statements.FlatSort.TheVariants as flat
use Rattle.tm_parse.specs.Reading.{Reach, IsBound, first_kind, IsRefused, Takes, AnyOf}
use Rattle.tm_parse.specs.Operands.{encloses}
use Rattle.tm_parse.specs.Commands.{AValue, tests, shortly, IsStmtFrom, from_arguments, from_place, ABlock, IsIfFrom, from_test, else_none, else_some, from_block, from_if, IsOrBlock, or_block, IsChoice, choices, stmt_sort, IsSorted, is_path, is_if, is_while, is_forever, is_choice, is_assert, is_assume, is_pause, is_wait, is_magic, AStmtOf, GoesStmt, SomeStmts, GoesStmts}
use Rattle.tm_parse.proofs.Primaries.{path_kind}
use Rattle.tm_parse.proofs.Rows.{Each, none_here, one_here, each_view, each_cons, Grows, RowSoFar, row_more, row_all, row_blocked, row_start, Apart, EndsBy}
use Rattle.tm_parse.proofs.Taking.{Same, same_kind, takes_so, blocked_so, refused_so}
use Rattle.tm_parse.proofs.Terminals.{mark_kind, mark_has, has_kind, has_mark}

-- a statement
abbrev pub AStmt : List ℕ → ℕ → Reach → StmtTree → List Token → List Token → Type 0
AStmt text depth reach s a b = IsStmt text (IsBound reach) depth s a b

-- what stands behind the word `if`
record IfView (text : List ℕ) (reach : Reach) (depth : ℕ) (s : StmtTree) (tokens rest : List Token) : Type 0 where
  pub behind : List Token
  pub begins : Has (token.Word word.If) tokens behind
  pub is : IsIfFrom text reach depth s behind rest

if_view : {text : List ℕ} (reach : Reach) {depth : ℕ} {s : StmtTree} {a b : List Token} →
    IsIf text (IsBound reach) depth s a b → IfView text reach depth s a b
if_view reach (if_alone m is body) = record { behind = _; begins = m; is = from_test is body else_none }
if_view reach (if_else m is body n other) =
    record { behind = _; begins = m; is = from_test is body (else_some n (from_block other)) }
if_view reach (if_else_if m is body n w inner) =
    let v = if_view reach inner in
    record {
      behind = _;
      begins = m;
      is = from_test is body (else_some n (from_if (record { mark = (has_mark v.begins).1; within = w }) v.is));
    }

if_to : {text : List ℕ} {reach : Reach} {depth : ℕ} {s : StmtTree} {a b c : List Token} →
    Has (token.Word word.If) a b → IsIfFrom text reach depth s b c → IsIf text (IsBound reach) depth s a c
if_to m (from_test is body else_none) = if_alone m is body
if_to m (from_test is body (else_some n (from_block other))) = if_else m is body n other
if_to m (from_test is body (else_some n (from_if o h))) = if_else_if m is body n o.within (if_to (mark_has o.mark) h)

-- blocks with `or` between them, from the left
record Blocks (text : List ℕ) (depth : ℕ) (reach : Reach) (blocks : List StmtRow) (tokens rest : List Token) :
    Type 0 where
  pub body : List StmtTree
  pub others : List StmtRow
  pub between : List Token
  pub whole : blocks ≡ row_of body ∷ others
  pub first : ABlock text depth reach body tokens between
  pub are : AreEach (IsOrBlock text depth reach) others between rest

blocks_view : {text : List ℕ} (reach : Reach) {depth : ℕ} {blocks : List StmtRow} {a b : List Token} →
    AreAlternatives text (IsBound reach) depth blocks a b → Blocks text depth reach blocks a b
blocks_view reach (alternatives_one is) =
    record { body = _; others = []; between = _; whole = refl; first = is; are = each_none }
blocks_view reach (alternatives_more {body} front m is) =
    let v = blocks_view reach front in
    record {
      body = v.body;
      others = v.others ++ row_of body ∷ [];
      between = v.between;
      whole = ap (λ l. l ++ row_of body ∷ []) v.whole;
      first = v.first;
      are = each_more v.are (or_block m is);
    }

choice_of : {text : List ℕ} {depth : ℕ} {reach : Reach} {body : List StmtTree} {others : List StmtRow} {row : StmtRow}
    {a b c d : List Token} → ABlock text depth reach body a b → Each (IsOrBlock text depth reach) others b c →
    IsOrBlock text depth reach row c d → IsChoice text depth reach (row_of body ∷ (others ++ row ∷ [])) a d
choice_of is none_here last = choices is last each_none
choice_of is (one_here or are) last = choices is or (each_more are last)

blocks_to : {text : List ℕ} {depth : ℕ} (reach : Reach) {body : List StmtTree} {others : List StmtRow}
    {a b c : List Token} → ABlock text depth reach body a b → AreEach (IsOrBlock text depth reach) others b c →
    AreAlternatives text (IsBound reach) depth (row_of body ∷ others) a c
blocks_to reach is each_none = alternatives_one is
blocks_to reach is (each_more front (or_block n last)) = alternatives_more (blocks_to reach is front) n last

choice_to : {text : List ℕ} {depth : ℕ} (reach : Reach) {p : Place} {body : List StmtTree} {second : StmtRow}
    {others : List StmtRow} {a b c d e : List Token} → IsMark (token.Word word.Choice) p a b →
    ABlock text depth reach body b c → IsOrBlock text depth reach second c d →
    AreEach (IsOrBlock text depth reach) others d e →
    AStmt text depth reach (choose p (alternatives_of (row_of body ∷ second ∷ others))) a e
choice_to reach m is (or_block n last) each_none = stmt_choice m (alternatives_one is) n last
choice_to reach m is or (each_more front (or_block n last)) =
    stmt_choice m (blocks_to reach is (each_cons or front)) n last

-- a statement by its sort
pub record SortView (text : List ℕ) (depth : ℕ) (reach : Reach) (s : StmtTree) (tokens rest : List Token) : Type 0 where
  pub kind : StmtSort
  pub is : IsSorted text depth reach kind s tokens rest

place_view : {text : List ℕ} {depth : ℕ} (reach : Reach) {names : List Ident} {index : Option ExprTree} {v : ValueTree}
    {a b c d e : List Token} → IsPlace text (IsBound reach) depth names index a b →
    Has (token.Sign sign.Assign) b c → AValue text depth reach v c d → Has (token.Sign sign.Semicolon) d e →
    SortView text depth reach (assign names index v) a e
place_view reach (place_path p) m v n = record { kind = sort.Path; is = is_path p (from_place optional_none m v n) }
place_view reach (place_element p o w is c) m v n = record {
  kind = sort.Path;
  is = is_path p
      (from_place (optional_some (encloses (record { mark = (has_mark o).1; within = w }) is c)) m v n);
}

choice_view : {text : List ℕ} {depth : ℕ} (reach : Reach) {p : Place} {blocks : List StmtRow} {last : List StmtTree}
    {a b c d e : List Token} → IsMark (token.Word word.Choice) p a b →
    AreAlternatives text (IsBound reach) depth blocks b c → Has (token.Word word.Or) c d →
    ABlock text depth reach last d e →
    SortView text depth reach (choose p (alternatives_of (blocks ++ row_of last ∷ []))) a e
choice_view {text} {depth} reach {p} {last} {a} {e} m alternatives n is =
    let v = blocks_view reach alternatives in
    subst (λ l. SortView text depth reach (choose p (alternatives_of (l ++ row_of last ∷ []))) a e) (sym v.whole)
    (record { kind = sort.Choice; is = is_choice m (choice_of v.first (each_view v.are) (or_block n is)) })

pub sort_view : {text : List ℕ} {depth : ℕ} (reach : Reach) {s : StmtTree} {a b : List Token} →
    AStmt text depth reach s a b →
    SortView text depth reach s a b
sort_view reach (stmt_assign p m v n) = place_view reach p m v n
sort_view reach (stmt_call p es m) = record { kind = sort.Path; is = is_path p (from_arguments es m) }
sort_view reach (stmt_if h) = let v = if_view reach h in record { kind = sort.If; is = is_if v.begins v.is }
sort_view reach (stmt_while m is body) = record { kind = sort.While; is = is_while m is body }
sort_view reach (stmt_forever m body) = record { kind = sort.Forever; is = is_forever m body }
sort_view reach (stmt_choice m alternatives n is) = choice_view reach m alternatives n is
sort_view reach (stmt_assert m is n) = record { kind = sort.Flat flat.Assert; is = is_assert (tests m is n) }
sort_view reach (stmt_assume m is n) = record { kind = sort.Flat flat.Assume; is = is_assume (tests m is n) }
sort_view reach (stmt_pause m n) = record { kind = sort.Flat flat.Pause; is = is_pause (shortly m n) }
sort_view reach (stmt_wait m is n) = record { kind = sort.Flat flat.Wait; is = is_wait (tests m is n) }
sort_view reach (stmt_magic m n) = record { kind = sort.Flat flat.Magic; is = is_magic (shortly m n) }

pub path_to : {text : List ℕ} {depth : ℕ} {reach : Reach} {names : List Ident} {s : StmtTree} {a b c : List Token} →
    IsPath text names a b → IsStmtFrom text depth names reach s b c → AStmt text depth reach s a c
path_to p (from_arguments es m) = stmt_call p es m
path_to p (from_place optional_none m v n) = stmt_assign (place_path p) m v n
path_to p (from_place (optional_some (encloses o is c)) m v n) =
    stmt_assign (place_element p (mark_has o.mark) o.within is c) m v n

choose_to : {text : List ℕ} {depth : ℕ} {reach : Reach} {p : Place} {rows : List StmtRow} {a b c : List Token} →
    IsMark (token.Word word.Choice) p a b → IsChoice text depth reach rows b c →
    AStmt text depth reach (choose p (alternatives_of rows)) a c
choose_to {reach} m (choices is or are) = choice_to reach m is or are

sort_to : {text : List ℕ} {depth : ℕ} {reach : Reach} {k : StmtSort} {s : StmtTree} {a b : List Token} →
    IsSorted text depth reach k s a b → AStmt text depth reach s a b
sort_to (is_path p h) = path_to p h
sort_to (is_if m h) = stmt_if (if_to m h)
sort_to (is_while m is body) = stmt_while m is body
sort_to (is_forever m body) = stmt_forever m body
sort_to (is_choice m h) = choose_to m h
sort_to (is_assert (tests m is n)) = stmt_assert m is n
sort_to (is_assume (tests m is n)) = stmt_assume m is n
sort_to (is_pause (shortly m n)) = stmt_pause m n
sort_to (is_wait (tests m is n)) = stmt_wait m is n
sort_to (is_magic (shortly m n)) = stmt_magic m n

sorted : {text : List ℕ} {depth : ℕ} {reach : Reach} {k : StmtSort} {s : StmtTree} {a b : List Token} →
    IsSorted text depth reach k s a b → stmt_sort (first_kind a) ≡ Some k
sorted (is_path p h) = ap stmt_sort (path_kind p)
sorted (is_if m h) = ap stmt_sort (has_kind m)
sorted (is_while m is body) = ap stmt_sort (mark_kind m)
sorted (is_forever m body) = ap stmt_sort (mark_kind m)
sorted (is_choice m h) = ap stmt_sort (mark_kind m)
sorted (is_assert (tests m is n)) = ap stmt_sort (mark_kind m)
sorted (is_assume (tests m is n)) = ap stmt_sort (mark_kind m)
sorted (is_pause (shortly m n)) = ap stmt_sort (mark_kind m)
sorted (is_wait (tests m is n)) = ap stmt_sort (mark_kind m)
sorted (is_magic (shortly m n)) = ap stmt_sort (mark_kind m)

pub stmt_begins : {text : List ℕ} {depth : ℕ} (reach : Reach) {s : StmtTree} {a b : List Token} →
    AStmt text depth reach s a b → (k : StmtSort) × (stmt_sort (first_kind a) ≡ Some k)
stmt_begins reach is = let v = sort_view reach is in (v.kind, sorted v.is)

-- a statement that begins here is one of the sort that begins here
sort_is : {text : List ℕ} {depth : ℕ} (k : StmtSort) (a : List Token) → stmt_sort (first_kind a) ≡ Some k →
    Same (AStmtOf text depth k) (AStmt text depth) GoesStmt (λ s. s) a
sort_is {text} {depth} k a begins = record {
  to = λ reach s b c h. sort_to h;
  from = λ reach s b c same stop is.
      let v = sort_view reach is in
      let kinds : Some v.kind ≡ Some k = sym (sorted v.is) ∙ ap stmt_sort (same_kind b a same) ∙ begins in
      let kind : v.kind ≡ k = cc in
      (s, subst (λ l. IsSorted text depth reach l s b c) kind v.is, refl);
}

-- statements that were read so far
abbrev pub StmtsSoFar : List ℕ → ℕ → List StmtTree → List Token → List Token → Type 0
StmtsSoFar text depth = RowSoFar (SomeStmts text depth) (AStmt text depth) (EndsBy GoesStmts)

pub stmts_each : {text : List ℕ} (reach : Reach) {depth : ℕ} {ss : List StmtTree} {a b : List Token} →
    SomeStmts text depth reach ss a b → AreEach (AStmt text depth reach) ss a b
stmts_each reach stmts_none = each_none
stmts_each reach (stmts_more front last) = each_more (stmts_each reach front) last

stmts_grow : {text : List ℕ} {depth : ℕ} → Grows (SomeStmts text depth) (AStmt text depth)
stmts_grow = record { more = λ reach ss s a b c front last. stmts_more front last }

pub no_goes_stmt : {kind : Option TokenKind} {k : StmtSort} → stmt_sort kind ≡ Some k → ¬ GoesStmt kind
no_goes_stmt begins (inl other) = let none : None ≡ Some _ = ap stmt_sort (sym other) ∙ begins in cc
no_goes_stmt begins (inr other) = let none : None ≡ Some _ = ap stmt_sort (sym other) ∙ begins in cc

stmts_apart : {text : List ℕ} {depth : ℕ} → Apart (AStmt text depth) GoesStmt (EndsBy GoesStmts)
stmts_apart = record {
  begins = λ reach s a b is. no_goes_stmt (stmt_begins reach is).1;
  ends = λ reach s a b is ended. ended (inl (stmt_begins reach is));
  last = λ a ended goes. ended (inr goes);
}

pub stmts_begun : {text : List ℕ} {depth : ℕ} {a : List Token} → StmtsSoFar text depth [] a a
stmts_begun {text} {depth} = row_start (λ reach a. stmts_none) (λ reach ss a b h. stmts_each reach h)

pub stmts_next : {text : List ℕ} {depth : ℕ} {ss : List StmtTree} {s : StmtTree} (k : StmtSort) {a b c : List Token} →
    stmt_sort (first_kind b) ≡ Some k → StmtsSoFar text depth ss a b → Takes (AStmtOf text depth k) GoesStmt s b c →
    StmtsSoFar text depth (ss ++ s ∷ []) a c
stmts_next {s} k {b} begins p r =
    row_more stmts_grow stmts_apart p (takes_so {tree = λ t. t} (sort_is k b begins) r)

pub stmts_all : {text : List ℕ} {depth : ℕ} {ss : List StmtTree} {a b : List Token} →
    stmt_sort (first_kind b) ≡ None → StmtsSoFar text depth ss a b → Takes (SomeStmts text depth) GoesStmts ss a b
stmts_all {b} ended p =
    row_all (λ reach s d e same is.
    let begins = stmt_begins reach is in
    let none : None ≡ Some begins.0 = sym ended ∙ sym (ap stmt_sort (same_kind d b same)) ∙ begins.1 in
    cc) p

pub no_stmts : {text : List ℕ} {depth : ℕ} {ss : List StmtTree} (k : StmtSort) {a b : List Token} →
    stmt_sort (first_kind b) ≡ Some k → StmtsSoFar text depth ss a b → (e : Stop) →
    IsRefused (AnyOf (AStmtOf text depth k)) GoesStmt b e → IsRefused (AnyOf (SomeStmts text depth)) GoesStmts a e
no_stmts k {b} begins p e h =
    refused_so (λ deep here blocked.
    row_blocked stmts_grow stmts_apart (inl (k, begins)) p (blocked_so (sort_is k b begins) blocked)) e h
