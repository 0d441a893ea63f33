-- Statements: what stands behind a path, and statements that hold no others.
use Rattle.std.proofs.Common.{◌≡◌, ◌≢◌, ℕ, inl, inr, Option, Some, None, List, refl, sym, ◌∙◌, subst}
use Rattle.tm_base.specs.declared.place.Place.{Place}
use Rattle.tm_syntax.specs.declared.token.Token.{Token}
use Rattle.tm_syntax.specs.declared.token.TokenKind.{TokenKind}
use Rattle.tm_syntax.specs.declared.token.TokenKind.TheVariants as token
use Rattle.tm_syntax.specs.declared.token.Word.{Word}
use Rattle.tm_syntax.specs.declared.token.Word.TheVariants as word
use Rattle.tm_syntax.specs.declared.token.Sign.TheVariants as sign
use Rattle.tm_syntax.specs.declared.tree.Ident.{Ident}
use Rattle.tm_syntax.specs.Tree.{ExprTree, ValueTree, StmtTree, assign, invoke, assert, assume, pause, wait, magic}
use Rattle.tm_syntax.specs.Grammar.Parts.{Has, IsMark, IsPath, optional_none, optional_some}
use Rattle.tm_syntax.specs.Grammar.Statements.{condition}
use Rattle.tm_parse.specs.declared.stop.Stop.{Stop}
use Rattle.tm_parse.specs.declared.statements.StmtSort.TheVariants as sort
use Rattle.tm_parse.specs.declared.statements.FlatSort.{FlatSort}
use Rattle.tm_parse.specs.declared.statements.FlatSort.TheVariants as flat
use Rattle.tm_parse.specs.Reading.{Reach, first_of, first_kind, IsRefused, Takes, AnyOf, Nothing, TheMark, GoesOn}
use Rattle.tm_parse.specs.Operands.{GoesExpr, IsEnclosed, encloses}
use Rattle.tm_parse.specs.Commands.{GoesAt, AreArgs, AValue, GoesValue, ACondition, IsTest, tests, IsShort, shortly, AnIndex, IsStmtFrom, from_arguments, from_place, is_path, is_assert, is_assume, is_pause, is_wait, is_magic, AStmtOf, GoesStmt}
use Rattle.tm_parse.proofs.Arguments.{other_kind, BeginsAt, taken_absent, present_is, word_so}
use Rattle.tm_parse.proofs.Goes.{no_goes}
use Rattle.tm_parse.proofs.Primaries.{looser, looser_blocked, enclosed_word}
use Rattle.tm_parse.proofs.Taking.{Both, Same, AnyWord, same_kind, takes_both, takes_then, takes_so, at_first, at_second, blocked_first, blocked_second, blocked_so, both_word, refused_so, refused_in}
use Rattle.tm_parse.proofs.Terminals.{mark_kind, mark_has, has_kind, has_mark, mark_word, without_place, with_place}
use Rattle.tm_parse.proofs.Values.{args_kind, args_word, value_word}

-- a token and ";"
abbrev ShortParts : TokenKind → Reach → Place × Unit {0} → List Token → List Token → Type 0
ShortParts k = Both (λ _. IsMark k) (λ _. TheMark (token.Sign sign.Semicolon))

short_is : {k : TokenKind} (a : List Token) → Same (ShortParts k) (IsShort k) Nothing (λ t. t.0) a
short_is {k} a = record {
  to = λ reach t b c h. shortly h.first h.second;
  from = λ reach p b c same stop h. from reach p b c h;
}
  where
    from : (reach : Reach) (p : Place) (b c : List Token) → IsShort k reach p b c →
        (t : Place × Unit {0}) × ShortParts k reach t b c × (p ≡ t.0)
    from reach p b c (shortly m n) = ((_, tt), record { between = _; first = m; second = n }, refl)

pub taken_short : {k : TokenKind} {p q : Place} {a b c : List Token} → Takes (λ _. IsMark k) Nothing p a b →
    Takes (λ _. IsMark (token.Sign sign.Semicolon)) Nothing q b c → Takes (IsShort k) Nothing p a c
taken_short m n = takes_so (short_is _) (takes_then m (without_place n))

pub no_short_mark : (k : TokenKind) (a : List Token) (e : Stop) → IsRefused (AnyOf (TheMark k)) Nothing a e →
    IsRefused (AnyOf (IsShort k)) Nothing a e
no_short_mark k a e h =
    refused_in (short_is a) (λ deep here blocked.
    at_first (with_place blocked) (mark_word (token.Sign sign.Semicolon))) e h

pub no_short_end : {k : TokenKind} {p : Place} {a b : List Token} → Takes (λ _. IsMark k) Nothing p a b → (e : Stop) →
    IsRefused (AnyOf (TheMark (token.Sign sign.Semicolon))) Nothing b e → IsRefused (AnyOf (IsShort k)) Nothing a e
no_short_end m e h = refused_in (short_is _) (λ deep here blocked. at_second m blocked) e h

-- a condition is an expression in parentheses
condition_is : {text : List ℕ} {depth : ℕ} (a : List Token) →
    Same (IsEnclosed text sign.OpenParenthesis sign.CloseParenthesis depth) (ACondition text depth) Nothing (λ e. e) a
condition_is {text} {depth} a = record {
  to = λ reach e b c h. to reach e b c h;
  from = λ reach e b c same stop h. from reach e b c h;
}
  where
    to : (reach : Reach) (e : ExprTree) (b c : List Token) →
        IsEnclosed text sign.OpenParenthesis sign.CloseParenthesis depth reach e b c → ACondition text depth reach e b c
    to reach e b c (encloses o is m) = condition (mark_has o.mark) o.within is m

    from : (reach : Reach) (e : ExprTree) (b c : List Token) → ACondition text depth reach e b c →
        (f : ExprTree) × IsEnclosed text sign.OpenParenthesis sign.CloseParenthesis depth reach f b c × (e ≡ f)
    from reach e b c (condition o w is m) =
        (_, encloses (record { mark = (has_mark o).1; within = w }) is m, refl)

pub taken_condition : {text : List ℕ} {depth : ℕ} {e : ExprTree} {a b : List Token} →
    Takes (IsEnclosed text sign.OpenParenthesis sign.CloseParenthesis depth) Nothing e a b →
    Takes (ACondition text depth) Nothing e a b
taken_condition r = takes_so (condition_is _) r

pub no_condition : (text : List ℕ) (depth : ℕ) (a : List Token) (e : Stop) →
    IsRefused (AnyOf (IsEnclosed text sign.OpenParenthesis sign.CloseParenthesis depth)) Nothing a e →
    IsRefused (AnyOf (ACondition text depth)) Nothing a e
no_condition text depth a e h = refused_in (condition_is a) (λ deep here blocked. blocked) e h

pub condition_word : {X : Type 0} (text : List ℕ) (depth : ℕ) → AnyWord {X = X} (λ x. ACondition text depth)
condition_word text depth =
    word_so (λ w e. e) (λ w reach e a b h. (condition_is a).to reach e a b h)
    (enclosed_word text sign.OpenParenthesis sign.CloseParenthesis depth)

-- a word, a condition, ";"
abbrev TestParts : List ℕ → Word → ℕ → Reach → Place × (ExprTree × Unit {0}) → List Token → List Token → Type 0
TestParts text w depth = Both (λ _. IsMark (token.Word w))
    (λ _. Both (ACondition text depth) (λ _. TheMark (token.Sign sign.Semicolon)))

test_is : {text : List ℕ} {w : Word} {depth : ℕ} (a : List Token) →
    Same (TestParts text w depth) (IsTest text w depth) Nothing (λ t. (t.0, t.1.0)) a
test_is {text} {w} {depth} a = record {
  to = λ reach t b c h. tests h.first h.second.first h.second.second;
  from = λ reach t b c same stop h. from reach t b c h;
}
  where
    from : (reach : Reach) (t : Place × ExprTree) (b c : List Token) → IsTest text w depth reach t b c →
        (u : Place × (ExprTree × Unit {0})) × TestParts text w depth reach u b c × (t ≡ (u.0, u.1.0))
    from reach t b c (tests m is n) =
        ((_, (_, tt)), record { between = _; first = m; second = record { between = _; first = is; second = n } }, refl)

pub taken_test : {text : List ℕ} {w : Word} {depth : ℕ} {p q : Place} {e : ExprTree} {a b c d : List Token} →
    Takes (λ _. IsMark (token.Word w)) Nothing p a b → Takes (ACondition text depth) Nothing e b c →
    Takes (λ _. IsMark (token.Sign sign.Semicolon)) Nothing q c d → Takes (IsTest text w depth) Nothing (p, e) a d
taken_test m r n = takes_so (test_is _) (takes_then m (takes_then r (without_place n)))

pub no_test_word : (text : List ℕ) (w : Word) (depth : ℕ) (a : List Token) (e : Stop) →
    IsRefused (AnyOf (TheMark (token.Word w))) Nothing a e → IsRefused (AnyOf (IsTest text w depth)) Nothing a e
no_test_word text w depth a e h =
    refused_in (test_is a) (λ deep here blocked. at_first (with_place blocked)
    (both_word (condition_word text depth) (mark_word (token.Sign sign.Semicolon)))) e h

pub no_test_condition : (text : List ℕ) (w : Word) (depth : ℕ) {p : Place} {a b : List Token} →
    Takes (λ _. IsMark (token.Word w)) Nothing p a b → (e : Stop) →
    IsRefused (AnyOf (ACondition text depth)) Nothing b e → IsRefused (AnyOf (IsTest text w depth)) Nothing a e
no_test_condition text w depth m e h =
    refused_in (test_is _) (λ deep here blocked. at_second m
    (at_first blocked (mark_word (token.Sign sign.Semicolon)))) e h

pub no_test_end : {text : List ℕ} {w : Word} {depth : ℕ} {p : Place} {x : ExprTree} {a b c : List Token} →
    Takes (λ _. IsMark (token.Word w)) Nothing p a b → Takes (ACondition text depth) Nothing x b c → (e : Stop) →
    IsRefused (AnyOf (TheMark (token.Sign sign.Semicolon))) Nothing c e →
    IsRefused (AnyOf (IsTest text w depth)) Nothing a e
no_test_end m r e h =
    refused_in (test_is _) (λ deep here blocked. at_second m (at_second r blocked)) e h

-- an index begins with a bracket
pub index_begins : (text : List ℕ) (depth : ℕ) →
    BeginsAt (IsEnclosed text sign.OpenBracket sign.CloseBracket depth) (token.Sign sign.OpenBracket)
index_begins text depth = record { kind = λ reach e a b h. kind reach e a b h }
  where
    kind : (reach : Reach) (e : ExprTree) (a b : List Token) →
        IsEnclosed text sign.OpenBracket sign.CloseBracket depth reach e a b →
        first_kind a ≡ Some (token.Sign sign.OpenBracket)
    kind reach e a b (encloses o is m) = mark_kind o.mark

pub taken_no_index : (text : List ℕ) (depth : ℕ) (a : List Token) →
    ¬ (first_kind a ≡ Some (token.Sign sign.OpenBracket)) →
    Takes (AnIndex text depth) (GoesAt (token.Sign sign.OpenBracket)) None a a
taken_no_index text depth a none = taken_absent a (index_begins text depth) none

pub taken_index : {text : List ℕ} {depth : ℕ} {e : ExprTree} (a : List Token) {b : List Token} →
    first_kind a ≡ Some (token.Sign sign.OpenBracket) →
    Takes (IsEnclosed text sign.OpenBracket sign.CloseBracket depth) Nothing e a b →
    Takes (AnIndex text depth) (GoesAt (token.Sign sign.OpenBracket)) (Some e) a b
taken_index a kind r = takes_so (present_is a kind) (looser r)

pub no_index : (text : List ℕ) (depth : ℕ) (a : List Token) → first_kind a ≡ Some (token.Sign sign.OpenBracket) →
    (e : Stop) → IsRefused (AnyOf (IsEnclosed text sign.OpenBracket sign.CloseBracket depth)) Nothing a e →
    IsRefused (AnyOf (AnIndex text depth)) (GoesAt (token.Sign sign.OpenBracket)) a e
no_index text depth a kind e h =
    refused_in (present_is a kind) (λ deep here blocked. looser_blocked blocked) e h

-- the index, if there is one, and "="
pub index_opens : {text : List ℕ} {depth : ℕ} {reach : Reach} {index : Option ExprTree} {a b c : List Token}
    (k : TokenKind) → token.Sign sign.OpenBracket ≢ k → token.Sign sign.Assign ≢ k →
    AnIndex text depth reach index a b →
    Has (token.Sign sign.Assign) b c → ¬ (first_kind a ≡ Some k)
index_opens k bracket assigns optional_none m kind =
    let kinds = other_kind (has_kind m) kind in assigns (cc)
index_opens k bracket assigns (optional_some (encloses o is c)) m kind =
    let kinds = other_kind (mark_kind o.mark) kind in bracket (cc)

-- arguments and ";"
abbrev CallParts : List ℕ → ℕ → Reach → List ExprTree × Unit {0} → List Token → List Token → Type 0
CallParts text depth = Both (AreArgs text depth) (λ _. TheMark (token.Sign sign.Semicolon))

call_stmt_is : {text : List ℕ} {depth : ℕ} (names : List Ident) (a : List Token) →
    first_kind a ≡ Some (token.Sign sign.OpenParenthesis) →
    Same (CallParts text depth) (IsStmtFrom text depth names) Nothing (λ t. invoke names t.0) a
call_stmt_is {text} {depth} names a kind = record {
  to = λ reach t b c h. from_arguments h.first h.second;
  from = λ reach s b c same stop h. from reach s b c (same_kind b a same ∙ kind) h;
}
  where
    from : (reach : Reach) (s : StmtTree) (b c : List Token) → first_kind b ≡ Some (token.Sign sign.OpenParenthesis) →
        IsStmtFrom text depth names reach s b c →
        (t : List ExprTree × Unit {0}) × CallParts text depth reach t b c × (s ≡ invoke names t.0)
    from reach s b c kind (from_arguments es m) = ((_, tt), record { between = _; first = es; second = m }, refl)
    from reach s b c kind (from_place i m v n) =
        absurd (index_opens (token.Sign sign.OpenParenthesis) (λ e. cc) (λ e. cc) i m kind)

pub taken_call_stmt : {text : List ℕ} {depth : ℕ} {es : List ExprTree} {q : Place} (names : List Ident)
    {a b c : List Token} → first_kind a ≡ Some (token.Sign sign.OpenParenthesis) →
    Takes (AreArgs text depth) Nothing es a b →
    Takes (λ _. IsMark (token.Sign sign.Semicolon)) Nothing q b c →
    Takes (IsStmtFrom text depth names) Nothing (invoke names es) a c
taken_call_stmt names kind r m = takes_so (call_stmt_is names _ kind) (takes_then r (without_place m))

pub no_call_stmt : (text : List ℕ) (depth : ℕ) (names : List Ident) (a : List Token) →
    first_kind a ≡ Some (token.Sign sign.OpenParenthesis) → (e : Stop) →
    IsRefused (AnyOf (AreArgs text depth)) Nothing a e → IsRefused (AnyOf (IsStmtFrom text depth names)) Nothing a e
no_call_stmt text depth names a kind e h =
    refused_in (call_stmt_is names a kind) (λ deep here blocked.
    at_first blocked (mark_word (token.Sign sign.Semicolon))) e h

pub no_call_stmt_end : {text : List ℕ} {depth : ℕ} {es : List ExprTree} (names : List Ident) {a b : List Token} →
    first_kind a ≡ Some (token.Sign sign.OpenParenthesis) → Takes (AreArgs text depth) Nothing es a b → (e : Stop) →
    IsRefused (AnyOf (TheMark (token.Sign sign.Semicolon))) Nothing b e →
    IsRefused (AnyOf (IsStmtFrom text depth names)) Nothing a e
no_call_stmt_end names kind r e h =
    refused_in (call_stmt_is names _ kind) (λ deep here blocked. at_second r blocked) e h

-- an index, "=", a value, ";"
abbrev ValueEnd : List ℕ → ℕ → Reach → ValueTree × Unit {0} → List Token → List Token → Type 0
ValueEnd text depth = Both (AValue text depth) (λ _. TheMark (token.Sign sign.Semicolon))

abbrev Assigned : List ℕ → ℕ → Reach → Unit {0} × (ValueTree × Unit {0}) → List Token → List Token → Type 0
Assigned text depth = Both (TheMark (token.Sign sign.Assign)) (λ _. ValueEnd text depth)

abbrev PlaceStmtParts : List ℕ → ℕ → Reach → Option ExprTree × (Unit {0} × (ValueTree × Unit {0})) → List Token →
    List Token → Type 0
PlaceStmtParts text depth = Both (AnIndex text depth) (λ _. Assigned text depth)

place_stmt_is : {text : List ℕ} {depth : ℕ} (names : List Ident) (a : List Token) →
    ¬ (first_kind a ≡ Some (token.Sign sign.OpenParenthesis)) →
    Same (PlaceStmtParts text depth) (IsStmtFrom text depth names) Nothing (λ t. assign names t.0 t.1.1.0) a
place_stmt_is {text} {depth} names a none = record {
  to = λ reach t b c h. from_place h.first h.second.first h.second.second.first h.second.second.second;
  from = λ reach s b c same stop h. from reach s b c same h;
}
  where
    from : (reach : Reach) (s : StmtTree) (b c : List Token) → first_of b ≡ first_of a →
        IsStmtFrom text depth names reach s b c →
        (t : Option ExprTree × (Unit {0} × (ValueTree × Unit {0}))) × PlaceStmtParts text depth reach t b c
        × (s ≡ assign names t.0 t.1.1.0)
    from reach s b c same (from_arguments es m) = absurd (none (sym (same_kind b a same) ∙ args_kind reach es))
    from reach s b c same (from_place i m v n) = (
      (_, (tt, (_, tt))),
      record {
        between = _;
        first = i;
        second = record { between = _; first = m; second = record { between = _; first = v; second = n } };
      },
      refl,
    )

-- ";" goes on with no value
pub semicolon_parts : {X : Type 0} (reach : Reach) (x : X) (y : Unit {0}) (a b : List Token) →
    TheMark (token.Sign sign.Semicolon) reach y a b → ¬ Nothing (first_kind b) → ¬ GoesValue (first_kind a)
semicolon_parts reach x y a b m stop (inl opens) = let kinds = other_kind (has_kind m) opens in cc
semicolon_parts reach x y a b m stop (inr goes) =
    no_goes 0 sign.Semicolon refl (λ e. cc) (λ e. cc) (λ loose e. cc) (subst (GoesExpr 0) (has_kind m) goes)

assign_parts : {text : List ℕ} {depth : ℕ} (reach : Reach) (x : Option ExprTree)
    (y : Unit {0} × (ValueTree × Unit {0})) (a b : List Token) → Assigned text depth reach y a b →
    ¬ Nothing (first_kind b) → ¬ GoesAt (token.Sign sign.OpenBracket) (first_kind a)
assign_parts reach x y a b h stop opens = let kinds = other_kind (has_kind h.first) opens in cc

value_end_word : {X : Type 0} (text : List ℕ) (depth : ℕ) → AnyWord {X = X} (λ x. ValueEnd text depth)
value_end_word text depth = both_word (value_word text depth) (mark_word (token.Sign sign.Semicolon))

assigned_word : {X : Type 0} (text : List ℕ) (depth : ℕ) → AnyWord {X = X} (λ x. Assigned text depth)
assigned_word text depth = both_word (mark_word (token.Sign sign.Assign)) (value_end_word text depth)

pub taken_place_stmt : {text : List ℕ} {depth : ℕ} {index : Option ExprTree} {v : ValueTree} {p q : Place}
    (names : List Ident) (a : List Token) {b c d e : List Token} →
    ¬ (first_kind a ≡ Some (token.Sign sign.OpenParenthesis)) →
    Takes (AnIndex text depth) (GoesAt (token.Sign sign.OpenBracket)) index a b →
    Takes (λ _. IsMark (token.Sign sign.Assign)) Nothing p b c → Takes (AValue text depth) GoesValue v c d →
    Takes (λ _. IsMark (token.Sign sign.Semicolon)) Nothing q d e →
    Takes (IsStmtFrom text depth names) Nothing (assign names index v) a e
taken_place_stmt names a none i m r n =
    takes_so (place_stmt_is names a none) (takes_both i assign_parts
    (takes_then (without_place m) (takes_both r semicolon_parts (without_place n))))

pub no_place_index : (text : List ℕ) (depth : ℕ) (names : List Ident) (a : List Token) →
    ¬ (first_kind a ≡ Some (token.Sign sign.OpenParenthesis)) → (e : Stop) →
    IsRefused (AnyOf (AnIndex text depth)) (GoesAt (token.Sign sign.OpenBracket)) a e →
    IsRefused (AnyOf (IsStmtFrom text depth names)) Nothing a e
no_place_index text depth names a none e h =
    refused_in (place_stmt_is names a none) (λ deep here blocked.
    blocked_first blocked (assigned_word text depth) assign_parts) e h

pub no_place_assign : (text : List ℕ) (depth : ℕ) {index : Option ExprTree} (names : List Ident) (a : List Token)
    {b : List Token} → ¬ (first_kind a ≡ Some (token.Sign sign.OpenParenthesis)) →
    Takes (AnIndex text depth) (GoesAt (token.Sign sign.OpenBracket)) index a b → (e : Stop) →
    IsRefused (AnyOf (TheMark (token.Sign sign.Assign))) Nothing b e →
    IsRefused (AnyOf (IsStmtFrom text depth names)) Nothing a e
no_place_assign text depth names a none i e h =
    refused_in (place_stmt_is names a none) (λ deep here blocked.
    blocked_second i assign_parts (at_first blocked (value_end_word text depth))) e h

pub no_place_value : {text : List ℕ} {depth : ℕ} {index : Option ExprTree} {p : Place} (names : List Ident)
    (a : List Token) {b c : List Token} → ¬ (first_kind a ≡ Some (token.Sign sign.OpenParenthesis)) →
    Takes (AnIndex text depth) (GoesAt (token.Sign sign.OpenBracket)) index a b →
    Takes (λ _. IsMark (token.Sign sign.Assign)) Nothing p b c → (e : Stop) →
    IsRefused (AnyOf (AValue text depth)) GoesValue c e → IsRefused (AnyOf (IsStmtFrom text depth names)) Nothing a e
no_place_value names a none i m e h =
    refused_in (place_stmt_is names a none) (λ deep here blocked.
    blocked_second i assign_parts (at_second (without_place m)
    (blocked_first blocked (mark_word (token.Sign sign.Semicolon)) semicolon_parts))) e h

pub no_place_end : {text : List ℕ} {depth : ℕ} {index : Option ExprTree} {p : Place} {v : ValueTree}
    (names : List Ident) (a : List Token) {b c d : List Token} →
    ¬ (first_kind a ≡ Some (token.Sign sign.OpenParenthesis)) →
    Takes (AnIndex text depth) (GoesAt (token.Sign sign.OpenBracket)) index a b →
    Takes (λ _. IsMark (token.Sign sign.Assign)) Nothing p b c → Takes (AValue text depth) GoesValue v c d →
    (e : Stop) →
    IsRefused (AnyOf (TheMark (token.Sign sign.Semicolon))) Nothing d e →
    IsRefused (AnyOf (IsStmtFrom text depth names)) Nothing a e
no_place_end names a none i m r e h =
    refused_in (place_stmt_is names a none) (λ deep here blocked.
    blocked_second i assign_parts (at_second (without_place m) (blocked_second r semicolon_parts blocked))) e h

-- a path, and what stands behind it
abbrev PathStmtParts : List ℕ → ℕ → Reach → List Ident × StmtTree → List Token → List Token → Type 0
PathStmtParts text depth = Both (λ _. IsPath text) (λ names. IsStmtFrom text depth names)

path_stmt_is : {text : List ℕ} {depth : ℕ} (a : List Token) →
    Same (PathStmtParts text depth) (AStmtOf text depth sort.Path) Nothing (λ t. t.1) a
path_stmt_is {text} {depth} a = record {
  to = λ reach t b c h. is_path h.first h.second;
  from = λ reach s b c same stop h. from reach s b c h;
}
  where
    from : (reach : Reach) (s : StmtTree) (b c : List Token) → AStmtOf text depth sort.Path reach s b c →
        (t : List Ident × StmtTree) × PathStmtParts text depth reach t b c × (s ≡ t.1)
    from reach s b c (is_path p f) = ((_, _), record { between = _; first = p; second = f }, refl)

path_stmt_parts : {text : List ℕ} {depth : ℕ} (reach : Reach) (x : List Ident) (y : StmtTree) (a b : List Token) →
    IsStmtFrom text depth x reach y a b → ¬ Nothing (first_kind b) → ¬ GoesOn sign.Dot Nothing (first_kind a)
path_stmt_parts reach x y a b (from_arguments es m) stop (inl dot) = let kinds = other_kind (args_kind reach es) dot
    in cc
path_stmt_parts reach x y a b (from_place i m v n) stop (inl dot) =
    index_opens (token.Sign sign.Dot) (λ e. cc) (λ e. cc) i m dot
path_stmt_parts reach x y a b h stop (inr none) = none

pub stmt_from_word : (text : List ℕ) (depth : ℕ) → AnyWord (λ (names : List Ident). IsStmtFrom text depth names)
stmt_from_word text depth =
    word_so (λ names t. invoke names t.0) (λ names reach t a b h. from_arguments h.first h.second)
    (both_word (args_word text depth) (mark_word (token.Sign sign.Semicolon)))

pub taken_path_stmt : {text : List ℕ} {depth : ℕ} {names : List Ident} {s : StmtTree} {a b c : List Token} →
    Takes (λ _. IsPath text) (GoesOn sign.Dot Nothing) names a b → Takes (IsStmtFrom text depth names) Nothing s b c →
    Takes (AStmtOf text depth sort.Path) GoesStmt s a c
taken_path_stmt r s = looser (takes_so (path_stmt_is _) (takes_both r path_stmt_parts s))

pub no_path_stmt_path : (text : List ℕ) (depth : ℕ) (a : List Token) (e : Stop) →
    IsRefused (AnyOf (λ _. IsPath text)) (GoesOn sign.Dot Nothing) a e →
    IsRefused (AnyOf (AStmtOf text depth sort.Path)) GoesStmt a e
no_path_stmt_path text depth a e h =
    refused_so (λ deep here blocked. looser_blocked (blocked_so (path_stmt_is a)
    (blocked_first blocked (stmt_from_word text depth) path_stmt_parts))) e h

pub no_path_stmt_from : {text : List ℕ} (depth : ℕ) {names : List Ident} {a b : List Token} →
    Takes (λ _. IsPath text) (GoesOn sign.Dot Nothing) names a b → (e : Stop) →
    IsRefused (AnyOf (IsStmtFrom text depth names)) Nothing b e →
    IsRefused (AnyOf (AStmtOf text depth sort.Path)) GoesStmt a e
no_path_stmt_from depth r e h =
    refused_so (λ deep here blocked. looser_blocked (blocked_so (path_stmt_is _)
    (blocked_second r path_stmt_parts blocked))) e h

-- the statements that hold no others
pub assert_is : {text : List ℕ} {depth : ℕ} (a : List Token) →
    Same (IsTest text word.Assert depth) (AStmtOf text depth (sort.Flat flat.Assert)) Nothing (λ t. assert t.0 t.1) a
assert_is {text} {depth} a = record {
  to = λ reach t b c h. is_assert h;
  from = λ reach s b c same stop h. from reach s b c h;
}
  where
    from : (reach : Reach) (s : StmtTree) (b c : List Token) → AStmtOf text depth (sort.Flat flat.Assert) reach s b c →
        (t : Place × ExprTree) × IsTest text word.Assert depth reach t b c × (s ≡ assert t.0 t.1)
    from reach s b c (is_assert h) = (_, h, refl)

pub assume_is : {text : List ℕ} {depth : ℕ} (a : List Token) →
    Same (IsTest text word.Assume depth) (AStmtOf text depth (sort.Flat flat.Assume)) Nothing (λ t. assume t.0 t.1) a
assume_is {text} {depth} a = record {
  to = λ reach t b c h. is_assume h;
  from = λ reach s b c same stop h. from reach s b c h;
}
  where
    from : (reach : Reach) (s : StmtTree) (b c : List Token) → AStmtOf text depth (sort.Flat flat.Assume) reach s b c →
        (t : Place × ExprTree) × IsTest text word.Assume depth reach t b c × (s ≡ assume t.0 t.1)
    from reach s b c (is_assume h) = (_, h, refl)

pub wait_is : {text : List ℕ} {depth : ℕ} (a : List Token) →
    Same (IsTest text word.Wait depth) (AStmtOf text depth (sort.Flat flat.Wait)) Nothing (λ t. wait t.0 t.1) a
wait_is {text} {depth} a = record {
  to = λ reach t b c h. is_wait h;
  from = λ reach s b c same stop h. from reach s b c h;
}
  where
    from : (reach : Reach) (s : StmtTree) (b c : List Token) → AStmtOf text depth (sort.Flat flat.Wait) reach s b c →
        (t : Place × ExprTree) × IsTest text word.Wait depth reach t b c × (s ≡ wait t.0 t.1)
    from reach s b c (is_wait h) = (_, h, refl)

pub pause_is : {text : List ℕ} {depth : ℕ} (a : List Token) →
    Same (IsShort (token.Word word.Pause)) (AStmtOf text depth (sort.Flat flat.Pause)) Nothing pause a
pause_is {text} {depth} a = record {
  to = λ reach p b c h. is_pause h;
  from = λ reach s b c same stop h. from reach s b c h;
}
  where
    from : (reach : Reach) (s : StmtTree) (b c : List Token) → AStmtOf text depth (sort.Flat flat.Pause) reach s b c →
        (p : Place) × IsShort (token.Word word.Pause) reach p b c × (s ≡ pause p)
    from reach s b c (is_pause h) = (_, h, refl)

pub magic_is : {text : List ℕ} {depth : ℕ} (a : List Token) →
    Same (IsShort (token.Sign sign.Ellipsis)) (AStmtOf text depth (sort.Flat flat.Magic)) Nothing magic a
magic_is {text} {depth} a = record {
  to = λ reach p b c h. is_magic h;
  from = λ reach s b c same stop h. from reach s b c h;
}
  where
    from : (reach : Reach) (s : StmtTree) (b c : List Token) → AStmtOf text depth (sort.Flat flat.Magic) reach s b c →
        (p : Place) × IsShort (token.Sign sign.Ellipsis) reach p b c × (s ≡ magic p)
    from reach s b c (is_magic h) = (_, h, refl)

-- one form that another one is, as a statement
pub taken_flat : {X : Type 0} {Is : Reach → X → List Token → List Token → Type 0}
    {Or : Reach → StmtTree → List Token → List Token → Type 0} {tree : X → StmtTree} {x : X} {a b : List Token} →
    Same Is Or Nothing tree a → Takes Is Nothing x a b → Takes Or GoesStmt (tree x) a b
taken_flat same r = looser (takes_so same r)

pub no_flat : {X : Type 0} {Is : Reach → X → List Token → List Token → Type 0}
    {Or : Reach → StmtTree → List Token → List Token → Type 0} {tree : X → StmtTree} {a : List Token} →
    Same Is Or Nothing tree a → (e : Stop) → IsRefused (AnyOf Is) Nothing a e → IsRefused (AnyOf Or) GoesStmt a e
no_flat same e h = refused_so (λ deep here blocked. looser_blocked (blocked_so same blocked)) e h

-- the sort by another name
pub as_flat : {X : Type 0} {Is : Reach → X → List Token → List Token → Type 0} {text : List ℕ} {depth : ℕ}
    {tree : X → StmtTree} {a : List Token} {f g : FlatSort} → f ≡ g →
    Same Is (AStmtOf text depth (sort.Flat g)) Nothing tree a →
    Same Is (AStmtOf text depth (sort.Flat f)) Nothing tree a
as_flat {Is} {text} {depth} {tree} {a} e same =
    subst (λ l. Same Is (AStmtOf text depth (sort.Flat l)) Nothing tree a) (sym e) same
