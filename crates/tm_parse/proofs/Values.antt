-- What is assigned: any value, a call, or an expression.
use Rattle.std.proofs.Common.{◌≡◌, ◌≢◌, ℕ, ◌+◌, inl, inr, Some, List, [], refl, sym, ap, ◌∙◌, subst, arith}
use Rattle.tm_base.specs.declared.place.Place.{Place}
use Rattle.tm_syntax.specs.declared.token.Token.{Token}
use Rattle.tm_syntax.specs.declared.token.TokenKind.TheVariants as token
use Rattle.tm_syntax.specs.declared.token.Sign.{Sign}
use Rattle.tm_syntax.specs.declared.token.Sign.TheVariants as sign
use Rattle.tm_syntax.specs.declared.tree.Ident.{Ident}
use Rattle.tm_syntax.specs.declared.tree.UnaryOperator.{UnaryOperator}
use Rattle.tm_syntax.specs.declared.tree.UnaryOperator.TheVariants as unary_operator
use Rattle.tm_syntax.specs.Tree.{ExprTree, path, ValueTree, star, result, plain}
use Rattle.tm_syntax.specs.Grammar.Parts.{IsMark, IsPath, arguments_none, arguments_some, enclosed}
use Rattle.tm_syntax.specs.Grammar.Expressions.{unary_sign}
use Rattle.tm_syntax.specs.Grammar.Statements.{value_star, value_call, value_expr}
use Rattle.tm_parse.specs.declared.stop.Stop.{Stop}
use Rattle.tm_parse.specs.Reading.{Reach, first_of, first_kind, IsRefused, Takes, AnyOf, Nothing, GoesOn}
use Rattle.tm_parse.specs.Operands.{AnExpr, GoesExpr, goes_infix, encloses, IsPlaceFrom, from_path, from_element, tail_end, tail_more, choice_none, choice_some, IsExprFrom, from_tail}
use Rattle.tm_parse.specs.Commands.{AreArgs, AValue, GoesValue, IsValueFrom, from_call, from_operand}
use Rattle.tm_parse.proofs.Arguments.{wider, wider_blocked, other_kind, Listed, arguments_word}
use Rattle.tm_parse.proofs.Choices.{whole_of, of_whole, from_parts, from_word}
use Rattle.tm_parse.proofs.Enclosed.{expr_word}
use Rattle.tm_parse.proofs.Goes.{no_goes, no_goes_parenthesis}
use Rattle.tm_parse.proofs.Names.{number_has}
use Rattle.tm_parse.proofs.Primaries.{Operand, is_unary, is_number, is_true, is_false, is_place, is_group, is_cast, operand_of, path_kind, place_of, place_parts, looser, looser_blocked}
use Rattle.tm_parse.proofs.Taking.{Both, Same, AnyWord, same_kind, takes_both, takes_so, blocked_first, blocked_second, refused_in}
use Rattle.tm_parse.proofs.Terminals.{mark_kind, has_kind, at_word}

-- an operand begins with no sign but `(` and those of the prefix operators
operand_begins : {text : List ℕ} {depth : ℕ} {reach : Reach} {e : ExprTree} {a b : List Token} (s : Sign) →
    s ≢ sign.OpenParenthesis → ((op : UnaryOperator) → s ≢ unary_sign op) → Operand text depth reach e a b →
    ¬ (first_kind a ≡ Some (token.Sign s))
operand_begins s paren prefix (is_unary {op} o e) kind =
    let kinds = other_kind (mark_kind o.mark) kind in prefix op (let same : unary_sign op ≡ s = cc in sym same)
operand_begins s paren prefix (is_number n) kind = let kinds = other_kind (has_kind (number_has n)) kind in cc
operand_begins s paren prefix (is_true m) kind = let kinds = other_kind (mark_kind m) kind in cc
operand_begins s paren prefix (is_false m) kind = let kinds = other_kind (mark_kind m) kind in cc
operand_begins s paren prefix (is_place p f) kind = let kinds = other_kind (path_kind p) kind in cc
operand_begins s paren prefix (is_group o e c) kind =
    let kinds = other_kind (mark_kind o.mark) kind in paren (let same : sign.OpenParenthesis ≡ s = cc in sym same)
operand_begins s paren prefix (is_cast m w e) kind = let kinds = other_kind (mark_kind m) kind in cc

no_prefix : (s : Sign) → s ≢ sign.Tilde → s ≢ sign.Bang → (op : UnaryOperator) → s ≢ unary_sign op
no_prefix s tilde bang unary_operator.Complement e = tilde e
no_prefix s tilde bang unary_operator.Not e = bang e

pub expr_begins : {text : List ℕ} {depth : ℕ} (reach : Reach) {e : ExprTree} {a b : List Token} (s : Sign) →
    s ≢ sign.OpenParenthesis → s ≢ sign.Tilde → s ≢ sign.Bang → AnExpr text 0 depth reach e a b →
    ¬ (first_kind a ≡ Some (token.Sign s))
expr_begins reach s paren tilde bang is kind =
    let w = of_whole {reach = reach} is in operand_begins s paren (no_prefix s tilde bang) (operand_of w.1.first) kind

-- an expression that begins with a name
pub named_operand : {text : List ℕ} {depth : ℕ} {reach : Reach} {e : ExprTree} {a b : List Token} →
    Operand text depth reach e a b → first_kind a ≡ Some token.Name →
    (names : List Ident) × Both (λ _. IsPath text) (λ names. IsPlaceFrom text names depth) reach (names, e) a b
named_operand (is_place p f) kind = (_, record { between = _; first = p; second = f })
named_operand (is_unary o e) kind = absurd (let kinds = other_kind (mark_kind o.mark) kind in cc)
named_operand (is_number n) kind = absurd (let kinds = other_kind (has_kind (number_has n)) kind in cc)
named_operand (is_true m) kind = absurd (let kinds = other_kind (mark_kind m) kind in cc)
named_operand (is_false m) kind = absurd (let kinds = other_kind (mark_kind m) kind in cc)
named_operand (is_group o e c) kind = absurd (let kinds = other_kind (mark_kind o.mark) kind in cc)
named_operand (is_cast m w e) kind = absurd (let kinds = other_kind (mark_kind m) kind in cc)

-- expressions may stand in a list
pub listed_exprs : (text : List ℕ) (depth : ℕ) → Listed (AnExpr text 0 depth) (GoesExpr 0)
listed_exprs text depth = record {
  comma = no_goes 0 sign.Comma refl (λ e. cc) (λ e. cc) (λ loose e. cc);
  close = no_goes_parenthesis 0;
  begins = λ reach e a b is. expr_begins reach sign.CloseParenthesis (λ e. cc) (λ e. cc) (λ e. cc) is;
  word = expr_word text 0 depth;
}

pub args_kind : {text : List ℕ} {depth : ℕ} (reach : Reach) {es : List ExprTree} {a b : List Token} →
    AreArgs text depth reach es a b → first_kind a ≡ Some (token.Sign sign.OpenParenthesis)
args_kind reach (arguments_none o w m) = has_kind o
args_kind reach (arguments_some (enclosed o w are m)) = has_kind o

pub args_word : {X : Type 0} (text : List ℕ) (depth : ℕ) → AnyWord {X = X} (λ x. AreArgs text depth)
args_word text depth = arguments_word (AnExpr text 0 (depth + 1)) depth

pub no_goes_call : ¬ GoesExpr 0 (Some (token.Sign sign.OpenParenthesis))
no_goes_call = no_goes 0 sign.OpenParenthesis refl (λ e. cc) (λ e. cc) (λ loose e. cc)

-- what stands behind an operand begins with no parenthesis
from_opens : {text : List ℕ} {depth : ℕ} {reach : Reach} {x y : ExprTree} {a b : List Token} →
    IsExprFrom text depth x reach y a b → ¬ (first_kind b ≡ Some (token.Sign sign.OpenParenthesis)) →
    ¬ (first_kind a ≡ Some (token.Sign sign.OpenParenthesis))
from_opens (from_tail tail_end choice_none) none kind = none kind
from_opens (from_tail tail_end (choice_some o f m g)) none kind =
    let kinds = other_kind (mark_kind o.mark) kind in cc
from_opens (from_tail (tail_more {op} s t m w right more) h) none kind =
    no_goes_call (subst (GoesExpr 0) kind (goes_infix op (omega arith) (mark_kind m)))

pub place_opens : {text : List ℕ} {depth : ℕ} {reach : Reach} {names : List Ident} {e f : ExprTree}
    {a b c : List Token} →
    IsPlaceFrom text names depth reach e a b → IsExprFrom text depth e reach f b c →
    ¬ (first_kind c ≡ Some (token.Sign sign.OpenParenthesis)) →
    ¬ (first_kind a ≡ Some (token.Sign sign.OpenParenthesis))
place_opens from_path h none kind = from_opens h none kind
place_opens (from_element (encloses o is c)) h none kind = let kinds = other_kind (mark_kind o.mark) kind in cc

-- "*"
star_is : {text : List ℕ} {depth : ℕ} (a : List Token) → first_kind a ≡ Some (token.Sign sign.Star) →
    Same (λ _. IsMark (token.Sign sign.Star)) (AValue text depth) GoesValue star a
star_is {text} {depth} a kind = record {
  to = λ reach p b c m. value_star m;
  from = λ reach v b c same stop is. from reach v b c (same_kind b a same ∙ kind) is;
}
  where
    from : (reach : Reach) (v : ValueTree) (b c : List Token) → first_kind b ≡ Some (token.Sign sign.Star) →
        AValue text depth reach v b c → (p : Place) × IsMark (token.Sign sign.Star) p b c × (v ≡ star p)
    from reach v b c kind (value_star m) = (_, m, refl)
    from reach v b c kind (value_call p es) = absurd (let kinds = other_kind (path_kind p) kind in cc)
    from reach v b c kind (value_expr is) =
        absurd (expr_begins reach sign.Star (λ e. cc) (λ e. cc) (λ e. cc) is kind)

pub taken_star : {text : List ℕ} {depth : ℕ} {p : Place} {a b : List Token} →
    first_kind a ≡ Some (token.Sign sign.Star) → Takes (λ _. IsMark (token.Sign sign.Star)) Nothing p a b →
    Takes (AValue text depth) GoesValue (star p) a b
taken_star kind m = takes_so (star_is _ kind) (looser m)

-- an expression that begins with no name
plain_is : {text : List ℕ} {depth : ℕ} (a : List Token) → ¬ (first_kind a ≡ Some (token.Sign sign.Star)) →
    ¬ (first_kind a ≡ Some token.Name) → Same (AnExpr text 0 depth) (AValue text depth) GoesValue plain a
plain_is {text} {depth} a no_star no_name = record {
  to = λ reach e b c is. value_expr is;
  from = λ reach v b c same stop is. from reach v b c same is;
}
  where
    from : (reach : Reach) (v : ValueTree) (b c : List Token) → first_of b ≡ first_of a →
        AValue text depth reach v b c → (e : ExprTree) × AnExpr text 0 depth reach e b c × (v ≡ plain e)
    from reach v b c same (value_star m) = absurd (no_star (sym (same_kind b a same) ∙ mark_kind m))
    from reach v b c same (value_call p es) = absurd (no_name (sym (same_kind b a same) ∙ path_kind p))
    from reach v b c same (value_expr is) = (_, is, refl)

pub taken_plain : {text : List ℕ} {depth : ℕ} {e : ExprTree} (a : List Token) {b : List Token} →
    ¬ (first_kind a ≡ Some (token.Sign sign.Star)) → ¬ (first_kind a ≡ Some token.Name) →
    Takes (AnExpr text 0 depth) (GoesExpr 0) e a b → Takes (AValue text depth) GoesValue (plain e) a b
taken_plain a no_star no_name r = takes_so (plain_is a no_star no_name) (wider (λ kind goes. inr goes) r)

pub no_plain : (text : List ℕ) (depth : ℕ) (a : List Token) → ¬ (first_kind a ≡ Some (token.Sign sign.Star)) →
    ¬ (first_kind a ≡ Some token.Name) → (e : Stop) → IsRefused (AnyOf (AnExpr text 0 depth)) (GoesExpr 0) a e →
    IsRefused (AnyOf (AValue text depth)) GoesValue a e
no_plain text depth a no_star no_name e h =
    refused_in (plain_is a no_star no_name) (λ deep here blocked. wider_blocked (λ kind goes. inr goes) blocked)
    e h

-- a path, and what stands behind it
abbrev NamedParts : List ℕ → ℕ → Reach → List Ident × ValueTree → List Token → List Token → Type 0
NamedParts text depth = Both (λ _. IsPath text) (λ names. IsValueFrom text depth names)

named_to : {text : List ℕ} {depth : ℕ} {reach : Reach} {names : List Ident} {v : ValueTree} {a b c : List Token} →
    IsPath text names a b → IsValueFrom text depth names reach v b c → AValue text depth reach v a c
named_to p (from_call es) = value_call p es
named_to p (from_operand f h) = value_expr (whole_of (place_of p f) h)

named_is : {text : List ℕ} {depth : ℕ} (a : List Token) → first_kind a ≡ Some token.Name →
    Same (NamedParts text depth) (AValue text depth) GoesValue (λ t. t.1) a
named_is {text} {depth} a kind = record {
  to = λ reach t b c h. named_to h.first h.second;
  from = λ reach v b c same stop is. from reach v b c (same_kind b a same ∙ kind) is;
}
  where
    from : (reach : Reach) (v : ValueTree) (b c : List Token) → first_kind b ≡ Some token.Name →
        AValue text depth reach v b c → (t : List Ident × ValueTree) × NamedParts text depth reach t b c × (v ≡ t.1)
    from reach v b c kind (value_star m) = absurd (let kinds = other_kind (mark_kind m) kind in cc)
    from reach v b c kind (value_call p es) =
        ((_, _), record { between = _; first = p; second = from_call es }, refl)
    from reach v b c kind (value_expr {e} is) =
        let w = of_whole is in
        let o = named_operand (operand_of w.1.first) kind in (
          (o.0, v),
          record {
            between = o.1.between;
            first = o.1.first;
            second = subst (λ t. IsValueFrom text depth o.0 reach t o.1.between c) (ap plain (sym w.2))
                (from_operand o.1.second w.1.second);
          },
          refl,
        )

-- what begins with a parenthesis goes on with no path, and so does the rest of an expression
named_parts : {text : List ℕ} {depth : ℕ} (reach : Reach) (x : List Ident) (y : ValueTree) (a b : List Token) →
    IsValueFrom text depth x reach y a b → ¬ GoesValue (first_kind b) → ¬ GoesOn sign.Dot Nothing (first_kind a)
named_parts reach x y a b (from_call es) stop (inl dot) = let kinds = other_kind (args_kind reach es) dot in cc
named_parts reach x y a b (from_call es) stop (inr none) = none
named_parts reach x y a b (from_operand {e} {b = between} f h) stop goes =
    place_parts reach x e a between f (from_parts reach e _ between b h (λ on. stop (inr on))) goes

pub taken_named : {text : List ℕ} {depth : ℕ} {names : List Ident} {v : ValueTree} {a b c : List Token} →
    first_kind a ≡ Some token.Name → Takes (λ _. IsPath text) (GoesOn sign.Dot Nothing) names a b →
    Takes (IsValueFrom text depth names) GoesValue v b c → Takes (AValue text depth) GoesValue v a c
taken_named kind r s = takes_so (named_is _ kind) (takes_both r named_parts s)

value_from_word : (text : List ℕ) (depth : ℕ) → AnyWord (λ (names : List Ident). IsValueFrom text depth names)
value_from_word text depth = record {
  word = [];
  spells = λ names size behind fits. (plain (path names), from_operand from_path (from_tail tail_end choice_none));
}

pub no_named_path : (text : List ℕ) (depth : ℕ) (a : List Token) → first_kind a ≡ Some token.Name → (e : Stop) →
    IsRefused (AnyOf (λ _. IsPath text)) (GoesOn sign.Dot Nothing) a e →
    IsRefused (AnyOf (AValue text depth)) GoesValue a e
no_named_path text depth a kind e h =
    refused_in (named_is a kind) (λ deep here blocked.
    blocked_first blocked (value_from_word text depth) named_parts) e h

pub no_named_from : {text : List ℕ} (depth : ℕ) {names : List Ident} {a b : List Token} →
    first_kind a ≡ Some token.Name → Takes (λ _. IsPath text) (GoesOn sign.Dot Nothing) names a b → (e : Stop) →
    IsRefused (AnyOf (IsValueFrom text depth names)) GoesValue b e →
    IsRefused (AnyOf (AValue text depth)) GoesValue a e
no_named_from depth kind r e h =
    refused_in (named_is _ kind) (λ deep here blocked. blocked_second r named_parts blocked) e h

-- a call
call_is : {text : List ℕ} {depth : ℕ} (names : List Ident) (a : List Token) →
    first_kind a ≡ Some (token.Sign sign.OpenParenthesis) →
    Same (AreArgs text depth) (IsValueFrom text depth names) GoesValue (result names) a
call_is {text} {depth} names a kind = record {
  to = λ reach es b c is. from_call is;
  from = λ reach v b c same stop is. from reach v b c (same_kind b a same ∙ kind) stop is;
}
  where
    from : (reach : Reach) (v : ValueTree) (b c : List Token) → first_kind b ≡ Some (token.Sign sign.OpenParenthesis) →
        ¬ GoesValue (first_kind c) → IsValueFrom text depth names reach v b c →
        (es : List ExprTree) × AreArgs text depth reach es b c × (v ≡ result names es)
    from reach v b c kind stop (from_call es) = (_, es, refl)
    from reach v b c kind stop (from_operand f h) = absurd (place_opens f h (λ opens. stop (inl opens)) kind)

pub taken_call : {text : List ℕ} {depth : ℕ} {es : List ExprTree} (names : List Ident) {a b : List Token} →
    first_kind a ≡ Some (token.Sign sign.OpenParenthesis) → Takes (AreArgs text depth) Nothing es a b →
    Takes (IsValueFrom text depth names) GoesValue (result names es) a b
taken_call names kind r = takes_so (call_is names _ kind) (looser r)

pub no_call : (text : List ℕ) (depth : ℕ) (names : List Ident) (a : List Token) →
    first_kind a ≡ Some (token.Sign sign.OpenParenthesis) → (e : Stop) →
    IsRefused (AnyOf (AreArgs text depth)) Nothing a e → IsRefused (AnyOf (IsValueFrom text depth names)) GoesValue a e
no_call text depth names a kind e h =
    refused_in (call_is names a kind) (λ deep here blocked. looser_blocked blocked) e h

-- the rest of an expression
abbrev RestParts : List ℕ → ℕ → List Ident → Reach → ExprTree × ExprTree → List Token → List Token → Type 0
RestParts text depth names = Both (IsPlaceFrom text names depth) (λ x. IsExprFrom text depth x)

rest_is : {text : List ℕ} {depth : ℕ} (names : List Ident) (a : List Token) →
    ¬ (first_kind a ≡ Some (token.Sign sign.OpenParenthesis)) →
    Same (RestParts text depth names) (IsValueFrom text depth names) GoesValue (λ t. plain t.1) a
rest_is {text} {depth} names a none = record {
  to = λ reach t b c h. from_operand h.first h.second;
  from = λ reach v b c same stop is. from reach v b c same is;
}
  where
    from : (reach : Reach) (v : ValueTree) (b c : List Token) → first_of b ≡ first_of a →
        IsValueFrom text depth names reach v b c →
        (t : ExprTree × ExprTree) × RestParts text depth names reach t b c × (v ≡ plain t.1)
    from reach v b c same (from_call es) = absurd (none (sym (same_kind b a same) ∙ args_kind reach es))
    from reach v b c same (from_operand f h) = ((_, _), record { between = _; first = f; second = h }, refl)

rest_parts : {text : List ℕ} {depth : ℕ} (reach : Reach) (x y : ExprTree) (a b : List Token) →
    IsExprFrom text depth x reach y a b → ¬ GoesValue (first_kind b) → ¬ GoesExpr 10 (first_kind a)
rest_parts reach x y a b h stop = from_parts reach x y a b h (λ on. stop (inr on))

pub taken_rest : {text : List ℕ} {depth : ℕ} {x e : ExprTree} (names : List Ident) (a : List Token) {b c : List Token} →
    ¬ (first_kind a ≡ Some (token.Sign sign.OpenParenthesis)) →
    Takes (IsPlaceFrom text names depth) (GoesExpr 10) x a b → Takes (IsExprFrom text depth x) (GoesExpr 0) e b c →
    Takes (IsValueFrom text depth names) GoesValue (plain e) a c
taken_rest names a none r s =
    takes_so (rest_is names a none) (takes_both r rest_parts (wider (λ kind goes. inr goes) s))

pub no_rest_place : (text : List ℕ) (depth : ℕ) (names : List Ident) (a : List Token) →
    ¬ (first_kind a ≡ Some (token.Sign sign.OpenParenthesis)) → (e : Stop) →
    IsRefused (AnyOf (IsPlaceFrom text names depth)) (GoesExpr 10) a e →
    IsRefused (AnyOf (IsValueFrom text depth names)) GoesValue a e
no_rest_place text depth names a none e h =
    refused_in (rest_is names a none) (λ deep here blocked. blocked_first blocked (from_word text depth) rest_parts) e h

pub no_rest_from : {text : List ℕ} {depth : ℕ} {x : ExprTree} (names : List Ident) (a : List Token) {b : List Token} →
    ¬ (first_kind a ≡ Some (token.Sign sign.OpenParenthesis)) →
    Takes (IsPlaceFrom text names depth) (GoesExpr 10) x a b → (e : Stop) →
    IsRefused (AnyOf (IsExprFrom text depth x)) (GoesExpr 0) b e →
    IsRefused (AnyOf (IsValueFrom text depth names)) GoesValue a e
no_rest_from names a none r e h =
    refused_in (rest_is names a none) (λ deep here blocked.
    blocked_second r rest_parts (wider_blocked (λ kind goes. inr goes) blocked)) e h

-- a value is spelled by "*"
pub value_word : {X : Type 0} (text : List ℕ) (depth : ℕ) → AnyWord {X = X} (λ x. AValue text depth)
value_word text depth =
    let w = at_word (token.Sign sign.Star) in
    record {
      word = w.word;
      spells = λ x size behind fits. let m = w.spells x size behind fits in (star m.0, value_star m.1);
    }
