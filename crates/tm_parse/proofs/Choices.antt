-- Conditional expressions, and whole expressions.
use Rattle.std.proofs.Common.{◌≡◌, ℕ, ◌+◌, ◌≤◌, Some, List, [], refl, sym, ◌∙◌, subst, arith}
use Rattle.tm_base.specs.declared.place.Place.{Place}
use Rattle.tm_syntax.specs.declared.token.Token.{Token}
use Rattle.tm_syntax.specs.declared.token.TokenKind.TheVariants as token
use Rattle.tm_syntax.specs.declared.token.Sign.TheVariants as sign
use Rattle.tm_syntax.specs.declared.tree.BinaryOperator.{BinaryOperator}
use Rattle.tm_base.specs.declared.shift_operator.ShiftOperator.{ShiftOperator}
use Rattle.tm_syntax.specs.declared.tree.Num.{Num}
use Rattle.tm_syntax.specs.Tree.{ExprTree, binary, shift, conditional}
use Rattle.tm_syntax.specs.Grammar.Parts.{IsMark, IsNumber}
use Rattle.tm_syntax.specs.Grammar.Expressions.{strength, expr_conditional, expr_binary, expr_shift, expr_unary, expr_number, expr_true, expr_false, expr_path, expr_element, expr_group, expr_cast}
use Rattle.tm_parse.specs.declared.operators.Infix.TheVariants as joining
use Rattle.tm_parse.specs.declared.stop.Stop.{Stop}
use Rattle.tm_parse.specs.Reading.{Reach, first_of, first_kind, IsRefused, Takes, AnyOf, Nothing, TheMark, IsOpening}
use Rattle.tm_parse.specs.Operands.{AnExpr, GoesExpr, goes_question, IsJoined, joins_expr, joins_number, tail_end, tail_more, ATail, IsChoiceFrom, choice_none, choice_some, IsExprFrom, from_tail}
use Rattle.tm_parse.proofs.Enclosed.{expr_word}
use Rattle.tm_parse.proofs.Goes.{no_goes_colon, no_goes_question, no_goes_infix, goes_weaker}
use Rattle.tm_parse.proofs.Spine.{Spine, spine, tail_expr, weaker, strength_positive, infix_most}
use Rattle.tm_parse.proofs.Taking.{Both, Same, AnyWord, same_kind, takes_both, takes_then, takes_so, at_first, at_second, blocked_first, blocked_second, both_word, refused_in}
use Rattle.tm_parse.proofs.Terminals.{mark_kind, has_kind, mark_word, without_place}

-- "?", an expression, ":", an expression
abbrev ChoiceParts : List ℕ → ℕ → Reach → Place × (ExprTree × (Unit {0} × ExprTree)) → List Token → List Token → Type 0
ChoiceParts text depth = Both (IsOpening (token.Sign sign.Question) depth)
    (λ _. Both (AnExpr text 0 (depth + 1))
    (λ _. Both (TheMark (token.Sign sign.Colon)) (λ _. AnExpr text 0 (depth + 1))))

choice_is : {text : List ℕ} {depth : ℕ} (test : ExprTree) (a : List Token) →
    first_kind a ≡ Some (token.Sign sign.Question) →
    Same (ChoiceParts text depth) (IsChoiceFrom text depth test) (GoesExpr 0)
    (λ t. conditional t.0 test t.1.0 t.1.1.1) a
choice_is {text} {depth} test a kind = record {
  to = λ reach t b c h. choice_some h.first h.second.first h.second.second.first h.second.second.second;
  from = λ reach e b c same stop h. from reach e b c same stop h;
}
  where
    from : (reach : Reach) (e : ExprTree) (b c : List Token) → first_of b ≡ first_of a → ¬ GoesExpr 0 (first_kind c) →
        IsChoiceFrom text depth test reach e b c →
        (t : Place × (ExprTree × (Unit {0} × ExprTree))) × ChoiceParts text depth reach t b c
        × (e ≡ conditional t.0 test t.1.0 t.1.1.1)
    from reach e b c same stop choice_none = absurd (stop (goes_question refl (same_kind b a same ∙ kind)))
    from reach e b c same stop (choice_some o f m g) = (
      (_, (_, (tt, _))),
      record {
        between = _;
        first = o;
        second = record { between = _; first = f; second = record { between = _; first = m; second = g } };
      },
      refl,
    )

colon_parts : {text : List ℕ} {depth : ℕ} (reach : Reach) (x : ExprTree) (y : Unit {0} × ExprTree) (a b : List Token) →
    Both (TheMark (token.Sign sign.Colon)) (λ _. AnExpr text 0 depth) reach y a b → ¬ GoesExpr 0 (first_kind b) →
    ¬ GoesExpr 0 (first_kind a)
colon_parts reach x y a b h stop goes = no_goes_colon 0 (subst (GoesExpr 0) (has_kind h.first) goes)

pub taken_choice_none : {text : List ℕ} {depth : ℕ} {test : ExprTree} (a : List Token) →
    ¬ (first_kind a ≡ Some (token.Sign sign.Question)) → Takes (IsChoiceFrom text depth test) (GoesExpr 0) test a a
taken_choice_none {text} {depth} {test} a none = record {
  front = [];
  whole = refl;
  is = λ reach behind. choice_none;
  sole = λ reach e other after same stop h. go reach e other after same h;
}
  where
    go : (reach : Reach) (e : ExprTree) (other after : List Token) → first_of other ≡ first_of a →
        IsChoiceFrom text depth test reach e other after → (e ≡ test) × (after ≡ other)
    go reach e other after same choice_none = (refl, refl)
    go reach e other after same (choice_some o f m g) =
        absurd (none (sym (same_kind other a same) ∙ mark_kind o.mark))

pub no_choice_opening : (text : List ℕ) (depth : ℕ) (test : ExprTree) (a : List Token) →
    first_kind a ≡ Some (token.Sign sign.Question) → (e : Stop) →
    IsRefused (AnyOf (IsOpening (token.Sign sign.Question) depth)) Nothing a e →
    IsRefused (AnyOf (IsChoiceFrom text depth test)) (GoesExpr 0) a e
no_choice_opening text depth test a kind e h =
    refused_in (choice_is test a kind) (λ deep here blocked. at_first blocked
    (both_word (expr_word text 0 (depth + 1))
    (both_word (mark_word (token.Sign sign.Colon)) (expr_word text 0 (depth + 1))))) e h

pub no_choice_yes : (text : List ℕ) {depth : ℕ} {p : Place} (test : ExprTree) (a : List Token) {b : List Token} →
    first_kind a ≡ Some (token.Sign sign.Question) → Takes (IsOpening (token.Sign sign.Question) depth) Nothing p a b →
    (e : Stop) → IsRefused (AnyOf (AnExpr text 0 (depth + 1))) (GoesExpr 0) b e →
    IsRefused (AnyOf (IsChoiceFrom text depth test)) (GoesExpr 0) a e
no_choice_yes text {depth} test a kind o e h =
    refused_in (choice_is test a kind) (λ deep here blocked. at_second o
    (blocked_first blocked (both_word (mark_word (token.Sign sign.Colon)) (expr_word text 0 (depth + 1))) colon_parts))
    e h

pub no_choice_colon : {text : List ℕ} {depth : ℕ} {p : Place} {yes_tree : ExprTree} (test : ExprTree) (a : List Token)
    {b c : List Token} → first_kind a ≡ Some (token.Sign sign.Question) →
    Takes (IsOpening (token.Sign sign.Question) depth) Nothing p a b →
    Takes (AnExpr text 0 (depth + 1)) (GoesExpr 0) yes_tree b c → (e : Stop) →
    IsRefused (AnyOf (TheMark (token.Sign sign.Colon))) Nothing c e →
    IsRefused (AnyOf (IsChoiceFrom text depth test)) (GoesExpr 0) a e
no_choice_colon {text} {depth} test a kind o r e h =
    refused_in (choice_is test a kind) (λ deep here blocked. at_second o
    (blocked_second r colon_parts (at_first blocked (expr_word text 0 (depth + 1))))) e h

pub no_choice_no : {text : List ℕ} {depth : ℕ} {p q : Place} {yes_tree : ExprTree} (test : ExprTree) (a : List Token)
    {b c d : List Token} → first_kind a ≡ Some (token.Sign sign.Question) →
    Takes (IsOpening (token.Sign sign.Question) depth) Nothing p a b →
    Takes (AnExpr text 0 (depth + 1)) (GoesExpr 0) yes_tree b c →
    Takes (λ _. IsMark (token.Sign sign.Colon)) Nothing q c d → (e : Stop) →
    IsRefused (AnyOf (AnExpr text 0 (depth + 1))) (GoesExpr 0) d e →
    IsRefused (AnyOf (IsChoiceFrom text depth test)) (GoesExpr 0) a e
no_choice_no test a kind o r m e h =
    refused_in (choice_is test a kind) (λ deep here blocked. at_second o
    (blocked_second r colon_parts (at_second (without_place m) blocked))) e h

pub taken_choice : {text : List ℕ} {depth : ℕ} {p q : Place} {yes_tree no_tree : ExprTree} (test : ExprTree)
    (a : List Token) {b c d e : List Token} → first_kind a ≡ Some (token.Sign sign.Question) →
    Takes (IsOpening (token.Sign sign.Question) depth) Nothing p a b →
    Takes (AnExpr text 0 (depth + 1)) (GoesExpr 0) yes_tree b c →
    Takes (λ _. IsMark (token.Sign sign.Colon)) Nothing q c d →
    Takes (AnExpr text 0 (depth + 1)) (GoesExpr 0) no_tree d e →
    Takes (IsChoiceFrom text depth test) (GoesExpr 0) (conditional p test yes_tree no_tree) a e
taken_choice test a kind o r m s =
    takes_so (choice_is test a kind)
    (takes_then o (takes_both r colon_parts (takes_then (without_place m) s)))

-- a tail, and what follows a test
abbrev FromParts : List ℕ → ℕ → ExprTree → Reach → ExprTree × ExprTree → List Token → List Token → Type 0
FromParts text depth left = Both (ATail text 1 depth left) (λ e. IsChoiceFrom text depth e)

from_is : {text : List ℕ} {depth : ℕ} {left : ExprTree} (a : List Token) →
    Same (FromParts text depth left) (IsExprFrom text depth left) (GoesExpr 0) (λ t. t.1) a
from_is {text} {depth} {left} a = record {
  to = λ reach t b c h. from_tail h.first h.second;
  from = λ reach e b c same stop h. from reach e b c h;
}
  where
    from : (reach : Reach) (e : ExprTree) (b c : List Token) → IsExprFrom text depth left reach e b c →
        (t : ExprTree × ExprTree) × FromParts text depth left reach t b c × (e ≡ t.1)
    from reach e b c (from_tail t h) = ((_, _), record { between = _; first = t; second = h }, refl)

pub choice_parts : {text : List ℕ} {depth : ℕ} (reach : Reach) (x y : ExprTree) (a b : List Token) →
    IsChoiceFrom text depth x reach y a b → ¬ GoesExpr 0 (first_kind b) → ¬ GoesExpr 1 (first_kind a)
choice_parts reach x y a b choice_none stop goes = stop (goes_weaker 0 (omega arith) goes)
choice_parts reach x y a b (choice_some o f m g) stop goes =
    no_goes_question 1 (omega arith) (subst (GoesExpr 1) (mark_kind o.mark) goes)

pub taken_from : {text : List ℕ} {depth : ℕ} {left test e : ExprTree} {a b c : List Token} →
    Takes (ATail text 1 depth left) (GoesExpr 1) test a b → Takes (IsChoiceFrom text depth test) (GoesExpr 0) e b c →
    Takes (IsExprFrom text depth left) (GoesExpr 0) e a c
taken_from r s = takes_so (from_is _) (takes_both r choice_parts s)

choice_word : (text : List ℕ) (depth : ℕ) → AnyWord (λ (x : ExprTree). IsChoiceFrom text depth x)
choice_word text depth = record { word = []; spells = λ x size behind fits. (x, choice_none) }

pub no_from_tail : (text : List ℕ) (depth : ℕ) (left : ExprTree) (a : List Token) (e : Stop) →
    IsRefused (AnyOf (ATail text 1 depth left)) (GoesExpr 1) a e →
    IsRefused (AnyOf (IsExprFrom text depth left)) (GoesExpr 0) a e
no_from_tail text depth left a e h =
    refused_in (from_is a) (λ deep here blocked. blocked_first blocked (choice_word text depth) choice_parts) e h

pub no_from_choice : {text : List ℕ} {depth : ℕ} {left test : ExprTree} {a b : List Token} →
    Takes (ATail text 1 depth left) (GoesExpr 1) test a b → (e : Stop) →
    IsRefused (AnyOf (IsChoiceFrom text depth test)) (GoesExpr 0) b e →
    IsRefused (AnyOf (IsExprFrom text depth left)) (GoesExpr 0) a e
no_from_choice r e h =
    refused_in (from_is _) (λ deep here blocked. blocked_second r choice_parts blocked) e h

-- an operand, and what makes it a whole expression
abbrev pub WholeParts : List ℕ → ℕ → Reach → ExprTree × ExprTree → List Token → List Token → Type 0
WholeParts text depth = Both (AnExpr text 10 depth) (λ x. IsExprFrom text depth x)

pub whole_of : {text : List ℕ} {depth : ℕ} {reach : Reach} {x e : ExprTree} {a b c : List Token} →
    AnExpr text 10 depth reach x a b →
    IsExprFrom text depth x reach e b c → AnExpr text 0 depth reach e a c
whole_of is (from_tail t choice_none) = weaker 0 (omega arith) (tail_expr (omega arith) (omega arith) is t)
whole_of is (from_tail t (choice_some o f m g)) =
    expr_conditional refl (tail_expr (omega arith) (omega arith) is t) o.mark o.within f m g

of_spine : {text : List ℕ} {depth : ℕ} {reach : Reach} {e f : ExprTree} {a b c : List Token} →
    Spine text 1 depth reach e a b →
    IsChoiceFrom text depth e reach f b c → (t : ExprTree × ExprTree) × WholeParts text depth reach t a c × (f ≡ t.1)
of_spine {f} s h =
    ((s.first, f), record { between = s.between; first = s.operand; second = from_tail s.tail h }, refl)

of_strong : {text : List ℕ} {depth : ℕ} {reach : Reach} {e : ExprTree} {a b : List Token} →
    AnExpr text 1 depth reach e a b →
    (t : ExprTree × ExprTree) × WholeParts text depth reach t a b × (e ≡ t.1)
of_strong is = of_spine (spine (omega arith) is) choice_none

pub of_whole : {text : List ℕ} {depth : ℕ} {reach : Reach} {e : ExprTree} {a c : List Token} →
    AnExpr text 0 depth reach e a c →
    (t : ExprTree × ExprTree) × WholeParts text depth reach t a c × (e ≡ t.1)
of_whole (expr_conditional loosest e m w f o g) =
    of_spine (spine (omega arith) e) (choice_some (record { mark = m; within = w }) f o g)
of_whole (expr_binary {op} s e m w f) = of_strong (expr_binary (strength_positive op) e m w f)
of_whole (expr_shift s e m w n) = of_strong (expr_shift (omega arith) e m w n)
of_whole (expr_unary m w e) = of_strong (expr_unary m w e)
of_whole (expr_number n) = of_strong (expr_number n)
of_whole (expr_true m) = of_strong (expr_true m)
of_whole (expr_false m) = of_strong (expr_false m)
of_whole (expr_path p) = of_strong (expr_path p)
of_whole (expr_element p o w e c) = of_strong (expr_element p o w e c)
of_whole (expr_group m w e c) = of_strong (expr_group m w e c)
of_whole (expr_cast m l n g o w e c) = of_strong (expr_cast m l n g o w e c)

pub whole_is : {text : List ℕ} {depth : ℕ} (a : List Token) →
    Same (WholeParts text depth) (AnExpr text 0 depth) (GoesExpr 0) (λ t. t.1) a
whole_is a = record {
  to = λ reach t b c h. whole_of h.first h.second;
  from = λ reach e b c same stop is. of_whole is;
}

-- what joins to an operand does not go on with it
tail_parts : {text : List ℕ} {bound depth : ℕ} → bound ≤ 10 → (reach : Reach) (x y : ExprTree) (a b : List Token) →
    ATail text bound depth x reach y a b → ¬ GoesExpr bound (first_kind b) → ¬ GoesExpr 10 (first_kind a)
tail_parts {bound} below reach x y a b tail_end stop goes = stop (goes_weaker bound below goes)
tail_parts below reach x y a b (tail_more {op} s t m w right more) stop goes =
    no_goes_infix 10 op (omega (arith, infix_most op)) (subst (GoesExpr 10) (mark_kind m) goes)

pub from_parts : {text : List ℕ} {depth : ℕ} (reach : Reach) (x y : ExprTree) (a b : List Token) →
    IsExprFrom text depth x reach y a b → ¬ GoesExpr 0 (first_kind b) → ¬ GoesExpr 10 (first_kind a)
from_parts reach x y a b (from_tail {e} {b = between} t h) stop =
    tail_parts (omega arith) reach x e a between t (choice_parts reach e y between b h stop)

pub taken_whole : {text : List ℕ} {depth : ℕ} {x e : ExprTree} {a b c : List Token} →
    Takes (AnExpr text 10 depth) (GoesExpr 10) x a b → Takes (IsExprFrom text depth x) (GoesExpr 0) e b c →
    Takes (AnExpr text 0 depth) (GoesExpr 0) e a c
taken_whole r s = takes_so (whole_is _) (takes_both r from_parts s)

pub from_word : (text : List ℕ) (depth : ℕ) → AnyWord (λ (x : ExprTree). IsExprFrom text depth x)
from_word text depth = record { word = []; spells = λ x size behind fits. (x, from_tail tail_end choice_none) }

pub no_whole_operand : (text : List ℕ) (depth : ℕ) (a : List Token) (e : Stop) →
    IsRefused (AnyOf (AnExpr text 10 depth)) (GoesExpr 10) a e →
    IsRefused (AnyOf (AnExpr text 0 depth)) (GoesExpr 0) a e
no_whole_operand text depth a e h =
    refused_in (whole_is a) (λ deep here blocked. blocked_first blocked (from_word text depth) from_parts)
    e h

pub no_whole_from : {text : List ℕ} {depth : ℕ} {x : ExprTree} {a b : List Token} →
    Takes (AnExpr text 10 depth) (GoesExpr 10) x a b → (e : Stop) →
    IsRefused (AnyOf (IsExprFrom text depth x)) (GoesExpr 0) b e →
    IsRefused (AnyOf (AnExpr text 0 depth)) (GoesExpr 0) a e
no_whole_from r e h =
    refused_in (whole_is _) (λ deep here blocked. blocked_second r from_parts blocked) e h

-- the right operand of an operator: an operand, and what stronger operators join to it
abbrev RightParts : List ℕ → ℕ → ℕ → Reach → ExprTree × ExprTree → List Token → List Token → Type 0
RightParts text bound depth = Both (AnExpr text 10 depth) (λ x. ATail text bound depth x)

right_is : {text : List ℕ} {depth : ℕ} {left : ExprTree} {at : Place} (op : BinaryOperator) (a : List Token) →
    strength op + 1 ≤ 10 →
    Same (RightParts text (strength op + 1) depth) (λ reach. IsJoined text depth reach left at (joining.Binary op))
    (GoesExpr (strength op + 1)) (λ t. binary at op left t.1) a
right_is {text} {depth} {left} {at} op a below = record {
  to = λ reach t b c h. joins_expr (tail_expr below (omega arith) h.first h.second);
  from = λ reach e b c same stop h. from reach e b c h;
}
  where
    from : (reach : Reach) (e : ExprTree) (b c : List Token) →
        IsJoined text depth reach left at (joining.Binary op) e b c →
        (t : ExprTree × ExprTree) × RightParts text (strength op + 1) depth reach t b c × (e ≡ binary at op left t.1)
    from reach e b c (joins_expr {e = right} is) =
        let s = spine (omega arith) is in
        ((s.first, right), record { between = s.between; first = s.operand; second = s.tail }, refl)

pub taken_right : {text : List ℕ} {depth : ℕ} {left x e : ExprTree} {at : Place} (op : BinaryOperator)
    {a b c : List Token} → strength op + 1 ≤ 10 → Takes (AnExpr text 10 depth) (GoesExpr 10) x a b →
    Takes (ATail text (strength op + 1) depth x) (GoesExpr (strength op + 1)) e b c →
    Takes (λ reach. IsJoined text depth reach left at (joining.Binary op)) (GoesExpr (strength op + 1))
    (binary at op left e) a c
taken_right op below r s = takes_so (right_is op _ below) (takes_both r (tail_parts below) s)

tail_word : (text : List ℕ) (bound depth : ℕ) → AnyWord (λ (x : ExprTree). ATail text bound depth x)
tail_word text bound depth = record { word = []; spells = λ x size behind fits. (x, tail_end) }

pub no_right_operand : (text : List ℕ) (depth : ℕ) (left : ExprTree) (at : Place) (op : BinaryOperator)
    (a : List Token) → strength op + 1 ≤ 10 → (e : Stop) → IsRefused (AnyOf (AnExpr text 10 depth)) (GoesExpr 10) a e →
    IsRefused (AnyOf (λ reach. IsJoined text depth reach left at (joining.Binary op))) (GoesExpr (strength op + 1)) a e
no_right_operand text depth left at op a below e h =
    refused_in (right_is op a below) (λ deep here blocked.
    blocked_first blocked (tail_word text (strength op + 1) depth) (tail_parts below)) e h

pub no_right_tail : {text : List ℕ} {depth : ℕ} {x : ExprTree} (left : ExprTree) (at : Place) (op : BinaryOperator)
    {a b : List Token} → strength op + 1 ≤ 10 → Takes (AnExpr text 10 depth) (GoesExpr 10) x a b → (e : Stop) →
    IsRefused (AnyOf (ATail text (strength op + 1) depth x)) (GoesExpr (strength op + 1)) b e →
    IsRefused (AnyOf (λ reach. IsJoined text depth reach left at (joining.Binary op))) (GoesExpr (strength op + 1)) a e
no_right_tail left at op below r e h =
    refused_in (right_is op _ below) (λ deep here blocked. blocked_second r (tail_parts below) blocked) e h

-- a shift by a number
shift_is : {text : List ℕ} {depth : ℕ} {left : ExprTree} {at : Place} (op : ShiftOperator) (a : List Token) →
    Same (λ _. IsNumber text) (λ reach. IsJoined text depth reach left at (joining.Shift op)) Nothing (shift at op left)
    a
shift_is {text} {depth} {left} {at} op a = record {
  to = λ reach n b c is. joins_number is;
  from = λ reach e b c same stop h. from reach e b c h;
}
  where
    from : (reach : Reach) (e : ExprTree) (b c : List Token) →
        IsJoined text depth reach left at (joining.Shift op) e b c →
        (n : Num) × IsNumber text n b c × (e ≡ shift at op left n)
    from reach e b c (joins_number is) = (_, is, refl)

pub taken_shift : {text : List ℕ} {depth : ℕ} {left : ExprTree} {at : Place} {n : Num} (op : ShiftOperator)
    {a b : List Token} → Takes (λ _. IsNumber text) Nothing n a b →
    Takes (λ reach. IsJoined text depth reach left at (joining.Shift op)) Nothing (shift at op left n) a b
taken_shift op r = takes_so (shift_is op _) r

pub no_shift : (text : List ℕ) (depth : ℕ) (left : ExprTree) (at : Place) (op : ShiftOperator) (a : List Token)
    (e : Stop) → IsRefused (AnyOf (λ _. IsNumber text)) Nothing a e →
    IsRefused (AnyOf (λ reach. IsJoined text depth reach left at (joining.Shift op))) Nothing a e
no_shift text depth left at op a e h = refused_in (shift_is op a) (λ deep here blocked. blocked) e h
