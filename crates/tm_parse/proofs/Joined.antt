-- The right operand of an operator, which its reader tells apart by its kind.
use Rattle.std.proofs.Common.{◌≡◌, ℕ, ◌+◌, List, sym, subst, arith}
use Rattle.tm_base.specs.declared.place.Place.{Place}
use Rattle.tm_base.specs.declared.shift_operator.ShiftOperator.{ShiftOperator}
use Rattle.tm_syntax.specs.declared.token.Token.{Token}
use Rattle.tm_syntax.specs.declared.tree.BinaryOperator.{BinaryOperator}
use Rattle.tm_syntax.specs.declared.tree.Num.{Num}
use Rattle.tm_syntax.specs.Tree.{ExprTree, binary, shift}
use Rattle.tm_syntax.specs.Grammar.Parts.{IsNumber}
use Rattle.tm_syntax.specs.Grammar.Expressions.{strength}
use Rattle.tm_parse.specs.declared.operators.Infix.{Infix}
use Rattle.tm_parse.specs.declared.operators.Infix.TheVariants as joining
use Rattle.tm_parse.specs.declared.stop.Stop.{Stop}
use Rattle.tm_parse.specs.Reading.{IsRefused, Takes, AnyOf, Nothing}
use Rattle.tm_parse.specs.Operands.{AnExpr, GoesExpr, GoesJoined, IsJoined, ATail}
use Rattle.tm_parse.proofs.Choices.{taken_right, no_right_operand, no_right_tail, taken_shift, no_shift}
use Rattle.tm_parse.proofs.Spine.{strength_most}

-- an expression on the right, of an operand and its tail
pub taken_joined : {text : List ℕ} {depth least : ℕ} {left x e : ExprTree} {at : Place} {operator : Infix}
    (op : BinaryOperator) {a b c : List Token} → operator ≡ joining.Binary op → least ≡ strength op + 1 →
    Takes (AnExpr text 10 depth) (GoesExpr 10) x a b → Takes (ATail text least depth x) (GoesExpr least) e b c →
    Takes (λ reach. IsJoined text depth reach left at operator) (GoesJoined operator) (binary at op left e) a c
taken_joined {text} {depth} {left} {x} {e} {at} op {a} {b} {c} same bound r s =
    subst (λ (o : Infix). Takes (λ reach. IsJoined text depth reach left at o) (GoesJoined o) (binary at op left e) a c)
    (sym same)
    (taken_right op (omega (arith, strength_most op)) r
    (subst (λ (n : ℕ). Takes (ATail text n depth x) (GoesExpr n) e b c) bound s))

pub no_joined_operand : (text : List ℕ) (depth : ℕ) (left : ExprTree) (at : Place) {operator : Infix}
    (op : BinaryOperator) (a : List Token) → operator ≡ joining.Binary op → (e : Stop) →
    IsRefused (AnyOf (AnExpr text 10 depth)) (GoesExpr 10) a e →
    IsRefused (AnyOf (λ reach. IsJoined text depth reach left at operator)) (GoesJoined operator) a e
no_joined_operand text depth left at op a same e h =
    subst (λ (o : Infix). IsRefused (AnyOf (λ reach. IsJoined text depth reach left at o)) (GoesJoined o) a e)
    (sym same) (no_right_operand text depth left at op a (omega (arith, strength_most op)) e h)

pub no_joined_tail : {text : List ℕ} {depth least : ℕ} {x : ExprTree} (left : ExprTree) (at : Place) {operator : Infix}
    (op : BinaryOperator) {a b : List Token} → operator ≡ joining.Binary op → least ≡ strength op + 1 →
    Takes (AnExpr text 10 depth) (GoesExpr 10) x a b → (e : Stop) →
    IsRefused (AnyOf (ATail text least depth x)) (GoesExpr least) b e →
    IsRefused (AnyOf (λ reach. IsJoined text depth reach left at operator)) (GoesJoined operator) a e
no_joined_tail {text} {depth} {x} left at op {a} {b} same bound r e h =
    subst (λ (o : Infix). IsRefused (AnyOf (λ reach. IsJoined text depth reach left at o)) (GoesJoined o) a e)
    (sym same)
    (no_right_tail left at op (omega (arith, strength_most op)) r e
    (subst (λ (n : ℕ). IsRefused (AnyOf (ATail text n depth x)) (GoesExpr n) b e) bound h))

-- a number on the right
pub taken_joined_shift : {text : List ℕ} {depth : ℕ} {left : ExprTree} {at : Place} {n : Num} {operator : Infix}
    (op : ShiftOperator) {a b : List Token} → operator ≡ joining.Shift op →
    Takes (λ _. IsNumber text) Nothing n a b →
    Takes (λ reach. IsJoined text depth reach left at operator) (GoesJoined operator) (shift at op left n) a b
taken_joined_shift {text} {depth} {left} {at} {n} op {a} {b} same r =
    subst (λ (o : Infix). Takes (λ reach. IsJoined text depth reach left at o) (GoesJoined o) (shift at op left n) a b)
    (sym same) (taken_shift op r)

pub no_joined_shift : (text : List ℕ) (depth : ℕ) (left : ExprTree) (at : Place) {operator : Infix}
    (op : ShiftOperator) (a : List Token) → operator ≡ joining.Shift op → (e : Stop) →
    IsRefused (AnyOf (λ _. IsNumber text)) Nothing a e →
    IsRefused (AnyOf (λ reach. IsJoined text depth reach left at operator)) (GoesJoined operator) a e
no_joined_shift text depth left at op a same e h =
    subst (λ (o : Infix). IsRefused (AnyOf (λ reach. IsJoined text depth reach left at o)) (GoesJoined o) a e)
    (sym same) (no_shift text depth left at op a e h)
