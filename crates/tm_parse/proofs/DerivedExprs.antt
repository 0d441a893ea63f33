-- What is derived within the limit was read: expressions.
use Rattle.std.proofs.Common.{◌≡◌, ℕ, ◌+◌, ◌≤◌, Option, List, refl, subst, arith}
use Rattle.tm_base.specs.declared.place.Place.{Place}
use Rattle.tm_syntax.specs.declared.token.Token.{Token}
use Rattle.tm_syntax.specs.declared.token.TokenKind.{TokenKind}
use Rattle.tm_syntax.specs.declared.token.TokenKind.TheVariants as token
use Rattle.tm_syntax.specs.declared.tree.BinaryOperator.{BinaryOperator}
use Rattle.tm_syntax.specs.Tree.{ExprTree, truth, number, path, group, unary, binary, shift, conditional, cast, element}
use Rattle.tm_syntax.specs.Grammar.Parts.{IsMark}
use Rattle.tm_syntax.specs.Grammar.Expressions.{binary_sign, unary_sign, strength, height, IsExpr, expr_conditional, expr_binary, expr_shift, expr_unary, expr_number, expr_true, expr_false, expr_path, expr_element, expr_group, expr_cast}
use Rattle.tm_parse.specs.declared.operators.Infix.TheVariants as joining
use Rattle.tm_parse.specs.Reading.{IsBound, first_kind, Takes}
use Rattle.tm_parse.specs.Width.{width}
use Rattle.tm_parse.specs.Operands.{AnExpr, GoesExpr, goes_dot, goes_bracket, goes_infix, goes_question, encloses, from_path, from_element}
use Rattle.tm_parse.proofs.Arguments.{other_kind}
use Rattle.tm_parse.proofs.Choices.{taken_whole, taken_from, taken_choice_none, taken_choice, taken_right, taken_shift}
use Rattle.tm_parse.proofs.Derived.{near, derived_mark, derived_has, near_low, derived_opening, derived_mark_opening, derived_number, derived_path}
use Rattle.tm_parse.proofs.Enclosed.{taken_enclosed}
use Rattle.tm_parse.proofs.Goes.{no_goes_parenthesis, no_goes_bracket, no_goes_colon, no_goes_question, goes_weaker, no_goes_infix}
use Rattle.tm_parse.proofs.Primaries.{is_number, is_true, is_false, is_place, is_group, is_cast, sorted, taken_number_expr, taken_true, taken_false, taken_group, taken_cast, taken_place, taken_path_alone, taken_element, taken_unary}
use Rattle.tm_parse.proofs.Spine.{strength_positive, strength_most, infix_most}
use Rattle.tm_parse.proofs.Tails.{TailSoFar, tail_start, tail_taken, tail_next}
use Rattle.tm_parse.proofs.Terminals.{mark_kind, mark_has, has_kind, has_mark}
use Rattle.tm_parse.proofs.Types.{taken_width}

-- how strongly an expression binds
abbrev pub top : ExprTree → ℕ
top (truth _ _) = 10
top (number _) = 10
top (path _) = 10
top (group _ _) = 10
top (unary _ _ _) = 10
top (binary _ op _ _) = strength op
top (shift _ _ _ _) = 8
top (conditional _ _ _ _) = 0
top (cast _ _ _) = 10
top (element _ _) = 10

-- an operand was read, and what operators join to it so far
pub record ExprSoFar (text : List ℕ) (least depth : ℕ) (e : ExprTree) (tokens rest : List Token) : Type 0 where
  pub first : ExprTree
  pub between : List Token
  pub operand : Takes (AnExpr text 10 depth) (GoesExpr 10) first tokens between
  pub most : ℕ
  pub high : (k : ℕ) → k ≤ 9 → k ≤ top e → k ≤ most
  pub tail : TailSoFar text least depth first e most between rest

-- an expression was read, wherever no token goes on with it
pub record WasRead (text : List ℕ) (bound depth : ℕ) (e : ExprTree) (tokens rest : List Token) : Type 0 where
  pub above : bound ≤ 10 → bound ≤ top e
  pub chain : (least : ℕ) → 1 ≤ least → least ≤ top e → ¬ GoesExpr (top e + 1) (first_kind rest) →
      ExprSoFar text least depth e tokens rest
  pub alone : 10 ≤ top e → ¬ GoesExpr 10 (first_kind rest) → Takes (AnExpr text 10 depth) (GoesExpr 10) e tokens rest
  pub whole : ¬ GoesExpr 0 (first_kind rest) → Takes (AnExpr text 0 depth) (GoesExpr 0) e tokens rest

-- what goes on with an operand is no operator
goes_operand : {kind : Option TokenKind} (bound : ℕ) → GoesExpr 10 kind → GoesExpr bound kind
goes_operand bound (goes_dot e) = goes_dot e
goes_operand bound (goes_bracket e) = goes_bracket e
goes_operand bound (goes_infix op above e) = absurd (omega (arith, infix_most op))
goes_operand bound (goes_question loose e) = absurd (omega arith)

whole_so : {text : List ℕ} {depth : ℕ} {e : ExprTree} {a c : List Token} → ¬ GoesExpr 0 (first_kind c) →
    ExprSoFar text 1 depth e a c → Takes (AnExpr text 0 depth) (GoesExpr 0) e a c
whole_so {c} stop s =
    taken_whole s.operand
    (taken_from (tail_taken (λ op above below kind. stop (goes_infix op (omega arith) kind)) s.tail)
    (taken_choice_none c (λ kind. stop (goes_question refl kind))))

-- an operand
operand_read : {text : List ℕ} {bound depth : ℕ} {e : ExprTree} {a c : List Token} → top e ≡ 10 →
    (¬ GoesExpr 10 (first_kind c) → Takes (AnExpr text 10 depth) (GoesExpr 10) e a c) →
    WasRead text bound depth e a c
operand_read {text} {depth} {e} {a} {c} strong read = record {
  above = λ low. omega arith;
  chain = λ least above below stop. chain least (λ goes. stop (goes_operand (top e + 1) goes));
  alone = λ high stop. read stop;
  whole = λ stop. whole_so stop (chain 1 (λ goes. stop (goes_operand 0 goes)));
}
  where
    chain : (least : ℕ) → ¬ GoesExpr 10 (first_kind c) → ExprSoFar text least depth e a c
    chain least stop = record {
      first = e;
      between = c;
      operand = read stop;
      most = 9;
      high = λ k low strong. low;
      tail = tail_start;
    }

-- an operand, an operator and what stands on its right
binary_chain : {text : List ℕ} {depth : ℕ} (op : BinaryOperator) {at : Place} {l r : ExprTree} {a b c d : List Token} →
    strength op ≤ top l → strength op + 1 ≤ top r →
    ((least : ℕ) → 1 ≤ least → least ≤ top l → ¬ GoesExpr (top l + 1) (first_kind b) → ExprSoFar text least depth l a
    b) →
    IsMark (token.Sign (binary_sign op)) at b c → height l + 1 ≤ 128 →
    ((least : ℕ) → 1 ≤ least → least ≤ top r → ¬ GoesExpr (top r + 1) (first_kind d) → ExprSoFar text least depth r c
    d) →
    (least : ℕ) → 1 ≤ least → least ≤ strength op → ¬ GoesExpr (strength op + 1) (first_kind d) →
    ExprSoFar text least depth (binary at op l r) a d
binary_chain {text} {depth} op {at} {l} {r} {d} strong stronger left m low right least above below stop =
    let s = left least above (omega arith) (λ goes.
    no_goes_infix (top l + 1) (joining.Binary op) (omega arith) (subst (GoesExpr (top l + 1)) (mark_kind m) goes)) in
    let t = right (strength op + 1) (omega arith) stronger
    (λ goes. stop (goes_weaker (strength op + 1) (omega arith) goes)) in
    record {
      first = s.first;
      between = s.between;
      operand = s.operand;
      most = strength op;
      high = λ k small fits. fits;
      tail = tail_next (joining.Binary op) below (s.high (strength op) (strength_most op) strong) low s.tail
          (derived_mark m)
          (taken_right op (omega (arith, strength_most op)) t.operand
          (tail_taken (λ o more less kind. stop (goes_infix o more kind)) t.tail));
    }

shift_chain : {text : List ℕ} {depth : ℕ} {l e : ExprTree} {a b d : List Token} →
    8 ≤ top l → 8 ≡ top e →
    ((least : ℕ) → 1 ≤ least → least ≤ top l → ¬ GoesExpr (top l + 1) (first_kind b) → ExprSoFar text least depth l a
    b) →
    ¬ GoesExpr (top l + 1) (first_kind b) →
    ((least most : ℕ) (first : ExprTree) (between : List Token) → least ≤ 8 → 8 ≤ most →
    TailSoFar text least depth first l most between b → TailSoFar text least depth first e 8 between d) →
    (least : ℕ) → 1 ≤ least → least ≤ 8 → ExprSoFar text least depth e a d
shift_chain {l} {e} strong same left stop next least above below =
    let s = left least above (omega arith) stop in
    record {
      first = s.first;
      between = s.between;
      operand = s.operand;
      most = 8;
      high = λ k small fits. omega arith;
      tail = next least s.most s.first s.between below (s.high 8 (omega arith) strong) s.tail;
    }

pub expr_read : {text : List ℕ} {bound depth : ℕ} {e : ExprTree} {a c : List Token} →
    IsExpr text (IsBound near) bound depth e a c → WasRead text bound depth e a c
expr_read {text} {depth} (expr_conditional {e = test} {a} {b} loosest e m w f o g) =
    let t = expr_read e in
    let one = expr_read f in
    let other = expr_read g in
    record {
      above = λ low. omega arith;
      chain = λ least above below stop. absurd (omega arith);
      alone = λ high stop. absurd (omega arith);
      whole = λ stop.
          let s = t.chain 1 (omega arith) (t.above (omega arith)) (λ goes.
          no_goes_question (top test + 1) (omega arith) (subst (GoesExpr (top test + 1)) (mark_kind m) goes)) in
          taken_whole s.operand
          (taken_from
          (tail_taken (λ op above below kind.
          no_goes_question 1 (omega arith) (subst (GoesExpr 1) (mark_kind m) (goes_infix op above kind))) s.tail)
          (taken_choice test b (mark_kind m) (derived_mark_opening depth m w)
          (one.whole (λ goes. no_goes_colon 0 (subst (GoesExpr 0) (has_kind o) goes))) (derived_has o)
          (other.whole stop)));
    }
expr_read {depth} (expr_binary {op} s e m w f) =
    let l = expr_read e in
    let r = expr_read f in
    let chain = binary_chain op (l.above (omega (arith, strength_most op))) (r.above (omega (arith, strength_most op)))
    l.chain m (near_low _ (mark_has m) w) r.chain in
    record {
      above = λ low. s;
      chain = chain;
      alone = λ high stop. absurd (omega (arith, strength_most op));
      whole = λ stop. whole_so stop (chain 1 (omega arith) (strength_positive op)
          (λ goes. stop (goes_weaker 0 (omega arith) goes)));
    }
expr_read {text} {depth} (expr_shift {op} {at} {e = left} {by} {b} {d} s e m w n) =
    let l = expr_read e in
    let next : (least most : ℕ) (first : ExprTree) (between : List Token) → least ≤ 8 → 8 ≤ most →
    TailSoFar text least depth first left most between b →
    TailSoFar text least depth first (shift at op left by) 8 between d =
    λ least most first between below above p.
    tail_next (joining.Shift op) below above (near_low _ (mark_has m) w) p (derived_mark m)
    (taken_shift op (derived_number n)) in
    let chain = shift_chain (l.above (omega arith)) refl l.chain (λ goes.
    no_goes_infix (top left + 1) (joining.Shift op) (let strong = l.above (omega arith) in omega arith)
    (subst (GoesExpr (top left + 1)) (mark_kind m) goes)) next in
    record {
      above = λ low. s;
      chain = λ least above below stop. chain least above below;
      alone = λ high stop. absurd (omega arith);
      whole = λ stop. whole_so stop (chain 1 (omega arith) (omega arith));
    }
expr_read {depth} (expr_unary {op} {a} m w e) =
    let inner = expr_read e in
    operand_read refl (λ stop.
    taken_unary op (token.Sign (unary_sign op)) a refl (mark_kind m)
    (derived_mark_opening depth m w) (inner.alone (inner.above (omega arith)) stop))
expr_read {text} {depth} (expr_number {a} n) =
    operand_read refl (λ stop. taken_number_expr a (sorted {depth = depth} {reach = near} (is_number n))
    (derived_number n))
expr_read {text} {depth} (expr_true {a} m) =
    operand_read refl (λ stop. taken_true a (sorted {text = text} {depth = depth} {reach = near} (is_true m))
    (derived_mark m))
expr_read {text} {depth} (expr_false {a} m) =
    operand_read refl (λ stop. taken_false a (sorted {text = text} {depth = depth} {reach = near} (is_false m))
    (derived_mark m))
expr_read {depth} (expr_path {a} {b} p) =
    operand_read refl (λ stop.
    taken_place a (sorted {depth = depth} {reach = near} (is_place p from_path))
    (derived_path (λ kind. stop (goes_dot kind)) p) (taken_path_alone b (λ kind. stop (goes_bracket kind))))
expr_read {depth} (expr_element {names} {a} {b} p o w e c) =
    let inner = expr_read e in
    operand_read refl (λ stop.
    taken_place a (sorted {depth = depth} {reach = near}
    (is_place p (from_element (encloses (record { mark = (has_mark o).1; within = w }) e c))))
    (derived_path (λ kind. let kinds = other_kind (has_kind o) kind in cc) p)
    (taken_element names b (has_kind o)
    (taken_enclosed (no_goes_bracket 0) (derived_opening depth o w)
    (inner.whole (λ goes. no_goes_bracket 0 (subst (GoesExpr 0) (has_kind c) goes))) (derived_has c))))
expr_read {depth} (expr_group {at} {a} {b} m w e c) =
    let inner = expr_read e in
    operand_read refl (λ stop.
    taken_group a (sorted {depth = depth} {reach = near} (is_group (record { mark = m; within = w }) e c))
    (derived_mark_opening depth m w)
    (inner.whole (λ goes. no_goes_parenthesis 0 (subst (GoesExpr 0) (has_kind c) goes))) (derived_has c))
expr_read {depth} (expr_cast {a} m l n g o w e c) =
    let inner = expr_read e in
    operand_read refl (λ stop.
    taken_cast a (sorted {depth = depth} {reach = near}
    (is_cast m (width l n g) (encloses (record { mark = (has_mark o).1; within = w }) e c)))
    (derived_mark m) (taken_width (derived_has l) (derived_number n) (derived_has g))
    (taken_enclosed (no_goes_parenthesis 0) (derived_opening depth o w)
    (inner.whole (λ goes. no_goes_parenthesis 0 (subst (GoesExpr 0) (has_kind c) goes))) (derived_has c)))
