use Rattle.std.proofs.Common.{◌≡◌, ◌≢◌, ℕ, ◌+◌, Some, List, is_some, refl, arith, rules, sym, ap, ◌∙◌, subst}
use Rattle.tm_syntax.specs.declared.token.Token.{Token}
use Rattle.tm_syntax.specs.declared.token.TokenKind.{TokenKind}
use Rattle.tm_syntax.specs.declared.token.TokenKind.TheVariants as token
use Rattle.tm_syntax.specs.declared.tree.UnaryOperator.{UnaryOperator}
use Rattle.tm_syntax.specs.Tree.View.{expr_tree}
use Rattle.tm_syntax.specs.Grammar.Expressions.{unary_sign}
use Rattle.tm_parse.specs.Reading.{first_kind}
use Rattle.tm_parse.specs.Operands.{IsPrefix, prefixes}
use Rattle.tm_parse.proofs.Choices.{taken_choice_none, taken_choice, no_choice_opening, no_choice_yes, no_choice_colon, no_choice_no, taken_from, no_from_tail, no_from_choice, taken_whole, no_whole_operand, no_whole_from}
use Rattle.tm_parse.proofs.Enclosed.{taken_enclosed, no_enclosed_opening, no_enclosed_expr, no_enclosed_closing}
use Rattle.tm_parse.proofs.Joined.{taken_joined, no_joined_operand, no_joined_tail, taken_joined_shift, no_joined_shift}
use Rattle.tm_parse.proofs.Primaries.{taken_number_expr, no_number_expr, taken_true, no_true, taken_false, no_false, taken_group, no_group_opening, no_group_expr, no_group_closing, taken_cast, no_cast_uint, no_cast_width, no_cast_expr, taken_place, no_place_path, no_place_from, taken_unary, no_unary_opening, no_unary_operand, no_operand, taken_path_alone, taken_element, no_element}
use Rattle.tm_parse.proofs.Taking.{ok_map, err_map, refused_so}
use Rattle.tm_parse.proofs.Tails.{TailSoFar, tail_start, tail_taken, tail_next, tail_refused, tail_deep}
use Rattle.tm_parse.proofs.expressions.+expression.Goals as goal

-- a token of a kind that is no prefix is the sign of no prefix operator
no_prefix : (a : List Token) (k : TokenKind) → first_kind a ≡ Some k → ¬ IsPrefix k → (op : UnaryOperator) →
    first_kind a ≢ Some (token.Sign (unary_sign op))
no_prefix a k kind none op e =
    let same : Some k ≡ Some (token.Sign (unary_sign op)) = sym kind ∙ e in
    none (prefixes op (cc))

pub whole-returns-in-Err-clause-refused : goal.whole-returns-in-Err-clause-refused
whole-returns-in-Err-clause-refused t c =
    no_whole_operand c.args.text.now c.args.depth c.args.tokens.now _ c.in-Err.ensures.refused

pub whole-returns-clause-taken : goal.whole-returns-clause-taken
whole-returns-clause-taken t c =
    ok_map (λ r h. taken_whole c.in-Ok.ensures.taken h) c.expr_from.result c.expr_from.ensures.taken

pub whole-returns-clause-refused : goal.whole-returns-clause-refused
whole-returns-clause-refused t c =
    err_map (λ e h. no_whole_from c.in-Ok.ensures.taken e h) c.expr_from.result c.expr_from.ensures.refused

pub boxed_expr-returns-clause-taken : goal.boxed_expr-returns-clause-taken
boxed_expr-returns-clause-taken t c = rw c.in_ok-expr.ensures.ok c.in-Ok.ensures.taken

pub boxed_expr-returns-clause-height : goal.boxed_expr-returns-clause-height
boxed_expr-returns-clause-height t c = rw c.in_ok-expr.ensures.ok c.in-Ok.ensures.height

pub boxed_expr-returns-in-Err-clause-refused : goal.boxed_expr-returns-in-Err-clause-refused
boxed_expr-returns-in-Err-clause-refused t c = c.in-Err.ensures.refused

pub expr_from-returns-in-Err-clause-refused : goal.expr_from-returns-in-Err-clause-refused
expr_from-returns-in-Err-clause-refused t c =
    no_from_tail c.args.text.now c.args.depth (expr_tree c.args.first.expr) c.args.tokens.now _
    c.in-Err.ensures.refused

pub expr_from-returns-clause-taken : goal.expr_from-returns-clause-taken
expr_from-returns-clause-taken t c =
    ok_map (λ r h. taken_from c.in-Ok.ensures.taken h) c.choice_from.result c.choice_from.ensures.taken

pub expr_from-returns-clause-refused : goal.expr_from-returns-clause-refused
expr_from-returns-clause-refused t c =
    err_map (λ e h. no_from_choice c.in-Ok.ensures.taken e h) c.choice_from.result c.choice_from.ensures.refused

pub choice_from-returns-then-ne-clause-taken : goal.choice_from-returns-then-ne-clause-taken
choice_from-returns-then-ne-clause-taken t c =
    taken_choice_none c.args.tokens.now (search rules)

pub choice_from-returns-in-Err-clause-refused : goal.choice_from-returns-in-Err-clause-refused
choice_from-returns-in-Err-clause-refused t c =
    no_choice_opening c.args.text.now c.args.depth (expr_tree c.args.test.expr) c.args.tokens.now (search rules)
    _ c.in-Err.ensures.refused

pub choice_from-returns-in-Err-boxed_expr-clause-refused : goal.choice_from-returns-in-Err-boxed_expr-clause-refused
choice_from-returns-in-Err-boxed_expr-clause-refused t c =
    no_choice_yes c.args.text.now (expr_tree c.args.test.expr) c.args.tokens.now (search rules)
    c.in-Ok.ensures.taken _ c.in-Err-boxed_expr.ensures.refused

pub choice_from-returns-in-Err-need-clause-refused : goal.choice_from-returns-in-Err-need-clause-refused
choice_from-returns-in-Err-need-clause-refused t c =
    no_choice_colon (expr_tree c.args.test.expr) c.args.tokens.now (search rules) c.in-Ok.ensures.taken
    c.in-Ok-boxed_expr.ensures.taken _
    c.in-Err-need.ensures.refused

pub choice_from-returns-in-Err-boxed_expr-2-clause-refused : goal.choice_from-returns-in-Err-boxed_expr-2-clause-refused
choice_from-returns-in-Err-boxed_expr-2-clause-refused t c =
    no_choice_no (expr_tree c.args.test.expr) c.args.tokens.now (search rules) c.in-Ok.ensures.taken
    c.in-Ok-boxed_expr.ensures.taken
    c.in-Ok-need.ensures.taken _ c.in-Err-boxed_expr-2.ensures.refused

pub choice_from-returns-clause-taken : goal.choice_from-returns-clause-taken
choice_from-returns-clause-taken t c =
    rw c.in_ok-test.ensures.ok
    (taken_choice (expr_tree c.args.test.expr) c.args.tokens.now (search rules) c.in-Ok.ensures.taken
    c.in-Ok-boxed_expr.ensures.taken c.in-Ok-need.ensures.taken
    c.in-Ok-boxed_expr-2.ensures.taken)

pub joined_from-loop-operator-init : goal.joined_from-loop-operator-init
joined_from-loop-operator-init t c =
    record { so_far = tail_start; height = c.requires.height; shorter = omega arith }

pub joined_from-loop-operator-preserved : goal.joined_from-loop-operator-preserved
joined_from-loop-operator-preserved t c =
    record {
      so_far = subst (λ (m : ℕ).
          TailSoFar c.args.text.now c.args.least c.args.depth (expr_tree c.args.first.expr)
          (expr_tree c.in-Ok.read.0.expr) m c.args.tokens.now c.in-Ok.read.1.now)
          (sym c.strength-most.ensures)
          (tail_next c.in-Some.operator c.in-Some.ensures.least c.in-Some.ensures.most (omega arith)
          c.loop-operator.invariant.so_far c.in-Some.ensures.taken c.in-Ok.ensures.taken);
      height = c.in-Ok.ensures.height;
      shorter = omega (arith, c.in-Some.ensures.shorter, c.in-Ok.ensures.shorter);
    }

pub joined_from-returns-then-left-ge-LIMIT-clause-refused : goal.joined_from-returns-then-left-ge-LIMIT-clause-refused
joined_from-returns-then-left-ge-LIMIT-clause-refused t c =
    tail_deep c.in-Some.operator c.loop-operator.rest.now c.in-Some.ensures.least c.in-Some.ensures.most (omega arith)
    c.loop-operator.invariant.so_far c.in-Some.ensures.some

pub joined_from-returns-in-Err-clause-refused : goal.joined_from-returns-in-Err-clause-refused
joined_from-returns-in-Err-clause-refused t c =
    refused_so (λ deep here. tail_refused c.in-Some.operator c.in-Some.ensures.least c.in-Some.ensures.most
    (omega arith)
    c.loop-operator.invariant.so_far c.in-Some.ensures.taken) _ c.in-Err.ensures.refused

pub joined_from-returns-clause-taken : goal.joined_from-returns-clause-taken
joined_from-returns-clause-taken t c =
    tail_taken (c.infix_between.ensures.none (ap is_some c.in_default.is)) c.loop-operator.invariant.so_far

pub joined-returns-in-Err-clause-refused : goal.joined-returns-in-Err-clause-refused
joined-returns-in-Err-clause-refused t c =
    no_joined_operand c.args.text.now c.args.depth (expr_tree c.args.left.expr) c.args.at c.in-Binary.binary
    c.args.tokens.now c.in-Binary.is _ c.in-Err.ensures.refused

pub joined-returns-in-Err-joined_from-clause-refused : goal.joined-returns-in-Err-joined_from-clause-refused
joined-returns-in-Err-joined_from-clause-refused t c =
    let bound = ap (λ (n : ℕ). n + 1) c.strength-least.ensures in
    no_joined_tail (expr_tree c.args.left.expr) c.args.at c.in-Binary.binary c.in-Binary.is bound
    c.in-Ok.ensures.taken _ c.in-Err-joined_from.ensures.refused

pub joined-returns-in_ok-right-in-Binary-clause-taken : goal.joined-returns-in_ok-right-in-Binary-clause-taken
joined-returns-in_ok-right-in-Binary-clause-taken t c =
    let bound = ap (λ (n : ℕ). n + 1) c.strength-least.ensures in
    rw (c.in_ok-left.ensures.ok, c.in_ok-right-in-Binary.ensures.ok)
    (taken_joined c.in-Binary.binary c.in-Binary.is bound c.in-Ok.ensures.taken
    c.in-Ok-joined_from.ensures.taken)

pub joined-returns-in-Err-number-clause-refused : goal.joined-returns-in-Err-number-clause-refused
joined-returns-in-Err-number-clause-refused t c =
    no_joined_shift c.args.text.now c.args.depth (expr_tree c.args.left.expr) c.args.at c.in-Shift.shift
    c.args.tokens.now c.in-Shift.is _ c.in-Err-number.ensures.refused

pub joined-returns-in-Ok-number-clause-taken : goal.joined-returns-in-Ok-number-clause-taken
joined-returns-in-Ok-number-clause-taken t c =
    rw c.in_ok-left.ensures.ok
    (taken_joined_shift c.in-Shift.shift c.in-Shift.is c.in-Ok-number.ensures.taken)

pub operand-returns-in_default-clause-refused : goal.operand-returns-in_default-clause-refused
operand-returns-in_default-clause-refused t c =
    no_operand c.args.text.now c.args.depth c.args.tokens.now (search rules) (search rules)

pub prefixed-returns-in-Err-clause-refused : goal.prefixed-returns-in-Err-clause-refused
prefixed-returns-in-Err-clause-refused t c =
    no_unary_opening c.args.text.now c.args.depth c.args.operator c.args.kind c.args.tokens.now c.requires.sign
    c.requires.kind _
    c.in-Err.ensures.refused

pub prefixed-returns-in-Err-operand-clause-refused : goal.prefixed-returns-in-Err-operand-clause-refused
prefixed-returns-in-Err-operand-clause-refused t c =
    no_unary_operand c.args.text.now c.args.operator c.args.kind c.args.tokens.now c.requires.sign
    c.requires.kind c.in-Ok.ensures.taken _
    c.in-Err-operand.ensures.refused

pub prefixed-returns-clause-taken : goal.prefixed-returns-clause-taken
prefixed-returns-clause-taken t c =
    rw c.in_ok-operand.ensures.ok
    (taken_unary c.args.operator c.args.kind c.args.tokens.now c.requires.sign c.requires.kind c.in-Ok.ensures.taken
    c.in-Ok-operand.ensures.taken)

pub primary-returns-in-Err-clause-refused :
    goal.primary-returns-in-Err-clause-refused
primary-returns-in-Err-clause-refused t c =
    no_number_expr c.args.text.now c.args.depth c.args.tokens.now (search rules) _
    c.in-Err.ensures.refused

pub primary-returns-in-Ok-clause-taken :
    goal.primary-returns-in-Ok-clause-taken
primary-returns-in-Ok-clause-taken t c =
    rw c.low.ensures.expr
    (taken_number_expr c.args.tokens.now (search rules) c.in-Ok.ensures.taken)

pub primary-returns-in-Err-need-clause-refused : goal.primary-returns-in-Err-need-clause-refused
primary-returns-in-Err-need-clause-refused t c =
    no_true c.args.text.now c.args.depth c.args.tokens.now (search rules) _
    c.in-Err-need.ensures.refused

pub primary-returns-in-Ok-need-clause-taken : goal.primary-returns-in-Ok-need-clause-taken
primary-returns-in-Ok-need-clause-taken t c =
    rw c.low-in-Some-True.ensures.expr
    (taken_true c.args.tokens.now (search rules) c.in-Ok-need.ensures.taken)

pub primary-returns-in-Err-need-2-clause-refused : goal.primary-returns-in-Err-need-2-clause-refused
primary-returns-in-Err-need-2-clause-refused t c =
    no_false c.args.text.now c.args.depth c.args.tokens.now (search rules) _
    c.in-Err-need-2.ensures.refused

pub primary-returns-in-Ok-need-2-clause-taken : goal.primary-returns-in-Ok-need-2-clause-taken
primary-returns-in-Ok-need-2-clause-taken t c =
    rw c.low-in-Some-False.ensures.expr
    (taken_false c.args.tokens.now (search rules) c.in-Ok-need-2.ensures.taken)

pub primary-returns-in-Err-path-clause-refused :
    goal.primary-returns-in-Err-path-clause-refused
primary-returns-in-Err-path-clause-refused t c =
    no_place_path c.args.text.now c.args.depth c.args.tokens.now (search rules) _
    c.in-Err-path.ensures.refused

pub primary-returns-in-Ok-path-clause-taken : goal.primary-returns-in-Ok-path-clause-taken
primary-returns-in-Ok-path-clause-taken t c =
    ok_map (λ r h. taken_place c.args.tokens.now (search rules) c.in-Ok-path.ensures.taken h)
    c.place_from.result c.place_from.ensures.taken

pub primary-returns-in-Ok-path-clause-refused :
    goal.primary-returns-in-Ok-path-clause-refused
primary-returns-in-Ok-path-clause-refused t c =
    err_map (λ e h. no_place_from c.args.depth c.args.tokens.now (search rules)
    c.in-Ok-path.ensures.taken e h) c.place_from.result c.place_from.ensures.refused

pub primary-returns-in-None-clause-refused : goal.primary-returns-in-None-clause-refused
primary-returns-in-None-clause-refused t c =
    no_operand c.args.text.now c.args.depth c.args.tokens.now (search rules)
    (no_prefix c.args.tokens.now c.args.kind c.requires.kind c.requires.primary)

pub group-returns-in-Err-clause-refused : goal.group-returns-in-Err-clause-refused
group-returns-in-Err-clause-refused t c =
    no_group_opening c.args.text.now c.args.depth c.args.tokens.now c.requires.primary _
    c.in-Err.ensures.refused

pub group-returns-in-Err-boxed_expr-clause-refused : goal.group-returns-in-Err-boxed_expr-clause-refused
group-returns-in-Err-boxed_expr-clause-refused t c =
    no_group_expr c.args.text.now c.args.tokens.now c.requires.primary c.in-Ok.ensures.taken _
    c.in-Err-boxed_expr.ensures.refused

pub group-returns-in-Err-need-clause-refused : goal.group-returns-in-Err-need-clause-refused
group-returns-in-Err-need-clause-refused t c =
    no_group_closing c.args.tokens.now c.requires.primary c.in-Ok.ensures.taken c.in-Ok-boxed_expr.ensures.taken _
    c.in-Err-need.ensures.refused

pub group-returns-clause-taken : goal.group-returns-clause-taken
group-returns-clause-taken t c =
    taken_group c.args.tokens.now c.requires.primary c.in-Ok.ensures.taken c.in-Ok-boxed_expr.ensures.taken
    c.in-Ok-need.ensures.taken

pub cast-returns-in-Err-clause-refused : goal.cast-returns-in-Err-clause-refused
cast-returns-in-Err-clause-refused t c =
    no_cast_uint c.args.text.now c.args.depth c.args.tokens.now c.requires.primary _ c.in-Err.ensures.refused

pub cast-returns-in-Err-width-clause-refused : goal.cast-returns-in-Err-width-clause-refused
cast-returns-in-Err-width-clause-refused t c =
    no_cast_width c.args.text.now c.args.depth c.args.tokens.now c.requires.primary c.in-Ok.ensures.taken _
    c.in-Err-width.ensures.refused

pub cast-returns-in-Err-enclosed-clause-refused : goal.cast-returns-in-Err-enclosed-clause-refused
cast-returns-in-Err-enclosed-clause-refused t c =
    no_cast_expr c.args.depth c.args.tokens.now c.requires.primary c.in-Ok.ensures.taken
    c.in-Ok-width.ensures.taken _
    c.in-Err-enclosed.ensures.refused

pub cast-returns-clause-taken : goal.cast-returns-clause-taken
cast-returns-clause-taken t c =
    rw c.in_ok-inner.ensures.ok
    (taken_cast c.args.tokens.now c.requires.primary c.in-Ok.ensures.taken c.in-Ok-width.ensures.taken
    c.in-Ok-enclosed.ensures.taken)

pub place_from-returns-then-ne-clause-taken : goal.place_from-returns-then-ne-clause-taken
place_from-returns-then-ne-clause-taken t c =
    rw c.low.ensures.expr (taken_path_alone c.args.tokens.now (search rules))

pub place_from-returns-in-Err-clause-refused : goal.place_from-returns-in-Err-clause-refused
place_from-returns-in-Err-clause-refused t c =
    no_element c.args.text.now c.args.depth c.args.path.names.items c.args.tokens.now (search rules) _
    c.in-Err.ensures.refused

pub place_from-returns-clause-taken : goal.place_from-returns-clause-taken
place_from-returns-clause-taken t c =
    rw c.in_ok-index.ensures.ok
    (taken_element c.args.path.names.items c.args.tokens.now (search rules) c.in-Ok.ensures.taken)

pub enclosed-returns-in-Err-clause-refused : goal.enclosed-returns-in-Err-clause-refused
enclosed-returns-in-Err-clause-refused t c =
    no_enclosed_opening c.args.text.now c.args.opening c.args.closing c.args.depth c.args.tokens.now _
    c.in-Err.ensures.refused

pub enclosed-returns-in-Err-whole-clause-refused : goal.enclosed-returns-in-Err-whole-clause-refused
enclosed-returns-in-Err-whole-clause-refused t c =
    no_enclosed_expr c.args.text.now c.args.closing c.requires.closes c.in-Ok.ensures.taken _
    c.in-Err-whole.ensures.refused

pub enclosed-returns-in-Err-need-clause-refused : goal.enclosed-returns-in-Err-need-clause-refused
enclosed-returns-in-Err-need-clause-refused t c =
    no_enclosed_closing c.requires.closes c.in-Ok.ensures.taken c.in-Ok-whole.ensures.taken _
    c.in-Err-need.ensures.refused

pub enclosed-returns-clause-taken : goal.enclosed-returns-clause-taken
enclosed-returns-clause-taken t c =
    taken_enclosed c.requires.closes c.in-Ok.ensures.taken c.in-Ok-whole.ensures.taken c.in-Ok-need.ensures.taken
