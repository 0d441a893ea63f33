-- Which tokens go on with an expression.
use Rattle.std.proofs.Common.{◌≡◌, ◌≢◌, ℕ, ◌<◌, ◌≤◌, Option, Some, None, refl, sym, ap, ◌∙◌, arith}
use Rattle.tm_syntax.specs.declared.token.TokenKind.{TokenKind}
use Rattle.tm_syntax.specs.declared.token.TokenKind.TheVariants as token
use Rattle.tm_syntax.specs.declared.token.Sign.{Sign}
use Rattle.tm_syntax.specs.declared.token.Sign.TheVariants as sign
use Rattle.tm_syntax.specs.declared.tree.BinaryOperator.TheVariants as operator
use Rattle.tm_base.specs.declared.shift_operator.ShiftOperator.TheVariants as shift_operator
use Rattle.tm_parse.specs.declared.operators.Infix.{Infix}
use Rattle.tm_parse.specs.declared.operators.Infix.TheVariants as joining
use Rattle.tm_parse.specs.Operands.{infix_sign, infix_strength, GoesExpr, goes_dot, goes_bracket, goes_infix, goes_question}

-- the operator that a sign is
abbrev pub infix_at : Sign → Option Infix
infix_at sign.Equal = Some (joining.Binary operator.Equal)
infix_at sign.NotEqual = Some (joining.Binary operator.NotEqual)
infix_at sign.Less = Some (joining.Binary operator.Less)
infix_at sign.LessEqual = Some (joining.Binary operator.LessEqual)
infix_at sign.Greater = Some (joining.Binary operator.Greater)
infix_at sign.GreaterEqual = Some (joining.Binary operator.GreaterEqual)
infix_at sign.ShiftLeft = Some (joining.Shift shift_operator.Left)
infix_at sign.ShiftRight = Some (joining.Shift shift_operator.Right)
infix_at sign.Plus = Some (joining.Binary operator.Add)
infix_at sign.Minus = Some (joining.Binary operator.Subtract)
infix_at sign.And = Some (joining.Binary operator.And)
infix_at sign.AndAnd = Some (joining.Binary operator.AndAlso)
infix_at sign.Or = Some (joining.Binary operator.Or)
infix_at sign.OrOr = Some (joining.Binary operator.OrElse)
infix_at sign.Xor = Some (joining.Binary operator.Xor)
infix_at _ = None

pub infix_at-sign : (op : Infix) → infix_at (infix_sign op) ≡ Some op
infix_at-sign (joining.Binary operator.Equal) = refl
infix_at-sign (joining.Binary operator.NotEqual) = refl
infix_at-sign (joining.Binary operator.Less) = refl
infix_at-sign (joining.Binary operator.LessEqual) = refl
infix_at-sign (joining.Binary operator.Greater) = refl
infix_at-sign (joining.Binary operator.GreaterEqual) = refl
infix_at-sign (joining.Binary operator.Add) = refl
infix_at-sign (joining.Binary operator.Subtract) = refl
infix_at-sign (joining.Binary operator.And) = refl
infix_at-sign (joining.Binary operator.AndAlso) = refl
infix_at-sign (joining.Binary operator.Or) = refl
infix_at-sign (joining.Binary operator.OrElse) = refl
infix_at-sign (joining.Binary operator.Xor) = refl
infix_at-sign (joining.Shift shift_operator.Left) = refl
infix_at-sign (joining.Shift shift_operator.Right) = refl

-- no two operators have one sign
pub infix-injective : (op other : Infix) → token.Sign (infix_sign op) ≡ token.Sign (infix_sign other) → op ≡ other
infix-injective op other e =
    let signs : infix_sign op ≡ infix_sign other = cc in
    let found : Some op ≡ Some other = sym (infix_at-sign op) ∙ ap infix_at signs ∙ infix_at-sign other in
    cc

-- a sign that is no operator behind an expression goes on with none
pub no_goes : (bound : ℕ) (s : Sign) → infix_at s ≡ None → s ≢ sign.Dot → s ≢ sign.OpenBracket →
    (bound ≡ 0 → s ≢ sign.Question) → ¬ GoesExpr bound (Some (token.Sign s))
no_goes bound s none no_dot no_bracket no_question (goes_dot e) = no_dot (cc)
no_goes bound s none no_dot no_bracket no_question (goes_bracket e) = no_bracket (cc)
no_goes bound s none no_dot no_bracket no_question (goes_infix op above e) =
    let same : s ≡ infix_sign op = cc in
    let found : None ≡ Some op = sym none ∙ ap infix_at same ∙ infix_at-sign op in
    cc
no_goes bound s none no_dot no_bracket no_question (goes_question loose e) = no_question loose (cc)

pub no_goes_parenthesis : (bound : ℕ) → ¬ GoesExpr bound (Some (token.Sign sign.CloseParenthesis))
no_goes_parenthesis bound =
    no_goes bound sign.CloseParenthesis refl (λ e. cc) (λ e. cc) (λ loose e. cc)

pub no_goes_bracket : (bound : ℕ) → ¬ GoesExpr bound (Some (token.Sign sign.CloseBracket))
no_goes_bracket bound = no_goes bound sign.CloseBracket refl (λ e. cc) (λ e. cc) (λ loose e. cc)

pub no_goes_colon : (bound : ℕ) → ¬ GoesExpr bound (Some (token.Sign sign.Colon))
no_goes_colon bound = no_goes bound sign.Colon refl (λ e. cc) (λ e. cc) (λ loose e. cc)

-- a question mark goes on with a conditional expression alone
pub no_goes_question : (bound : ℕ) → 1 ≤ bound → ¬ GoesExpr bound (Some (token.Sign sign.Question))
no_goes_question bound above =
    no_goes bound sign.Question refl (λ e. cc) (λ e. cc) (λ loose e. omega arith)

-- what goes on with what binds strongly goes on with what binds less strongly
pub goes_weaker : {bound : ℕ} {kind : Option TokenKind} (less : ℕ) → less ≤ bound → GoesExpr bound kind →
    GoesExpr less kind
goes_weaker less h (goes_dot e) = goes_dot e
goes_weaker less h (goes_bracket e) = goes_bracket e
goes_weaker less h (goes_infix op above e) = goes_infix op (omega arith) e
goes_weaker less h (goes_question loose e) = goes_question (omega arith) e

-- an operator that binds more loosely does not go on with an expression
pub no_goes_infix : (bound : ℕ) (op : Infix) → infix_strength op < bound →
    ¬ GoesExpr bound (Some (token.Sign (infix_sign op)))
no_goes_infix bound op below (goes_dot e) =
    let same : infix_sign op ≡ sign.Dot = cc in
    let found : Some op ≡ None = sym (infix_at-sign op) ∙ ap infix_at same in
    cc
no_goes_infix bound op below (goes_bracket e) =
    let same : infix_sign op ≡ sign.OpenBracket = cc in
    let found : Some op ≡ None = sym (infix_at-sign op) ∙ ap infix_at same in
    cc
no_goes_infix bound op below (goes_infix other above e) =
    let kinds : token.Sign (infix_sign op) ≡ token.Sign (infix_sign other) = cc in
    let same = ap infix_strength (infix-injective op other kinds) in
    omega arith
no_goes_infix bound op below (goes_question loose e) = omega arith
