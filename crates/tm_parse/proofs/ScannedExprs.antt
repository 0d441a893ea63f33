-- The scan of an expression: behind it the operators that wait are those before it, and its height is known.
use Rattle.std.proofs.Common.{◌≡◌, ℕ, ◌+◌, ◌<◌, ◌≤◌, max, Bool, false, if◌then◌else◌, Some, None, List, ◌∷◌, refl, ap, ◌∙◌, arith}
use Rattle.tm_syntax.specs.declared.token.Token.{Token}
use Rattle.tm_syntax.specs.declared.token.TokenKind.{TokenKind}
use Rattle.tm_syntax.specs.declared.token.TokenKind.TheVariants as token
use Rattle.tm_syntax.specs.declared.token.Sign.TheVariants as sign
use Rattle.tm_syntax.specs.declared.tree.Ident.{Ident}
use Rattle.tm_syntax.specs.declared.tree.Num.{Num}
use Rattle.tm_syntax.specs.declared.tree.UnaryOperator.{UnaryOperator}
use Rattle.tm_syntax.specs.declared.tree.UnaryOperator.TheVariants as unary_operator
use Rattle.tm_syntax.specs.Tree.{ExprTree, truth, number, path, group, unary, binary, shift, conditional, cast, element}
use Rattle.tm_syntax.specs.Grammar.Parts.{Has, IsNumber, IsPath, parted_one, parted_more}
use Rattle.tm_syntax.specs.Grammar.Expressions.{unary_sign, strength, height, IsExpr, expr_conditional, expr_binary, expr_shift, expr_unary, expr_number, expr_true, expr_false, expr_path, expr_element, expr_group, expr_cast}
use Rattle.tm_parse.specs.declared.operators.Infix.{Infix}
use Rattle.tm_parse.specs.declared.operators.Infix.TheVariants as joining
use Rattle.tm_parse.specs.Operands.{infix_sign, infix_strength}
use Rattle.tm_parse.proofs.Goes.{infix_at-sign}
use Rattle.tm_parse.proofs.Names.{name_has, number_has}
use Rattle.tm_parse.proofs.Scan.{Waiting, opened, asking, joined, sizing, State, state, levels, settle, settled, bare, past_else, past_size, sized, operate, ask, branch, close, step_infix, step, depth_bracket, depth_operand, depth_infix, depth_of, settle_through, settle_stops}
use Rattle.tm_parse.proofs.Scanned.{Here, behind_plain, behind_asked, Known, known, Ends, Calm}
use Rattle.tm_parse.proofs.Spine.{strength_positive, strength_most}
use Rattle.tm_parse.proofs.Terminals.{mark_has}

-- an operand may begin here, to which an operator on its left joins what binds at least so strongly
pub record Fits (bound : ℕ) (w : List Waiting) : Type 0 where
  pub stops : (k h : ℕ) → bound ≤ k → 1 ≤ k → k ≤ 9 → settle k w h ≡ state w h
  pub is_bare : bare w ≡ w
  pub unsized : sized w ≡ false
  pub inside : depth_bracket w ≡ Some (levels w + 1)

-- a whole expression or a statement may begin here
pub record Level (w : List Waiting) : Type 0 where
  pub stops : (k h : ℕ) → settle k w h ≡ state w h
  pub is_bare : bare w ≡ w
  pub unsized : sized w ≡ false
  pub inside : depth_bracket w ≡ Some (levels w + 1)
  pub unchanged : past_else w ≡ w

pub level_opened : (w : List Waiting) → Level (opened ∷ w)
level_opened w = record {
  stops = λ k h. refl;
  is_bare = refl;
  unsized = refl;
  inside = refl;
  unchanged = refl;
}

pub level_fits : {w : List Waiting} (bound : ℕ) → Level w → Fits bound w
level_fits bound l = record {
  stops = λ k h above positive below. l.stops k h;
  is_bare = l.is_bare;
  unsized = l.unsized;
  inside = l.inside;
}

fits_more : {w : List Waiting} {bound : ℕ} (more : ℕ) → bound ≤ more → Fits bound w → Fits more w
fits_more more le f = record {
  stops = λ k h above positive below. f.stops k h (omega arith) positive below;
  is_bare = f.is_bare;
  unsized = f.unsized;
  inside = f.inside;
}

fits_asking : (t : ℕ) (w : List Waiting) → Fits 0 (asking t ∷ w)
fits_asking t w = record { stops = λ k h above positive below. refl; is_bare = refl; unsized = refl; inside = refl }

fits_joined : (bound s l g : ℕ) (w : List Waiting) → ((k : ℕ) → bound ≤ k → 1 ≤ k → k ≤ 9 → s < k) →
    Fits bound (joined s l g ∷ w)
fits_joined bound s l g w less = record {
  stops = λ k h above positive below. settle_stops k s l g h w (less k above positive below);
  is_bare = refl;
  unsized = refl;
  inside = refl;
}

-- an operator behind an operand
depth_operator : (op : Infix) (s : State) {w : List Waiting} {h : ℕ} → settled (infix_strength op) s ≡ state w h →
    sized w ≡ false → depth_of (token.Sign (infix_sign op)) s ≡ Some (h + 1)
depth_operator op s {h} there free =
    ap (λ o. depth_infix o (infix_sign op) s) (infix_at-sign op) ∙ ap depth_operand there
    ∙ ap (λ (b : Bool). if b then None else Some (h + 1)) free

step_operator : (op : Infix) (s : State) {w : List Waiting} {h : ℕ} → settled (infix_strength op) s ≡ state w h →
    sized w ≡ false → step (token.Sign (infix_sign op)) s ≡ state (joined (infix_strength op) 0 h ∷ w) h
step_operator op s {w} {h} there free =
    ap (λ o. step_infix o (infix_sign op) s) (infix_at-sign op)
    ∙ ap (operate (infix_strength op) (infix_sign op)) there
    ∙ ap (λ (b : Bool). if b then state (past_size (infix_sign op) w) h
    else state (joined (infix_strength op) 0 h ∷ w) h) free

-- a prefix operator
depth_unary : (op : UnaryOperator) (s : State) → depth_of (token.Sign (unary_sign op)) s ≡ Some (levels s.waiting + 1)
depth_unary unary_operator.Complement s = refl
depth_unary unary_operator.Not s = refl

step_unary : (op : UnaryOperator) (s : State) →
    step (token.Sign (unary_sign op)) s ≡ state (joined 10 1 0 ∷ s.waiting) s.height
step_unary unary_operator.Complement s = refl
step_unary unary_operator.Not s = refl

pub scan_path : {text : List ℕ} {May : List Token → ℕ → Type 0} {tokens : List Token} {w : List Waiting}
    {names : List Ident} {a b : List Token} → bare w ≡ w → Calm May tokens w a → IsPath text names a b →
    Here May tokens (state w 1) b
scan_path same c (parted_one n) = behind_plain c.here (name_has n) refl (ap (λ l. state l 1) c.calm)
scan_path same c (parted_more front m n) =
    behind_plain (behind_plain (scan_path same c front) m refl refl) (name_has n) refl (ap (λ l. state l 1) same)

-- a token that opens a level
pub opens : {May : List Token → ℕ → Type 0} {tokens : List Token} {kind : TokenKind} {s r : State} {depth : ℕ}
    {a b : List Token} (w : List Waiting) → levels w ≡ depth → Here May tokens s a → Has kind a b →
    depth_of kind s ≡ Some (levels w + 1) → May a (depth + 1) → step kind s ≡ r →
    Here May tokens r b × Known May tokens a (depth + 1)
opens w same here m deep may next =
    let there = deep ∙ ap (λ n. Some (n + 1)) same in
    (behind_asked here m there may next, known here m there)

-- an expression was scanned
pub record ExprScanned (text : List ℕ) (May : List Token → ℕ → Type 0) (tokens : List Token) (w : List Waiting)
    (bound depth : ℕ) (e : ExprTree) (a b : List Token) : Type 0 where
  pub last : State
  pub here : Here May tokens last b
  pub ends : (k : ℕ) → k ≤ bound → k ≤ 10 → settled k last ≡ settle k w (height e)
  pub is : IsExpr text (Known May tokens) bound depth e a b

-- each expression is at least 1 high
pub height_positive : (e : ExprTree) → 1 ≤ height e
height_positive (truth p v) = omega arith
height_positive (number n) = omega arith
height_positive (path names) = omega arith
height_positive (group p e) = omega arith
height_positive (unary p op e) = omega arith
height_positive (binary p op e f) = omega arith
height_positive (shift p op e n) = omega arith
height_positive (conditional p e f g) = omega arith
height_positive (cast p n e) = omega arith
height_positive (element names e) = omega arith

zero_max : (n : ℕ) → max 0 n ≡ n
zero_max n = omega arith

one_max : (n : ℕ) → 1 ≤ n → max n 1 ≡ n
one_max n positive = omega arith

max_max : (a b c : ℕ) → max (max a b) c ≡ max a (max b c)
max_max a b c = omega arith

-- the width behind `uint`
pub scan_width : {text : List ℕ} {May : List Token → ℕ → Type 0} {tokens : List Token} {w : List Waiting} {h : ℕ}
    {n : Num} {a b c d : List Token} → Here May tokens (state (sizing ∷ w) h) a → Has (token.Sign sign.Less) a b →
    IsNumber text n b c → Has (token.Sign sign.Greater) c d → Here May tokens (state w 1) d
scan_width {May} {tokens} {w} {h} {b} here l n g =
    let behind : Here May tokens (state (sizing ∷ w) h) b = behind_plain here l refl refl in
    behind_plain (behind_plain behind (number_has n) refl refl) g refl refl

pub scan_expr : {text : List ℕ} {May : List Token → ℕ → Type 0} {tokens : List Token} {bound depth : ℕ}
    {e : ExprTree} {a b : List Token} (w : List Waiting) (h : ℕ) → levels w ≡ depth → Fits bound w →
    Here May tokens (state w h) a → IsExpr text May bound depth e a b →
    ExprScanned text May tokens w bound depth e a b
scan_expr w h same fits here (expr_conditional {e = test} {f = yes_tree} {g = no_tree} loosest e m may f o g) =
    let t = scan_expr w h same (fits_more 1 (omega arith) fits) here e in
    let there = t.ends 1 (omega arith) (omega arith) ∙ fits.stops 1 (height test) (omega arith) (omega arith)
    (omega arith) in
    let q = opens w same t.here (mark_has m) (ap (λ (r : State). Some (levels r.waiting + 1)) there) may
    (ap ask there) in
    let one = scan_expr (asking (height test) ∷ w) (height test) (ap (λ n. n + 1) same)
    (fits_asking (height test) w) q.0 f in
    let high = max (height test) (height yes_tree) in
    let colon = behind_plain one.here o refl
    (ap (λ (r : State). branch r.waiting r.height) (one.ends 0 (omega arith) (omega arith))) in
    let two = scan_expr (joined 0 1 high ∷ w) (height yes_tree) (ap (λ n. n + 1) same)
    (fits_joined 0 0 1 high w (λ k above positive below. positive)) colon g in
    record {
      last = two.last;
      here = two.here;
      ends = λ k below small.
          two.ends k (omega arith) small ∙ settle_through k 0 1 high (height no_tree) w (omega arith)
          ∙ ap (λ n. settle k w (n + 1)) (max_max (height test) (height yes_tree) (height no_tree));
      is = expr_conditional loosest t.is m q.1 one.is o two.is;
    }
scan_expr w h same fits here (expr_binary {op} {e = left} {f = right} s e m may f) =
    let positive = strength_positive op in
    let most = strength_most op in
    let one = scan_expr w h same (fits_more (strength op) s fits) here e in
    let there = one.ends (strength op) (omega arith) (omega arith)
    ∙ fits.stops (strength op) (height left) s positive most in
    let deep = depth_operator (joining.Binary op) one.last there fits.unsized in
    let behind = behind_asked one.here (mark_has m) deep may (step_operator (joining.Binary op) one.last there
    fits.unsized) in
    let two = scan_expr (joined (strength op) 0 (height left) ∷ w) (height left) (omega arith)
    (fits_joined (strength op + 1) (strength op) 0 (height left) w (λ k above positive below. omega arith)) behind f in
    record {
      last = two.last;
      here = two.here;
      ends = λ k below small.
          two.ends k (omega arith) small
          ∙ settle_through k (strength op) 0 (height left) (height right) w (omega arith);
      is = expr_binary s one.is m (known one.here (mark_has m) deep) two.is;
    }
scan_expr w h same fits here (expr_shift {op} {e = left} s e m may n) =
    let one = scan_expr w h same (fits_more 8 s fits) here e in
    let there = one.ends 8 (omega arith) (omega arith)
    ∙ fits.stops 8 (height left) s (omega arith) (omega arith) in
    let deep = depth_operator (joining.Shift op) one.last there fits.unsized in
    let behind = behind_asked one.here (mark_has m) deep may (step_operator (joining.Shift op) one.last there
    fits.unsized) in
    record {
      last = state (joined 8 0 (height left) ∷ w) 1;
      here = behind_plain behind (number_has n) refl refl;
      ends = λ k below small.
          settle_through k 8 0 (height left) 1 w (omega arith)
          ∙ ap (λ n. settle k w (n + 1)) (one_max (height left) (height_positive left));
      is = expr_shift s one.is m (known one.here (mark_has m) deep) n;
    }
scan_expr w h same fits here (expr_unary {op} {e = operand} m may e) =
    let o = opens w same here (mark_has m) (depth_unary op (state w h)) may (step_unary op (state w h)) in
    let one = scan_expr (joined 10 1 0 ∷ w) h (ap (λ n. n + 1) same)
    (fits_joined 10 10 1 0 w (λ k above positive below. absurd (omega arith))) o.0 e in
    record {
      last = one.last;
      here = one.here;
      ends = λ k below small.
          one.ends k small small ∙ settle_through k 10 1 0 (height operand) w small
          ∙ ap (λ n. settle k w (n + 1)) (zero_max (height operand));
      is = expr_unary m o.1 one.is;
    }
scan_expr w h same fits here (expr_number n) = record {
  last = state w 1;
  here = behind_plain here (number_has n) refl refl;
  ends = λ k below small. refl;
  is = expr_number n;
}
scan_expr w h same fits here (expr_true m) = record {
  last = state w 1;
  here = behind_plain here (mark_has m) refl refl;
  ends = λ k below small. refl;
  is = expr_true m;
}
scan_expr w h same fits here (expr_false m) = record {
  last = state w 1;
  here = behind_plain here (mark_has m) refl refl;
  ends = λ k below small. refl;
  is = expr_false m;
}
scan_expr w h same fits here (expr_path p) = record {
  last = state w 1;
  here = scan_path fits.is_bare (record { waiting = w; height = h; here = here; calm = fits.is_bare }) p;
  ends = λ k below small. refl;
  is = expr_path p;
}
scan_expr w h same fits here (expr_element {e = index} p o may e c) =
    let named = scan_path fits.is_bare (record { waiting = w; height = h; here = here; calm = fits.is_bare }) p in
    let b = opens w same named o fits.inside may refl in
    let one = scan_expr (opened ∷ w) 1 (ap (λ n. n + 1) same) (level_fits 0 (level_opened w)) b.0 e in
    record {
      last = state w (height index + 1);
      here = behind_plain one.here c refl (ap close (one.ends 0 (omega arith) (omega arith)));
      ends = λ k below small. refl;
      is = expr_element p o b.1 one.is c;
    }
scan_expr w h same fits here (expr_group {e = inner} m may e c) =
    let b = opens w same here (mark_has m) refl may refl in
    let one = scan_expr (opened ∷ w) h (ap (λ n. n + 1) same) (level_fits 0 (level_opened w)) b.0 e in
    record {
      last = state w (height inner + 1);
      here = behind_plain one.here c refl (ap close (one.ends 0 (omega arith) (omega arith)));
      ends = λ k below small. refl;
      is = expr_group m b.1 one.is c;
    }
scan_expr w h same fits here (expr_cast {e = inner} m l n g o may e c) =
    let sized_here = behind_plain here (mark_has m) refl refl in
    let b = opens w same (scan_width sized_here l n g) o refl may refl in
    let one = scan_expr (opened ∷ w) 1 (ap (λ n. n + 1) same) (level_fits 0 (level_opened w)) b.0 e in
    record {
      last = state w (height inner + 1);
      here = behind_plain one.here c refl (ap close (one.ends 0 (omega arith) (omega arith)));
      ends = λ k below small. refl;
      is = expr_cast m l n g o b.1 one.is c;
    }

-- a whole expression where nothing on its left waits for an operand
pub scan_whole : {text : List ℕ} {May : List Token → ℕ → Type 0} {tokens : List Token} {w : List Waiting} {h depth : ℕ}
    {e : ExprTree} {a b : List Token} → levels w ≡ depth → Level w → Here May tokens (state w h) a →
    IsExpr text May 0 depth e a b → IsExpr text (Known May tokens) 0 depth e a b × Ends May tokens w b
scan_whole {w} {h} {e} same level here is =
    let one = scan_expr w h same (level_fits 0 level) here is in (
      one.is,
      record {
        last = one.last;
        height = height e;
        here = one.here;
        ends = one.ends 0 (omega arith) (omega arith) ∙ level.stops 0 (height e);
      },
    )
