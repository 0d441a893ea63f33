-- What operators join to an operand, one operator at a time.
use Rattle.std.proofs.Common.{◌≡◌, ◌≢◌, ℕ, suc, ◌+◌, ◌≤◌, Bool, true, Some, List, [], ◌∷◌, ◌++◌, length, refl, sym, ap, ◌∙◌, subst, arith, append_assoc}
use Rattle.tm_base.specs.declared.place.Place.{Place}
use Rattle.tm_syntax.specs.declared.token.Token.{Token}
use Rattle.tm_syntax.specs.declared.token.TokenKind.{TokenKind}
use Rattle.tm_syntax.specs.declared.token.TokenKind.TheVariants as token
use Rattle.tm_syntax.specs.Tree.{ExprTree, number, binary, shift}
use Rattle.tm_syntax.specs.Grammar.Parts.{IsMark}
use Rattle.tm_syntax.specs.Grammar.Expressions.{height, expr_number}
use Rattle.tm_parse.specs.declared.operators.Infix.{Infix}
use Rattle.tm_parse.specs.declared.operators.Infix.TheVariants as joining
use Rattle.tm_parse.specs.Reading.{Reach, all_but, IsBound, first_of, first_kind, IsBlocked, Takes, AnyOf, Nothing}
use Rattle.tm_parse.specs.Operands.{GoesExpr, goes_infix, GoesJoined, IsJoined, joins_expr, joins_number, IsTail, tail_end, tail_more, ATail, infix_sign, infix_strength}
use Rattle.tm_parse.proofs.Goes.{infix-injective, no_goes_infix, goes_weaker}
use Rattle.tm_parse.proofs.Names.{number_word}
use Rattle.tm_parse.proofs.Taking.{same_kind, same_behind, low_bound}
use Rattle.tm_parse.proofs.Terminals.{mark_kind, mark_has, mark_rest, mark_place}

-- a tail that begins with an operator
pub record Step (text : List ℕ) (least depth : ℕ) (reach : Reach) (op : Infix) (at : Place) (l f : ExprTree)
    (a b c : List Token) : Type 0 where
  pub tree : ExprTree
  pub between : List Token
  pub within : IsBound reach a (height l + 1)
  pub right : IsJoined text depth reach l at op tree b between
  pub more : IsTail text least depth reach (infix_strength op) tree f between c

-- where an operator stands that goes on with the form, a tail that ends before no such token begins with it
pub tail_step : {text : List ℕ} {least depth : ℕ} {reach : Reach} {most : ℕ} {op : Infix} {at : Place} {l f : ExprTree}
    {a b c : List Token} → least ≤ infix_strength op → IsMark (token.Sign (infix_sign op)) at a b →
    ¬ GoesExpr least (first_kind c) → IsTail text least depth reach most l f a c →
    Step text least depth reach op at l f a b c
tail_step {op} above m stop tail_end = absurd (stop (goes_infix op above (mark_kind m)))
tail_step {text} {least} {depth} {reach} {op} {at} {l} {f} {a} {b} {c} above m stop
    (tail_more {op = other} {at = there} {e} {b = b1} {c = c1} s t n w right more) =
    let kinds : Some (token.Sign (infix_sign other)) ≡ Some (token.Sign (infix_sign op)) =
    sym (mark_kind n) ∙ mark_kind m in
    let same : other ≡ op = infix-injective other op (cc) in
    record {
      tree = e;
      between = c1;
      within = w;
      right = subst (λ o. IsJoined text depth reach l at o e b c1) same
          (subst (λ p. IsJoined text depth reach l p other e b c1) (mark_place n m refl)
          (subst (λ k. IsJoined text depth reach l there other e k c1) (mark_rest (mark_has n) (mark_has m) refl)
          right));
      more = subst (λ o. IsTail text least depth reach (infix_strength o) e f c1 c) same more;
    }

-- what stands behind the right operand does not go on with it
pub joined_stop : {text : List ℕ} {least depth : ℕ} {reach : Reach} (op : Infix) {l f : ExprTree} {a c : List Token} →
    least ≤ infix_strength op → ¬ GoesExpr least (first_kind c) →
    IsTail text least depth reach (infix_strength op) l f a c → ¬ GoesJoined op (first_kind a)
joined_stop {least} (joining.Binary op) above stop tail_end goes = stop (goes_weaker least (omega arith) goes)
joined_stop (joining.Binary op) above stop (tail_more {op = other} s t n w right more) goes =
    no_goes_infix _ other (omega arith) (subst (GoesExpr _) (mark_kind n) goes)
joined_stop (joining.Shift op) above stop more goes = goes

-- what was joined to the first operand so far: what it leads to over the tokens that were read is what the tree so far
-- leads to from here on
pub record TailSoFar (text : List ℕ) (least depth : ℕ) (first so_far : ExprTree) (most : ℕ) (tokens rest : List Token) :
    Type 0 where
  pub front : List Token
  pub whole : tokens ≡ front ++ rest
  pub leads : (reach : Reach) (e : ExprTree) (behind after : List Token) →
      IsTail text least depth reach most so_far e behind after →
      ATail text least depth first reach e (front ++ behind) after
  pub only : (reach : Reach) (e : ExprTree) (other after : List Token) → first_of other ≡ first_of rest →
      ¬ GoesExpr least (first_kind after) → ATail text least depth first reach e (front ++ other) after →
      IsTail text least depth reach most so_far e other after

pub tail_start : {text : List ℕ} {least depth : ℕ} {first : ExprTree} {a : List Token} →
    TailSoFar text least depth first first 9 a a
tail_start = record {
  front = [];
  whole = refl;
  leads = λ reach e behind after is. is;
  only = λ reach e other after same stop is. is;
}

-- no operator goes on here
pub tail_taken : {text : List ℕ} {least depth most : ℕ} {first so_far : ExprTree} {a b : List Token} →
    ((op : Infix) → least ≤ infix_strength op → infix_strength op ≤ most →
    first_kind b ≢ Some (token.Sign (infix_sign op))) → TailSoFar text least depth first so_far most a b →
    Takes (ATail text least depth first) (GoesExpr least) so_far a b
tail_taken {text} {least} {depth} {most} {so_far} {b} none p = record {
  front = p.front;
  whole = p.whole;
  is = λ reach behind. p.leads reach so_far behind behind tail_end;
  sole = λ reach e other after same stop is. go reach e other after same (p.only reach e other after same stop is);
}
  where
    go : (reach : Reach) (e : ExprTree) (other after : List Token) → first_of other ≡ first_of b →
        IsTail text least depth reach most so_far e other after → (e ≡ so_far) × (after ≡ other)
    go reach e other after same tail_end = (refl, refl)
    go reach e other after same (tail_more {op} s t m w right more) =
        absurd (none op s t (sym (same_kind other b same) ∙ mark_kind m))

-- some tokens that spell the right operand of any operator
joined_word : {text : List ℕ} {depth : ℕ} (op : Infix) (l : ExprTree) (at : Place) (size : ℕ) (behind : List Token) →
    length ((number_word {X = ExprTree} text).word ++ behind) ≤ size →
    AnyOf (λ reach. IsJoined text depth reach l at op) (all_but size) ((number_word {X = ExprTree} text).word ++ behind)
    behind
joined_word {text} (joining.Binary op) l at size behind fits =
    let n = (number_word {X = ExprTree} text).spells l size behind fits in
    (binary at op l (number n.0), joins_expr (expr_number n.1))
joined_word {text} (joining.Shift op) l at size behind fits =
    let n = (number_word {X = ExprTree} text).spells l size behind fits in
    (shift at op l n.0, joins_number n.1)

-- the operator and its right operand were read
pub tail_next : {text : List ℕ} {least depth most : ℕ} {first so_far tree : ExprTree} (op : Infix) {at : Place}
    {a b c d : List Token} → least ≤ infix_strength op → infix_strength op ≤ most → height so_far + 1 ≤ 128 →
    TailSoFar text least depth first so_far most a b → Takes (λ _. IsMark (token.Sign (infix_sign op))) Nothing at b c →
    Takes (λ reach. IsJoined text depth reach so_far at op) (GoesJoined op) tree c d →
    TailSoFar text least depth first tree (infix_strength op) a d
tail_next {text} {least} {depth} {first} {so_far} {tree} op {at} {b} {c} {d} above below low p m r = record {
  front = p.front ++ (m.front ++ r.front);
  whole = p.whole ∙ ap (λ l. p.front ++ l) (m.whole ∙ ap (λ l. m.front ++ l) r.whole) ∙ sym (split d);
  leads = λ reach e behind after more.
      subst (λ l. ATail text least depth first reach e l after) (sym (split behind))
      (p.leads reach e (m.front ++ (r.front ++ behind)) after
      (tail_more above below (m.is reach (r.front ++ behind)) (low_bound reach _ (height so_far + 1) low)
      (r.is reach behind) more));
  only = λ reach e other after same stop is.
      let begins : first_of (m.front ++ (r.front ++ other)) ≡ first_of b =
      same_behind m.front (r.front ++ other) c (same_behind r.front other d same ∙ ap first_of (sym r.whole))
      ∙ ap first_of (sym m.whole) in
      let step = tail_step above (m.is reach (r.front ++ other)) stop
      (p.only reach e (m.front ++ (r.front ++ other)) after begins stop
      (subst (λ l. ATail text least depth first reach e l after) (split other) is)) in
      let one = r.sole reach step.tree other step.between same (joined_stop op above stop step.more) step.right in
      subst (λ l. IsTail text least depth reach (infix_strength op) l e other after) one.0
      (subst (λ l. IsTail text least depth reach (infix_strength op) step.tree e l after) one.1 step.more);
}
  where
    split : (l : List Token) → (p.front ++ (m.front ++ r.front)) ++ l ≡ p.front ++ (m.front ++ (r.front ++ l))
    split l = append_assoc p.front (m.front ++ r.front) l ∙ ap (λ t. p.front ++ t) (append_assoc m.front r.front l)

-- the right operand is refused
pub tail_refused : {text : List ℕ} {least depth most : ℕ} {first so_far : ExprTree} (op : Infix) {at : Place}
    {deep : Bool} {a b c here : List Token} → least ≤ infix_strength op → infix_strength op ≤ most →
    height so_far + 1 ≤ 128 → TailSoFar text least depth first so_far most a b →
    Takes (λ _. IsMark (token.Sign (infix_sign op))) Nothing at b c →
    IsBlocked (AnyOf (λ reach. IsJoined text depth reach so_far at op)) (GoesJoined op) deep c here →
    IsBlocked (AnyOf (ATail text least depth first)) (GoesExpr least) deep a here
tail_refused {text} {least} {depth} {first} {so_far} op {at} {b} {c} {here} above below low p m h = record {
  front = p.front ++ (m.front ++ h.front);
  whole = p.whole ∙ ap (λ l. p.front ++ l) (m.whole ∙ ap (λ l. m.front ++ l) h.whole) ∙ sym (split here);
  more = h.more;
  completes = λ behind.
      let one = h.completes behind in
      let reach = all_but (length (h.more ++ behind)) in (
        one.0,
        subst (λ l. ATail text least depth first reach one.0 l behind) (sym (split (h.more ++ behind)))
            (p.leads reach one.0 (m.front ++ (h.front ++ (h.more ++ behind))) behind
            (tail_more above below (m.is reach (h.front ++ (h.more ++ behind)))
            (low_bound reach _ (height so_far + 1) low) one.1 tail_end)),
      );
  goes_on = h.goes_on;
  stuck = λ reach other rest same within stop is.
      let begins : first_of (m.front ++ (h.front ++ other)) ≡ first_of b =
      same_behind m.front (h.front ++ other) c (same_behind h.front other here same ∙ ap first_of (sym h.whole))
      ∙ ap first_of (sym m.whole) in
      let step = tail_step above (m.is reach (h.front ++ other)) stop
      (p.only reach is.0 (m.front ++ (h.front ++ other)) rest begins stop
      (subst (λ l. ATail text least depth first reach is.0 l rest) (split other) is.1)) in
      h.stuck reach other step.between same within (joined_stop op above stop step.more) (step.tree, step.right);
}
  where
    split : (l : List Token) → (p.front ++ (m.front ++ h.front)) ++ l ≡ p.front ++ (m.front ++ (h.front ++ l))
    split l = append_assoc p.front (m.front ++ h.front) l ∙ ap (λ t. p.front ++ t) (append_assoc m.front h.front l)

mark_at : {k : TokenKind} (t : Token) (a : List Token) → first_of a ≡ Some t → t.kind ≡ k →
    (b : List Token) × IsMark k t.place a b
mark_at t [] same is = absurd (cc)
mark_at t (u ∷ a) same is =
    let one : u ≡ t = cc in
    let is_kind = ap (λ (v : Token). v.kind) one ∙ is in
    (a, record { first = u; whole = refl; is = is_kind; here = ap (λ (v : Token). v.place) one })

-- an operator stands here whose left operand is too high
pub tail_deep : {text : List ℕ} {least depth most : ℕ} {first so_far : ExprTree} (op : Infix) {a : List Token}
    (b : List Token) → least ≤ infix_strength op → infix_strength op ≤ most → 128 ≤ height so_far →
    TailSoFar text least depth first so_far most a b → first_kind b ≡ Some (token.Sign (infix_sign op)) →
    IsBlocked (AnyOf (ATail text least depth first)) (GoesExpr least) true a b
tail_deep op [] above below high p none = absurd (cc)
tail_deep {text} {least} {depth} {first} {so_far} op (t ∷ b) above below high p kind =
    let is : t.kind ≡ token.Sign (infix_sign op) =
    let same : Some t.kind ≡ Some (token.Sign (infix_sign op)) = kind in cc in
    let word = (number_word {X = ExprTree} text).word in
    record {
      front = p.front;
      whole = p.whole;
      more = t ∷ word;
      completes = λ behind.
          let one = joined_word {text = text} {depth = depth} op so_far t.place (suc (length (word ++ behind))) behind
          (omega arith) in (
            one.0,
            p.leads (all_but (suc (length (word ++ behind)))) one.0 (t ∷ (word ++ behind)) behind
                (tail_more above below (record { first = t; whole = refl; is = is; here = refl })
                (λ inside. absurd (omega arith)) one.1 tail_end),
          );
      goes_on = λ deep. (t, word, b, refl, refl);
      stuck = λ reach other rest same within stop f.
          let m = mark_at t other same is in
          let step = tail_step above m.1 stop (p.only reach f.0 other rest same stop f.1) in
          let low : height so_far + 1 ≤ 128 = within refl (height so_far + 1) step.within in
          omega arith;
    }
