-- Expressions by their parts: each step of the reader leaves what is left of the whole, and each refusal is right.
use Rattle.std.proofs.Common.{◌≡◌, Bool, true, false, Option, None, Some, List, [], ◌∷◌, ◌++◌, refl, sym, ap, ◌∙◌, subst, true≢false}
use Rattle.tm_cir.specs.Tree.{NumTree, TruthTree, num}
use Rattle.tm_cir.specs.Tree as trees
use Rattle.tm_cir.specs.Text.Token.{Token, word, variable, location, constant, sign, termite_goal, termite_last, open_parenthesis, close_parenthesis, colon, question}
use Rattle.tm_cir.specs.Text.Grammar.{num_tokens, truth_tokens}
use Rattle.tm_cir.proofs.Text.Expressions.{same_truth, same_inside}
use Rattle.tm_cparse.specs.declared.part.Sort.{Sort}
use Rattle.tm_cparse.specs.declared.part.Sort.TheVariants as sorts
use Rattle.tm_cparse.specs.Written.{NumInRange, TruthInRange}
use Rattle.tm_cparse.specs.Inner.Reading.{first_of, IsBlocked, Moves}
use Rattle.tm_cparse.specs.Inner.Parts.{PartTree, first_part, complement_part, negation_part, binary_part, compare_part, join_part, then_part, else_part, IsOf, IsFitting, IsExpression, wanted, closed_by, leaf_of, Fills, whole, closes, begins, goes_on, FitParts, IsLeft}
use Rattle.tm_cparse.proofs.Moves.{moves_one, blocked_here}

-- a number stands where any sort is asked for, and anything where a truth value is
pub num_of : (s : Sort) (a : NumTree) → IsOf s (num a)
num_of sorts.Number a = tt
num_of sorts.Truth a = tt

pub truth_of : (s : Sort) (t : TruthTree) → s ≡ sorts.Truth → IsOf s t
truth_of s t is = subst (λ (r : Sort). IsOf r t) (sym is) tt

pub as_number : (t : TruthTree) → IsOf sorts.Number t → (a : NumTree) × (t ≡ num a)
as_number (num a) is = (a, refl)
as_number (trees.negation t) is = absurd is
as_number (trees.compare op a b) is = absurd is
as_number (trees.join op t u) is = absurd is

zero : NumTree
zero = trees.constant 0

zero_expression : (s : Sort) (rest : List Token) → IsExpression s (num (trees.constant 0)) (constant 0 ∷ rest) rest
zero_expression s rest = record { fits = (num_of s (trees.constant 0), tt); are = refl }

-- what was begun can be completed
pub record CanEnd (root : Sort) (ps : List PartTree) (x : TruthTree) : Type 0 where
  pub word : List Token
  pub tree : TruthTree
  pub fills : (after : List Token) → Fills root ps x (word ++ after) tree after

closing : {root : Sort} {ps : List PartTree} {x y : TruthTree} (p : PartTree) → closed_by p x ≡ Some y →
    CanEnd root ps y → CanEnd root (p ∷ ps) x
closing p closed rest = record {
  word = sign close_parenthesis ∷ rest.word;
  tree = rest.tree;
  fills = λ after. closes closed refl (rest.fills after);
}

pub can_end : (root : Sort) (ps : List PartTree) (x : TruthTree) → FitParts root ps → IsFitting (wanted root ps) x →
    CanEnd root ps x
can_end root [] x fit is = record { word = []; tree = x; fills = λ after. whole }
can_end root (first_part ∷ ps) x fit is =
    let rest = can_end root ps (num (trees.conditional x (trees.constant 0) (trees.constant 0))) fit.1
    (num_of (wanted root ps) _, (is.1, tt, tt)) in
    record {
      word = sign question ∷ constant 0 ∷ sign colon ∷ constant 0 ∷ sign close_parenthesis ∷ rest.word;
      tree = rest.tree;
      fills = λ after.
          begins {p = then_part x} {y = num (trees.constant 0)} {s = question} refl refl
          (zero_expression sorts.Number _)
          (goes_on {y = num (trees.constant 0)} {a = trees.constant 0} refl refl (zero_expression sorts.Number _)
          (closes refl refl (rest.fills after)));
    }
can_end root (complement_part ∷ ps) x fit is =
    let n = as_number x is.0 in
    closing complement_part (ap (closed_by complement_part) n.1)
    (can_end root ps (num (trees.complement n.0)) fit.1 (num_of (wanted root ps) _, subst TruthInRange n.1 is.1))
can_end root (negation_part ∷ ps) x fit is =
    closing negation_part refl
    (can_end root ps (trees.negation x) fit.1 (truth_of (wanted root ps) _ fit.0, is.1))
can_end root (binary_part op a ∷ ps) x fit is =
    let n = as_number x is.0 in
    closing (binary_part op a) (ap (closed_by (binary_part op a)) n.1)
    (can_end root ps (num (trees.binary op a n.0)) fit.1
    (num_of (wanted root ps) _, (fit.0, subst TruthInRange n.1 is.1)))
can_end root (compare_part op a ∷ ps) x fit is =
    let n = as_number x is.0 in
    closing (compare_part op a) (ap (closed_by (compare_part op a)) n.1)
    (can_end root ps (trees.compare op a n.0) fit.1
    (truth_of (wanted root ps) _ fit.0.0, (fit.0.1, subst TruthInRange n.1 is.1)))
can_end root (join_part op t ∷ ps) x fit is =
    closing (join_part op t) refl
    (can_end root ps (trees.join op t x) fit.1 (truth_of (wanted root ps) _ fit.0.0, (fit.0.1, is.1)))
can_end root (then_part t ∷ ps) x fit is =
    let n = as_number x is.0 in
    let rest = can_end root ps (num (trees.conditional t n.0 (trees.constant 0))) fit.1
    (num_of (wanted root ps) _, (fit.0, subst TruthInRange n.1 is.1, tt)) in
    record {
      word = sign colon ∷ constant 0 ∷ sign close_parenthesis ∷ rest.word;
      tree = rest.tree;
      fills = λ after.
          goes_on {y = num (trees.constant 0)} n.1 refl (zero_expression sorts.Number _)
          (closes refl refl (rest.fills after));
    }
can_end root (else_part t a ∷ ps) x fit is =
    let n = as_number x is.0 in
    closing (else_part t a) (ap (closed_by (else_part t a)) n.1)
    (can_end root ps (num (trees.conditional t a n.0)) fit.1
    (num_of (wanted root ps) _, (fit.0.0, fit.0.1, subst TruthInRange n.1 is.1)))

-- whether an operand may begin with this token
abbrev pub is_start : Option Token → Bool
is_start (Some (constant n)) = true
is_start (Some (variable k)) = true
is_start (Some (location k)) = true
is_start (Some (word termite_goal)) = true
is_start (Some (word termite_last)) = true
is_start (Some (sign open_parenthesis)) = true
is_start _ = false

pub starts : (x : TruthTree) (next : List Token) → is_start (first_of (truth_tokens x ++ next)) ≡ true
starts (num (trees.constant n)) next = refl
starts (num (trees.var k)) next = refl
starts (num (trees.location p)) next = refl
starts (num trees.goal) next = refl
starts (num trees.last) next = refl
starts (num (trees.complement a)) next = refl
starts (num (trees.binary op a b)) next = refl
starts (num (trees.shift op a by)) next = refl
starts (num (trees.conditional t a b)) next = refl
starts (trees.negation t) next = refl
starts (trees.compare op a b) next = refl
starts (trees.join op t u) next = refl

-- no operand begins with this token
pub no_operand : (root : Sort) (ps : List PartTree) (here : List Token) → FitParts root ps →
    is_start (first_of here) ≡ false → IsBlocked (IsLeft root ps None) here here
no_operand root ps here fit none =
    let end = can_end root ps (num (trees.constant 0)) fit (num_of (wanted root ps) _, tt) in
    blocked_here (constant 0 ∷ end.word)
    (λ behind. (
      end.tree,
      record {
        operand = num (trees.constant 0);
        next = end.word ++ behind;
        is = zero_expression (wanted root ps) (end.word ++ behind);
        fills = end.fills behind;
      },
    ))
    (λ x other rest first is.
    true≢false
    (sym (starts is.operand is.next) ∙ ap (λ (l : List Token). is_start (first_of l)) (sym is.is.are)
    ∙ ap is_start first ∙ none))

-- an operand of one token
leaf_tokens : (t : Token) (a : NumTree) → leaf_of t ≡ Some a → num_tokens a ≡ t ∷ []
leaf_tokens (constant n) a is = ap num_tokens (sym (same_inside is))
leaf_tokens (variable k) a is = ap num_tokens (sym (same_inside is))
leaf_tokens (location p) a is = ap num_tokens (sym (same_inside is))
leaf_tokens (word termite_goal) a is = ap num_tokens (sym (same_inside is))
leaf_tokens (word termite_last) a is = ap num_tokens (sym (same_inside is))
leaf_tokens _ a is = absurd (cc)

leaf_in_range : (t : Token) (a : NumTree) → leaf_of t ≡ Some a → NumInRange a
leaf_in_range (constant n) a is = subst NumInRange (same_inside is) tt
leaf_in_range (variable k) a is = subst NumInRange (same_inside is) tt
leaf_in_range (location p) a is = subst NumInRange (same_inside is) tt
leaf_in_range (word termite_goal) a is = subst NumInRange (same_inside is) tt
leaf_in_range (word termite_last) a is = subst NumInRange (same_inside is) tt
leaf_in_range _ a is = absurd (cc)

pub moves_leaf : (root : Sort) (ps : List PartTree) (t : Token) (a : NumTree) (rest : List Token) → leaf_of t ≡ Some a →
    Moves (IsLeft root ps None) (IsLeft root ps (Some (num a))) (t ∷ rest) rest
moves_leaf root ps t a rest leaf =
    let spelled : num_tokens a ≡ t ∷ [] = leaf_tokens t a leaf in
    moves_one t rest
    (λ x other after first is.
    let same : truth_tokens (num a) ++ other ≡ truth_tokens is.operand ++ is.next =
    ap (λ (l : List Token). l ++ other) spelled ∙ is.is.are in
    let parts = same_truth (num a) is.operand other is.next same in
    subst (λ (l : List Token). Fills root ps (num a) l x after) (sym parts.1)
    (subst (λ (y : TruthTree). Fills root ps y is.next x after) (sym parts.0) is.fills))
    (λ x other after is.
    record {
      operand = num a;
      next = other;
      is = record {
        fits = (num_of (wanted root ps) a, leaf_in_range t a leaf);
        are = ap (λ (l : List Token). l ++ other) (sym spelled);
      };
      fills = is;
    })
