-- What follows an operand: an operator, `:`, or the parenthesis that closes.
use Rattle.std.proofs.Common.{◌≡◌, ◌≢◌, ℕ, ◌<◌, None, Some, List, ◌∷◌, ◌++◌, refl, sym, ap, ◌∙◌, subst, arith}
use Rattle.tm_base.specs.declared.shift_operator.ShiftOperator.{ShiftOperator}
use Rattle.tm_cir.specs.Tree.{NumTree, TruthTree, num}
use Rattle.tm_cir.specs.Tree as trees
use Rattle.tm_cir.specs.Text.Token.{Token, constant, sign, Sign, close_parenthesis, colon, shifting}
use Rattle.tm_cir.proofs.Text.Expressions.{same_inside}
use Rattle.tm_cparse.specs.declared.part.Sort.{Sort}
use Rattle.tm_cparse.specs.declared.part.Sort.TheVariants as sorts
use Rattle.tm_cparse.specs.Written.{NumInRange}
use Rattle.tm_cparse.specs.Inner.Reading.{first_of, IsBlocked, Moves}
use Rattle.tm_cparse.specs.Inner.Parts.{PartTree, first_part, then_part, else_part, IsFitting, sort_of, wanted, begun_by, closed_by, Fills, closes, begins, shifts, goes_on, FitParts, IsAwaited, IsLeft, IsAmount, IsClosing}
use Rattle.tm_cparse.proofs.Moves.{moves_one, blocked_here}
use Rattle.tm_cparse.proofs.Expressions.{can_end, num_of}

abbrev close : Token
close = sign close_parenthesis

same_tail : {t u : Token} {a b : List Token} → t ∷ a ≡ u ∷ b → a ≡ b
same_tail e = cc

same_sign : {s r : Sign} {a b : List Token} → sign s ∷ a ≡ sign r ∷ b → s ≡ r
same_sign e = cc

same_number : {a b : NumTree} → num a ≡ num b → b ≡ a
same_number same = cc

same_operator : {o r : ShiftOperator} → shifting o ≡ shifting r → o ≡ r
same_operator same = cc

same_amount : {n m : ℕ} {a b : List Token} → constant n ∷ a ≡ constant m ∷ b → n ≡ m
same_amount e = cc

first_is : {t : Token} {other behind : List Token} (here : List Token) → other ≡ t ∷ behind →
    first_of other ≡ first_of here → first_of here ≡ Some t
first_is here tokens first = sym first ∙ ap first_of tokens

-- a refusal where an operand was read
refused : {root : Sort} {ps : List PartTree} {x : TruthTree} {here : List Token} → FitParts root ps →
    IsFitting (wanted root ps) x →
    ((t : TruthTree) (other rest : List Token) → first_of other ≡ first_of here → ¬ Fills root ps x other t rest) →
    IsBlocked (IsLeft root ps (Some x)) here here
refused {root = root} {ps = ps} {x = x} fit is stuck =
    let end = can_end root ps x fit is in blocked_here end.word (λ behind. (end.tree, end.fills behind)) stuck

-- the parenthesis that closes a part
pub moves_close : (root : Sort) (ps : List PartTree) (p : PartTree) (x y : TruthTree) (rest : List Token) →
    closed_by p x ≡ Some y → Moves (IsLeft root (p ∷ ps) (Some x)) (IsLeft root ps (Some y)) (close ∷ rest) rest
moves_close root ps p x y rest is =
    moves_one close rest (λ t other after first fills. of p is fills) (λ t other after fills. closes is refl fills)
  where
    of : (q : PartTree) {t : TruthTree} {other after : List Token} → closed_by q x ≡ Some y →
        Fills root (q ∷ ps) x (close ∷ other) t after → Fills root ps y other t after
    of q {t = t} {after = after} is (closes {y = z} {behind = behind} closed tokens fills) =
        subst (λ (l : List Token). Fills root ps y l t after) (sym (same_tail tokens))
        (subst (λ (w : TruthTree). Fills root ps w behind t after) (same_inside (sym closed ∙ is)) fills)
    of _ is (begins begun tokens operand fills) = absurd (cc)
    of _ is (shifts same low tokens fills) = absurd (cc)
    of _ is (goes_on same tokens operand fills) = absurd (cc)

pub no_close : (root : Sort) (ps : List PartTree) (p : PartTree) (x y : TruthTree) (here : List Token) →
    FitParts root (p ∷ ps) → IsFitting (sort_of p) x → closed_by p x ≡ Some y → first_of here ≢ Some close →
    IsBlocked (IsLeft root (p ∷ ps) (Some x)) here here
no_close root ps p x y here fit fits is none = refused fit fits (λ t other rest first fills. of p is first fills)
  where
    of : (q : PartTree) {t : TruthTree} {other rest : List Token} → closed_by q x ≡ Some y →
        first_of other ≡ first_of here → Fills root (q ∷ ps) x other t rest → ⊥
    of q is first (closes closed tokens fills) = none (first_is here tokens first)
    of _ is first (begins begun tokens operand fills) = absurd (cc)
    of _ is first (shifts same low tokens fills) = absurd (cc)
    of _ is first (goes_on same tokens operand fills) = absurd (cc)

-- `:` behind the first number of `? :`
pub moves_colon : (root : Sort) (ps : List PartTree) (u : TruthTree) (a : NumTree) (rest : List Token) →
    Moves (IsLeft root (then_part u ∷ ps) (Some (num a))) (IsLeft root (else_part u a ∷ ps) None) (sign colon ∷ rest)
    rest
moves_colon root ps u a rest =
    moves_one (sign colon) rest (λ t other after first fills. of fills)
    (λ t other after is. goes_on refl refl is.is is.fills)
  where
    of : {t : TruthTree} {other after : List Token} →
        Fills root (then_part u ∷ ps) (num a) (sign colon ∷ other) t after →
        IsAwaited root (else_part u a ∷ ps) t other after
    of (closes closed tokens fills) = absurd (cc)
    of {t = t} {after = after} (goes_on {y = y} {a = b} {next = next} same tokens operand fills) =
        let number : b ≡ a = same_number same in record {
          operand = y;
          next = next;
          is = record { fits = operand.fits; are = same_tail tokens ∙ operand.are };
          fills = subst (λ (c : NumTree). Fills root (else_part u c ∷ ps) y next t after) number fills;
        }

pub no_colon : (root : Sort) (ps : List PartTree) (u x : TruthTree) (here : List Token) →
    FitParts root (then_part u ∷ ps) → IsFitting sorts.Number x → first_of here ≢ Some (sign colon) →
    IsBlocked (IsLeft root (then_part u ∷ ps) (Some x)) here here
no_colon root ps u x here fit fits none = refused fit fits (λ t other rest first fills. of first fills)
  where
    of : {t : TruthTree} {other rest : List Token} → first_of other ≡ first_of here →
        Fills root (then_part u ∷ ps) x other t rest → ⊥
    of first (closes closed tokens fills) = absurd (cc)
    of first (goes_on same tokens operand fills) = none (first_is here tokens first)

-- an operator that begins a part
pub moves_operator : (root : Sort) (ps : List PartTree) (s : Sign) (x : TruthTree) (p : PartTree) (rest : List Token) →
    begun_by (wanted root ps) s x ≡ Some p →
    Moves (IsLeft root (first_part ∷ ps) (Some x)) (IsLeft root (p ∷ ps) None) (sign s ∷ rest) rest
moves_operator root ps s x p rest is =
    moves_one (sign s) rest (λ t other after first fills. of fills)
    (λ t other after awaited. begins is refl awaited.is awaited.fills)
  where
    shift_begins : (op : ShiftOperator) → begun_by (wanted root ps) (shifting op) x ≡ Some p → ⊥
    shift_begins op begun = cc

    of : {t : TruthTree} {other after : List Token} → Fills root (first_part ∷ ps) x (sign s ∷ other) t after →
        IsAwaited root (p ∷ ps) t other after
    of (closes closed tokens fills) = absurd (cc)
    of {t = t} {other = other} {after = after}
        (begins {p = q} {y = y} {s = r} {behind = behind} {next = next} begun tokens operand fills) =
        let part : q ≡ p =
        same_inside
        (sym begun ∙ ap (λ (o : Sign). begun_by (wanted root ps) o x) (sym (same_sign tokens)) ∙ is) in
        record {
          operand = y;
          next = next;
          is = record {
            fits = subst (λ (o : PartTree). IsFitting (sort_of o) y) part operand.fits;
            are = same_tail tokens ∙ operand.are;
          };
          fills = subst (λ (o : PartTree). Fills root (o ∷ ps) y next t after) part fills;
        }
    of (shifts {op = op} same low tokens fills) =
        absurd
        (shift_begins op (subst (λ (o : Sign). begun_by (wanted root ps) o x ≡ Some p) (same_sign tokens) is))

-- no operator stands here
pub no_operator : (root : Sort) (ps : List PartTree) (x : TruthTree) (here : List Token) →
    FitParts root (first_part ∷ ps) → IsFitting sorts.Truth x →
    ((s : Sign) (p : PartTree) → first_of here ≡ Some (sign s) → begun_by (wanted root ps) s x ≢ Some p) →
    ((op : ShiftOperator) (a : NumTree) → first_of here ≡ Some (sign (shifting op)) → x ≢ num a) →
    IsBlocked (IsLeft root (first_part ∷ ps) (Some x)) here here
no_operator root ps x here fit fits no_part no_shift =
    refused fit fits (λ t other rest first fills. of first fills)
  where
    of : {t : TruthTree} {other rest : List Token} → first_of other ≡ first_of here →
        Fills root (first_part ∷ ps) x other t rest → ⊥
    of first (closes closed tokens fills) = absurd (cc)
    of first (begins {p = p} {s = s} begun tokens operand fills) = no_part s p (first_is here tokens first) begun
    of first (shifts {op = op} {a = a} same low tokens fills) = no_shift op a (first_is here tokens first) same

-- a shift, its amount and the parenthesis that closes
pub moves_shift : (root : Sort) (ps : List PartTree) (op : ShiftOperator) (a : NumTree) (rest : List Token) →
    Moves (IsLeft root (first_part ∷ ps) (Some (num a))) (IsAmount root ps op a) (sign (shifting op) ∷ rest) rest
moves_shift root ps op a rest =
    moves_one (sign (shifting op)) rest (λ t other after first fills. of fills)
    (λ t other after is. shifts refl is.low (ap (λ (l : List Token). sign (shifting op) ∷ l) is.are) is.fills)
  where
    shift_begins : (p : PartTree) → begun_by (wanted root ps) (shifting op) (num a) ≡ Some p → ⊥
    shift_begins p begun = cc

    of : {t : TruthTree} {other after : List Token} →
        Fills root (first_part ∷ ps) (num a) (sign (shifting op) ∷ other) t after → IsAmount root ps op a t other after
    of (closes closed tokens fills) = absurd (cc)
    of (begins {p = p} {s = s} begun tokens operand fills) =
        absurd
        (shift_begins p
        (subst (λ (o : Sign). begun_by (wanted root ps) o (num a) ≡ Some p) (sym (same_sign tokens)) begun))
    of {t = t} {after = after} (shifts {op = o} {a = b} {by = by} {behind = behind} same low tokens fills) = record {
      by = by;
      behind = behind;
      low = low;
      are = same_tail tokens;
      fills = subst (λ (c : NumTree). Fills root ps (num (trees.shift op c by)) behind t after) (same_number same)
          (subst (λ (r : ShiftOperator). Fills root ps (num (trees.shift r b by)) behind t after)
          (same_operator (sym (same_sign tokens))) fills);
    }

pub no_amount : (root : Sort) (ps : List PartTree) (op : ShiftOperator) (a : NumTree) (here : List Token) →
    FitParts root ps → NumInRange a → ((n : ℕ) → n < 64 → first_of here ≢ Some (constant n)) →
    IsBlocked (IsAmount root ps op a) here here
no_amount root ps op a here fit fits none =
    let low : 0 < 64 = omega arith in
    let end = can_end root ps (num (trees.shift op a 0)) fit (num_of (wanted root ps) _, (fits, low)) in
    blocked_here (constant 0 ∷ close ∷ end.word)
    (λ behind. (
      end.tree,
      record { by = 0; behind = end.word ++ behind; low = low; are = refl; fills = end.fills behind },
    ))
    (λ t other rest first is. none is.by is.low (first_is here is.are first))

pub moves_amount : (root : Sort) (ps : List PartTree) (op : ShiftOperator) (a : NumTree) (by : ℕ) (rest : List Token) →
    by < 64 →
    Moves (IsAmount root ps op a) (IsClosing root ps (num (trees.shift op a by))) (constant by ∷ rest) rest
moves_amount root ps op a by rest low =
    moves_one (constant by) rest
    (λ t other after first is.
    let amount : by ≡ is.by = same_amount is.are in
    record {
      behind = is.behind;
      are = same_tail is.are;
      fills = subst (λ (n : ℕ). Fills root ps (num (trees.shift op a n)) is.behind t after) (sym amount) is.fills;
    })
    (λ t other after is.
    record {
      by = by;
      behind = is.behind;
      low = low;
      are = ap (λ (l : List Token). constant by ∷ l) is.are;
      fills = is.fills;
    })

pub moves_end : (root : Sort) (ps : List PartTree) (x : TruthTree) (rest : List Token) →
    Moves (IsClosing root ps x) (IsLeft root ps (Some x)) (close ∷ rest) rest
moves_end root ps x rest =
    moves_one close rest
    (λ t other after first is.
    subst (λ (l : List Token). Fills root ps x l t after) (sym (same_tail is.are)) is.fills)
    (λ t other after fills. record { behind = other; are = refl; fills = fills })

pub no_end : (root : Sort) (ps : List PartTree) (x : TruthTree) (here : List Token) → FitParts root ps →
    IsFitting (wanted root ps) x → first_of here ≢ Some close → IsBlocked (IsClosing root ps x) here here
no_end root ps x here fit fits none =
    let end = can_end root ps x fit fits in
    blocked_here (close ∷ end.word)
    (λ behind. (end.tree, record { behind = end.word ++ behind; are = refl; fills = end.fills behind }))
    (λ t other rest first is. none (first_is here is.are first))
