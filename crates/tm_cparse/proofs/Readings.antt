-- The steps of the reader of expressions, as its functions take them.
use Rattle.std.proofs.Common.{◌≡◌, ◌≢◌, ℕ, ◌<◌, false, None, Some, List, [], ◌∷◌, refl, sym, ap, ◌∙◌, subst, Result, Ok, Err}
use Rattle.tm_base.specs.declared.shift_operator.ShiftOperator.{ShiftOperator}
use Rattle.tm_cir.specs.Tree.{NumTree, TruthTree, num}
use Rattle.tm_cir.specs.Tree as trees
use Rattle.tm_cir.specs.Text.Token.{Token, word, variable, location, constant, sign, Sign, termite_goal, termite_last, open_parenthesis, close_parenthesis, colon, question, arithmetic, shifting, comparing, joining}
use Rattle.tm_cir.proofs.Text.Expressions.{same_inside}
use Rattle.tm_cparse.specs.declared.part.Sort.{Sort}
use Rattle.tm_cparse.specs.declared.part.Sort.TheVariants as sorts
use Rattle.tm_cparse.specs.Written.{NumInRange, TruthInRange}
use Rattle.std.specs.Result.{IfOk, IfErr}
use Rattle.tm_cparse.specs.declared.spot.Spot.{Spot}
use Rattle.tm_cparse.specs.declared.spot.Stop.{Stop}
use Rattle.tm_cparse.specs.declared.spot.Stop.TheVariants.{Unexpected, Memory}
use Rattle.tm_cparse.specs.View.{tokens_of}
use Rattle.tm_cparse.specs.Inner.Reading.{first_of, IsBlocked, IsRefused, Moves, IsMissing, IsNoAmount}
use Rattle.tm_cparse.specs.Inner.Parts.{PartTree, first_part, complement_part, negation_part, binary_part, compare_part, join_part, then_part, else_part, IsFitting, IsExpression, sort_of, wanted, if_truth, begun_by, number_in, Closes, closed_by, Opens, opens_complement, opens_negation, opens_first, sign_in, leaf_of, Fills, whole, FitsPart, FitParts, IsAwaited, IsLeft, IsAmount}
use Rattle.tm_cparse.proofs.Moves.{moves_then, moves_blocked, blocked_as}
use Rattle.tm_cparse.proofs.Expressions.{num_of, truth_of, as_number, is_start, no_operand, moves_leaf}
use Rattle.tm_cparse.proofs.Inside.{moves_first, moves_tilde, moves_bang}
use Rattle.tm_cparse.proofs.Steps.{moves_close, no_close, moves_colon, no_colon, moves_operator, no_operator, moves_shift, no_amount, moves_amount, moves_end, no_end}

abbrev left : Token
left = sign open_parenthesis

abbrev close : Token
close = sign close_parenthesis

-- a parenthesis, and the part that begins behind it
pub moved_opening : (root : Sort) (ps : List PartTree) (p : PartTree) (tokens ts rest : List Token) →
    tokens ≡ left ∷ ts → Opens (wanted root ps) p ts rest →
    Moves (IsLeft root ps None) (IsLeft root (p ∷ ps) None) tokens rest
moved_opening root ps p tokens ts rest is opens =
    subst (λ (l : List Token). Moves (IsLeft root ps None) (IsLeft root (p ∷ ps) None) l rest) (sym is) (of p opens)
  where
    of : (q : PartTree) {a b : List Token} → Opens (wanted root ps) q a b →
        Moves (IsLeft root ps None) (IsLeft root (q ∷ ps) None) (left ∷ a) b
    of _ (opens_complement {rest = b} e) =
        subst (λ (l : List Token). Moves (IsLeft root ps None) (IsLeft root (complement_part ∷ ps) None) (left ∷ l) b)
        (sym e) (moves_tilde root ps b)
    of _ (opens_negation {rest = b} wants e) =
        subst (λ (l : List Token). Moves (IsLeft root ps None) (IsLeft root (negation_part ∷ ps) None) (left ∷ l) b)
        (sym e) (moves_bang root ps b wants)
    of _ (opens_first {tokens = a} no_tilde no_bang) = moves_first root ps a no_tilde no_bang

pub opening_fits : (s : Sort) (p : PartTree) {a b : List Token} → Opens s p a b → FitsPart s p
opening_fits s _ (opens_complement e) = tt
opening_fits s _ (opens_negation wants e) = wants
opening_fits s _ (opens_first no_tilde no_bang) = tt

-- an operand of one token
pub moved_leaf : (root : Sort) (ps : List PartTree) (t : Token) (a : NumTree) (tokens rest : List Token) →
    tokens ≡ t ∷ rest → leaf_of t ≡ Some a → Moves (IsLeft root ps None) (IsLeft root ps (Some (num a))) tokens rest
moved_leaf root ps t a tokens rest is leaf =
    subst (λ (l : List Token). Moves (IsLeft root ps None) (IsLeft root ps (Some (num a))) l rest) (sym is)
    (moves_leaf root ps t a rest leaf)

no_start : (t : Token) → leaf_of t ≡ None → Some t ≢ Some left → is_start (Some t) ≡ false
no_start (constant n) none other = absurd (cc)
no_start (variable k) none other = absurd (cc)
no_start (location p) none other = absurd (cc)
no_start (word termite_goal) none other = absurd (cc)
no_start (word termite_last) none other = absurd (cc)
no_start (sign open_parenthesis) none other = absurd (other refl)
no_start _ none other = refl

pub no_leaf : (root : Sort) (ps : List PartTree) (t : Token) (tokens rest : List Token) → FitParts root ps →
    tokens ≡ t ∷ rest → leaf_of t ≡ None → first_of tokens ≢ Some left → IsBlocked (IsLeft root ps None) tokens tokens
no_leaf root ps t tokens rest fit is none other =
    no_operand root ps tokens fit
    (ap (λ (l : List Token). is_start (first_of l)) is
    ∙ no_start t none (λ e. other (ap first_of is ∙ e)))

pub no_token : (root : Sort) (ps : List PartTree) (tokens : List Token) → FitParts root ps → tokens ≡ [] →
    IsBlocked (IsLeft root ps None) tokens tokens
no_token root ps tokens fit is = no_operand root ps tokens fit (ap (λ (l : List Token). is_start (first_of l)) is)

-- `:`
pub moved_colon : (root : Sort) (ps : List PartTree) (u x : TruthTree) (a : NumTree) (tokens rest : List Token) →
    num a ≡ x → tokens ≡ sign colon ∷ rest →
    Moves (IsLeft root (then_part u ∷ ps) (Some x)) (IsLeft root (else_part u a ∷ ps) None) tokens rest
moved_colon root ps u x a tokens rest same is =
    subst
    (λ (y : TruthTree).
    Moves (IsLeft root (then_part u ∷ ps) (Some y)) (IsLeft root (else_part u a ∷ ps) None) tokens rest)
    same
    (subst
    (λ (l : List Token).
    Moves (IsLeft root (then_part u ∷ ps) (Some (num a))) (IsLeft root (else_part u a ∷ ps) None) l rest) (sym is)
    (moves_colon root ps u a rest))

pub colon_fits : (root : Sort) (ps : List PartTree) (u x : TruthTree) (a : NumTree) → num a ≡ x →
    FitParts root (then_part u ∷ ps) → IsFitting sorts.Number x → FitParts root (else_part u a ∷ ps)
colon_fits root ps u x a same fit fits = ((fit.0, subst TruthInRange (sym same) fits.1), fit.1)

-- the parenthesis that closes
pub moved_close : (root : Sort) (ps : List PartTree) (p : PartTree) (x y : TruthTree) (tokens rest : List Token) →
    closed_by p x ≡ Some y → tokens ≡ close ∷ rest →
    Moves (IsLeft root (p ∷ ps) (Some x)) (IsLeft root ps (Some y)) tokens rest
moved_close root ps p x y tokens rest closed is =
    subst (λ (l : List Token). Moves (IsLeft root (p ∷ ps) (Some x)) (IsLeft root ps (Some y)) l rest) (sym is)
    (moves_close root ps p x y rest closed)

-- what a part closes to
record ClosesTo (s : Sort) (p : PartTree) (x : TruthTree) : Type 0 where
  tree : TruthTree
  is : closed_by p x ≡ Some tree
  fits : IsFitting s tree

closes_to : (s : Sort) (p : PartTree) (x : TruthTree) → Closes p → FitsPart s p → IsFitting (sort_of p) x →
    ClosesTo s p x
closes_to s first_part x closes fit fits = absurd closes
closes_to s complement_part x closes fit fits =
    let n = as_number x fits.0 in record {
      tree = num (trees.complement n.0);
      is = ap (closed_by complement_part) n.1;
      fits = (num_of s _, subst TruthInRange n.1 fits.1);
    }
closes_to s negation_part x closes fit fits = record {
  tree = trees.negation x;
  is = refl;
  fits = (truth_of s _ fit, fits.1);
}
closes_to s (binary_part op a) x closes fit fits =
    let n = as_number x fits.0 in record {
      tree = num (trees.binary op a n.0);
      is = ap (closed_by (binary_part op a)) n.1;
      fits = (num_of s _, (fit, subst TruthInRange n.1 fits.1));
    }
closes_to s (compare_part op a) x closes fit fits =
    let n = as_number x fits.0 in record {
      tree = trees.compare op a n.0;
      is = ap (closed_by (compare_part op a)) n.1;
      fits = (truth_of s _ fit.0, (fit.1, subst TruthInRange n.1 fits.1));
    }
closes_to s (join_part op t) x closes fit fits = record {
  tree = trees.join op t x;
  is = refl;
  fits = (truth_of s _ fit.0, (fit.1, fits.1));
}
closes_to s (then_part t) x closes fit fits = absurd closes
closes_to s (else_part t a) x closes fit fits =
    let n = as_number x fits.0 in record {
      tree = num (trees.conditional t a n.0);
      is = ap (closed_by (else_part t a)) n.1;
      fits = (num_of s _, (fit.0, fit.1, subst TruthInRange n.1 fits.1));
    }

pub closed_fits : (root : Sort) (ps : List PartTree) (p : PartTree) (x y : TruthTree) → Closes p →
    FitParts root (p ∷ ps) → IsFitting (sort_of p) x → closed_by p x ≡ Some y → IsFitting (wanted root ps) y
closed_fits root ps p x y closes fit fits is =
    let to = closes_to (wanted root ps) p x closes fit.0 fits in
    subst (IsFitting (wanted root ps)) (same_inside (sym to.is ∙ is)) to.fits

pub not_closed : (root : Sort) (ps : List PartTree) (p : PartTree) (x : TruthTree) (tokens : List Token) → Closes p →
    FitParts root (p ∷ ps) → IsFitting (sort_of p) x → first_of tokens ≢ Some close →
    IsBlocked (IsLeft root (p ∷ ps) (Some x)) tokens tokens
not_closed root ps p x tokens closes fit fits none =
    let to = closes_to (wanted root ps) p x closes fit.0 fits in
    no_close root ps p x to.tree tokens fit fits to.is none

-- an operator that begins a part
pub moved_operator : (root : Sort) (ps : List PartTree) (s : Sign) (x : TruthTree) (p : PartTree)
    (tokens rest : List Token) → begun_by (wanted root ps) s x ≡ Some p → tokens ≡ sign s ∷ rest →
    Moves (IsLeft root (first_part ∷ ps) (Some x)) (IsLeft root (p ∷ ps) None) tokens rest
moved_operator root ps s x p tokens rest begun is =
    subst (λ (l : List Token). Moves (IsLeft root (first_part ∷ ps) (Some x)) (IsLeft root (p ∷ ps) None) l rest)
    (sym is) (moves_operator root ps s x p rest begun)

begun_truth : (s : Sort) (p q : PartTree) → (s ≡ sorts.Truth → FitsPart s p) → if_truth s p ≡ Some q → FitsPart s q
begun_truth sorts.Truth p q fits is = subst (FitsPart sorts.Truth) (same_inside is) (fits refl)
begun_truth sorts.Number p q fits is = absurd (cc)

pub begun_fits : (s : Sort) (r : Sign) (x : TruthTree) (p : PartTree) → TruthInRange x → begun_by s r x ≡ Some p →
    FitsPart s p
begun_fits s (arithmetic op) (num a) p fits begun = subst (FitsPart s) (same_inside begun) fits
begun_fits s (comparing op) (num a) p fits begun = begun_truth s (compare_part op a) p (λ wants. (wants, fits)) begun
begun_fits s (joining op) x p fits begun = begun_truth s (join_part op x) p (λ wants. (wants, fits)) begun
begun_fits s question x p fits begun = subst (FitsPart s) (same_inside begun) fits
begun_fits s _ _ p fits begun = absurd (cc)

-- no operator: there is no token, or it is no sign, or one that begins no part
pub no_sign_there : (root : Sort) (ps : List PartTree) (x : TruthTree) (tokens : List Token) → FitParts root ps →
    IsFitting sorts.Truth x → ((s : Sign) → first_of tokens ≢ Some (sign s)) →
    IsBlocked (IsLeft root (first_part ∷ ps) (Some x)) tokens tokens
no_sign_there root ps x tokens fit fits none =
    no_operator root ps x tokens (tt, fit) fits (λ s p is. absurd (none s is))
    (λ op a is. absurd (none (shifting op) is))

not_begun : {s r : Sign} {rest here : List Token} → here ≡ sign s ∷ rest → first_of here ≡ Some (sign r) → r ≡ s
not_begun is first = let both : Some (sign _) ≡ Some (sign _) = sym first ∙ ap first_of is in cc

pub no_part_begins : (root : Sort) (ps : List PartTree) (s : Sign) (x : TruthTree) (tokens rest : List Token) →
    FitParts root ps → IsFitting sorts.Truth x → tokens ≡ sign s ∷ rest → begun_by (wanted root ps) s x ≡ None →
    ((op : ShiftOperator) → s ≢ shifting op) → IsBlocked (IsLeft root (first_part ∷ ps) (Some x)) tokens tokens
no_part_begins root ps s x tokens rest fit fits is none no_shift =
    no_operator root ps x tokens (tt, fit) fits
    (λ r p first begun.
    let same : Some p ≡ None =
    sym begun ∙ ap (λ (o : Sign). begun_by (wanted root ps) o x) (not_begun is first) ∙ none in cc)
    (λ op a first. absurd (no_shift op (sym (not_begun is first))))

pub no_number_shifts : (root : Sort) (ps : List PartTree) (op : ShiftOperator) (x : TruthTree)
    (tokens rest : List Token) → FitParts root ps → IsFitting sorts.Truth x → tokens ≡ sign (shifting op) ∷ rest →
    number_in x ≡ None → IsBlocked (IsLeft root (first_part ∷ ps) (Some x)) tokens tokens
no_number_shifts root ps op x tokens rest fit fits is none =
    no_operator root ps x tokens (tt, fit) fits
    (λ r p first begun.
    let same : begun_by (wanted root ps) (shifting op) x ≡ Some p =
    ap (λ (o : Sign). begun_by (wanted root ps) o x) (sym (not_begun is first)) ∙ begun in cc)
    (λ o a first same. let both : None ≡ Some a = sym none ∙ ap number_in same in cc)

-- a shift
pub moved_shift : (root : Sort) (ps : List PartTree) (op : ShiftOperator) (a : NumTree) (x : TruthTree)
    (tokens rest : List Token) → x ≡ num a → tokens ≡ sign (shifting op) ∷ rest →
    Moves (IsLeft root (first_part ∷ ps) (Some x)) (IsAmount root ps op a) tokens rest
moved_shift root ps op a x tokens rest same is =
    subst (λ (y : TruthTree). Moves (IsLeft root (first_part ∷ ps) (Some y)) (IsAmount root ps op a) tokens rest)
    (sym same)
    (subst (λ (l : List Token). Moves (IsLeft root (first_part ∷ ps) (Some (num a))) (IsAmount root ps op a) l rest)
    (sym is) (moves_shift root ps op a rest))

pub moved_amount : (root : Sort) (ps : List PartTree) (op : ShiftOperator) (a : NumTree) (by : ℕ) (y : TruthTree)
    (tokens middle rest : List Token) → by < 64 → y ≡ num (trees.shift op a by) → tokens ≡ constant by ∷ middle →
    middle ≡ close ∷ rest → Moves (IsAmount root ps op a) (IsLeft root ps (Some y)) tokens rest
moved_amount root ps op a by y tokens middle rest low same is ends =
    subst (λ (z : TruthTree). Moves (IsAmount root ps op a) (IsLeft root ps (Some z)) tokens rest) (sym same)
    (subst
    (λ (l : List Token). Moves (IsAmount root ps op a) (IsLeft root ps (Some (num (trees.shift op a by)))) l rest)
    (sym (is ∙ ap (λ (l : List Token). constant by ∷ l) ends))
    (moves_then (moves_amount root ps op a by (close ∷ rest) low)
    (moves_end root ps (num (trees.shift op a by)) rest)))

pub no_amount_end : (root : Sort) (ps : List PartTree) (op : ShiftOperator) (a : NumTree) (by : ℕ)
    (tokens middle : List Token) → FitParts root ps → NumInRange a → by < 64 → tokens ≡ constant by ∷ middle →
    first_of middle ≢ Some close → IsBlocked (IsAmount root ps op a) tokens middle
no_amount_end root ps op a by tokens middle fit fits low is none =
    subst (λ (l : List Token). IsBlocked (IsAmount root ps op a) l middle) (sym is)
    (moves_blocked (moves_amount root ps op a by middle low)
    (no_end root ps (num (trees.shift op a by)) middle fit (num_of (wanted root ps) _, (fits, low)) none))

-- an expression is what an operand leads to where nothing was begun
pub expression_read : (root : Sort) (x : TruthTree) (tokens rest : List Token) →
    Moves (IsLeft root [] None) (IsLeft root [] (Some x)) tokens rest → IsExpression root x tokens rest
expression_read root x tokens rest m =
    subst (λ (l : List Token). IsExpression root x l rest) (sym m.whole) (of (m.from x rest rest whole))
  where
    of : {t : TruthTree} {a b : List Token} → IsAwaited root [] t a b → IsExpression root t a b
    of {t = t} {a = a} {b = b} is = led is.operand is.next is.is is.fills
      where
        led : (y : TruthTree) (next : List Token) → IsExpression root y a next → Fills root [] y next t b →
            IsExpression root t a b
        led y next is whole = is

pub expression_refused : (root : Sort) (tokens here : List Token) → IsBlocked (IsLeft root [] None) tokens here →
    IsBlocked (IsExpression root) tokens here
expression_refused root tokens here h =
    blocked_as (λ t a b is. led is.operand is.next is.is is.fills)
    (λ t a b is. record { operand = t; next = b; is = is; fills = whole }) h
  where
    led : {t : TruthTree} {a b : List Token} (y : TruthTree) (next : List Token) → IsExpression root y a next →
        Fills root [] y next t b → IsExpression root t a b
    led y next is whole = is

-- why a reader stopped
refused_there : {X : Type 0} {Is : X → List Token → List Token → Type 0} (t : Token) (spots : List Spot) (e : Stop) →
    (first_of (tokens_of spots) ≢ Some t → IsBlocked Is (tokens_of spots) (tokens_of spots)) → IsMissing t spots e →
    IsRefused Is (tokens_of spots) e
refused_there {Is = Is} t spots (Unexpected here) blocks missing =
    subst (λ (l : List Spot). IsBlocked Is (tokens_of spots) (tokens_of l)) (sym missing.0) (blocks missing.1)
refused_there t spots Memory blocks missing = tt

pub refused_colon : (root : Sort) (ps : List PartTree) (u x : TruthTree) (spots : List Spot) (e : Stop) →
    FitParts root (then_part u ∷ ps) → IsFitting sorts.Number x → IsMissing (sign colon) spots e →
    IsRefused (IsLeft root (then_part u ∷ ps) (Some x)) (tokens_of spots) e
refused_colon root ps u x spots e fit fits missing =
    refused_there (sign colon) spots e (λ none. no_colon root ps u x (tokens_of spots) fit fits none) missing

pub refused_close : (p : PartTree) (x : TruthTree) (spots : List Spot) (e : Stop) → Closes p →
    IsFitting (sort_of p) x → IsMissing close spots e → (root : Sort) (ps : List PartTree) → FitParts root (p ∷ ps) →
    IsRefused (IsLeft root (p ∷ ps) (Some x)) (tokens_of spots) e
refused_close p x spots e closes fits missing root ps fit =
    refused_there close spots e (λ none. not_closed root ps p x (tokens_of spots) closes fit fits none) missing

pub refused_amount : (op : ShiftOperator) (a : NumTree) (spots : List Spot) (e : Stop) → NumInRange a →
    IsNoAmount spots e → (root : Sort) (ps : List PartTree) → FitParts root ps →
    IsRefused (IsAmount root ps op a) (tokens_of spots) e
refused_amount op a spots (Unexpected here) fits missing root ps fit =
    subst (λ (l : List Spot). IsBlocked (IsAmount root ps op a) (tokens_of spots) (tokens_of l)) (sym missing.0)
    (no_amount root ps op a (tokens_of spots) fit fits missing.1)
refused_amount op a spots Memory fits missing root ps fit = tt

pub refused_amount_end : (op : ShiftOperator) (a : NumTree) (by : ℕ) (tokens : List Token) (spots : List Spot)
    (e : Stop) → NumInRange a → by < 64 → tokens ≡ constant by ∷ tokens_of spots → IsMissing close spots e →
    (root : Sort) (ps : List PartTree) → FitParts root ps → IsRefused (IsAmount root ps op a) tokens e
refused_amount_end op a by tokens spots (Unexpected here) fits low is missing root ps fit =
    subst (λ (l : List Spot). IsBlocked (IsAmount root ps op a) tokens (tokens_of l)) (sym missing.0)
    (no_amount_end root ps op a by tokens (tokens_of spots) fit fits low is missing.1)
refused_amount_end op a by tokens spots Memory fits low is missing root ps fit = tt

-- a form is refused where what is left of it is
pub refused_behind : {X : Type 0} {Is Or : X → List Token → List Token → Type 0} {a b : List Token} → Moves Is Or a b →
    (e : Stop) → IsRefused Or b e → IsRefused Is a e
refused_behind m (Unexpected here) h = moves_blocked m h
refused_behind m Memory h = tt

pub expression_stops : (root : Sort) (tokens : List Token) (e : Stop) → IsRefused (IsLeft root [] None) tokens e →
    IsRefused (IsExpression root) tokens e
expression_stops root tokens (Unexpected here) h = expression_refused root tokens (tokens_of here.now) h
expression_stops root tokens Memory h = tt

-- what a call answers that a reader hands on
pub ok_map : {X E : Type 0} {P Q : X → Type 0} → ((x : X) → P x → Q x) → (r : Result X E) → IfOk r P → IfOk r Q
ok_map f (Ok x) h = f x h
ok_map f (Err e) h = h

pub err_map : {X E : Type 0} {P Q : E → Type 0} → ((e : E) → P e → Q e) → (r : Result X E) → IfErr r P → IfErr r Q
err_map f (Ok x) h = h
err_map f (Err e) h = f e h

-- the sign that a first token is
pub no_sign_first : (t : Token) (tokens rest : List Token) → tokens ≡ t ∷ rest → None ≡ sign_in t → (s : Sign) →
    first_of tokens ≢ Some (sign s)
no_sign_first t tokens rest is none s first =
    let same : t ≡ sign s = same_inside (sym (ap first_of is) ∙ first) in
    let both : None ≡ Some s = none ∙ ap sign_in same in cc

pub no_first : (tokens : List Token) → tokens ≡ [] → (t : Token) → first_of tokens ≢ Some t
no_first tokens is t first = let both : None ≡ Some t = sym (ap first_of is) ∙ first in cc

is_sign : (t : Token) (s : Sign) → Some s ≡ sign_in t → t ≡ sign s
is_sign (sign r) s is = ap sign (sym (same_inside is))
is_sign _ s is = absurd (cc)

pub sign_first : (t : Token) (s r : Sign) (tokens rest : List Token) → tokens ≡ t ∷ rest → Some s ≡ sign_in t → s ≡ r →
    tokens ≡ sign r ∷ rest
sign_first t s r tokens rest is in_token same =
    is ∙ ap (λ (u : Token). u ∷ rest) (is_sign t s in_token ∙ ap sign same)

pub number_is : (x : TruthTree) (a : NumTree) → Some a ≡ number_in x → x ≡ num a
number_is (num b) a is = ap num (sym (same_inside is))
number_is _ a is = absurd (cc)

pub number_range : (x : TruthTree) (a : NumTree) → Some a ≡ number_in x → TruthInRange x → NumInRange a
number_range x a is fits = subst TruthInRange (number_is x a is) fits
