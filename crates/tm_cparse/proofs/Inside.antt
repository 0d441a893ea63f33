-- An operand in parentheses is its first operand and what follows it, or a sign in front and an operand.
use Rattle.std.proofs.Common.{◌≡◌, ◌≢◌, None, Some, List, [], ◌∷◌, ◌++◌, refl, sym, ap, ◌∙◌, subst, false, true≢false, append_assoc}
use Rattle.tm_cir.specs.declared.block.NumOperator.{NumOperator}
use Rattle.tm_cir.specs.declared.block.Comparison.{Comparison}
use Rattle.tm_cir.specs.declared.block.Junction.{Junction}
use Rattle.tm_cir.specs.Tree.{NumTree, TruthTree, num}
use Rattle.tm_cir.specs.Tree as trees
use Rattle.tm_cir.specs.Text.Token.{Token, constant, sign, Sign, open_parenthesis, close_parenthesis, colon, question, tilde, bang, arithmetic, shifting, comparing, joining}
use Rattle.tm_cir.specs.Text.Grammar.{num_tokens, truth_tokens}
use Rattle.tm_cir.proofs.Text.Expressions.{same_inside}
use Rattle.tm_cparse.specs.declared.part.Sort.{Sort}
use Rattle.tm_cparse.specs.declared.part.Sort.TheVariants as sorts
use Rattle.tm_cparse.specs.Written.{NumInRange, TruthInRange}
use Rattle.tm_cparse.specs.Inner.Reading.{first_of, Moves}
use Rattle.tm_cparse.specs.Inner.Parts.{PartTree, first_part, complement_part, negation_part, binary_part, compare_part, join_part, then_part, else_part, IsOf, IsFitting, IsExpression, sort_of, wanted, if_truth, begun_by, closed_by, Fills, closes, begins, shifts, goes_on, IsAwaited, IsLeft}
use Rattle.tm_cparse.proofs.Moves.{moves_one}
use Rattle.tm_cparse.proofs.Expressions.{num_of, truth_of, as_number, is_start, starts}

abbrev left : Token
left = sign open_parenthesis

abbrev close : Token
close = sign close_parenthesis

-- one operand behind a sign, two with a sign between them, and three with two signs
one_part : (xs rest : List Token) (c : Token) → (xs ++ c ∷ []) ++ rest ≡ xs ++ c ∷ rest
one_part xs rest c = simp append_assoc

two_parts : (xs ys rest : List Token) (s c : Token) →
    ((xs ++ s ∷ ys) ++ c ∷ []) ++ rest ≡ xs ++ (s ∷ (ys ++ c ∷ rest))
two_parts xs ys rest s c = simp append_assoc

three_parts : (xs ys zs rest : List Token) (s u c : Token) →
    (((xs ++ s ∷ ys) ++ u ∷ zs) ++ c ∷ []) ++ rest ≡ xs ++ (s ∷ (ys ++ (u ∷ (zs ++ c ∷ rest))))
three_parts xs ys zs rest s u c = simp append_assoc

-- two lists with the same first token
same_tail : {t u : Token} {a b : List Token} → t ∷ a ≡ u ∷ b → a ≡ b
same_tail e = cc

same_head : {t u : Token} {a b : List Token} → t ∷ a ≡ u ∷ b → t ≡ u
same_head e = cc

-- what is no number stands where a truth value is asked for
wants_truth : (s : Sort) (t : TruthTree) → ((a : NumTree) → t ≢ num a) → IsOf s t → s ≡ sorts.Truth
wants_truth sorts.Truth t none is = refl
wants_truth sorts.Number t none is = let n = as_number t is in absurd (none n.0 n.1)

-- no operand begins with such a sign
no_sign : {A : Type 0} {other : List Token} (x : TruthTree) (next : List Token) (s : Sign) →
    is_start (Some (sign s)) ≡ false → sign s ∷ other ≡ truth_tokens x ++ next → A
no_sign x next s none same =
    absurd (true≢false (sym (starts x next) ∙ ap (λ (l : List Token). is_start (first_of l)) (sym same) ∙ none))

-- the part that is begun where a truth value is asked for
if_asked : (s : Sort) (p q : PartTree) → if_truth s p ≡ Some q → (s ≡ sorts.Truth) × (q ≡ p)
if_asked sorts.Truth p q is = (refl, sym (same_inside is))
if_asked sorts.Number p q is = absurd (cc)

-- a first operand, before an operator that begins a part
first_operand : {root : Sort} {ps : List PartTree} {t : TruthTree} {other after : List Token} (y : TruthTree)
    (next : List Token) → TruthInRange y → other ≡ truth_tokens y ++ next →
    Fills root (first_part ∷ ps) y next t after → IsAwaited root (first_part ∷ ps) t other after
first_operand y next fits are fills = record {
  operand = y;
  next = next;
  is = record { fits = (tt, fits); are = are };
  fills = fills;
}

-- what stands behind a parenthesis that opens an operand, where no sign in front follows
pub unrolled : (root : Sort) (ps : List PartTree) (x t : TruthTree) (other next after : List Token) →
    IsFitting (wanted root ps) x → left ∷ other ≡ truth_tokens x ++ next →
    first_of other ≢ Some (sign tilde) → (wanted root ps ≡ sorts.Truth → first_of other ≢ Some (sign bang)) →
    Fills root ps x next t after → IsAwaited root (first_part ∷ ps) t other after
unrolled root ps (num (trees.constant n)) t other next after fits are no_tilde no_bang fills = absurd (cc)
unrolled root ps (num (trees.var k)) t other next after fits are no_tilde no_bang fills = absurd (cc)
unrolled root ps (num (trees.location p)) t other next after fits are no_tilde no_bang fills = absurd (cc)
unrolled root ps (num trees.goal) t other next after fits are no_tilde no_bang fills = absurd (cc)
unrolled root ps (num trees.last) t other next after fits are no_tilde no_bang fills = absurd (cc)
unrolled root ps (num (trees.complement a)) t other next after fits are no_tilde no_bang fills =
    absurd (no_tilde (ap first_of (same_tail are)))
unrolled root ps (num (trees.binary op a b)) t other next after fits are no_tilde no_bang fills =
    let s = sign (arithmetic op) in
    first_operand (num a) (s ∷ (num_tokens b ++ close ∷ next)) fits.1.0
    (same_tail are ∙ two_parts (num_tokens a) (num_tokens b) next s close)
    (begins {p = binary_part op a} {y = num b} {s = arithmetic op} {behind = num_tokens b ++ close ∷ next} refl refl
    (record { fits = (tt, fits.1.1); are = refl }) (closes refl refl fills))
unrolled root ps (num (trees.shift op a by)) t other next after fits are no_tilde no_bang fills =
    let s = sign (shifting op) in
    first_operand (num a) (s ∷ constant by ∷ close ∷ next) fits.1.0
    (same_tail are ∙ two_parts (num_tokens a) (constant by ∷ []) next s close)
    (shifts refl fits.1.1 refl fills)
unrolled root ps (num (trees.conditional u a b)) t other next after fits are no_tilde no_bang fills =
    let s = sign question in
    let tail = sign colon ∷ (num_tokens b ++ close ∷ next) in
    first_operand u (s ∷ (num_tokens a ++ tail)) fits.1.0
    (same_tail are ∙ three_parts (truth_tokens u) (num_tokens a) (num_tokens b) next s (sign colon) close)
    (begins {p = then_part u} {y = num a} {s = question} {behind = num_tokens a ++ tail} {next = tail} refl refl
    (record { fits = (tt, fits.1.1); are = refl })
    (goes_on {y = num b} {a = a} {behind = num_tokens b ++ close ∷ next} refl refl
    (record { fits = (tt, fits.1.2); are = refl }) (closes refl refl fills)))
unrolled root ps (trees.negation u) t other next after fits are no_tilde no_bang fills =
    let wants : wanted root ps ≡ sorts.Truth = wants_truth (wanted root ps) (trees.negation u) (λ a. λ e. cc) fits.0 in
    absurd (no_bang wants (ap first_of (same_tail are)))
unrolled root ps (trees.compare op a b) t other next after fits are no_tilde no_bang fills =
    let s = sign (comparing op) in
    let wants : wanted root ps ≡ sorts.Truth =
    wants_truth (wanted root ps) (trees.compare op a b) (λ a. λ e. cc) fits.0 in
    first_operand (num a) (s ∷ (num_tokens b ++ close ∷ next)) fits.1.0
    (same_tail are ∙ two_parts (num_tokens a) (num_tokens b) next s close)
    (begins {p = compare_part op a} {y = num b} {s = comparing op} {behind = num_tokens b ++ close ∷ next}
    (ap (λ (w : Sort). if_truth w (compare_part op a)) wants) refl
    (record { fits = (tt, fits.1.1); are = refl }) (closes refl refl fills))
unrolled root ps (trees.join op u v) t other next after fits are no_tilde no_bang fills =
    let s = sign (joining op) in
    let wants : wanted root ps ≡ sorts.Truth = wants_truth (wanted root ps) (trees.join op u v) (λ a. λ e. cc) fits.0 in
    first_operand u (s ∷ (truth_tokens v ++ close ∷ next)) fits.1.0
    (same_tail are ∙ two_parts (truth_tokens u) (truth_tokens v) next s close)
    (begins {p = join_part op u} {y = v} {s = joining op} {behind = truth_tokens v ++ close ∷ next}
    (ap (λ (w : Sort). if_truth w (join_part op u)) wants) refl
    (record { fits = (tt, fits.1.1); are = refl }) (closes refl refl fills))

-- an operand that closes a part stands there
closed_operand : {root : Sort} {ps : List PartTree} {t : TruthTree} {other next behind after : List Token}
    (p : PartTree) (x y z : TruthTree) → closed_by p x ≡ Some y → closed_by p x ≡ Some z → next ≡ close ∷ behind →
    IsFitting (wanted root ps) z → left ∷ other ≡ truth_tokens z ++ behind → Fills root ps y behind t after →
    IsAwaited root ps t (left ∷ other) after
closed_operand {root = root} {ps = ps} {t = t} {behind = behind} {after = after} p x y z is closed same fits are fills =
    record {
      operand = z;
      next = behind;
      is = record { fits = fits; are = are };
      fills = subst (λ (w : TruthTree). Fills root ps w behind t after) (same_inside (sym is ∙ closed)) fills;
    }

-- the operator of a first operand that is a number
rolled_binary : (root : Sort) (ps : List PartTree) (a : NumTree) (op : NumOperator) (y t : TruthTree)
    (other behind next after : List Token) → NumInRange a → other ≡ num_tokens a ++ (sign (arithmetic op) ∷ behind) →
    IsExpression sorts.Number y behind next → Fills root (binary_part op a ∷ ps) y next t after →
    IsAwaited root ps t (left ∷ other) after
rolled_binary root ps a op y t other behind next after fits are is
    (closes {y = z} {behind = rest} closed tokens fills) =
    let n = as_number y is.fits.0 in
    closed_operand (binary_part op a) y z (num (trees.binary op a n.0)) closed (ap (closed_by (binary_part op a)) n.1)
    tokens (num_of (wanted root ps) _, (fits, subst TruthInRange n.1 is.fits.1))
    (ap (λ (l : List Token). left ∷ l)
    (are
    ∙ ap (λ (l : List Token). num_tokens a ++ (sign (arithmetic op) ∷ l))
    (is.are ∙ ap (λ (w : TruthTree). truth_tokens w ++ next) n.1 ∙ ap (λ (l : List Token). num_tokens n.0 ++ l) tokens)
    ∙ sym (two_parts (num_tokens a) (num_tokens n.0) rest (sign (arithmetic op)) close)))
    fills

rolled_compare : (root : Sort) (ps : List PartTree) (a : NumTree) (op : Comparison) (y t : TruthTree)
    (other behind next after : List Token) → wanted root ps ≡ sorts.Truth → NumInRange a →
    other ≡ num_tokens a ++ (sign (comparing op) ∷ behind) → IsExpression sorts.Number y behind next →
    Fills root (compare_part op a ∷ ps) y next t after → IsAwaited root ps t (left ∷ other) after
rolled_compare root ps a op y t other behind next after wants fits are is
    (closes {y = z} {behind = rest} closed tokens fills) =
    let n = as_number y is.fits.0 in
    closed_operand (compare_part op a) y z (trees.compare op a n.0) closed (ap (closed_by (compare_part op a)) n.1)
    tokens (truth_of (wanted root ps) _ wants, (fits, subst TruthInRange n.1 is.fits.1))
    (ap (λ (l : List Token). left ∷ l)
    (are
    ∙ ap (λ (l : List Token). num_tokens a ++ (sign (comparing op) ∷ l))
    (is.are ∙ ap (λ (w : TruthTree). truth_tokens w ++ next) n.1 ∙ ap (λ (l : List Token). num_tokens n.0 ++ l) tokens)
    ∙ sym (two_parts (num_tokens a) (num_tokens n.0) rest (sign (comparing op)) close)))
    fills

rolled_join : (root : Sort) (ps : List PartTree) (u : TruthTree) (op : Junction) (y t : TruthTree)
    (other behind next after : List Token) → wanted root ps ≡ sorts.Truth → TruthInRange u →
    other ≡ truth_tokens u ++ (sign (joining op) ∷ behind) → IsExpression sorts.Truth y behind next →
    Fills root (join_part op u ∷ ps) y next t after → IsAwaited root ps t (left ∷ other) after
rolled_join root ps u op y t other behind next after wants fits are is
    (closes {y = z} {behind = rest} closed tokens fills) =
    closed_operand (join_part op u) y z (trees.join op u y) closed refl tokens
    (truth_of (wanted root ps) _ wants, (fits, is.fits.1))
    (ap (λ (l : List Token). left ∷ l)
    (are
    ∙ ap (λ (l : List Token). truth_tokens u ++ (sign (joining op) ∷ l))
    (is.are ∙ ap (λ (l : List Token). truth_tokens y ++ l) tokens)
    ∙ sym (two_parts (truth_tokens u) (truth_tokens y) rest (sign (joining op)) close)))
    fills

rolled_else : (root : Sort) (ps : List PartTree) (u : TruthTree) (a : NumTree) (y t : TruthTree)
    (other behind next after : List Token) → TruthInRange u → NumInRange a →
    other ≡ truth_tokens u ++ (sign question ∷ (num_tokens a ++ (sign colon ∷ behind))) →
    IsExpression sorts.Number y behind next → Fills root (else_part u a ∷ ps) y next t after →
    IsAwaited root ps t (left ∷ other) after
rolled_else root ps u a y t other behind next after fits_test fits are is
    (closes {y = z} {behind = rest} closed tokens fills) =
    let n = as_number y is.fits.0 in
    closed_operand (else_part u a) y z (num (trees.conditional u a n.0)) closed (ap (closed_by (else_part u a)) n.1)
    tokens (num_of (wanted root ps) _, (fits_test, fits, subst TruthInRange n.1 is.fits.1))
    (ap (λ (l : List Token). left ∷ l)
    (are
    ∙ ap (λ (l : List Token). truth_tokens u ++ (sign question ∷ (num_tokens a ++ (sign colon ∷ l))))
    (is.are ∙ ap (λ (w : TruthTree). truth_tokens w ++ next) n.1 ∙ ap (λ (l : List Token). num_tokens n.0 ++ l) tokens)
    ∙ sym (three_parts (truth_tokens u) (num_tokens a) (num_tokens n.0) rest (sign question) (sign colon) close)))
    fills

rolled_then : (root : Sort) (ps : List PartTree) (u y t : TruthTree) (other behind next after : List Token) →
    TruthInRange u → other ≡ truth_tokens u ++ (sign question ∷ behind) → IsExpression sorts.Number y behind next →
    Fills root (then_part u ∷ ps) y next t after → IsAwaited root ps t (left ∷ other) after
rolled_then root ps u y t other behind next after fits are is (closes closed tokens fills) = absurd (cc)
rolled_then root ps u y t other behind next after fits are is
    (goes_on {y = v} {a = a} {behind = rest} {next = last} same tokens operand fills) =
    rolled_else root ps u a v t other rest last after fits (subst TruthInRange same is.fits.1)
    (are
    ∙ ap (λ (l : List Token). truth_tokens u ++ (sign question ∷ l))
    (is.are ∙ ap (λ (w : TruthTree). truth_tokens w ++ next) same
    ∙ ap (λ (l : List Token). num_tokens a ++ l) tokens)) operand fills

-- the part that an operator begins
rolled_part : (root : Sort) (ps : List PartTree) (s : Sign) (x y t : TruthTree) (p : PartTree)
    (other behind next after : List Token) → TruthInRange x → other ≡ truth_tokens x ++ (sign s ∷ behind) →
    begun_by (wanted root ps) s x ≡ Some p → IsExpression (sort_of p) y behind next →
    Fills root (p ∷ ps) y next t after → IsAwaited root ps t (left ∷ other) after
rolled_part root ps (arithmetic op) (num a) y t p other behind next after fits are begun is fills =
    let same : p ≡ binary_part op a = sym (same_inside begun) in
    rolled_binary root ps a op y t other behind next after fits are
    (subst (λ (q : PartTree). IsExpression (sort_of q) y behind next) same is)
    (subst (λ (q : PartTree). Fills root (q ∷ ps) y next t after) same fills)
rolled_part root ps (comparing op) (num a) y t p other behind next after fits are begun is fills =
    let asked = if_asked (wanted root ps) (compare_part op a) p begun in
    rolled_compare root ps a op y t other behind next after asked.0 fits are
    (subst (λ (q : PartTree). IsExpression (sort_of q) y behind next) asked.1 is)
    (subst (λ (q : PartTree). Fills root (q ∷ ps) y next t after) asked.1 fills)
rolled_part root ps (joining op) x y t p other behind next after fits are begun is fills =
    let asked = if_asked (wanted root ps) (join_part op x) p begun in
    rolled_join root ps x op y t other behind next after asked.0 fits are
    (subst (λ (q : PartTree). IsExpression (sort_of q) y behind next) asked.1 is)
    (subst (λ (q : PartTree). Fills root (q ∷ ps) y next t after) asked.1 fills)
rolled_part root ps question x y t p other behind next after fits are begun is fills =
    let same : p ≡ then_part x = sym (same_inside begun) in
    rolled_then root ps x y t other behind next after fits are
    (subst (λ (q : PartTree). IsExpression (sort_of q) y behind next) same is)
    (subst (λ (q : PartTree). Fills root (q ∷ ps) y next t after) same fills)
rolled_part root ps _ _ y t p other behind next after fits are begun is fills = absurd (cc)

-- what follows a parenthesis that opens an operand is the operand, and then what leads to the whole
pub rolled : (root : Sort) (ps : List PartTree) (t : TruthTree) (other after : List Token) →
    IsAwaited root (first_part ∷ ps) t other after → IsAwaited root ps t (left ∷ other) after
rolled root ps t other after awaited = of awaited.operand awaited.next awaited.is awaited.fills
  where
    of : (x : TruthTree) (next : List Token) → IsExpression sorts.Truth x other next →
        Fills root (first_part ∷ ps) x next t after → IsAwaited root ps t (left ∷ other) after
    of x next is (closes closed tokens fills) = absurd (cc)
    of x next is (begins {p = p} {y = y} {s = s} {behind = behind} {next = last} begun tokens operand fills) =
        rolled_part root ps s x y t p other behind last after is.fits.1
        (is.are ∙ ap (λ (l : List Token). truth_tokens x ++ l) tokens) begun operand fills
    of x next is (shifts {op = op} {a = a} {by = by} {behind = behind} same low tokens fills) =
        record {
          operand = num (trees.shift op a by);
          next = behind;
          is = record {
            fits = (num_of (wanted root ps) _, (subst TruthInRange same is.fits.1, low));
            are = ap (λ (l : List Token). left ∷ l)
                (is.are ∙ ap (λ (w : TruthTree). truth_tokens w ++ next) same
                ∙ ap (λ (l : List Token). num_tokens a ++ l) tokens
                ∙ sym (two_parts (num_tokens a) (constant by ∷ []) behind (sign (shifting op)) close));
          };
          fills = fills;
        }

-- a parenthesis with no sign in front behind it
pub moves_first : (root : Sort) (ps : List PartTree) (rest : List Token) → first_of rest ≢ Some (sign tilde) →
    (wanted root ps ≡ sorts.Truth → first_of rest ≢ Some (sign bang)) →
    Moves (IsLeft root ps None) (IsLeft root (first_part ∷ ps) None) (left ∷ rest) rest
moves_first root ps rest no_tilde no_bang =
    moves_one left rest
    (λ t other after first is.
    unrolled root ps is.operand t other is.next after is.is.fits is.is.are (λ e. no_tilde (sym first ∙ e))
    (λ wants e. no_bang wants (sym first ∙ e)) is.fills)
    (λ t other after is. rolled root ps t other after is)

-- a sign in front of an operand in parentheses
tilde_before : (root : Sort) (ps : List PartTree) (x t : TruthTree) (other next after : List Token) →
    IsFitting (wanted root ps) x → left ∷ sign tilde ∷ other ≡ truth_tokens x ++ next → Fills root ps x next t after →
    IsAwaited root (complement_part ∷ ps) t other after
tilde_before root ps (num (trees.constant n)) t other next after fits are fills = absurd (cc)
tilde_before root ps (num (trees.var k)) t other next after fits are fills = absurd (cc)
tilde_before root ps (num (trees.location p)) t other next after fits are fills = absurd (cc)
tilde_before root ps (num trees.goal) t other next after fits are fills = absurd (cc)
tilde_before root ps (num trees.last) t other next after fits are fills = absurd (cc)
tilde_before root ps (num (trees.complement a)) t other next after fits are fills = record {
  operand = num a;
  next = close ∷ next;
  is = record { fits = (tt, fits.1); are = same_tail (same_tail are) ∙ one_part (num_tokens a) next close };
  fills = closes refl refl fills;
}
tilde_before root ps (num (trees.binary op a b)) t other next after fits are fills =
    no_sign (num a) _ tilde refl
    (same_tail are ∙ two_parts (num_tokens a) (num_tokens b) next (sign (arithmetic op)) close)
tilde_before root ps (num (trees.shift op a by)) t other next after fits are fills =
    no_sign (num a) _ tilde refl
    (same_tail are ∙ two_parts (num_tokens a) (constant by ∷ []) next (sign (shifting op)) close)
tilde_before root ps (num (trees.conditional u a b)) t other next after fits are fills =
    no_sign u _ tilde refl
    (same_tail are
    ∙ three_parts (truth_tokens u) (num_tokens a) (num_tokens b) next (sign question) (sign colon) close)
tilde_before root ps (trees.negation u) t other next after fits are fills = absurd (cc)
tilde_before root ps (trees.compare op a b) t other next after fits are fills =
    no_sign (num a) _ tilde refl
    (same_tail are ∙ two_parts (num_tokens a) (num_tokens b) next (sign (comparing op)) close)
tilde_before root ps (trees.join op u v) t other next after fits are fills =
    no_sign u _ tilde refl
    (same_tail are ∙ two_parts (truth_tokens u) (truth_tokens v) next (sign (joining op)) close)

bang_before : (root : Sort) (ps : List PartTree) (x t : TruthTree) (other next after : List Token) →
    IsFitting (wanted root ps) x → left ∷ sign bang ∷ other ≡ truth_tokens x ++ next → Fills root ps x next t after →
    IsAwaited root (negation_part ∷ ps) t other after
bang_before root ps (num (trees.constant n)) t other next after fits are fills = absurd (cc)
bang_before root ps (num (trees.var k)) t other next after fits are fills = absurd (cc)
bang_before root ps (num (trees.location p)) t other next after fits are fills = absurd (cc)
bang_before root ps (num trees.goal) t other next after fits are fills = absurd (cc)
bang_before root ps (num trees.last) t other next after fits are fills = absurd (cc)
bang_before root ps (num (trees.complement a)) t other next after fits are fills = absurd (cc)
bang_before root ps (num (trees.binary op a b)) t other next after fits are fills =
    no_sign (num a) _ bang refl
    (same_tail are ∙ two_parts (num_tokens a) (num_tokens b) next (sign (arithmetic op)) close)
bang_before root ps (num (trees.shift op a by)) t other next after fits are fills =
    no_sign (num a) _ bang refl
    (same_tail are ∙ two_parts (num_tokens a) (constant by ∷ []) next (sign (shifting op)) close)
bang_before root ps (num (trees.conditional u a b)) t other next after fits are fills =
    no_sign u _ bang refl
    (same_tail are
    ∙ three_parts (truth_tokens u) (num_tokens a) (num_tokens b) next (sign question) (sign colon) close)
bang_before root ps (trees.negation u) t other next after fits are fills = record {
  operand = u;
  next = close ∷ next;
  is = record { fits = (tt, fits.1); are = same_tail (same_tail are) ∙ one_part (truth_tokens u) next close };
  fills = closes refl refl fills;
}
bang_before root ps (trees.compare op a b) t other next after fits are fills =
    no_sign (num a) _ bang refl
    (same_tail are ∙ two_parts (num_tokens a) (num_tokens b) next (sign (comparing op)) close)
bang_before root ps (trees.join op u v) t other next after fits are fills =
    no_sign u _ bang refl
    (same_tail are ∙ two_parts (truth_tokens u) (truth_tokens v) next (sign (joining op)) close)

-- a parenthesis and `~`
pub moves_tilde : (root : Sort) (ps : List PartTree) (rest : List Token) →
    Moves (IsLeft root ps None) (IsLeft root (complement_part ∷ ps) None) (left ∷ sign tilde ∷ rest) rest
moves_tilde root ps rest = record {
  front = left ∷ sign tilde ∷ [];
  whole = refl;
  to = λ t other after first is.
      tilde_before root ps is.operand t other is.next after is.is.fits is.is.are is.fills;
  from = λ t other after is. complemented root ps is.operand t other is.next after is.is is.fills;
}
  where
    complemented : (root : Sort) (ps : List PartTree) (y t : TruthTree) (other next after : List Token) →
        IsExpression sorts.Number y other next → Fills root (complement_part ∷ ps) y next t after →
        IsAwaited root ps t (left ∷ sign tilde ∷ other) after
    complemented root ps y t other next after is (closes {y = z} {behind = rest} closed tokens fills) =
        let n = as_number y is.fits.0 in
        closed_operand complement_part y z (num (trees.complement n.0)) closed (ap (closed_by complement_part) n.1)
        tokens (num_of (wanted root ps) _, subst TruthInRange n.1 is.fits.1)
        (ap (λ (l : List Token). left ∷ sign tilde ∷ l)
        (is.are ∙ ap (λ (w : TruthTree). truth_tokens w ++ next) n.1
        ∙ ap (λ (l : List Token). num_tokens n.0 ++ l) tokens ∙ sym (one_part (num_tokens n.0) rest close)))
        fills

-- a parenthesis and `!`
pub moves_bang : (root : Sort) (ps : List PartTree) (rest : List Token) → wanted root ps ≡ sorts.Truth →
    Moves (IsLeft root ps None) (IsLeft root (negation_part ∷ ps) None) (left ∷ sign bang ∷ rest) rest
moves_bang root ps rest wants = record {
  front = left ∷ sign bang ∷ [];
  whole = refl;
  to = λ t other after first is.
      bang_before root ps is.operand t other is.next after is.is.fits is.is.are is.fills;
  from = λ t other after is. negated root ps is.operand t other is.next after wants is.is is.fills;
}
  where
    negated : (root : Sort) (ps : List PartTree) (y t : TruthTree) (other next after : List Token) →
        wanted root ps ≡ sorts.Truth → IsExpression sorts.Truth y other next →
        Fills root (negation_part ∷ ps) y next t after → IsAwaited root ps t (left ∷ sign bang ∷ other) after
    negated root ps y t other next after wants is (closes {y = z} {behind = rest} closed tokens fills) =
        closed_operand negation_part y z (trees.negation y) closed refl tokens
        (truth_of (wanted root ps) _ wants, is.fits.1)
        (ap (λ (l : List Token). left ∷ sign bang ∷ l)
        (is.are ∙ ap (λ (l : List Token). truth_tokens y ++ l) tokens
        ∙ sym (one_part (truth_tokens y) rest close)))
        fills
