-- A token in front of a text, and what may follow it: behind a sign no byte that makes it longer, and behind a word or
-- a constant no letter, digit or `_`.
use Rattle.std.proofs.Common.{◌≡◌, ℕ, ◌^◌, ◌<◌, ◌≤◌, Bool, true, false, Option, Some, None, option_map, ◌==◌, ◌||◌, ◌⊎◌, inl, inr, List, [], ◌∷◌, ◌++◌, length, get_or, drop, codes, refl, ap, sym, subst, ◌∙◌, true≢false, lit<, slice_get, append_assoc, arith}
use Rattle.std.specs.Fmt.{decimal}
use Rattle.std.specs.Option.{option_map_or}
use Rattle.std.specs.Str.Parse.{AllDigits}
use Rattle.std.proofs.lemmas.Fmt.{decimal_is_IsNumeral}
use Rattle.std.proofs.lemmas.Str.Parse.{digit_from_value}
use Rattle.std.proofs.lemmas.Option.{slice_get_cases}
use Rattle.std.proofs.lemmas.Bool.Decides.{Decides-eqb}
use Rattle.tm_syntax.specs.declared.design.Var.{Var}
use Rattle.tm_syntax.specs.declared.design.Item.{Item}
use Rattle.tm_syntax.specs.Design.{DesignTree}
use Rattle.tm_cir.specs.declared.block.NumOperator.TheVariants as numbers
use Rattle.tm_base.specs.declared.shift_operator.ShiftOperator.TheVariants.{Left, Right}
use Rattle.tm_cir.specs.declared.block.Comparison.TheVariants.{Equal, NotEqual, Less, LessEqual, Greater, GreaterEqual}
use Rattle.tm_cir.specs.declared.block.Junction.TheVariants as truths
use Rattle.tm_cir.specs.Text.Token.{Word, Sign, open_parenthesis, close_parenthesis, open_brace, close_brace, colon, semicolon, comma, question, tilde, bang, arithmetic, shifting, comparing, joining, Token, word, label, variable, location, task, constant, sign}
use Rattle.tm_cir.specs.Text.Spelling.{word_text, sign_text, item_name, token_text, IsLongestSign, BeginsNoWord, AreTokens, token, blank}
use Rattle.tm_cprint.specs.Layout.{variable_name, location_name, task_name, constant_text}

-- a byte that makes some sign longer
abbrev pub is_growth : ℕ → Bool
is_growth b = b == 38 || b == 60 || b == 61 || b == 62 || b == 124

-- no byte stands in front that makes a sign longer
abbrev pub Quiet : List ℕ → Type 0
Quiet rest = is_growth (get_or rest 0 0) ≡ false

-- the second byte of a sign makes a sign longer
grown : (y b : ℕ) (rest after : List ℕ) (x : ℕ) → is_growth y ≡ true → b ∷ rest ≡ x ∷ y ∷ after → Quiet rest → ⊥
grown y b rest after x grows whole quiet =
    true≢false (sym grows ∙ sym (ap (λ (t : List ℕ). is_growth (get_or (drop 1 t) 0 0)) whole) ∙ quiet)

-- a sign of more than one byte does not stand where a quiet text follows the first one
short : (longer : Sign) (b : ℕ) (rest after : List ℕ) → Quiet rest → b ∷ rest ≡ sign_text longer ++ after →
    length (sign_text longer) ≤ 1
short open_parenthesis b rest after quiet whole = omega arith
short close_parenthesis b rest after quiet whole = omega arith
short open_brace b rest after quiet whole = omega arith
short close_brace b rest after quiet whole = omega arith
short colon b rest after quiet whole = omega arith
short semicolon b rest after quiet whole = omega arith
short comma b rest after quiet whole = omega arith
short question b rest after quiet whole = omega arith
short tilde b rest after quiet whole = omega arith
short bang b rest after quiet whole = omega arith
short (arithmetic numbers.Add) b rest after quiet whole = omega arith
short (arithmetic numbers.Subtract) b rest after quiet whole = omega arith
short (arithmetic numbers.And) b rest after quiet whole = omega arith
short (arithmetic numbers.Or) b rest after quiet whole = omega arith
short (arithmetic numbers.Xor) b rest after quiet whole = omega arith
short (shifting Left) b rest after quiet whole = absurd (grown 60 b rest after 60 refl whole quiet)
short (shifting Right) b rest after quiet whole = absurd (grown 62 b rest after 62 refl whole quiet)
short (comparing Equal) b rest after quiet whole = absurd (grown 61 b rest after 61 refl whole quiet)
short (comparing NotEqual) b rest after quiet whole = absurd (grown 61 b rest after 33 refl whole quiet)
short (comparing Less) b rest after quiet whole = omega arith
short (comparing LessEqual) b rest after quiet whole = absurd (grown 61 b rest after 60 refl whole quiet)
short (comparing Greater) b rest after quiet whole = omega arith
short (comparing GreaterEqual) b rest after quiet whole = absurd (grown 61 b rest after 62 refl whole quiet)
short (joining truths.And) b rest after quiet whole = absurd (grown 38 b rest after 38 refl whole quiet)
short (joining truths.Or) b rest after quiet whole = absurd (grown 124 b rest after 124 refl whole quiet)

pub two_bytes : (s : Sign) → length (sign_text s) ≤ 2
two_bytes open_parenthesis = omega arith
two_bytes close_parenthesis = omega arith
two_bytes open_brace = omega arith
two_bytes close_brace = omega arith
two_bytes colon = omega arith
two_bytes semicolon = omega arith
two_bytes comma = omega arith
two_bytes question = omega arith
two_bytes tilde = omega arith
two_bytes bang = omega arith
two_bytes (arithmetic numbers.Add) = omega arith
two_bytes (arithmetic numbers.Subtract) = omega arith
two_bytes (arithmetic numbers.And) = omega arith
two_bytes (arithmetic numbers.Or) = omega arith
two_bytes (arithmetic numbers.Xor) = omega arith
two_bytes (shifting Left) = omega arith
two_bytes (shifting Right) = omega arith
two_bytes (comparing Equal) = omega arith
two_bytes (comparing NotEqual) = omega arith
two_bytes (comparing Less) = omega arith
two_bytes (comparing LessEqual) = omega arith
two_bytes (comparing Greater) = omega arith
two_bytes (comparing GreaterEqual) = omega arith
two_bytes (joining truths.And) = omega arith
two_bytes (joining truths.Or) = omega arith

-- in front of a quiet text each sign is the longest
pub longest : (s : Sign) (rest : List ℕ) → Quiet rest → IsLongestSign s rest
longest open_parenthesis rest quiet longer after whole = short longer 40 rest after quiet whole
longest close_parenthesis rest quiet longer after whole = short longer 41 rest after quiet whole
longest open_brace rest quiet longer after whole = short longer 123 rest after quiet whole
longest close_brace rest quiet longer after whole = short longer 125 rest after quiet whole
longest colon rest quiet longer after whole = short longer 58 rest after quiet whole
longest semicolon rest quiet longer after whole = short longer 59 rest after quiet whole
longest comma rest quiet longer after whole = short longer 44 rest after quiet whole
longest question rest quiet longer after whole = short longer 63 rest after quiet whole
longest tilde rest quiet longer after whole = short longer 126 rest after quiet whole
longest bang rest quiet longer after whole = short longer 33 rest after quiet whole
longest (arithmetic numbers.Add) rest quiet longer after whole = short longer 43 rest after quiet whole
longest (arithmetic numbers.Subtract) rest quiet longer after whole = short longer 45 rest after quiet whole
longest (arithmetic numbers.And) rest quiet longer after whole = short longer 38 rest after quiet whole
longest (arithmetic numbers.Or) rest quiet longer after whole = short longer 124 rest after quiet whole
longest (arithmetic numbers.Xor) rest quiet longer after whole = short longer 94 rest after quiet whole
longest (shifting Left) rest quiet longer after whole = two_bytes longer
longest (shifting Right) rest quiet longer after whole = two_bytes longer
longest (comparing Equal) rest quiet longer after whole = two_bytes longer
longest (comparing NotEqual) rest quiet longer after whole = two_bytes longer
longest (comparing Less) rest quiet longer after whole = short longer 60 rest after quiet whole
longest (comparing LessEqual) rest quiet longer after whole = two_bytes longer
longest (comparing Greater) rest quiet longer after whole = short longer 62 rest after quiet whole
longest (comparing GreaterEqual) rest quiet longer after whole = two_bytes longer
longest (joining truths.And) rest quiet longer after whole = two_bytes longer
longest (joining truths.Or) rest quiet longer after whole = two_bytes longer

pub sign_then : {d : DesignTree} (s : Sign) {rest : List ℕ} {us : List Token} → AreTokens d rest us → Quiet rest →
    AreTokens d (sign_text s ++ rest) (sign s ∷ us)
sign_then s {rest = rest} are quiet =
    token
    (record { bytes = sign_text s; small = lit< tt; spelled = refl; ends = longest s rest quiet; whole = refl }) are

pub word_then : {d : DesignTree} (w : Word) {rest : List ℕ} {us : List Token} → AreTokens d rest us →
    BeginsNoWord rest → AreTokens d (word_text w ++ rest) (word w ∷ us)
word_then w are ends =
    token (record { bytes = word_text w; small = lit< tt; spelled = refl; ends = ends; whole = refl }) are

pub label_then : {d : DesignTree} (k : ℕ) {rest : List ℕ} {us : List Token} → k < 2 ^ 64 → AreTokens d rest us →
    BeginsNoWord rest → AreTokens d (codes "L" ++ decimal k ++ rest) (label k ∷ us)
label_then k small are ends =
    token (record { bytes = codes "L" ++ decimal k; small = small; spelled = refl; ends = ends; whole = refl }) are

pub constant_then : {d : DesignTree} (n : ℕ) {rest : List ℕ} {us : List Token} → n < 2 ^ 64 → AreTokens d rest us →
    BeginsNoWord rest → AreTokens d (constant_text n ++ rest) (constant n ∷ us)
constant_then n small are ends =
    token (record { bytes = constant_text n; small = small; spelled = refl; ends = ends; whole = refl }) are

pub space_then : {d : DesignTree} {rest : List ℕ} {us : List Token} → AreTokens d rest us → AreTokens d (32 ∷ rest) us
space_then are = blank refl are

-- other bytes and other tokens that are the same
pub same_as : {d : DesignTree} {text other : List ℕ} {ts us : List Token} → other ≡ text → us ≡ ts →
    AreTokens d text ts → AreTokens d other us
same_as {d} {text} {other} {ts} {us} bytes tokens are =
    subst (λ (x : List ℕ). AreTokens d x us) (sym bytes) (subst (AreTokens d text) (sym tokens) are)

-- the item of a number below the length
item_at : {A : Type 0} (xs : List A) (k : ℕ) → k < length xs → (x : A) × (slice_get xs k ≡ Some x)
item_at {A} xs k within = of (slice_get_cases xs k).1
  where
    of : ((x : A) × (k < length xs) × (slice_get xs k ≡ Some x) × (get_or xs k x ≡ x))
        ⊎ ((length xs ≤ k) × (slice_get xs k ≡ None)) → (x : A) × (slice_get xs k ≡ Some x)
    of (inl found) = (found.0, found.2)
    of (inr past) = absurd (omega (arith, past.0))

-- an item's name, and that it is quiet
pub record IsNamed (name spelling : List ℕ) (text : Option (List ℕ)) : Type 0 where
  pub spelled : text ≡ Some name
  pub same : name ≡ spelling

pub variable_named : (d : DesignTree) (k : ℕ) → k < length d.vars →
    (path : List ℕ) × IsNamed (variable_name d k) (item_name 118 k path) (token_text d (variable k))
variable_named d k within =
    let found = item_at d.vars k within in
    let name : Var → List ℕ = λ v. item_name 118 k v.path in (
      found.0.path,
      record {
        spelled = ap (option_map name) found.1 ∙ sym (ap (λ (o : Option Var). Some (option_map_or name o [])) found.1);
        same = ap (λ (o : Option Var). option_map_or name o []) found.1;
      },
    )

pub location_named : (d : DesignTree) (k : ℕ) → k < length d.processes →
    (path : List ℕ) × IsNamed (location_name d k) (item_name 112 k path) (token_text d (location k))
location_named d k within =
    let found = item_at d.processes k within in
    let name : Item → List ℕ = λ p. item_name 112 k p.path in (
      found.0.path,
      record {
        spelled = ap (option_map name) found.1 ∙ sym (ap (λ (o : Option Item). Some (option_map_or name o [])) found.1);
        same = ap (λ (o : Option Item). option_map_or name o []) found.1;
      },
    )

pub task_named : (d : DesignTree) (k : ℕ) → k < length d.tasks →
    (path : List ℕ) × IsNamed (task_name d k) (item_name 116 k path) (token_text d (task k))
task_named d k within =
    let found = item_at d.tasks k within in
    let name : Item → List ℕ = λ t. item_name 116 k t.path in (
      found.0.path,
      record {
        spelled = ap (option_map name) found.1 ∙ sym (ap (λ (o : Option Item). Some (option_map_or name o [])) found.1);
        same = ap (λ (o : Option Item). option_map_or name o []) found.1;
      },
    )

pub variable_then : {d : DesignTree} (k : ℕ) {rest : List ℕ} {us : List Token} → k < length d.vars → k < 2 ^ 64 →
    AreTokens d rest us → BeginsNoWord rest → AreTokens d (variable_name d k ++ rest) (variable k ∷ us)
variable_then {d = d} k within small are ends =
    token (record {
      bytes = variable_name d k;
      small = small;
      spelled = (variable_named d k within).1.spelled;
      ends = ends;
      whole = refl;
    }) are

pub location_then : {d : DesignTree} (k : ℕ) {rest : List ℕ} {us : List Token} → k < length d.processes → k < 2 ^ 64 →
    AreTokens d rest us → BeginsNoWord rest → AreTokens d (location_name d k ++ rest) (location k ∷ us)
location_then {d = d} k within small are ends =
    token (record {
      bytes = location_name d k;
      small = small;
      spelled = (location_named d k within).1.spelled;
      ends = ends;
      whole = refl;
    }) are

pub task_then : {d : DesignTree} (k : ℕ) {rest : List ℕ} {us : List Token} → k < length d.tasks → k < 2 ^ 64 →
    AreTokens d rest us → BeginsNoWord rest → AreTokens d (task_name d k ++ rest) (task k ∷ us)
task_then {d = d} k within small are ends =
    token (record {
      bytes = task_name d k;
      small = small;
      spelled = (task_named d k within).1.spelled;
      ends = ends;
      whole = refl;
    }) are

-- a name begins with its letter, which is quiet
pub variable_quiet : (d : DesignTree) (k : ℕ) (rest : List ℕ) → k < length d.vars → Quiet (variable_name d k ++ rest)
variable_quiet d k rest within =
    subst (λ (w : List ℕ). Quiet (w ++ rest)) (sym (variable_named d k within).1.same) refl

pub location_quiet : (d : DesignTree) (k : ℕ) (rest : List ℕ) → k < length d.processes →
    Quiet (location_name d k ++ rest)
location_quiet d k rest within =
    subst (λ (w : List ℕ). Quiet (w ++ rest)) (sym (location_named d k within).1.same) refl

unequal : (b n : ℕ) → (b ≡ n → ⊥) → (b == n) ≡ false
unequal b n differ = of (b == n) refl
  where
    of : (v : Bool) → (b == n) ≡ v → (b == n) ≡ false
    of true is = absurd (differ ((Decides-eqb b n).0 is))
    of false is = is

digit_quiet : (b : ℕ) → 48 ≤ b → b ≤ 57 → is_growth b ≡ false
digit_quiet b low high =
    ap (λ (v : Bool). v || b == 60 || b == 61 || b == 62 || b == 124) (unequal b 38 (λ is. omega arith))
    ∙ ap (λ (v : Bool). v || b == 61 || b == 62 || b == 124) (unequal b 60 (λ is. omega arith))
    ∙ ap (λ (v : Bool). v || b == 62 || b == 124) (unequal b 61 (λ is. omega arith))
    ∙ ap (λ (v : Bool). v || b == 124) (unequal b 62 (λ is. omega arith))
    ∙ unequal b 124 (λ is. omega arith)

digits_quiet : (ds rest : List ℕ) → 0 < length ds → AllDigits 10 ds → Quiet (ds ++ rest)
digits_quiet [] rest some digits = absurd (omega arith)
digits_quiet (c ∷ cs) rest some digits =
    let within = digit_from_value c digits.0 in digit_quiet c within.0 within.1

-- a constant begins with a digit, which is quiet
pub constant_quiet : (n : ℕ) (rest : List ℕ) → n < 2 ^ 64 → Quiet (constant_text n ++ rest)
constant_quiet n rest small =
    let is = decimal_is_IsNumeral n small in
    subst Quiet (sym (append_assoc (decimal n) (codes "ULL") rest))
    (digits_quiet (decimal n) (codes "ULL" ++ rest) is.0.0 is.0.1)
