-- Texts that both sorts of drivers have: what is a text of the C with jumps, without `goto` and labels, is one of the
-- structured C, in front of anything that it breaks from.
use Rattle.std.proofs.Common.{◌≡◌, ℕ, ◌+◌, ◌<◌, ◌≤◌, List, [], ◌∷◌, ◌++◌, length, All, refl, sym, ap, subst, ◌∙◌, append_assoc, arith}
use Rattle.std.proofs.lemmas.List.{append-nil}
use Rattle.std.specs.List.{flat_map}
use Rattle.tm_syntax.specs.Design.{DesignTree}
use Rattle.tm_base.specs.declared.shift_operator.ShiftOperator.TheVariants.{Left, Right}
use Rattle.tm_cir.specs.declared.block.NumOperator.TheVariants as numbers
use Rattle.tm_cir.specs.declared.block.Comparison.TheVariants.{Equal, NotEqual, Less, LessEqual, Greater, GreaterEqual}
use Rattle.tm_cir.specs.declared.block.Junction.TheVariants as truths
use Rattle.tm_cir.specs.Tree.{NumTree, var, goal, last, complement, binary, shift, conditional, TruthTree, num, negation, compare, join}
use Rattle.tm_cir.specs.Tree as trees
use Rattle.tm_cir.specs.Text.Token.{Word, void, driver_turn, if_word, else_word, goto, return_word, termite_leave, termite_goal, termite_last, Sign, open_parenthesis, close_parenthesis, open_brace, close_brace, colon, semicolon, comma, question, tilde, bang, arithmetic, shifting, comparing, joining, Token, word, label, variable, location, task, constant, sign}
use Rattle.tm_cir.specs.Text.Spelling.{sign_text, token_text, IsLongestSign, BeginsNoWord, EndsToken}
use Rattle.tm_cir.specs.Text.Spelling as c
use Rattle.tm_cir.specs.Text.Grammar.{num_tokens, truth_tokens, argument_tokens}
use Rattle.tm_cprint.specs.Layout.{truth_text, arguments_text}
use Rattle.tm_cprint.proofs.Printed.Pieces.{Quiet, longest, two_bytes}
use Rattle.tm_cprint.proofs.Printed.Expressions.{IsCounted, Breaks, FitsNumIn, FitsTruthIn, truth_prints}
use Rattle.tm_cprint.proofs.Printed.Blocks.{arguments_print}
use Rattle.tm_struct.specs.Text.Spelling.{spelling, AreTokens, no_more, blank, token}

-- a token that both sorts of texts have
abbrev pub IsCommon : Token → Type 0
IsCommon (word goto) = ⊥
IsCommon (label k) = ⊥
IsCommon t = Unit {0}

abbrev pub AreCommon : List Token → Type 0
AreCommon [] = Unit {0}
AreCommon (t ∷ ts) = IsCommon t × AreCommon ts

-- both spell it alike
pub same_spelling : (d : DesignTree) (t : Token) → IsCommon t → spelling d t ≡ token_text d t
same_spelling d (word void) common = refl
same_spelling d (word driver_turn) common = refl
same_spelling d (word if_word) common = refl
same_spelling d (word else_word) common = refl
same_spelling d (word goto) common = absurd common
same_spelling d (word return_word) common = refl
same_spelling d (word termite_leave) common = refl
same_spelling d (word termite_goal) common = refl
same_spelling d (word termite_last) common = refl
same_spelling d (label k) common = absurd common
same_spelling d (variable k) common = refl
same_spelling d (location k) common = refl
same_spelling d (task k) common = refl
same_spelling d (constant n) common = refl
same_spelling d (sign s) common = refl

some_byte : (s : Sign) → 0 < length (sign_text s)
some_byte open_parenthesis = omega arith
some_byte close_parenthesis = omega arith
some_byte open_brace = omega arith
some_byte close_brace = omega arith
some_byte colon = omega arith
some_byte semicolon = omega arith
some_byte comma = omega arith
some_byte question = omega arith
some_byte tilde = omega arith
some_byte bang = omega arith
some_byte (arithmetic numbers.Add) = omega arith
some_byte (arithmetic numbers.Subtract) = omega arith
some_byte (arithmetic numbers.And) = omega arith
some_byte (arithmetic numbers.Or) = omega arith
some_byte (arithmetic numbers.Xor) = omega arith
some_byte (shifting Left) = omega arith
some_byte (shifting Right) = omega arith
some_byte (comparing Equal) = omega arith
some_byte (comparing NotEqual) = omega arith
some_byte (comparing Less) = omega arith
some_byte (comparing LessEqual) = omega arith
some_byte (comparing Greater) = omega arith
some_byte (comparing GreaterEqual) = omega arith
some_byte (joining truths.And) = omega arith
some_byte (joining truths.Or) = omega arith

-- whether a sign is the longest one is told by the byte behind it
longest_of : (xs ys : List ℕ) (b : ℕ) (behind others after : List ℕ) → 0 < length xs → length ys ≤ 2 →
    xs ++ b ∷ others ≡ ys ++ after →
    ((more : List ℕ) → xs ++ b ∷ behind ≡ ys ++ more → length ys ≤ length xs) → length ys ≤ length xs
longest_of [] ys b behind others after some few whole longest = absurd (omega arith)
longest_of (x ∷ xs) [] b behind others after some few whole longest = omega arith
longest_of (x ∷ xs) (y ∷ []) b behind others after some few whole longest = omega arith
longest_of (x ∷ []) (y ∷ z ∷ []) b behind others after some few whole longest =
    let first : x ≡ y = cc in
    let second : b ≡ z = cc in
    longest behind (cc)
longest_of (x ∷ w ∷ xs) (y ∷ z ∷ ys) b behind others after some few whole longest = omega arith
longest_of (x ∷ []) (y ∷ z ∷ v ∷ ys) b behind others after some few whole longest = absurd (omega arith)

longest_there : (s : Sign) (b : ℕ) (behind others : List ℕ) → IsLongestSign s (b ∷ behind) →
    IsLongestSign s (b ∷ others)
longest_there s b behind others longest longer after whole =
    longest_of (sign_text s) (sign_text longer) b behind others after (some_byte s) (two_bytes longer) whole
    (λ more is. longest longer more is)

no_word_there : (behind rest : List ℕ) → BeginsNoWord behind → BeginsNoWord rest → BeginsNoWord (behind ++ rest)
no_word_there [] rest ends breaks = breaks
no_word_there (b ∷ bs) rest ends breaks = ends

-- a token that ends in front of a text ends there with more behind it
ends_there : (t : Token) (behind rest : List ℕ) → EndsToken t behind → Breaks rest → EndsToken t (behind ++ rest)
ends_there (word w) behind rest ends breaks = no_word_there behind rest ends breaks.word
ends_there (label k) behind rest ends breaks = no_word_there behind rest ends breaks.word
ends_there (variable k) behind rest ends breaks = no_word_there behind rest ends breaks.word
ends_there (location k) behind rest ends breaks = no_word_there behind rest ends breaks.word
ends_there (task k) behind rest ends breaks = no_word_there behind rest ends breaks.word
ends_there (constant n) behind rest ends breaks = no_word_there behind rest ends breaks.word
ends_there (sign s) [] rest ends breaks = longest s rest breaks.quiet
ends_there (sign s) (b ∷ behind) rest ends breaks = longest_there s b behind (behind ++ rest) ends

-- common tokens in front of a structured text
pub carried : (d : DesignTree) {text : List ℕ} {ts : List Token} → c.AreTokens d text ts → AreCommon ts →
    (rest : List ℕ) (us : List Token) → AreTokens d rest us → Breaks rest → AreTokens d (text ++ rest) (ts ++ us)
carried d c.no_more common rest us are breaks = are
carried d (c.blank is more) common rest us are breaks = blank is (carried d more common rest us are breaks)
carried d (c.token {t = t} {rest = behind} begins more) common rest us are breaks =
    token
    (record {
      bytes = begins.bytes;
      small = begins.small;
      spelled = same_spelling d t common.0 ∙ begins.spelled;
      ends = ends_there t behind rest begins.ends breaks;
      whole = ap (λ (x : List ℕ). x ++ rest) begins.whole ∙ append_assoc begins.bytes behind rest;
    }) (carried d more common.1 rest us are breaks)

common_append : (xs ys : List Token) → AreCommon xs → AreCommon ys → AreCommon (xs ++ ys)
common_append [] ys left right = right
common_append (x ∷ xs) ys left right = (left.0, common_append xs ys left.1 right)

between_common : (xs ys : List Token) (s e : Sign) → AreCommon xs → AreCommon ys →
    AreCommon ((xs ++ sign s ∷ ys) ++ sign e ∷ [])
between_common xs ys s e left right =
    common_append (xs ++ sign s ∷ ys) (sign e ∷ []) (common_append xs (sign s ∷ ys) left (tt, right)) (tt, tt)

mutual
  num_common : (a : NumTree) → AreCommon (num_tokens a)
  num_common (trees.constant n) = (tt, tt)
  num_common (var k) = (tt, tt)
  num_common (trees.location p) = (tt, tt)
  num_common goal = (tt, tt)
  num_common last = (tt, tt)
  num_common (complement a) =
      (tt, (tt, common_append (num_tokens a) (sign close_parenthesis ∷ []) (num_common a) (tt, tt)))
  num_common (binary op a b) = (
    tt,
    between_common (num_tokens a) (num_tokens b) (arithmetic op) close_parenthesis (num_common a) (num_common b),
  )
  num_common (shift op a by) =
      (tt, between_common (num_tokens a) (constant by ∷ []) (shifting op) close_parenthesis (num_common a) (tt, tt))
  num_common (conditional t a b) =
      let test = common_append (truth_tokens t) (sign question ∷ num_tokens a) (truth_common t) (tt, num_common a) in
      let both = common_append (truth_tokens t ++ sign question ∷ num_tokens a) (sign colon ∷ num_tokens b) test
      (tt, num_common b) in (
        tt,
        common_append ((truth_tokens t ++ sign question ∷ num_tokens a) ++ sign colon ∷ num_tokens b)
            (sign close_parenthesis ∷ []) both (tt, tt),
      )

  pub truth_common : (t : TruthTree) → AreCommon (truth_tokens t)
  truth_common (num a) = num_common a
  truth_common (negation t) =
      (tt, (tt, common_append (truth_tokens t) (sign close_parenthesis ∷ []) (truth_common t) (tt, tt)))
  truth_common (compare op a b) = (
    tt,
    between_common (num_tokens a) (num_tokens b) (comparing op) close_parenthesis (num_common a) (num_common b),
  )
  truth_common (join op t u) = (
    tt,
    between_common (truth_tokens t) (truth_tokens u) (joining op) close_parenthesis (truth_common t)
        (truth_common u),
  )

more_common : (xs : List NumTree) → AreCommon (flat_map (λ b. sign comma ∷ num_tokens b) xs)
more_common [] = tt
more_common (x ∷ xs) =
    common_append (sign comma ∷ num_tokens x) (flat_map (λ b. sign comma ∷ num_tokens b) xs) (tt, num_common x)
    (more_common xs)

arguments_common : (xs : List NumTree) → AreCommon (argument_tokens xs)
arguments_common [] = tt
arguments_common (x ∷ xs) =
    common_append (num_tokens x) (flat_map (λ b. sign comma ∷ num_tokens b) xs) (num_common x) (more_common xs)

-- a text and its tokens, without the empty ones behind them
with_nothing : (d : DesignTree) (text rest : List ℕ) (ts us : List Token) →
    AreTokens d ((text ++ []) ++ rest) ((ts ++ []) ++ us) → AreTokens d (text ++ rest) (ts ++ us)
with_nothing d text rest ts us are =
    subst (λ (x : List ℕ). AreTokens d (x ++ rest) (ts ++ us)) (append-nil text)
    (subst (λ (x : List Token). AreTokens d ((text ++ []) ++ rest) (x ++ us)) (append-nil ts) are)

-- the text of a truth value is its tokens
pub truth_there : (d : DesignTree) → IsCounted d → (t : TruthTree) → FitsTruthIn d t →
    (rest : List ℕ) (us : List Token) → AreTokens d rest us → Breaks rest →
    AreTokens d (truth_text d t ++ rest) (truth_tokens t ++ us)
truth_there d counted t fits rest us are breaks =
    with_nothing d (truth_text d t) rest (truth_tokens t) us
    (carried d (truth_prints d counted t fits [] [] c.no_more (record { word = tt; quiet = refl }))
    (common_append (truth_tokens t) [] (truth_common t) tt) rest us are breaks)

-- the text of arguments is their tokens
pub arguments_there : (d : DesignTree) → IsCounted d → (xs : List NumTree) → All (FitsNumIn d) xs →
    (rest : List ℕ) (us : List Token) → AreTokens d rest us → Breaks rest →
    AreTokens d (arguments_text d xs ++ rest) (argument_tokens xs ++ us)
arguments_there d counted xs fits rest us are breaks =
    with_nothing d (arguments_text d xs) rest (argument_tokens xs) us
    (carried d (arguments_print d counted xs fits [] [] c.no_more (record { word = tt; quiet = refl }))
    (common_append (argument_tokens xs) [] (arguments_common xs) tt) rest us are breaks)
