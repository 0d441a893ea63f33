-- The text of an expression is its tokens, whatever stands behind it that continues neither a word nor a sign.
use Rattle.std.proofs.Common.{◌≡◌, ℕ, ◌^◌, ◌<◌, List, [], ◌∷◌, ◌++◌, length, codes, refl, ap, append_assoc, arith}
use Rattle.tm_syntax.specs.Design.{DesignTree}
use Rattle.tm_cir.specs.Tree.{NumTree, var, goal, last, complement, binary, shift, conditional, TruthTree, num, negation, compare, join}
use Rattle.tm_cir.specs.Tree as trees
use Rattle.tm_cir.specs.Fit.{FitsNum, FitsTruth}
use Rattle.tm_cir.specs.Text.Token.{Sign, open_parenthesis, close_parenthesis, colon, question, tilde, bang, arithmetic, shifting, comparing, joining, Token, constant, sign, termite_goal, termite_last}
use Rattle.tm_cir.specs.Text.Grammar.{parenthesized, num_tokens, truth_tokens}
use Rattle.tm_cir.specs.Text.Spelling.{sign_text, BeginsNoWord, AreTokens}
use Rattle.tm_cprint.specs.Layout.{constant_text, between, num_text, truth_text}
use Rattle.tm_cprint.proofs.Printed.Pieces.{Quiet, same_as, sign_then, word_then, constant_then, variable_then, location_then, space_then, variable_quiet, location_quiet, constant_quiet}

-- a design whose numbers of items have at most 64 bits
pub record IsCounted (d : DesignTree) : Type 0 where
  pub vars : length d.vars < 2 ^ 64
  pub processes : length d.processes < 2 ^ 64
  pub tasks : length d.tasks < 2 ^ 64

-- what stands in front continues neither a word nor a sign
pub record Breaks (rest : List ℕ) : Type 0 where
  pub word : BeginsNoWord rest
  pub quiet : Quiet rest

-- a text is these tokens, in front of any that it breaks from
abbrev pub Prints : DesignTree → List ℕ → List Token → Type 0
Prints d text ts =
    (rest : List ℕ) (us : List Token) → AreTokens d rest us → Breaks rest → AreTokens d (text ++ rest) (ts ++ us)

-- a text that stands quietly behind a sign
abbrev pub IsQuiet : List ℕ → Type 0
IsQuiet text = (rest : List ℕ) → Quiet (text ++ rest)

abbrev pub FitsNumIn : DesignTree → NumTree → Type 0
FitsNumIn d a = FitsNum (length d.vars) (length d.processes) a

abbrev pub FitsTruthIn : DesignTree → TruthTree → Type 0
FitsTruthIn d t = FitsTruth (length d.vars) (length d.processes) t

between_text : (a s b rest : List ℕ) →
    between a s b ++ rest ≡ 40 ∷ (a ++ (32 ∷ (s ++ (32 ∷ (b ++ (41 ∷ rest))))))
between_text a s b rest = simp append_assoc

between_tokens : (xs ys us : List Token) (s : Token) →
    parenthesized (xs ++ s ∷ ys) ++ us
    ≡ sign open_parenthesis ∷ (xs ++ (s ∷ (ys ++ (sign close_parenthesis ∷ us))))
between_tokens xs ys us s = simp append_assoc

-- two operands with a sign between them
between_prints : (d : DesignTree) (a b : List ℕ) (xs ys : List Token) (s : Sign) → Prints d a xs → IsQuiet a →
    Prints d b ys → Prints d (between a (sign_text s) b) (parenthesized (xs ++ sign s ∷ ys))
between_prints d a b xs ys s first quiet second rest us are breaks =
    let closed : AreTokens d (41 ∷ rest) (sign close_parenthesis ∷ us) =
    sign_then close_parenthesis are breaks.quiet in
    let right : AreTokens d (32 ∷ (b ++ 41 ∷ rest)) (ys ++ sign close_parenthesis ∷ us) =
    space_then (second _ _ closed (record { word = refl; quiet = refl })) in
    let both : AreTokens d (32 ∷ (sign_text s ++ (32 ∷ (b ++ 41 ∷ rest))))
    (sign s ∷ (ys ++ sign close_parenthesis ∷ us)) =
    space_then (sign_then s right refl) in
    same_as (between_text a (sign_text s) b rest) (between_tokens xs ys us (sign s))
    (sign_then open_parenthesis (first _ _ both (record { word = refl; quiet = refl })) (quiet _))

-- an operand with a sign in front of it
before_prints : (d : DesignTree) (a : List ℕ) (xs : List Token) (s : Sign) → Prints d a xs → IsQuiet a →
    IsQuiet (sign_text s) → (rest : List ℕ) (us : List Token) → AreTokens d rest us → Breaks rest →
    AreTokens d (40 ∷ (sign_text s ++ ((a ++ 41 ∷ []) ++ rest)))
    (sign open_parenthesis ∷ sign s ∷ ((xs ++ sign close_parenthesis ∷ []) ++ us))
before_prints d a xs s operand quiet calm rest us are breaks =
    let closed : AreTokens d (41 ∷ rest) (sign close_parenthesis ∷ us) =
    sign_then close_parenthesis are breaks.quiet in
    let inner : AreTokens d (a ++ 41 ∷ rest) (xs ++ sign close_parenthesis ∷ us) =
    operand _ _ closed (record { word = refl; quiet = refl }) in
    same_as (ap (λ (text : List ℕ). 40 ∷ (sign_text s ++ text)) (append_assoc a (41 ∷ []) rest))
    (ap (λ (ts : List Token). sign open_parenthesis ∷ sign s ∷ ts) (append_assoc xs (sign close_parenthesis ∷ []) us))
    (sign_then open_parenthesis (sign_then s inner (quiet _)) (calm _))

-- a choice of two numbers
choice_text : (t a b rest : List ℕ) →
    (codes "(" ++ t ++ codes " ? " ++ a ++ codes " : " ++ b ++ codes ")") ++ rest
    ≡ 40 ∷ (t ++ (32 ∷ 63 ∷ 32 ∷ (a ++ (32 ∷ 58 ∷ 32 ∷ (b ++ (41 ∷ rest))))))
choice_text t a b rest = simp append_assoc

choice_tokens : (xs ys zs us : List Token) →
    parenthesized (xs ++ sign question ∷ ys ++ sign colon ∷ zs) ++ us
    ≡ sign open_parenthesis
    ∷ (xs ++ (sign question ∷ (ys ++ (sign colon ∷ (zs ++ (sign close_parenthesis ∷ us))))))
choice_tokens xs ys zs us = simp append_assoc

choice_prints : (d : DesignTree) (t a b : List ℕ) (xs ys zs : List Token) → Prints d t xs → IsQuiet t →
    Prints d a ys → Prints d b zs →
    Prints d (codes "(" ++ t ++ codes " ? " ++ a ++ codes " : " ++ b ++ codes ")")
    (parenthesized (xs ++ sign question ∷ ys ++ sign colon ∷ zs))
choice_prints d t a b xs ys zs truth quiet first second rest us are breaks =
    let break : (text : List ℕ) → Breaks (32 ∷ text) = λ text. record { word = refl; quiet = refl } in
    let closed : AreTokens d (41 ∷ rest) (sign close_parenthesis ∷ us) =
    sign_then close_parenthesis are breaks.quiet in
    let right : AreTokens d (32 ∷ 58 ∷ 32 ∷ (b ++ 41 ∷ rest)) (sign colon ∷ (zs ++ sign close_parenthesis ∷ us)) =
    space_then (sign_then colon (space_then (second _ _ closed (record { word = refl; quiet = refl }))) refl) in
    let left : AreTokens d (32 ∷ 63 ∷ 32 ∷ (a ++ (32 ∷ 58 ∷ 32 ∷ (b ++ 41 ∷ rest))))
    (sign question ∷ (ys ++ (sign colon ∷ (zs ++ sign close_parenthesis ∷ us)))) =
    space_then (sign_then question (space_then (first _ _ right (break _))) refl) in
    same_as (choice_text t a b rest) (choice_tokens xs ys zs us)
    (sign_then open_parenthesis (truth _ _ left (break _)) (quiet _))

-- the first byte of an expression
pub num_quiet : (d : DesignTree) → (a : NumTree) → FitsNumIn d a → IsQuiet (num_text d a)
num_quiet d (trees.constant n) fits rest = constant_quiet n rest fits
num_quiet d (var k) fits rest = variable_quiet d k rest fits
num_quiet d (trees.location p) fits rest = location_quiet d p rest fits
num_quiet d goal fits rest = refl
num_quiet d last fits rest = refl
num_quiet d (complement a) fits rest = refl
num_quiet d (binary op a b) fits rest = refl
num_quiet d (shift op a by) fits rest = refl
num_quiet d (conditional t a b) fits rest = refl

pub truth_quiet : (d : DesignTree) (t : TruthTree) → FitsTruthIn d t → IsQuiet (truth_text d t)
truth_quiet d (num a) fits rest = num_quiet d a fits rest
truth_quiet d (negation t) fits rest = refl
truth_quiet d (compare op a b) fits rest = refl
truth_quiet d (join op t u) fits rest = refl

mutual
  -- the text of a number is its tokens
  pub num_prints : (d : DesignTree) → IsCounted d → (a : NumTree) → FitsNumIn d a →
      Prints d (num_text d a) (num_tokens a)
  num_prints d counted (trees.constant n) fits rest us are breaks = constant_then n fits are breaks.word
  num_prints d counted (var k) fits rest us are breaks =
      let small : k < 2 ^ 64 = omega (arith, counted.vars) in variable_then k fits small are breaks.word
  num_prints d counted (trees.location p) fits rest us are breaks =
      let small : p < 2 ^ 64 = omega (arith, counted.processes) in location_then p fits small are breaks.word
  num_prints d counted goal fits rest us are breaks = word_then termite_goal are breaks.word
  num_prints d counted last fits rest us are breaks = word_then termite_last are breaks.word
  num_prints d counted (complement a) fits rest us are breaks =
      before_prints d (num_text d a) (num_tokens a) tilde (num_prints d counted a fits) (num_quiet d a fits)
      (λ text. refl) rest us are breaks
  num_prints d counted (binary op a b) fits rest us are breaks =
      between_prints d (num_text d a) (num_text d b) (num_tokens a) (num_tokens b) (arithmetic op)
      (num_prints d counted a fits.0) (num_quiet d a fits.0) (num_prints d counted b fits.1) rest us are breaks
  num_prints d counted (shift op a by) fits rest us are breaks =
      let small : by < 2 ^ 64 = omega (arith, fits.1) in
      between_prints d (num_text d a) (constant_text by) (num_tokens a) (constant by ∷ []) (shifting op)
      (num_prints d counted a fits.0) (num_quiet d a fits.0)
      (λ more vs come ends. constant_then by small come ends.word) rest us are breaks
  num_prints d counted (conditional t a b) fits rest us are breaks =
      choice_prints d (truth_text d t) (num_text d a) (num_text d b) (truth_tokens t) (num_tokens a) (num_tokens b)
      (truth_prints d counted t fits.0) (truth_quiet d t fits.0) (num_prints d counted a fits.1)
      (num_prints d counted b fits.2) rest us are breaks

  -- the text of a truth value is its tokens
  pub truth_prints : (d : DesignTree) → IsCounted d → (t : TruthTree) → FitsTruthIn d t →
      Prints d (truth_text d t) (truth_tokens t)
  truth_prints d counted (num a) fits rest us are breaks = num_prints d counted a fits rest us are breaks
  truth_prints d counted (negation t) fits rest us are breaks =
      before_prints d (truth_text d t) (truth_tokens t) bang (truth_prints d counted t fits) (truth_quiet d t fits)
      (λ text. refl) rest us are breaks
  truth_prints d counted (compare op a b) fits rest us are breaks =
      between_prints d (num_text d a) (num_text d b) (num_tokens a) (num_tokens b) (comparing op)
      (num_prints d counted a fits.0) (num_quiet d a fits.0) (num_prints d counted b fits.1) rest us are breaks
  truth_prints d counted (join op t u) fits rest us are breaks =
      between_prints d (truth_text d t) (truth_text d u) (truth_tokens t) (truth_tokens u) (joining op)
      (truth_prints d counted t fits.0) (truth_quiet d t fits.0) (truth_prints d counted u fits.1) rest us are breaks
