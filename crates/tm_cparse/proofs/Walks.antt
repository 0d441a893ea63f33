-- Tokens that are no labels, tasks or jumps do not change the place, and are right.
use Rattle.std.proofs.Common.{◌≡◌, ℕ, ◌+◌, Bool, true, false, List, [], ◌∷◌, ◌++◌, length, refl, sym, ap, ◌∙◌, subst, append_assoc, true≢false, arith}
use Rattle.std.specs.List.{flat_map}
use Rattle.tm_syntax.specs.Design.{DesignTree}
use Rattle.tm_cir.specs.Tree.{NumTree, var, goal, last, complement, binary, shift, conditional, TruthTree, num, negation, compare, join, BlockTree, test, call, leave, idle}
use Rattle.tm_cir.specs.Tree as trees
use Rattle.tm_cir.specs.Text.Token.{Token, word, label, variable, location, task, constant, sign, void, driver_turn, if_word, else_word, goto, return_word, termite_leave, termite_goal, termite_last, Sign, open_parenthesis, close_parenthesis, open_brace, close_brace, colon, semicolon, comma, question, tilde, bang, arithmetic, shifting, comparing, joining}
use Rattle.tm_cir.specs.Text.Grammar.{num_tokens, truth_tokens, argument_tokens}
use Rattle.tm_cparse.specs.declared.names.Before.{Before}
use Rattle.tm_cparse.specs.declared.names.Before.TheVariants.{Other}
use Rattle.tm_cparse.specs.declared.names.TokenPlace.{TokenPlace}
use Rattle.tm_cparse.specs.Inner.Names.{before_behind, place_behind, place_after, IsRight, AreRight, HaveArguments, is_comma, is_semicolon, comma_count}

abbrev close_mark : Token
close_mark = sign close_parenthesis

-- neither a label, a task, a jump, a leave, a comma nor a semicolon
abbrev pub is_inner : Token → Bool
is_inner (word goto) = false
is_inner (word termite_leave) = false
is_inner (label k) = false
is_inner (task k) = false
is_inner (sign comma) = false
is_inner (sign semicolon) = false
is_inner t = true

abbrev pub AreInner : List Token → Type 0
AreInner [] = Unit {0}
AreInner (t ∷ ts) = (is_inner t ≡ true) × AreInner ts

pub inner_behind : (xs ys : List Token) → AreInner xs → AreInner ys → AreInner (xs ++ ys)
inner_behind [] ys front behind = behind
inner_behind (x ∷ xs) ys front behind = (front.0, inner_behind xs ys front.1 behind)

closed : (ts : List Token) → AreInner ts → AreInner (ts ++ close_mark ∷ [])
closed ts inner = inner_behind ts (close_mark ∷ []) inner (refl, tt)

mutual
  -- the tokens of an expression
  pub inner_num : (a : NumTree) → AreInner (num_tokens a)
  inner_num (trees.constant n) = (refl, tt)
  inner_num (var k) = (refl, tt)
  inner_num (trees.location p) = (refl, tt)
  inner_num goal = (refl, tt)
  inner_num last = (refl, tt)
  inner_num (complement a) = (refl, (refl, closed (num_tokens a) (inner_num a)))
  inner_num (binary op a b) = (
    refl,
    closed _ (inner_behind (num_tokens a) (sign (arithmetic op) ∷ num_tokens b) (inner_num a) (
      refl,
      inner_num b,
    )),
  )
  inner_num (shift op a by) = (
    refl,
    closed _ (inner_behind (num_tokens a) (sign (shifting op) ∷ constant by ∷ []) (inner_num a) (
      refl,
      (refl, tt),
    )),
  )
  inner_num (conditional t a b) = (
    refl,
    closed _
        (inner_behind (truth_tokens t ++ sign question ∷ num_tokens a) (sign colon ∷ num_tokens b)
        (inner_behind (truth_tokens t) (sign question ∷ num_tokens a) (inner_truth t) (refl, inner_num a))
        (refl, inner_num b)),
  )

  pub inner_truth : (t : TruthTree) → AreInner (truth_tokens t)
  inner_truth (num n) = inner_num n
  inner_truth (negation t) = (refl, (refl, closed (truth_tokens t) (inner_truth t)))
  inner_truth (compare op a b) = (
    refl,
    closed _ (inner_behind (num_tokens a) (sign (comparing op) ∷ num_tokens b) (inner_num a) (
      refl,
      inner_num b,
    )),
  )
  inner_truth (join op t u) = (
    refl,
    closed _
        (inner_behind (truth_tokens t) (sign (joining op) ∷ truth_tokens u) (inner_truth t) (refl, inner_truth u)),
  )

-- the place behind so many labels, with nothing before it that tells what is named
abbrev pub outside : ℕ → TokenPlace
outside n = record { labels = n; before = Other }

-- such a token, or a comma or a semicolon
abbrev pub is_plain : Token → Bool
is_plain (sign s) = true
is_plain t = is_inner t

abbrev pub ArePlain : List Token → Type 0
ArePlain [] = Unit {0}
ArePlain (t ∷ ts) = (is_plain t ≡ true) × ArePlain ts

plain_of : (t : Token) → is_inner t ≡ true → is_plain t ≡ true
plain_of (word w) is = is
plain_of (label k) is = is
plain_of (variable k) is = is
plain_of (location k) is = is
plain_of (task k) is = is
plain_of (constant n) is = is
plain_of (sign s) is = refl

pub plain_inner : (ts : List Token) → AreInner ts → ArePlain ts
plain_inner [] inner = tt
plain_inner (t ∷ ts) inner = (plain_of t inner.0, plain_inner ts inner.1)

pub plain_behind : (xs ys : List Token) → ArePlain xs → ArePlain ys → ArePlain (xs ++ ys)
plain_behind [] ys front behind = behind
plain_behind (x ∷ xs) ys front behind = (front.0, plain_behind xs ys front.1 behind)

abbrev pub more_tokens : List NumTree → List Token
more_tokens args = flat_map (λ b. sign comma ∷ num_tokens b) args

plain_more : (args : List NumTree) → ArePlain (more_tokens args)
plain_more [] = tt
plain_more (a ∷ args) =
    plain_behind (sign comma ∷ num_tokens a) (more_tokens args) (refl, plain_inner (num_tokens a) (inner_num a))
    (plain_more args)

-- the arguments of a call
pub plain_arguments : (args : List NumTree) → ArePlain (argument_tokens args)
plain_arguments [] = tt
plain_arguments (a ∷ args) =
    plain_behind (num_tokens a) (more_tokens args) (plain_inner (num_tokens a) (inner_num a)) (plain_more args)

word_before : (w : _) → is_inner (word w) ≡ true → before_behind Other (word w) ≡ Other
word_before goto is = absurd (true≢false (sym is))
word_before termite_leave is = absurd (true≢false (sym is))
word_before void is = refl
word_before driver_turn is = refl
word_before if_word is = refl
word_before else_word is = refl
word_before return_word is = refl
word_before termite_goal is = refl
word_before termite_last is = refl

sign_before : (s : Sign) → before_behind Other (sign s) ≡ Other
sign_before open_parenthesis = refl
sign_before close_parenthesis = refl
sign_before open_brace = refl
sign_before close_brace = refl
sign_before colon = refl
sign_before semicolon = refl
sign_before comma = refl
sign_before question = refl
sign_before tilde = refl
sign_before bang = refl
sign_before (arithmetic op) = refl
sign_before (shifting op) = refl
sign_before (comparing op) = refl
sign_before (joining op) = refl

-- a plain token does not change the place
plain_place : (n : ℕ) (t : Token) → is_plain t ≡ true → place_behind (outside n) t ≡ outside n
plain_place n (word w) is = ap (λ (b : Before). record { labels = n; before = b }) (word_before w is)
plain_place n (label k) is = absurd (true≢false (sym is))
plain_place n (variable k) is = refl
plain_place n (location k) is = refl
plain_place n (task k) is = absurd (true≢false (sym is))
plain_place n (constant p) is = refl
plain_place n (sign s) is = ap (λ (b : Before). record { labels = n; before = b }) (sign_before s)

pub plain_places : (n : ℕ) (xs ys : List Token) → ArePlain xs →
    place_after (outside n) (xs ++ ys) ≡ place_after (outside n) ys
plain_places n [] ys plain = refl
plain_places n (x ∷ xs) ys plain =
    ap (λ (p : TokenPlace). place_after p (xs ++ ys)) (plain_place n x plain.0) ∙ plain_places n xs ys plain.1

plain_right : (d : DesignTree) (count n : ℕ) (t : Token) (others : List Token) → is_plain t ≡ true →
    IsRight d count (outside n) t others
plain_right d count n (word w) others is = tt
plain_right d count n (label k) others is = absurd (true≢false (sym is))
plain_right d count n (variable k) others is = tt
plain_right d count n (location k) others is = tt
plain_right d count n (task k) others is = absurd (true≢false (sym is))
plain_right d count n (constant p) others is = tt
plain_right d count n (sign s) others is = tt

-- what stands behind plain tokens is right where all is, and the other way round
pub right_behind : (d : DesignTree) (count n : ℕ) (xs ys : List Token) → ArePlain xs →
    AreRight d count (outside n) (xs ++ ys) → AreRight d count (outside n) ys
right_behind d count n [] ys plain right = right
right_behind d count n (x ∷ xs) ys plain right =
    right_behind d count n xs ys plain.1
    (subst (λ (p : TokenPlace). AreRight d count p (xs ++ ys)) (plain_place n x plain.0) right.1)

pub right_before : (d : DesignTree) (count n : ℕ) (xs ys : List Token) → ArePlain xs →
    AreRight d count (outside n) ys → AreRight d count (outside n) (xs ++ ys)
right_before d count n [] ys plain right = right
right_before d count n (x ∷ xs) ys plain right = (
  plain_right d count n x (xs ++ ys) plain.0,
  subst (λ (p : TokenPlace). AreRight d count p (xs ++ ys)) (sym (plain_place n x plain.0))
      (right_before d count n xs ys plain.1 right),
)

-- arguments stand behind each task
plain_has : (t : Token) (ts : List Token) → is_plain t ≡ true → HaveArguments ts → HaveArguments (t ∷ ts)
plain_has (word w) ts is have = have
plain_has (label k) ts is have = have
plain_has (variable k) ts is have = have
plain_has (location k) ts is have = have
plain_has (task k) ts is have = absurd (true≢false (sym is))
plain_has (constant p) ts is have = have
plain_has (sign s) ts is have = have

pub have_before : (xs ys : List Token) → ArePlain xs → HaveArguments ys → HaveArguments (xs ++ ys)
have_before [] ys plain have = have
have_before (x ∷ xs) ys plain have = plain_has x (xs ++ ys) plain.0 (have_before xs ys plain.1 have)

-- an expression has no comma and no semicolon
no_comma : (t : Token) → is_inner t ≡ true → (is_comma t ≡ false) × (is_semicolon t ≡ false)
no_comma (word w) is = (refl, refl)
no_comma (label k) is = (refl, refl)
no_comma (variable k) is = (refl, refl)
no_comma (location k) is = (refl, refl)
no_comma (task k) is = (refl, refl)
no_comma (constant n) is = (refl, refl)
no_comma (sign open_parenthesis) is = (refl, refl)
no_comma (sign close_parenthesis) is = (refl, refl)
no_comma (sign open_brace) is = (refl, refl)
no_comma (sign close_brace) is = (refl, refl)
no_comma (sign colon) is = (refl, refl)
no_comma (sign semicolon) is = absurd (true≢false (sym is))
no_comma (sign comma) is = absurd (true≢false (sym is))
no_comma (sign question) is = (refl, refl)
no_comma (sign tilde) is = (refl, refl)
no_comma (sign bang) is = (refl, refl)
no_comma (sign (arithmetic op)) is = (refl, refl)
no_comma (sign (shifting op)) is = (refl, refl)
no_comma (sign (comparing op)) is = (refl, refl)
no_comma (sign (joining op)) is = (refl, refl)

pub count_step : (t : Token) (ts : List Token) → is_comma t ≡ false → is_semicolon t ≡ false →
    comma_count (t ∷ ts) ≡ comma_count ts
count_step t ts no_comma_is no_semicolon_is = rw (no_comma_is, no_semicolon_is) refl

pub count_behind : (xs ys : List Token) → AreInner xs → comma_count (xs ++ ys) ≡ comma_count ys
count_behind [] ys inner = refl
count_behind (x ∷ xs) ys inner =
    let no = no_comma x inner.0 in count_step x (xs ++ ys) no.0 no.1 ∙ count_behind xs ys inner.1

count_more : (args : List NumTree) (rest : List Token) →
    comma_count (more_tokens args ++ close_mark ∷ sign semicolon ∷ rest) ≡ length args
count_more [] rest = refl
count_more (a ∷ args) rest =
    let end : List Token = close_mark ∷ sign semicolon ∷ rest in
    ap (λ (l : List Token). 1 + comma_count l) (append_assoc (num_tokens a) (more_tokens args) end)
    ∙ ap (λ (n : ℕ). 1 + n) (count_behind (num_tokens a) (more_tokens args ++ end) (inner_num a))
    ∙ ap (λ (n : ℕ). 1 + n) (count_more args rest)
    ∙ omega arith

-- the arguments of a call are one more than the commas before its semicolon
pub count_arguments : (a : NumTree) (args : List NumTree) (rest : List Token) →
    comma_count ((argument_tokens (a ∷ args) ++ close_mark ∷ []) ++ sign semicolon ∷ rest) + 1 ≡ length (a ∷ args)
count_arguments a args rest =
    let end : List Token = close_mark ∷ sign semicolon ∷ rest in
    let whole : (argument_tokens (a ∷ args) ++ close_mark ∷ []) ++ sign semicolon ∷ rest
    ≡ num_tokens a ++ (more_tokens args ++ end) =
    append_assoc (argument_tokens (a ∷ args)) (close_mark ∷ []) (sign semicolon ∷ rest)
    ∙ append_assoc (num_tokens a) (more_tokens args) end in
    ap (λ (l : List Token). comma_count l + 1) whole
    ∙ ap (λ (n : ℕ). n + 1) (count_behind (num_tokens a) (more_tokens args ++ end) (inner_num a) ∙ count_more args rest)
    ∙ omega arith
