-- Tokens that name no function, no task and no process do not change the place, and are right.
use Rattle.std.proofs.Common.{◌≡◌, ℕ, Bool, true, false, List, [], ◌∷◌, ◌++◌, refl, sym, ap, ◌∙◌, subst, true≢false}
use Rattle.tm_syntax.specs.Design.{DesignTree}
use Rattle.tm_cir.specs.Tree.{NumTree, var, goal, last, complement, binary, shift, conditional, TruthTree, num}
use Rattle.tm_cir.specs.Tree.{negation, compare, join}
use Rattle.tm_cir.specs.Tree as trees
use Rattle.tm_cir.specs.Text.Token.{Token, word, label, variable, location, task, constant, sign, void, driver_turn}
use Rattle.tm_cir.specs.Text.Token.{if_word, else_word, goto, return_word, termite_leave, termite_goal, termite_last}
use Rattle.tm_cir.specs.Text.Token.{close_parenthesis, colon, comma, question, arithmetic, shifting, comparing, joining}
use Rattle.tm_cir.specs.Text.Grammar.{num_tokens, truth_tokens, argument_tokens}
use Rattle.tm_cparse.specs.Inner.Names.{HaveArguments}
use Rattle.tm_cparse.proofs.Walks.{more_tokens}
use Rattle.tm_struct_parse.specs.declared.names.Before.TheVariants.{Other}
use Rattle.tm_struct_parse.specs.declared.names.TokenPlace.{TokenPlace}
use Rattle.tm_struct_parse.specs.Inner.Names.{place_behind, place_after, IsRight, AreRight}

-- a token of an expression or between expressions
abbrev pub is_still : Token → Bool
is_still (word termite_goal) = true
is_still (word termite_last) = true
is_still (word w) = false
is_still (label k) = false
is_still (task k) = false
is_still t = true

abbrev pub AreStill : List Token → Type 0
AreStill [] = Unit {0}
AreStill (t ∷ ts) = (is_still t ≡ true) × AreStill ts

still_behind : (xs ys : List Token) → AreStill xs → AreStill ys → AreStill (xs ++ ys)
still_behind [] ys front behind = behind
still_behind (x ∷ xs) ys front behind = (front.0, still_behind xs ys front.1 behind)

closed : (ts : List Token) → AreStill ts → AreStill (ts ++ sign close_parenthesis ∷ [])
closed ts still = still_behind ts (sign close_parenthesis ∷ []) still (refl, tt)

mutual
  still_num : (a : NumTree) → AreStill (num_tokens a)
  still_num (trees.constant n) = (refl, tt)
  still_num (var k) = (refl, tt)
  still_num (trees.location p) = (refl, tt)
  still_num goal = (refl, tt)
  still_num last = (refl, tt)
  still_num (complement a) = (refl, (refl, closed (num_tokens a) (still_num a)))
  still_num (binary op a b) = (
    refl,
    closed _ (still_behind (num_tokens a) (sign (arithmetic op) ∷ num_tokens b) (still_num a) (
      refl,
      still_num b,
    )),
  )
  still_num (shift op a by) = (
    refl,
    closed _ (still_behind (num_tokens a) (sign (shifting op) ∷ constant by ∷ []) (still_num a) (
      refl,
      (refl, tt),
    )),
  )
  still_num (conditional t a b) = (
    refl,
    closed _
        (still_behind (truth_tokens t ++ sign question ∷ num_tokens a) (sign colon ∷ num_tokens b)
        (still_behind (truth_tokens t) (sign question ∷ num_tokens a) (still_truth t) (refl, still_num a))
        (refl, still_num b)),
  )

  pub still_truth : (t : TruthTree) → AreStill (truth_tokens t)
  still_truth (num n) = still_num n
  still_truth (negation t) = (refl, (refl, closed (truth_tokens t) (still_truth t)))
  still_truth (compare op a b) = (
    refl,
    closed _ (still_behind (num_tokens a) (sign (comparing op) ∷ num_tokens b) (still_num a) (
      refl,
      still_num b,
    )),
  )
  still_truth (join op t u) = (
    refl,
    closed _
        (still_behind (truth_tokens t) (sign (joining op) ∷ truth_tokens u) (still_truth t) (refl, still_truth u)),
  )

still_more : (args : List NumTree) → AreStill (more_tokens args)
still_more [] = tt
still_more (a ∷ args) =
    still_behind (sign comma ∷ num_tokens a) (more_tokens args) (refl, still_num a) (still_more args)

pub still_arguments : (args : List NumTree) → AreStill (argument_tokens args)
still_arguments [] = tt
still_arguments (a ∷ args) = still_behind (num_tokens a) (more_tokens args) (still_num a) (still_more args)

-- the place behind the names of so many functions, with nothing before it that tells what is named
abbrev pub outside : ℕ → Bool → TokenPlace
outside n v = record { functions = n; in_turn = v; before = Other }

-- such a token does not change the place, and is right
still_place : (n : ℕ) (v : Bool) (t : Token) → is_still t ≡ true → place_behind (outside n v) t ≡ outside n v
still_place n v (word termite_goal) is = refl
still_place n v (word termite_last) is = refl
still_place n v (word void) is = absurd (true≢false (sym is))
still_place n v (word driver_turn) is = absurd (true≢false (sym is))
still_place n v (word if_word) is = absurd (true≢false (sym is))
still_place n v (word else_word) is = absurd (true≢false (sym is))
still_place n v (word goto) is = absurd (true≢false (sym is))
still_place n v (word return_word) is = absurd (true≢false (sym is))
still_place n v (word termite_leave) is = absurd (true≢false (sym is))
still_place n v (label k) is = absurd (true≢false (sym is))
still_place n v (variable k) is = refl
still_place n v (location k) is = refl
still_place n v (task k) is = absurd (true≢false (sym is))
still_place n v (constant p) is = refl
still_place n v (sign s) is = refl

pub still_places : (n : ℕ) (v : Bool) (xs ys : List Token) → AreStill xs →
    place_after (outside n v) (xs ++ ys) ≡ place_after (outside n v) ys
still_places n v [] ys still = refl
still_places n v (x ∷ xs) ys still =
    ap (λ (p : TokenPlace). place_after p (xs ++ ys)) (still_place n v x still.0) ∙ still_places n v xs ys still.1

still_right : (d : DesignTree) (n : ℕ) (v : Bool) (t : Token) (others : List Token) → is_still t ≡ true →
    IsRight d (outside n v) t others
still_right d n v (word w) others is = tt
still_right d n v (label k) others is = absurd (true≢false (sym is))
still_right d n v (variable k) others is = tt
still_right d n v (location k) others is = tt
still_right d n v (task k) others is = absurd (true≢false (sym is))
still_right d n v (constant p) others is = tt
still_right d n v (sign s) others is = tt

-- what stands behind them is right where all is, and the other way round
pub right_behind : (d : DesignTree) (n : ℕ) (v : Bool) (xs ys : List Token) → AreStill xs →
    AreRight d (outside n v) (xs ++ ys) → AreRight d (outside n v) ys
right_behind d n v [] ys still right = right
right_behind d n v (x ∷ xs) ys still right =
    right_behind d n v xs ys still.1
    (subst (λ (p : TokenPlace). AreRight d p (xs ++ ys)) (still_place n v x still.0) right.1)

pub right_before : (d : DesignTree) (n : ℕ) (v : Bool) (xs ys : List Token) → AreStill xs →
    AreRight d (outside n v) ys → AreRight d (outside n v) (xs ++ ys)
right_before d n v [] ys still right = right
right_before d n v (x ∷ xs) ys still right = (
  still_right d n v x (xs ++ ys) still.0,
  subst (λ (p : TokenPlace). AreRight d p (xs ++ ys)) (sym (still_place n v x still.0))
      (right_before d n v xs ys still.1 right),
)

-- arguments stand behind each task
still_has : (t : Token) (ts : List Token) → is_still t ≡ true → HaveArguments ts → HaveArguments (t ∷ ts)
still_has (word w) ts is have = have
still_has (label k) ts is have = have
still_has (variable k) ts is have = have
still_has (location k) ts is have = have
still_has (task k) ts is have = absurd (true≢false (sym is))
still_has (constant p) ts is have = have
still_has (sign s) ts is have = have

pub have_before : (xs ys : List Token) → AreStill xs → HaveArguments ys → HaveArguments (xs ++ ys)
have_before [] ys still have = have
have_before (x ∷ xs) ys still have = still_has x (xs ++ ys) still.0 (have_before xs ys still.1 have)
