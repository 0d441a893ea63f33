-- The grammar of expressions is determined: a reader of tokens gives back the tree whose tokens stand in front, and
-- what follows them.
use Rattle.std.proofs.Common.{◌≡◌, ℕ, zero, suc, ◌+◌, ◌<◌, Option, None, Some, option_and_then, List, [], ◌∷◌, ◌++◌, refl, ap, sym, ◌∙◌, append_assoc, arith}
use Rattle.tm_cir.specs.Tree.{NumTree, var, goal, last, complement, binary, shift, conditional, TruthTree, num, negation, compare, join}
use Rattle.tm_cir.specs.Tree as trees
use Rattle.tm_cir.specs.Text.Token.{Token, word, variable, location, constant, sign, termite_goal, termite_last, open_parenthesis, close_parenthesis, colon, question, tilde, bang, arithmetic, shifting, comparing, joining}
use Rattle.tm_cir.specs.Text.Grammar.{num_tokens, truth_tokens}

-- what stands in front of some tokens, and what follows it
abbrev Found : Type 0
Found = Option (TruthTree × List Token)

abbrev number_in : TruthTree → Option NumTree
number_in (num a) = Some a
number_in _ = None

-- this expression, where a parenthesis closes
abbrev closed : TruthTree → List Token → Found
closed t (sign close_parenthesis ∷ rest) = Some (t, rest)
closed t _ = None

-- a choice of two numbers, where the first one was read
abbrev chosen : (List Token → Found) → TruthTree → TruthTree → List Token → Found
chosen again t a (sign colon ∷ rest) =
    option_and_then
    (λ b. option_and_then
    (λ x. option_and_then (λ y. closed (num (conditional t x y)) b.1) (number_in b.0)) (number_in a)) (again rest)
chosen again t a _ = None

-- what an operator and more make of a first operand
abbrev operated : (List Token → Found) → TruthTree → List Token → Found
operated again t (sign (arithmetic op) ∷ rest) =
    option_and_then
    (λ u. option_and_then
    (λ a. option_and_then (λ b. closed (num (binary op a b)) u.1) (number_in u.0)) (number_in t)) (again rest)
operated again t (sign (comparing op) ∷ rest) =
    option_and_then
    (λ u. option_and_then
    (λ a. option_and_then (λ b. closed (compare op a b) u.1) (number_in u.0)) (number_in t)) (again rest)
operated again t (sign (joining op) ∷ rest) = option_and_then (λ u. closed (join op t u.0) u.1) (again rest)
operated again t (sign (shifting op) ∷ constant by ∷ rest) =
    option_and_then (λ a. closed (num (shift op a by)) rest) (number_in t)
operated again t (sign question ∷ rest) = option_and_then (λ a. chosen again t a.0 a.1) (again rest)
operated again t _ = None

-- what stands between parentheses
abbrev inside : (List Token → Found) → List Token → Found
inside again (sign tilde ∷ rest) =
    option_and_then
    (λ u. option_and_then (λ a. closed (num (complement a)) u.1) (number_in u.0)) (again rest)
inside again (sign bang ∷ rest) = option_and_then (λ u. closed (negation u.0) u.1) (again rest)
inside again ts = option_and_then (λ t. operated again t.0 t.1) (again ts)

-- the expression in front, by a reader of its parts
abbrev expression : (List Token → Found) → List Token → Found
expression again (constant n ∷ rest) = Some (num (trees.constant n), rest)
expression again (variable k ∷ rest) = Some (num (var k), rest)
expression again (location p ∷ rest) = Some (num (trees.location p), rest)
expression again (word termite_goal ∷ rest) = Some (num goal, rest)
expression again (word termite_last ∷ rest) = Some (num last, rest)
expression again (sign open_parenthesis ∷ rest) = inside again rest
expression again _ = None

-- the expression in front, to some depth
abbrev read : ℕ → List Token → Found
read zero ts = None
read (suc depth) ts = expression (read depth) ts

-- a depth to which an expression is read
abbrev mutual
  num_depth : NumTree → ℕ
  num_depth (complement a) = 1 + num_depth a
  num_depth (binary op a b) = 1 + (num_depth a + num_depth b)
  num_depth (shift op a by) = 1 + num_depth a
  num_depth (conditional t a b) = 1 + (truth_depth t + (num_depth a + num_depth b))
  num_depth _ = 0

  truth_depth : TruthTree → ℕ
  truth_depth (num a) = num_depth a
  truth_depth (negation t) = 1 + truth_depth t
  truth_depth (compare op a b) = 1 + (num_depth a + num_depth b)
  truth_depth (join op t u) = 1 + (truth_depth t + truth_depth u)

-- an expression begins with no sign that stands in front of an operand
inside_is : (again : List Token → Found) (t : TruthTree) (rest : List Token) →
    inside again (truth_tokens t ++ rest)
    ≡ option_and_then (λ u. operated again u.0 u.1) (again (truth_tokens t ++ rest))
inside_is again (num (trees.constant n)) rest = refl
inside_is again (num (var k)) rest = refl
inside_is again (num (trees.location p)) rest = refl
inside_is again (num goal) rest = refl
inside_is again (num last) rest = refl
inside_is again (num (complement a)) rest = refl
inside_is again (num (binary op a b)) rest = refl
inside_is again (num (shift op a by)) rest = refl
inside_is again (num (conditional t a b)) rest = refl
inside_is again (negation t) rest = refl
inside_is again (compare op a b) rest = refl
inside_is again (join op t u) rest = refl

-- two operands with a sign between them
two_parts : (xs ys rest : List Token) (s c : Token) →
    ((xs ++ s ∷ ys) ++ c ∷ []) ++ rest ≡ xs ++ (s ∷ (ys ++ c ∷ rest))
two_parts xs ys rest s c = simp append_assoc

-- one operand behind a sign
one_part : (xs rest : List Token) (c : Token) → (xs ++ c ∷ []) ++ rest ≡ xs ++ c ∷ rest
one_part xs rest c = simp append_assoc

-- three operands with two signs between them
three_parts : (xs ys zs rest : List Token) (s u c : Token) →
    (((xs ++ s ∷ ys) ++ u ∷ zs) ++ c ∷ []) ++ rest ≡ xs ++ (s ∷ (ys ++ (u ∷ (zs ++ c ∷ rest))))
three_parts xs ys zs rest s u c = simp append_assoc

-- where the reader of the parts gives back an expression, it goes on behind it
behind : (again : List Token → Found) (t : TruthTree) (rest ts : List Token) → ts ≡ truth_tokens t ++ rest →
    again (truth_tokens t ++ rest) ≡ Some (t, rest) → inside again ts ≡ operated again t rest
behind again t rest ts is reads =
    ap (inside again) is ∙ inside_is again t rest ∙ ap (option_and_then (λ u. operated again u.0 u.1)) reads

-- the expression whose tokens stand in front is read
pub read_is : (depth : ℕ) (t : TruthTree) (rest : List Token) → truth_depth t < depth →
    read depth (truth_tokens t ++ rest) ≡ Some (t, rest)
read_is zero t rest deep = absurd (omega arith)
read_is (suc n) (num (trees.constant k)) rest deep = refl
read_is (suc n) (num (var k)) rest deep = refl
read_is (suc n) (num (trees.location p)) rest deep = refl
read_is (suc n) (num goal) rest deep = refl
read_is (suc n) (num last) rest deep = refl
read_is (suc n) (num (complement a)) rest deep =
    let close = sign close_parenthesis in
    ap (λ (ts : List Token). inside (read n) (sign tilde ∷ ts)) (one_part (num_tokens a) rest close)
    ∙ ap (option_and_then (λ u. option_and_then (λ x. closed (num (complement x)) u.1) (number_in u.0)))
    (read_is n (num a) (close ∷ rest) (omega arith))
read_is (suc n) (num (binary op a b)) rest deep =
    let close = sign close_parenthesis in
    let s = sign (arithmetic op) in
    behind (read n) (num a) (s ∷ (num_tokens b ++ close ∷ rest)) _
    (two_parts (num_tokens a) (num_tokens b) rest s close)
    (read_is n (num a) (s ∷ (num_tokens b ++ close ∷ rest)) (omega arith))
    ∙ ap (option_and_then
    (λ u. option_and_then
    (λ x. option_and_then (λ y. closed (num (binary op x y)) u.1) (number_in u.0)) (Some a)))
    (read_is n (num b) (close ∷ rest) (omega arith))
read_is (suc n) (num (shift op a by)) rest deep =
    let close = sign close_parenthesis in
    let s = sign (shifting op) in
    behind (read n) (num a) (s ∷ constant by ∷ close ∷ rest) _
    (two_parts (num_tokens a) (constant by ∷ []) rest s close)
    (read_is n (num a) (s ∷ constant by ∷ close ∷ rest) (omega arith))
read_is (suc n) (num (conditional t a b)) rest deep =
    let close = sign close_parenthesis in
    let last_part = sign colon ∷ (num_tokens b ++ close ∷ rest) in
    behind (read n) t (sign question ∷ (num_tokens a ++ last_part)) _
    (three_parts (truth_tokens t) (num_tokens a) (num_tokens b) rest (sign question) (sign colon) close)
    (read_is n t (sign question ∷ (num_tokens a ++ last_part)) (omega arith))
    ∙ ap (option_and_then (λ x. chosen (read n) t x.0 x.1)) (read_is n (num a) last_part (omega arith))
    ∙ ap (option_and_then
    (λ y. option_and_then
    (λ v. option_and_then (λ w. closed (num (conditional t v w)) y.1) (number_in y.0)) (Some a)))
    (read_is n (num b) (close ∷ rest) (omega arith))
read_is (suc n) (negation t) rest deep =
    let close = sign close_parenthesis in
    ap (λ (ts : List Token). inside (read n) (sign bang ∷ ts)) (one_part (truth_tokens t) rest close)
    ∙ ap (option_and_then (λ u. closed (negation u.0) u.1)) (read_is n t (close ∷ rest) (omega arith))
read_is (suc n) (compare op a b) rest deep =
    let close = sign close_parenthesis in
    let s = sign (comparing op) in
    behind (read n) (num a) (s ∷ (num_tokens b ++ close ∷ rest)) _
    (two_parts (num_tokens a) (num_tokens b) rest s close)
    (read_is n (num a) (s ∷ (num_tokens b ++ close ∷ rest)) (omega arith))
    ∙ ap (option_and_then
    (λ u. option_and_then
    (λ x. option_and_then (λ y. closed (compare op x y) u.1) (number_in u.0)) (Some a)))
    (read_is n (num b) (close ∷ rest) (omega arith))
read_is (suc n) (join op t u) rest deep =
    let close = sign close_parenthesis in
    let s = sign (joining op) in
    behind (read n) t (s ∷ (truth_tokens u ++ close ∷ rest)) _
    (two_parts (truth_tokens t) (truth_tokens u) rest s close)
    (read_is n t (s ∷ (truth_tokens u ++ close ∷ rest)) (omega arith))
    ∙ ap (option_and_then (λ v. closed (join op t v.0) v.1)) (read_is n u (close ∷ rest) (omega arith))

-- what an option holds is one value
pub same_inside : {A : Type 0} {a b : A} → Some a ≡ Some b → a ≡ b
same_inside same = cc

-- tokens begin with one truth value, and what follows it is one list
pub same_truth : (t u : TruthTree) (rest others : List Token) → truth_tokens t ++ rest ≡ truth_tokens u ++ others →
    (t ≡ u) × (rest ≡ others)
same_truth t u rest others same =
    let depth : ℕ = 1 + (truth_depth t + truth_depth u) in
    let found : Some (t, rest) ≡ Some (u, others) =
    sym (read_is depth t rest (omega arith)) ∙ ap (read depth) same ∙ read_is depth u others (omega arith) in
    let pair = same_inside {A = TruthTree × List Token} {a = (t, rest)} {b = (u, others)} found in
    (ap (λ (p : TruthTree × List Token). p.0) pair, ap (λ (p : TruthTree × List Token). p.1) pair)

-- tokens begin with one number, and what follows it is one list
pub same_num : (a b : NumTree) (rest others : List Token) → num_tokens a ++ rest ≡ num_tokens b ++ others →
    (a ≡ b) × (rest ≡ others)
same_num a b rest others same =
    let parts = same_truth (num a) (num b) rest others same in
    let is : num a ≡ num b = parts.0 in
    (cc, parts.1)
