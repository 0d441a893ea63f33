-- What of an expression was begun, and what follows it.
use Rattle.std.specs.Prelude.{◌≡◌, ◌≢◌, ℕ, ◌<◌, Option, Some, None, List, [], ◌∷◌, ◌++◌, map}
use Rattle.tm_cir.specs.declared.block.NumOperator.{NumOperator}
use Rattle.tm_base.specs.declared.shift_operator.ShiftOperator.{ShiftOperator}
use Rattle.tm_cir.specs.declared.block.Comparison.{Comparison}
use Rattle.tm_cir.specs.declared.block.Junction.{Junction}
use Rattle.tm_cir.specs.Tree.{NumTree, TruthTree, num}
use Rattle.tm_cir.specs.Tree as trees
use Rattle.tm_cir.specs.View.{num_tree, truth_tree}
use Rattle.tm_cir.specs.Text.Token.{Token, word, variable, location, constant, sign, termite_goal, termite_last, Sign, close_parenthesis, colon, question, tilde, bang, arithmetic, shifting, comparing, joining}
use Rattle.tm_cir.specs.Text.Grammar.{truth_tokens}
use Rattle.tm_cparse.specs.declared.part.Sort.{Sort}
use Rattle.tm_cparse.specs.declared.part.Sort.TheVariants as sorts
use Rattle.tm_cparse.specs.declared.part.Part.{Part}
use Rattle.tm_cparse.specs.declared.part.Part.TheVariants as parts
use Rattle.tm_cparse.specs.Written.{NumInRange, TruthInRange}
use Rattle.tm_cparse.specs.Inner.Reading.{first_of}

-- the part of an expression in parentheses that was read: the parenthesis alone, or what waits for its last operand
pub data PartTree : Type 0 where
  first_part : PartTree
  complement_part : PartTree
  negation_part : PartTree
  binary_part : NumOperator → NumTree → PartTree
  compare_part : Comparison → NumTree → PartTree
  join_part : Junction → TruthTree → PartTree
  then_part : TruthTree → PartTree
  else_part : TruthTree → NumTree → PartTree

-- what the code's part is
abbrev pub part_tree : Part → PartTree
part_tree parts.First = first_part
part_tree parts.Complement = complement_part
part_tree parts.Negation = negation_part
part_tree (parts.Binary op a) = binary_part op (num_tree a)
part_tree (parts.Compare op a) = compare_part op (num_tree a)
part_tree (parts.Join op t) = join_part op (truth_tree t)
part_tree (parts.Then t) = then_part (truth_tree t)
part_tree (parts.Else t a) = else_part (truth_tree t) (num_tree a)

-- the code's parts
abbrev pub part_trees : List Part → List PartTree
part_trees ps = map part_tree ps

-- what stands where this sort is asked for
abbrev pub IsOf : Sort → TruthTree → Type 0
IsOf sorts.Truth t = Unit {0}
IsOf sorts.Number (num a) = Unit {0}
IsOf sorts.Number _ = ⊥

-- an expression of this sort, with its shifts in range
abbrev pub IsFitting : Sort → TruthTree → Type 0
IsFitting s t = IsOf s t × TruthInRange t

-- an expression where this sort is asked for, and what follows it
pub record IsExpression (s : Sort) (t : TruthTree) (tokens rest : List Token) : Type 0 where
  pub fits : IsFitting s t
  pub are : tokens ≡ truth_tokens t ++ rest

-- what a part asks for
abbrev pub sort_of : PartTree → Sort
sort_of first_part = sorts.Truth
sort_of complement_part = sorts.Number
sort_of negation_part = sorts.Truth
sort_of (binary_part op a) = sorts.Number
sort_of (compare_part op a) = sorts.Number
sort_of (join_part op t) = sorts.Truth
sort_of (then_part t) = sorts.Number
sort_of (else_part t a) = sorts.Number

-- what is asked for before these parts, of which the first waits for it; behind the last one the whole is of this sort
abbrev pub wanted : Sort → List PartTree → Sort
wanted s [] = s
wanted s (p ∷ ps) = sort_of p

-- this, where a truth value is asked for
abbrev pub if_truth : Sort → PartTree → Option PartTree
if_truth sorts.Truth p = Some p
if_truth sorts.Number p = None

-- the part that an operator's sign begins with its first operand
abbrev pub begun_by : Sort → Sign → TruthTree → Option PartTree
begun_by s (arithmetic op) (num a) = Some (binary_part op a)
begun_by s (comparing op) (num a) = if_truth s (compare_part op a)
begun_by s (joining op) t = if_truth s (join_part op t)
begun_by s question t = Some (then_part t)
begun_by _ _ _ = None

-- the number that an operand is, if it is one
abbrev pub number_in : TruthTree → Option NumTree
number_in (num a) = Some a
number_in _ = None

-- the next operand of a part is its last one
abbrev pub Closes : PartTree → Type 0
Closes first_part = ⊥
Closes (then_part t) = ⊥
Closes _ = Unit {0}

-- the expression that a part is with its last operand
abbrev pub closed_by : PartTree → TruthTree → Option TruthTree
closed_by complement_part (num a) = Some (num (trees.complement a))
closed_by negation_part t = Some (trees.negation t)
closed_by (binary_part op a) (num b) = Some (num (trees.binary op a b))
closed_by (compare_part op a) (num b) = Some (trees.compare op a b)
closed_by (join_part op t) u = Some (trees.join op t u)
closed_by (else_part t a) (num b) = Some (num (trees.conditional t a b))
closed_by _ _ = None

-- what begins behind a parenthesis: a sign in front of an operand, or a first operand
pub data Opens (s : Sort) : PartTree → List Token → List Token → Type 0 where
  opens_complement : {tokens rest : List Token} → tokens ≡ sign tilde ∷ rest → Opens s complement_part tokens rest
  opens_negation : {tokens rest : List Token} → s ≡ sorts.Truth → tokens ≡ sign bang ∷ rest →
      Opens s negation_part tokens rest
  opens_first : {tokens : List Token} → first_of tokens ≢ Some (sign tilde) →
      (s ≡ sorts.Truth → first_of tokens ≢ Some (sign bang)) → Opens s first_part tokens tokens

-- the number that is one token, if it is one
abbrev pub leaf_of : Token → Option NumTree
leaf_of (constant n) = Some (trees.constant n)
leaf_of (variable k) = Some (trees.var k)
leaf_of (location p) = Some (trees.location p)
leaf_of (word termite_goal) = Some trees.goal
leaf_of (word termite_last) = Some trees.last
leaf_of _ = None

-- the sign that a token is, if it is one
abbrev pub sign_in : Token → Option Sign
sign_in (sign s) = Some s
sign_in _ = None

-- an expression stands before these parts and before tokens that lead to the whole, with the rest behind it
pub data Fills (root : Sort) : List PartTree → TruthTree → List Token → TruthTree → List Token → Type 0 where
  whole : {t : TruthTree} {rest : List Token} → Fills root [] t rest t rest
  closes : {p : PartTree} {ps : List PartTree} {x y t : TruthTree} {tokens behind rest : List Token} →
      closed_by p x ≡ Some y → tokens ≡ sign close_parenthesis ∷ behind → Fills root ps y behind t rest →
      Fills root (p ∷ ps) x tokens t rest
  begins : {p : PartTree} {ps : List PartTree} {x y t : TruthTree} {s : Sign} {tokens behind next rest : List Token} →
      begun_by (wanted root ps) s x ≡ Some p → tokens ≡ sign s ∷ behind → IsExpression (sort_of p) y behind next →
      Fills root (p ∷ ps) y next t rest → Fills root (first_part ∷ ps) x tokens t rest
  shifts : {op : ShiftOperator} {ps : List PartTree} {x t : TruthTree} {a : NumTree} {by : ℕ}
      {tokens behind rest : List Token} → x ≡ num a → by < 64 →
      tokens ≡ sign (shifting op) ∷ constant by ∷ sign close_parenthesis ∷ behind →
      Fills root ps (num (trees.shift op a by)) behind t rest → Fills root (first_part ∷ ps) x tokens t rest
  goes_on : {ps : List PartTree} {u x y t : TruthTree} {a : NumTree} {tokens behind next rest : List Token} →
      x ≡ num a → tokens ≡ sign colon ∷ behind → IsExpression sorts.Number y behind next →
      Fills root (else_part u a ∷ ps) y next t rest → Fills root (then_part u ∷ ps) x tokens t rest

-- what was begun may stand where this sort is asked for, with its shifts in range
abbrev pub FitsPart : Sort → PartTree → Type 0
FitsPart s first_part = Unit {0}
FitsPart s complement_part = Unit {0}
FitsPart s negation_part = s ≡ sorts.Truth
FitsPart s (binary_part op a) = NumInRange a
FitsPart s (compare_part op a) = (s ≡ sorts.Truth) × NumInRange a
FitsPart s (join_part op t) = (s ≡ sorts.Truth) × TruthInRange t
FitsPart s (then_part t) = TruthInRange t
FitsPart s (else_part t a) = TruthInRange t × NumInRange a

-- each of the parts that were begun may stand where it does in a whole of this sort, with its shifts in range
abbrev pub FitParts : Sort → List PartTree → Type 0
FitParts s [] = Unit {0}
FitParts s (p ∷ ps) = FitsPart (wanted s ps) p × FitParts s ps

-- an operand, and then what leads to the whole
pub record IsAwaited (root : Sort) (ps : List PartTree) (t : TruthTree) (tokens rest : List Token) : Type 0 where
  pub operand : TruthTree
  pub next : List Token
  pub is : IsExpression (wanted root ps) operand tokens next
  pub fills : Fills root ps operand next t rest

-- what is left of an expression, behind an operand if there is one
abbrev pub IsLeft : Sort → List PartTree → Option TruthTree → TruthTree → List Token → List Token → Type 0
IsLeft root ps None t tokens rest = IsAwaited root ps t tokens rest
IsLeft root ps (Some x) t tokens rest = Fills root ps x tokens t rest

-- an operand, if there is one, is of the sort that is asked for
abbrev pub FitsOperand : Sort → List PartTree → Option TruthTree → Type 0
FitsOperand root ps None = Unit {0}
FitsOperand root ps (Some x) = IsFitting (wanted root ps) x

-- a shift amount and the parenthesis that closes, and then what leads to the whole
pub record IsAmount (root : Sort) (ps : List PartTree) (op : ShiftOperator) (a : NumTree) (t : TruthTree)
    (tokens rest : List Token) : Type 0 where
  pub by : ℕ
  pub behind : List Token
  pub low : by < 64
  pub are : tokens ≡ constant by ∷ sign close_parenthesis ∷ behind
  pub fills : Fills root ps (num (trees.shift op a by)) behind t rest

-- the parenthesis that closes an operand, and then what leads to the whole
pub record IsClosing (root : Sort) (ps : List PartTree) (x t : TruthTree) (tokens rest : List Token) : Type 0 where
  pub behind : List Token
  pub are : tokens ≡ sign close_parenthesis ∷ behind
  pub fills : Fills root ps x behind t rest
