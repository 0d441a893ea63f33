-- The walk over a driver's tokens that looks at what they name.
use Rattle.std.proofs.Common.{◌≡◌, ◌≢◌, ◌⊎◌, inl, inr, ℕ, ◌+◌, ◌^◌, ◌<◌, ◌≤◌, Bool, true, false, Some, List, [], ◌∷◌, ◌++◌, length, ltb, ltb-true, refl, sym, ap, ◌∙◌, subst, append_assoc, arith}
use Rattle.std.proofs.lemmas.Bool.Decides.{nat_tests}
use Rattle.tm_syntax.specs.Design.{DesignTree}
use Rattle.tm_cir.specs.Tree.{NumTree}
use Rattle.tm_cir.specs.Text.Token.{Token, word, label, variable, location, task, constant, sign, open_parenthesis, close_parenthesis, semicolon}
use Rattle.tm_cir.specs.Text.Grammar.{parenthesized, num_tokens, argument_tokens}
use Rattle.tm_cparse.specs.declared.bad.BadDriver.{BadDriver}
use Rattle.tm_cparse.specs.declared.bad.BadDriver.TheVariants.{Text, UnknownName}
use Rattle.tm_cparse.specs.declared.names.Before.TheVariants.{Process}
use Rattle.tm_cparse.specs.declared.names.TokenPlace.{TokenPlace}
use Rattle.tm_cparse.specs.declared.spot.Spot.{Spot}
use Rattle.tm_cparse.specs.View.{token_tree, tokens_of}
use Rattle.tm_cparse.specs.Faults.{names_item, TakesArguments}
use Rattle.tm_cparse.specs.Inner.Reading.{first_of}
use Rattle.tm_cparse.specs.Inner.Names.{place_behind, first_place, IsRightConstant, IsRight, AreRight, AreKnown, IsFaultAt, no_process, wrong_count, IsFirstFault, here, later, HaveArguments, comma_count}
use Rattle.tm_cparse.proofs.Calls.{same_arguments, not_closing}
use Rattle.tm_cparse.proofs.Walks.{more_tokens, count_arguments}
use Rattle.tm_cparse.proofs.DriverCut.{labels_few}

-- what is found in the rest is found in the whole
pub record IsSoFar (d : DesignTree) (count : ℕ) (spots : List Spot) (at : TokenPlace) (rest : List Spot) : Type 0 where
  pub have : HaveArguments (tokens_of rest)
  pub known : AreKnown rest → AreKnown spots
  pub right : AreRight d count at (tokens_of rest) → AreRight d count first_place (tokens_of spots)
  pub fault : (bad : BadDriver) → IsFirstFault d count at rest bad → IsFirstFault d count first_place spots bad

pub begins : (d : DesignTree) (count : ℕ) (spots : List Spot) → HaveArguments (tokens_of spots) →
    IsSoFar d count spots first_place spots
begins d count spots have = record {
  have = have;
  known = λ is. is;
  right = λ is. is;
  fault = λ bad is. is;
}

pub have_tail : (t : Token) (ts : List Token) → HaveArguments (t ∷ ts) → HaveArguments ts
have_tail (word w) ts have = have
have_tail (label k) ts have = have
have_tail (variable k) ts have = have
have_tail (location k) ts have = have
have_tail (task k) ts have = have.1
have_tail (constant n) ts have = have
have_tail (sign s) ts have = have

-- a token that is right
pub goes_on : (d : DesignTree) (count : ℕ) (spots : List Spot) (at : TokenPlace) (rest behind : List Spot) (s : Spot) →
    IsSoFar d count spots at rest → rest ≡ s ∷ behind →
    (names_item (token_tree s.token) ≡ true → s.known ≡ true)
    × IsRight d count at (token_tree s.token) (tokens_of behind) →
    IsSoFar d count spots (place_behind at (token_tree s.token)) behind
goes_on d count spots at rest behind s so_far is right =
    let here_is : IsSoFar d count spots at (s ∷ behind) =
    subst (λ (l : List Spot). IsSoFar d count spots at l) is so_far in
    record {
      have = have_tail (token_tree s.token) (tokens_of behind) here_is.have;
      known = λ known. here_is.known (right.0, known);
      right = λ others. here_is.right (right.1, others);
      fault = λ bad fault. here_is.fault bad (later right.0 right.1 fault);
    }

pub have_here : (d : DesignTree) (count : ℕ) (spots : List Spot) (at : TokenPlace) (rest behind : List Spot)
    (s : Spot) → IsSoFar d count spots at rest → rest ≡ s ∷ behind →
    HaveArguments (token_tree s.token ∷ tokens_of behind)
have_here d count spots at rest behind s so_far is =
    subst (λ (l : List Spot). HaveArguments (tokens_of l)) is so_far.have

-- labels are at most the tokens before
pub step_few : (spots rest behind : List Spot) (s : Spot) (at next : TokenPlace) → rest ≡ s ∷ behind →
    next ≡ place_behind at (token_tree s.token) → at.labels + length rest ≤ length spots →
    next.labels + length behind ≤ length spots
step_few spots rest behind s at next is goes few =
    omega (
      arith,
      ap length is,
      ap (λ (p : TokenPlace). p.labels) goes,
      labels_few at.labels at.before (token_tree
          s.token),
      few,
    )

-- a token at fault
pub ends_here : (d : DesignTree) (count : ℕ) (spots : List Spot) (at : TokenPlace) (rest behind : List Spot) (s : Spot)
    (bad : BadDriver) → IsSoFar d count spots at rest → rest ≡ s ∷ behind →
    IsFaultAt d count at (token_tree s.token) s.known s.line (tokens_of behind) bad →
    IsFirstFault d count first_place spots bad
ends_here d count spots at rest behind s bad so_far is fault =
    so_far.fault bad (subst (λ (l : List Spot). IsFirstFault d count at l bad) (sym is) (here fault))

-- no token was at fault
pub all_right : (d : DesignTree) (count : ℕ) (spots : List Spot) (at : TokenPlace) (rest : List Spot) →
    IsSoFar d count spots at rest → rest ≡ [] →
    AreKnown spots × AreRight d count first_place (tokens_of spots)
all_right d count spots at rest so_far is =
    let here_is : IsSoFar d count spots at [] = subst (λ (l : List Spot). IsSoFar d count spots at l) is so_far in
    (here_is.known tt, here_is.right tt)

pub ruleset first_fault_steps = (begins, have_here, ends_here, all_right)

pub not_low : (p n : ℕ) → ltb p n ≡ false → n ≤ p
not_low p n high = grind (arith, nat_tests)

-- no process
pub not_both : (p n m : ℕ) → ¬ ((p < n) × (p < m)) → (n ≤ p) ⊎ (m ≤ p)
not_both p n m none = of (ltb p n) (ltb p m) refl refl
  where
    of : (v w : Bool) → ltb p n ≡ v → ltb p m ≡ w → (n ≤ p) ⊎ (m ≤ p)
    of true true low few = absurd (none (ltb-true p n low, ltb-true p m few))
    of false w high few = inl (not_low p n high)
    of true false low high = inr (not_low p m high)

pub no_process_there : (d : DesignTree) (count : ℕ) (at : TokenPlace) (p : ℕ) (known : Bool) (line : ℕ)
    (others : List Token) → at.before ≡ Process → ¬ IsRightConstant d Process p →
    IsFaultAt d count at (constant p) known line others (UnknownName line)
no_process_there d count at p known line others before none =
    no_process before refl (not_both p (length d.processes) (2 ^ 32) none)

-- how many arguments there are
arguments_behind : (args : List NumTree) (rest : List Token) →
    parenthesized (argument_tokens args) ++ sign semicolon ∷ rest
    ≡ sign open_parenthesis ∷ ((argument_tokens args ++ sign close_parenthesis ∷ []) ++ sign semicolon ∷ rest)
arguments_behind args rest = refl

same_tail : {t u : Token} {a b : List Token} → t ∷ a ≡ u ∷ b → a ≡ b
same_tail e = cc

pub no_arguments : (args : List NumTree) (ts rest : List Token) → ts ≡ [] →
    ts ≡ parenthesized (argument_tokens args) ++ sign semicolon ∷ rest → 0 ≡ length args
no_arguments args ts rest none is = let both = sym none ∙ is in absurd (cc)

pub closed_at_once : (args : List NumTree) (ts behind after rest : List Token) (t : Token) → ts ≡ t ∷ behind →
    behind ≡ sign close_parenthesis ∷ after →
    ts ≡ parenthesized (argument_tokens args) ++ sign semicolon ∷ rest → 0 ≡ length args
closed_at_once [] ts behind after rest t first closes is = refl
closed_at_once (a ∷ args) ts behind after rest t first closes is =
    let end : List Token = sign close_parenthesis ∷ sign semicolon ∷ rest in
    let tail : behind ≡ (argument_tokens (a ∷ args) ++ sign close_parenthesis ∷ []) ++ sign semicolon ∷ rest =
    same_tail (sym first ∙ is) in
    absurd
    (not_closing a after (more_tokens args ++ end)
    (sym closes ∙ tail ∙ append_assoc (argument_tokens (a ∷ args)) (sign close_parenthesis ∷ []) (sign semicolon ∷ rest)
    ∙ append_assoc (num_tokens a) (more_tokens args) end))

pub counted : (args : List NumTree) (ts behind rest : List Token) (t : Token) → ts ≡ t ∷ behind →
    first_of behind ≢ Some (sign close_parenthesis) →
    ts ≡ parenthesized (argument_tokens args) ++ sign semicolon ∷ rest → comma_count behind + 1 ≡ length args
counted [] ts behind rest t first other is = absurd (other (ap first_of (same_tail (sym first ∙ is))))
counted (a ∷ args) ts behind rest t first other is =
    ap (λ (l : List Token). comma_count l + 1) (same_tail (sym first ∙ is)) ∙ count_arguments a args rest

-- the arguments of a call are one list
one_list : (args others : List NumTree) (ts rest after : List Token) →
    ts ≡ parenthesized (argument_tokens args) ++ rest → ts ≡ parenthesized (argument_tokens others) ++ after →
    args ≡ others
one_list args others ts rest after one other =
    let both : argument_tokens args ++ sign close_parenthesis ∷ rest
    ≡ argument_tokens others ++ sign close_parenthesis ∷ after =
    sym (append_assoc (argument_tokens args) (sign close_parenthesis ∷ []) rest) ∙ same_tail (sym one ∙ other)
    ∙ append_assoc (argument_tokens others) (sign close_parenthesis ∷ []) after in
    (same_arguments args others rest after both).0

abbrev Counts : List Token → ℕ → Type 0
Counts ts n =
    (args : List NumTree) (rest : List Token) → ts ≡ parenthesized (argument_tokens args) ++ sign semicolon ∷ rest →
    n ≡ length args

abbrev HasArguments : List Token → Type 0
HasArguments ts =
    (args : List NumTree) × (rest : List Token) × (ts ≡ parenthesized (argument_tokens args) ++ sign semicolon ∷ rest)

pub right_count : (d : DesignTree) (k n : ℕ) (others : List Token) → HasArguments others → Counts others n →
    TakesArguments d k n → (count : ℕ) (at : TokenPlace) → IsRight d count at (task k) others
right_count d k n others have counts takes count at args rest is =
    let same : have.0 ≡ args = one_list have.0 args others (sign semicolon ∷ have.1) rest have.2 is in
    subst (λ (l : List NumTree). TakesArguments d k (length l)) same
    (subst (λ (m : ℕ). TakesArguments d k m) (counts have.0 have.1 have.2) takes)

pub wrong_count_there : (d : DesignTree) (k n line : ℕ) (others : List Token) → HasArguments others → Counts others n →
    ¬ TakesArguments d k n → (count : ℕ) (at : TokenPlace) →
    IsFaultAt d count at (task k) true line others (Text line)
wrong_count_there d k n line others have counts wrong count at =
    wrong_count have.0 (sign semicolon ∷ have.1) refl refl have.2
    (λ takes. wrong (subst (λ (m : ℕ). TakesArguments d k m) (sym (counts have.0 have.1 have.2)) takes))
