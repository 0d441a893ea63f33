-- The walk over a driver's tokens that looks at what they name.
use Rattle.std.proofs.Common.{◌≡◌, ℕ, ◌+◌, ◌-◌, ◌^◌, ◌≤◌, Bool, true, false, if◌then◌else◌, List, [], ◌∷◌, ◌++◌, length}
use Rattle.std.proofs.Common.{refl, sym, ap, subst, arith}
use Rattle.tm_syntax.specs.Design.{DesignTree}
use Rattle.tm_cir.specs.Tree.{NumTree}
use Rattle.tm_cir.specs.Text.Token.{Token, word, label, variable, location, task, constant, sign, semicolon}
use Rattle.tm_cir.specs.Text.Grammar.{parenthesized, argument_tokens}
use Rattle.tm_cparse.specs.declared.spot.Spot.{Spot}
use Rattle.tm_cparse.specs.View.{token_tree, tokens_of}
use Rattle.tm_cparse.specs.Faults.{names_item, TakesArguments}
use Rattle.tm_cparse.specs.Inner.Names.{AreKnown, HaveArguments}
use Rattle.tm_cparse.proofs.NameSteps.{have_tail, not_both}
use Rattle.tm_struct_parse.specs.declared.bad.BadStructured.{BadStructured}
use Rattle.tm_struct_parse.specs.declared.bad.BadStructured.TheVariants.{Text, UnknownName}
use Rattle.tm_struct_parse.specs.declared.names.Before.{Before}
use Rattle.tm_struct_parse.specs.declared.names.Before.TheVariants.{Void, Leave, Process, Other}
use Rattle.tm_struct_parse.specs.declared.names.TokenPlace.{TokenPlace}
use Rattle.tm_struct_parse.specs.Inner.Names.{begun_behind, functions_behind, callable_at, place_behind, place_after}
use Rattle.tm_struct_parse.specs.Inner.Names.{first_place, IsRightConstant, IsRight, AreRight, IsFaultAt, no_process}
use Rattle.tm_struct_parse.specs.Inner.Names.{wrong_count, IsFirstFault, here, later}

-- what is found in the rest is found in the whole
pub record IsSoFar (d : DesignTree) (count : ℕ) (spots : List Spot) (at : TokenPlace) (rest : List Spot) : Type 0 where
  pub have : HaveArguments (tokens_of rest)
  pub known : AreKnown rest → AreKnown spots
  pub right : AreRight d at (tokens_of rest) → AreRight d first_place (tokens_of spots)
  pub fault : (bad : BadStructured) → IsFirstFault d count at rest bad → IsFirstFault d count first_place spots bad

pub begins : (d : DesignTree) (count : ℕ) (spots : List Spot) → HaveArguments (tokens_of spots) →
    IsSoFar d count spots first_place spots
begins d count spots have = record {
  have = have;
  known = λ is. is;
  right = λ is. is;
  fault = λ bad is. is;
}

-- a token that is right
pub goes_on : (d : DesignTree) (count : ℕ) (spots : List Spot) (at : TokenPlace) (rest behind : List Spot) (s : Spot) →
    IsSoFar d count spots at rest → rest ≡ s ∷ behind →
    (names_item (token_tree s.token) ≡ true → s.known ≡ true)
    × IsRight d at (token_tree s.token) (tokens_of behind) →
    IsSoFar d count spots (place_behind at (token_tree s.token)) behind
goes_on d count spots at rest behind s so_far is right =
    let here_is : IsSoFar d count spots at (s ∷ behind) =
    subst (λ (l : List Spot). IsSoFar d count spots at l) is so_far in
    record {
      have = have_tail (token_tree s.token) (tokens_of behind) here_is.have;
      known = λ known. here_is.known (right.0, known);
      right = λ others. here_is.right (right.1, others);
      fault = λ bad fault. here_is.fault bad (later right.0 right.1 fault);
    }

pub have_here : (d : DesignTree) (count : ℕ) (spots : List Spot) (at : TokenPlace) (rest behind : List Spot)
    (s : Spot) → IsSoFar d count spots at rest → rest ≡ s ∷ behind →
    HaveArguments (token_tree s.token ∷ tokens_of behind)
have_here d count spots at rest behind s so_far is =
    subst (λ (l : List Spot). HaveArguments (tokens_of l)) is so_far.have

-- functions are at most the tokens before
begun_few : (n : ℕ) (b : Before) → begun_behind n b ≤ n + 1
begun_few n Void = omega arith
begun_few n Leave = omega arith
begun_few n Process = omega arith
begun_few n Other = omega arith

pub functions_few : (at : TokenPlace) (t : Token) → functions_behind at t ≤ at.functions + 1
functions_few at (word w) = omega arith
functions_few at (label k) = begun_few at.functions at.before
functions_few at (variable k) = omega arith
functions_few at (location k) = omega arith
functions_few at (task k) = omega arith
functions_few at (constant k) = omega arith
functions_few at (sign s) = omega arith

pub places_few : (at : TokenPlace) (ts : List Token) → (place_after at ts).functions ≤ at.functions + length ts
places_few at [] = omega arith
places_few at (t ∷ ts) = omega (arith, functions_few at t, places_few (place_behind at t) ts)

pub step_few : (spots rest behind : List Spot) (s : Spot) (at next : TokenPlace) → rest ≡ s ∷ behind →
    next ≡ place_behind at (token_tree s.token) → at.functions + length rest ≤ length spots →
    next.functions + length behind ≤ length spots
step_few spots rest behind s at next is goes few =
    omega (
      arith,
      ap length is,
      ap (λ (p : TokenPlace). p.functions) goes,
      functions_few at (token_tree s.token),
      few,
    )

-- a token at fault
pub ends_here : (d : DesignTree) (count : ℕ) (spots : List Spot) (at : TokenPlace) (rest behind : List Spot) (s : Spot)
    (bad : BadStructured) → IsSoFar d count spots at rest → rest ≡ s ∷ behind →
    IsFaultAt d count at (token_tree s.token) s.known s.line (tokens_of behind) bad →
    IsFirstFault d count first_place spots bad
ends_here d count spots at rest behind s bad so_far is fault =
    so_far.fault bad (subst (λ (l : List Spot). IsFirstFault d count at l bad) (sym is) (here fault))

-- no token was at fault
pub all_right : (d : DesignTree) (count : ℕ) (spots : List Spot) (at : TokenPlace) (rest : List Spot) →
    IsSoFar d count spots at rest → rest ≡ [] → AreKnown spots × AreRight d first_place (tokens_of spots)
all_right d count spots at rest so_far is =
    let here_is : IsSoFar d count spots at [] = subst (λ (l : List Spot). IsSoFar d count spots at l) is so_far in
    (here_is.known tt, here_is.right tt)

pub ruleset first_fault_steps = (begins, have_here, ends_here, all_right)

pub no_process_there : (d : DesignTree) (count : ℕ) (at : TokenPlace) (p : ℕ) (known : Bool) (line : ℕ)
    (others : List Token) → at.before ≡ Process → ¬ IsRightConstant d Process p →
    IsFaultAt d count at (constant p) known line others (UnknownName line)
no_process_there d count at p known line others before none =
    no_process before refl (not_both p (length d.processes) (2 ^ 32) none)

abbrev Counts : List Token → ℕ → Type 0
Counts ts n =
    (args : List NumTree) (rest : List Token) → ts ≡ parenthesized (argument_tokens args) ++ sign semicolon ∷ rest →
    n ≡ length args

abbrev HasArguments : List Token → Type 0
HasArguments ts =
    (args : List NumTree) × (rest : List Token) × (ts ≡ parenthesized (argument_tokens args) ++ sign semicolon ∷ rest)

pub wrong_count_there : (d : DesignTree) (k n line : ℕ) (others : List Token) → HasArguments others → Counts others n →
    ¬ TakesArguments d k n → (count : ℕ) (at : TokenPlace) →
    IsFaultAt d count at (task k) true line others (Text line)
wrong_count_there d k n line others have counts wrong count at =
    wrong_count have.0 (sign semicolon ∷ have.1) refl refl have.2
    (λ takes. wrong (subst (λ (m : ℕ). TakesArguments d k m) (sym (counts have.0 have.1 have.2)) takes))

-- functions only grow in number
begun_grows : (n : ℕ) (b : Before) → n ≤ begun_behind n b
begun_grows n Void = omega arith
begun_grows n Leave = omega arith
begun_grows n Process = omega arith
begun_grows n Other = omega arith

functions_grow : (at : TokenPlace) (t : Token) → at.functions ≤ functions_behind at t
functions_grow at (word w) = omega arith
functions_grow at (label k) = begun_grows at.functions at.before
functions_grow at (variable k) = omega arith
functions_grow at (location k) = omega arith
functions_grow at (task k) = omega arith
functions_grow at (constant k) = omega arith
functions_grow at (sign s) = omega arith

pub places_grow : (at : TokenPlace) (ts : List Token) → at.functions ≤ (place_after at ts).functions
places_grow at [] = omega arith
places_grow at (t ∷ ts) = omega (arith, functions_grow at t, places_grow (place_behind at t) ts)

-- no more functions may be named than have begun
pub callable_few : (at : TokenPlace) → callable_at at ≤ at.functions
callable_few at = of at.in_turn
  where
    of : (v : Bool) → (if v then at.functions else at.functions - 1) ≤ at.functions
    of true = omega arith
    of false = omega arith
