-- Drivers whose names the design has are well made over it, and the other way round.
use Rattle.std.proofs.Common.{◌≡◌, ℕ, zero, suc, ◌+◌, Some, List, [], ◌∷◌, ◌++◌, map, length, All, slice_get, refl, sym}
use Rattle.std.proofs.Common.{subst, arith}
use Rattle.std.proofs.lemmas.List.{length-map}
use Rattle.std.proofs.lemmas.List.Elements.{All-nil, All-cons, All-head, All-tail}
use Rattle.tm_syntax.specs.Design.{DesignTree}
use Rattle.tm_cir.specs.Text.Token.{Token, word, sign, void, driver_turn, close_brace}
use Rattle.tm_cir.specs.Text.Grammar.{truth_tokens, argument_tokens}
use Rattle.tm_cir.proofs.Text.Expressions.{same_inside}
use Rattle.tm_cparse.specs.Faults.{HasNames}
use Rattle.tm_cparse.proofs.Files.{truth_in_range, all_in_range}
use Rattle.tm_cparse.proofs.Fitting.{AreGood, good_front, good_behind, truth_fits, arguments_fit}
use Rattle.tm_struct.specs.Tree.{ActionTree, choose, call, leave, go, idle, ProgramTree}
use Rattle.tm_struct.specs.Fit.{FitsAction, MayNest, FitsProgram}
use Rattle.tm_struct.specs.Text.Grammar.{action_tokens, body_tokens}
use Rattle.tm_struct.proofs.Grammar.{call_is}
use Rattle.tm_struct_parse.specs.Written.{WrittenFunction, functions_tokens, WrittenProgram, written_tokens}
use Rattle.tm_struct_parse.specs.Written.{ActionInRange, FunctionInRange, AreWritten}
use Rattle.tm_struct_parse.specs.Inner.Bodies.{IsSmall, IsSmallFunction, action_of}
use Rattle.tm_struct_parse.proofs.Actions.{block_text, choose_text}
use Rattle.tm_struct_parse.proofs.Programs.{functions_text}
use Rattle.tm_struct_parse.proofs.Placed.{IsRightAction, AreRightFunctions, IsRightProgram, program_of, numbered}
use Rattle.tm_struct_parse.proofs.Placed.{written_of, numbered_length}

-- a right action, whose names the design has, fits it
action_fits : (d : DesignTree) (below open_ifs : ℕ) (a : ActionTree) (rest : List Token) → ActionInRange open_ifs a →
    IsRightAction d below a → AreGood d (action_tokens a ++ rest) → FitsAction d below a
action_fits d below o (choose t a b) rest range right good =
    let whole = subst (AreGood d) (choose_text t a b rest) good in
    let ends = good_behind d (truth_tokens t) _ whole.1.1 in
    let first = subst (AreGood d) (block_text a _) ends.1 in
    let others = good_behind d (action_tokens a) _ first.1 in
    let second = subst (AreGood d) (block_text b rest) others.1.1 in (
      truth_fits d t range.1 (good_front d (truth_tokens t) _ whole.1.1),
      action_fits d below (o + 1) a _ range.2 right.0 first.1,
      action_fits d below (o + 1) b _ range.3 right.1 second.1,
    )
action_fits d below o (call k args) rest range right good =
    let whole = subst (AreGood d) (call_is k args rest) good in
    (right.0, right.1, arguments_fit d args range (good_front d (argument_tokens args) _ whole.1.1))
action_fits d below o (leave p) rest range right good = right.0
action_fits d below o (go k) rest range right good = right
action_fits d below o idle rest range right good = tt

nests : (open_ifs : ℕ) (a : ActionTree) → ActionInRange open_ifs a → MayNest open_ifs a
nests o (choose t a b) range = (range.0, nests (o + 1) a range.2, nests (o + 1) b range.3)
nests o (call k args) range = tt
nests o (leave p) range = tt
nests o (go k) range = tt
nests o idle range = tt

small : (d : DesignTree) (below : ℕ) (a : ActionTree) → IsRightAction d below a → IsSmall a
small d below (choose t a b) right = (small d below a right.0, small d below b right.1)
small d below (call k args) right = tt
small d below (leave p) right = right.1
small d below (go k) right = tt
small d below idle right = tt

body_fits : (d : DesignTree) (below : ℕ) (a : ActionTree) (rest : List Token) → ActionInRange 0 a →
    IsRightAction d below a → AreGood d (body_tokens a ++ rest) → FitsAction d below a
body_fits d below a rest range right good =
    let opened = subst (AreGood d) (block_text a rest) good.1.1.1 in
    action_fits d below 0 a (sign close_brace ∷ rest) range right opened.1

functions_fit : (d : DesignTree) (n : ℕ) (fs : List WrittenFunction) (rest : List Token) → All FunctionInRange fs →
    AreRightFunctions d n fs → AreGood d (functions_tokens fs ++ rest) → (k : ℕ) (a : ActionTree) →
    slice_get (map action_of fs) k ≡ Some a → FitsAction d (n + k) a
functions_fit d n [] rest range right good k a is = absurd (cc)
functions_fit d n (f ∷ fs) rest range right good zero a is =
    let whole = subst (AreGood d) (functions_text f fs rest) good in
    let same : f.action ≡ a = same_inside is in
    let first : n ≡ n + 0 = omega arith in
    subst (FitsAction d (n + 0)) same
    (subst (λ (k : ℕ). FitsAction d k f.action) first
    (body_fits d n f.action (functions_tokens fs ++ rest) (All-head FunctionInRange f fs range) right.0.1
    whole.1.1.1))
functions_fit d n (f ∷ fs) rest range right good (suc k) a is =
    let whole = subst (AreGood d) (functions_text f fs rest) good in
    let next : n + 1 + k ≡ n + suc k = omega arith in
    subst (λ (m : ℕ). FitsAction d m a) next
    (functions_fit d (n + 1) fs rest (All-tail FunctionInRange f fs range) right.1
    (good_behind d (body_tokens f.action) (functions_tokens fs ++ rest) whole.1.1.1) k a is)

functions_nest : (fs : List WrittenFunction) → All FunctionInRange fs → All (MayNest 0) (map action_of fs)
functions_nest [] range = All-nil (MayNest 0)
functions_nest (f ∷ fs) range =
    All-cons (MayNest 0) f.action (map action_of fs) (nests 0 f.action (All-head FunctionInRange f fs range))
    (functions_nest fs (All-tail FunctionInRange f fs range))

-- a right driver, whose names the design has, is well made
pub program_fits : (d : DesignTree) (p : WrittenProgram) (tokens : List Token) → AreWritten tokens p →
    IsRightProgram d p → AreGood d (written_tokens p) → FitsProgram d (program_of p)
program_fits d p tokens written right good = record {
  main = subst (λ (k : ℕ). FitsAction d k p.main) (sym (length-map p.functions action_of))
      (main good_main);
  functions = λ k a is.
      let same : 0 + k ≡ k = omega arith in
      subst (λ (m : ℕ). FitsAction d m a) same
      (functions_fit d 0 p.functions (word void ∷ word driver_turn ∷ body_tokens p.main) written.functions_in_range
      right.functions good k a is);
  main_nests = nests 0 p.main written.main_in_range;
  functions_nest = functions_nest p.functions written.functions_in_range;
}
  where
    good_main : AreGood d (body_tokens p.main)
    good_main =
        (good_behind d (functions_tokens p.functions) (word void ∷ word driver_turn ∷ body_tokens p.main) good).1.1

    main : AreGood d (body_tokens p.main) → FitsAction d (length p.functions) p.main
    main is =
        let opened = is.1.1.1 in
        action_fits d (length p.functions) 0 p.main (sign close_brace ∷ []) written.main_in_range right.main opened.1

pub functions_small : (d : DesignTree) (n : ℕ) (fs : List WrittenFunction) → AreRightFunctions d n fs →
    All IsSmallFunction fs
functions_small d n [] right = All-nil IsSmallFunction
functions_small d n (f ∷ fs) right =
    All-cons IsSmallFunction f fs (small d n f.action right.0.1) (functions_small d (n + 1) fs right.1)

pub main_small : (d : DesignTree) (p : WrittenProgram) → IsRightProgram d p → IsSmall p.main
main_small d p right = small d (length p.functions) p.main right.main

-- what is well made is right, and within the bounds of the grammar
fits_right : (d : DesignTree) (below : ℕ) (a : ActionTree) → HasNames d → FitsAction d below a →
    IsRightAction d below a
fits_right d below (choose t a b) names fits =
    (fits_right d below a names fits.1, fits_right d below b names fits.2)
fits_right d below (call k args) names fits = (fits.0, fits.1)
fits_right d below (leave p) names fits = (fits, omega (arith, fits, names.few_processes))
fits_right d below (go k) names fits = fits
fits_right d below idle names fits = tt

in_range : (d : DesignTree) (below open_ifs : ℕ) (a : ActionTree) → FitsAction d below a → MayNest open_ifs a →
    ActionInRange open_ifs a
in_range d below o (choose t a b) fits nest = (
  nest.0,
  truth_in_range (length d.vars) (length d.processes) t fits.0,
  in_range d below (o + 1) a fits.1 nest.1,
  in_range d below (o + 1) b fits.2 nest.2,
)
in_range d below o (call k args) fits nest = all_in_range (length d.vars) (length d.processes) args fits.2
in_range d below o (leave p) fits nest = tt
in_range d below o (go k) fits nest = tt
in_range d below o idle fits nest = tt

abbrev FitEach : DesignTree → ℕ → List ActionTree → Type 0
FitEach d n actions = (k : ℕ) (a : ActionTree) → slice_get actions k ≡ Some a → FitsAction d (n + k) a

first_fits : (d : DesignTree) (n : ℕ) (a : ActionTree) (actions : List ActionTree) → FitEach d n (a ∷ actions) →
    FitsAction d n a
first_fits d n a actions each =
    let same : n + 0 ≡ n = omega arith in subst (λ (k : ℕ). FitsAction d k a) same (each 0 a refl)

others_fit : (d : DesignTree) (n : ℕ) (a : ActionTree) (actions : List ActionTree) → FitEach d n (a ∷ actions) →
    FitEach d (n + 1) actions
others_fit d n a actions each k x is =
    let same : n + suc k ≡ n + 1 + k = omega arith in
    subst (λ (m : ℕ). FitsAction d m x) same (each (suc k) x is)

functions_right : (d : DesignTree) (n : ℕ) (actions : List ActionTree) → HasNames d → FitEach d n actions →
    AreRightFunctions d n (numbered n actions)
functions_right d n [] names each = tt
functions_right d n (a ∷ actions) names each = (
  (refl, fits_right d n a names (first_fits d n a actions each)),
  functions_right d (n + 1) actions names (others_fit d n a actions each),
)

functions_in_range : (d : DesignTree) (n : ℕ) (actions : List ActionTree) → FitEach d n actions →
    All (MayNest 0) actions →
    All FunctionInRange (numbered n actions)
functions_in_range d n [] each nest = All-nil FunctionInRange
functions_in_range d n (a ∷ actions) each nest =
    All-cons FunctionInRange (record { number = n; action = a }) (numbered (n + 1) actions)
    (in_range d n 0 a (first_fits d n a actions each) (All-head (MayNest 0) a actions nest))
    (functions_in_range d (n + 1) actions (others_fit d n a actions each) (All-tail (MayNest 0) a actions nest))

from_zero : (d : DesignTree) (p : ProgramTree) → FitsProgram d p → FitEach d 0 p.functions
from_zero d p fits k a is =
    let same : k ≡ 0 + k = omega arith in subst (λ (m : ℕ). FitsAction d m a) same (fits.functions k a is)

pub fitting_right : (d : DesignTree) (p : ProgramTree) → HasNames d → FitsProgram d p → IsRightProgram d (written_of p)
fitting_right d p names fits = record {
  functions = functions_right d 0 p.functions names (from_zero d p fits);
  main = fits_right d (length (numbered 0 p.functions)) p.main names
      (subst (λ (k : ℕ). FitsAction d k p.main) (sym (numbered_length 0 p.functions)) fits.main);
}

pub fitting_written : (d : DesignTree) (p : ProgramTree) → FitsProgram d p →
    AreWritten (written_tokens (written_of p)) (written_of p)
fitting_written d p fits = record {
  functions_in_range = functions_in_range d 0 p.functions (from_zero d p fits) fits.functions_nest;
  main_in_range = in_range d (length p.functions) 0 p.main fits.main fits.main_nests;
  are = refl;
}
