-- The values that a design begins with.
use Rattle.std.proofs.Common.{◌≡◌, ℕ, ◌<◌, Option, None, Some, List, [], ◌∷◌, refl, sym, ap, subst, arith}
use Rattle.std.proofs.lemmas.Bool.Decides.{nat_tests}
use Rattle.std.specs.Prelude.{MatchOption}
use Rattle.std.specs.Option.{option_map, option_and_then}
use Rattle.std.specs.List.{AllZip}
use Rattle.tm_syntax.specs.declared.design.Var.{Var}
use Rattle.tm_syntax.specs.Tree.{SpecTree}
use Rattle.tm_syntax.specs.Design.{DesignTree}
use Rattle.tm_syntax.specs.Design.Sizes.{type_size}
use Rattle.tm_sem.specs.State.{StateData}
use Rattle.tm_sem.specs.Step.{IsInitial}
use Rattle.tm_sem.specs.First.{value_or_choice, first_values, IsFirst}

first_fits : (init : Option ℕ) (size : ℕ) (choices : List ℕ) (n : ℕ) (others : List ℕ) →
    value_or_choice init size choices ≡ Some (n, others) → MatchOption init (n < size) (λ k. n ≡ k)
first_fits (Some k) size choices n others is = let same : (k, choices) ≡ (n, others) = cc in
    sym (ap (λ (p : ℕ × List ℕ). p.0) same)
first_fits None size [] n others is = absurd (cc)
first_fits None size (c ∷ cs) n others is = grind (arith, nat_tests, is)

-- each value is the declared one, or in its type
initial_values : (spec : SpecTree) (vars : List Var) (choices values : List ℕ) →
    first_values spec vars choices ≡ Some values →
    AllZip (λ (v : Var) n. MatchOption v.init (n < type_size spec v.ty) (λ k. n ≡ k)) vars values
initial_values spec [] [] values is = let none : [] ≡ values = cc in
    subst (AllZip (λ (v : Var) n. MatchOption v.init (n < type_size spec v.ty) (λ k. n ≡ k)) []) none tt
initial_values spec [] (c ∷ cs) values is = absurd (cc)
initial_values spec (v ∷ vs) choices values is =
    from_value (λ cs ns are. initial_values spec vs cs ns are) (value_or_choice v.init (type_size spec v.ty) choices)
    refl is
  where
    from_rest : (n : ℕ) (rest : Option (List ℕ)) → MatchOption v.init (n < type_size spec v.ty) (λ k. n ≡ k) →
        ((ns : List ℕ) → rest ≡ Some ns →
        AllZip (λ (v : Var) n. MatchOption v.init (n < type_size spec v.ty) (λ k. n ≡ k)) vs ns) →
        option_map (λ ns. n ∷ ns) rest ≡ Some values →
        AllZip (λ (v : Var) n. MatchOption v.init (n < type_size spec v.ty) (λ k. n ≡ k)) (v ∷ vs) values
    from_rest n None here next is = absurd (cc)
    from_rest n (Some ns) here next is =
        let same : n ∷ ns ≡ values = cc in
        subst (AllZip (λ (v : Var) n. MatchOption v.init (n < type_size spec v.ty) (λ k. n ≡ k)) (v ∷ vs)) same
        (here, next ns refl)

    from_value : ((cs ns : List ℕ) → first_values spec vs cs ≡ Some ns →
        AllZip (λ (v : Var) n. MatchOption v.init (n < type_size spec v.ty) (λ k. n ≡ k)) vs ns) →
        (found : Option (ℕ × List ℕ)) → value_or_choice v.init (type_size spec v.ty) choices ≡ found →
        option_and_then (λ n. option_map (λ ns. n.0 ∷ ns) (first_values spec vs n.1)) found ≡ Some values →
        AllZip (λ (v : Var) n. MatchOption v.init (n < type_size spec v.ty) (λ k. n ≡ k)) (v ∷ vs) values
    from_value next None found is = absurd (cc)
    from_value next (Some n) found is =
        from_rest n.0 (first_values spec vs n.1) (first_fits v.init (type_size spec v.ty) choices n.0 n.1 found)
        (next n.1) is

-- the state that choices give to begin with is an initial one
pub first_initial : (d : DesignTree) (choices : List ℕ) (s : StateData) → IsFirst d choices s → IsInitial d s
first_initial d choices s first =
    record {
      values = initial_values d.spec d.vars choices s.values first.values;
      places = first.places;
      last =
          first.last;
    }
