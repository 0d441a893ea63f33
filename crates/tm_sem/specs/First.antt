-- The state that choices give a design to begin with.
use Rattle.std.specs.Prelude.{◌≡◌, ℕ, Option, None, Some, List, [], ◌∷◌, length, replicate, nat_lt}
use Rattle.std.specs.Bool.{then_some}
use Rattle.std.specs.Option.{option_map, option_and_then}
use Rattle.tm_syntax.specs.declared.design.Var.{Var}
use Rattle.tm_syntax.specs.Tree.{SpecTree}
use Rattle.tm_syntax.specs.Design.{DesignTree}
use Rattle.tm_syntax.specs.Design.Sizes.{type_size}
use Rattle.tm_sem.specs.State.{StateData}

-- the next choice and those behind it, where it is one of so many values
abbrev pub next_choice : ℕ → List ℕ → Option (ℕ × List ℕ)
next_choice size [] = None
next_choice size (c ∷ cs) = then_some (nat_lt c size) (c, cs)

-- the declared value of a variable, or the next choice, and the choices that are left
abbrev pub value_or_choice : Option ℕ → ℕ → List ℕ → Option (ℕ × List ℕ)
value_or_choice (Some n) size choices = Some (n, choices)
value_or_choice None size choices = next_choice size choices

-- the values of the variables, where no choice is wanting, left over or out of range
abbrev pub first_values : SpecTree → List Var → List ℕ → Option (List ℕ)
first_values spec [] [] = Some []
first_values spec [] (c ∷ cs) = None
first_values spec (v ∷ vs) choices =
    option_and_then (λ n. option_map (λ ns. n.0 ∷ ns) (first_values spec vs n.1))
    (value_or_choice v.init (type_size spec v.ty) choices)

-- the state that these choices give to begin with
pub record IsFirst (d : DesignTree) (choices : List ℕ) (s : StateData) : Type 0 where
  pub values : first_values d.spec d.vars choices ≡ Some s.values
  pub places : s.places ≡ replicate (length d.processes) 0
  pub last : s.last ≡ 0
