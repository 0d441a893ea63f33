-- A design of a text that keeps its facts has an initial state, since each type of a variable has a value.
use Rattle.std.proofs.Common.{◌≡◌, ℕ, ◌<◌, Option, None, Some, List, [], ◌∷◌, length, map, replicate, refl}
use Rattle.std.specs.Prelude.{MatchOption}
use Rattle.std.specs.List.{AllByRecursion, AllZip}
use Rattle.tm_syntax.specs.declared.design.Var.{Var}
use Rattle.tm_syntax.specs.Tree.{SpecTree}
use Rattle.tm_syntax.specs.Design.{DesignTree}
use Rattle.tm_syntax.specs.Design.Sizes.{type_size}
use Rattle.tm_syntax.specs.Faults.{IsOfText, IsSound}
use Rattle.tm_sem.specs.State.{StateData}
use Rattle.tm_sem.specs.Step.{IsInitial}
use Rattle.tm_typing.proofs.Sound.{checked}
use Rattle.tm_design.specs.Values.{VarFits}
use Rattle.tm_design.proofs.SettledValues.{values}

-- a declared value, or 0
abbrev declared_or_zero : Option ℕ → ℕ
declared_or_zero None = 0
declared_or_zero (Some n) = n

-- so each variable begins, each process at its start
abbrev begins : DesignTree → StateData
begins d = record {
  values = map (λ (v : Var). declared_or_zero v.init) d.vars;
  places = replicate (length d.processes) 0;
  last = 0;
}

begin_well : (spec : SpecTree) (vars : List Var) → AllByRecursion (VarFits spec) vars →
    AllZip (λ (v : Var) n. MatchOption v.init (n < type_size spec v.ty) (λ k. n ≡ k)) vars
    (map (λ (v : Var). declared_or_zero v.init) vars)
begin_well spec [] fit = tt
begin_well spec (v ∷ vs) fit = (of_init v.init, begin_well spec vs fit.1)
  where
    of_init : (init : Option ℕ) →
        MatchOption init (declared_or_zero init < type_size spec v.ty) (λ k. declared_or_zero init ≡ k)
    of_init None = fit.0.filled
    of_init (Some k) = refl

pub initial : (d : DesignTree) → IsSound d → IsOfText d.spec → (s : StateData) × IsInitial d s
initial d sound of = (
  begins d,
  record {
    values = begin_well d.spec d.vars (values d (checked d sound of) sound.numbered).variables;
    places = refl;
    last = refl;
  },
)
