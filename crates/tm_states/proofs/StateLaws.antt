-- What the initial and the valid states of a design are, and what they hold.
use Rattle.std.proofs.Common.{◌≡◌, ℕ, zero, suc, ◌<◌, Option, None, Some, List, [], ◌∷◌, length, replicate, refl, sym, subst, arith}
use Rattle.std.specs.Prelude.{IfSome, MatchOption, slice_get, slice_index}
use Rattle.std.specs.Option.{option_map}
use Rattle.std.specs.List.{AllByRecursion, AllZip}
use Rattle.std.proofs.lemmas.List.{length-replicate, get_or-replicate}
use Rattle.tm_syntax.specs.declared.design.Ty.{Ty}
use Rattle.tm_syntax.specs.declared.design.Var.{Var}
use Rattle.tm_syntax.specs.Tree.{SpecTree}
use Rattle.tm_syntax.specs.Design.{DesignTree, IsDesign}
use Rattle.tm_syntax.specs.Design.Cells.{Cell, in_state, in_step, cell_type}
use Rattle.tm_syntax.specs.Design.Locations.{end_number}
use Rattle.tm_syntax.specs.Design.Sizes.{type_size}
use Rattle.tm_syntax.specs.declared.fault.FaultKind.TheVariants as kind
use Rattle.tm_syntax.specs.Faults.{IsFree, IsTyped}
use Rattle.tm_sem.specs.State.{StateData}
use Rattle.tm_sem.specs.Step.{IsInitial, IsState, memory_of}
use Rattle.tm_sem.specs.Value.{read}
use Rattle.tm_sem.proofs.ValidStates.{zip_of_places}
use Rattle.tm_typing.proofs.Listed.{one_thing, no_thing}
use Rattle.tm_design.specs.Values.{VarFits}
use Rattle.tm_design.proofs.DeclaredValues.{vars_sized}
use Rattle.tm_design.proofs.SettledValues.{values}
use Rattle.tm_states.specs.States.{AreSized, HoldsValues}

pub sized : (d : DesignTree) → IsFree d.spec kind.Literal → IsDesign d → AreSized d.vars
sized d fitting numbered = subst AreSized (sym numbered.vars) (vars_sized d.spec fitting d.instances)

-- a declared value, or any of the type
valid_values : (spec : SpecTree) (vars : List Var) (values : List ℕ) → AllByRecursion (VarFits spec) vars →
    AllZip (λ (v : Var) n. MatchOption v.init (n < type_size spec v.ty) (λ k. n ≡ k)) vars values →
    AllZip (λ (v : Var) n. n < type_size spec v.ty) vars values
valid_values spec [] [] all zip = tt
valid_values spec [] (n ∷ ns) all zip = elim zip [ ]
valid_values spec (v ∷ vs) [] all zip = elim zip [ ]
valid_values spec (v ∷ vs) (n ∷ ns) all zip =
    (of_init v.init all.0.init zip.0, valid_values spec vs ns all.1 zip.1)
  where
    of_init : (init : Option ℕ) → IfSome init (λ k. k < type_size spec v.ty) →
        MatchOption init (n < type_size spec v.ty) (λ k. n ≡ k) → n < type_size spec v.ty
    of_init None fits less = less
    of_init (Some k) fits same = subst (λ x. x < type_size spec v.ty) (sym same) fits

-- an initial state is a valid one
pub initial_valid : (d : DesignTree) → IsTyped d.spec → IsDesign d → (s : StateData) → IsInitial d s → IsState d s
initial_valid d typed numbered s initial = record {
  values = valid_values d.spec d.vars s.values (values d typed numbered).variables initial.values;
  places = rw initial.places
      (zip_of_places (end_number d) 0 (length d.processes) (replicate (length d.processes) 0)
      (length-replicate (length d.processes) 0)
      (λ i less. rw get_or-replicate (omega arith)));
  last = rw initial.last (omega arith);
}

-- a state variable holds a value of its type
variable_holds : (spec : SpecTree) (vars : List Var) (values : List ℕ) (k : ℕ) (ty : Ty) →
    AllZip (λ (v : Var) n. n < type_size spec v.ty) vars values →
    option_map (λ (v : Var). v.ty) (slice_get vars k) ≡ Some ty → slice_index values k < type_size spec ty
variable_holds spec [] values k ty zip is = no_thing is
variable_holds spec (v ∷ vs) [] k ty zip is = elim zip [ ]
variable_holds spec (v ∷ vs) (n ∷ ns) zero ty zip is =
    let same : v.ty ≡ ty = one_thing refl is in subst (λ t. n < type_size spec t) same zip.0
variable_holds spec (v ∷ vs) (n ∷ ns) (suc k) ty zip is = variable_holds spec vs ns k ty zip.1 is

pub state_holds : (d : DesignTree) (s : StateData) → IsState d s → HoldsValues d (memory_of s)
state_holds d s valid = record {
  cells = λ scope names index c ty found is filled. by c ty is filled;
}
  where
    by : (c : Cell) (ty : Ty) → cell_type d c ≡ Some ty → 0 < type_size d.spec ty →
        read (memory_of s) c < type_size d.spec ty
    by (in_state k) ty is filled = variable_holds d.spec d.vars s.values k ty valid.values is
    by (in_step scope name own) ty is filled = filled
