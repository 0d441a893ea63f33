-- What a check of names, types and calls answers.
use Rattle.std.specs.Prelude.{◌≡◌, ⊤, Option, None, Some, List, [], ◌∷◌, ◌++◌}
use Rattle.std.specs.List.{AllByRecursion}
use Rattle.tm_syntax.specs.declared.fault.FaultKind.{FaultKind}
use Rattle.tm_syntax.specs.declared.fault.FaultKind.TheVariants as kind
use Rattle.tm_syntax.specs.declared.fault.Faulty.{Faulty}
use Rattle.tm_syntax.specs.declared.fault.FrontError.{FrontError}
use Rattle.tm_syntax.specs.declared.fault.FrontError.TheVariants as front
use Rattle.tm_syntax.specs.Tree.{SpecTree}
use Rattle.tm_syntax.specs.Faults.{HasFault, HasTreeFault, IsFree}

-- the kinds of faults of names, types, calls and loops, in the order in which they are looked for: `F4` to `F10`
abbrev pub type_kinds : List FaultKind
type_kinds =
    kind.UnknownName ∷ kind.Twice ∷ kind.Mismatch ∷ kind.Literal ∷ kind.CallCycle ∷ kind.LoopWithoutLocation
    ∷ kind.LocationInAtomic ∷ []

-- a tree has no fault of these kinds
abbrev pub IsFreeOf : List FaultKind → SpecTree → Type 0
IsFreeOf kinds spec = AllByRecursion (IsFree spec) kinds

-- the fault of a tree among these kinds: the earliest of them that holds, at its first place, with its detail
pub record HasFaultOf (kinds : List FaultKind) (spec : SpecTree) (f : Faulty) : Type 0 where
  pub before : List FaultKind
  pub behind : List FaultKind
  pub among : kinds ≡ before ++ f.kind ∷ behind
  pub none_before : AllByRecursion (IsFree spec) before
  pub has : HasFault f.kind spec (record { place = f.place; detail = f.detail })

-- what was found of faults of these kinds
abbrev pub IsFirstOf : List FaultKind → SpecTree → Option Faulty → Type 0
IsFirstOf kinds spec None = IsFreeOf kinds spec
IsFirstOf kinds spec (Some f) = HasFaultOf kinds spec f

-- the fault of a tree, where it is one of names, types, calls or loops
pub record HasTypeFault (spec : SpecTree) (f : Faulty) : Type 0 where
  pub before : List FaultKind
  pub behind : List FaultKind
  pub among : type_kinds ≡ before ++ f.kind ∷ behind
  pub is : HasTreeFault spec f

-- want of memory, or a fault of which this holds
abbrev pub IsMemoryOr : (Faulty → Type 0) → FrontError → Type 0
IsMemoryOr Holds (front.Faulty f) = Holds f
IsMemoryOr Holds front.Memory = ⊤
