-- The fault of a text: the earliest kind that holds of it, at its first place. A well-formed text has none.
pub mod Crossings
pub mod Cycles
pub mod Limits
pub mod Literals
pub mod Marks
pub mod Mismatches
pub mod Names
pub mod Operands
use Rattle.std.specs.Prelude.{◌≡◌, ℕ, suc, Bool, true, false, ◌<◌, ◌≤◌, ◌⊎◌, ⊤, Option, None, Some, List, [], ◌∷◌, ◌++◌, length}
use Rattle.std.specs.List.{AllByRecursion}
use Rattle.tm_base.specs.declared.place.Place.{Place}
use Rattle.tm_syntax.specs.declared.fault.FaultKind.{FaultKind}
use Rattle.tm_syntax.specs.declared.fault.FaultKind.TheVariants as kind
use Rattle.tm_syntax.specs.declared.fault.Quantity.TheVariants as quantity
use Rattle.tm_syntax.specs.declared.fault.Faulty.{Faulty}
use Rattle.tm_syntax.specs.declared.token.Token.{Token}
use Rattle.tm_syntax.specs.Tree.{SpecTree}
use Rattle.tm_syntax.specs.Limits.{specification_limit}
use Rattle.tm_syntax.specs.Tokens.{AreTokens, HasByteFault}
use Rattle.tm_syntax.specs.Grammar.Faults.{IsTree, HasSyntaxFault, HasDepthFault}
use Rattle.tm_syntax.specs.declared.member.Member.{Member}
use Rattle.tm_syntax.specs.Scopes.Calls.{Reaches, ReachesTemplate}
use Rattle.tm_syntax.specs.Design.{DesignTree, IsDesign}
use Rattle.tm_syntax.specs.Places.{text_start, is_before}
use Rattle.tm_syntax.specs.Faults.Marks.{Mark, marked, first_mark, first_place}
use Rattle.tm_syntax.specs.Faults.Names.{unknown_names, names_twice}
use Rattle.tm_syntax.specs.Faults.Mismatches.{mismatches}
use Rattle.tm_syntax.specs.Faults.Literals.{misfit_numbers}
use Rattle.tm_syntax.specs.Faults.Cycles.{TaskMark, all_tasks, CallsItself, TemplateMark, all_templates, HoldsItself}
use Rattle.tm_syntax.specs.Faults.Crossings.{endless_loops, atomic_locations}
use Rattle.tm_syntax.specs.Faults.Limits.{above, IsAboveLimit, IsWithinLimits}

-- a fault of this kind
abbrev pub fault : FaultKind → Mark → Faulty
fault k m = record { kind = k; place = m.place; detail = m.detail }

-- the first by their places of some things that are faults: none that is one stands before it, and of several at one
-- place it is the first
pub data IsFirst {X : Type 0} (mark : X → Mark) (Is : X → Type 0) : List X → Mark → Type 0 where
  here : {x : X} {xs : List X} → Is x →
      AllByRecursion (λ y. Is y → is_before (mark y).place (mark x).place ≡ false) xs →
      IsFirst mark Is (x ∷ xs) (mark x)
  later : {x : X} {xs : List X} {m : Mark} → IsFirst mark Is xs m →
      (Is x → is_before m.place (mark x).place ≡ true) → IsFirst mark Is (x ∷ xs) m

-- the kinds of faults that a tree can have, in the order in which they are looked for
abbrev pub tree_kinds : List FaultKind
tree_kinds =
    kind.UnknownName ∷ kind.Twice ∷ kind.Mismatch ∷ kind.Literal ∷ kind.CallCycle ∷ kind.LoopWithoutLocation
    ∷ kind.LocationInAtomic ∷ kind.TemplateCycle ∷ kind.Limit ∷ []

-- the first fault of a kind in a tree
abbrev pub HasFault : FaultKind → SpecTree → Mark → Type 0
HasFault kind.UnknownName spec m = first_mark (unknown_names spec) ≡ Some m
HasFault kind.Twice spec m = first_mark (names_twice spec) ≡ Some m
HasFault kind.Mismatch spec m = first_place (mismatches spec) ≡ Some m
HasFault kind.Literal spec m = first_place (misfit_numbers spec) ≡ Some m
HasFault kind.CallCycle spec m = IsFirst (λ (k : TaskMark). k.mark) (CallsItself spec) (all_tasks spec) m
HasFault kind.LoopWithoutLocation spec m = first_place (endless_loops spec) ≡ Some m
HasFault kind.LocationInAtomic spec m = first_place (atomic_locations spec) ≡ Some m
HasFault kind.TemplateCycle spec m = IsFirst (λ (t : TemplateMark). t.mark) (HoldsItself spec) (all_templates spec) m
HasFault kind.Limit spec m = IsAboveLimit spec m
HasFault kind.Byte spec m = ⊥
HasFault kind.Syntax spec m = ⊥
HasFault kind.Deep spec m = ⊥

-- a tree has no fault of a kind
abbrev pub IsFree : SpecTree → FaultKind → Type 0
IsFree spec kind.UnknownName = unknown_names spec ≡ []
IsFree spec kind.Twice = names_twice spec ≡ []
IsFree spec kind.Mismatch = mismatches spec ≡ []
IsFree spec kind.Literal = misfit_numbers spec ≡ []
IsFree spec kind.CallCycle = (k : Member) → ¬ Reaches spec k k
IsFree spec kind.LoopWithoutLocation = endless_loops spec ≡ []
IsFree spec kind.LocationInAtomic = atomic_locations spec ≡ []
IsFree spec kind.TemplateCycle = (t : ℕ) → ¬ ReachesTemplate spec t t
IsFree spec kind.Limit = (m : Mark) → ¬ IsAboveLimit spec m
IsFree spec kind.Byte = ⊤
IsFree spec kind.Syntax = ⊤
IsFree spec kind.Deep = ⊤

-- the fault of a tree
pub record HasTreeFault (spec : SpecTree) (f : Faulty) : Type 0 where
  pub before : List FaultKind
  pub behind : List FaultKind
  pub kinds : tree_kinds ≡ before ++ f.kind ∷ behind
  pub none_before : AllByRecursion (IsFree spec) before
  pub has : HasFault f.kind spec (record { place = f.place; detail = f.detail })

-- the fault of a text; one that is too long is not read
pub data FaultOf (text : List ℕ) : Faulty → Type 0 where
  too_long : specification_limit < length text →
      FaultOf text (fault kind.Limit (above text_start quantity.Specification (suc specification_limit)))
  byte : {at : Place} → length text ≤ specification_limit → HasByteFault text at →
      FaultOf text (fault kind.Byte (marked at))
  syntax_ : {tokens : List Token} {at : Place} → length text ≤ specification_limit → AreTokens text tokens →
      HasSyntaxFault text tokens at → FaultOf text (fault kind.Syntax (marked at))
  deep : {tokens : List Token} {at : Place} → length text ≤ specification_limit → AreTokens text tokens →
      HasDepthFault text tokens at → FaultOf text (fault kind.Deep (marked at))
  of_tree : {tokens : List Token} {tree : SpecTree} {f : Faulty} → length text ≤ specification_limit →
      AreTokens text tokens → IsTree text tokens tree → HasTreeFault tree f → FaultOf text f

-- the tree of some text that has none of F1 to F3
pub record IsOfText (spec : SpecTree) : Type 0 where
  pub text : List ℕ
  pub tokens : List Token
  pub are_tokens : AreTokens text tokens
  pub is_tree : IsTree text tokens spec

-- what a checked tree is: that of some text, and none of F4 to F10 holds of it
pub record IsTyped (spec : SpecTree) : Type 0 where
  pub of_text : IsOfText spec
  pub known : IsFree spec kind.UnknownName
  pub once : IsFree spec kind.Twice
  pub matching : IsFree spec kind.Mismatch
  pub fitting : IsFree spec kind.Literal
  pub no_call_cycle : IsFree spec kind.CallCycle
  pub crossing : IsFree spec kind.LoopWithoutLocation
  pub atomic : IsFree spec kind.LocationInAtomic

-- what a design keeps: none of F4 to F11 holds of its tree, it is the design of that tree, and it is within all limits
pub record IsSound (d : DesignTree) : Type 0 where
  pub known : IsFree d.spec kind.UnknownName
  pub once : IsFree d.spec kind.Twice
  pub matching : IsFree d.spec kind.Mismatch
  pub fitting : IsFree d.spec kind.Literal
  pub no_call_cycle : IsFree d.spec kind.CallCycle
  pub crossing : IsFree d.spec kind.LoopWithoutLocation
  pub atomic : IsFree d.spec kind.LocationInAtomic
  pub no_template_cycle : IsFree d.spec kind.TemplateCycle
  pub numbered : IsDesign d
  pub within : IsWithinLimits d
