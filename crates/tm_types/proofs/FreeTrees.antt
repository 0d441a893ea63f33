-- A tree without faults of some kinds has no fault of one of them.
use Rattle.std.proofs.Common.{◌≡◌, Option, None, Some, List, ◌∷◌, ◌++◌, sym, ap, ◌∙◌, subst}
use Rattle.std.specs.List.{AllByRecursion}
use Rattle.tm_syntax.specs.declared.fault.FaultKind.{FaultKind}
use Rattle.tm_syntax.specs.declared.fault.FaultKind.TheVariants as kind
use Rattle.tm_syntax.specs.declared.fault.Faulty.{Faulty}
use Rattle.tm_syntax.specs.Tree.{SpecTree}
use Rattle.tm_syntax.specs.Faults.{HasFault, IsFirst, IsFree, here, later}
use Rattle.tm_syntax.specs.Faults.Cycles.{CallsItself, HoldsItself, TaskMark, TemplateMark, all_tasks, all_templates}
use Rattle.tm_syntax.specs.Faults.Marks.{Mark, first_mark, first_place}
use Rattle.tm_types.specs.Answer.{HasTypeFault, IsFreeOf, type_kinds}
use Rattle.tm_types.proofs.LoopingTasks.{all_split}

no_first : {X : Type 0} (mark : X → Mark) (Is : X → Type 0) (xs : List X) (m : Mark) → IsFirst mark Is xs m →
    ((x : X) → ¬ Is x) → ⊥
no_first mark Is xs m (here {x = x} is _) none = none x is
no_first mark Is xs m (later {xs = ys} first _) none = no_first mark Is ys m first none

not_both : {X : Type 0} {x : X} {o : Option X} → o ≡ Some x → o ≡ None → ⊥
not_both some none = let same = sym some ∙ none in cc

-- a tree that has a fault of a kind is not free of it
has_or_free : (k : FaultKind) (spec : SpecTree) (m : Mark) → HasFault k spec m → IsFree spec k → ⊥
has_or_free kind.UnknownName spec m has free = not_both has (ap first_mark free)
has_or_free kind.Twice spec m has free = not_both has (ap first_mark free)
has_or_free kind.Mismatch spec m has free = not_both has (ap first_place free)
has_or_free kind.Literal spec m has free = not_both has (ap first_place free)
has_or_free kind.CallCycle spec m has free =
    no_first (λ (k : TaskMark). k.mark) (CallsItself spec) (all_tasks spec) m has (λ k. free k.number)
has_or_free kind.LoopWithoutLocation spec m has free = not_both has (ap first_place free)
has_or_free kind.LocationInAtomic spec m has free = not_both has (ap first_place free)
has_or_free kind.TemplateCycle spec m has free =
    no_first (λ (t : TemplateMark). t.mark) (HoldsItself spec) (all_templates spec) m has (λ t. free t.number)
has_or_free kind.Limit spec m has free = free m has
has_or_free kind.Byte spec m has free = has
has_or_free kind.Syntax spec m has free = has
has_or_free kind.Deep spec m has free = has

-- a tree without faults of names, types, calls and loops has none
pub none_has : (spec : SpecTree) (f : Faulty) → IsFreeOf type_kinds spec → HasTypeFault spec f → ⊥
none_has spec f free fault =
    let all : AllByRecursion (IsFree spec) (fault.before ++ f.kind ∷ fault.behind) =
    subst (λ (ks : List FaultKind). AllByRecursion (IsFree spec) ks) fault.among free in
    has_or_free f.kind spec (record { place = f.place; detail = f.detail }) fault.is.has
    (all_split (IsFree spec) fault.before (f.kind ∷ fault.behind) all).1.0
