-- The first fault of several kinds, kind by kind.
use Rattle.std.proofs.Common.{◌≡◌, Option, None, Some, List, [], ◌∷◌, ◌++◌, append_assoc, refl, sym, ap, ◌∙◌, subst}
use Rattle.std.specs.Prelude.{IfNone, IfSome}
use Rattle.std.specs.List.{AllByRecursion}
use Rattle.std.specs.Option.{option_map}
use Rattle.tm_base.specs.declared.place.Place.{Place}
use Rattle.tm_syntax.specs.declared.fault.FaultKind.{FaultKind}
use Rattle.tm_syntax.specs.declared.fault.FaultKind.TheVariants as kind
use Rattle.tm_syntax.specs.declared.fault.Faulty.{Faulty}
use Rattle.tm_syntax.specs.Tree.{SpecTree}
use Rattle.tm_syntax.specs.Places.{earliest}
use Rattle.tm_syntax.specs.Faults.{fault, HasFault, IsFree, IsOfText, IsTyped}
use Rattle.tm_syntax.specs.Faults.Marks.{Mark, first_mark, first_place, marked}
use Rattle.tm_types.specs.Answer.{HasFaultOf, HasTypeFault, IsFirstOf, IsFreeOf, type_kinds}
use Rattle.tm_types.specs.Firsts.{first_of}
use Rattle.tm_names.specs.ScopeNames.{mark_of}
use Rattle.tm_names.specs.declared.scopes.mark.NameMark.{NameMark}
use Rattle.tm_types.proofs.FirstLooping.{not_nothing}

-- there is no earliest one of nothing alone
nothing_there : {X : Type 0} (place : X → Place) (xs : List X) → None ≡ earliest place xs → xs ≡ []
nothing_there place [] none = refl
nothing_there place (x ∷ xs) none = absurd (not_nothing (sym none))

-- the first fault of a kind whose faults are places
pub of_places : (k : FaultKind) (spec : SpecTree) (places : List Place) → (places ≡ [] → IsFree spec k) →
    ((m : Mark) → first_place places ≡ Some m → HasFault k spec m) → (first : Option Place) →
    first ≡ first_of places → (result : Option Faulty) → result ≡ option_map (λ at. fault k (marked at)) first →
    IsFirstOf (k ∷ []) spec result
of_places k spec places free has first found result told =
    subst (λ (r : Option Faulty). IsFirstOf (k ∷ []) spec r) (sym told) (by first found)
  where
    by : (o : Option Place) → o ≡ first_of places →
        IsFirstOf (k ∷ []) spec (option_map (λ at. fault k (marked at)) o)
    by None none = (free (nothing_there (λ (at : Place). at) places none), tt)
    by (Some at) some = record {
      before = [];
      behind = [];
      among = refl;
      none_before = tt;
      has = has (marked at) (ap (option_map marked) (sym some));
    }

-- the first fault of a kind that tells names, where something is known of it
pub of_found : (k : FaultKind) (spec : SpecTree) (first : Option NameMark) → IfNone first (IsFree spec k) →
    IfSome first (λ m. HasFault k spec (mark_of m)) → (result : Option Faulty) →
    result ≡ option_map (λ m. fault k (mark_of m)) first → IsFirstOf (k ∷ []) spec result
of_found k spec None free has result told =
    subst (λ (r : Option Faulty). IsFirstOf (k ∷ []) spec r) (sym told) (free, tt)
of_found k spec (Some m) free has result told =
    subst (λ (r : Option Faulty). IsFirstOf (k ∷ []) spec r) (sym told) (record {
      before = [];
      behind = [];
      among = refl;
      none_before = tt;
      has = has;
    })

-- the first fault of a kind whose faults tell names
pub of_names : (k : FaultKind) (spec : SpecTree) (marks : List Mark) → (marks ≡ [] → IsFree spec k) →
    ((m : Mark) → first_mark marks ≡ Some m → HasFault k spec m) → (first : Option NameMark) →
    option_map mark_of first ≡ first_mark marks → (result : Option Faulty) →
    result ≡ option_map (λ m. fault k (mark_of m)) first → IsFirstOf (k ∷ []) spec result
of_names k spec marks free has None found result told =
    of_found k spec None (free (nothing_there (λ (m : Mark). m.place) marks found)) tt result told
of_names k spec marks free has (Some m) found result told =
    of_found k spec (Some m) tt (has (mark_of m) (sym found)) result told

-- what holds of all of two lists
all_joined : {X : Type 0} (P : X → Type 0) (xs ys : List X) → AllByRecursion P xs → AllByRecursion P ys →
    AllByRecursion P (xs ++ ys)
all_joined P [] ys one two = two
all_joined P (x ∷ xs) ys one two = (one.0, all_joined P xs ys one.1 two)

-- where there is none of some kinds, the first one of others is that of all
pub first_then : (ks js : List FaultKind) (spec : SpecTree) (r : Option Faulty) → IsFreeOf ks spec →
    IsFirstOf js spec r → IsFirstOf (ks ++ js) spec r
first_then ks js spec None free first = all_joined (IsFree spec) ks js free first
first_then ks js spec (Some f) free first = record {
  before = ks ++ first.before;
  behind = first.behind;
  among = ap (λ ls. ks ++ ls) first.among ∙ sym (append_assoc ks first.before (f.kind ∷ first.behind));
  none_before = all_joined (IsFree spec) ks first.before free first.none_before;
  has = first.has;
}

-- a fault of the first kinds is that of all
pub first_here : (ks js : List FaultKind) (spec : SpecTree) (f : Faulty) → HasFaultOf ks spec f →
    HasFaultOf (ks ++ js) spec f
first_here ks js spec f is = record {
  before = is.before;
  behind = is.behind ++ js;
  among = ap (λ ls. ls ++ js) is.among ∙ append_assoc is.before (f.kind ∷ is.behind) js;
  none_before = is.none_before;
  has = is.has;
}

-- where there is one of the first kinds, it is that of all
pub first_among : (ks js : List FaultKind) (spec : SpecTree) (r : Option Faulty) → ¬ IsFreeOf ks spec →
    IsFirstOf ks spec r → IsFirstOf (ks ++ js) spec r
first_among ks js spec None not first = absurd (not first)
first_among ks js spec (Some f) not first = first_here ks js spec f first

-- the fault of a tree, where it is one of names, types, calls or loops
pub type_fault : (spec : SpecTree) (f : Faulty) → HasFaultOf type_kinds spec f → HasTypeFault spec f
unfolding first_here
type_fault spec f is = record {
  before = is.before;
  behind = is.behind;
  among = is.among;
  is = record {
    before = is.before;
    behind = is.behind ++ kind.TemplateCycle ∷ kind.Limit ∷ [];
    kinds = (first_here type_kinds (kind.TemplateCycle ∷ kind.Limit ∷ []) spec f is).among;
    none_before = is.none_before;
    has = is.has;
  };
}

-- a tree of a text without these faults is a checked one
pub typed : (spec : SpecTree) → IsOfText spec → IsFreeOf type_kinds spec → IsTyped spec
typed spec of_text free = record {
  of_text = of_text;
  known = free.0;
  once = free.1.0;
  matching = free.1.1.0;
  fitting = free.1.1.1.0;
  no_call_cycle = free.1.1.1.1.0;
  crossing = free.1.1.1.1.1.0;
  atomic = free.1.1.1.1.1.1.0;
}
