-- The fault of a tree is one: of one kind, at one place, with one detail.
use Rattle.std.proofs.Common.{◌≡◌, false, Option, None, Some, List, [], ◌∷◌, ◌++◌, length, refl, sym, ap, ◌∙◌, subst, inl, inr, ⊎_elim}
use Rattle.std.specs.Prelude.{◌⊎◌, unwrap_or}
use mathlib.Core.Bool.{true≢false}
use Rattle.std.specs.List.{AllByRecursion}
use Rattle.tm_syntax.specs.declared.fault.FaultKind.{FaultKind}
use Rattle.tm_syntax.specs.declared.fault.FaultKind.TheVariants as kind
use Rattle.tm_syntax.specs.declared.fault.Quantity.TheVariants as quantity
use Rattle.tm_syntax.specs.declared.fault.Faulty.{Faulty}
use Rattle.tm_syntax.specs.declared.tree.Ident.{Ident}
use Rattle.tm_syntax.specs.Tree.{SpecTree}
use Rattle.tm_syntax.specs.Places.{text_start, is_before, earliest}
use Rattle.tm_syntax.specs.Design.{DesignTree}
use Rattle.tm_syntax.specs.Design.Atoms.{pool_atoms}
use Rattle.tm_syntax.specs.Faults.Marks.{Mark, first_mark, first_place}
use Rattle.tm_syntax.specs.Faults.Cycles.{TaskMark, all_tasks, CallsItself, TemplateMark, all_templates, HoldsItself}
use Rattle.tm_syntax.specs.Faults.Limits.{above, count_of, IsAboveLimit, long_name, many, many_atoms}
use Rattle.tm_syntax.proofs.Designs.{designs_agree}
use Rattle.tm_syntax.specs.Faults.{IsFirst, here, later, HasFault, IsFree, HasTreeFault}

some_agree : {X : Type 0} (x y : X) (o : Option X) → o ≡ Some x → o ≡ Some y → x ≡ y
some_agree x y o one other = ap (λ p. unwrap_or p x) (sym one ∙ other)

not_none : {X : Type 0} (x : X) (o : Option X) → o ≡ Some x → o ≡ None → ⊥
not_none x o one other = let e = sym one ∙ other in cc

module _ {X : Type 0} (mark : X → Mark) (Is : X → Type 0) where
  -- the first fault is not before a thing that none is before
  not_before : (x : X) (xs : List X) (m : Mark) → IsFirst mark Is xs m →
      AllByRecursion (λ y. Is y → is_before (mark y).place (mark x).place ≡ false) xs →
      is_before m.place (mark x).place ≡ false
  not_before x xs m (here is _) all = all.0 is
  not_before x xs m (later {xs = ys} first _) all = not_before x ys m first all.1

  first_agrees : (xs : List X) (m n : Mark) → IsFirst mark Is xs m → IsFirst mark Is xs n → m ≡ n
  first_agrees xs m n (here _ _) (here _ _) = refl
  first_agrees xs m n (here {x = x} {xs = ys} is all) (later other before) =
      absurd (true≢false (sym (before is) ∙ not_before x ys n other all))
  first_agrees xs m n (later first before) (here {x = x} {xs = ys} is all) =
      absurd (true≢false (sym (before is) ∙ not_before x ys m first all))
  first_agrees xs m n (later {xs = ys} first _) (later other _) = first_agrees ys m n first other

  -- where no thing is a fault there is no first one
  no_first : (xs : List X) (m : Mark) → IsFirst mark Is xs m → ((x : X) → ¬ Is x) → ⊥
  no_first xs m (here {x = x} is _) none = none x is
  no_first xs m (later {xs = ys} first _) none = no_first ys m first none

head_of : {X : Type 0} → X → List X → X
head_of d [] = d
head_of d (x ∷ xs) = x

tail_of : {X : Type 0} → List X → List X
tail_of [] = []
tail_of (x ∷ xs) = xs

-- two items of one list are the same, or one of them stands before the other one
same_or_before : {X : Type 0} (P : X → Type 0) (fronts others : List X) (x y : X) (cs ds : List X) →
    fronts ++ x ∷ cs ≡ others ++ y ∷ ds → AllByRecursion P fronts → AllByRecursion P others → (x ≡ y) ⊎ (P x ⊎ P y)
unfolding head_of tail_of
same_or_before P [] [] x y cs ds whole p q = inl (ap (head_of x) whole)
same_or_before P [] (b ∷ others) x y cs ds whole p q = inr (inl (subst P (sym (ap (head_of x) whole)) q.0))
same_or_before P (a ∷ fronts) [] x y cs ds whole p q = inr (inr (subst P (ap (head_of y) whole) p.0))
same_or_before P (a ∷ fronts) (b ∷ others) x y cs ds whole p q =
    same_or_before P fronts others x y cs ds (ap tail_of whole) p.1 q.1

limits_agree : (spec : SpecTree) (m n : Mark) → IsAboveLimit spec m → IsAboveLimit spec n → m ≡ n
limits_agree spec m n (long_name a first) (long_name b other) =
    ap (λ (name : Ident). above name.place quantity.Name (length name.text)) (some_agree a b _ first other)
limits_agree spec m n (long_name a first) (many _ none _) =
    absurd (not_none a _ first (ap (earliest (λ (name : Ident). name.place)) none))
limits_agree spec m n (long_name a first) (many_atoms _ none _ _ _ _) =
    absurd (not_none a _ first (ap (earliest (λ (name : Ident). name.place)) none))
limits_agree spec m n (many _ none _) (long_name b other) =
    absurd (not_none b _ other (ap (earliest (λ (name : Ident). name.place)) none))
limits_agree spec m n (many a _ first) (many b _ other) =
    ap (λ what. above text_start what (count_of spec what)) (some_agree a b _ first other)
limits_agree spec m n (many a _ first) (many_atoms _ _ within _ _ _) = absurd (not_none a _ first within)
limits_agree spec m n (many_atoms _ none _ _ _ _) (long_name b other) =
    absurd (not_none b _ other (ap (earliest (λ (name : Ident). name.place)) none))
limits_agree spec m n (many_atoms _ _ within _ _ _) (many b _ other) = absurd (not_none b _ other within)
limits_agree spec m n (many_atoms d _ _ of design _) (many_atoms e _ _ of' design' _) =
    ap (λ (d : DesignTree). above text_start quantity.Atoms (length (pool_atoms d)))
    (designs_agree spec d e of of' design design')

-- the first fault of a kind is one
kinds_agree : (k : FaultKind) (spec : SpecTree) (m n : Mark) → HasFault k spec m → HasFault k spec n → m ≡ n
kinds_agree kind.UnknownName spec m n first other = some_agree m n _ first other
kinds_agree kind.Twice spec m n first other = some_agree m n _ first other
kinds_agree kind.Mismatch spec m n first other = some_agree m n _ first other
kinds_agree kind.Literal spec m n first other = some_agree m n _ first other
kinds_agree kind.CallCycle spec m n first other = first_agrees _ _ _ m n first other
kinds_agree kind.LoopWithoutLocation spec m n first other = some_agree m n _ first other
kinds_agree kind.LocationInAtomic spec m n first other = some_agree m n _ first other
kinds_agree kind.TemplateCycle spec m n first other = first_agrees _ _ _ m n first other
kinds_agree kind.Limit spec m n first other = limits_agree spec m n first other
kinds_agree kind.Byte spec m n first other = absurd first
kinds_agree kind.Syntax spec m n first other = absurd first
kinds_agree kind.Deep spec m n first other = absurd first

-- a tree that has a fault of a kind is not free of it
has_or_free : (k : FaultKind) (spec : SpecTree) (m : Mark) → HasFault k spec m → IsFree spec k → ⊥
has_or_free kind.UnknownName spec m has free = not_none m _ has (ap first_mark free)
has_or_free kind.Twice spec m has free = not_none m _ has (ap first_mark free)
has_or_free kind.Mismatch spec m has free = not_none m _ has (ap first_place free)
has_or_free kind.Literal spec m has free = not_none m _ has (ap first_place free)
has_or_free kind.CallCycle spec m has free =
    no_first (λ (k : TaskMark). k.mark) (CallsItself spec) (all_tasks spec) m has (λ k. free k.number)
has_or_free kind.LoopWithoutLocation spec m has free = not_none m _ has (ap first_place free)
has_or_free kind.LocationInAtomic spec m has free = not_none m _ has (ap first_place free)
has_or_free kind.TemplateCycle spec m has free =
    no_first (λ (t : TemplateMark). t.mark) (HoldsItself spec) (all_templates spec) m has (λ t. free t.number)
has_or_free kind.Limit spec m has free = free m has
has_or_free kind.Byte spec m has free = has
has_or_free kind.Syntax spec m has free = has
has_or_free kind.Deep spec m has free = has

mark_of : Faulty → Mark
mark_of f = record { place = f.place; detail = f.detail }

kind_agrees : (spec : SpecTree) (f g : Faulty) → HasTreeFault spec f → HasTreeFault spec g → f.kind ≡ g.kind
unfolding mark_of
kind_agrees spec f g one other =
    ⊎_elim (λ same. same)
    (λ free. absurd (⊎_elim (has_or_free f.kind spec (mark_of f) one.has)
    (has_or_free g.kind spec (mark_of g) other.has)
    free))
    (same_or_before (IsFree spec) one.before other.before f.kind g.kind one.behind other.behind
    (sym one.kinds ∙ other.kinds) one.none_before
    other.none_before)

-- the fault of a tree is one
pub tree_faults_agree : (spec : SpecTree) (f g : Faulty) → HasTreeFault spec f → HasTreeFault spec g → f ≡ g
unfolding mark_of
tree_faults_agree spec f g first other =
    let same = kind_agrees spec f g first other in
    let marks : mark_of f ≡ mark_of g =
    kinds_agree g.kind spec (mark_of f) (mark_of g) (subst (λ k. HasFault k spec (mark_of f)) same first.has) other.has
    in λ i. record { kind = same i; place = (marks i).place; detail = (marks i).detail }
