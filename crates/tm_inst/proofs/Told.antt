-- What is told of a checked text: the fault of its templates or limits, or that there is none.
use Rattle.std.proofs.Common.{◌≡◌, ℕ, Some, List, [], ◌∷◌, length, refl, sym, ap, ◌∙◌, subst, arith}
use Rattle.std.proofs.Math.Logic.{∥∥₁_elim}
use Rattle.tm_base.specs.declared.place.Place.{Place}
use Rattle.tm_syntax.specs.declared.fault.FaultKind.{FaultKind}
use Rattle.tm_syntax.specs.declared.fault.FaultKind.TheVariants as kind
use Rattle.tm_syntax.specs.declared.fault.Faulty.{Faulty}
use Rattle.tm_syntax.specs.declared.fault.FrontError.{FrontError}
use Rattle.tm_syntax.specs.declared.fault.FrontError.TheVariants as front
use Rattle.tm_syntax.specs.declared.tree.Ident.{Ident}
use Rattle.tm_syntax.specs.Tree.{SpecTree}
use Rattle.tm_syntax.specs.Scopes.Calls.{ReachesTemplate}
use Rattle.tm_syntax.specs.Design.{DesignTree, IsDesign}
use Rattle.tm_syntax.specs.Design.Atoms.{pool_atoms}
use Rattle.tm_syntax.specs.Places.{earliest}
use Rattle.tm_syntax.specs.Faults.{fault, HasFault, HasTreeFault, IsFirst, here, later, IsSound, IsTyped}
use Rattle.tm_syntax.specs.Faults.Cycles.{TaskMark, TemplateMark, HoldsItself, all_tasks, all_templates}
use Rattle.tm_syntax.specs.Faults.Limits.{IsAboveLimit, IsWithinLimits, first_above, long_name, long_names, many, many_atoms}
use Rattle.tm_syntax.specs.Faults.Marks.{Mark, first_mark, first_place, named}
use Rattle.tm_syntax.proofs.Designs.{designs_agree}
use Rattle.tm_syntax.proofs.Faults.{tree_faults_agree}
use Rattle.tm_typing.proofs.Fitting.{not_empty}
use Rattle.tm_typing.proofs.Listed.{no_thing}
use Rattle.tm_inst.specs.Answer.{IsMemoryOr}
use Rattle.tm_inst.specs.Inner.Parts.{HasSoundParts, parts_tree}
use Rattle.tm_inst.specs.ShortTexts.{IsOfShortText}
use Rattle.tm_inst.specs.declared.parts.Parts.{Parts}

-- ---- a checked text

nothing_both : (x y : ⊥) → x ≡ y
nothing_both x y = absurd x

-- a list that cannot hold anything is empty
empty_known : {A : Type 0} {T : Type 0} (xs : List A) → ∥ T ∥₁ → (T → xs ≡ []) → xs ≡ []
empty_known [] known empty = refl
empty_known (x ∷ xs) known empty = absurd (∥∥₁_elim known nothing_both (λ t. not_empty (empty t)))

-- a short text that is known to be checked is checked
pub checked : (spec : SpecTree) → ∥ IsTyped spec ∥₁ → IsOfShortText spec → IsTyped spec
checked spec known short = record {
  of_text = record {
    text = short.text;
    tokens = short.tokens;
    are_tokens = short.are_tokens;
    is_tree = short.is_tree;
  };
  known = empty_known _ known (λ t. t.known);
  once = empty_known _ known (λ t. t.once);
  matching = empty_known _ known (λ t. t.matching);
  fitting = empty_known _ known (λ t. t.fitting);
  no_call_cycle = λ k reaches. ∥∥₁_elim known nothing_both (λ t. t.no_call_cycle k reaches);
  crossing = empty_known _ known (λ t. t.crossing);
  atomic = empty_known _ known (λ t. t.atomic);
}

-- a checked text whose parts are sound has a sound design
pub sound_parts : (spec : SpecTree) → IsTyped spec → (x : Parts) → HasSoundParts spec x → IsSound (parts_tree spec x)
sound_parts spec typed x sound = record {
  known = typed.known;
  once = typed.once;
  matching = typed.matching;
  fitting = typed.fitting;
  no_call_cycle = typed.no_call_cycle;
  crossing = typed.crossing;
  atomic = typed.atomic;
  no_template_cycle = sound.parts.acyclic;
  numbered = sound.parts.numbered;
  within = record { names = sound.parts.within.names; counts = sound.parts.within.counts; atoms = sound.few };
}

module _ (spec : SpecTree) (typed : IsTyped spec) where
  -- ---- its faults

  -- the first template that holds itself is the fault of a checked text
  pub cycle_told : (name : Ident) →
      IsFirst (λ (t : TemplateMark). t.mark) (HoldsItself spec) (all_templates spec) (named name) →
      HasTreeFault spec (fault kind.TemplateCycle (named name))
  cycle_told name first = record {
    before = kind.UnknownName ∷ kind.Twice ∷ kind.Mismatch ∷ kind.Literal ∷ kind.CallCycle
        ∷ kind.LoopWithoutLocation ∷ kind.LocationInAtomic ∷ [];
    behind = kind.Limit ∷ [];
    kinds = refl;
    none_before = (
      typed.known,
      (
        typed.once,
        (
          typed.matching,
          (
            typed.fitting,
            (
              typed.no_call_cycle,
              (typed.crossing, (typed.atomic, tt)),
            ),
          ),
        ),
      ),
    );
    has = first;
  }

  -- where no template holds itself, the first limit that is not kept is
  pub limit_told : (m : Mark) → ((t : ℕ) → ¬ ReachesTemplate spec t t) → IsAboveLimit spec m →
      HasTreeFault spec (fault kind.Limit m)
  limit_told m acyclic above = record {
    before = kind.UnknownName ∷ kind.Twice ∷ kind.Mismatch ∷ kind.Literal ∷ kind.CallCycle
        ∷ kind.LoopWithoutLocation ∷ kind.LocationInAtomic ∷ kind.TemplateCycle ∷ [];
    behind = [];
    kinds = refl;
    none_before = (
      typed.known,
      (
        typed.once,
        (
          typed.matching,
          (
            typed.fitting,
            (
              typed.no_call_cycle,
              (typed.crossing, (typed.atomic, (acyclic, tt))),
            ),
          ),
        ),
      ),
    );
    has = above;
  }

  -- ---- no fault

  -- what is first is so
  one_is : {X : Type 0} (mark : X → Mark) (Is : X → Type 0) (xs : List X) (m : Mark) → IsFirst mark Is xs m →
      (x : X) × Is x
  one_is mark Is _ _ (here {x = x} is rest) = (x, is)
  one_is mark Is _ m (later {xs = xs} first before) = one_is mark Is xs m first

  no_mark : (marks : List Mark) (m : Mark) → marks ≡ [] → first_mark marks ≡ Some m → ⊥
  no_mark marks m none first = no_thing (sym (ap first_mark none) ∙ first)

  no_place : (places : List Place) (m : Mark) → places ≡ [] → first_place places ≡ Some m → ⊥
  no_place places m none first = no_thing (sym (ap first_place none) ∙ first)

  no_limit : (m : Mark) (d : DesignTree) → d.spec ≡ spec → IsDesign d → IsWithinLimits d → IsAboveLimit spec m → ⊥
  no_limit _ d of design within (long_name name first) =
      no_thing (sym (ap (earliest (λ (n : Ident). n.place)) (ap long_names (sym of) ∙ within.names)) ∙ first)
  no_limit _ d of design within (many what none above) =
      no_thing (sym (ap first_above (sym of) ∙ within.counts) ∙ above)
  no_limit _ d of design within (many_atoms e none counts is other above) =
      let same : length (pool_atoms e) ≡ length (pool_atoms d) =
      ap (λ (d : DesignTree). length (pool_atoms d)) (designs_agree spec e d is of other design) in
      omega (arith, within.atoms, above, same)

  module _ (d : DesignTree) (of : d.spec ≡ spec) (sound : IsSound d) where
    acyclic : (t : ℕ) → ¬ ReachesTemplate spec t t
    acyclic = subst (λ (s : SpecTree). (t : ℕ) → ¬ ReachesTemplate s t t) of sound.no_template_cycle

    has_none : (k : FaultKind) (m : Mark) → HasFault k spec m → ⊥
    has_none kind.UnknownName m has = no_mark _ m typed.known has
    has_none kind.Twice m has = no_mark _ m typed.once has
    has_none kind.Mismatch m has = no_place _ m typed.matching has
    has_none kind.Literal m has = no_place _ m typed.fitting has
    has_none kind.CallCycle m has =
        let one = one_is (λ (k : TaskMark). k.mark) _ (all_tasks spec) m has in typed.no_call_cycle one.0.number one.1
    has_none kind.LoopWithoutLocation m has = no_place _ m typed.crossing has
    has_none kind.LocationInAtomic m has = no_place _ m typed.atomic has
    has_none kind.TemplateCycle m has =
        let one = one_is (λ (t : TemplateMark). t.mark) (HoldsItself spec) (all_templates spec) m has in
        acyclic one.0.number one.1
    has_none kind.Limit m has = no_limit m d of sound.numbered sound.within has
    has_none kind.Byte m has = has
    has_none kind.Syntax m has = has
    has_none kind.Deep m has = has

    -- a text with a sound design has no fault
    pub none_told : (f : Faulty) → HasTreeFault spec f → ⊥
    none_told f is = has_none f.kind (record { place = f.place; detail = f.detail }) is.has

-- what is told is the one fault that there is
pub faults_agree : (spec : SpecTree) (f : Faulty) (e : FrontError) → HasTreeFault spec f →
    IsMemoryOr (HasTreeFault spec) e → IsMemoryOr (λ g. g ≡ f) e
faults_agree spec f (front.Faulty g) is told = tree_faults_agree spec g f told is
faults_agree spec f front.Memory is told = tt
