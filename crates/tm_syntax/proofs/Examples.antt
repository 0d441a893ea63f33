-- The faults of the small texts.
use Rattle.std.proofs.Common.{◌≡◌, ℕ, zero, suc, ◌<◌, Option, None, Some, List, [], ◌∷◌, length, refl, sym, ap, ◌∙◌, subst, arith}
use Rattle.std.specs.Prelude.{Contains, codes, unwrap_or, slice_get, slice_index_or}
use Rattle.std.specs.Option.{option_and_then}
use Rattle.std.specs.List.{AllByRecursion}
use Rattle.tm_syntax.specs.declared.fault.FaultKind.TheVariants as kind
use Rattle.tm_syntax.specs.declared.fault.Quantity.TheVariants as quantity
use Rattle.tm_syntax.specs.Tree.{InstanceTree, TemplateTree, SpecTree}
use Rattle.tm_syntax.specs.Places.{text_start}
use Rattle.tm_syntax.specs.Scopes.Names.{template_number}
use Rattle.tm_syntax.specs.declared.member.Member.{Member}
use Rattle.tm_syntax.specs.Scopes.Calls.{Calls, Reaches, at_once, through, Holds, ReachesTemplate, directly, further}
use Rattle.tm_syntax.specs.Faults.Marks.{marked, named}
use Rattle.tm_syntax.specs.Faults.Limits.{above, many}
use Rattle.tm_syntax.specs.Faults.{fault, here, later, HasTreeFault}
use Rattle.tm_syntax.specs.Examples.{at, name_at, spinning, indexed, wide, circular}

no_some : {X : Type 0} (x : X) → None ≡ Some x → ⊥
no_some x e = cc

-- what holds of each item of a list holds of the one at an index
all_at : {X : Type 0} (P : X → Type 0) (xs : List X) (k : ℕ) (x : X) → slice_get xs k ≡ Some x → AllByRecursion P xs →
    P x
all_at P [] k x e all = absurd (no_some x e)
all_at P (y ∷ ys) zero x e all = subst P (ap (λ o. unwrap_or o x) e) all.0
all_at P (y ∷ ys) (suc k) x e all = all_at P ys k x e all.1

-- and of each item that the list contains
all_contained : {X : Type 0} (P : X → Type 0) (xs : List X) (x : X) (k : ℕ) → k < length xs →
    slice_index_or xs k x ≡ x → AllByRecursion P xs → P x
all_contained P [] x k bound e all = absurd (omega arith)
all_contained P (y ∷ ys) x zero bound e all = subst P e all.0
all_contained P (y ∷ ys) x (suc k) bound e all = all_contained P ys x k (omega arith) e all.1

-- where no template declares a task, none calls another one
no_calls : (spec : SpecTree) → AllByRecursion (λ (t : TemplateTree). t.tasks ≡ []) spec.templates → (a b : Member) →
    Calls spec a b → ⊥
no_calls spec none a b c = of_template (slice_get spec.templates a.template) refl c.is
  where
    of_template : (t : Option TemplateTree) → slice_get spec.templates a.template ≡ t →
        option_and_then (λ (t : TemplateTree). slice_get t.tasks a.index) t ≡ Some c.task → ⊥
    of_template None found is = no_some c.task is
    of_template (Some t) found is =
        no_some c.task (sym (ap (λ tasks. slice_get tasks a.index)
        (all_at (λ (t : TemplateTree). t.tasks ≡ []) spec.templates a.template t found none)) ∙ is)

no_call_cycle : (spec : SpecTree) → AllByRecursion (λ (t : TemplateTree). t.tasks ≡ []) spec.templates →
    (a b : Member) → Reaches spec a b → ⊥
no_call_cycle spec none a b (at_once {a = c} {b = d} first) = no_calls spec none c d first
no_call_cycle spec none a b (through {a = c} {b = d} first _) = no_calls spec none c d first

-- no template holds an instance of the one of this number
IsUnheld : SpecTree → ℕ → Type 0
IsUnheld spec held =
    AllByRecursion (λ (t : TemplateTree).
    AllByRecursion (λ (i : InstanceTree). template_number spec i.template.text ≡ Some held → ⊥) t.instances)
    spec.templates

not_held : (spec : SpecTree) (a b : ℕ) → IsUnheld spec b → Holds spec a b → ⊥
unfolding IsUnheld
not_held spec a b unheld h =
    all_contained (λ (i : InstanceTree). template_number spec i.template.text ≡ Some b → ⊥) h.template.instances
    h.instance h.holds.0 h.holds.1 h.holds.2
    (all_at (λ (t : TemplateTree).
    AllByRecursion (λ (i : InstanceTree). template_number spec i.template.text ≡ Some b → ⊥) t.instances) spec.templates
    a h.template h.is unheld) h.leads

not_reached : (spec : SpecTree) (a b : ℕ) → IsUnheld spec b → ReachesTemplate spec a b → ⊥
not_reached spec a b unheld (directly {a = c} {b = d} first) = not_held spec c d unheld first
not_reached spec a b unheld (further {b = c} {c = d} _ rest) = not_reached spec c d unheld rest

-- where no template declares an instance, none reaches another one
no_instances : (spec : SpecTree) → AllByRecursion (λ (t : TemplateTree). t.instances ≡ []) spec.templates → (a b : ℕ) →
    Holds spec a b → ⊥
no_instances spec none a b h =
    all_contained (λ _. ⊥) h.template.instances h.instance h.holds.0 h.holds.1 h.holds.2
    (subst (AllByRecursion (λ _. ⊥)) (sym (all_at (λ (t : TemplateTree). t.instances ≡ []) spec.templates a h.template
    h.is none)) tt)

no_template_cycle : (spec : SpecTree) → AllByRecursion (λ (t : TemplateTree). t.instances ≡ []) spec.templates →
    (a b : ℕ) → ReachesTemplate spec a b → ⊥
no_template_cycle spec none a b (directly {a = c} {b = d} first) = no_instances spec none c d first
no_template_cycle spec none a b (further {a = c} {b = d} first _) = no_instances spec none c d first

pub spinning_fault : HasTreeFault spinning (fault kind.LoopWithoutLocation (marked (at 3 13)))
spinning_fault = record {
  before = kind.UnknownName ∷ kind.Twice ∷ kind.Mismatch ∷ kind.Literal ∷ kind.CallCycle ∷ [];
  behind = kind.LocationInAtomic ∷ kind.TemplateCycle ∷ kind.Limit ∷ [];
  kinds = refl;
  none_before = (refl, (refl, (refl, (refl, ((λ k. no_call_cycle spinning (refl, tt) k k), tt)))));
  has = refl;
}

pub indexed_fault : HasTreeFault indexed (fault kind.Mismatch (marked (at 4 12)))
indexed_fault = record {
  before = kind.UnknownName ∷ kind.Twice ∷ [];
  behind = kind.Literal ∷ kind.CallCycle ∷ kind.LoopWithoutLocation ∷ kind.LocationInAtomic ∷ kind.TemplateCycle
      ∷ kind.Limit ∷ [];
  kinds = refl;
  none_before = (refl, (refl, tt));
  has = refl;
}

pub wide_fault : HasTreeFault wide (fault kind.Limit (above text_start quantity.State 257))
wide_fault = record {
  before = kind.UnknownName ∷ kind.Twice ∷ kind.Mismatch ∷ kind.Literal ∷ kind.CallCycle ∷ kind.LoopWithoutLocation
      ∷ kind.LocationInAtomic ∷ kind.TemplateCycle ∷ [];
  behind = [];
  kinds = refl;
  none_before = (
    refl,
    (
      refl,
      (
        refl,
        (
          refl,
          (
            (λ k. no_call_cycle wide (refl, tt) k k),
            (
              refl,
              (
                refl,
                ((λ t. no_template_cycle wide (refl, tt) t t), tt),
              ),
            ),
          ),
        ),
      ),
    ),
  );
  has = many quantity.State refl refl;
}

held_by : (a b : ℕ) (t : TemplateTree) (i : InstanceTree) → slice_get circular.templates a ≡ Some t →
    t.instances ≡ i ∷ [] → template_number circular i.template.text ≡ Some b → Holds circular a b
held_by a b t i is holds leads = record {
  template = t;
  instance = i;
  is = is;
  holds = subst (λ is. Contains is i) (sym holds) (0, (omega arith), refl);
  leads = leads;
}

circular_unheld : IsUnheld circular 0
unfolding IsUnheld
circular_unheld = (((λ e. absurd (cc)), tt), (((λ e. absurd (cc)), tt), (((λ e. absurd (cc)), tt), tt)))

pub circular_fault : HasTreeFault circular (fault kind.TemplateCycle (named (name_at (codes "A") 4 10)))
circular_fault = record {
  before = kind.UnknownName ∷ kind.Twice ∷ kind.Mismatch ∷ kind.Literal ∷ kind.CallCycle ∷ kind.LoopWithoutLocation
      ∷ kind.LocationInAtomic ∷ [];
  behind = kind.Limit ∷ [];
  kinds = refl;
  none_before = (
    refl,
    (
      refl,
      (
        refl,
        (
          refl,
          (
            (λ k. no_call_cycle circular (refl, (refl, (refl, tt))) k k),
            (
              refl,
              (refl, tt),
            ),
          ),
        ),
      ),
    ),
  );
  has = later (here (further first (directly second)) ((λ _. refl), tt)) (λ main. absurd (not_reached circular 0 0
      circular_unheld main));
}
  where
    first : Holds circular 1 2
    first = held_by 1 2 _ _ refl refl refl

    second : Holds circular 2 1
    second = held_by 2 1 _ _ refl refl refl
