-- What holds of the tables that walks leave, after one more walk.
use Rattle.std.proofs.Common.{◌≡◌, ℕ, ◌<◌, ◌≤◌, Bool, true, false, eqb, List, [], ◌∷◌, ◌++◌, length, Option, Some, get_or, refl, sym, ap, subst, ◌∙◌, arith}
use Rattle.std.proofs.lemmas.Bool.{eqb-true, eqb-false}
use Rattle.std.proofs.lemmas.List.{get_or_push, length_push}
use Rattle.tm_dd.specs.declared.node.NodeId.{NodeId}
use Rattle.tm_dd.specs.Reduced.{Extends}
use Rattle.tm_dd.specs.Table.{Table}
use Rattle.tm_dd.proofs.CallerLaws.{rank_of-Extends}
use Rattle.tm_ddops.specs.declared.change.Change.{Change}
use Rattle.tm_ddops.specs.declared.tables.Tables.{Tables}
use Rattle.tm_ddops.specs.declared.plans.Plan.{Plan}
use Rattle.tm_ddops.specs.declared.plans.Quantifier.{Quantifier}
use Rattle.tm_ddops.specs.declared.plans.Substitution.{Substitution}
use Rattle.tm_ddops.specs.Changed.{IsChanged, IsDepth, KnowsParts, change_at, change_of}
use Rattle.tm_ddops.specs.Inner.Plans.{AreQuantifiers, AreSubstitutions, HasNumber, IsPlan, quantified, substituting}
use Rattle.tm_ddops.specs.Inner.Memo.{AreChoices}
use Rattle.tm_ddops.specs.Inner.Tables.{AreTrue, AreVisits, IsTrueVisit, numbered}
use Rattle.tm_ddops.specs.Inner.Visited.{AreChanged, SameElsewhere, Visited, found_under}
use Rattle.tm_ddops.proofs.Changing.{IsChanged-Extends, changed_alike}
use Rattle.tm_ddops.proofs.Walks.{AreChoices-Extends}

IsTrueVisit-Extends : (s t : Table) → Extends s t → (lists : List (List (ℕ × Change))) (n : ℕ) (f id : NodeId) →
    IsTrueVisit s lists n f id → IsTrueVisit t lists n f id
IsTrueVisit-Extends s t e lists n f id x = record {
  within = x.within;
  changed = IsChanged-Extends s t e (numbered lists n) f id x.changed;
}

pub AreVisits-Extends : (s t : Table) → Extends s t → (lists : List (List (ℕ × Change))) (m : Visited) →
    AreVisits s lists m → AreVisits t lists m
AreVisits-Extends s t e lists m are n f id h = IsTrueVisit-Extends s t e lists n f id (are n f id h)

IsDepth-Extends : (s t : Table) → Extends s t → (changes : ℕ → Option Change) (depth : ℕ) → IsDepth s changes depth →
    IsDepth t changes depth
IsDepth-Extends s t e changes depth x = record {
  within = omega (arith, x.within, e.same_levels);
  stay = λ k below deep.
      x.stay k (omega (arith, below, e.same_levels)) (omega (arith, deep, rank_of-Extends s t e k));
}

IsPlan-Extends : (s t : Table) → Extends s t → (lists : List (List (ℕ × Change))) (changes : List (ℕ × Change))
    (p : Plan) → IsPlan s lists changes p → IsPlan t lists changes p
IsPlan-Extends s t e lists changes p x = record {
  number = x.number;
  deep = IsDepth-Extends s t e (change_of changes) p.depth x.deep;
  count = x.count ∙ sym e.same_levels;
  alike = λ k below. x.alike k (omega (arith, below, e.same_levels));
}

pub AreQuantifiers-Extends : (s t : Table) → Extends s t → (lists : List (List (ℕ × Change))) (kept : List Quantifier) →
    AreQuantifiers s lists kept → AreQuantifiers t lists kept
AreQuantifiers-Extends s t e lists kept are k d within =
    let x = get_or kept k d in
    IsPlan-Extends s t e lists (quantified x.levels.items) x.plan (are k d within)

pub AreSubstitutions-Extends : (s t : Table) → Extends s t → (lists : List (List (ℕ × Change)))
    (kept : List Substitution) → AreSubstitutions s lists kept → AreSubstitutions t lists kept
AreSubstitutions-Extends s t e lists kept are k d within =
    let x = get_or kept k d in
    IsPlan-Extends s t e lists (substituting x.parts.items) x.plan (are k d within)

pub AreTrue-Extends : (s t : Table) → Extends s t → (tables : Tables) → AreTrue s tables → AreTrue t tables
AreTrue-Extends s t e tables are = record {
  choices = AreChoices-Extends s t e tables.walks.choices are.choices;
  visits = AreVisits-Extends s t e tables.changes.keys tables.walks.found are.visits;
  quantifiers = AreQuantifiers-Extends s t e tables.changes.keys tables.quantifiers.items are.quantifiers;
  substitutions = AreSubstitutions-Extends s t e tables.changes.keys tables.substitutions.items are.substitutions;
}

-- ---- more numbered changes

module _ (s : Table) (lists more : List (List (ℕ × Change))) (grows : length lists ≤ length more)
    (kept : (n : ℕ) → n < length lists → get_or more n [] ≡ get_or lists n []) where
  visit_later : (n : ℕ) (f id : NodeId) → IsTrueVisit s lists n f id → IsTrueVisit s more n f id
  visit_later n f id x = record {
    within = omega (arith, x.within, grows);
    changed = subst (λ l. IsChanged s (change_of l) f id) (sym (kept n x.within)) x.changed;
  }

  pub visits_later : (m : Visited) → AreVisits s lists m → AreVisits s more m
  visits_later m are n f id h = visit_later n f id (are n f id h)

  number_later : (changes : List (ℕ × Change)) (n : ℕ) → HasNumber lists changes n → HasNumber more changes n
  number_later changes n x = record {
    within = omega (arith, x.within, grows);
    same = kept n x.within ∙ x.same;
  }

  plan_later : (changes : List (ℕ × Change)) (p : Plan) → IsPlan s lists changes p → IsPlan s more changes p
  plan_later changes p x = record
      { number = number_later changes p.number x.number; deep = x.deep; count = x.count; alike = x.alike }

  pub quantifiers_later : (kept : List Quantifier) → AreQuantifiers s lists kept → AreQuantifiers s more kept
  quantifiers_later kept are k d within =
      let x = get_or kept k d in
      plan_later (quantified x.levels.items) x.plan (are k d within)

  pub substitutions_later : (kept : List Substitution) → AreSubstitutions s lists kept → AreSubstitutions s more kept
  substitutions_later kept are k d within =
      let x = get_or kept k d in
      plan_later (substituting x.parts.items) x.plan (are k d within)

-- the entries are true after changes got a number
pub AreTrue-numbered : (s : Table) (old new : Tables) → length old.changes.keys ≤ length new.changes.keys
    → ((n : ℕ) → n < length old.changes.keys → get_or new.changes.keys n [] ≡ get_or old.changes.keys n [])
    → new.walks ≡ old.walks → new.quantifiers ≡ old.quantifiers → new.substitutions ≡ old.substitutions
    → AreTrue s old → AreTrue s new
AreTrue-numbered s old new grows kept walks quantifiers substitutions are = record {
  choices = subst (λ w. AreChoices s w.choices) (sym walks) are.choices;
  visits = visits_later s old.changes.keys new.changes.keys grows kept new.walks.found
      (subst (λ w. AreVisits s old.changes.keys w.found) (sym walks) are.visits);
  quantifiers = subst (λ q. AreQuantifiers s new.changes.keys q.items) (sym quantifiers)
      (quantifiers_later s old.changes.keys new.changes.keys grows kept old.quantifiers.items are.quantifiers);
  substitutions = subst (λ q. AreSubstitutions s new.changes.keys q.items) (sym substitutions)
      (substitutions_later s old.changes.keys new.changes.keys grows kept old.substitutions.items are.substitutions);
}

-- ---- a walk under the changes of a number

module _ (s : Table) (lists : List (List (ℕ × Change))) (number : ℕ) (table : ℕ → Option Change)
    (alike : (k : ℕ) → k < s.levels → table k ≡ numbered lists number k) where
  -- what was found under the number was found under its changes
  pub visits_of_number : (m : Visited) → AreVisits s lists m → AreChanged s table number m
  visits_of_number m are f id h =
      changed_alike s (numbered lists number) table (λ k below. sym (alike k below)) f id (are number f id h).changed

  -- the walk leaves true entries
  pub visits_after : (t : Table) → Extends s t → number < length lists → (m n : Visited) → AreVisits s lists m →
      AreChanged t table number n → SameElsewhere number m n → AreVisits t lists n
  visits_after t e within m n are changed others k f id h = by_number (eqb k number) refl
    where
      by_number : (b : Bool) → eqb k number ≡ b → IsTrueVisit t lists k f id
      by_number true same =
          let at : number ≡ k = sym (eqb-true k number same) in
          let here : found_under n number f ≡ Some id = ap (λ j. found_under n j f) at ∙ h in
          subst (λ j. IsTrueVisit t lists j f id) at (record {
            within = within;
            changed = changed_alike t table (numbered lists number)
                (λ j below. alike j (omega (arith, below, e.same_levels))) f id (changed f id here);
          })
      by_number false apart =
          IsTrueVisit-Extends s t e lists k f id
          (are k f id (sym (others k f (eqb-false k number apart)) ∙ h))

-- ---- a walk under the changes of a plan

module _ (s : Table) (lists : List (List (ℕ × Change))) (changes : List (ℕ × Change)) (p : Plan)
    (plan : IsPlan s lists changes p) where
  by_number : (k : ℕ) → k < s.levels → change_at p.by_level.items k ≡ numbered lists p.number k
  by_number k below = plan.alike k below ∙ ap (λ l. change_of l k) (sym plan.number.same)

  -- what the walk asks for
  pub plan_depth : IsDepth s (change_at p.by_level.items) p.depth
  plan_depth = record {
    within = plan.deep.within;
    stay = λ k below deep. plan.alike k below ∙ plan.deep.stay k below deep;
  }

  pub plan_parts : KnowsParts s (change_of changes) → KnowsParts s (change_at p.by_level.items)
  plan_parts known k below part h = known k below part (sym (plan.alike k below) ∙ h)

  pub plan_found : (m : Visited) → AreVisits s lists m → AreChanged s (change_at p.by_level.items) p.number m
  plan_found m are = visits_of_number s lists p.number (change_at p.by_level.items) by_number m are

  -- what it answers
  module _ (t : Table) (e : Extends s t) where
    pub plan_visits : (m n : Visited) → AreVisits s lists m → AreChanged t (change_at p.by_level.items) p.number n →
        SameElsewhere p.number m n → AreVisits t lists n
    plan_visits m n are changed others =
        visits_after s lists p.number (change_at p.by_level.items) by_number t e plan.number.within m n are changed
        others

    pub plan_answer : (f id : NodeId) → IsChanged t (change_at p.by_level.items) f id →
        IsChanged t (change_of changes) f id
    plan_answer f id x = changed_alike t (change_at p.by_level.items) (change_of changes)
        (λ k below. plan.alike k (omega (arith, below, e.same_levels))) f id x

-- ---- lists

-- what is put behind a list is the last
pub pushed : {A : Type 0} (xs ys : List A) (x : A) (n : ℕ) → ys ≡ xs ++ x ∷ [] → length xs ≡ n →
    (n < length ys) × ((d : A) → get_or ys n d ≡ x)
pushed xs ys x n same long = (
  omega (arith, ap length same, length_push xs x, long),
  (λ d. ap (λ l. get_or l n d) same ∙ get_or_push xs x d n long),
)
