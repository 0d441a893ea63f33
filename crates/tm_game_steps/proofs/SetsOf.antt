-- Sets that terms tell, one behind the other.
use Rattle.std.proofs.Common.{◌≡◌, ℕ, ◌+◌, ◌<◌, ◌≤◌, true, ◌&&◌, List, [], ◌∷◌, ◌++◌, length, get_or, take, inl, inr, refl, sym, ap, ◌∙◌, subst, arith, length-append}
use Rattle.std.proofs.lemmas.Bool.{cases_lt}
use Rattle.std.proofs.lemmas.List.{get_or_append_left, take_more}
use Rattle.tm_base.specs.Arithmetic.{bit}
use Rattle.tm_dd.specs.declared.node.NodeId.{NodeId}
use Rattle.tm_dd.specs.Reduced.{Extends}
use Rattle.tm_dd.specs.Table.{Table, Knows, means}
use Rattle.tm_dd.proofs.CallerLaws.{Extends-trans}
use Rattle.tm_ddops.specs.Manager.{IsFunction}
use Rattle.tm_ddops.specs.Quantified.{AgreeElsewhere, IsForall}
use Rattle.tm_game_bits.specs.Diagrams.{IsSetOf}
use Rattle.tm_game_bits.specs.Functions.{Assignment}
use Rattle.tm_game_bits.proofs.Extended.{IsSetOf-Extends, Knows-Extends}
use Rattle.tm_game_bits.proofs.Sets.{both_true}
use Rattle.tm_game_steps.specs.Sets.{AreSets, IsAlwaysOneIn, IsOneIn}
use Rattle.tm_game_steps.specs.Setting.{IsTruthIn, Setting, choices_of, values_at}
use Rattle.tm_game_steps.proofs.Pushing.{last_of}
use Rattle.tm_game_steps.proofs.Ready.{same_bit}
use Rattle.tm_term.specs.declared.term.TermId.{TermId}
use Rattle.tm_term.specs.Value.{value_of}

-- a known truth is true where its term is 1
one_true : (x : Setting) (s : Table) (id : TermId) (node : NodeId) (v : Assignment) → IsTruthIn x s id node →
    value_of x.terms (values_at x v) id ≡ 1 → means s node v ≡ true
one_true x s id node v is one = same_bit (means s node v) true (sym (is.value v) ∙ one) refl

true_one : (x : Setting) (s : Table) (id : TermId) (node : NodeId) (v : Assignment) → IsTruthIn x s id node →
    means s node v ≡ true → value_of x.terms (values_at x v) id ≡ 1
true_one x s id node v is h = is.value v ∙ ap bit h

pub set_is : (x : Setting) (s t u : Table) (id : TermId) (valid node both : NodeId) → Knows s valid → Extends s t →
    Extends t u → IsTruthIn x t id node → IsFunction u both (λ v. means u valid v && means u node v) →
    IsSetOf u (IsOneIn x (means s valid) id) both
set_is x s t u id valid node both known first second truth is = record {
  known = is.known;
  only = λ v h.
      let two = both_true (means u valid v) (means u node v) (sym (is.meaning v) ∙ h) in
      (sym (valid_same v) ∙ two.0, true_one x t id node v truth (sym (second.same_meaning node truth.known v) ∙ two.1));
  all = λ v h.
      let here = valid_same v ∙ h.0 in
      let there = second.same_meaning node truth.known v ∙ one_true x t id node v truth h.1 in
      is.meaning v ∙ (λ i. here i && there i);
}
  where
    valid_same : (v : Assignment) → means u valid v ≡ means s valid v
    valid_same v =
        second.same_meaning valid (Knows-Extends s t first valid known) v ∙ first.same_meaning valid known v

pub always_is : (x : Setting) (s t u w : Table) (id : TermId) (levels : List ℕ) (valid node always both : NodeId) →
    Knows s valid → Extends s t → Extends t u → Extends u w → IsTruthIn x t id node → levels ≡ choices_of x →
    IsForall u levels node always → IsFunction w both (λ v. means w valid v && means w always v) →
    IsSetOf w (IsAlwaysOneIn x (means s valid) id) both
always_is x s t u w id levels valid node always both known first second third truth same for_all is = record {
  known = is.known;
  only = λ v h.
      let two = both_true (means w valid v) (means w always v) (sym (is.meaning v) ∙ h) in (
        sym (valid_same v) ∙ two.0,
        λ o others.
            true_one x t id node o truth
            (sym (second.same_meaning node truth.known o)
            ∙ for_all.all v o (sym (third.same_meaning always for_all.known v) ∙ two.1)
            (subst (λ (ls : List ℕ). AgreeElsewhere ls v o) (sym same) others)),
      );
  all = λ v h.
      let here = valid_same v ∙ h.0 in
      let there = third.same_meaning always for_all.known v
      ∙ for_all.enough v
      (λ o others.
      second.same_meaning node truth.known o
      ∙ one_true x t id node o truth (h.1 o (subst (λ (ls : List ℕ). AgreeElsewhere ls v o) same others))) in
      is.meaning v ∙ (λ i. here i && there i);
}
  where
    valid_same : (v : Assignment) → means w valid v ≡ means s valid v
    valid_same v =
        let both : Extends s u = Extends-trans s t u first second in
        third.same_meaning valid (Knows-Extends s u both valid known) v ∙ both.same_meaning valid known v

-- ---- lists
pub sets_none : (s : Table) (IsSuch : TermId → Assignment → Type 0) → AreSets s IsSuch [] []
sets_none s IsSuch = record { long = refl; each = λ i d e below. absurd (omega arith) }

pub sets_more : (s u : Table) (IsSuch : TermId → Assignment → Type 0) (ids : List TermId) (index : ℕ) (id : TermId)
    (nodes new : List NodeId) (node : NodeId) → index < length ids → id ≡ get_or ids index id → Extends s u →
    AreSets s IsSuch (take index ids) nodes → IsSetOf u (IsSuch id) node → new ≡ nodes ++ node ∷ [] →
    AreSets u IsSuch (take (index + 1) ids) new
sets_more s u IsSuch ids index id nodes new node inside here extends are is pushed =
    let all : take (index + 1) ids ≡ take index ids ++ id ∷ [] =
    take_more ids index id inside ∙ ap (λ (k : TermId). take index ids ++ k ∷ []) (sym here) in
    subst (λ (xs : List TermId). AreSets u IsSuch xs new) (sym all)
    (subst (AreSets u IsSuch (take index ids ++ id ∷ [])) (sym pushed)
    (more (take index ids) are))
  where
    more : (front : List TermId) → AreSets s IsSuch front nodes →
        AreSets u IsSuch (front ++ id ∷ []) (nodes ++ node ∷ [])
    more front were = record {
      long = omega (arith, length-append front (id ∷ []), length-append nodes (node ∷ []), were.long);
      each = each;
    }
      where
        each : (i : ℕ) (d : TermId) (e : NodeId) → i < length (front ++ id ∷ []) →
            IsSetOf u (IsSuch (get_or (front ++ id ∷ []) i d)) (get_or (nodes ++ node ∷ []) i e)
        each i d e below =
            elim (cases_lt i (length front))
            as (λ _. IsSetOf u (IsSuch (get_or (front ++ id ∷ []) i d)) (get_or (nodes ++ node ∷ []) i e)) [
              | inl before ↦
                  subst (λ (k : TermId). IsSetOf u (IsSuch k) (get_or (nodes ++ node ∷ []) i e))
                  (sym (get_or_append_left front (id ∷ []) d i before))
                  (subst (IsSetOf u (IsSuch (get_or front i d)))
                  (sym (get_or_append_left nodes (node ∷ []) e i (omega (arith, were.long))))
                  (IsSetOf-Extends s u extends (IsSuch (get_or front i d)) (get_or nodes i e) (were.each i d e before)))
              | inr behind ↦
                  let at : i ≡ length front = omega (arith, length-append front (id ∷ [])) in
                  subst (λ (k : TermId). IsSetOf u (IsSuch k) (get_or (nodes ++ node ∷ []) i e))
                  (sym (last_of front id i d at))
                  (subst (IsSetOf u (IsSuch id)) (sym (last_of nodes node i e (at ∙ sym were.long))) is)
            ]

-- the whole list
pub sets_all : (s : Table) (IsSuch : TermId → Assignment → Type 0) (ids : List TermId) (index : ℕ)
    (nodes : List NodeId) → length ids ≤ index → AreSets s IsSuch (take index ids) nodes → AreSets s IsSuch ids nodes
sets_all s IsSuch ids index nodes end are =
    subst (λ (xs : List TermId). AreSets s IsSuch xs nodes)
    (Rattle.std.proofs.lemmas.List.take_all index ids end) are
