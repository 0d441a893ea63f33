-- A turn: an atom's level gets the atom's value, and levels are quantified that no later atom reads.
use Rattle.std.proofs.Common.{◌≡◌, ◌⊎◌, inl, inr, ℕ, Bool, true, false, ◌&&◌, not, nat_eq, List, refl, sym, ap, ◌∙◌, true≢false}
use Rattle.std.specs.Prelude.{Contains, if◌then◌else◌}
use Rattle.std.proofs.lemmas.Bool.{and_from, and_parts, eq-eqb, eqb-true}
use Rattle.std.proofs.lemmas.Map.Made.{is_member-Decides}
use Rattle.std.specs.Set.{is_member}
use Rattle.tm_abs.specs.Inner.Eliminated.{AgreeBeside, IsEliminated}
use Rattle.tm_abs.specs.Inner.Quantified.{IsPutTo}
use Rattle.tm_dd.specs.declared.node.NodeId.{NodeId}
use Rattle.tm_dd.specs.NodeId.{complement}
use Rattle.tm_dd.specs.declared.node.TheConstants.{FALSE, TRUE}
use Rattle.tm_dd.specs.Reduced.{Extends}
use Rattle.tm_dd.specs.Table.{Table, Knows, means}
use Rattle.tm_dd.proofs.CallerLaws.{Extends-trans, means-FALSE, means-TRUE, means-complement}
use Rattle.tm_ddops.specs.Connective.{xor}
use Rattle.tm_ddops.specs.Manager.{IsFunction}
use Rattle.tm_ddops.specs.Quantified.{IsExists}
use Rattle.tm_game_bits.proofs.Leading.{true_or_false}
use Rattle.tm_game_bits.specs.Functions.{Assignment, Function}

contains_or_not : (ks : List ℕ) (k : ℕ) → Contains ks k ⊎ ¬ Contains ks k
contains_or_not ks k =
    let decides = is_member-Decides {eq = nat_eq} (λ a b. (eqb-true a b, eq-eqb a b)) ks k in
    elim (true_or_false (is_member nat_eq ks k)) [
      | inl h ↦ inl (decides.0 h)
      | inr not_so ↦ inr (λ c. true≢false (sym (decides.1 c) ∙ not_so))
    ]

one_of : {A : Type 0} → A ⊎ ¬ A → Bool → Bool → Bool
one_of (inl a) x y = x
one_of (inr b) x y = y

second_one : {A : Type 0} (o : A ⊎ ¬ A) (x y : Bool) → ¬ A → one_of o x y ≡ y
unfolding one_of
second_one (inl a) x y h = absurd (h a)
second_one (inr b) x y h = refl

-- values that are not different are one
same_values : (x y : Bool) → not (xor x y) ≡ true → x ≡ y
same_values true true e = refl
same_values false false e = refl
same_values true false e = absurd (cc)
same_values false true e = absurd (cc)

values_same : (x y : Bool) → x ≡ y → not (xor x y) ≡ true
values_same true true e = refl
values_same false false e = refl
values_same true false e = absurd (cc)
values_same false true e = absurd (cc)

pub bit_of : (b x y : Bool) → x ≡ true → y ≡ false → (if b then x else y) ≡ b
bit_of true x y p q = p
bit_of false x y p q = q

-- an atom is put to a set
pub related_then : (r s t u : Table) → Extends r s → Extends s t → Extends t u →
    (set : NodeId) (level : ℕ) (holds bit differs id : NodeId) → Knows r set → Knows r holds →
    IsFunction s bit (λ v. if v level then means s TRUE v else means s FALSE v) →
    IsFunction t differs (λ v. xor (means t bit v) (means t holds v)) →
    IsFunction u id (λ v. means u set v && means u (complement differs) v) →
    IsFunction u id (λ v. means r set v && not (xor (v level) (means r holds v)))
related_then r s t u rs st tu set level holds bit differs id set_known holds_known bit_is differs_is is = record {
  known = is.known;
  meaning = λ v.
      let ru = Extends-trans r t u (Extends-trans r s t rs st) tu in
      let first = ru.same_meaning set set_known v in
      let value = st.same_meaning bit bit_is.known v ∙ bit_is.meaning v
      ∙ bit_of (v level) (means s TRUE v) (means s FALSE v) (means-TRUE s v) (means-FALSE s v) in
      let other = (Extends-trans r s t rs st).same_meaning holds holds_known v in
      let second = means-complement u differs v
      ∙ ap not (tu.same_meaning differs differs_is.known v ∙ differs_is.meaning v
      ∙ (λ i. xor (value i) (other i))) in
      is.meaning v ∙ (λ i. first i && second i);
}

-- and then levels are quantified
pub put_then : (s t : Table) → Extends s t → (level : ℕ) (holds : Function) (ends : List ℕ) (f : Function)
    (related id : NodeId) → IsFunction s related (λ v. f v && not (xor (v level) (holds v))) →
    IsExists t ends related id → IsPutTo t level holds ends f id
put_then s t e level holds ends f related id is some = record {
  known = some.known;
  some = λ v h.
      let found = some.some v h in
      let w = found.0 in
      let parts = and_parts (f w) (not (xor (w level) (holds w)))
      (sym (e.same_meaning related is.known w ∙ is.meaning w) ∙ found.2) in
      (w, found.1, parts.0, same_values (w level) (holds w) parts.1);
  enough = λ v w agrees here same.
      some.enough v w agrees
      (e.same_meaning related is.known w ∙ is.meaning w
      ∙ and_from (f w) (not (xor (w level) (holds w))) here (values_same (w level) (holds w) same));
}

module _ (IsGone : ℕ → Type 0) (IsRelated : Assignment → Type 0) (f so_far : Function)
    (eliminated : IsEliminated IsGone IsRelated f so_far) (level : ℕ) (holds : Function) (stays : ¬ IsGone level)
    (reads : (v w : Assignment) → AgreeBeside IsGone v w → holds w ≡ holds v) (s : Table) (ends : List ℕ)
    (id : NodeId) (put : IsPutTo s level holds ends so_far id) where
  met_then : (v : Assignment) → means s id v ≡ true →
      (w : Assignment) × AgreeBeside (λ k. IsGone k ⊎ Contains ends k) v w
      × ((w level ≡ holds w) × IsRelated w) × (f w ≡ true)
  met_then v here =
      let near = put.some v here in
      let found = eliminated.some near.0 near.2 in (
        found.0,
        λ k beside. found.1 k (λ gone. beside (inl gone)) ∙ near.1 k (λ listed. beside (inr listed)),
        (found.1 level stays ∙ near.3 ∙ sym (reads near.0 found.0 found.1), found.2),
        found.3,
      )

  -- the levels that end as one assignment has them, the others as another
  abbrev ended : Assignment → Assignment → Assignment
  ended w v k = one_of (contains_or_not ends k) (w k) (v k)

  -- values in the middle differ from the last ones at levels alone that were quantified before
  middle : (v w : Assignment) → AgreeBeside (λ k. IsGone k ⊎ Contains ends k) v w → (k : ℕ) → ¬ IsGone k →
      w k ≡ ended w v k
  unfolding one_of
  middle v w agrees k kept = by (contains_or_not ends k)
    where
      by : (o : Contains ends k ⊎ ¬ Contains ends k) → w k ≡ one_of o (w k) (v k)
      by (inl is) = refl
      by (inr not_so) = agrees k (λ h. elim h [ inl gone ↦ absurd (kept gone) | inr is ↦ absurd (not_so is) ])

  then_met : (v w : Assignment) → AgreeBeside (λ k. IsGone k ⊎ Contains ends k) v w →
      (w level ≡ holds w) × IsRelated w → f w ≡ true → means s id v ≡ true
  then_met v w agrees met here =
      let near = middle v w agrees in
      put.enough v (ended w v) (λ k beside. second_one (contains_or_not ends k) (w k) (v k) beside)
      (eliminated.enough (ended w v) w near met.1 here)
      (sym (near level stays) ∙ met.0 ∙ reads (ended w v) w near)

  pub turn_taken : IsEliminated (λ k. IsGone k ⊎ Contains ends k)
      (λ (w : Assignment). (w level ≡ holds w) × IsRelated w) f (means s id)
  turn_taken = record { some = met_then; enough = then_met }
