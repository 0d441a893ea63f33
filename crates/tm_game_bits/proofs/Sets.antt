-- Diagrams of sets, from the operations that made them.
use Rattle.std.proofs.Common.{◌≡◌, ◌⊎◌, inl, inr, ℕ, Bool, true, false, ◌&&◌, ◌||◌, not, List, refl, sym, ap, ◌∙◌}
use Rattle.tm_dd.specs.declared.node.NodeId.{NodeId}
use Rattle.tm_dd.specs.NodeId.{complement}
use Rattle.tm_dd.specs.Table.{Table, Knows, means}
use Rattle.tm_dd.proofs.CallerLaws.{Knows-complement, means-complement}
use Rattle.tm_ddops.specs.Manager.{IsFunction}
use Rattle.tm_ddops.specs.Quantified.{AgreeElsewhere, IsExists}
use Rattle.tm_game_bits.specs.Functions.{Assignment}
use Rattle.tm_game_bits.specs.Diagrams.{IsSetOf}
use Rattle.tm_game_bits.proofs.Leading.{not_true}

-- both sides of `&&`
pub both_true : (a b : Bool) → (a && b) ≡ true → (a ≡ true) × (b ≡ true)
both_true true b h = (refl, h)
both_true false b h = absurd (cc)

-- a side of `||`
pub some_true : (a b : Bool) → (a || b) ≡ true → (a ≡ true) ⊎ (b ≡ true)
some_true true b h = inl refl
some_true false b h = inr h

pub true_first : (a b : Bool) → a ≡ true → (a || b) ≡ true
true_first true b h = refl
true_first false b h = absurd (cc)

pub true_second : (a b : Bool) → b ≡ true → (a || b) ≡ true
true_second true b h = refl
true_second false b h = h

-- the complement of a diagram is what it leaves out, and the other way round
pub turned : (s : Table) (id : NodeId) (v : Assignment) → means s id v ≡ not (means s (complement id) v)
turned s id v = twice (means s id v) ∙ ap not (sym (means-complement s id v))
  where
    twice : (b : Bool) → b ≡ not (not b)
    twice true = refl
    twice false = refl

-- a set of such assignments is one of other ones that are the same
pub IsSetOf-same : (s : Table) (P Q : Assignment → Type 0) (id : NodeId) → ((v : Assignment) → P v → Q v) →
    ((v : Assignment) → Q v → P v) → IsSetOf s P id → IsSetOf s Q id
IsSetOf-same s P Q id to from is = record {
  known = is.known;
  only = λ v h. to v (is.only v h);
  all = λ v h. is.all v (from v h);
}

-- a known diagram is the set of the assignments where it holds
pub IsSetOf-means : (s : Table) (id : NodeId) → Knows s id → IsSetOf s (λ v. means s id v ≡ true) id
IsSetOf-means s id known = record { known = known; only = λ v h. h; all = λ v h. h }

module _ (s : Table) (P Q : Assignment → Type 0) (f g id : NodeId) (p : IsSetOf s P f) (q : IsSetOf s Q g) where
  pub IsSetOf-and : IsFunction s id (λ v. means s f v && means s g v) → IsSetOf s (λ v. P v × Q v) id
  IsSetOf-and is = record {
    known = is.known;
    only = λ v h.
        let both = both_true (means s f v) (means s g v) (sym (is.meaning v) ∙ h) in
        (p.only v both.0, q.only v both.1);
    all = λ v h.
        let first = p.all v h.0 in
        let second = q.all v h.1 in
        is.meaning v ∙ (λ i. first i && second i);
  }

  pub IsSetOf-or : IsFunction s id (λ v. means s f v || means s g v) → IsSetOf s (λ v. P v ⊎ Q v) id
  IsSetOf-or is = record {
    known = is.known;
    only = λ v h. elim (some_true (means s f v) (means s g v) (sym (is.meaning v) ∙ h)) [
      | inl first ↦ inl (p.only v first)
      | inr second ↦ inr (q.only v second)
    ];
    all = λ v h. is.meaning v ∙ some_of v h;
  }
    where
      some_of : (v : Assignment) → P v ⊎ Q v → (means s f v || means s g v) ≡ true
      some_of v (inl h) = true_first (means s f v) (means s g v) (p.all v h)
      some_of v (inr h) = true_second (means s f v) (means s g v) (q.all v h)

-- the complement of a set
pub IsSetOf-not : (s : Table) (P : Assignment → Type 0) (f : NodeId) → IsSetOf s P f →
    IsSetOf s (λ v. ¬ P v) (complement f)
IsSetOf-not s P f is = record {
  known = Knows-complement s f is.known;
  only = λ v h p.
      let inside = is.all v p in
      let other = means-complement s f v in
      let never : not (means s f v) ≡ false = ap not inside in
      cc;
  all = λ v not_so. means-complement s f v ∙ ap not (not_true (means s f v) (λ h. not_so (is.only v h)));
}

-- what holds for some values of some levels
pub IsSetOf-exists : (t : Table) (P : Assignment → Type 0) (levels : List ℕ) (f id : NodeId) → IsSetOf t P f →
    IsExists t levels f id → IsSetOf t (λ v. (w : Assignment) × AgreeElsewhere levels v w × P w) id
IsSetOf-exists t P levels f id is some = record {
  known = some.known;
  only = λ v h. let there = some.some v h in (there.0, there.1, is.only there.0 there.2);
  all = λ v h. some.enough v h.0 h.1 (is.all h.0 h.2);
}
