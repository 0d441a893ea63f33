-- The diagrams of ranked regions, one after the other.
use Rattle.std.proofs.Common.{◌≡◌, ◌⊎◌, inl, inr, ℕ, ◌+◌, true, ◌||◌, List, [], ◌∷◌, ◌++◌, Some, length, refl, sym, ap}
use Rattle.std.proofs.Common.{◌∙◌, subst, arith}
use Rattle.std.specs.Prelude.{slice_get}
use Rattle.std.proofs.lemmas.List.{length_push}
use Rattle.tm_check.proofs.Pushed.{pushed_at}
use Rattle.tm_check.specs.declared.loaded.RankedDiagrams.{RankedDiagrams}
use Rattle.tm_check.specs.Loaded.{AreRankedDiagrams, IsRanked}
use Rattle.tm_check.proofs.Keeping.{ranked_kept}
use Rattle.tm_check.proofs.Parts.{within_next}
use Rattle.tm_check.proofs.States.{states_none}
use Rattle.tm_dd.specs.declared.node.NodeId.{NodeId}
use Rattle.tm_dd.specs.declared.node.TheConstants.{FALSE}
use Rattle.tm_dd.specs.Table.{means}
use Rattle.tm_ddops.specs.Manager.{IsFunction}
use Rattle.tm_verdict.specs.Found.{within_rank}
use Rattle.tm_game.specs.Game.{GameData, Grows, IsStates}
use Rattle.tm_game.proofs.Growing.{grows_then, states_kept}
use Rattle.tm_sem.specs.Certificates.{RankedSet}
use Rattle.tm_sem.specs.State.{StateData}
use Rattle.tm_syntax.specs.Design.{DesignTree}

-- the diagrams of the first ranked regions, and the states of all of them
pub record AreFirstRanks (d : DesignTree) (g : GameData) (ranked : List RankedSet) (count : ℕ)
    (told : List RankedDiagrams) (before : NodeId) : Type 0 where
  pub long : length told ≡ count
  pub each : (k : ℕ) (r : RankedSet) (x : RankedDiagrams) → slice_get ranked k ≡ Some r → slice_get told k ≡ Some x →
      IsRanked d g.order g.diagrams.table ranked k r x
  pub before_is : IsStates d g.order g.diagrams.table (λ t. within_rank ranked count t ≡ true) before

pub ranks_none : (d : DesignTree) (g : GameData) (ranked : List RankedSet) → AreFirstRanks d g ranked 0 [] FALSE
ranks_none d g ranked = record {
  long = refl;
  each = λ k r x this there. absurd (cc);
  before_is = states_none d g.order g.diagrams.table (λ t. within_rank ranked 0 t ≡ true) (λ st h. nowhere st h);
}
  where
    nowhere : (st : StateData) → within_rank ranked 0 st ≡ true → ⊥
    nowhere st h = absurd (cc)

pub ranks_more : (d : DesignTree) (g h k : GameData) (ranked : List RankedSet) (count : ℕ)
    (told : List RankedDiagrams) (before set within : NodeId) (r : RankedSet) (x : RankedDiagrams) → Grows g h →
    Grows h k → AreFirstRanks d g ranked count told before → slice_get ranked count ≡ Some r → x.fair ≡ r.fair →
    x.set ≡ set → x.within ≡ within → x.before ≡ before →
    IsStates d g.order h.diagrams.table (λ t. r.set t ≡ true) set →
    IsFunction k.diagrams.table within (λ v. means h.diagrams.table before v || means h.diagrams.table set v) →
    AreFirstRanks d k ranked (count + 1) (told ++ x ∷ []) within
ranks_more d g h k ranked count told before set within r x gh hk so_far here fair_is set_same within_same before_same
    set_is fn = record {
      long = omega (arith, length_push told x, so_far.long);
      each = each;
      before_is = subst (λ (n : ℕ). IsStates d k.order k.diagrams.table (λ t. within_rank ranked n t ≡ true) within)
          more within_is;
    }
  where
    gk : Grows g k
    gk = grows_then g h k gh hk

    more : 1 + count ≡ count + 1
    more = omega arith

    before_here : IsStates d g.order h.diagrams.table (λ t. within_rank ranked count t ≡ true) before
    before_here = subst (λ (o : List ℕ). IsStates d o h.diagrams.table (λ t. within_rank ranked count t ≡ true) before)
        gh.order (states_kept g h gh d (λ t. within_rank ranked count t ≡ true) before so_far.before_is)

    within_is : IsStates d k.order k.diagrams.table (λ t. within_rank ranked (1 + count) t ≡ true) within
    within_is = subst (λ (o : List ℕ).
        IsStates d o k.diagrams.table (λ t. within_rank ranked (1 + count) t ≡ true) within) (sym gk.order)
        (within_next ranked d g.order h.diagrams.table k.diagrams.table count r before set within here before_here
        set_is
        fn)

    set_at_h : IsStates d h.order h.diagrams.table (λ t. r.set t ≡ true) set
    set_at_h = subst (λ (o : List ℕ). IsStates d o h.diagrams.table (λ t. r.set t ≡ true) set) (sym gh.order) set_is

    last : IsRanked d k.order k.diagrams.table ranked count r x
    last = record {
      fair = fair_is;
      set = subst (IsStates d k.order k.diagrams.table (λ t. r.set t ≡ true)) (sym set_same)
          (states_kept h k hk d (λ t. r.set t ≡ true) set set_at_h);
      within = subst (IsStates d k.order k.diagrams.table (λ t. within_rank ranked (1 + count) t ≡ true))
          (sym within_same) within_is;
      before = subst (IsStates d k.order k.diagrams.table (λ t. within_rank ranked count t ≡ true)) (sym before_same)
          (states_kept g k gk d (λ t. within_rank ranked count t ≡ true) before so_far.before_is);
    }

    each : (n : ℕ) (q : RankedSet) (y : RankedDiagrams) → slice_get ranked n ≡ Some q →
        slice_get (told ++ x ∷ []) n ≡ Some y → IsRanked d k.order k.diagrams.table ranked n q y
    each n q y this there = by (pushed_at told x n y there)
      where
        by : (slice_get told n ≡ Some y) ⊎ ((n ≡ length told) × (x ≡ y)) →
            IsRanked d k.order k.diagrams.table ranked n q y
        by (inl before_it) =
            ranked_kept d g k gk ranked n q y (so_far.each n q y this before_it)
        by (inr (end, same)) =
            let place : n ≡ count = end ∙ so_far.long in
            let one : Some q ≡ Some r = sym this ∙ ap (slice_get ranked) place ∙ here in
            let own : r ≡ q = cc in
            subst (IsRanked d k.order k.diagrams.table ranked n q) same
            (subst (λ (m : ℕ). IsRanked d k.order k.diagrams.table ranked m q x) (sym place)
            (subst (λ (z : RankedSet). IsRanked d k.order k.diagrams.table ranked count z x) own last))

-- those of all ranks
pub ranks_all : (d : DesignTree) (g h : GameData) → Grows g h → (ranked : List RankedSet) (count : ℕ)
    (told : List RankedDiagrams) (before : NodeId) → length ranked ≡ count →
    AreFirstRanks d h ranked count told before → AreRankedDiagrams d g.order h.diagrams.table ranked told
ranks_all d g h grows ranked count told before all are = record {
  count = are.long ∙ sym all;
  each = λ k r x this there.
      subst (λ (o : List ℕ). IsRanked d o h.diagrams.table ranked k r x) grows.order (are.each k r x this there);
}
