-- The trace of added predicates.
use Rattle.std.proofs.Common.{◌≡◌, ◌⊎◌, inl, inr, ℕ, zero, suc, ◌<◌, Bool, true, false, List, [], ◌∷◌, ◌++◌, map, slice_get, Option, Some, None, refl, sym, ap, ◌∙◌, subst, arith}
use Rattle.std.specs.Option.{option_map_or}
use Rattle.std.proofs.lemmas.List.Elements.{All-nil, All-cons, All-head, All-tail}
use Rattle.tm_syntax.specs.Design.{DesignTree}
use Rattle.tm_sem.specs.State.{StateData}
use Rattle.tm_flat_pool.specs.Predicates.{Predicate, predicate_holds}
use Rattle.tm_flat_pool.specs.Cells.{SameCell}
use Rattle.tm_refine.specs.declared.trace.Added.{Added}
use Rattle.tm_game_pool.specs.Separating.{predicates_at}
use Rattle.tm_refine.specs.Reasons.{TellsFirst, tracked_by}
use Rattle.tm_solve.proofs.Items.{some_same}

pub append_nil : (ks : List ℕ) → ks ++ [] ≡ ks
append_nil [] = refl
append_nil (k ∷ ks) = ap (λ r. k ∷ r) (append_nil ks)

append_twice : (xs ys zs : List ℕ) → (xs ++ ys) ++ zs ≡ xs ++ (ys ++ zs)
append_twice [] ys zs = refl
append_twice (x ∷ xs) ys zs = ap (λ r. x ∷ r) (append_twice xs ys zs)

map_more : (added : List Added) (a : Added) →
    map (λ (b : Added). b.predicate) (added ++ a ∷ []) ≡ map (λ (b : Added). b.predicate) added ++ a.predicate ∷ []
map_more [] a = refl
map_more (b ∷ bs) a = ap (λ r. b.predicate ∷ r) (map_more bs a)

pub tracked_more : (tracked : List ℕ) (added : List Added) (a : Added) →
    tracked_by tracked (added ++ a ∷ []) ≡ tracked_by tracked added ++ a.predicate ∷ []
tracked_more tracked added a =
    ap (λ (ks : List ℕ). tracked ++ ks) (map_more added a)
    ∙ sym (append_twice tracked (map (λ (x : Added). x.predicate) added) (a.predicate ∷ []))

-- ---- the first predicate that tells two states apart
agree_or_not : (a b : Bool) → (a ≡ b) ⊎ (¬ (a ≡ b))
agree_or_not true true = inl refl
agree_or_not true false = inr (λ e. cc)
agree_or_not false true = inr (λ e. cc)
agree_or_not false false = inl refl

module _ (d : DesignTree) (s t : StateData) where
  abbrev Same : Predicate → Type 0
  Same p = predicate_holds d s p ≡ predicate_holds d t p

  pub record Found (ps : List Predicate) : Type 0 where
    pub index : ℕ
    pub tells : TellsFirst d ps s t index

  later : (p : Predicate) (ps : List Predicate) → Same p → Found ps → Found (p ∷ ps)
  later p ps same found = record {
    index = suc found.index;
    tells = record {
      predicate = found.tells.predicate;
      at = found.tells.at;
      apart = found.tells.apart;
      before = λ i q less got. earlier i q less got;
    };
  }
    where
      earlier : (i : ℕ) (q : Predicate) → i < suc found.index → slice_get (p ∷ ps) i ≡ Some q → Same q
      earlier zero q less got = subst Same (some_same got) same
      earlier (suc i) q less got = found.tells.before i q (omega arith) got

  -- some predicate tells them apart, or they are in one cell
  pub first_or_same : (ps : List Predicate) → Found ps ⊎ SameCell d ps s t
  first_or_same [] = inr (All-nil Same)
  first_or_same (p ∷ ps) =
      elim (agree_or_not (predicate_holds d s p) (predicate_holds d t p)) [
        | inl same ↦
            elim (first_or_same ps) [
              | inl found ↦ inl (later p ps same found)
              | inr cell ↦ inr (All-cons Same p ps same cell)
            ]
        | inr apart ↦
            inl (record {
              index = 0;
              tells = record {
                predicate = p;
                at = refl;
                apart = apart;
                before = λ i q less got. absurd (omega arith);
              };
            })
      ]

  -- in one cell of predicates of some numbers, the predicate of each of these has one value
  rest_cell : (ps : List Predicate) (ms : List ℕ) (o : Option Predicate) →
      SameCell d (option_map_or (λ (q : Predicate). q ∷ predicates_at ps ms) o (predicates_at ps ms)) s t →
      SameCell d (predicates_at ps ms) s t
  rest_cell ps ms None cell = cell
  rest_cell ps ms (Some q) cell = All-tail Same q (predicates_at ps ms) cell

  head_same : (ps : List Predicate) (ms : List ℕ) (p : Predicate) (o : Option Predicate) → o ≡ Some p →
      SameCell d (option_map_or (λ (q : Predicate). q ∷ predicates_at ps ms) o (predicates_at ps ms)) s t → Same p
  head_same ps ms p None e cell = absurd (cc)
  head_same ps ms p (Some q) e cell = subst Same (some_same e) (All-head Same q (predicates_at ps ms) cell)

  in_cell : (ps : List Predicate) (ks : List ℕ) (i k : ℕ) (p : Predicate) →
      SameCell d (predicates_at ps ks) s t → slice_get ks i ≡ Some k → slice_get ps k ≡ Some p → Same p
  in_cell ps [] i k p cell got at = absurd (cc)
  in_cell ps (m ∷ ms) zero k p cell got at =
      head_same ps ms p (slice_get ps m) (ap (λ (n : ℕ). slice_get ps n) (some_same got) ∙ at) cell
  in_cell ps (m ∷ ms) (suc i) k p cell got at = in_cell ps ms i k p (rest_cell ps ms (slice_get ps m) cell) got at

  -- what tells states of one cell apart is not tracked
  pub is_new : (ps : List Predicate) (ks : List ℕ) (k : ℕ) → SameCell d (predicates_at ps ks) s t →
      TellsFirst d ps s t k → (i : ℕ) → slice_get ks i ≡ Some k → ⊥
  is_new ps ks k cell tells i got = tells.apart (in_cell ps ks i k tells.predicate cell got tells.at)
