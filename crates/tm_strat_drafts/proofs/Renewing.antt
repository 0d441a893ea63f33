-- Drafts made anew for another goal: they are as many, and their blocks stay.
use Rattle.std.proofs.Common.{◌≡◌, ◌⊎◌, inl, inr, ℕ, ◌+◌, ◌<◌, ◌≤◌, List, [], ◌∷◌, ◌++◌, length, slice_get, Some, refl}
use Rattle.std.proofs.Common.{sym, ap, ◌∙◌, subst, arith}
use Rattle.tm_solve.specs.Ids.{Ids}
use Rattle.tm_strat_drafts.specs.Drafts.{AreDrafts, AreEarlier, blocks_of, FitsEarlier, Stay}
use Rattle.tm_strat_drafts.specs.Moves.{all_tests, Game}
use Rattle.tm_strat_drafts.specs.declared.drafts.Draft.{Draft}
use Rattle.tm_strat_drafts.specs.declared.drafts.DraftBlock.{DraftBlock}
use Rattle.tm_strat_drafts.specs.declared.drafts.DraftBlock.TheVariants.{Test}
use Rattle.tm_strat_drafts.proofs.Items.{below_more, get_below, get_last, get_mapped, get_some, get_stays}
use Rattle.tm_strat_drafts.proofs.Items.{length_mapped, length_more, some_same}

-- no drafts
pub none_earlier : (tests : ℕ) (ds : List Draft) → ds ≡ [] → AreEarlier tests ds
none_earlier tests ds is = subst (AreEarlier tests) (sym is) (record { each = λ at d there. none at d there })
  where
    none : (at : ℕ) (d : Draft) → slice_get [] at ≡ Some d → FitsEarlier tests at d.block
    none at d there = cc

pub none_drafts : (g : Game) (ids : Ids) (ds : List Draft) → ds ≡ [] → AreDrafts g ids ds
none_drafts g ids ds is = subst (AreDrafts g ids) (sym is) (record {
  few = omega arith;
  earlier = none_earlier (all_tests g) [] refl;
  known = λ at d there. absurd (none at d there);
  good = λ at d there. absurd (none at d there);
})
  where
    none : (at : ℕ) (d : Draft) → slice_get [] at ≡ Some d → ⊥
    none at d there = cc

-- the first so many blocks are copied
abbrev pub AreCopied : List Draft → List DraftBlock → ℕ → Type 0
AreCopied ds bs n = (k : ℕ) (b : DraftBlock) → k < n → slice_get (blocks_of ds) k ≡ Some b → slice_get bs k ≡ Some b

-- one block more
pub copied_more : (ds : List Draft) (bs cs : List DraftBlock) (n : ℕ) (b : DraftBlock) → length bs ≡ n → n < length ds →
    ((d : Draft) → slice_get ds n ≡ Some d → d.block ≡ b) → cs ≡ bs ++ b ∷ [] → AreCopied ds bs n →
    AreCopied ds cs (n + 1)
copied_more ds bs cs n b count below read is copied k c inside there =
    subst (λ (l : List DraftBlock). slice_get l k ≡ Some c) (sym is) (at (below_more k n inside))
  where
    block : slice_get (blocks_of ds) n ≡ Some b
    block =
        let found = get_some ds n below in
        get_mapped (λ (d : Draft). d.block) ds n found.0 found.1
        ∙ ap (λ (x : DraftBlock). Some x) (read found.0 found.1)

    at : (k < n) ⊎ (k ≡ n) → slice_get (bs ++ b ∷ []) k ≡ Some c
    at (inl l) = get_stays bs b k c (copied k c l there)
    at (inr e) =
        let same : b ≡ c = some_same (sym block ∙ ap (λ (j : ℕ). slice_get (blocks_of ds) j) (sym e) ∙ there) in
        subst (λ (x : DraftBlock). slice_get (bs ++ b ∷ []) k ≡ Some x) same
        (subst (λ (j : ℕ). slice_get (bs ++ b ∷ []) j ≡ Some b) (count ∙ sym e) (get_last bs b))

-- where all are, they stay
pub all_copied : (ds : List Draft) (bs : List DraftBlock) (n : ℕ) → length ds ≤ n → AreCopied ds bs n →
    Stay (blocks_of ds) bs
all_copied ds bs n all copied = record {
  stay = λ k b there.
      let below = get_below (blocks_of ds) k b there in
      let count = length_mapped (λ (d : Draft). d.block) ds in
      copied k b (omega (arith, below, count, all)) there;
}

-- a block that is read of drafts leads on to as many as were made anew
pub fits_read : (tests : ℕ) (ds es : List Draft) (k : ℕ) (b : DraftBlock) → AreEarlier tests ds → k < length ds →
    ((d : Draft) → slice_get ds k ≡ Some d → d.block ≡ b) → length es ≡ k → FitsEarlier tests (length es) b
fits_read tests ds es k b earlier below read count =
    let found = get_some ds k below in
    subst (λ (n : ℕ). FitsEarlier tests n b) (sym count)
    (subst (λ (x : DraftBlock). FitsEarlier tests k x) (read found.0 found.1) (earlier.each k found.0 found.1))

pub count_blocks : (es fs : List Draft) (b : DraftBlock) → blocks_of fs ≡ blocks_of es ++ b ∷ [] →
    length fs ≡ length es + 1
count_blocks es fs b is =
    sym (length_mapped (λ (d : Draft). d.block) fs) ∙ ap (λ (l : List DraftBlock). length l) is
    ∙ length_more (blocks_of es) b ∙ ap (λ (n : ℕ). n + 1) (length_mapped (λ (d : Draft). d.block) es)

-- what a test leads on to
pub fits_test : (tests n test first second : ℕ) (b : DraftBlock) → b ≡ Test test first second → FitsEarlier tests n b →
    (test < tests) × (first < n) × (second < n)
fits_test tests n test first second b is fits = subst (λ (x : DraftBlock). FitsEarlier tests n x) is fits

pub fits_on : {g h : Game} (n : ℕ) (b : DraftBlock) → h ≡ g → FitsEarlier (all_tests g) n b →
    FitsEarlier (all_tests h) n b
fits_on n b game fits = subst (λ (q : Game). FitsEarlier (all_tests q) n b) (sym game) fits

pub none_copied : (ds : List Draft) (bs : List DraftBlock) → AreCopied ds bs 0
none_copied ds bs k b below there = absurd (omega (arith, below))

pub blocks_count : (es : List Draft) {n : ℕ} → length es ≡ n → length (blocks_of es) ≡ n
blocks_count es count = length_mapped (λ (d : Draft). d.block) es ∙ count
