-- The blocks turned round lead where the drafts led.
use Rattle.std.proofs.Common.{◌≡◌, ◌⊎◌, inl, inr, ℕ, zero, suc, ◌+◌, ◌-◌, ◌<◌, ◌≤◌, List, [], ◌∷◌, ◌++◌, Some, length}
use Rattle.std.proofs.Common.{slice_get, refl, sym, ap, ◌∙◌, subst, arith}
use Rattle.tm_sem.specs.State.{StateData}
use Rattle.tm_solve.specs.Sets.{StateSet}
use Rattle.tm_strat_drafts.specs.Moves.{Game}
use Rattle.tm_strat_drafts.specs.Blocks.{AreGood, AreLater, FitsLater, Leads, goes_first, goes_second, moves}
use Rattle.tm_strat_drafts.specs.Drafts.{blocks_of, AreEarlier, AreTurned, FitsBelow, FitsEarlier, turned_block}
use Rattle.tm_strat_drafts.specs.declared.drafts.DraftBlock.{DraftBlock}
use Rattle.tm_strat_drafts.specs.declared.drafts.DraftBlock.TheVariants.{Test, Move}
use Rattle.tm_strat_drafts.specs.declared.drafts.Draft.{Draft}
use Rattle.tm_strat_drafts.specs.declared.drafts.MoveChoice.{MoveChoice}
use Rattle.tm_strat_drafts.proofs.Items.{below_more, get_some, get_stays, get_last, get_below, length_more, some_same}

-- the draft of a block
pub draft_of : (ds : List Draft) (at : ℕ) (b : DraftBlock) → slice_get (blocks_of ds) at ≡ Some b →
    (d : Draft) × (slice_get ds at ≡ Some d) × (d.block ≡ b)
draft_of [] at b e = cc
draft_of (d ∷ ds) zero b e = (d, refl, some_same e)
draft_of (d ∷ ds) (suc at) b e = draft_of ds at b e

-- the block of a draft, where it stands now
pub block_turned : (ds : List Draft) (root : ℕ) (bs : List DraftBlock) (k : ℕ) (b : DraftBlock) →
    AreTurned ds root bs (root + 1) →
    k ≤ root → slice_get (blocks_of ds) k ≡ Some b → slice_get bs (root - k) ≡ Some (turned_block root b)
block_turned ds root bs k b turned below is =
    let found = draft_of ds k b is in
    let same : root - (root - k) ≡ k = omega arith in
    subst (λ (x : DraftBlock). slice_get bs (root - k) ≡ Some (turned_block root x)) found.2
    (turned.each (root - k) found.0 (omega arith)
    (subst (λ (n : ℕ). slice_get ds n ≡ Some found.0) (sym same) found.1))

pub leads_turned : (tests : ℕ) (g : Game) (ds : List Draft) (root : ℕ) (bs : List DraftBlock) (s : StateData)
    {k : ℕ} {m : MoveChoice} → AreEarlier tests ds →
    AreTurned ds root bs (root + 1) → k ≤ root → Leads g (blocks_of ds) s k m → Leads g bs s (root - k) m
leads_turned tests g ds root bs s {k = k} earlier turned below (goes_first {first = first} is so rest) =
    let found = draft_of ds k _ is in
    let fits = subst (λ (b : DraftBlock). FitsEarlier tests k b) found.2 (earlier.each k found.0 found.1) in
    goes_first (block_turned ds root bs k _ turned below is) so
    (leads_turned tests g ds root bs s earlier turned (omega (arith, fits.1, below)) rest)
leads_turned tests g ds root bs s {k = k} earlier turned below (goes_second {second = second} is so rest) =
    let found = draft_of ds k _ is in
    let fits = subst (λ (b : DraftBlock). FitsEarlier tests k b) found.2 (earlier.each k found.0 found.1) in
    goes_second (block_turned ds root bs k _ turned below is) so
    (leads_turned tests g ds root bs s earlier turned (omega (arith, fits.2, below)) rest)
leads_turned tests g ds root bs s {k = k} earlier turned below (moves is) = moves
    (block_turned ds root bs k _ turned below is)

-- the root stands first, and ends well where it did
pub good_turned : (tests : ℕ) (g : Game) (ds : List Draft) (root : ℕ) (bs : List DraftBlock) (set : StateSet) →
    AreEarlier tests ds →
    AreTurned ds root bs (root + 1) → AreGood g (blocks_of ds) root set → AreGood g bs 0 set
good_turned tests g ds root bs set earlier turned good = record {
  ends = λ s among held. let e = good.ends s among held in
      record {
        move = e.move;
        leads = subst (λ (n : ℕ). Leads g bs s n e.move) zero_there
            (leads_turned tests g ds root bs s earlier turned (omega arith) e.leads);
        good = e.good;
      };
}
  where
    zero_there : root - root ≡ 0
    zero_there = omega arith

-- each leads on to later ones alone
pub later_turned : (tests : ℕ) (ds : List Draft) (root : ℕ) (bs : List DraftBlock) → root < length ds →
    AreEarlier tests ds →
    AreTurned ds root bs (root + 1) → AreLater tests bs
later_turned tests ds root bs there earlier turned =
    let count = turned.count in record {
      some = omega (arith, count);
      each = λ at b is. here at b is
          (get_below bs at b is);
    }
  where
    turned_fits : (at : ℕ) (b : DraftBlock) → at ≤ root → FitsEarlier tests (root - at) b →
        FitsLater tests (length bs) at (turned_block root b)
    turned_fits at (Test test first second) below fits =
        let count = turned.count in (
          fits.0,
          omega (arith, fits.1, below),
          omega (arith, fits.1, count),
          omega (arith, fits.2, below),
          omega (arith, fits.2, count),
        )
    turned_fits at (Move m) below fits = tt

    here : (at : ℕ) (b : DraftBlock) → slice_get bs at ≡ Some b → at < length bs → FitsLater tests (length bs) at b
    here at b is below =
        let count = turned.count in
        let found = get_some ds (root - at) (omega arith) in
        let same = some_same (sym (turned.each at found.0 (omega (arith, count, below)) found.1) ∙ is) in
        subst (λ (x : DraftBlock). FitsLater tests (length bs) at x) same
        (turned_fits at found.0.block (omega (arith, count, below)) (earlier.each (root - at) found.0 found.1))

-- a block more
pub turned_more : (ds : List Draft) (root : ℕ) (bs cs : List DraftBlock) (n : ℕ) (d : Draft) → AreTurned ds root bs n →
    slice_get ds (root - n) ≡ Some d → cs ≡ bs ++ turned_block root d.block ∷ [] → AreTurned ds root cs (n + 1)
turned_more ds root bs cs n d turned is items =
    subst (λ (xs : List DraftBlock). AreTurned ds root xs (n + 1)) (sym items) (record {
      count = length_more bs (turned_block root d.block) ∙ ap (λ k. k + 1) turned.count;
      each = λ k e below here. at k e below here (below_more k n below);
    })
  where
    at : (k : ℕ) (e : Draft) → k < n + 1 → slice_get ds (root - k) ≡ Some e → (k < n) ⊎ (k ≡ n) →
        slice_get (bs ++ turned_block root d.block ∷ []) k ≡ Some (turned_block root e.block)
    at k e below here (inl l) = get_stays bs (turned_block root d.block) k _ (turned.each k e l here)
    at k e below here (inr l) =
        let same : d ≡ e = some_same (sym is ∙ ap (λ (j : ℕ). slice_get ds (root - j)) (sym l) ∙ here) in
        subst (λ (x : Draft). slice_get (bs ++ turned_block root d.block ∷ []) k ≡ Some (turned_block root x.block))
        same
        (subst (λ (j : ℕ). slice_get (bs ++ turned_block root d.block ∷ []) j ≡ Some (turned_block root d.block))
        (turned.count ∙ sym l) (get_last bs (turned_block root d.block)))

-- a draft leads on to blocks up to any root above it
pub below_root : (tests root k : ℕ) (block : DraftBlock) → k ≤ root → FitsEarlier tests k block → FitsBelow root block
below_root tests root k (Test test first second) below fits =
    (omega (arith, fits.1, below), omega (arith, fits.2, below))
below_root tests root k (Move m) below fits = tt

pub none_turned : (ds : List Draft) (root : ℕ) (bs : List DraftBlock) → bs ≡ [] → AreTurned ds root bs 0
none_turned ds root bs is =
    subst (λ (l : List DraftBlock). AreTurned ds root l 0) (sym is)
    (record { count = refl; each = λ k d below there. absurd (omega (arith, below)) })
