-- Runs go on from work to work, and end within the first that ends.
use Rattle.std.proofs.Common.{◌≡◌, ℕ, List, [], ◌∷◌, ◌++◌, sym, subst, append_assoc}
use Rattle.tm_syntax.specs.Design.{DesignTree}
use Rattle.tm_syntax.specs.Design.Work.{WorkItem}
use Rattle.tm_sem.specs.Value.{Memory}
use Rattle.tm_sem.specs.Run.{Ending, Run, ends, goes, progress, goes_on, comes_to}
use Rattle.tm_plain_bodies.specs.Going.{GoesOn, EndsWithin}

module _ (d : DesignTree) where
  -- no work
  pub goes_nowhere : (m : Memory) (cs : List ℕ) → GoesOn d [] m m cs cs
  goes_nowhere m cs rest e run = run

  module _ (first others : List WorkItem) (m : Memory) (cs : List ℕ) where
    -- an end before other work
    pub ends_before : (e : Ending) → EndsWithin d first m cs e → EndsWithin d (first ++ others) m cs e
    ends_before e one rest =
        subst (λ items. Run d items m cs e) (sym (append_assoc first others rest)) (one (others ++ rest))

  module _ (item : WorkItem) (m : Memory) (cs : List ℕ) where
    -- an item by itself
    pub goes_past : (n : Memory) (ds : List ℕ) → progress d m cs item ≡ goes_on [] n ds →
        GoesOn d (item ∷ []) m n cs ds
    goes_past n ds is rest e run = goes is run

    pub ends_at : (e : Ending) → progress d m cs item ≡ comes_to e → EndsWithin d (item ∷ []) m cs e
    ends_at e is rest = ends is
