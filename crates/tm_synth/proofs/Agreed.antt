-- Certificates whose sets agree at the valid states are unions of the same cells, and have chains of the same lengths.
use Rattle.std.proofs.Common.{◌≡◌, Bool, List, [], ◌∷◌, max, refl, sym, ◌∙◌}
use Rattle.std.specs.List.{AllZip}
use Rattle.tm_agreement.specs.Agreement.{Agree, DriversAgree, LevelAgrees, LevelsAgree, RankedAgree}
use Rattle.tm_agreement.proofs.Agreeing.{zip_at, zip_length}
use Rattle.tm_flat_pool.specs.Cells.{AreDriverUnions, AreLevelUnions, IsUnion}
use Rattle.tm_flat_pool.specs.Predicates.{Predicate}
use Rattle.tm_sem.specs.Certificates.{DriverSets, Level, longest_chain, longest_of}
use Rattle.tm_sem.specs.State.{StateData}
use Rattle.tm_syntax.specs.Design.{DesignTree}

module _ (d : DesignTree) (ps : List Predicate) where
  -- a set that agrees with a union of cells is one
  union_agrees : (a b : StateData → Bool) → Agree d a b → IsUnion d ps a → IsUnion d ps b
  union_agrees a b agree union s t is there same = sym (agree.same s is) ∙ union s t is there same ∙ agree.same t there

  pub driver_unions : (x y : DriverSets) → DriversAgree d x y → AreDriverUnions d ps x → AreDriverUnions d ps y
  driver_unions x y agree unions = record {
    region = union_agrees x.region y.region agree.region unions.region;
    ranks = λ goal k ranked r listed at.
        let row = zip_at (AllZip (RankedAgree d)) x.goals y.goals goal ranked agree.goals listed in
        let own = zip_at (RankedAgree d) row.0 ranked k r row.2 at in
        union_agrees own.0.set r.set own.2.set (unions.ranks goal k row.0 own.0 row.1 own.1);
  }

  pub level_unions : (xs ys : List Level) → LevelsAgree d xs ys → AreLevelUnions d ps xs → AreLevelUnions d ps ys
  level_unions xs ys agree unions = record {
    sets = λ k l at.
        let own = zip_at (LevelAgrees d) xs ys k l agree at in
        union_agrees own.0.set l.set own.2.set (unions.sets k own.0 own.1);
    chains = λ k i x l chain set at listed there.
        let own = zip_at (LevelAgrees d) xs ys k l agree at in
        let row = zip_at (AllZip (Agree d)) own.0.chains l.chains i chain own.2.chains listed in
        let one = zip_at (Agree d) row.0 chain x set row.2 there in
        union_agrees one.0 set one.2 (unions.chains k i x own.0 row.0 one.0 own.1 row.1 one.1);
  }

module _ (d : DesignTree) where
  longest_agrees : (xs ys : List (List (StateData → Bool))) → AllZip (AllZip (Agree d)) xs ys →
      longest_of xs ≡ longest_of ys
  longest_agrees [] [] agree = refl
  longest_agrees [] (y ∷ ys) agree = absurd agree
  longest_agrees (x ∷ xs) [] agree = absurd agree
  longest_agrees (x ∷ xs) (y ∷ ys) agree =
      λ i. max (zip_length (Agree d) x y agree.0 i) (longest_agrees xs ys agree.1 i)

  -- the longest chains are as long
  pub chains_agree : (xs ys : List Level) → LevelsAgree d xs ys → longest_chain xs ≡ longest_chain ys
  chains_agree [] [] agree = refl
  chains_agree [] (y ∷ ys) agree = absurd agree
  chains_agree (x ∷ xs) [] agree = absurd agree
  chains_agree (x ∷ xs) (y ∷ ys) agree =
      λ i. max (longest_agrees x.chains y.chains agree.0.chains i) (chains_agree xs ys agree.1 i)
