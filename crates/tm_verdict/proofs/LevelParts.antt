-- Levels are an environment's certificate exactly where each part of its conditions passes.
use Rattle.std.proofs.Common.{◌≡◌, ℕ, ◌<◌, Bool, Some, List, [], map, length, slice_get, sym, subst}
use Rattle.std.specs.Option.{option_map_or}
use Rattle.std.specs.List.{AllByRecursion, flat_map, range_with_len}
use Rattle.std.proofs.lemmas.Option.{slice_get_within}
use Rattle.tm_syntax.specs.Design.{DesignTree}
use Rattle.tm_sem.specs.State.{StateData}
use Rattle.tm_sem.specs.Certificates.{Level, MeetsEnvironment}
use Rattle.tm_verdict.specs.Environment.{HasShape, IsChain, IsLevel, LevelPart, Passes, chain_of, chain_parts, chain_places, chains_of, grows, is_forced_on, is_forced_within, is_in_chain, level_parts, level_parts_by_condition, level_places, lies_in, set_parts, shape_parts, waits_or_falls}
use Rattle.tm_verdict.proofs.Listed.{all_below, all_flat, all_mapped, each_below, each_flat, each_mapped}

module _ (d : DesignTree) (levels : List Level) where
  abbrev P : LevelPart → Type 0
  P = Passes d levels

  chain_passes : MeetsEnvironment d levels → (k i : ℕ) → AllByRecursion P (chain_parts levels k i)
  chain_passes meets k i = (
    (λ l chain is at. ((meets.e0 k l is).2 i chain at).0),
    all_flat P (set_parts k i) (range_with_len 0 (length (chain_of levels k i)))
        (all_below (λ x. AllByRecursion P (set_parts k i x)) (length (chain_of levels k i))
        (λ x low. (
          (λ l chain set is at here. (((meets.e0 k l is).2 i chain at).1 x set here).0),
          ((λ l chain set is at here. (((meets.e0 k l is).2 i chain at).1 x set here).1), tt),
        ))),
  )

  shape_passes : MeetsEnvironment d levels → (k : ℕ) → AllByRecursion P (shape_parts levels k)
  shape_passes meets k = (
    (λ l is. (meets.e0 k l is).0),
    (
      (λ l is. (meets.e0 k l is).1),
      all_flat P (chain_parts levels k) (chain_places levels k)
          (all_below (λ i. AllByRecursion P (chain_parts levels k i)) (length (chains_of levels k))
          (λ i low. chain_passes meets k i)),
    ),
  )

  -- a part for each chain of each level
  of_chains : (part : ℕ → ℕ → LevelPart) → ((k i : ℕ) → P (part k i)) →
      AllByRecursion P (flat_map (λ k. map (part k) (chain_places levels k)) (level_places levels))
  of_chains part passes =
      all_flat P (λ k. map (part k) (chain_places levels k)) (level_places levels)
      (all_below (λ k. AllByRecursion P (map (part k) (chain_places levels k))) (length levels)
      (λ k low. all_mapped P (part k) (chain_places levels k)
      (all_below (λ i. P (part k i)) (length (chains_of levels k)) (λ i inside. passes k i))))

  -- a part for each level
  of_levels : (part : ℕ → LevelPart) → ((k : ℕ) → P (part k)) → AllByRecursion P (map part (level_places levels))
  of_levels part passes =
      all_mapped P part (level_places levels) (all_below (λ k. P (part k)) (length levels) (λ k low. passes k))

  pub parts_pass : MeetsEnvironment d levels → AllByRecursion P (level_parts levels)
  parts_pass meets =
      all_flat P (λ parts. parts) (level_parts_by_condition levels) (
        all_flat P (shape_parts levels) (level_places levels)
            (all_below (λ k. AllByRecursion P (shape_parts levels k)) (length levels) (λ k low. shape_passes meets k)),
        (
          (meets.e1, tt),
          (
            of_levels is_forced_on (λ k l s is new holds. meets.e2 k l s is new holds),
            (
              of_chains is_in_chain (λ k i l chain s is at new. meets.e3 k i l chain s is at new),
              (
                of_levels is_forced_within (λ k l s is new. meets.e4 k l s is new),
                (of_chains waits_or_falls (λ k i l chain s is at new. meets.e5 k i l chain s is at new), tt),
              ),
            ),
          ),
        ),
      )

  at_level : (part : ℕ → LevelPart) → AllByRecursion P (map part (level_places levels)) → (k : ℕ) (l : Level) →
      IsLevel levels k l → P (part k)
  at_level part all k l is =
      each_below (λ n. P (part n)) (length levels) (each_mapped P part (level_places levels) all) k
      (slice_get_within levels k l is)

  -- a chain of a level stands among those that are listed
  chain_low : (k i : ℕ) (l : Level) (chain : List (StateData → Bool)) → IsLevel levels k l → IsChain l i chain →
      i < length (chains_of levels k)
  chain_low k i l chain is at =
      subst (λ o. i < length (option_map_or (λ (m : Level). m.chains) o [])) (sym is)
      (slice_get_within l.chains i chain at)

  at_chain : (part : ℕ → ℕ → LevelPart) →
      AllByRecursion P (flat_map (λ k. map (part k) (chain_places levels k)) (level_places levels)) → (k i : ℕ)
      (l : Level) (chain : List (StateData → Bool)) → IsLevel levels k l → IsChain l i chain → P (part k i)
  at_chain part all k i l chain is at =
      let of_level = each_below (λ n. AllByRecursion P (map (part n) (chain_places levels n))) (length levels)
      (each_flat P (λ n. map (part n) (chain_places levels n)) (level_places levels) all) k
      (slice_get_within levels k l is) in
      each_below (λ n. P (part k n)) (length (chains_of levels k))
      (each_mapped P (part k) (chain_places levels k) of_level) i (chain_low k i l chain is at)

  -- the parts of a level by itself, of a chain, and of a set
  shape_at : AllByRecursion P (flat_map (shape_parts levels) (level_places levels)) → (k : ℕ) (l : Level) →
      IsLevel levels k l → AllByRecursion P (shape_parts levels k)
  shape_at all k l is =
      each_below (λ n. AllByRecursion P (shape_parts levels n)) (length levels)
      (each_flat P (shape_parts levels) (level_places levels) all) k (slice_get_within levels k l is)

  chain_at : (k i : ℕ) (l : Level) (chain : List (StateData → Bool)) → IsLevel levels k l → IsChain l i chain →
      AllByRecursion P (shape_parts levels k) → AllByRecursion P (chain_parts levels k i)
  chain_at k i l chain is at all =
      each_below (λ n. AllByRecursion P (chain_parts levels k n)) (length (chains_of levels k))
      (each_flat P (chain_parts levels k) (chain_places levels k) all.1.1) i (chain_low k i l chain is at)

  set_low : (k i x : ℕ) (l : Level) (chain : List (StateData → Bool)) (set : StateData → Bool) →
      IsLevel levels k l → IsChain l i chain → slice_get chain x ≡ Some set → x < length (chain_of levels k i)
  set_low k i x l chain set is at here =
      subst
      (λ o. x < length (option_map_or (λ (c : List (StateData → Bool)). c)
      (slice_get (option_map_or (λ (m : Level). m.chains) o []) i) [])) (sym is)
      (subst (λ o. x < length (option_map_or (λ (c : List (StateData → Bool)). c) o [])) (sym at)
      (slice_get_within chain x set here))

  set_at : (k i x : ℕ) (l : Level) (chain : List (StateData → Bool)) (set : StateData → Bool) →
      IsLevel levels k l → IsChain l i chain → slice_get chain x ≡ Some set →
      AllByRecursion P (chain_parts levels k i) → P (grows k i x) × P (lies_in k i x)
  set_at k i x l chain set is at here all =
      let both = each_below (λ n. AllByRecursion P (set_parts k i n)) (length (chain_of levels k i))
      (each_flat P (set_parts k i) (range_with_len 0 (length (chain_of levels k i))) all.1) x
      (set_low k i x l chain set is at here) in
      (both.0, both.1.0)

  pub meets_of_parts : HasShape d levels → AllByRecursion P (level_parts levels) → MeetsEnvironment d levels
  meets_of_parts shape all =
      let each = each_flat P (λ parts. parts) (level_parts_by_condition levels) all in
      record {
        goals = shape.goals;
        chains = shape.chains;
        e0 = λ k l is.
            let own = shape_at each.0 k l is in (
              own.0 l is,
              own.1.0 l is,
              λ i chain at.
                  let of_chain = chain_at k i l chain is at own in (
                    of_chain.0 l chain is at,
                    (λ x set here.
                        let both = set_at k i x l chain set is at here of_chain in
                        (both.0 l chain set is at here, both.1 l chain set is at here)),
                  ),
            );
        e1 = each.1.0.0;
        e2 = λ k l s is new holds. at_level is_forced_on each.1.1.0 k l is l s is new holds;
        e3 = λ k i l chain s is at new. at_chain is_in_chain each.1.1.1.0 k i l chain is at l chain s is at new;
        e4 = λ k l s is new. at_level is_forced_within each.1.1.1.1.0 k l is l s is new;
        e5 = λ k i l chain s is at new.
            at_chain waits_or_falls each.1.1.1.1.1.0 k i l chain is at l chain s is at new;
      }
