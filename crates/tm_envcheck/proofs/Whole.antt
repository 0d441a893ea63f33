-- The parts of all conditions, as they are tried.
use Rattle.std.proofs.Common.{◌≡◌, ℕ, List, [], ◌∷◌, ◌++◌, length, map, sym, ap, ◌∙◌, arith}
use Rattle.std.specs.List.{AllByRecursion, flat_map}
use Rattle.std.specs.Option.{option_map_or}
use Rattle.std.proofs.lemmas.List.{append-nil}
use Rattle.std.proofs.lemmas.List.Concat.{flat_map_single}
use Rattle.std.proofs.lemmas.Option.{slice_get_within}
use Rattle.tm_envcheck.specs.declared.conditions.LevelCondition.TheVariants.{Shape, InChains, WaitsOrFalls}
use Rattle.tm_envcheck.specs.Inner.Parts.{parts_at, step_parts}
use Rattle.tm_sem.specs.Certificates.{Level}
use Rattle.tm_syntax.specs.Design.{DesignTree}
use Rattle.tm_verdict.specs.Environment.{Passes, begins_lost, chain_places, chains_of, is_forced_on}
use Rattle.tm_verdict.specs.Environment.{is_forced_within, is_in_chain, level_parts, level_places, waits_or_falls}
use Rattle.tm_verdict.proofs.Listed.{each_below, each_flat}

pub whole : (of : List Level) →
    flat_map (parts_at Shape of) (level_places of) ++ ((begins_lost ∷ []) ++ step_parts of) ≡ level_parts of
whole of =
    let ons = flat_map_single is_forced_on (level_places of) in
    let withins = flat_map_single is_forced_within (level_places of) in
    let chains : flat_map (parts_at InChains of) (level_places of)
    ≡ flat_map (λ k. map (is_in_chain k) (chain_places of k)) (level_places of) =
    λ i. flat_map (λ k. flat_map_single (is_in_chain k) (chain_places of k) i) (level_places of) in
    let waits : flat_map (parts_at WaitsOrFalls of) (level_places of)
    ≡ flat_map (λ k. map (waits_or_falls k) (chain_places of k)) (level_places of) =
    λ i. flat_map (λ k. flat_map_single (waits_or_falls k) (chain_places of k) i) (level_places of) in
    let last = waits ∙ sym (append-nil (flat_map (λ k. map (waits_or_falls k) (chain_places of k)) (level_places of)))
    in
    λ i. flat_map (parts_at Shape of) (level_places of)
    ++ ((begins_lost ∷ []) ++ (ons i ++ (chains i ++ (withins i ++ last i))))

-- every new state is in every chain, where these parts pass
pub in_chains_pass : (d : DesignTree) (of : List Level) →
    AllByRecursion (Passes d of) (flat_map (parts_at InChains of) (level_places of)) → (k i : ℕ) →
    Passes d of (is_in_chain k i)
in_chains_pass d of all k i l chain s is of_chain new =
    let levels = each_flat (Passes d of) (parts_at InChains of) (level_places of) all in
    let level = each_below (λ n. AllByRecursion (Passes d of) (parts_at InChains of n)) (length of) levels k
    (slice_get_within of k l is) in
    let chains = each_flat (Passes d of) (λ n. is_in_chain k n ∷ []) (chain_places of k) level in
    let same : chains_of of k ≡ l.chains = ap (λ o. option_map_or (λ (m : Level). m.chains) o []) is in
    let one = each_below (λ n. AllByRecursion (Passes d of) (is_in_chain k n ∷ [])) (length (chains_of of k)) chains i
    (let within = slice_get_within l.chains i chain of_chain in omega (arith, ap length same)) in
    one.0 l chain s is of_chain new
