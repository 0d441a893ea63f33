-- The sets of a certificate that fits have the shape that conditions ask for.
use Rattle.std.proofs.Common.{◌≡◌, ℕ, ◌<◌, List, length, map, Option, Some, None, refl, sym, ap, ◌∙◌, subst}
use Rattle.std.specs.Prelude.{All, slice_get}
use Rattle.std.specs.Option.{option_map}
use Rattle.std.proofs.lemmas.List.{length-map}
use Rattle.std.proofs.lemmas.Option.{get_or_from_slice_get, slice_get-map, slice_get_within}
use Rattle.tm_syntax.specs.Design.{DesignTree}
use Rattle.tm_sem.specs.Certificates.{Level, RankedSet, WaitForConditions}
use Rattle.tm_sem.specs.Fairness.{conditions}
use Rattle.tm_cert.specs.Cert.{DriverData, EnvData, LevelData}
use Rattle.tm_cert.specs.Nodes.{ids_of}
use Rattle.tm_verdict.specs.Fitting.{FitsDriver, FitsEnvironment, FitsLevel, FitsRank}
use Rattle.tm_verdict.specs.Sets.{driver_sets, level_sets, levels_of, ranked_set, set_of}
use Rattle.tm_verdict.specs.Environment.{HasShape}

-- what stands in a list of which each is such
at_index : {A : Type 0} (P : A → Type 0) (xs : List A) (k : ℕ) (x : A) → All P xs → slice_get xs k ≡ Some x → P x
at_index P xs k x all is = subst P (get_or_from_slice_get xs k x x is) (all k x (slice_get_within xs k x is))

-- from what a mapped element comes
from_map : {A B : Type 0} (f : A → B) (xs : List A) (k : ℕ) (y : B) → slice_get (map f xs) k ≡ Some y →
    (x : A) × (slice_get xs k ≡ Some x) × (f x ≡ y)
from_map {A = A} f xs k y is = by (slice_get xs k) refl (sym (slice_get-map f xs k) ∙ is)
  where
    by : (o : Option A) → slice_get xs k ≡ o → option_map f o ≡ Some y → (x : A) × (slice_get xs k ≡ Some x) × (f x ≡ y)
    by (Some x) at same = (x, at, cc)
    by None at same = absurd (cc)

pub goals_shape : (d : DesignTree) (bits : ℕ) (c : DriverData) →
    FitsDriver bits (length d.goals) (length (conditions d)) c → length (driver_sets d c).goals ≡ length d.goals
goals_shape d bits c fits = length-map c.goals (map (ranked_set d c.order c.nodes)) ∙ fits.count

pub fairs_shape : (d : DesignTree) (bits : ℕ) (c : DriverData) →
    FitsDriver bits (length d.goals) (length (conditions d)) c → WaitForConditions d (driver_sets d c)
fairs_shape d bits c fits goal k ranked r are is =
    let ranks = from_map (map (ranked_set d c.order c.nodes)) c.goals goal ranked are in
    let rank = from_map (ranked_set d c.order c.nodes) ranks.0 k r
    (ap (λ (rs : List RankedSet). slice_get rs k) ranks.2 ∙ is) in
    let all = at_index (All (FitsRank (length (conditions d)) (ids_of c.nodes)))
    c.goals goal ranks.0 fits.ranks ranks.1 in
    let one = at_index (FitsRank (length (conditions d)) (ids_of c.nodes)) ranks.0 k rank.0 all rank.1 in
    subst (λ (x : RankedSet). x.fair < length (conditions d)) rank.2 one.fair

pub levels_shape : (d : DesignTree) (bits : ℕ) (c : EnvData) →
    FitsEnvironment bits (length d.goals) (length (conditions d)) c → HasShape d (levels_of d c)
levels_shape d bits c fits =
    let one : (k : ℕ) (l : Level) → slice_get (levels_of d c) k ≡ Some l →
    (x : LevelData) × (level_sets d c.order c.nodes x ≡ l)
    × FitsLevel (length d.goals) (length (conditions d)) (ids_of c.nodes) x =
    λ k l is.
    let from = from_map (level_sets d c.order c.nodes) c.levels k l is in (
      from.0,
      from.2,
      at_index (FitsLevel (length d.goals) (length (conditions d)) (ids_of c.nodes))
          c.levels k from.0 fits.levels from.1,
    ) in
    record {
      goals = λ k l is. subst (λ (x : Level). x.goal < length d.goals) (one k l is).1 (one k l is).2.goal;
      chains = λ k l is.
          subst (λ (x : Level). length x.chains ≡ length (conditions d)) (one k l is).1
          (length-map (one k l is).0.chains (map (set_of d c.order c.nodes)) ∙ (one k l is).2.count);
    }
