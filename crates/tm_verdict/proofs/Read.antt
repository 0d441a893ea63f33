-- Certificates that are read fit the numbers for which they are read.
use Rattle.std.proofs.Common.{◌≡◌, ℕ, zero, suc, ◌+◌, ◌<◌, List, [], ◌∷◌, ◌++◌, take, get_or, Some, sym, subst, append-nil, append_assoc}
use Rattle.std.specs.Prelude.{All, slice_get}
use Rattle.std.specs.List.{range_with_len}
use Rattle.std.specs.List.Sorted.{IsPermutation}
use Rattle.std.proofs.lemmas.Bool.{eqb-true}
use Rattle.std.proofs.lemmas.List.Elements.{All-contains}
use Rattle.std.proofs.lemmas.List.Sorted.{IsPermutation-refl}
use Rattle.std.proofs.lemmas.Map.Views.{Contains-from_any}
use Rattle.std.proofs.lemmas.Option.{slice_get-get_or}
use Rattle.serde_json.specs.Data.{Data, Items, no_items, item, Members}
use Rattle.tm_cert.specs.declared.cert.Cert.TheVariants as certs
use Rattle.tm_cert.specs.declared.cert.Entry.{Entry}
use Rattle.tm_cert.specs.declared.cert.Rank.{Rank}
use Rattle.tm_cert.specs.declared.head.Format.{Format}
use Rattle.tm_cert.specs.declared.head.Format.TheVariants.{First, Second}
use Rattle.tm_cert.specs.declared.shape.CertShape.{CertShape}
use Rattle.tm_cert.specs.Cert.{DriverData, EnvData, LevelData}
use Rattle.tm_cert.specs.CertValue.{HasDriver, HasEnvironment, HasOrder, IsCertText, IsChain, IsEntry, IsGoal, IsLevel, IsOrder, IsPlace, IsRank}
use Rattle.tm_cert.specs.Nodes.{ids_of}
use Rattle.tm_cert.specs.Parts.{AreParts, IsList, IsNumber}
use Rattle.tm_verdict.specs.Fitting.{AreNodes, FitsDriver, FitsEnvironment, FitsLevel, FitsRank}
use Rattle.tm_verdict.proofs.Permuted.{all_numbers, never_twice}

-- each part of a list is one beside those before it
each_part : {A : Type 0} (IsPart : List A → Data → A → Type 0) (earlier : List A) (ds : Items) (xs : List A) →
    AreParts IsPart earlier ds xs → (k : ℕ) (x : A) → slice_get xs k ≡ Some x →
    (d : Data) × IsPart (earlier ++ take k xs) d x
each_part IsPart earlier no_items [] are k x is = absurd (cc)
each_part IsPart earlier no_items (y ∷ ys) are k x is = absurd are
each_part IsPart earlier (item d ds) [] are k x is = absurd are
each_part IsPart earlier (item d ds) (y ∷ ys) are zero x is =
    let same : y ≡ x = cc in
    (d, subst (λ before. IsPart before d x) (sym (append-nil earlier)) (subst (λ z. IsPart earlier d z) same are.0))
each_part IsPart earlier (item d ds) (y ∷ ys) are (suc k) x is =
    let found = each_part IsPart (earlier ++ y ∷ []) ds ys are.1 k x is in
    (found.0, subst (λ before. IsPart before found.0 x) (append_assoc earlier (y ∷ []) (take k ys)) found.1)

-- what each part is by itself, all of them are
all_parts : {A : Type 0} (IsPart : Data → A → Type 0) (P : A → Type 0) → ((d : Data) (x : A) → IsPart d x → P x) →
    (d : Data) (xs : List A) → IsList (λ _. IsPart) d xs → All P xs
all_parts IsPart P of d xs is k x within =
    let part = each_part (λ _. IsPart) [] is.0 xs is.2 k (get_or xs k x) (slice_get-get_or xs k x within) in
    of part.0 (get_or xs k x) part.1

nodes_are : (bits : ℕ) (d : Data) (nodes : List Entry) → IsList (IsEntry bits) d nodes → AreNodes bits nodes
nodes_are bits d nodes is k e at = (each_part (IsEntry bits) [] is.0 nodes is.2 k e at).1.1

order_is : (bits : ℕ) (d : Data) (order : List ℕ) → IsOrder bits d order →
    IsPermutation (range_with_len 0 bits) order
order_is bits d order is =
    let place : (k : ℕ) (x : ℕ) → slice_get order k ≡ Some x → (d' : Data) × IsPlace bits (take k order) d' x =
    each_part (IsPlace bits) [] is.0.0 order is.0.2 in
    let below : All (λ x. x < bits) order =
    λ k x within. (place k (get_or order k x) (slice_get-get_or order k x within)).1.0.1 in
    all_numbers bits order is.1
    (λ q there. All-contains (λ x. x < bits) order q below (Contains-from_any eqb-true q order there))
    (never_twice order (λ k x within. (place k (get_or order k x) (slice_get-get_or order k x within)).1.1))

order_of : (format : Format) (bits : ℕ) (ms : Members) (order : List ℕ) → HasOrder format bits ms order →
    IsPermutation (range_with_len 0 bits) order
order_of First bits ms order has =
    subst (λ (xs : List ℕ). IsPermutation (range_with_len 0 bits) xs) (sym has)
    (IsPermutation-refl (range_with_len 0 bits))
order_of Second bits ms order has = order_is bits has.0 order has.2

ranks_fit : (fairs ids : ℕ) (d : Data) (ranks : List Rank) → IsGoal fairs ids d ranks → All (FitsRank fairs ids) ranks
ranks_fit fairs ids d ranks is =
    all_parts (IsRank fairs ids) (FitsRank fairs ids) (λ d' r part. record { fair = part.1; set = part.2 }) is.3.0
    ranks is.3.2

chain_fits : (ids : ℕ) (d : Data) (chain : List ℕ) → IsChain ids d chain → All (λ set. set < ids) chain
chain_fits ids d chain is = all_parts (IsNumber ids) (λ set. set < ids) (λ d' n part. part.1) d chain is

level_fits : (goals fairs ids : ℕ) (d : Data) (l : LevelData) → IsLevel goals fairs ids d l →
    FitsLevel goals fairs ids l
level_fits goals fairs ids d l is =
    let has = is.2 in
    record {
      goal = has.goal_is.2.1;
      set = has.set_is.2.1;
      count = has.chains_are.2.1;
      chains = all_parts (IsChain ids) (All (λ set. set < ids)) (chain_fits ids) has.chains_are.0 l.chains
          has.chains_are.2.0;
    }

driver_fits : (shape : CertShape) (format : Format) (ms : Members) (c : DriverData) → HasDriver shape format ms c →
    FitsDriver shape.bits shape.goals shape.fairs c
driver_fits shape format ms c has = record {
  order = order_of format shape.bits ms c.order has.head.order_is;
  nodes = nodes_are shape.bits has.head.nodes_are.0 c.nodes has.head.nodes_are.2;
  region = has.region_is.2.1;
  count = has.goals_are.2.1;
  ranks = all_parts (IsGoal shape.fairs (ids_of c.nodes)) (All (FitsRank shape.fairs (ids_of c.nodes)))
      (ranks_fit shape.fairs (ids_of c.nodes)) has.goals_are.0 c.goals has.goals_are.2.0;
}

environment_fits : (shape : CertShape) (format : Format) (ms : Members) (c : EnvData) →
    HasEnvironment shape format ms c →
    FitsEnvironment shape.bits shape.goals shape.fairs c
environment_fits shape format ms c has = record {
  order = order_of format shape.bits ms c.order has.head.order_is;
  nodes = nodes_are shape.bits has.head.nodes_are.0 c.nodes has.head.nodes_are.2;
  levels = all_parts (IsLevel shape.goals shape.fairs (ids_of c.nodes))
      (FitsLevel shape.goals shape.fairs (ids_of c.nodes)) (level_fits shape.goals shape.fairs (ids_of c.nodes))
      has.levels_are.0 c.levels has.levels_are.2;
}

pub read_drivers_fit : (shape : CertShape) (text : List ℕ) (c : DriverData) → IsCertText shape text (certs.Driver c) →
    FitsDriver shape.bits shape.goals shape.fairs c
read_drivers_fit shape text c is = driver_fits shape is.1.2.0 is.1.2.1 c is.1.2.3

pub read_environments_fit : (shape : CertShape) (text : List ℕ) (c : EnvData) →
    IsCertText shape text (certs.Environment c) →
    FitsEnvironment shape.bits shape.goals shape.fairs c
read_environments_fit shape text c is = environment_fits shape is.1.2.0 is.1.2.1 c is.1.2.3
