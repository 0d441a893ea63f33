-- A certificate that fits the numbers of a design is one that can be read, from the value that is written for it.
use Rattle.std.proofs.Common.{◌≡◌, ℕ, ◌+◌, ◌<◌, List, [], ◌∷◌, ◌++◌, Some, length, get_or, map, take, refl, sym, ap}
use Rattle.std.proofs.Common.{◌∙◌, subst, append_assoc, arith}
use Rattle.std.specs.Prelude.{All, Contains, IsTrue, codes, slice_get}
use Rattle.std.specs.List.{range_with_len}
use Rattle.std.specs.List.Sorted.{IsPermutation}
use Rattle.std.proofs.lemmas.List.{get_or-take, get_or_at, length-append, length-take-le, take_at}
use Rattle.std.proofs.lemmas.List.Elements.{All-head, All-tail}
use Rattle.std.proofs.lemmas.Option.{get_or_from_slice_get, slice_get-get_or, slice_get_within}
use Rattle.serde_json.specs.Data.{Data, member, no_members}
use Rattle.serde_json.specs.View.{items_of}
use Rattle.tm_cert.specs.Cert.{DriverData, EnvData, LevelData}
use Rattle.tm_cert.specs.CertValue.{IsCert, IsChain, IsEntry, IsGoal, IsLevel, IsOrder, IsPlace, IsRank}
use Rattle.tm_cert.specs.Judge.{wants}
use Rattle.tm_cert.specs.Nodes.{ids_of}
use Rattle.tm_cert.specs.Parts.{AreParts, IsList, IsNumber}
use Rattle.tm_cert.specs.Written.{driver_data, entry_data, environment_data, goal_data, level_data, list_data}
use Rattle.tm_cert.specs.Written.{number_data, rank_data}
use Rattle.tm_cert.specs.declared.cert.Cert.TheVariants as certs
use Rattle.tm_cert.specs.declared.cert.Entry.{Entry}
use Rattle.tm_cert.specs.declared.cert.Rank.{Rank}
use Rattle.tm_cert.specs.declared.head.Format.TheVariants.{Second}
use Rattle.tm_cert.specs.declared.head.Side.TheVariants as sides
use Rattle.tm_cert.specs.declared.shape.CertShape.{CertShape}
use Rattle.tm_game_bits.proofs.Orders.{length_order, order_below, order_once}
use Rattle.tm_verdict.specs.Fitting.{AreNodes, FitsDriver, FitsEnvironment, FitsLevel, FitsRank}

-- ---- lists
-- parts that are told by themselves
parts_from : {A : Type 0} (f : A → Data) (P : A → Type 0) (IsPart : Data → A → Type 0) →
    ((x : A) → P x → IsPart (f x) x) → (earlier xs : List A) → All P xs →
    AreParts (λ _. IsPart) earlier (items_of (map f xs)) xs
parts_from f P IsPart so earlier [] all = tt
parts_from f P IsPart so earlier (x ∷ xs) all =
    (so x (All-head P x xs all), parts_from f P IsPart so (earlier ++ x ∷ []) xs (All-tail P x xs all))

list_from : {A : Type 0} (f : A → Data) (P : A → Type 0) (IsPart : Data → A → Type 0) →
    ((x : A) → P x → IsPart (f x) x) → (xs : List A) → All P xs → IsList (λ _. IsPart) (list_data f xs) xs
list_from f P IsPart so xs all = (items_of (map f xs), refl, parts_from f P IsPart so [] xs all)

-- parts that are told by their position
module _ {A : Type 0} (f : A → Data) (IsPart : List A → Data → A → Type 0) (whole : List A)
    (each : (k : ℕ) (x : A) → slice_get whole k ≡ Some x → IsPart (take k whole) (f x) x) where
  parts_at : (done rest : List A) → whole ≡ done ++ rest → AreParts IsPart done (items_of (map f rest)) rest
  parts_at done [] is = tt
  parts_at done (x ∷ xs) is =
      let within : length done < length whole =
      omega (arith, ap length is, length-append done (x ∷ xs)) in
      let here : slice_get whole (length done) ≡ Some x =
      slice_get-get_or whole (length done) x within
      ∙ ap Some (ap (λ (l : List A). get_or l (length done) x) is ∙ get_or_at done x xs x (length done) refl) in
      let before : take (length done) whole ≡ done =
      ap (take (length done)) is ∙ take_at done (x ∷ xs) (length done) refl in (
        subst (λ (l : List A). IsPart l (f x) x) before (each (length done) x here),
        parts_at (done ++ x ∷ []) xs (is ∙ sym (append_assoc done (x ∷ []) xs)),
      )

  list_at : IsList IsPart (list_data f whole) whole
  list_at = (items_of (map f whole), refl, parts_at [] whole refl)

-- ---- orders
module _ (bits : ℕ) (order : List ℕ) (is : IsPermutation (range_with_len 0 bits) order) where
  -- a place did not stand earlier
  is_new : (k place : ℕ) → slice_get order k ≡ Some place → Contains (take k order) place → ⊥
  is_new k place here there =
      let within : k < length order = slice_get_within order k place here in
      let below : there.0 < k = omega (arith, there.1, length-take-le k order (omega (arith, within))) in
      let earlier : get_or order there.0 0 ≡ place =
      get_or_from_slice_get order there.0 place 0
      (slice_get-get_or order there.0 place (omega (arith, below, within))
      ∙ ap Some (sym (get_or-take k order there.0 place below) ∙ there.2)) in
      let same = earlier ∙ sym (get_or_from_slice_get order k place 0 here) in
      let one = order_once bits order is there.0 k (omega (arith, below, within)) within same in
      absurd (omega (arith, below, one))

  place_below : (k place : ℕ) → slice_get order k ≡ Some place → place < bits
  place_below k place here =
      subst (λ (p : ℕ). p < bits) (get_or_from_slice_get order k place 0 here)
      (order_below bits order is k 0 (slice_get_within order k place here))

  order_are : IsOrder bits (list_data number_data order) order
  order_are = (
    list_at number_data (IsPlace bits) order (λ k place here. ((refl, place_below k place here), is_new k place here)),
    length_order bits order is,
  )

-- ---- parts
entries_are : (bits : ℕ) (nodes : List Entry) → AreNodes bits nodes →
    IsList (IsEntry bits) (list_data entry_data nodes) nodes
entries_are bits nodes are = list_at entry_data (IsEntry bits) nodes (λ k e here. (refl, are k e here))

goal_is : (fairs ids : ℕ) (ranks : List Rank) → All (FitsRank fairs ids) ranks →
    IsGoal fairs ids (goal_data ranks) ranks
goal_is fairs ids ranks fit = (
  member (codes "ranks") (list_data rank_data ranks) no_members,
  refl,
  refl,
  (
    list_data rank_data ranks,
    refl,
    list_from rank_data (FitsRank fairs ids) (IsRank fairs ids) (λ r fits. (refl, fits.fair, fits.set)) ranks fit,
  ),
)

chain_is : (ids : ℕ) (chain : List ℕ) → All (λ set. set < ids) chain → IsChain ids (list_data number_data chain) chain
chain_is ids chain fit =
    list_from number_data (λ set. set < ids) (IsNumber ids) (λ n fits. (refl, fits)) chain fit

level_is : (goals fairs ids : ℕ) (l : LevelData) → FitsLevel goals fairs ids l →
    IsLevel goals fairs ids (level_data l) l
level_is goals fairs ids l fits = (
  member (codes "chains") (list_data (list_data number_data) l.chains) (member (codes "goal") (number_data l.goal)
      (member (codes "set") (number_data l.set) no_members)),
  refl,
  record {
    chains_are = (
      list_data (list_data number_data) l.chains,
      refl,
      (
        list_from (list_data number_data) (All (λ set. set < ids)) (IsChain ids) (chain_is ids) l.chains fits.chains,
        fits.count,
      ),
    );
    goal_is = (number_data l.goal, refl, (refl, fits.goal));
    set_is = (number_data l.set, refl, (refl, fits.set));
    no_other = refl;
  },
)

-- ---- certificates
-- a driver's certificate that fits
pub driver_is : (shape : CertShape) (c : DriverData) → IsTrue (wants shape.wanted sides.Driver) →
    FitsDriver shape.bits shape.goals shape.fairs c → IsCert shape (driver_data shape.bits c) (certs.Driver c)
unfolding driver_data
driver_is shape c wanted fits =
    let ids = ids_of c.nodes in (
      Second,
      _,
      refl,
      record {
        head = record {
          format_is = (number_data 2, refl, refl);
          kind_is = (_, refl, refl);
          is_wanted = wanted;
          bits_are = (number_data shape.bits, refl, refl);
          order_is = (list_data number_data c.order, refl, order_are shape.bits c.order fits.order);
          nodes_are = (list_data entry_data c.nodes, refl, entries_are shape.bits c.nodes fits.nodes);
          no_other = refl;
        };
        region_is = (number_data c.region, refl, (refl, fits.region));
        goals_are = (
          list_data goal_data c.goals,
          refl,
          (
            list_from goal_data (All (FitsRank shape.fairs ids)) (IsGoal shape.fairs ids) (goal_is shape.fairs ids)
                c.goals fits.ranks,
            fits.count,
          ),
        );
      },
    )

-- an environment's
pub environment_is : (shape : CertShape) (c : EnvData) → IsTrue (wants shape.wanted sides.Environment) →
    FitsEnvironment shape.bits shape.goals shape.fairs c →
    IsCert shape (environment_data shape.bits c) (certs.Environment c)
unfolding environment_data
environment_is shape c wanted fits =
    let ids = ids_of c.nodes in (
      Second,
      _,
      refl,
      record {
        head = record {
          format_is = (number_data 2, refl, refl);
          kind_is = (_, refl, refl);
          is_wanted = wanted;
          bits_are = (number_data shape.bits, refl, refl);
          order_is = (list_data number_data c.order, refl, order_are shape.bits c.order fits.order);
          nodes_are = (list_data entry_data c.nodes, refl, entries_are shape.bits c.nodes fits.nodes);
          no_other = refl;
        };
        levels_are = (
          list_data level_data c.levels,
          refl,
          list_from level_data (FitsLevel shape.goals shape.fairs ids) (IsLevel shape.goals shape.fairs ids)
              (level_is shape.goals shape.fairs ids) c.levels fits.levels,
        );
      },
    )
