-- Sets of a certificate that is told again hold the same states, or the same valid ones. Here `order` is the new order,
-- and `old` the order of the certificate.
use Rattle.std.proofs.Common.{◌≡◌, ℕ, suc, ◌<◌, Bool, false, List, [], ◌∷◌, length, map, get_or, refl, sym, ap, ◌∙◌, subst, arith}
use Rattle.std.specs.List.{AllZip}
use Rattle.std.proofs.lemmas.List.{get_or_default}
use Rattle.tm_agreement.specs.Agreement.{Agree, DriversAgree, LevelAgrees, LevelsAgree, RankedAgree}
use Rattle.tm_cert.specs.declared.cert.Entry.{Entry}
use Rattle.tm_cert.specs.declared.cert.Rank.{Rank}
use Rattle.tm_cert.specs.Cert.{DriverData, EnvData, LevelData}
use Rattle.tm_game_bits.specs.Order.{IsOrder, level_in}
use Rattle.tm_game_bits.proofs.Orders.{length_order, level_of_place, order_below}
use Rattle.tm_numbering.specs.Parts.{ArePairs}
use Rattle.tm_numbering.proofs.Pairs.{maps_same}
use Rattle.tm_reorder.specs.declared.fields.Field.{Field}
use Rattle.tm_reorder.specs.Fields.{AreFields}
use Rattle.tm_reorder.specs.Inner.Clamped.{AreWithin}
use Rattle.tm_reorder.specs.Inner.Told.{ChainTold, DriverTold, EnvironmentTold, IsTold, LevelTold, RankTold, RanksTold, SeesRight}
use Rattle.tm_reorder.proofs.Within.{fields_sum, valid_within, within_agree}
use Rattle.tm_sem.specs.Certificates.{DriverSets, Level}
use Rattle.tm_sem.specs.State.{StateData}
use Rattle.tm_sem.specs.StateBits.{state_bits, state_widths}
use Rattle.tm_sem.specs.Step.{IsState}
use Rattle.std.specs.Prelude.{⊤, sum}
use Rattle.tm_syntax.specs.Design.{DesignTree}
use Rattle.tm_verdict.specs.Fitting.{AreNodes, FitsDriver, FitsEnvironment}
use Rattle.tm_verdict.specs.Sets.{bit_at, driver_sets, level_sets, levels_of, ranked_set, set_of}
use Rattle.tm_verdict.proofs.Values.{reads_levels}

-- what is told of items side by side
zip_pairs : {A B C D : Type 0} (f : A → C) (g : B → D) (P : A → B → Type 0) (R : D → C → Type 0) →
    ((x : A) (y : B) → P x y → R (g y) (f x)) → (olds : List A) (news : List B) → ArePairs P olds news (length olds) →
    AllZip R (map g news) (map f olds)
zip_pairs f g P R step [] [] are = tt
zip_pairs f g P R step [] (y ∷ ys) are = absurd (omega (arith, are.count))
zip_pairs f g P R step (x ∷ xs) [] are = absurd (omega (arith, are.count))
zip_pairs f g P R step (x ∷ xs) (y ∷ ys) are = (
  step x y (are.each 0 x y refl refl),
  zip_pairs f g P R step xs ys
      (record { count = omega (arith, are.count); each = λ k a b there is. are.each (suc k) a b there is }),
)

module _ (d : DesignTree) (order old : List ℕ) (is : IsOrder (length order) order) (old_is : IsOrder (length order) old)
  where
    old_length : length old ≡ length order
    old_length = length_order (length order) old old_is

    -- the bit of a place at a state
    place_bit : (s : StateData) (p : ℕ) → p < length order →
        bit_at d order s (level_in order p) ≡ get_or (state_bits d s) p false
    place_bit s p low =
        let found = level_of_place (length order) order is p low in
        ap (λ (q : ℕ). get_or (state_bits d s) q false)
        (get_or_default order (level_in order p) (length order) 0 found.below ∙ found.at)

    -- the numbers of a valid state are within their fields
    pub fields_within : (fields : List Field) → AreFields d fields → sum (state_widths d) ≡ length order →
        (s : StateData) → IsState d s → AreWithin fields (λ p. bit_at d order s (level_in order p)) 0
    fields_within fields are all s valid =
        within_agree fields (λ q. get_or (state_bits d s) q false) (λ p. bit_at d order s (level_in order p)) 0
        (λ q below. sym (place_bit s q (omega (arith, below, fields_sum d fields are, all))))
        (valid_within d fields are s valid)

    module _ (fields : List Field) (see : (ℕ → Bool) → ℕ → Bool) (right : SeesRight order old fields see)
        (IsSuch : StateData → Type 0)
        (within : (s : StateData) → IsSuch s → AreWithin fields (λ p. bit_at d order s (level_in order p)) 0)
        (old_nodes nodes : List Entry) (old_nodes_are : AreNodes (length order) old_nodes) where
      -- a bit of the old order is seen
      bit_seen : (s : StateData) → IsSuch s → (k : ℕ) → k < length order →
          see (bit_at d order s) k ≡ bit_at d old s k
      bit_seen s such k below =
          right (bit_at d order s) k (within s such) below
          ∙ place_bit s (get_or old k 0) (order_below (length order) old old_is k 0 (omega (arith, below, old_length)))
          ∙ ap (λ (q : ℕ). get_or (state_bits d s) q false)
          (get_or_default old k 0 (length old) (omega (arith, below, old_length)))

      -- a set holds such a state where it did
      set_at : (k n : ℕ) → IsTold see old_nodes nodes k n → (s : StateData) → IsSuch s →
          set_of d order nodes n s ≡ set_of d old old_nodes k s
      set_at k n told s such =
          told.same (bit_at d order s)
          ∙ reads_levels (length order) k old_nodes (see (bit_at d order s)) (bit_at d old s) old_nodes_are
          (bit_seen s such)

    -- ---- where no field is asked for, all sets are the same
    module _ (see : (ℕ → Bool) → ℕ → Bool) (right : SeesRight order old [] see) (old_nodes nodes : List Entry)
        (old_nodes_are : AreNodes (length order) old_nodes) where
      set_same : (k n : ℕ) → IsTold see old_nodes nodes k n → set_of d order nodes n ≡ set_of d old old_nodes k
      set_same k n told =
          λ i. λ s. set_at [] see right (λ _. ⊤) (λ _ _. tt) old_nodes nodes old_nodes_are k n told s tt i

      rank_same : (r q : Rank) → RankTold see old_nodes nodes r q →
          ranked_set d order nodes q ≡ ranked_set d old old_nodes r
      rank_same r q told =
          let set = set_same r.set q.set told.1 in
          λ i. record { fair = told.0 i; set = set i }

      ranks_same : (olds news : List Rank) → RanksTold see old_nodes nodes olds news →
          map (ranked_set d order nodes) news ≡ map (ranked_set d old old_nodes) olds
      ranks_same olds news told =
          maps_same (ranked_set d old old_nodes) (ranked_set d order nodes) (RankTold see old_nodes nodes) olds news
          rank_same told

      chain_same : (olds news : List ℕ) → ChainTold see old_nodes nodes olds news →
          map (set_of d order nodes) news ≡ map (set_of d old old_nodes) olds
      chain_same olds news told =
          maps_same (set_of d old old_nodes) (set_of d order nodes) (IsTold see old_nodes nodes) olds news set_same told

      level_same : (l m : LevelData) → LevelTold see old_nodes nodes l m →
          level_sets d order nodes m ≡ level_sets d old old_nodes l
      level_same l m told =
          let set = set_same l.set m.set told.set in
          let chains = maps_same (map (set_of d old old_nodes)) (map (set_of d order nodes))
          (ChainTold see old_nodes nodes) l.chains m.chains chain_same told.chains in
          λ i. record { goal = told.goal i; set = set i; chains = chains i }

    -- ---- else they hold the same valid states
    module _ (fields : List Field) (are : AreFields d fields) (all : sum (state_widths d) ≡ length order)
        (see : (ℕ → Bool) → ℕ → Bool) (right : SeesRight order old fields see) (old_nodes nodes : List Entry)
        (old_nodes_are : AreNodes (length order) old_nodes) where
      set_agrees : (k n : ℕ) → IsTold see old_nodes nodes k n →
          Agree d (set_of d order nodes n) (set_of d old old_nodes k)
      set_agrees k n told = record {
        same = λ s valid.
            set_at fields see right (IsState d) (fields_within fields are all) old_nodes nodes old_nodes_are k n told s
            valid;
      }

      rank_agrees : (r q : Rank) → RankTold see old_nodes nodes r q →
          RankedAgree d (ranked_set d order nodes q) (ranked_set d old old_nodes r)
      rank_agrees r q told = record { fair = told.0; set = set_agrees r.set q.set told.1 }

      ranks_agree : (olds news : List Rank) → RanksTold see old_nodes nodes olds news →
          AllZip (RankedAgree d) (map (ranked_set d order nodes) news) (map (ranked_set d old old_nodes) olds)
      ranks_agree olds news told =
          zip_pairs (ranked_set d old old_nodes) (ranked_set d order nodes) (RankTold see old_nodes nodes)
          (RankedAgree d) rank_agrees olds news told

      chain_agrees : (olds news : List ℕ) → ChainTold see old_nodes nodes olds news →
          AllZip (Agree d) (map (set_of d order nodes) news) (map (set_of d old old_nodes) olds)
      chain_agrees olds news told =
          zip_pairs (set_of d old old_nodes) (set_of d order nodes) (IsTold see old_nodes nodes) (Agree d) set_agrees
          olds news told

      level_agrees : (l m : LevelData) → LevelTold see old_nodes nodes l m →
          LevelAgrees d (level_sets d order nodes m) (level_sets d old old_nodes l)
      level_agrees l m told = record {
        goal = told.goal;
        set = set_agrees l.set m.set told.set;
        chains = zip_pairs (map (set_of d old old_nodes)) (map (set_of d order nodes)) (ChainTold see old_nodes nodes)
            (AllZip (Agree d)) chain_agrees l.chains m.chains told.chains;
      }

-- ---- certificates
module _ (d : DesignTree) (order : List ℕ) (is : IsOrder (length order) order) (see : (ℕ → Bool) → ℕ → Bool) where
  module _ (goals fairs : ℕ) (c moved : DriverData) (fits : FitsDriver (length order) goals fairs c)
      (told : DriverTold order see c moved) where
    -- the sets of the new certificate, where the order is given
    abbrev driver_in : List ℕ → DriverSets
    driver_in o = record {
      region = set_of d o moved.nodes moved.region;
      goals = map (map (ranked_set d o moved.nodes)) moved.goals;
    }

    pub drivers_same : SeesRight order c.order [] see → driver_sets d moved ≡ driver_sets d c
    drivers_same right =
        let one = set_same d order c.order is fits.order see right c.nodes moved.nodes fits.nodes c.region moved.region
        told.region in
        let all = maps_same (map (ranked_set d c.order c.nodes)) (map (ranked_set d order moved.nodes))
        (RanksTold see c.nodes moved.nodes) c.goals moved.goals
        (ranks_same d order c.order is fits.order see right c.nodes moved.nodes fits.nodes) told.goals in
        ap driver_in told.order ∙ (λ i. record { region = one i; goals = all i })

    pub drivers_agree : (fields : List Field) → AreFields d fields → sum (state_widths d) ≡ length order →
        SeesRight order c.order fields see → DriversAgree d (driver_sets d moved) (driver_sets d c)
    drivers_agree fields are all right =
        subst (λ (o : List ℕ). DriversAgree d (driver_in o) (driver_sets d c)) (sym told.order) (record {
          region = set_agrees d order c.order is fits.order fields are all see right c.nodes moved.nodes fits.nodes
              c.region moved.region told.region;
          goals = zip_pairs (map (ranked_set d c.order c.nodes)) (map (ranked_set d order moved.nodes))
              (RanksTold see c.nodes moved.nodes) (AllZip (RankedAgree d))
              (ranks_agree d order c.order is fits.order fields are all see right c.nodes moved.nodes fits.nodes)
              c.goals moved.goals told.goals;
        })

  module _ (goals fairs : ℕ) (c moved : EnvData) (fits : FitsEnvironment (length order) goals fairs c)
      (told : EnvironmentTold order see c moved) where
    abbrev levels_in : List ℕ → List Level
    levels_in o = map (level_sets d o moved.nodes) moved.levels

    pub levels_same : SeesRight order c.order [] see → levels_of d moved ≡ levels_of d c
    levels_same right =
        ap levels_in told.order
        ∙ maps_same (level_sets d c.order c.nodes) (level_sets d order moved.nodes) (LevelTold see c.nodes moved.nodes)
        c.levels moved.levels
        (level_same d order c.order is fits.order see right c.nodes moved.nodes fits.nodes) told.levels

    pub levels_agree : (fields : List Field) → AreFields d fields → sum (state_widths d) ≡ length order →
        SeesRight order c.order fields see → LevelsAgree d (levels_of d moved) (levels_of d c)
    levels_agree fields are all right =
        subst (λ (o : List ℕ). LevelsAgree d (levels_in o) (levels_of d c)) (sym told.order)
        (zip_pairs (level_sets d c.order c.nodes) (level_sets d order moved.nodes) (LevelTold see c.nodes moved.nodes)
        (LevelAgrees d)
        (level_agrees d order c.order is fits.order fields are all see right c.nodes moved.nodes fits.nodes) c.levels
        moved.levels told.levels)
