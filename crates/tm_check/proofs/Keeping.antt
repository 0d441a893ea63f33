-- What is known of a driver and its certificate stays so where a game grows.
use Rattle.std.proofs.Common.{◌≡◌, ℕ, ◌+◌, true, List, length, get_or, refl, sym, ◌∙◌, subst}
use Rattle.std.specs.Prelude.{All, sum}
use Rattle.std.proofs.lemmas.Option.{slice_get-get_or}
use Rattle.tm_check.specs.declared.replies.Replies.{Replies}
use Rattle.tm_check.proofs.Growth.{sized_kept}
use Rattle.tm_check.proofs.KeepingReplies.{replies_kept}
use Rattle.tm_check.specs.declared.leaving.Leaving.{Leaving}
use Rattle.tm_check.specs.declared.loaded.DriverDiagrams.{DriverDiagrams}
use Rattle.tm_check.specs.declared.loaded.RankedDiagrams.{RankedDiagrams}
use Rattle.tm_check.specs.Leaving.{AreAnswers, AreLeaving, AreLeavingRanks}
use Rattle.tm_cert.specs.declared.cert.Entry.{Entry}
use Rattle.tm_cert.specs.Cert.{DriverData}
use Rattle.tm_check.specs.Loaded.{AreDiagrams, AreRankedDiagrams, CanLoad, IsLoadedIn, IsRanked, row_at}
use Rattle.tm_check.specs.Told.{HasTold, IsTold}
use Rattle.tm_cir.specs.Answer.{Answers, AnswersFrom, calls, goes_first, goes_second, idles, leaves}
use Rattle.tm_cir.specs.Fit.{FitBlocks}
use Rattle.tm_cir.specs.Tree.{BlockTree}
use Rattle.tm_cir.proofs.Deciding.{some_answer}
use Rattle.tm_cir.proofs.Determined.{one_answer}
use Rattle.tm_dd.specs.declared.node.NodeId.{NodeId}
use Rattle.tm_dd.specs.Table.{Knows}
use Rattle.tm_verdict.specs.Found.{MayLeave, within_rank}
use Rattle.tm_verdict.specs.Regular.{IsDriver}
use Rattle.tm_game.specs.Game.{GameData, Grows}
use Rattle.tm_game.proofs.Growing.{known_kept, of_kept, states_kept}
use Rattle.tm_game_bits.specs.Order.{IsOrder}
use Rattle.tm_game_bits.proofs.Orders.{length_order}
use Rattle.tm_verdict.specs.Loaded.{AreLoaded}
use Rattle.tm_sem.specs.declared.state.Move.{Move}
use Rattle.tm_sem.specs.Certificates.{DriverSets, RankedSet}
use Rattle.tm_sem.specs.State.{StateData}
use Rattle.tm_sem.specs.StateBits.{state_widths}
use Rattle.tm_sem.specs.Step.{is_driver_move}
use Rattle.tm_verdict.specs.Fitting.{AreNodes}
use Rattle.tm_syntax.specs.Design.{DesignTree}

-- blocks are a strategy of the driver
drives : (bs : List BlockTree) (s : StateData) (goal : ℕ) {at : ℕ} {m : Move} → AnswersFrom bs s goal at m →
    is_driver_move m ≡ true
drives bs s goal (goes_first is so rest) = drives bs s goal rest
drives bs s goal (goes_second is so rest) = drives bs s goal rest
drives bs s goal (calls is) = refl
drives bs s goal (leaves is) = refl
drives bs s goal (idles is) = refl

pub driver_is : (d : DesignTree) (bs : List BlockTree) → FitBlocks d bs → IsDriver (Answers bs)
driver_is d bs fit = record {
  total = λ s goal. some_answer d bs fit s goal;
  one = λ s goal move other first second. one_answer bs s goal other move second first;
  drives = λ s goal move answers. drives bs s goal answers;
}

module _ (d : DesignTree) (g h : GameData) (grows : Grows g h) where
  pub ranked_kept : (ranked : List RankedSet) (k : ℕ) (r : RankedSet) (x : RankedDiagrams) →
      IsRanked d g.order g.diagrams.table ranked k r x → IsRanked d h.order h.diagrams.table ranked k r x
  ranked_kept ranked k r x is = record {
    fair = is.fair;
    set = states_kept g h grows d (λ t. r.set t ≡ true) x.set is.set;
    within = states_kept g h grows d (λ t. within_rank ranked (1 + k) t ≡ true) x.within is.within;
    before = states_kept g h grows d (λ t. within_rank ranked k t ≡ true) x.before is.before;
  }

  pub row_kept : (ranked : List RankedSet) (told : List RankedDiagrams) →
      AreRankedDiagrams d g.order g.diagrams.table ranked told →
      AreRankedDiagrams d h.order h.diagrams.table ranked told
  row_kept ranked told are = record {
    count = are.count;
    each = λ k r x this there. ranked_kept ranked k r x (are.each k r x this there);
  }

  pub diagrams_kept : (c : DriverSets) (told : DriverDiagrams) → AreDiagrams d g.order g.diagrams.table c told →
      AreDiagrams d h.order h.diagrams.table c told
  diagrams_kept c told are = record {
    region = states_kept g h grows d (λ t. c.region t ≡ true) told.region are.region;
    count = are.count;
    each = λ j ranked this. row_kept ranked (row_at told j) (are.each j ranked this);
  }

  module _ (bs : List BlockTree) where
    pub told_kept : (c : DriverSets) (told : DriverDiagrams) → IsTold d bs c g told → IsTold d bs c h told
    told_kept c told is = record {
      of = of_kept g h grows d is.of;
      sized = sized_kept g h grows is.sized;
      regular = is.regular;
      begins = is.begins;
      blocks = is.blocks;
      goals = is.goals;
      few = is.few;
      fairs = is.fairs;
      diagrams = diagrams_kept c told is.diagrams;
    }

    pub answers_kept : (answers : List Replies) → AreAnswers d bs g answers → AreAnswers d bs h answers
    answers_kept answers are = record {
      count = are.count;
      each = λ goal r there. replies_kept d g h grows goal bs r (are.each goal r there);
    }

    pub leaving_ranks_kept : (c : DriverSets) (goal : ℕ) (leaving : Leaving) →
        AreLeavingRanks d bs c g goal leaving → AreLeavingRanks d bs c h goal leaving
    leaving_ranks_kept c goal leaving are = record {
      count = are.count;
      each = λ ranked k id this there.
          states_kept g h grows d (MayLeave d (Answers bs) (within_rank ranked k) goal) id
          (are.each ranked k id this there);
    }

    pub leaving_kept : (c : DriverSets) (all : List Leaving) → AreLeaving d bs c g all → AreLeaving d bs c h all
    leaving_kept c all are = record {
      count = are.count;
      each = λ goal leaving there. leaving_ranks_kept c goal leaving (are.each goal leaving there);
    }

pub has_told_kept : (g h : GameData) → Grows g h → (told : DriverDiagrams) → HasTold g told → HasTold h told
has_told_kept g h grows told (d, bs, c, is) = (d, bs, c, told_kept d g h grows bs c told is)

-- ---- what was loaded
pub loaded_kept : (d : DesignTree) (g h : GameData) → Grows g h → (nodes : List Entry) (ids : List NodeId) →
    IsLoadedIn d g nodes ids → IsLoadedIn d h nodes ids
loaded_kept d g h grows nodes ids is = record {
  of = of_kept g h grows d is.of;
  order = subst (IsOrder (sum (state_widths d))) (sym grows.order) is.order;
  nodes_are = subst (λ (o : List ℕ). AreNodes (length o) nodes) (sym grows.order) is.nodes_are;
  loaded = record {
    count = is.loaded.count;
    each = λ k id there.
        let at = is.loaded.each k id there in
        record {
          known = known_kept g h grows id at.known;
          meaning = λ v. grows.diagrams.same_meaning id at.known v ∙ at.meaning v;
        };
  };
}

pub ids_known : (d : DesignTree) (g : GameData) (nodes : List Entry) (ids : List NodeId) → IsLoadedIn d g nodes ids →
    All (Knows g.diagrams.table) ids
ids_known d g nodes ids is = λ k x below.
    (is.loaded.each k (get_or ids k x) (slice_get-get_or ids k x below)).known

-- a certificate that can be loaded follows the order of the game
pub can_order : (d : DesignTree) (g : GameData) (c : DriverData) → CanLoad d g c →
    IsOrder (sum (state_widths d)) g.order
can_order d g c can = subst (IsOrder (sum (state_widths d))) can.order can.fits.order

pub can_nodes : (d : DesignTree) (g : GameData) (c : DriverData) → CanLoad d g c → AreNodes (length g.order) c.nodes
can_nodes d g c can =
    subst (λ (n : ℕ). AreNodes n c.nodes)
    (sym (length_order (sum (state_widths d)) g.order (can_order d g c can))) can.fits.nodes

pub loaded_in : (d : DesignTree) (g h : GameData) (c : DriverData) (ids : List NodeId) → CanLoad d g c → Grows g h →
    AreLoaded h.diagrams.table c.nodes ids → IsLoadedIn d h c.nodes ids
loaded_in d g h c ids can grows are = record {
  of = of_kept g h grows d can.of;
  order = subst (IsOrder (sum (state_widths d))) (sym grows.order) (can_order d g c can);
  nodes_are = subst (λ (o : List ℕ). AreNodes (length o) c.nodes) (sym grows.order) (can_nodes d g c can);
  loaded = are;
}
