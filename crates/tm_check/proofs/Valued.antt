-- What the bits of terms are at the state that values of levels tell.
use Rattle.std.proofs.Common.{◌≡◌, ℕ, zero, suc, ◌+◌, ◌-◌, ◌^◌, ◌<◌, ◌≤◌, Bool, true, false, List, [], ◌∷◌, ◌++◌}
use Rattle.std.proofs.Common.{length, get_or, take, drop, refl, sym, ap, ◌∙◌, subst, arith}
use Rattle.std.specs.Prelude.{◌&&◌, All, nat_lt, sum}
use Rattle.std.proofs.lemmas.Bool.{lt-ltb}
use Rattle.std.proofs.lemmas.List.{drop-map, get_or-drop, length-drop, length-map}
use Rattle.tm_check.specs.declared.terms.Reading.{Reading}
use Rattle.tm_check.specs.Arguments.{IsArgument, IsFitting}
use Rattle.tm_check.specs.Reading.{CanRead, num_at, state_in, truth_at}
use Rattle.tm_check.specs.Reads.{IsSized, Reads}
use Rattle.tm_check.specs.Worth.{IsWorth}
use Rattle.tm_check.proofs.Growth.{reads_kept, sized_kept}
use Rattle.tm_game_bits.specs.Inputs.{arguments_at, choices_at, input_levels}
use Rattle.tm_game_bits.specs.AssignedStates.{state_of}
use Rattle.tm_game_bits.proofs.Coded.{state_told}
use Rattle.tm_game_bits.proofs.InputLevels.{values_fit, values_told}
use Rattle.tm_game_bits.proofs.Numbers.{bits_back, number_below}
use Rattle.tm_base.specs.Arithmetic.{bit}
use Rattle.tm_base.specs.Bits.{bits_of, number_of}
use Rattle.tm_blast.specs.Bits as blasted
use Rattle.tm_blast.specs.Bits.{AreBits}
use Rattle.tm_cir.specs.Meaning.{holds, num_value}
use Rattle.tm_cir.specs.Tree.{NumTree, TruthTree}
use Rattle.tm_dd.specs.declared.node.NodeId.{NodeId}
use Rattle.tm_dd.specs.declared.node.TheConstants.{TRUE}
use Rattle.tm_dd.specs.Reduced.{Extends}
use Rattle.tm_dd.specs.Table.{Knows, Table, means}
use Rattle.tm_dd.proofs.CallerLaws.{means-TRUE}
use Rattle.tm_ddops.specs.Manager.{IsFunction}
use Rattle.tm_game.specs.Game.{GameData, Grows, IsOf}
use Rattle.tm_game.proofs.Growing.{grows_then, known_kept, means_kept, of_kept}
use Rattle.tm_game.proofs.Ordered.{count_inputs, order_is}
use Rattle.tm_game.proofs.Shapes.{length-state_widths}
use Rattle.tm_game_bits.specs.Order.{IsOrder}
use Rattle.tm_sem.specs.StateBits.{state_widths}
use Rattle.tm_syntax.specs.Design.{DesignTree}
use Rattle.tm_term.specs.declared.term.TermId.{TermId}
use Rattle.tm_term.specs.Table.{Table as Terms}
use Rattle.tm_term.specs.Value.{AreInputs, value_of}
use Rattle.tm_game_bits.specs.Told.{inputs_at}

-- the low bits of a number
pub low_bits : (k w n : ℕ) → drop k (bits_of (k + w) n) ≡ bits_of w n
low_bits zero w n = let same : 0 + w ≡ w = omega arith in ap (λ m. bits_of m n) same
low_bits (suc k) w n =
    let more : suc k + w ≡ suc (k + w) = omega arith in
    ap (λ m. drop (suc k) (bits_of m n)) more ∙ low_bits k w n

-- what ids mean stays where more are made
pub values_along : (s t : Table) → Extends s t → (ids : List NodeId) → All (Knows s) ids → (v : ℕ → Bool) →
    blasted.values_in t ids v ≡ blasted.values_in s ids v
values_along s t e [] known v = refl
values_along s t e (x ∷ xs) known v =
    let first = e.same_meaning x (known 0 x (omega arith)) v in
    let rest = values_along s t e xs (λ k y below. known (suc k) y (omega arith)) v in
    λ i. first i ∷ rest i

-- ---- the values of inputs
-- the levels of a state follow an order of its bits
order_of : (d : DesignTree) (g : GameData) → IsOf d g → IsSized g → IsOrder (sum (state_widths d)) g.order
order_of d g of sized = order_is g.terms d g.flat of.flat g.order sized.order

module _ (d : DesignTree) (g : GameData) (r : Reading) (is : Reads d g r) where
  pub order_read : IsOrder (sum (state_widths d)) g.order
  order_read = order_of d g is.of is.sized

  -- the first inputs tell the state
  pub state_read : (v : ℕ → Bool) → state_in r (inputs_at d g.order v) ≡ state_of d g.order v
  state_read v =
      (λ i. record {
        values = take (is.vars i) (inputs_at d g.order v);
        places = take (is.processes i) (drop (is.vars i) (inputs_at d g.order v));
        last = get_or (inputs_at d g.order v) (is.vars i + is.processes i) 0;
      })
      ∙ state_told d g.order order_read v (choices_at g.order v) (arguments_at g.order v)

  -- the numbers of a state are among the inputs
  pub inputs_long : r.vars + r.processes < length g.terms.inputs
  inputs_long =
      omega (
        arith,
        is.vars,
        is.processes,
        length-state_widths d,
        count_inputs g.terms d g.flat is.of.flat,
        ap length (is.of.flat.inputs ∙ sym is.of.flat.widths),
      )

-- ---- the bits of a term that is worth a number
module _ (d : DesignTree) (g : GameData) (of : IsOf d g) (sized : IsSized g) (t : Terms)
    (inputs : t.inputs ≡ g.terms.inputs) (s : Table) (width : ℕ) (f : List ℕ → ℕ) (id : TermId) (ids : List NodeId)
    (worth : IsWorth t width f id) (are : AreBits t (input_levels g.order (state_widths d)) s id ids) where
  pub bits_long : length ids ≡ width
  bits_long = are.width ∙ worth.term.1

  pub number_is : (v : ℕ → Bool) → number_of (blasted.values_in s ids v) ≡ f (inputs_at d g.order v)
  number_is v =
      let same = values_told d g.order (order_of d g of sized) v in
      are.value v
      ∙ worth.worth (blasted.input_values (input_levels g.order (state_widths d)) v)
      (subst (AreInputs t) (sym same)
      (values_fit d g.order (order_of d g of sized) t (inputs ∙ of.flat.inputs) v))
      ∙ ap f same

  pub bits_are : (v : ℕ → Bool) → blasted.values_in s ids v ≡ bits_of width (f (inputs_at d g.order v))
  bits_are v =
      let long : length (blasted.values_in s ids v) ≡ width =
      length-map ids (λ (x : NodeId). means s x v) ∙ bits_long in
      sym (bits_back width (blasted.values_in s ids v) long) ∙ ap (bits_of width) (number_is v)

  pub worth_below : (v : ℕ → Bool) → f (inputs_at d g.order v) < 2 ^ width
  worth_below v =
      let long : length (blasted.values_in s ids v) ≡ width =
      length-map ids (λ (x : NodeId). means s x v) ∙ bits_long in
      subst (λ (n : ℕ). n < 2 ^ width) (number_is v)
      (subst (λ (w : ℕ). number_of (blasted.values_in s ids v) < 2 ^ w) long
      (number_below (blasted.values_in s ids v)))

-- the only bit of a term that is worth a test
pub test_is : (d : DesignTree) (g : GameData) → IsOf d g → IsSized g → (t : Terms) → t.inputs ≡ g.terms.inputs →
    (s : Table) (test : List ℕ → Bool) (id : TermId) (ids : List NodeId) (first : NodeId) →
    IsWorth t 1 (λ values. bit (test values)) id → AreBits t (input_levels g.order (state_widths d)) s id ids →
    first ≡ get_or ids 0 first → IsFunction s first (λ v. test (inputs_at d g.order v))
test_is d g of sized t inputs s test id [] first worth are here =
    let long = bits_long d g of sized t inputs s 1 (λ values. bit (test values)) id [] worth are in
    absurd (omega arith)
test_is d g of sized t inputs s test id (x ∷ xs) first worth are here = record {
  known = subst (Knows s) (sym here) (are.known 0 x (omega arith));
  meaning = λ v.
      ap (λ (y : NodeId). means s y v) here
      ∙ ap (λ (bs : List Bool). get_or bs 0 false)
      (bits_are d g of sized t inputs s 1 (λ values. bit (test values)) id (x ∷ xs) worth are v)
      ∙ one (test (inputs_at d g.order v));
}
  where
    one : (b : Bool) → get_or (bits_of 1 (bit b)) 0 false ≡ b
    one true = refl
    one false = refl

-- expressions can be read
pub can_read_in : (d : DesignTree) (g : GameData) (r : Reading) → Reads d g r → CanRead g.terms.inputs r
can_read_in d g r is = record {
  there = inputs_long d g r is;
  few = is.sized.inputs;
  wide = is.sized.wide;
}

-- ---- of expressions
-- where a test of a driver holds
pub holds_is : (d : DesignTree) (g h : GameData) (r : Reading) → Reads d g r → Grows g h → (s : Table)
    (truth : TruthTree) (id : TermId) (ids : List NodeId) (first : NodeId) →
    IsWorth h.terms 1 (truth_at r truth) id → AreBits h.terms (input_levels h.order (state_widths d)) s id ids →
    first ≡ get_or ids 0 first → IsFunction s first (λ v. holds (state_of d g.order v) r.goal truth)
holds_is d g h r is grows s truth id ids first worth are here =
    let later = reads_kept d g h r grows is in
    let made = test_is d h later.of later.sized h.terms refl s (λ values. holds (state_in r values) r.goal truth) id ids
    first worth are here in
    record {
      known = made.known;
      meaning = λ v.
          made.meaning v
          ∙ ap (λ st. holds st r.goal truth)
          (state_read d h r later v ∙ ap (λ (o : List ℕ). state_of d o v) grows.order);
    }

-- an argument of a call, beside those before it
pub argument_is : (d : DesignTree) (g h k l m : GameData) (r : Reading) → Reads d g r → Grows g h → Grows h k →
    Grows k l → Grows l m → (num : NumTree) (width : ℕ) (fit fits id : NodeId) (a : TermId)
    (all olds news : List NodeId) → width ≤ 64 → Knows g.diagrams.table fit → IsWorth h.terms 64 (num_at r num) a →
    AreBits h.terms (input_levels h.order (state_widths d)) k.diagrams.table a all →
    IsFitting d k.order k.terms l.diagrams.table a width fits →
    IsFunction m.diagrams.table id (λ v. means l.diagrams.table fit v && means l.diagrams.table fits v) →
    news ≡ olds ++ drop (64 - width) all →
    IsArgument d g.order g.diagrams.table m.diagrams.table r.goal num width fit id olds news
argument_is d g h k l m r is gh hk kl lm num width fit fits id a all olds news narrow known worth are fitting both
    behind =
    record {
      fits = record {
        known = both.known;
        meaning = λ v.
            both.meaning v
            ∙ (λ i. later_fit v i && (fitting.meaning v (small v) ∙ ap (λ n. nat_lt n (2 ^ width)) (value_is v)) i);
      };
      bits = drop (64 - width) all;
      behind = behind;
      known = λ j x below.
          let inside : (64 - width) + j < length all = omega (arith, below, length-drop (64 - width) all) in
          subst (Knows m.diagrams.table) (sym (get_or-drop (64 - width) all j x))
          (known_kept l m lm (get_or all ((64 - width) + j) x)
          (known_kept k l kl (get_or all ((64 - width) + j) x) (are.known ((64 - width) + j) x inside)));
      are = λ v.
          values_along k.diagrams.table m.diagrams.table (grows_then k l m kl lm).diagrams (drop (64 - width) all)
          (λ j x below.
          let inside : (64 - width) + j < length all = omega (arith, below, length-drop (64 - width) all) in
          subst (Knows k.diagrams.table) (sym (get_or-drop (64 - width) all j x))
          (are.known ((64 - width) + j) x inside)) v
          ∙ sym (drop-map (λ (x : NodeId). means k.diagrams.table x v) (64 - width) all)
          ∙ ap (drop (64 - width)) (all_bits v)
          ∙ low v;
    }
  where
    later : Reads d h r
    later = reads_kept d g h r gh is

    state_is : (v : ℕ → Bool) → state_in r (inputs_at d h.order v) ≡ state_of d g.order v
    state_is v = state_read d h r later v ∙ ap (λ (o : List ℕ). state_of d o v) gh.order

    all_bits : (v : ℕ → Bool) → blasted.values_in k.diagrams.table all v
        ≡ bits_of 64 (num_value (state_of d g.order v) r.goal num)
    all_bits v =
        bits_are d h later.of later.sized h.terms refl k.diagrams.table 64 (num_at r num) a all worth are v
        ∙ ap (λ st. bits_of 64 (num_value st r.goal num)) (state_is v)

    low : (v : ℕ → Bool) → drop (64 - width) (bits_of 64 (num_value (state_of d g.order v) r.goal num))
        ≡ bits_of width (num_value (state_of d g.order v) r.goal num)
    low v =
        let whole : 64 ≡ (64 - width) + width = omega arith in
        ap (λ w. drop (64 - width) (bits_of w (num_value (state_of d g.order v) r.goal num))) whole
        ∙ low_bits (64 - width) width (num_value (state_of d g.order v) r.goal num)

    value_is : (v : ℕ → Bool) →
        value_of k.terms (blasted.input_values (input_levels k.order (state_widths d)) v) a
        ≡ num_value (state_of d g.order v) r.goal num
    value_is v =
        hk.terms.values (blasted.input_values (input_levels k.order (state_widths d)) v) a worth.term.0
        ∙ ap (λ (o : List ℕ). value_of h.terms (blasted.input_values (input_levels o (state_widths d)) v) a) hk.order
        ∙ sym (are.value v)
        ∙ number_is d h later.of later.sized h.terms refl k.diagrams.table 64 (num_at r num) a all worth are v
        ∙ ap (λ st. num_value st r.goal num) (state_is v)

    small : (v : ℕ → Bool) →
        value_of k.terms (blasted.input_values (input_levels k.order (state_widths d)) v) a < 2 ^ 64
    small v =
        subst (λ (n : ℕ). n < 2 ^ 64) (ap (λ st. num_value st r.goal num) (state_is v) ∙ sym (value_is v))
        (worth_below d h later.of later.sized h.terms refl k.diagrams.table 64 (num_at r num) a all worth are v)

    later_fit : (v : ℕ → Bool) → means l.diagrams.table fit v ≡ means g.diagrams.table fit v
    later_fit v =
        let grown = grows_then g h l gh (grows_then h k l hk kl) in
        ap (λ f. f v) (means_kept g l grown fit known)

-- where a number has a width
pub fitting_is : (d : DesignTree) (g k : GameData) → IsOf d g → IsSized g → Grows g k → (s : Table) (num : TermId)
    (width limit : ℕ) (test : TermId) (ids : List NodeId) (first : NodeId) → limit ≡ 2 ^ width →
    IsWorth k.terms 1 (λ values. bit (nat_lt (value_of g.terms values num) limit)) test →
    AreBits k.terms (input_levels k.order (state_widths d)) s test ids → first ≡ get_or ids 0 first →
    IsFitting d g.order g.terms s num width first
fitting_is d g k of sized grows s num width limit test ids first power worth are here =
    let made = test_is d k (of_kept g k grows d of) (sized_kept g k grows sized) k.terms refl s
    (λ values. nat_lt (value_of g.terms values num) limit) test ids first worth are here in
    record {
      known = made.known;
      meaning = λ v small.
          made.meaning v
          ∙ (λ i. nat_lt (value_of g.terms (moved v i) num) (power i))
          ∙ ap (λ values. nat_lt (value_of g.terms values num) (2 ^ width))
          (sym (values_told d g.order (order_of d g of sized) v));
    }
  where
    moved : (v : ℕ → Bool) → inputs_at d k.order v ≡ inputs_at d g.order v
    moved v = ap (λ (o : List ℕ). inputs_at d o v) grows.order

-- where it may have any
pub fits_always : (d : DesignTree) (order : List ℕ) (terms : Terms) (s : Table) (num : TermId) →
    IsFitting d order terms s num 64 TRUE
fits_always d order terms s num = record {
  known = omega arith;
  meaning = λ v small.
      means-TRUE s v
      ∙ sym (lt-ltb (value_of terms (blasted.input_values (input_levels order (state_widths d)) v) num) (2 ^ 64) small);
}
