-- The least state of a set, from its least bits.
use Rattle.std.proofs.Common.{◌≡◌, ℕ, ◌+◌, ◌<◌, ◌≤◌, Bool, true, false, ◌&&◌, List, Option, None, Some, Vec, length, get_or, map, sym, ap, ◌∙◌, subst, arith}
use Rattle.std.specs.Prelude.{All, MatchOption, sum}
use Rattle.std.specs.declared.alloc.Global.{Global}
use Rattle.std.specs.List.{range_with_len}
use Rattle.std.proofs.lemmas.Bool.{true≢false}
use Rattle.std.proofs.lemmas.List.{length-map, length-take-le}
use Rattle.std.proofs.lemmas.List.Elements.{All-map}
use Rattle.std.proofs.lemmas.List.FromFn.{get_or-map-range_with_len, get_or-range_with_len, length-range_with_len}
use Rattle.tm_game_bits.specs.AssignedStates.{assignment_of, bits_by_place, numbers_from, state_of}
use Rattle.tm_game_bits.proofs.Coded.{numbers_told}
use Rattle.tm_game_bits.proofs.Numbers.{bits_of-numbers_from, numbers_agree}
use Rattle.tm_dd.specs.declared.node.NodeId.{NodeId}
use Rattle.tm_dd.specs.declared.node.TheConstants.{FALSE}
use Rattle.tm_dd.specs.Reduced.{Extends}
use Rattle.tm_dd.specs.Table.{Table, Knows, assignment, means}
use Rattle.tm_dd.proofs.CallerLaws.{means-FALSE}
use Rattle.tm_ddops.specs.Manager.{IsFunction}
use Rattle.tm_flat.specs.Flat.{FlatTerms, flat_terms}
use Rattle.tm_flat.specs.Inputs.{state_from}
use Rattle.tm_game_bits.specs.Functions.{Assignment}
use Rattle.tm_game_bits.specs.States.{AreOneState, ReadsState}
use Rattle.tm_game_bits.proofs.Sets.{both_true}
use Rattle.tm_game.specs.declared.game.Game.TheInside.{Inside}
use Rattle.tm_game.specs.Game.{IsOf}
use Rattle.tm_game.specs.Inner.LeastBits.{AreBothTrue, AreLeastBits, IsNowhere, place_bits}
use Rattle.tm_game.specs.Layout.{IsGame, game_data}
use Rattle.tm_game.specs.Least.{HoldsNowhere, test_of}
use Rattle.tm_game.specs.Shape.{IsShape, state_widths_in}
use Rattle.tm_game.proofs.Designs.{coding_is, game_is}
use Rattle.tm_game.proofs.Shapes.{first_is, length-state_widths, order_is, state_of_numbers, widths_are}
use Rattle.tm_game_bits.specs.Least.{IsLeastAlong}
use Rattle.tm_game_bits.specs.Order.{IsOrder, level_in}
use Rattle.tm_game_bits.proofs.Orders.{length_order, level_of_place}
use Rattle.tm_game_steps.specs.Setting.{Setting, setting_of}
use Rattle.tm_sem.specs.Certificates.{IsIn}
use Rattle.tm_sem.specs.State.{StateData}
use Rattle.tm_sem.specs.StateBits.{IsLeast, bits_of_numbers, comes_before, state_bits, state_numbers, state_widths}
use Rattle.tm_sem.specs.Step.{IsState}
use Rattle.tm_syntax.specs.Design.{DesignTree}
use mathlib.Core.List.{map-map}

-- ---- what is found
pub found_none : {X : Type 0} (A : Type 0) (B : X → Type 0) (found : Option X) → found ≡ None →
    MatchOption found A B → A
found_none A B found none is = subst (λ (o : Option _). MatchOption o A B) none is

pub found_some : {X : Type 0} (A : Type 0) (B : X → Type 0) (found : Option X) (x : X) → found ≡ Some x →
    MatchOption found A B → B x
found_some A B found x some is = subst (λ (o : Option _). MatchOption o A B) some is

-- ---- two functions
module _ (s t : Table) (e : Extends s t) (f g both : NodeId) (f_known : Knows s f) (g_known : Knows s g)
    (is : IsFunction t both (λ v. means t f v && means t g v)) where
  both_there : (v : Assignment) → AreBothTrue s f g v → means t both v ≡ true
  both_there v h =
      let first = e.same_meaning f f_known v ∙ h.0 in
      let second = e.same_meaning g g_known v ∙ h.1 in
      is.meaning v ∙ (λ i. first i && second i)

  both_here : (v : Assignment) → means t both v ≡ true → AreBothTrue s f g v
  both_here v h =
      let parts = both_true (means t f v) (means t g v) (sym (is.meaning v) ∙ h) in
      (sym (e.same_meaning f f_known v) ∙ parts.0, sym (e.same_meaning g g_known v) ∙ parts.1)

  pub nowhere_both : both ≡ FALSE → IsNowhere s f g
  nowhere_both empty v h =
      absurd (true≢false (sym (both_there v h) ∙ ap (λ (id : NodeId). means t id v) empty ∙ means-FALSE t v))

  pub least_both : (order levels : List ℕ) (bits : List Bool) →
      levels ≡ map (level_in order) (range_with_len 0 (length order)) → IsLeastAlong t both levels bits →
      AreLeastBits s f g order bits
  least_both order levels bits placed least = record {
    at = least.here.0;
    here = both_here least.here.0 least.here.1;
    are = sym (along least.here.0) ∙ least.here.2;
    none_before = λ v h.
        ap (λ (xs : List Bool). comes_before xs bits) (sym (along v)) ∙ least.none_before v (both_there v h);
  }
    where
      along : (v : Assignment) → map v levels ≡ place_bits order v
      along v = ap (map v) placed ∙ map-map v (level_in order) (range_with_len 0 (length order))

-- what is found of the one function is found of the two
module _ (s t u : Table) (e : Extends s t) (f g both : NodeId) (f_known : Knows s f) (g_known : Knows s g)
    (is : IsFunction t both (λ v. means t f v && means t g v)) (order levels : List ℕ)
    (placed : levels ≡ map (level_in order) (range_with_len 0 (length order))) where
  pub found_both : (found : Option (Vec Bool Global)) →
      MatchOption found (both ≡ FALSE) (λ values. IsLeastAlong t both levels values.items) →
      MatchOption found (IsNowhere s f g) (λ bits. AreLeastBits s f g order bits.items)
  found_both None empty = nowhere_both s t e f g both f_known g_known is empty
  found_both (Some values) least = least_both s t e f g both f_known g_known is order levels values.items placed least

-- the levels by place are levels
pub levels_below : (order levels : List ℕ) (bound : ℕ) → IsOrder (length order) order →
    levels ≡ map (level_in order) (range_with_len 0 (length order)) → length order ≤ bound →
    All (λ level. level < bound) levels
levels_below order levels bound is placed enough =
    subst (All (λ level. level < bound)) (sym placed)
    (All-map (λ level. level < bound) (level_in order) (range_with_len 0 (length order)) each)
  where
    each : All (λ p. level_in order p < bound) (range_with_len 0 (length order))
    each k d below =
        let small : k < length order = omega (arith, length-range_with_len 0 (length order)) in
        let at = get_or-range_with_len 0 (length order) k d small in
        let there : get_or (range_with_len 0 (length order)) k d < length order = omega (arith, at) in
        let found = level_of_place (length order) order is (get_or (range_with_len 0 (length order)) k d) there in
        omega (arith, found.below)

-- ---- widths and bits
module _ (x : Setting) (f : FlatTerms) (order : List ℕ) (shape : IsShape x f order) where
  pub own_order : IsOrder (length order) order
  own_order =
      subst (λ (n : ℕ). IsOrder n order) (sym (length_order (sum (state_widths_in x f)) order shape.permutes))
      shape.permutes

  pub first_within : x.first < length (state_widths_in x f)
  first_within =
      omega (arith, length-take-le x.numbers f.widths (omega (arith, shape.widths)), shape.numbers)

  pub bits_enough : (v : Assignment) (bits : List Bool) → place_bits order v ≡ bits →
      sum (state_widths_in x f) ≤ length bits
  bits_enough v bits are =
      omega (
        arith,
        length_order (sum (state_widths_in x f)) order shape.permutes,
        ap length are,
        length-map (range_with_len 0 (length order)) (bits_by_place order v),
        length-range_with_len 0 (length order),
      )

-- ---- states
module _ (a : Inside) (is : IsGame a) (d : DesignTree) (of : IsOf d (game_data a)) (set : NodeId)
    (reads : ReadsState (length a.order.items) (means a.dd.table set)) where
  widths : state_widths_in (setting_of a.encoding) (flat_terms a.flat) ≡ state_widths d
  widths = widths_are (setting_of a.encoding) (flat_terms a.flat) a.order.items is.shape d of.flat

  long : length a.order.items ≡ sum (state_widths d)
  long = length_order (sum (state_widths d)) a.order.items
      (order_is (setting_of a.encoding) (flat_terms a.flat) a.order.items is.shape d of.flat)

  -- the bits of the state that values of levels tell
  bits_told : (v : Assignment) → state_bits d (state_of d a.order.items v) ≡ place_bits a.order.items v
  bits_told v =
      ap (bits_of_numbers (state_widths d))
      (numbers_told d a.order.items
      (order_is (setting_of a.encoding) (flat_terms a.flat) a.order.items is.shape d of.flat) v)
      ∙ bits_of-numbers_from (state_widths d) (bits_by_place a.order.items v) 0
      ∙ ap (λ n. map (bits_by_place a.order.items v) (range_with_len 0 n)) (sym long)

  -- the values of a valid state of the set
  here_both : (s : StateData) → IsIn d (test_of d (game_data a) set) s →
      AreBothTrue a.dd.table a.made.steps.valid set (assignment_of d a.order.items s)
  here_both s h = (
    ((game_is a is d of).valid (assignment_of d a.order.items s)).1
        (subst (IsState d) (sym ((coding_is a is d of).back s h.0)) h.0),
    h.1,
  )

  pub nowhere_in : IsNowhere a.dd.table a.made.steps.valid set → HoldsNowhere d (test_of d (game_data a) set)
  nowhere_in none s h = none (assignment_of d a.order.items s) (here_both s h)

  -- a state with these numbers
  module _ (bits : List Bool) (v : Assignment) (are : place_bits a.order.items v ≡ bits) (s : StateData)
      (numbers : state_numbers s
      ≡ numbers_from (state_widths_in (setting_of a.encoding) (flat_terms a.flat)) (assignment bits) 0)
      (values : length s.values ≡ a.encoding.first)
      (places : a.encoding.first + length s.places + 1
      ≡ length (state_widths_in (setting_of a.encoding) (flat_terms a.flat))) where
    state_found : s ≡ state_of d a.order.items v
    state_found =
        let first : a.encoding.first ≡ length d.vars =
        first_is (setting_of a.encoding) (flat_terms a.flat) a.order.items is.shape d of.flat in
        sym (state_of_numbers d s (values ∙ first)
        (omega (arith, first, places, ap length widths, length-state_widths d)))
        ∙ ap (state_from d)
        (numbers
        ∙ ap (λ ws. numbers_from ws (assignment bits) 0) widths
        ∙ numbers_agree (state_widths d) (assignment bits) (bits_by_place a.order.items v) 0
        (λ q above below.
        ap (λ (xs : List Bool). get_or xs q false) (sym are)
        ∙ get_or-map-range_with_len (bits_by_place a.order.items v) 0 (length a.order.items) q q false
        (omega (arith, long)) (omega arith)))

    pub least_is : AreBothTrue a.dd.table a.made.steps.valid set v →
        ((w : Assignment) → AreBothTrue a.dd.table a.made.steps.valid set w →
        comes_before (place_bits a.order.items w) bits ≡ false) → IsLeast d (test_of d (game_data a) set) s
    least_is both none_before =
        subst (IsLeast d (test_of d (game_data a) set)) (sym state_found) (record {
          here = (
            ((game_is a is d of).valid v).0 both.0,
            reads (assignment_of d a.order.items (state_of d a.order.items v)) v one ∙ both.1,
          );
          none_before = λ t h.
              let at = assignment_of d a.order.items t in
              let back = (coding_is a is d of).back t h.0 in
              (λ i. comes_before
              ((ap (state_bits d) (sym back) ∙ bits_told (assignment_of d a.order.items t)) i)
              ((bits_told v ∙ are) i))
              ∙ none_before (assignment_of d a.order.items t) (here_both t h);
        })
      where
        one : AreOneState (length a.order.items) (assignment_of d a.order.items (state_of d a.order.items v)) v
        one = (coding_is a is d of).one (assignment_of d a.order.items (state_of d a.order.items v)) v
            ((coding_is a is d of).again v)
