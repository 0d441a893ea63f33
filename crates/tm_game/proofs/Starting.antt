-- What a game is made with is there, for the guarded updates of a design.
use Rattle.std.proofs.Common.{◌≡◌, ℕ, ◌+◌, ◌-◌, ◌^◌, ◌<◌, ◌≤◌, Bool, List, [], ◌++◌, Some, length, get_or, map, take, drop, replicate, sym, ap, ◌∙◌, subst, arith}
use Rattle.std.specs.Prelude.{All, sum}
use Rattle.std.proofs.lemmas.List.{length-append, length-replicate, take-append-le, take_at}
use Rattle.std.proofs.lemmas.List.Elements.{All-take, All-weaker}
use Rattle.std.proofs.lemmas.List.FromFn.{length-map-range_with_len, length-range_with_len}
use Rattle.std.proofs.lemmas.Slice.Zip.{AllZip-long}
use Rattle.tm_game_bits.specs.Inputs.{input_levels}
use Rattle.tm_game_bits.proofs.InputLevels.{levels_fit}
use Rattle.tm_blast.specs.Numbers.{level_lists}
use Rattle.tm_blast.proofs.CallerLaws.{none_made}
use Rattle.tm_dd.specs.Table.{Table}
use Rattle.tm_flat.specs.Flat.{FlatTerms}
use Rattle.tm_flat.specs.Inputs.{room}
use Rattle.tm_flat.specs.IsFlat.{IsFlat, location_numbers, process_numbers}
use Rattle.tm_game.specs.declared.start.Start.{Start}
use Rattle.tm_game.specs.Inner.Starts.{IsStart}
use Rattle.tm_game.specs.Shape.{IsShape}
use Rattle.tm_game.specs.Start.{CanStart, state_bits_in}
use Rattle.tm_game.proofs.Apart.{levels_apart}
use Rattle.tm_game.proofs.Flats.{has_terms, last_fits, place_fits}
use Rattle.tm_flat.proofs.Growth.{flat_kept}
use Rattle.tm_game.proofs.Short.{short_widths}
use Rattle.tm_game.proofs.Shapes.{count_widths, length-state_widths, levels_are, order_is}
use Rattle.tm_game_bits.specs.Order.{IsOrder}
use Rattle.tm_game_bits.proofs.Orders.{length_order}
use Rattle.tm_game_steps.specs.declared.places.Place.{Place}
use Rattle.tm_game_steps.specs.Passing.{ArePassing}
use Rattle.tm_game_steps.specs.Places.{ArePlaces, IsPlace, flag_at}
use Rattle.tm_game_steps.specs.Setting.{IsReady, Setting, setting_of}
use Rattle.tm_game_steps.proofs.Passing.{next_kept, values_same}
use Rattle.tm_game_steps.proofs.PlaceTerms.{IsTest-Extends}
use Rattle.tm_sem.specs.StateBits.{state_widths}
use Rattle.tm_syntax.specs.Design.{DesignTree}
use Rattle.tm_syntax.specs.Design.Locations.{is_magic_at}
use Rattle.tm_term.specs.declared.term.TermId.{TermId}
use Rattle.tm_term.specs.Table.{Table as Terms}
use Rattle.tm_term.specs.Value.{Extends}
use Rattle.tm_game_bits.proofs.Tables.{magic_is}

-- ---- counts
module _ (d : DesignTree) (t : Terms) (f : FlatTerms) (can : CanStart d t f) where
  -- how many inputs there are
  pub inputs_count : length f.widths ≡ length d.vars + (length d.processes + 1) + 128
  unfolding room
  inputs_count =
      omega (
        arith,
        ap length can.flat.widths,
        length-append (state_widths d ++ replicate 64 1) (replicate 64 1),
        length-append (state_widths d) (replicate 64 1),
        length-replicate {A = ℕ} 64 1,
        length-state_widths d,
      )

  pub terms_count : length t.inputs ≡ length f.widths
  terms_count = ap length (can.flat.inputs ∙ sym can.flat.widths)

  pub processes_count : length f.processes ≡ length d.processes
  processes_count =
      AllZip-long _ (process_numbers d) f.processes can.flat.processes ∙ length-range_with_len 0 (length d.processes)

  pub magic_count : length f.magic ≡ length d.processes
  magic_count =
      ap length can.flat.magic
      ∙ length-map-range_with_len (λ p. map (is_magic_at d p) (location_numbers d p)) 0 (length d.processes)

  -- each location of a process is written in its width
  pub locations_fit : (p k : ℕ) (b : Bool) → flag_at f.magic p k ≡ Some b →
      k < 2 ^ get_or t.inputs (length d.vars + p) 0
  locations_fit p k b there =
      let at = magic_is t d f can.flat p k b there in
      subst (λ (ws : List ℕ). k < 2 ^ get_or ws (length d.vars + p) 0) (sym can.flat.inputs)
      (place_fits d can.small p k at.inside at.within)

  pub movers_fit : (last : ℕ) → last ≤ 1 → last < 2 ^ get_or t.inputs (length d.vars + length d.processes) 0
  movers_fit last few =
      subst (λ (ws : List ℕ). last < 2 ^ get_or ws (length d.vars + length d.processes) 0) (sym can.flat.inputs)
      (last_fits d can.small last (omega arith))

-- ---- terms that are added
module _ (t u : Terms) (e : Extends t u) where
  pub places_kept : (rows : List (List Bool)) (first : ℕ) (places : List Place) → ArePlaces t rows first places →
      ArePlaces u rows first places
  places_kept rows first places are = record {
    each = All-weaker (IsPlace t rows first) (IsPlace u rows first)
        (λ (x : Place) is. record {
          there = is.there;
          stands = IsTest-Extends t u (first + x.process) x.location x.stands e is.stands;
        }) places are.each;
    all = are.all;
  }

  pub passing_kept : (count last : ℕ) (ids : List TermId) → ArePassing t count last ids → ArePassing u count last ids
  passing_kept count last ids are = record {
    long = are.long;
    next = next_kept t u e ids are.next;
    values = λ values enough.
        values_same t u e values ids (λ i k below. (are.next i k below).0) ∙ are.values values enough;
  }

-- ---- what is made of them
-- the levels follow the order, and no level is of two bits
pub ready_first : (x : Setting) (f : FlatTerms) (order : List ℕ) (d : DesignTree) → IsFlat x.terms d f →
    IsShape x f order → length x.terms.inputs < 2 ^ 32 → x.state_levels + 128 < 2 ^ 32 → (s : Table) →
    x.state_levels + 128 ≤ s.levels → IsReady x s []
unfolding room
ready_first x f order d flat shape few words s enough =
    let levels = levels_are x f order shape d flat in
    let fit = levels_fit d order (order_is x f order shape d flat) x.terms flat.inputs s.levels
    (omega (arith, enough, shape.count)) in
    record {
      levels = subst (Rattle.tm_blast.specs.Bits.AreLevels x.terms s.levels) (sym levels) fit;
      apart = subst Rattle.tm_game_steps.specs.Changes.AreApart (sym levels)
          (levels_apart order (state_widths d) (order_is x f order shape d flat));
      few = omega (arith, few, fit.inputs, ap length levels);
      words = words;
      within = omega (
        arith,
        fit.inputs,
        ap length levels,
        ap length flat.inputs,
        count_widths x f order shape d flat,
        length-append (state_widths d ++ replicate 64 1) (replicate 64 1),
        length-append (state_widths d) (replicate 64 1),
      );
      bits = none_made x.terms x.levels s;
    }

-- the levels of a game follow an order of the places of the bits of a state
pub places_permuted : (x : Setting) (f : FlatTerms) (order : List ℕ) → IsShape x f order →
    IsOrder (state_bits_in f) order
unfolding room
places_permuted x f order shape =
    let numbers : x.numbers ≡ length f.widths - 128 = omega (arith, shape.widths) in
    subst (λ (n : ℕ). IsOrder (sum (take n f.widths)) order) numbers shape.permutes

-- all of it
pub start_is : (d : DesignTree) (t : Terms) (f : FlatTerms) → CanStart d t f → (order : List ℕ) (start : Start) →
    Extends t start.encoding.terms → IsOrder (state_bits_in f) order → start.encoding.numbers ≡ length f.widths - 128 →
    start.encoding.first ≡ length d.vars → start.encoding.state_levels ≡ length order →
    level_lists start.encoding.levels.items ≡ input_levels order (take start.encoding.numbers f.widths) →
    ArePlaces start.encoding.terms f.magic start.encoding.first start.places.items →
    ArePassing start.encoding.terms start.encoding.numbers 0 start.stutter.items →
    ArePassing start.encoding.terms start.encoding.numbers 1 start.idle.items → IsStart t f order start
unfolding room
start_is d t f can order start e is numbers first levels told places stutter idle = record {
  earlier = e;
  shape = shape;
  terms = has_terms (setting_of start.encoding) f d flat
      (count_widths (setting_of start.encoding) f order shape d flat);
  places_are = places;
  stutter_is = stutter;
  idle_is = idle;
  ready = λ s enough.
      ready_first (setting_of start.encoding) f order d flat shape (omega (arith, can.inputs, ap length e.inputs))
      (omega (arith, levels, length_order (state_bits_in f) order is, can.levels)) s enough;
}
  where
    flat : IsFlat start.encoding.terms d f
    flat = flat_kept t start.encoding.terms e d f can.flat

    shape : IsShape (setting_of start.encoding) f order
    shape = record {
      widths = omega (arith, numbers, inputs_count d t f can);
      numbers = omega (arith, numbers, first, inputs_count d t f can, processes_count d t f can);
      permutes = subst (λ (n : ℕ). IsOrder (sum (take n f.widths)) order) (sym numbers) is;
      levels = told;
      count = levels;
      wide = All-take (λ w. w ≤ 64) start.encoding.numbers f.widths can.wide;
      short = subst (λ (ws : List ℕ). All (λ w. w ≤ 32) (drop start.encoding.first ws)) (sym same)
          (subst (λ (n : ℕ). All (λ w. w ≤ 32) (drop n (state_widths d))) (sym first)
          (short_widths d can.locations
          (omega (arith, can.inputs, terms_count d t f can, inputs_count d t f can))));
    }
      where
        same : take start.encoding.numbers f.widths ≡ state_widths d
        same =
            ap (take start.encoding.numbers) can.flat.widths
            ∙ take-append-le start.encoding.numbers (state_widths d ++ replicate 64 1) (replicate 64 1)
            (omega (
              arith,
              numbers,
              inputs_count d t f can,
              length-state_widths d,
              length-append (state_widths d) (replicate 64 1),
            ))
            ∙ take_at (state_widths d) (replicate 64 1) start.encoding.numbers
            (omega (arith, numbers, inputs_count d t f can, length-state_widths d))
