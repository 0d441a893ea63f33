use Rattle.std.proofs.Common.{◌≡◌, ℕ, ◌+◌, ◌-◌, ◌^◌, ◌<◌, Bool, List, Some, Vec, length, get_or, take, refl, sym, ap, ◌∙◌, subst, arith}
use Rattle.std.specs.Prelude.{map, sum}
use Rattle.std.specs.declared.alloc.Global.{Global}
use Rattle.std.proofs.lemmas.List.{length-map}
use Rattle.tm_game_bits.specs.Inputs.{input_levels}
use Rattle.tm_flat.specs.declared.flat.FlatStep.{FlatStep}
use Rattle.tm_flat.specs.Flat.{flat_terms, step_terms}
use Rattle.tm_game.specs.Start.{state_bits_in}
use Rattle.tm_game.proofs.Starting.{inputs_count, locations_fit, magic_count, movers_fit, passing_kept, places_kept, processes_count, start_is, terms_count}
use Rattle.tm_game.proofs.start.prepare.Goals as goal
use Rattle.tm_game_bits.specs.Order.{IsOrder}
use Rattle.tm_game_bits.proofs.Orders.{length_order}
use Rattle.tm_game_steps.specs.Places.{ArePlaces, flag_at, flags_of}
use Rattle.tm_term.proofs.Valued.{Extends-trans}

pub overflow_sub-numbers : goal.overflow_sub-numbers
overflow_sub-numbers c =
    let inputs = inputs_count c.requires.design.0 c.args.terms (flat_terms c.args.flat.now) c.requires.design.1 in
    omega (arith, c.args.flat.now.widths.ok.0)

pub overflow_sub-first : goal.overflow_sub-first
overflow_sub-first c =
    let inputs = inputs_count c.requires.design.0 c.args.terms (flat_terms c.args.flat.now) c.requires.design.1 in
    omega (arith, c.args.flat.now.widths.ok.0)

pub overflow_sub-first-2 : goal.overflow_sub-first-2
overflow_sub-first-2 c =
    let inputs = inputs_count c.requires.design.0 c.args.terms (flat_terms c.args.flat.now) c.requires.design.1 in
    let rows = processes_count c.requires.design.0 c.args.terms (flat_terms c.args.flat.now) c.requires.design.1 in
    omega (
      arith,
      c.args.flat.now.widths.ok.0,
      c.args.flat.now.processes.ok.0,
      length-map c.args.flat.now.processes.items
          (λ (steps : Vec FlatStep Global). map step_terms steps.items),
    )

pub input_levels-requires-clause-order : goal.input_levels-requires-clause-order
input_levels-requires-clause-order c =
    let count : length c.args.flat.now.widths.items ≡ c.len-numbers.result =
    omega (arith, c.args.flat.now.widths.ok.0) in
    subst (λ (n : ℕ). IsOrder n c.args.order.now)
    (λ i. sum (take (count i - 128) (sym c.deref.ensures.value i))) c.requires.order

pub input_levels-requires-clause-count : goal.input_levels-requires-clause-count
input_levels-requires-clause-count c =
    omega (
      arith,
      c.requires.design.1.levels,
      length_order (state_bits_in (flat_terms c.args.flat.now)) c.args.order.now c.requires.order,
    )

pub place_terms-requires-clause-inputs : goal.place_terms-requires-clause-inputs
place_terms-requires-clause-inputs c =
    let inputs = inputs_count c.requires.design.0 c.args.terms (flat_terms c.args.flat.now) c.requires.design.1 in
    let rows = processes_count c.requires.design.0 c.args.terms (flat_terms c.args.flat.now) c.requires.design.1 in
    let magic = magic_count c.requires.design.0 c.args.terms (flat_terms c.args.flat.now) c.requires.design.1 in
    let terms = terms_count c.requires.design.0 c.args.terms (flat_terms c.args.flat.now) c.requires.design.1 in
    omega (
      arith,
      c.args.flat.now.widths.ok.0,
      c.args.flat.now.processes.ok.0,
      length-map c.args.flat.now.processes.items
          (λ (steps : Vec FlatStep Global). map step_terms steps.items),
      length-map c.args.flat.now.magic.items (λ (row : Vec Bool Global). row.items),
      ap length c.deref-2.ensures.value,
    )

pub place_terms-requires-clause-locations : goal.place_terms-requires-clause-locations
place_terms-requires-clause-locations c = λ p k b there.
    let inputs = inputs_count c.requires.design.0 c.args.terms (flat_terms c.args.flat.now) c.requires.design.1 in
    let rows = processes_count c.requires.design.0 c.args.terms (flat_terms c.args.flat.now) c.requires.design.1 in
    let first : length c.requires.design.0.vars ≡ c.len-numbers.result - 128 - 1 - c.len.result =
    omega (
      arith,
      c.args.flat.now.widths.ok.0,
      c.args.flat.now.processes.ok.0,
      length-map c.args.flat.now.processes.items
          (λ (steps : Vec FlatStep Global). map step_terms steps.items),
    ) in
    subst (λ (n : ℕ). k < 2 ^ get_or c.args.terms.inputs (n + p) 0) first
    (locations_fit c.requires.design.0 c.args.terms (flat_terms c.args.flat.now) c.requires.design.1 p k b
    (subst (λ (rows : List (Vec Bool Global)). flag_at (flags_of rows) p k ≡ Some b) c.deref-2.ensures.value there))

pub pass_terms-requires-clause-some : goal.pass_terms-requires-clause-some
pass_terms-requires-clause-some c =
    let inputs = inputs_count c.requires.design.0 c.args.terms (flat_terms c.args.flat.now) c.requires.design.1 in
    omega (arith, c.args.flat.now.widths.ok.0)

pub pass_terms-requires-2-clause-last : goal.pass_terms-requires-2-clause-last
pass_terms-requires-2-clause-last c =
    let inputs = inputs_count c.requires.design.0 c.args.terms (flat_terms c.args.flat.now) c.requires.design.1 in
    let last : length c.requires.design.0.vars + length c.requires.design.0.processes
    ≡ c.len-numbers.result - 128 - 1 = omega (arith, c.args.flat.now.widths.ok.0) in
    subst (λ (n : ℕ). 1 < 2 ^ get_or c.pass_terms.new.terms.inputs n 0) last
    (subst (λ (ws : List ℕ).
    1 < 2 ^ get_or ws (length c.requires.design.0.vars + length c.requires.design.0.processes) 0)
    (sym (c.pass_terms.ensures.earlier.inputs ∙ c.place_terms.ensures.earlier.inputs))
    (movers_fit c.requires.design.0 c.args.terms (flat_terms c.args.flat.now) c.requires.design.1 1 (omega arith)))

pub overflow_cast-result : goal.overflow_cast-result
overflow_cast-result c =
    omega (
      arith,
      c.requires.design.1.levels,
      length_order (state_bits_in (flat_terms c.args.flat.now)) c.args.order.now c.requires.order,
    )

pub returns : goal.returns
returns c =
    let inputs = inputs_count c.requires.design.0 c.args.terms (flat_terms c.args.flat.now) c.requires.design.1 in
    let rows = processes_count c.requires.design.0 c.args.terms (flat_terms c.args.flat.now) c.requires.design.1 in
    let count : length c.args.flat.now.widths.items ≡ c.len-numbers.result =
    omega (arith, c.args.flat.now.widths.ok.0) in
    let first : c.len-numbers.result - 128 - 1 - c.len.result ≡ length c.requires.design.0.vars =
    omega (
      arith,
      c.args.flat.now.processes.ok.0,
      length-map c.args.flat.now.processes.items
          (λ (steps : Vec FlatStep Global). map step_terms steps.items),
    ) in
    let passed = Extends-trans c.place_terms.new.terms c.pass_terms.new.terms c.pass_terms-2.new.terms
    c.pass_terms.ensures.earlier c.pass_terms-2.ensures.earlier in
    start_is c.requires.design.0 c.args.terms (flat_terms c.args.flat.now) c.requires.design.1 c.args.order.now _
    (Extends-trans c.args.terms c.place_terms.new.terms c.pass_terms-2.new.terms c.place_terms.ensures.earlier passed)
    c.requires.order (ap (λ n. n - 128) (sym count)) first refl
    (c.in-Ok.ensures
    ∙ ap (λ (ws : List ℕ). input_levels c.args.order.now (take (c.len-numbers.result - 128) ws)) c.deref.ensures.value)
    (places_kept c.place_terms.new.terms c.pass_terms-2.new.terms passed (flat_terms c.args.flat.now).magic
    (c.len-numbers.result - 128 - 1 - c.len.result) c.in-Ok-place_terms.given.items
    (subst (λ (rows : List (Vec Bool Global)).
    ArePlaces c.place_terms.new.terms (flags_of rows) (c.len-numbers.result - 128 - 1 - c.len.result)
    c.in-Ok-place_terms.given.items) c.deref-2.ensures.value c.in-Ok-place_terms.ensures.places))
    (passing_kept c.pass_terms.new.terms c.pass_terms-2.new.terms c.pass_terms-2.ensures.earlier
    (c.len-numbers.result - 128) 0 c.in-Ok-pass_terms.given.items c.in-Ok-pass_terms.ensures.terms)
    c.in-Ok-pass_terms-2.ensures.terms
