use Rattle.std.proofs.Common.{◌≡◌, ℕ, ◌-◌, ◌^◌, ◌<◌, List, length, take, drop, sym, ap, ◌∙◌, subst, arith}
use Rattle.std.specs.Prelude.{All}
use Rattle.std.proofs.lemmas.List.{get_or_default, length-drop, length-take-le}
use Rattle.tm_game.proofs.Reading.{read_short, slice_short, state_read}
use Rattle.tm_game.proofs.least.state_at.Goals as goal

pub shortened-requires : goal.shortened-requires
shortened-requires c =
    subst
    (λ (ns : List ℕ). All (λ n. n < 2 ^ 32)
    (take (length c.args.widths.now - 1 - c.args.first) (drop c.args.first ns)))
    (sym c.deref-2.ensures.value)
    (slice_short c.args.bits.now c.args.widths.now c.in_ok-numbers.numbers.items c.args.first
    c.in_ok-numbers.ensures.numbers c.requires.short (length c.args.widths.now - 1) (omega (arith, c.requires.first)))

pub overflow_cast-result : goal.overflow_cast-result
overflow_cast-result c =
    let small = read_short c.args.bits.now c.args.widths.now c.in_ok-numbers.numbers.items c.args.first
    c.in_ok-numbers.ensures.numbers c.requires.short (length c.args.widths.now - 1) (omega (arith, c.requires.first))
    (omega (arith, c.requires.first)) in
    let same = get_or_default c.in_ok-numbers.numbers.items (length c.args.widths.now - 1) c.index.result.now 0
    (omega (arith, c.requires.first, c.in_ok-numbers.ensures.count)) in
    omega (arith, small, same, c.index.ensures)

pub returns-clause-numbers : goal.returns-clause-numbers
returns-clause-numbers c =
    state_read c.in_ok-numbers.numbers.items c.args.first (length c.args.widths.now - 1) (record {
      values = c.in_ok-values.values.items;
      places = c.in_ok-places.places.items;
      last = c.index.result.now;
    }) (omega (arith, c.requires.first, c.in_ok-numbers.ensures.count)) (omega (arith, c.requires.first))
    (c.in_ok-values.ensures.items ∙ ap (take c.args.first) c.deref.ensures.value)
    (c.in_ok-places.ensures
    ∙ ap (λ (ns : List ℕ). take (length c.args.widths.now - 1 - c.args.first) (drop c.args.first ns))
    c.deref-2.ensures.value)
    (c.index.ensures
    ∙ get_or_default c.in_ok-numbers.numbers.items (length c.args.widths.now - 1) c.index.result.now 0
    (omega (arith, c.requires.first, c.in_ok-numbers.ensures.count)))
    ∙ c.in_ok-numbers.ensures.numbers

pub returns-clause-values : goal.returns-clause-values
returns-clause-values c =
    ap length c.in_ok-values.ensures.items
    ∙ length-take-le c.args.first c.deref.result.now
    (omega (arith, c.requires.first, c.in_ok-numbers.ensures.count, ap length c.deref.ensures.value))

pub returns-clause-places : goal.returns-clause-places
returns-clause-places c =
    let count : length c.deref-2.result.now ≡ length c.args.widths.now =
    ap length c.deref-2.ensures.value ∙ c.in_ok-numbers.ensures.count in
    let left = length-drop c.args.first c.deref-2.result.now in
    let taken = length-take-le (length c.args.widths.now - 1 - c.args.first)
    (drop c.args.first c.deref-2.result.now) (omega (arith, count, left)) in
    omega (arith, c.requires.first, ap length c.in_ok-places.ensures, taken)
