use Rattle.std.proofs.Common.{◌≡◌, ℕ, ◌≤◌, ◌<◌, Bool, List, None, Vec, length, take, drop, sym, ap, ◌∙◌, subst, arith}
use Rattle.std.specs.Prelude.{All, sum}
use Rattle.std.specs.declared.alloc.Global.{Global}
use Rattle.tm_game_bits.specs.AssignedStates.{numbers_from}
use Rattle.tm_dd.specs.Table.{assignment}
use Rattle.tm_flat.specs.Flat.{flat_terms}
use Rattle.tm_game.specs.Game.{GameData, IsOf, IsSet}
use Rattle.tm_game.specs.Inner.LeastBits.{AreLeastBits, IsNowhere, place_bits}
use Rattle.tm_game.specs.Least.{HoldsNowhere, test_of}
use Rattle.tm_game.proofs.Extending.{extended_only, grows_from}
use Rattle.tm_game.proofs.LeastStates.{bits_enough, first_within, found_none, found_some, least_is, nowhere_in, own_order}
use Rattle.tm_game.proofs.game.Game.least.Goals as goal
use Rattle.tm_game_bits.specs.Order.{IsOrder}
use Rattle.tm_game_steps.specs.Setting.{setting_of}
use Rattle.tm_sem.specs.StateBits.{IsLeast}
use Rattle.tm_syntax.specs.Design.{DesignTree}

pub least_bits-requires-clause-order : goal.least_bits-requires-clause-order
least_bits-requires-clause-order c =
    subst (λ (order : List ℕ). IsOrder (length order) order) (sym c.deref.ensures.value)
    (own_order (setting_of c.self.inside.encoding) (flat_terms c.self.inside.flat) c.self.inside.order.items
    c.self.invariant.shape)

pub least_bits-requires-clause-few : goal.least_bits-requires-clause-few
least_bits-requires-clause-few c =
    omega
    (arith, c.self.invariant.ready.words, c.self.invariant.shape.count, ap length c.deref.ensures.value)

pub least_bits-requires-clause-levels : goal.least_bits-requires-clause-levels
least_bits-requires-clause-levels c =
    omega (arith, c.self.invariant.levels, ap length c.deref.ensures.value)

pub least_bits-requires-clause-valid : goal.least_bits-requires-clause-valid
least_bits-requires-clause-valid c = c.self.invariant.steps.known.valid

pub least_bits-requires-clause-set : goal.least_bits-requires-clause-set
least_bits-requires-clause-set c =
    (subst (λ (g : GameData). IsSet g c.args.set) (sym c.self.view_is) c.requires).known

pub invariant_of-self : goal.invariant_of-self
invariant_of-self c =
    extended_only c.self.inside c.least_bits.new.dd c.self.invariant c.least_bits.ensures.extends

pub invariant_of-self-2 : goal.invariant_of-self-2
invariant_of-self-2 c =
    extended_only c.self.inside c.least_bits.new.dd c.self.invariant c.least_bits.ensures.extends

pub invariant_of-self-in_default : goal.invariant_of-self-in_default
invariant_of-self-in_default c =
    extended_only c.self.inside c.least_bits.new.dd c.self.invariant c.least_bits.ensures.extends

pub invariant_of-self-in_err-state : goal.invariant_of-self-in_err-state
invariant_of-self-in_err-state c =
    extended_only c.self.inside c.least_bits.new.dd c.self.invariant c.least_bits.ensures.extends

pub returns-in_err-bits-clause-grows : goal.returns-in_err-bits-clause-grows
returns-in_err-bits-clause-grows c =
    grows_from c.self.inside _ c.self.view_is c.least_bits.new.dd c.self.inside.recent c.least_bits.ensures.extends

pub returns-in_default-clause-grows : goal.returns-in_default-clause-grows
returns-in_default-clause-grows c =
    grows_from c.self.inside _ c.self.view_is c.least_bits.new.dd c.self.inside.recent c.least_bits.ensures.extends

pub returns-in_default-clause-least : goal.returns-in_default-clause-least
returns-in_default-clause-least c =
    let none : c.in_ok-bits.field-0 ≡ None = cc in
    let nowhere = found_none (IsNowhere c.self.inside.dd.table c.self.inside.made.steps.valid c.args.set)
    (λ (bits : Vec Bool Global). AreLeastBits c.self.inside.dd.table c.self.inside.made.steps.valid c.args.set
    c.deref.result.now bits.items) c.in_ok-bits.field-0 none c.in_ok-bits.ensures.least in
    subst (λ (g : GameData). (d : DesignTree) → IsOf d g → HoldsNowhere d (test_of d g c.args.set)) c.self.view_is
    (λ d of.
    nowhere_in c.self.inside c.self.invariant d of c.args.set
    (subst (λ (g : GameData). IsSet g c.args.set) (sym c.self.view_is) c.requires).reads nowhere)

pub returns-in_err-state-clause-grows : goal.returns-in_err-state-clause-grows
returns-in_err-state-clause-grows c =
    grows_from c.self.inside _ c.self.view_is c.least_bits.new.dd c.self.inside.recent c.least_bits.ensures.extends

pub state_at-requires-clause-first : goal.state_at-requires-clause-first
state_at-requires-clause-first c =
    subst (λ (ws : List ℕ). c.self.inside.encoding.first < length (take c.self.inside.encoding.numbers ws))
    (sym c.deref-2.ensures.value)
    (first_within (setting_of c.self.inside.encoding) (flat_terms c.self.inside.flat) c.self.inside.order.items
    c.self.invariant.shape)

pub state_at-requires-clause-bits : goal.state_at-requires-clause-bits
state_at-requires-clause-bits c =
    let least = found_some (IsNowhere c.self.inside.dd.table c.self.inside.made.steps.valid c.args.set)
    (λ (bits : Vec Bool Global). AreLeastBits c.self.inside.dd.table c.self.inside.made.steps.valid c.args.set
    c.deref.result.now bits.items) c.in_ok-bits.field-0 c.in-Some.bits c.in-Some.is c.in_ok-bits.ensures.least in
    let are = subst (λ (order : List ℕ). place_bits order least.at ≡ c.in-Some.bits.items) c.deref.ensures.value
    least.are in
    let enough = bits_enough (setting_of c.self.inside.encoding) (flat_terms c.self.inside.flat)
    c.self.inside.order.items c.self.invariant.shape least.at c.in-Some.bits.items are in
    subst (λ (ws : List ℕ). sum (take c.self.inside.encoding.numbers ws) ≤ length c.deref-3.result.now)
    (sym c.deref-2.ensures.value)
    (subst (λ (bs : List Bool). sum (take c.self.inside.encoding.numbers c.self.inside.flat.widths.items) ≤ length bs)
    (sym c.deref-3.ensures.value) enough)

pub state_at-requires-clause-widths : goal.state_at-requires-clause-widths
state_at-requires-clause-widths c =
    subst (λ (ws : List ℕ). All (λ w. w ≤ 64) (take c.self.inside.encoding.numbers ws)) (sym c.deref-2.ensures.value)
    c.self.invariant.shape.wide

pub state_at-requires-clause-short : goal.state_at-requires-clause-short
state_at-requires-clause-short c =
    subst
    (λ (ws : List ℕ). All (λ w. w ≤ 32)
    (drop c.self.inside.encoding.first (take c.self.inside.encoding.numbers ws)))
    (sym c.deref-2.ensures.value) c.self.invariant.shape.short

pub returns-clause-grows : goal.returns-clause-grows
returns-clause-grows c =
    grows_from c.self.inside _ c.self.view_is c.least_bits.new.dd c.self.inside.recent c.least_bits.ensures.extends

pub returns-clause-least : goal.returns-clause-least
returns-clause-least c =
    let least = found_some (IsNowhere c.self.inside.dd.table c.self.inside.made.steps.valid c.args.set)
    (λ (bits : Vec Bool Global). AreLeastBits c.self.inside.dd.table c.self.inside.made.steps.valid c.args.set
    c.deref.result.now bits.items) c.in_ok-bits.field-0 c.in-Some.bits c.in-Some.is c.in_ok-bits.ensures.least in
    let own = subst
    (λ (order : List ℕ). AreLeastBits c.self.inside.dd.table c.self.inside.made.steps.valid c.args.set order
    c.in-Some.bits.items) c.deref.ensures.value least in
    subst (λ (g : GameData). (d : DesignTree) → IsOf d g → IsLeast d (test_of d g c.args.set) c.in_ok-state.state)
    c.self.view_is
    (λ d of.
    least_is c.self.inside c.self.invariant d of c.args.set
    (subst (λ (g : GameData). IsSet g c.args.set) (sym c.self.view_is) c.requires).reads c.in-Some.bits.items own.at
    own.are c.in_ok-state.state
    (c.in_ok-state.ensures.numbers
    ∙ (λ i. numbers_from (take c.self.inside.encoding.numbers (c.deref-2.ensures.value i))
    (assignment (c.deref-3.ensures.value i)) 0))
    c.in_ok-state.ensures.values
    (c.in_ok-state.ensures.places
    ∙ ap (λ (ws : List ℕ). length (take c.self.inside.encoding.numbers ws)) c.deref-2.ensures.value) own.here
    own.none_before)
