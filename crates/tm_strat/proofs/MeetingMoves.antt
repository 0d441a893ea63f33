-- A call with constant arguments is the move that the values of levels with these bits tell.
use Rattle.std.proofs.Common.{◌≡◌, ℕ, zero, suc, ◌+◌, ◌-◌, ◌<◌, ◌≤◌, ◌==◌, ◌&&◌, Bool, true, false, List, [], ◌∷◌}
use Rattle.std.proofs.Common.{Option, Some, length, map, nat_lt, get_or, refl, sym, ap, ◌∙◌, subst, arith}
use Rattle.std.proofs.lemmas.Bool.Decides.{nat_tests}
use Rattle.std.proofs.lemmas.List.{get_or_default, length-map}
use Rattle.std.proofs.lemmas.List.FromFn.{get_or-map-range_with_len, length-range_with_len}
use Rattle.std.proofs.lemmas.Option.{get_or_from_slice_get}
use Rattle.std.specs.List.{range_with_len}
use Rattle.std.specs.Option.{option_map_or}
use Rattle.std.specs.Prelude.{if◌then◌else◌, min, nat_le}
use Rattle.tm_base.specs.Arithmetic.{bit}
use Rattle.tm_base.specs.Bits.{bits_of, number_of}
use Rattle.tm_check.specs.Replies.{move_of}
use Rattle.tm_cir.specs.Meaning.{num_value}
use Rattle.tm_cir.specs.Tree.{call, idle, leave}
use Rattle.tm_flat.proofs.Indices.{zipped_at}
use Rattle.tm_flat.specs.BitRun.{number_at}
use Rattle.tm_flat.specs.Fitting.{ArgumentsFit}
use Rattle.tm_flat.specs.Inputs.{arguments_from, arguments_in, bits_in, parameter_widths, room}
use Rattle.tm_flat.specs.IsFlat.{AreWidths}
use Rattle.tm_game.proofs.Flats.{number_at as place_at}
use Rattle.tm_game.proofs.Valuing.{widths_fit}
use Rattle.tm_game.specs.Game.{GameData}
use Rattle.tm_game.specs.Moves.{HasTask, move_at}
use Rattle.tm_game.specs.declared.moves.MoveShape.{MoveShape}
use Rattle.tm_game.specs.declared.moves.MoveShape.TheVariants as shapes
use Rattle.tm_game_bits.proofs.Tables.{leaves_from}
use Rattle.tm_game_bits.proofs.Tasks.{has_tasks}
use Rattle.tm_game_bits.specs.AssignedStates.{state_of}
use Rattle.tm_game_bits.specs.Functions.{Assignment}
use Rattle.tm_game_bits.specs.Inputs.{arguments_at}
use Rattle.tm_sem.specs.Run.{asked_by}
use Rattle.tm_sem.specs.State.{StateData}
use Rattle.tm_sem.specs.Step.{IsAllowed, IsState, task_of}
use Rattle.tm_sem.specs.declared.state.Move.TheVariants as moves
use Rattle.tm_solve_exact.proofs.Growing.{coding_told}
use Rattle.tm_solve_exact.specs.Exact.{IsExactOf, coding}
use Rattle.tm_strat.proofs.Constants.{bits_length, room_is}
use Rattle.tm_strat.proofs.Goods.{state_same}
use Rattle.tm_strat.specs.Choice.{with_bits}
use Rattle.tm_strat.specs.Meeting.{CanCall}
use Rattle.tm_strat.specs.Spelled.{bit_in, constants_from, widths_in, widths_of}
use Rattle.tm_strat.specs.Trees.{expression_tree, move_tree, takes}
use Rattle.tm_strat.specs.declared.numbers.Counts.{Counts}
use Rattle.tm_strat.specs.declared.spelling.Spelling.{Spelling}
use Rattle.tm_syntax.specs.Design.{DesignTree}
use Rattle.tm_syntax.specs.Design.Cells.{Called, Cell}
use Rattle.tm_syntax.specs.Design.Sizes.{type_bits}
use Rattle.tm_syntax.specs.Faults.Limits.{limit_of}
use Rattle.tm_syntax.specs.declared.fault.Quantity.TheVariants as quantity

-- ---- bits
-- a bit of an argument as a number and back
bit_back : (b : Bool) → (bit b == 1) ≡ b
bit_back true = refl
bit_back false = refl

map_agree : (f h : ℕ → Bool) (place n : ℕ) → ((q : ℕ) → place ≤ q → q < place + n → f q ≡ h q) →
    map f (range_with_len place n) ≡ map h (range_with_len place n)
map_agree f h place zero same = refl
map_agree f h place (suc n) same =
    λ i. same place (omega arith) (omega arith) i
    ∷ map_agree f h (place + 1) n (λ q above below. same q (omega (arith, above)) (omega (arith, below))) i

module _ (first bits : ℕ) (v : Assignment) where
  low : (k : ℕ) → k < first → with_bits first bits v k ≡ v k
  low k below =
      let is : nat_lt k first ≡ true = grind (arith, nat_tests, below) in
      ap (λ (t : Bool). if t then v k else get_or (bits_of 64 bits) (k - first) (v k)) is

  high : (q : ℕ) → q < 64 → with_bits first bits v (first + q) ≡ bit_in bits q
  high q small =
      let is : nat_lt (first + q) first ≡ false = grind (arith, nat_tests) in
      let place : first + q - first ≡ q = omega arith in
      let long = bits_length 64 bits in
      ap (λ (t : Bool). if t then v (first + q) else get_or (bits_of 64 bits) (first + q - first) (v (first + q))) is
      ∙ ap (λ (k : ℕ). get_or (bits_of 64 bits) k (v (first + q))) place
      ∙ get_or_default (bits_of 64 bits) q (v (first + q)) false (omega (arith, small, long))

module _ (d : DesignTree) (g : GameData) (is : IsExactOf d g) (can : CanCall d) (s : StateData) (state : IsState d s)
    (bits : ℕ) where
  -- the values of levels that tell the state, with these bits for the arguments
  abbrev given : Assignment
  given = with_bits (length g.order) bits ((coding g).assignment_of s)

  pub given_state : state_of d g.order given ≡ s
  given_state =
      sym (state_same d g is given)
      ∙ (coding_told d g is).same given ((coding g).assignment_of s)
      (λ k below. low (length g.order) bits ((coding g).assignment_of s) k below)
      ∙ (coding_told d g is).back s state

  same_bit : (q : ℕ) → q < 64 → bits_in (arguments_at g.order given) q ≡ bit_in bits q
  unfolding room
  same_bit q small =
      ap (λ n. n == 1)
      (get_or-map-range_with_len (λ k. bit (given k)) (length g.order) 64 q (length g.order + q) 0 small refl)
      ∙ bit_back (given (length g.order + q))
      ∙ high (length g.order) bits ((coding g).assignment_of s) q small

  module _ (c : Counts) (j : ℕ) where
    -- the constants are the arguments
    arguments_are : (params : List Cell) (k : ℕ) → ArgumentsFit room d params k →
        map (num_value s j) (map (expression_tree c) (constants_from bits k (parameter_widths d params)))
        ≡ arguments_from d params (bits_in (arguments_at g.order given)) k
    arguments_are [] k fits = refl
    arguments_are (p ∷ ps) k fits =
        λ i. first i ∷ (ap (λ (n : ℕ). map (num_value s j) (map (expression_tree c)
        (constants_from bits n (parameter_widths d ps)))) behind
        ∙ arguments_are ps (k + type_bits d.spec (asked_by d (Some p))) fits.1) i
      where
        within : k + type_bits d.spec (asked_by d (Some p)) ≤ 64
        within =
            let far = widths_fit d ps (k + type_bits d.spec (asked_by d (Some p))) fits.1 in
            let wide = room_is in
            omega (arith, far, wide)

        behind : min (k + type_bits d.spec (asked_by d (Some p))) 64 ≡ k + type_bits d.spec (asked_by d (Some p))
        behind = let far = within in omega (arith, far)

        whole : min (type_bits d.spec (asked_by d (Some p))) 64 ≡ type_bits d.spec (asked_by d (Some p))
        whole = let far = within in omega (arith, far)

        first : number_at (bit_in bits) k (min (type_bits d.spec (asked_by d (Some p))) 64)
            ≡ number_at (bits_in (arguments_at g.order given)) k (type_bits d.spec (asked_by d (Some p)))
        first =
            ap (λ (w : ℕ). number_at (bit_in bits) k w) whole
            ∙ ap number_of
            (map_agree (bit_in bits) (bits_in (arguments_at g.order given)) k
            (type_bits d.spec (asked_by d (Some p)))
            (λ q above below. sym (same_bit q (let far = within in omega (arith, below, far)))))

    constants_long : (k : ℕ) (ws : List ℕ) → length (constants_from bits k ws) ≡ length ws
    constants_long k [] = refl
    constants_long k (w ∷ ws) = ap (λ n. suc n) (constants_long (min (k + w) 64) ws)

    -- the widths of a task's parameters
    widths_are : (sp : Spelling) → widths_of sp ≡ g.flat.parameters → (n : ℕ) → n < length d.tasks →
        (callee : Called) → task_of d n ≡ Some callee → widths_in sp (shapes.Call n) ≡ parameter_widths d callee.params
    widths_are sp told n below callee known =
        let found = zipped_at (AreWidths d) (range_with_len 0 (length d.tasks)) g.flat.parameters
        is.ordered.of.flat.parameters n (let long = length-range_with_len 0 (length d.tasks) in
        omega (arith, long, below)) in
        let this : found.0 ≡ n = place_at (length d.tasks) n found.0 found.2 in
        ap (λ (rows : List (List ℕ)). get_or rows n []) told
        ∙ get_or_from_slice_get g.flat.parameters n found.1 [] found.3
        ∙ subst (λ (q : ℕ). AreWidths d q found.1) this found.4 callee known

    -- whether a task takes so many arguments
    takes_them : (n : ℕ) (callee : Called) → task_of d n ≡ Some callee → (count : ℕ) →
        count ≡ length callee.params → takes d n count ≡ true
    takes_them n callee known count same =
        ap (λ (o : Option ℕ). option_map_or (λ m. m == count) o false && nat_le count (limit_of quantity.Arguments))
        (can.declared n callee known)
        ∙ both (length callee.params == count) (nat_le count (limit_of quantity.Arguments))
        (grind (arith, nat_tests, same))
        (let few = can.fits n callee known in grind (arith, nat_tests, same, few))
      where
        both : (a b : Bool) → a ≡ true → b ≡ true → (a && b) ≡ true
        both true b one other = other
        both false b one other = cc

    -- the move of a shape with constants is the one that the values of levels tell
    pub constant_move_is : (sp : Spelling) → widths_of sp ≡ g.flat.parameters → (shape : MoveShape) →
        HasTask g.flat shape → length g.flat.tasks ≡ length d.tasks → IsAllowed d s (move_at d g.order shape given) →
        move_of j (move_tree d c shape (constants_from bits 0 (widths_in sp shape))) s ≡ move_at d g.order shape given
    constant_move_is sp told shapes.Idle there count allowed = refl
    constant_move_is sp told (shapes.Leave p) there count allowed =
        let stands = leaves_from d s allowed.1 allowed.2 allowed.4 p allowed.3 in
        let is_there : nat_lt p (length d.processes) ≡ true = grind (arith, nat_tests, stands.0) in
        ap (λ (t : Bool). move_of j (if t then leave p else idle) s) is_there
    constant_move_is sp told (shapes.Call n) there count allowed =
        let below : n < length d.tasks = omega (arith, there, count) in
        let callee = has_tasks d is.ordered.of.design n below in
        let ws = widths_are sp told n below callee.0 callee.1 in
        let long : length (constants_from bits 0 (widths_in sp (shapes.Call n))) ≡ length callee.0.params =
        constants_long 0 (widths_in sp (shapes.Call n))
        ∙ ap (λ (l : List ℕ). length l) ws
        ∙ length-map callee.0.params (λ (p : Cell). type_bits d.spec (asked_by d (Some p))) in
        ap (λ (t : Bool).
        move_of j (if t then call n (map (expression_tree c) (constants_from bits 0 (widths_in sp (shapes.Call n))))
        else idle) s)
        (takes_them n callee.0 callee.1 (length (constants_from bits 0 (widths_in sp (shapes.Call n)))) long)
        ∙ ap (λ (l : List ℕ). moves.Call n (map (num_value s j) (map (expression_tree c) (constants_from bits 0 l)))) ws
        ∙ ap (moves.Call n)
        (arguments_are callee.0.params 0 (is.ordered.of.room.arguments n callee.0 callee.1))
        ∙ sym (ap (λ (o : Option Called).
        option_map_or (λ (k : Called). moves.Call n (arguments_in d k.params (arguments_at g.order given))) o
        moves.Idle)
        callee.1)
