-- A game of four states, each of two bits. States 0 and 1 go round; state 2 meets both goals once and leads to state 3,
-- which meets none and is never left.
use Rattle.std.specs.Prelude.{◌≡◌, ℕ, ◌==◌, Bool, true, false, ◌&&◌, List, [], ◌∷◌, slice_index, if◌then◌else◌}
use Rattle.std.proofs.Common.{inl, inr, refl, ap}
use Rattle.tm_dd.specs.Table.{Table, Knows, means, assignment}
use Rattle.tm_sem.specs.State.{StateData}
use Rattle.tm_solve.specs.Sets.{StateSet}
use Rattle.tm_solve.specs.Game.{Game, IsMonotone, IsAbsorbing}
use Rattle.tm_solve.specs.Ids.{Ids}
use Rattle.tm_solve.specs.Operator.{Operator, Rises, game_of}
use Rattle.tm_solve.specs.OperatorLaws.{monotone_of, absorbing_of}

-- a state of two bits
abbrev pub state : ℕ → ℕ → StateData
state high low = record { values = high ∷ low ∷ []; places = []; last = 0 }

abbrev pub four_states : List StateData
four_states = state 0 0 ∷ state 0 1 ∷ state 1 0 ∷ state 1 1 ∷ []

abbrev pub high : StateData → Bool
high s = slice_index s.values 0 == 1

abbrev pub low : StateData → Bool
low s = slice_index s.values 1 == 1

-- the set with these values at the four states
abbrev pub pick : Bool → Bool → Bool → Bool → StateSet
pick a b c e s = if high s then (if low s then e else c) else (if low s then b else a)

-- state 0 may stay or go to 1, state 1 goes to 0, and the others go to 3
abbrev pub stay : StateSet → StateSet
stay a s = pick (a (state 0 0) && a (state 0 1)) (a (state 0 0)) (a (state 1 1)) (a (state 1 1)) s

-- goal 0 holds at 1 and 2, goal 1 at 0 and 2; condition 0 fails at 0, condition 1 at 2
abbrev pub four : Operator
four = record {
  goal = λ j s. if j == 0 then pick false true true false s else pick true false true false s;
  fair = λ i s. if i == 0 then pick false true true true s else pick true true false true s;
  stay = stay;
}

abbrev pub example_game : Game
example_game = game_of four_states 2 2 four

-- an id of a store of two levels means the states at whose bits its function is true
abbrev pub example_ids : Table → Ids
example_ids t = record {
  knows = Knows t;
  kept = Knows t;
  means = λ id s. means t id (assignment (high s ∷ low s ∷ []));
  of = λ d. Unit {0};
  side = record { tracked = []; upper = false; game = example_game };
}

and_rises : (a b a' b' : Bool) → (a ≡ true → a' ≡ true) → (b ≡ true → b' ≡ true) → (a && b) ≡ true → (a' && b') ≡ true
and_rises true b a' b' f g e = and_here a' b' (f refl) (g e)
  where
    and_here : (a b : Bool) → a ≡ true → b ≡ true → (a && b) ≡ true
    and_here true b p q = q
    and_here false b p q = p
and_rises false b a' b' f g e = ap (λ v. if v then true else (a' && b')) e

pick_rises : (h l a b c e a' b' c' e' : Bool) → (a ≡ true → a' ≡ true) → (b ≡ true → b' ≡ true) →
    (c ≡ true → c' ≡ true) →
    (e ≡ true → e' ≡ true) → (if h then (if l then e else c) else (if l then b else a)) ≡ true →
    (if h then (if l then e' else c') else (if l then b' else a')) ≡ true
pick_rises true true a b c e a' b' c' e' f g i j t = j t
pick_rises true false a b c e a' b' c' e' f g i j t = i t
pick_rises false true a b c e a' b' c' e' f g i j t = g t
pick_rises false false a b c e a' b' c' e' f g i j t = f t

four_rises : Rises four_states four
four_rises a b w =
    let at_0 : a (state 0 0) ≡ true → b (state 0 0) ≡ true = w.within (state 0 0) (inl refl) in
    let at_1 : a (state 0 1) ≡ true → b (state 0 1) ≡ true = w.within (state 0 1) (inr (inl refl)) in
    let at_3 : a (state 1 1) ≡ true → b (state 1 1) ≡ true = w.within (state 1 1) (inr (inr (inr (inl refl)))) in
    record {
      within = λ s among here. pick_rises (high s) (low s) _ _ _ _ _ _ _ _ (and_rises _ _ _ _ at_0 at_1) at_0 at_3 at_3
          here;
    }

pub example_monotone : IsMonotone example_game
example_monotone = monotone_of four_states 2 2 four four_rises

pub example_absorbing : IsAbsorbing example_game
example_absorbing = absorbing_of four_states 2 2 four four_rises
