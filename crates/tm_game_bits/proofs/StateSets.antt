-- What a game over states makes of sets of states are sets of states.
use Rattle.std.proofs.Common.{◌≡◌, ℕ, ◌<◌, ◌⊎◌, inl, inr, Bool, true, false, not, eqb, cond, length, get_or, List, [], ◌∷◌, Some, refl, sym, ap, subst, ◌∙◌, arith}
use Rattle.std.specs.Prelude.{All, Contains}
use Rattle.std.specs.Map.{lookup}
use Rattle.std.specs.Option.{option_map_or}
use Rattle.std.proofs.lemmas.Bool.{eqb-true, eqb-false}
use Rattle.std.proofs.lemmas.List.Elements.{All-head, All-tail}
use Rattle.tm_game_bits.specs.Functions.{Assignment, Function, StepFunctions, GameFunctions, after, outside}
use Rattle.tm_game_bits.specs.Forcing.{Forced, IsAllowed, IsCalm, IsGood, IsGoodForSome, IsLegalMove, Keeps, Stays, WithChoices}
use Rattle.tm_game_bits.specs.States.{AgreeOn, AreOneState, IsGameOver, IsStepOver, ReadsState}
use Rattle.tm_game_bits.proofs.Deciding.{Contains-cases, Contains-head, Contains-tail}
use Rattle.tm_game_bits.proofs.Either.{forced_or_stays, not_forced}
use Rattle.tm_game_bits.proofs.GameSets.{forced_valid}

pub contains_or_not : (levels : List ℕ) (k : ℕ) → Contains levels k ⊎ (¬ Contains levels k)
contains_or_not [] k = inr (λ c. omega (arith, c.1))
contains_or_not (l ∷ ls) k = by_first (eqb l k) refl (contains_or_not ls k)
  where
    by_first : (b : Bool) → eqb l k ≡ b → Contains ls k ⊎ (¬ Contains ls k) →
        Contains (l ∷ ls) k ⊎ (¬ Contains (l ∷ ls) k)
    by_first true e h = inl (subst (Contains (l ∷ ls)) (eqb-true l k e) (Contains-head l ls))
    by_first false e (inl there) = inl (Contains-tail l ls k there)
    by_first false e (inr not_so) = inr (λ c. elim (Contains-cases l ls k c) [
      | inl is ↦ absurd (eqb-false l k e is)
      | inr there ↦ not_so there
    ])

-- the first of two values where something holds, and else the second
picked : {P : Type 0} → P ⊎ (¬ P) → Bool → Bool → Bool
picked (inl p) a b = a
picked (inr not_so) a b = b

picked-first : {P : Type 0} (d : P ⊎ (¬ P)) (a b : Bool) → P → picked d a b ≡ a
unfolding picked
picked-first (inl p) a b h = refl
picked-first (inr not_so) a b h = absurd (not_so h)

picked-second : {P : Type 0} (d : P ⊎ (¬ P)) (a b : Bool) → (¬ P) → picked d a b ≡ b
unfolding picked
picked-second (inl p) a b h = absurd (h p)
picked-second (inr not_so) a b h = refl

-- w's values at the levels of a list, and v's elsewhere
pub mixed : List ℕ → Assignment → Assignment → Assignment
mixed levels v w k = picked (contains_or_not levels k) (w k) (v k)

pub mixed-in : (levels : List ℕ) (v w : Assignment) (k : ℕ) → Contains levels k → mixed levels v w k ≡ w k
unfolding mixed
mixed-in levels v w k h = picked-first (contains_or_not levels k) (w k) (v k) h

pub mixed-out : (levels : List ℕ) (v w : Assignment) (k : ℕ) → (¬ Contains levels k) → mixed levels v w k ≡ v k
unfolding mixed
mixed-out levels v w k h = picked-second (contains_or_not levels k) (w k) (v k) h

-- what agrees with w but for some levels where v and w agree, agrees with the mixture too
mixed-same : (levels : List ℕ) (v w u : Assignment) (k : ℕ) → v k ≡ w k → ((¬ Contains levels k) → u k ≡ w k) →
    mixed levels v u k ≡ u k
mixed-same levels v w u k e h = elim (contains_or_not levels k) [
  | inl there ↦ mixed-in levels v u k there
  | inr not_so ↦ mixed-out levels v u k not_so ∙ e ∙ sym (h not_so)
]

-- a level has the same value after a change whose functions agree
after-same : (next : List (ℕ × Function)) (v w : Assignment) →
    All (λ (p : ℕ × Function). p.1 v ≡ p.1 w) next → (k : ℕ) → v k ≡ w k →
    after next v k ≡ after next w k
after-same [] v w all k e = e
after-same (p ∷ rest) v w all k e =
    elim (eqb p.0 k) as (λ b.
    option_map_or (λ (f : Function). f v) (cond b (Some p.1) (lookup (λ l. eqb l k) rest)) (v k)
    ≡ option_map_or (λ (f : Function). f w) (cond b (Some p.1) (lookup (λ l. eqb l k) rest)) (w k)) [
      | true ↦ All-head (λ (q : ℕ × Function). q.1 v ≡ q.1 w) p rest all
      | false ↦ after-same rest v w (All-tail (λ (q : ℕ × Function). q.1 v ≡ q.1 w) p rest all) k e
    ]

-- two assignments of one state, with the same choices and arguments of a step
record AreOne (count : ℕ) (step : StepFunctions) (v w : Assignment) : Type 0 where
  pub state : AreOneState count v w
  pub choices : AgreeOn step.choices v w
  pub arguments : AgreeOn step.arguments v w

module _ (count : ℕ) (step : StepFunctions) (over : IsStepOver count step) (a : Function)
    (reads : ReadsState count a) where
  legal-same : (v w : Assignment) → AreOne count step v w → step.legal v ≡ step.legal w
  legal-same v w one = over.legal v w one.state one.choices one.arguments

  error-same : (v w : Assignment) → AreOne count step v w → step.error v ≡ step.error w
  error-same v w one = over.error v w one.state one.choices one.arguments

  lands-same : (v w : Assignment) → AreOne count step v w → a (after step.next v) ≡ a (after step.next w)
  lands-same v w one =
      reads (after step.next v) (after step.next w) (λ k below. after-same step.next v w
      (λ n d inside. over.next n d inside v w one.state one.choices one.arguments) k (one.state k below))

  -- choices at one assignment, made at another one of the same state
  module _ (v w : Assignment) (state : AreOneState count v w) (arguments : AgreeOn step.arguments v w) where
    chosen-here : (u : Assignment) → WithChoices step v (mixed step.choices v u)
    chosen-here u = λ k h. mixed-out step.choices v u k h

    one-here : (u : Assignment) → WithChoices step w u → AreOne count step (mixed step.choices v u) u
    one-here u chosen = record {
      state = λ k below. mixed-same step.choices v w u k (state k below) (chosen k);
      choices = λ k there. mixed-in step.choices v u k there;
      arguments = λ k there. mixed-same step.choices v w u k (arguments k there) (chosen k);
    }

    keeps-here : Keeps step a v → Keeps step a w
    keeps-here keeps = record {
      no_error = λ u chosen legal.
          let one = one-here u chosen in
          sym (error-same (mixed step.choices v u) u one)
          ∙ keeps.no_error (mixed step.choices v u) (chosen-here u) (legal-same (mixed step.choices v u) u one ∙ legal);
      ends_within = λ u chosen legal ok.
          let one = one-here u chosen in
          sym (lands-same (mixed step.choices v u) u one)
          ∙ keeps.ends_within (mixed step.choices v u) (chosen-here u)
          (legal-same (mixed step.choices v u) u one ∙ legal) (error-same (mixed step.choices v u) u one ∙ ok);
    }

    allowed-here : (turn : Function) → ReadsState count turn → IsAllowed turn step w → IsAllowed turn step v
    allowed-here turn told allowed =
        let u = allowed.some.0 in
        let one = one-here u allowed.some.1 in
        record {
          at_turn = told v w state ∙ allowed.at_turn;
          some = (mixed step.choices v u, chosen-here u, legal-same (mixed step.choices v u) u one ∙ allowed.some.2);
        }

  good-here : (turn : Function) → ReadsState count turn → (v w : Assignment) → AreOneState count v w →
      AgreeOn step.arguments v w → IsGood turn a step v → IsGood turn a step w
  good-here turn told v w state arguments good = record {
    allowed = allowed-here w v (λ k below. sym (state k below)) (λ k there. sym (arguments k there)) turn told
        good.allowed;
    keeps = keeps-here v w state arguments good.keeps;
  }

module _ (count : ℕ) (g : GameFunctions) (over : IsGameOver count g) (a : Function) (reads : ReadsState count a)
    (v w : Assignment) (state : AreOneState count v w) where
  pub calm_of_state : IsCalm g a v → IsCalm g a w
  calm_of_state calm = record {
    valid = sym (over.valid v w state) ∙ calm.valid;
    stutter = sym (reads (after g.stutter v) (after g.stutter w) (λ k below. after-same g.stutter v w
        (λ n d inside. over.stutter n d inside v w state) k (state k below))) ∙ calm.stutter;
    environment = λ n d inside. keeps-here count _ (over.environment n d inside) a reads v w state
        (λ k there. absurd (none n d inside k there)) (calm.environment n d inside);
  }
    where
      none : (n : ℕ) (d : StepFunctions) → n < length g.environment → (k : ℕ) →
          ¬ Contains (get_or g.environment n d).arguments k
      none n d inside k there =
          let here = subst (λ levels. Contains levels k) (over.no_arguments n d inside) there in
          omega (arith, here.1)

  pub moves_of_state : (step : StepFunctions) → IsStepOver count step → AgreeOn step.arguments v w →
      IsLegalMove g a step v → IsLegalMove g a step w
  moves_of_state step over_step arguments move = record {
    valid = sym (over.valid v w state) ∙ move.valid;
    good = good-here count step over_step a reads g.turn over.turn v w state arguments move.good;
  }

  acts_of_state : (step : StepFunctions) → IsStepOver count step → IsGoodForSome g.turn a v step →
      IsGoodForSome g.turn a w step
  acts_of_state step over_step good =
      let u = good.0 in
      let there = mixed step.arguments w u in
      let one : AreOneState count u there = λ k below.
      sym (mixed-same step.arguments w v u k (sym (state k below)) (good.1 k)) in (
        there,
        (λ k h. mixed-out step.arguments w u k h),
        good-here count step over_step a reads g.turn over.turn u there one
            (λ k inside. sym (mixed-in step.arguments w u k inside)) good.2,
      )

  pub stays_of_state : Stays g a v → Stays g a w
  stays_of_state stays = record {
    calm = calm_of_state stays.calm;
    driver = λ turn.
        let some = stays.driver (over.turn v w state ∙ turn) in
        let over_step = subst (IsStepOver count) some.3 (over.driver some.0 some.1 some.2) in
        (some.0, some.1, some.2, some.3, acts_of_state some.1 over_step some.4);
  }

pub forced_of_state : (count : ℕ) (g : GameFunctions) → IsGameOver count g → (a : Function) → ReadsState count a →
    (v w : Assignment) → AreOneState count v w → Forced g a v → Forced g a w
forced_of_state count g over a reads v w state forced =
    elim (forced_or_stays (outside a) a (λ u. refl) g w (sym (over.valid v w state) ∙ forced_valid g a v forced)) [
      | inl there ↦ there
      | inr stays ↦ absurd (not_forced (outside a) a (λ u. refl) g v
          (stays_of_state count g over (outside a) (λ x y one. ap not (reads x y one)) w v
          (λ k below. sym (state k below)) stays) forced)
    ]
