-- A game of diagrams in a store that was extended.
use Rattle.std.proofs.Common.{◌≡◌, ℕ, suc, ◌<◌, true, false, List, [], ◌∷◌, length, get_or, eqb, cond, map, Some, refl, sym, subst, ◌∙◌, arith}
use Rattle.std.specs.Prelude.{All}
use Rattle.std.specs.Map.{lookup}
use Rattle.std.specs.Option.{option_map_or}
use Rattle.std.proofs.lemmas.List.{get_or-map, length-map}
use Rattle.std.proofs.lemmas.List.Elements.{All-head, All-tail, All-weaker}
use Rattle.tm_dd.specs.declared.node.NodeId.{NodeId}
use Rattle.tm_dd.specs.Reduced.{Extends}
use Rattle.tm_dd.specs.Table.{Table, Knows, means}
use Rattle.tm_ddops.specs.Operation.{substituted}
use Rattle.tm_game_bits.specs.declared.step.StepDiagrams.{StepDiagrams}
use Rattle.tm_game_bits.specs.declared.game.GameDiagrams.{GameDiagrams}
use Rattle.tm_game_bits.specs.declared.recent.Answer.{Answer}
use Rattle.tm_game_bits.specs.declared.recent.Recent.{Recent}
use Rattle.tm_game_bits.specs.Functions.{Assignment, Function, GameFunctions, after}
use Rattle.tm_game_bits.specs.Forcing.{Stays}
use Rattle.tm_game_bits.specs.Diagrams.{IsSetOf, KnowsChanges, KnowsGame, KnowsStep, changes_of, game_of, step_of}
use Rattle.tm_game_bits.specs.Recent.{AreAnswers, IsAnswer}

-- the values after a change are those that a substitution reads
pub after-changes_of : (s : Table) (changes : List (ℕ × NodeId)) (v : Assignment) →
    after (changes_of s changes) v ≡ substituted s changes v
after-changes_of s changes v = λ i level. at level changes i
  where
    at : (level : ℕ) (changes : List (ℕ × NodeId)) →
        after (changes_of s changes) v level ≡ substituted s changes v level
    at level [] = refl
    at level (p ∷ rest) =
        elim (eqb p.0 level) as (λ b.
        option_map_or (λ (f : Function). f v)
        (cond b (Some (means s p.1)) (lookup (λ l. eqb l level) (changes_of s rest))) (v level)
        ≡ option_map_or (λ part. means s part v) (cond b (Some p.1) (lookup (λ l. eqb l level) rest)) (v level)) [
          | true ↦ refl
          | false ↦ at level rest
        ]

-- changes whose ids are known one by one
pub known_changes : (s : Table) (changes : List (ℕ × NodeId)) →
    ((k : ℕ) (d : ℕ × NodeId) → k < length changes → Knows s (get_or changes k d).1) → KnowsChanges s changes
known_changes s changes each id c =
    let ids : ℕ × NodeId → NodeId = λ p. p.1 in
    let below : c.0 < length changes = omega (arith, c.1, length-map changes ids) in
    subst (Knows s) (sym (get_or-map ids changes c.0 (0, id) id below) ∙ c.2) (each c.0 (0, id) below)

module _ (s t : Table) (e : Extends s t) where
  pub Knows-Extends : (id : NodeId) → Knows s id → Knows t id
  Knows-Extends id known = omega (arith, known, e.rises)

  pub means-Extends : (id : NodeId) → Knows s id → means t id ≡ means s id
  means-Extends id known = λ i v. e.same_meaning id known v i

  first_known : (p : ℕ × NodeId) (rest : List (ℕ × NodeId)) → KnowsChanges s (p ∷ rest) → Knows s p.1
  first_known p rest known = known p.1 (0, omega arith, refl)

  rest_known : (p : ℕ × NodeId) (rest : List (ℕ × NodeId)) → KnowsChanges s (p ∷ rest) → KnowsChanges s rest
  rest_known p rest known id c = known id (suc c.0, omega (arith, c.1), c.2)

  changes_of-Extends : (changes : List (ℕ × NodeId)) → KnowsChanges s changes →
      changes_of t changes ≡ changes_of s changes
  changes_of-Extends [] known = refl
  changes_of-Extends (p ∷ rest) known =
      let first = means-Extends p.1 (first_known p rest known) in
      let others = changes_of-Extends rest (rest_known p rest known) in
      λ i. (p.0, first i) ∷ others i

  pub step_of-Extends : (step : StepDiagrams) → KnowsStep s step → step_of t step ≡ step_of s step
  step_of-Extends step known =
      let legal = means-Extends step.legal known.legal in
      let fails = means-Extends step.error known.error in
      let next = changes_of-Extends step.next.items known.next in
      λ i. record {
        legal = legal i;
        error = fails i;
        next = next i;
        choices = step.choices.items;
        arguments = step.arguments.items;
      }

  steps_of-Extends : (steps : List StepDiagrams) → All (KnowsStep s) steps →
      map (step_of t) steps ≡ map (step_of s) steps
  steps_of-Extends [] known = refl
  steps_of-Extends (step ∷ rest) known =
      let first = step_of-Extends step (All-head (KnowsStep s) step rest known) in
      let others = steps_of-Extends rest (All-tail (KnowsStep s) step rest known) in
      λ i. first i ∷ others i

  pub game_of-Extends : (g : GameDiagrams) → KnowsGame s g → game_of t g ≡ game_of s g
  game_of-Extends g known =
      let valid = means-Extends g.valid known.valid in
      let turn = means-Extends g.turn known.turn in
      let stutter = changes_of-Extends g.stutter.items known.stutter in
      let environment = steps_of-Extends g.environment.items known.environment in
      let driver = steps_of-Extends g.driver.items known.driver in
      λ i. record {
        valid = valid i;
        turn = turn i;
        stutter = stutter i;
        environment = environment i;
        driver = driver i;
      }

  pub KnowsStep-Extends : (step : StepDiagrams) → KnowsStep s step → KnowsStep t step
  KnowsStep-Extends step known = record {
    legal = Knows-Extends step.legal known.legal;
    error = Knows-Extends step.error known.error;
    next = λ id c. Knows-Extends id (known.next id c);
  }

  pub KnowsGame-Extends : (g : GameDiagrams) → KnowsGame s g → KnowsGame t g
  KnowsGame-Extends g known = record {
    valid = Knows-Extends g.valid known.valid;
    turn = Knows-Extends g.turn known.turn;
    stutter = λ id c. Knows-Extends id (known.stutter id c);
    environment = λ k d below. KnowsStep-Extends _ (known.environment k d below);
    driver = λ k d below. KnowsStep-Extends _ (known.driver k d below);
  }

  pub IsSetOf-Extends : (IsSuch : Assignment → Type 0) (id : NodeId) → IsSetOf s IsSuch id → IsSetOf t IsSuch id
  IsSetOf-Extends IsSuch id is = record {
    known = Knows-Extends id is.known;
    only = λ v h. is.only v (sym (e.same_meaning id is.known v) ∙ h);
    all = λ v h. e.same_meaning id is.known v ∙ is.all v h;
  }

  IsAnswer-Extends : (g : GameFunctions) (a : Answer) → IsAnswer s g a → IsAnswer t g a
  IsAnswer-Extends g a is = record {
    set = Knows-Extends a.set is.set;
    stays = subst (λ (set : Function). IsSetOf t (Stays g set) a.stays) (sym (means-Extends a.set is.set))
        (IsSetOf-Extends (Stays g (means s a.set)) a.stays is.stays);
  }

  -- answers stay right when diagrams are added
  pub AreAnswers-Extends : (g : GameDiagrams) (recent : Recent) → KnowsGame s g → AreAnswers s (game_of s g) recent →
      AreAnswers t (game_of t g) recent
  AreAnswers-Extends g recent known are =
      subst (λ (f : GameFunctions). AreAnswers t f recent) (sym (game_of-Extends g known))
      (All-weaker (IsAnswer s (game_of s g)) (IsAnswer t (game_of s g)) (IsAnswer-Extends (game_of s g))
      recent.answers are)
