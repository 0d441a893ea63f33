-- The steps of the driver, and the game of all steps.
use Rattle.std.proofs.Common.{◌≡◌, ℕ, suc, ◌+◌, ◌≤◌, true, false, List, [], ◌∷◌, ◌++◌, Some, length, get_or, map, refl, sym, ap, ◌∙◌, subst, arith}
use Rattle.std.specs.Prelude.{All, Contains, Vec, ◌↔◌}
use Rattle.std.specs.declared.alloc.Global.{Global}
use Rattle.std.proofs.lemmas.List.{map-append}
use Rattle.std.proofs.lemmas.List.Elements.{All-append, All-cons}
use Rattle.tm_base.specs.Arithmetic.{bit}
use Rattle.tm_dd.specs.declared.node.NodeId.{NodeId}
use Rattle.tm_dd.specs.declared.node.TheConstants.{FALSE}
use Rattle.tm_dd.specs.Reduced.{Extends}
use Rattle.tm_dd.specs.Table.{Table, Knows, means}
use Rattle.tm_dd.proofs.CallerLaws.{Extends-trans, means-FALSE}
use Rattle.tm_flat.specs.Flat.{FlatTerms}
use Rattle.tm_game_bits.specs.declared.game.GameDiagrams.{GameDiagrams}
use Rattle.tm_game_bits.specs.declared.step.StepDiagrams.{StepDiagrams}
use Rattle.tm_game_bits.specs.Diagrams.{KnowsChanges, KnowsGame, KnowsStep, changes_of, game_of, step_of}
use Rattle.tm_game_bits.specs.Functions.{Assignment, Function, StepFunctions}
use Rattle.tm_game_bits.proofs.Extended.{Knows-Extends, KnowsStep-Extends, means-Extends, step_of-Extends}
use Rattle.tm_game_steps.specs.Changes.{AreChanges}
use Rattle.tm_game_steps.specs.declared.making.Turns.{Turns}
use Rattle.tm_game_steps.specs.declared.places.Place.{Place}
use Rattle.tm_game_steps.specs.Inner.Driving.{AreDriverSteps}
use Rattle.tm_game_steps.specs.Inner.Pushed.{AreProcesses, AreTaskSteps, MadeIdle}
use Rattle.tm_game_steps.specs.Inner.Sides.{AreTurns}
use Rattle.tm_game_steps.specs.Inner.Turns.{HasBlockBelow}
use Rattle.tm_game_steps.specs.Passing.{ArePassing}
use Rattle.tm_game_steps.specs.Places.{ArePlaces, flag_at}
use Rattle.tm_game_steps.specs.Setting.{IsTruthIn, Setting, has_value, values_at}
use Rattle.tm_game_steps.specs.Telling.{AreFrom, IsIdling, PassesTo, TellsGame}
use Rattle.tm_game_steps.proofs.Passing.{passes_is}
use Rattle.tm_game_steps.proofs.Pushing.{steps_known, steps_same}
use Rattle.tm_term.specs.declared.term.TermId.{TermId}

-- levels with what they become, as code has them
abbrev Stutter : Type 0
Stutter = Vec (ℕ × NodeId) Global

-- changes of known ids do the same when diagrams are added
changes_same : (s u : Table) → Extends s u → (changes : List (ℕ × NodeId)) → KnowsChanges s changes →
    changes_of u changes ≡ changes_of s changes
changes_same s u e [] known = refl
changes_same s u e (p ∷ rest) known =
    let others = changes_same s u e rest (λ id c. known id (suc c.0, omega (arith, c.1), c.2)) in
    let first = means-Extends s u e p.1 (known p.1 (0, omega arith, refl)) in
    λ i. (p.0, first i) ∷ others i

-- the idle step
pub idle_is : (x : Setting) (s u : Table) (turn : NodeId) (idle : List TermId) (step : StepDiagrams) → Extends s u →
    Knows s turn → step.legal ≡ turn → step.error ≡ FALSE → x.numbers ≤ length x.levels →
    ArePassing x.terms x.numbers 1 idle → AreChanges x.terms x.levels u idle step.next.items →
    step.choices.items ≡ [] → step.arguments.items ≡ [] → MadeIdle x u (means s turn) step
idle_is x s u turn idle step e known legal error within passing changes choices arguments = record {
  known = record {
    legal = subst (Knows u) (sym legal) (Knows-Extends s u e turn known);
    error = subst (Knows u) (sym error) (omega arith);
    next = changes.known;
  };
  is = record {
    legal = λ v. ap (λ (id : NodeId). means u id v) legal ∙ e.same_meaning turn known v;
    error = λ v. ap (λ (id : NodeId). means u id v) error ∙ means-FALSE u v;
    next = passes_is x u 1 idle step.next.items within passing changes;
    choices = choices;
    arguments = arguments;
  };
}

-- all steps of the driver
pub driver_are : (x : Setting) (f : FlatTerms) (s t u : Table) (turn : Function) (step : StepDiagrams)
    (first middle last : List StepDiagrams) (movers : List ℕ) → Extends s t → Extends t u → MadeIdle x s turn step →
    first ≡ step ∷ [] → AreTaskSteps x f t first middle (length f.tasks) → AreProcesses x f true u middle last movers →
    AreDriverSteps x f turn u last movers
driver_are x f s t u turn step first middle last movers one two idle first_is tasks leaves = record {
  known = subst (All (KnowsStep u)) (sym whole)
      (All-append (KnowsStep u) (step ∷ tasks.pushed) leaves.pushed
      (All-cons (KnowsStep u) step tasks.pushed (KnowsStep-Extends s u both step idle.known)
      (steps_known t u two tasks.pushed tasks.known)) leaves.known);
  idle = step_of s step;
  tasks = map (step_of t) tasks.pushed;
  leaves = map (step_of u) leaves.pushed;
  are = ap (map (step_of u)) whole
      ∙ map-append (step_of u) (step ∷ tasks.pushed) leaves.pushed
      ∙ (λ i.
      step_of-Extends s u both step idle.known i
      ∷ steps_same t u two tasks.pushed tasks.known i
      ++ map (step_of u) leaves.pushed);
  idles = idle.is;
  calls = tasks.from;
  leaving = leaves.from;
}
  where
    both : Extends s u
    both = Extends-trans s t u one two

    whole : last ≡ step ∷ tasks.pushed ++ leaves.pushed
    whole = leaves.are ∙ ap (λ (xs : List StepDiagrams). xs ++ leaves.pushed)
        (tasks.are ∙ ap (λ (xs : List StepDiagrams). xs ++ tasks.pushed) first_is)

-- where the driver can be picked, by the table of magic blocks
turn_by_table : (x : Setting) (f : FlatTerms) (places : List Place) (turn : Function) →
    ArePlaces x.terms f.magic x.first places →
    ((v : Assignment) → turn v ≡ true → HasBlockBelow x places (length places) v) →
    ((v : Assignment) → HasBlockBelow x places (length places) v → turn v ≡ true) → (v : Assignment) →
    (turn v ≡ true)
    ↔ ((p k : ℕ) × (flag_at f.magic p k ≡ Some true) × (has_value (x.first + p) k (values_at x v) ≡ true))
turn_by_table x f places turn are only all v = (
  λ h.
      let found = only v h in
      let d : Place = record { process = 0; location = 0; magic = true; stands = record { 0 = 0 } } in
      let is = are.each found.0 d found.1 in
      let at = found.2 d in (
        (get_or places found.0 d).process,
        (get_or places found.0 d).location,
        is.there ∙ ap Some at.0,
        at.1,
      ),
  λ h.
      let found = are.all h.0 h.1 true h.2 in
      all v (
        found.0,
        found.2,
        λ d.
            let same : get_or places found.0 d ≡ found.1 =
            Rattle.std.proofs.lemmas.List.get_or_default places found.0 d found.1 found.2 ∙ found.3 in
            let at = found.4 in (
              ap (λ (place : Place). place.magic) same ∙ at.block,
              (λ i.
                  has_value (x.first + (ap (λ (place : Place). place.process) same ∙ at.process) i)
                  ((ap (λ (place : Place). place.location) same ∙ at.location) i) (values_at x v))
                  ∙ h.3,
            ),
      ),
)

-- the game of all steps
pub game_is : (x : Setting) (f : FlatTerms) (s t u w : Table) (places : List Place) (turns : Turns) (valid : NodeId)
    (environment driver : List StepDiagrams) (others movers : List ℕ) (g : GameDiagrams) → Extends s t → Extends t u →
    Extends u w → ArePlaces x.terms f.magic x.first places → AreTurns x s places turns → IsTruthIn x t f.valid valid →
    AreProcesses x f false u [] environment others → AreDriverSteps x f (means u turns.turn) w driver movers →
    g.valid ≡ valid → g.turn ≡ turns.turn → g.stutter ≡ turns.stutter → g.environment.items ≡ environment →
    g.driver.items ≡ driver → KnowsGame w g × TellsGame x f (game_of w g) movers
game_is x f s t u w places turns valid environment driver others movers g first second third are sides truth steps
    drives is_valid is_turn is_stutter is_environment is_driver = (
      record {
        valid = subst (Knows w) (sym is_valid) (Knows-Extends t w later valid truth.known);
        turn = subst (Knows w) (sym is_turn) (Knows-Extends s w all turns.turn sides.turn.known);
        stutter = λ id there.
            Knows-Extends s w all id
            (sides.known id (subst (λ (list : List (ℕ × NodeId)).
            Contains (map (λ p. p.1) list) id) (ap (λ (list : Stutter). list.items) is_stutter) there));
        environment = subst (All (KnowsStep w)) (sym is_environment)
            (subst (All (KnowsStep w)) (sym steps.are) (steps_known u w third steps.pushed steps.known));
        driver = subst (All (KnowsStep w)) (sym is_driver) drives.known;
      },
      record {
        valid = λ v.
            truth.value v
            ∙ ap bit (sym (ap (λ (id : NodeId). means w id v) is_valid ∙ later.same_meaning valid truth.known v));
        turn = turn_by_table x f places (means w g.turn) are
            (λ v h. sides.turn.only v (sym (turn_same v) ∙ h)) (λ v h. turn_same v ∙ sides.turn.all v h);
        stutter = subst (PassesTo x 0) (sym stutter_same) sides.stutter;
        others = others;
        environment = subst (λ (fs : List StepFunctions). AreFrom x f false fs others) (sym environment_same)
            steps.from;
        idle = drives.idle;
        tasks = drives.tasks;
        leaves = drives.leaves;
        driver = ap (map (step_of w)) is_driver ∙ drives.are;
        idles = subst (λ (turn : Function). IsIdling x turn drives.idle) (λ i v. turn_both v i) drives.idles;
        calls = drives.calls;
        leaving = drives.leaving;
      },
    )
  where
    later : Extends t w
    later = Extends-trans t u w second third

    all : Extends s w
    all = Extends-trans s t w first later

    early : Extends s u
    early = Extends-trans s t u first second

    turn_same : (v : Assignment) → means w g.turn v ≡ means s turns.turn v
    turn_same v = ap (λ (id : NodeId). means w id v) is_turn ∙ all.same_meaning turns.turn sides.turn.known v

    turn_both : (v : Assignment) → means u turns.turn v ≡ means w g.turn v
    turn_both v = early.same_meaning turns.turn sides.turn.known v ∙ sym (turn_same v)

    stutter_same : changes_of w g.stutter.items ≡ changes_of s turns.stutter.items
    stutter_same =
        ap (λ (list : Stutter). changes_of w list.items) is_stutter
        ∙ changes_same s w all turns.stutter.items sides.known

    environment_same : map (step_of w) g.environment.items ≡ map (step_of u) steps.pushed
    environment_same =
        ap (map (step_of w)) (is_environment ∙ steps.are) ∙ steps_same u w third steps.pushed steps.known
