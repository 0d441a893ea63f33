-- A game that is made of guarded updates is told by their terms, for each design that has these updates.
use Rattle.std.proofs.Common.{◌≡◌, ℕ, ◌+◌, Bool, true, false, List, [], ◌∷◌, ◌++◌, Some, length, get_or, map, take, refl, sym, ap, ◌∙◌, subst, arith, length-append}
use Rattle.std.specs.Prelude.{All, Any, ◌↔◌, slice_get}
use Rattle.std.proofs.lemmas.List.{get_or_append_left, get_or-append-add, get_or_default}
use Rattle.std.proofs.lemmas.Option.{slice_get_within}
use Rattle.tm_blast.specs.Bits as blasted
use Rattle.tm_flat.specs.Flat.{FlatTerms, StepTerms}
use Rattle.tm_flat.specs.IsFlat.{IsFlat}
use Rattle.tm_game_bits.specs.Choices.{ListsChoices}
use Rattle.tm_game_bits.specs.Functions.{Assignment, Function, GameFunctions, StepFunctions, after}
use Rattle.tm_game.specs.Shape.{IsShape}
use Rattle.tm_game.proofs.Shapes.{arguments_are, choices_are, passes_told, stands_is, state_values, values_are}
use Rattle.tm_game_steps.specs.Places.{flag_at}
use Rattle.tm_game_steps.specs.Setting.{Setting, arguments_of, choices_of, has_value, values_at}
use Rattle.tm_game_steps.specs.Telling as made
use Rattle.tm_game_steps.specs.Telling.{HasTerms, IsIdling, PassesTo, TellsGame, TellsStep}
use Rattle.tm_syntax.specs.Design.{DesignTree}
use Rattle.tm_term.specs.declared.term.TermId.{TermId}
use Rattle.tm_term.specs.Value.{value_of}
use Rattle.tm_game_bits.specs.Told as told
use Rattle.tm_game_bits.specs.Told.{IsIdle, IsOfDriver, IsStepOf, IsTold, Passes, argument_levels, idles, inputs_at, leaves, calls, stands_at}
use Rattle.tm_game_bits.proofs.Choices.{lists_same}
use Rattle.tm_game_bits.proofs.Tables.{magic_is}

-- ---- lists
some_behind : {X : Type 0} (P : X → Type 0) (xs ys : List X) → Any P ys → Any P (xs ++ ys)
some_behind P xs ys found = (
  length xs + found.0,
  found.1,
  omega (arith, found.2, length-append xs ys),
  get_or-append-add xs ys found.0 found.1 ∙ found.3,
  found.4,
)

some_before : {X : Type 0} (P : X → Type 0) (xs ys : List X) → Any P xs → Any P (xs ++ ys)
some_before P xs ys found = (
  found.0,
  found.1,
  omega (arith, found.2, length-append xs ys),
  get_or_append_left xs ys found.1 found.0 found.2 ∙ found.3,
  found.4,
)

module _ (x : Setting) (f : FlatTerms) (order : List ℕ) (shape : IsShape x f order) (has : HasTerms x f)
    (d : DesignTree) (flat : IsFlat x.terms d f) where
  -- a value of a term at the levels is its value at the inputs
  value_is : (v : Assignment) (id : TermId) →
      value_of x.terms (inputs_at d order v) id ≡ value_of x.terms (values_at x v) id
  value_is v id = ap (λ vs. value_of x.terms vs id) (sym (values_are x f order shape d flat v))

  step_told : (test : List ℕ → Bool) (guard : Function) (given levels : List ℕ) (terms : StepTerms)
      (step : StepFunctions) → TellsStep x test given terms step →
      ((v : Assignment) → test (values_at x v) ≡ guard v) → given ≡ levels → length terms.next ≡ x.numbers →
      IsStepOf x.terms d order guard levels terms step
  step_told test guard given levels terms step tells same are long = record {
    guarded = λ v h. sym (same v) ∙ tells.guarded v h;
    legal = λ v h. value_is v terms.legal ∙ tells.legal v (same v ∙ h);
    error = λ v. value_is v terms.error ∙ tells.error v;
    next = λ v.
        sym (state_values x f order shape d flat (after step.next v))
        ∙ ap (λ n. blasted.input_values (take n x.levels) (after step.next v)) (sym long)
        ∙ tells.next v
        ∙ ap (λ vs. map (value_of x.terms vs) terms.next) (values_are x f order shape d flat v);
    choices = subst (λ (levels : List ℕ).
        ListsChoices levels step.choices (λ v. value_of x.terms (inputs_at d order v)) terms)
        (choices_are x f order shape d flat)
        (lists_same (choices_of x) step.choices (λ v. value_of x.terms (values_at x v))
        (λ v. value_of x.terms (inputs_at d order v)) terms (λ v. value_is v terms.legal)
        (λ v. value_is v terms.error) (λ v n e below. value_is v (get_or terms.next n e)) tells.choices);
    arguments = tells.arguments ∙ are;
  }

  -- ---- steps
  pub from_told : (magic : Bool) (p k : ℕ) (step : StepFunctions) → made.IsFrom x f magic p k step →
      told.IsFrom x.terms d order f magic p k step
  from_told magic p k step from =
      let at = magic_is x.terms d f flat p k magic from.there in
      let step_here = has.processes p k magic from.there in
      let same : Some step_here.terms ≡ Some from.terms = sym step_here.there ∙ from.tells in
      let terms : step_here.terms ≡ from.terms = cc in (
        from.there,
        from.terms,
        from.tells,
        step_told (has_value (x.first + p) k) (stands_at d order p k) [] [] from.terms step from.is
            (λ v. stands_is x f order shape d flat v p k at.inside) refl
            (ap (λ (ts : StepTerms). length ts.next) (sym terms) ∙ step_here.are.next.long),
      )

  some_from : (magic : Bool) (p k : ℕ) (steps : List StepFunctions) (movers : List ℕ) (e : StepFunctions) →
      made.HasFrom x f magic p k steps movers → Any (told.IsFrom x.terms d order f magic p k) steps
  some_from magic p k steps movers e found = (
    found.index,
    get_or steps found.index e,
    found.below,
    get_or_default steps found.index (get_or steps found.index e) e found.below,
    from_told magic p k (get_or steps found.index e) (found.is e),
  )

  pub task_told : (n : ℕ) (step : StepFunctions) → made.IsOfTask x f n step → told.IsOfTask x.terms d order f n step
  task_told n step of =
      let below = slice_get_within f.tasks n of.terms of.tells in
      let here : get_or f.tasks n of.terms ≡ of.terms =
      Rattle.std.proofs.lemmas.Option.get_or_from_slice_get f.tasks n of.terms of.terms of.tells in
      let are = has.tasks n of.terms below in (
        of.terms,
        of.tells,
        step_told (λ values. true) (λ v. true) (arguments_of x) (argument_levels order) of.terms step of.is
            (λ v. refl) (arguments_are x f order shape d flat)
            (ap (λ (ts : StepTerms). length ts.next) (sym here) ∙ are.next.long),
      )

  passes_are : (last : ℕ) (next : List (ℕ × Function)) → PassesTo x last next → Passes d order last next
  passes_are last next passes v = passes_told x f order shape d flat last v (after next v) (passes v)

  pub idle_told : (turn : Function) (step : StepFunctions) → IsIdling x turn step → IsIdle d order turn step
  idle_told turn step idling = record {
    legal = idling.legal;
    error = idling.error;
    next = passes_are 1 step.next idling.next;
    choices = idling.choices;
    arguments = idling.arguments;
  }

  -- ---- the driver
  module _ (g : GameFunctions) (movers : List ℕ) (is : TellsGame x f g movers) where
    each_idle : (step : StepFunctions) → IsIdling x g.turn step → IsOfDriver x.terms d order f g.turn step
    each_idle step idling = idles (idle_told g.turn step idling)

    each_driver : All (IsOfDriver x.terms d order f g.turn) (is.idle ∷ is.tasks ++ is.leaves)
    each_driver =
        Rattle.std.proofs.lemmas.List.Elements.All-append (IsOfDriver x.terms d order f g.turn) (is.idle ∷ is.tasks)
        is.leaves
        (Rattle.std.proofs.lemmas.List.Elements.All-cons (IsOfDriver x.terms d order f g.turn) is.idle is.tasks
        (each_idle is.idle is.idles)
        (λ n e below. calls n (task_told n (get_or is.tasks n e) (is.calls.each n e (omega (arith, is.calls.long))))))
        (λ i e below.
        let found = is.leaving.each i e below in
        leaves (get_or movers i 0) found.0 (from_told true (get_or movers i 0) found.0 (get_or is.leaves i e) found.1))

    some_idle : Any (IsIdle d order g.turn) (is.idle ∷ is.tasks ++ is.leaves)
    some_idle = (
      0,
      is.idle,
      omega (arith, length-append (is.idle ∷ is.tasks) is.leaves),
      refl,
      idle_told g.turn is.idle is.idles,
    )

    some_leave : (p k : ℕ) → flag_at f.magic p k ≡ Some true →
        Any (told.IsFrom x.terms d order f true p k) (is.idle ∷ is.tasks ++ is.leaves)
    some_leave p k there =
        some_behind (told.IsFrom x.terms d order f true p k) (is.idle ∷ is.tasks) is.leaves
        (some_from true p k is.leaves movers is.idle (is.leaving.all p k there))

    some_call : (n : ℕ) (terms : StepTerms) → slice_get f.tasks n ≡ Some terms →
        Any (told.IsOfTask x.terms d order f n) (is.idle ∷ is.tasks ++ is.leaves)
    some_call n terms there =
        let below = slice_get_within f.tasks n terms there in
        some_before (told.IsOfTask x.terms d order f n) (is.idle ∷ is.tasks) is.leaves
        (some_behind (told.IsOfTask x.terms d order f n) (is.idle ∷ []) is.tasks (
          n,
          get_or is.tasks n is.idle,
          omega (arith, is.calls.long),
          get_or_default is.tasks n (get_or is.tasks n is.idle) is.idle
              (omega (arith, is.calls.long)),
          task_told n (get_or is.tasks n is.idle) (is.calls.each n is.idle below),
        ))

    -- ---- the game
    pub game_told : IsTold x.terms d order f g
    game_told = record {
      valid = λ v. value_is v f.valid ∙ is.valid v;
      turn = turn;
      stutter = passes_are 0 g.stutter is.stutter;
      environment = λ i e below.
          let found = is.environment.each i e below in (
            get_or is.others i 0,
            found.0,
            from_told false (get_or is.others i 0) found.0 (get_or g.environment i e) found.1,
          );
      processes = λ p k there.
          some_from false p k g.environment is.others is.idle (is.environment.all p k there);
      driver = subst (All (IsOfDriver x.terms d order f g.turn)) (sym is.driver) each_driver;
      idle = subst (Any (IsIdle d order g.turn)) (sym is.driver) some_idle;
      leaving = λ p k there.
          subst (Any (told.IsFrom x.terms d order f true p k)) (sym is.driver) (some_leave p k there);
      calling = λ n terms there.
          subst (Any (told.IsOfTask x.terms d order f n)) (sym is.driver) (some_call n terms there);
    }
      where
        turn : (v : Assignment) →
            (g.turn v ≡ true) ↔ ((p k : ℕ) × (flag_at f.magic p k ≡ Some true) × (stands_at d order p k v ≡ true))
        turn v = (
          λ h.
              let found = (is.turn v).0 h in
              let at = magic_is x.terms d f flat found.0 found.1 true found.2 in (
                found.0,
                found.1,
                found.2,
                sym (stands_is x f order shape d flat v found.0 found.1 at.inside) ∙ found.3,
              ),
          λ h.
              let at = magic_is x.terms d f flat h.0 h.1 true h.2 in
              (is.turn v).1 (h.0, h.1, h.2, stands_is x f order shape d flat v h.0 h.1 at.inside ∙ h.3),
        )
