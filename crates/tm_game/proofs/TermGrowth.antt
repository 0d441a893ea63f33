-- A game whose terms are extended.
use Rattle.std.proofs.Common.{◌≡◌, ℕ, ◌+◌, ◌<◌, Bool, true, false, List, [], Some, length, get_or, refl, sym, ◌∙◌, subst}
use Rattle.std.proofs.lemmas.List.Elements.{All-weaker}
use Rattle.std.proofs.lemmas.Option.{get_or_from_slice_get, slice_get_within}
use Rattle.tm_blast.specs.Memory.{Made}
use Rattle.tm_blast.proofs.CallerLaws.{AreLevels-more_terms, AreMade-more_terms}
use Rattle.tm_dd.specs.declared.node.NodeId.{NodeId}
use Rattle.tm_dd.specs.Table.{Table, means}
use Rattle.tm_dd.proofs.CallerLaws.{Extends-refl}
use Rattle.tm_flat.specs.Flat.{FlatTerms, StepTerms, flat_terms}
use Rattle.tm_flat.specs.Steps.{IsTerm}
use Rattle.tm_game_bits.specs.Diagrams.{IsSetOf, game_of}
use Rattle.tm_game_bits.specs.Functions.{Function, GameFunctions, StepFunctions}
use Rattle.tm_game_bits.proofs.Choices.{lists_same}
use Rattle.tm_game_bits.proofs.Sets.{IsSetOf-same}
use Rattle.tm_game.specs.declared.game.Game.TheInside.{Inside}
use Rattle.tm_game.specs.Game.{GameData, Grows, IsOf}
use Rattle.tm_game.specs.Kept.{AreKept}
use Rattle.tm_game.specs.Layout.{IsGame, game_data}
use Rattle.tm_flat.proofs.Growth.{flat_kept}
use Rattle.tm_game_steps.specs.Setting.{AreNumbers, IsReady, Setting, choices_of, has_value, setting_of, values_at}
use Rattle.tm_game_steps.specs.Sets.{IsAlwaysOneIn, IsOneIn}
use Rattle.tm_game_steps.specs.Telling.{AreFrom, AreStepTerms, AreTasks, HasTerms, IsFrom, IsOfTask, TellsGame, TellsStep}
use Rattle.tm_game_steps.proofs.Passing.{next_kept, values_same}
use Rattle.tm_syntax.specs.Design.{DesignTree}
use Rattle.tm_term.specs.declared.term.TermId.{TermId}
use Rattle.tm_term.specs.Table.{Table as Terms, IsKnown}
use Rattle.tm_term.specs.Value.{Extends, value_of}

module _ (x : Setting) (t : Terms) (e : Extends x.terms t) where
  -- the setting with further terms
  abbrev pub more : Setting
  more = record x { terms = t }

  term_kept : (width : ℕ) (id : TermId) → IsTerm x.terms width id → IsTerm t width id
  term_kept width id is = (e.known id is.0, e.widths id is.0 ∙ is.1)

  numbers_kept : (ids : List TermId) → AreNumbers x ids → AreNumbers more ids
  numbers_kept ids are = record { next = next_kept x.terms t e ids are.next; long = are.long }

  step_terms_kept : (terms : StepTerms) → AreStepTerms x terms → AreStepTerms more terms
  step_terms_kept terms are = record {
    legal = term_kept 1 terms.legal are.legal;
    error = term_kept 1 terms.error are.error;
    next = numbers_kept terms.next are.next;
  }

  pub has_terms_kept : (f : FlatTerms) → HasTerms x f → HasTerms more f
  has_terms_kept f has = record {
    processes = λ p k magic there.
        let was = has.processes p k magic there in
        record { terms = was.terms; there = was.there; are = step_terms_kept was.terms was.are };
    tasks = All-weaker (AreStepTerms x) (AreStepTerms more) step_terms_kept f.tasks has.tasks;
    goals = All-weaker (IsTerm x.terms 1) (IsTerm t 1) (term_kept 1) f.goals has.goals;
    fairs = All-weaker (IsTerm x.terms 1) (IsTerm t 1) (term_kept 1) f.fairs has.fairs;
    initial = term_kept 1 f.initial has.initial;
    valid = term_kept 1 f.valid has.valid;
  }

  pub ready_more : (s : Table) (made : Made) → IsReady x s made → IsReady more s made
  ready_more s made is = record {
    levels = AreLevels-more_terms x.terms t s.levels x.levels e is.levels;
    apart = is.apart;
    few = is.few;
    words = is.words;
    within = is.within;
    bits = AreMade-more_terms x.terms t x.levels s made e is.bits;
  }

  -- ---- steps
  tells_kept : (test : List ℕ → Bool) (given : List ℕ) (terms : StepTerms) (step : StepFunctions) →
      AreStepTerms x terms → TellsStep x test given terms step → TellsStep more test given terms step
  tells_kept test given terms step are tells = record {
    guarded = tells.guarded;
    legal = λ v h. e.values (values_at x v) terms.legal are.legal.0 ∙ tells.legal v h;
    error = λ v. e.values (values_at x v) terms.error are.error.0 ∙ tells.error v;
    next = λ v.
        tells.next v
        ∙ sym (values_same x.terms t e (values_at x v) terms.next (λ i d below. (are.next.next i d below).0));
    choices = lists_same (choices_of x) step.choices (λ v. value_of x.terms (values_at x v))
        (λ v. value_of t (values_at x v)) terms (λ v. e.values (values_at x v) terms.legal are.legal.0)
        (λ v. e.values (values_at x v) terms.error are.error.0)
        (λ v n d below. e.values (values_at x v) (get_or terms.next n d) (are.next.next n d below).0) tells.choices;
    arguments = tells.arguments;
  }

  module _ (f : FlatTerms) (has : HasTerms x f) where
    from_kept : (magic : Bool) (p k : ℕ) (step : StepFunctions) → IsFrom x f magic p k step →
        IsFrom more f magic p k step
    from_kept magic p k step from =
        let here = has.processes p k magic from.there in
        let same : Some here.terms ≡ Some from.terms = sym here.there ∙ from.tells in
        let terms : here.terms ≡ from.terms = cc in
        record {
          terms = from.terms;
          there = from.there;
          tells = from.tells;
          is = tells_kept (has_value (x.first + p) k) [] from.terms step (subst (AreStepTerms x) terms here.are)
              from.is;
        }

    froms_kept : (magic : Bool) (steps : List StepFunctions) (movers : List ℕ) → AreFrom x f magic steps movers →
        AreFrom more f magic steps movers
    froms_kept magic steps movers are = record {
      long = are.long;
      each = λ i d below.
          let was = are.each i d below in
          (was.0, from_kept magic (get_or movers i 0) was.0 (get_or steps i d) was.1);
      all = λ p k there.
          let was = are.all p k there in
          record {
            index = was.index;
            below = was.below;
            mover = was.mover;
            is = λ d. from_kept magic p k (get_or steps was.index d) (was.is d);
          };
    }

    tasks_kept : (count : ℕ) (steps : List StepFunctions) → AreTasks x f count steps → AreTasks more f count steps
    tasks_kept count steps are = record { long = are.long; each = each }
      where
        each : (n : ℕ) (d : StepFunctions) → n < count → IsOfTask more f n (get_or steps n d)
        each n d below =
            let was = are.each n d below in
            let within = slice_get_within f.tasks n was.terms was.tells in
            let here = get_or_from_slice_get f.tasks n was.terms was.terms was.tells in
            record {
              terms = was.terms;
              tells = was.tells;
              is = tells_kept (λ values. true) _ was.terms (get_or steps n d)
                  (subst (AreStepTerms x) here (has.tasks n was.terms within)) was.is;
            }

    pub game_kept : (g : GameFunctions) (movers : List ℕ) → TellsGame x f g movers → TellsGame more f g movers
    game_kept g movers tells = record {
      valid = λ v. e.values (values_at x v) f.valid has.valid.0 ∙ tells.valid v;
      turn = tells.turn;
      stutter = tells.stutter;
      others = tells.others;
      environment = froms_kept false g.environment tells.others tells.environment;
      idle = tells.idle;
      tasks = tells.tasks;
      leaves = tells.leaves;
      driver = tells.driver;
      idles = record {
        legal = tells.idles.legal;
        error = tells.idles.error;
        next = tells.idles.next;
        choices = tells.idles.choices;
        arguments = tells.idles.arguments;
      };
      calls = tasks_kept (length f.tasks) tells.tasks tells.calls;
      leaving = froms_kept true tells.leaves movers tells.leaving;
    }

    -- ---- sets
    one_kept : (s : Table) (valid : Function) (id : TermId) (node : NodeId) → IsKnown x.terms id →
        IsSetOf s (IsOneIn x valid id) node → IsSetOf s (IsOneIn more valid id) node
    one_kept s valid id node known is =
        IsSetOf-same s (IsOneIn x valid id) (IsOneIn more valid id) node
        (λ v h. (h.0, e.values (values_at x v) id known ∙ h.1))
        (λ v h. (h.0, sym (e.values (values_at x v) id known) ∙ h.1)) is

    always_kept : (s : Table) (valid : Function) (id : TermId) (node : NodeId) → IsKnown x.terms id →
        IsSetOf s (IsAlwaysOneIn x valid id) node → IsSetOf s (IsAlwaysOneIn more valid id) node
    always_kept s valid id node known is =
        IsSetOf-same s (IsAlwaysOneIn x valid id) (IsAlwaysOneIn more valid id) node
        (λ v h. (h.0, λ w others. e.values (values_at x w) id known ∙ h.1 w others))
        (λ v h. (h.0, λ w others. sym (e.values (values_at x w) id known) ∙ h.1 w others)) is

    pub kept_more : (s : Table) (valid picked : NodeId) (goals fairs : List NodeId) (initial turn : NodeId) →
        AreKept x f s valid picked goals fairs initial turn → AreKept more f s valid picked goals fairs initial turn
    kept_more s valid picked goals fairs initial turn is = record {
      goals_are = record {
        long = is.goals_are.long;
        each = λ i d n below.
            one_kept s (means s valid) (get_or f.goals i d) (get_or goals i n) (has.goals i d below).0
            (is.goals_are.each i d n below);
      };
      fairs_are = record {
        long = is.fairs_are.long;
        each = λ i d n below.
            always_kept s (means s valid) (get_or f.fairs i d) (get_or fairs i n) (has.fairs i d below).0
            (is.fairs_are.each i d n below);
      };
      initial_is = one_kept s (means s valid) f.initial initial has.initial.0 is.initial_is;
      turn_is = is.turn_is;
    }

-- a game stays one when terms are added
pub terms_extended : (a : Inside) (t : Terms) → IsGame a → Extends a.encoding.terms t →
    IsGame (record a { encoding = record a.encoding { terms = t } })
terms_extended a t is e =
    record {
      shape = record {
        widths = is.shape.widths;
        numbers = is.shape.numbers;
        permutes = is.shape.permutes;
        levels = is.shape.levels;
        count = is.shape.count;
        wide = is.shape.wide;
        short = is.shape.short;
      };
      levels = is.levels;
      rises = is.rises;
      terms = has_terms_kept (setting_of a.encoding) t e (flat_terms a.flat) is.terms;
      ready = ready_more (setting_of a.encoding) t e a.dd.table a.bits is.ready;
      steps = record {
        known = is.steps.known;
        tells = game_kept (setting_of a.encoding) t e (flat_terms a.flat) is.terms (game_of a.dd.table a.made.steps)
            a.made.movers.items is.steps.tells;
      };
      answers = is.answers;
      kept = kept_more (setting_of a.encoding) t e (flat_terms a.flat) is.terms a.dd.table a.made.steps.valid
          a.made.steps.turn a.kept.goals.items a.kept.fairs.items a.kept.initial a.kept.turn is.kept;
    }

-- what is seen of it grows
pub grows_terms : (a : Inside) (t : Terms) → Extends a.encoding.terms t →
    Grows (game_data a) (game_data (record a { encoding = record a.encoding { terms = t } }))
grows_terms a t e = record {
  flat = refl;
  terms = e;
  order = refl;
  diagrams = Extends-refl a.dd.table;
  goals = refl;
  fairs = refl;
  initial = refl;
  valid = refl;
  turn = refl;
}

-- what contracts see of a game as other data grows with its terms
pub grows_terms_from : (a : Inside) (g : GameData) → game_data a ≡ g → (t : Terms) → Extends a.encoding.terms t →
    Grows g (game_data (record a { encoding = record a.encoding { terms = t } }))
grows_terms_from a g same t e =
    subst (λ (h : GameData). Grows h (game_data (record a { encoding = record a.encoding { terms = t } }))) same
    (grows_terms a t e)

-- and it is of the designs that it was of
pub of_more : (a : Inside) (g : GameData) → game_data a ≡ g → (t : Terms) → Extends a.encoding.terms t →
    (d : DesignTree) → IsOf d g → IsOf d (game_data (record a { encoding = record a.encoding { terms = t } }))
of_more a g same t e d of =
    let was = subst (IsOf d) (sym same) of in
    record {
      flat = flat_kept a.encoding.terms t e d (flat_terms a.flat) was.flat;
      room = was.room;
      small = was.small;
      design = was.design;
    }
