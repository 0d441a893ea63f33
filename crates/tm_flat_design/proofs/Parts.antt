-- The parts of a design as guarded updates, one made behind the other.
use Rattle.std.proofs.Common.{◌≡◌, List, [], ◌∷◌, length, map, ◌∙◌, sym, subst}
use Rattle.std.specs.List.{AllZip, range_with_len}
use Rattle.std.specs.declared.alloc.Global.{Global}
use Rattle.std.specs.declared.vec.Vec.{Vec}
use Rattle.tm_syntax.specs.Design.{DesignTree}
use Rattle.tm_term.specs.Table.{Table}
use Rattle.tm_term.specs.declared.term.TermId.{TermId}
use Rattle.tm_term.proofs.Valued.{Extends-trans}
use Rattle.tm_flat_exprs.proofs.Later.{Extends-refl}
use Rattle.tm_sem.specs.Fairness.{conditions}
use Rattle.tm_sem.specs.Step.{IsInitial, IsState}
use Rattle.tm_flat.specs.declared.flat.FlatStep.{FlatStep}
use Rattle.tm_flat.specs.Flat.{step_terms}
use Rattle.tm_flat.specs.Inputs.{input_widths}
use Rattle.tm_flat.specs.IsFlat.{IsFairTerm, IsGoalTerm, IsStateTerm, location_numbers, process_numbers}
use Rattle.tm_flat.specs.Steps.{IsProcessStep}
use Rattle.tm_flat_states.specs.Actors.{HaveSteps}
use Rattle.tm_flat_states.specs.Marks.{MakesSuch}
use Rattle.tm_flat_pool.specs.declared.pool.PoolTerms.{PoolTerms}
use Rattle.tm_flat_design.specs.Making.{AreClaims, AreMoves, ArePredicates, AreProcesses, AreTasks, IsLayout, IsWhole}
use Rattle.tm_flat_design.specs.declared.claims.Claims.{Claims}
use Rattle.tm_flat_design.specs.declared.layout.Layout.{Layout}
use Rattle.tm_flat_design.specs.declared.moves.Moves.{Moves}

-- the steps of tasks, and behind them those of processes
pub moves_made : (d : DesignTree) (t m n : Table) (processes : Vec (Vec FlatStep Global) Global)
    (tasks : Vec FlatStep Global) → MakesSuch t m (AreTasks d (length d.tasks)) tasks.items →
    MakesSuch m n (AreProcesses d (length d.processes)) processes.items →
    MakesSuch t n (AreMoves d) (record { processes = processes; tasks = tasks })
moves_made d t m n processes tasks first second = record {
  grown = Extends-trans t m n first.grown second.grown;
  sound = second.sound;
  is = λ u later.
      record { processes = second.is u later; tasks = first.is u (Extends-trans m n u second.grown later) };
}

-- fairness conditions, and behind them goals, initial and valid states
pub claims_made : (d : DesignTree) (t a b e n : Table) (goals fairs : Vec TermId Global) (initial valid : TermId) →
    MakesSuch t a
    (λ u (ids : Vec TermId Global). AllZip (IsFairTerm u d) (range_with_len 0 (length (conditions d))) ids.items)
    fairs →
    MakesSuch a b
    (λ u (ids : Vec TermId Global). AllZip (IsGoalTerm u d) (range_with_len 0 (length d.goals)) ids.items) goals →
    MakesSuch b e (λ u id. IsStateTerm u d (IsInitial d) id) initial →
    MakesSuch e n (λ u id. IsStateTerm u d (IsState d) id) valid →
    MakesSuch t n (AreClaims d) (record { goals = goals; fairs = fairs; initial = initial; valid = valid })
claims_made d t a b e n goals fairs initial valid f g i v = record {
  grown = Extends-trans t e n (Extends-trans t b e (Extends-trans t a b f.grown g.grown) i.grown) v.grown;
  sound = v.sound;
  is = λ u later.
      let behind_e = Extends-trans e n u v.grown later in
      let behind_b = Extends-trans b e u i.grown behind_e in
      let behind_a = Extends-trans a b u g.grown behind_b in
      record {
        goals = g.is u behind_b;
        fairs = f.is u behind_a;
        initial = i.is u behind_e;
        valid = v.is u later;
      };
}

-- what is made is so over the terms behind it
pub made_here : {A : Type 0} (t n : Table) (IsSuch : Table → A → Type 0) (made : A) → MakesSuch t n IsSuch made →
    IsSuch n made
made_here t n IsSuch made is = is.is n (Extends-refl n)

-- the steps of processes, as fairness conditions ask for them
pub steps_here : (d : DesignTree) (t n : Table) (m : Moves) (steps : List (Vec FlatStep Global)) →
    steps ≡ m.processes.items → MakesSuch t n (AreMoves d) m → HaveSteps n d steps
steps_here d t n m steps same made =
    subst (HaveSteps n d) (sym same) (made_here t n (AreMoves d) m made).processes

-- what goes along with things goes along with what is seen of them
zip_seen : {X Y Z : Type 0} (R : X → Z → Type 0) (see : Y → Z) (xs : List X) (ys : List Y) →
    AllZip (λ x y. R x (see y)) xs ys → AllZip R xs (map see ys)
zip_seen R see [] [] all = tt
zip_seen R see [] (y ∷ ys) all = absurd all
zip_seen R see (x ∷ xs) [] all = absurd all
zip_seen R see (x ∷ xs) (y ∷ ys) all = (all.0, zip_seen R see xs ys all.1)

-- the whole: numbers, moves, claims and predicates
pub whole_made : (d : DesignTree) (t a b n : Table) (l : Layout) (m : Moves) (c : Claims) (p : PoolTerms) →
    t.inputs ≡ input_widths d → IsLayout d l → MakesSuch t a (AreMoves d) m → MakesSuch a b (AreClaims d) c →
    MakesSuch b n (ArePredicates d) p →
    MakesSuch t n (IsWhole d) (record {
      processes = m.processes;
      tasks = m.tasks;
      parameters = l.parameters;
      magic = l.magic;
      goals = c.goals;
      fairs = c.fairs;
      initial = c.initial;
      valid = c.valid;
      pool = p.ids;
      first = p.first;
      widths = l.widths;
    })
whole_made d t a b n l m c p inputs layout moves claims predicates =
    let to_b = Extends-trans t a b moves.grown claims.grown in
    let to_n = Extends-trans t b n to_b predicates.grown in record {
      grown = to_n;
      sound = predicates.sound;
      is = λ u later.
          let behind_b = Extends-trans b n u predicates.grown later in
          let behind_a = Extends-trans a b u claims.grown behind_b in
          let moved = moves.is u behind_a in
          let claimed = claims.is u behind_b in
          let pooled = predicates.is u later in record {
            flat = record {
              inputs = later.inputs ∙ to_n.inputs ∙ inputs;
              widths = layout.widths;
              magic = layout.magic;
              processes = zip_seen (λ p steps. AllZip (IsProcessStep u d p) (location_numbers d p) steps)
                  (λ (steps : Vec FlatStep Global). map step_terms steps.items) (process_numbers d) m.processes.items
                  moved.processes;
              tasks = moved.tasks;
              parameters = layout.parameters;
              narrow = layout.narrow;
              goals = claimed.goals;
              fairs = claimed.fairs;
              initial = claimed.initial;
              valid = claimed.valid;
            };
            ids = pooled.ids;
            first = pooled.first;
          };
    }
