-- A term that holds where the inputs are within the bounds of a state tells such states.
use Rattle.std.proofs.Common.{◌≡◌, ℕ, ◌+◌, ◌<◌, ◌≤◌, ◌^◌, List, length, sym, ap, ◌∙◌, subst, arith}
use Rattle.std.specs.Prelude.{◌↔◌}
use Rattle.tm_syntax.specs.Design.{DesignTree}
use Rattle.tm_term.specs.declared.term.TermId.{TermId}
use Rattle.tm_term.specs.Table.{Table}
use Rattle.tm_sem.specs.State.{StateData}
use Rattle.tm_flat.specs.Inputs.{first_choice, input_widths, room, state_from}
use Rattle.tm_flat.specs.IsFlat.{IsStateTerm}
use Rattle.tm_flat_exprs.proofs.Later.{term_along}
use Rattle.tm_flat_states.specs.declared.bounds.Bound.{Bound}
use Rattle.tm_flat_states.specs.Bounds.{FitAll, MakesTest, MeetAll}
use Rattle.tm_flat_states.specs.Marks.{MakesSuch}
use Rattle.tm_flat_states.proofs.Bounding.{fit_long}
use Rattle.tm_flat_states.proofs.InputTerms.{inputs_many}

-- the bounds are as few as the inputs
pub few_bounds : (d : DesignTree) → first_choice d + (room + room) < 2 ^ 32 → (bs cs : List Bound) → cs ≡ bs →
    FitAll (input_widths d) bs → length cs < 2 ^ 32
few_bounds d few bs cs same fit =
    let long = fit_long (input_widths d) bs fit in
    let many = inputs_many d in
    let one = ap length same in
    omega (arith, few, long, many, one)

pub fit_here : (d : DesignTree) (ws : List ℕ) (bs cs : List Bound) → ws ≡ input_widths d → cs ≡ bs →
    FitAll (input_widths d) bs → FitAll ws cs
fit_here d ws bs cs inputs same fit =
    subst (FitAll ws) (sym same) (subst (λ (l : List ℕ). FitAll l bs) (sym inputs) fit)

pub state_such : (t n : Table) (d : DesignTree) (IsSuch : StateData → Type 0) (bs cs : List Bound) (id : TermId) →
    t.inputs ≡ input_widths d → cs ≡ bs →
    ((v : List ℕ) → first_choice d ≤ length v → MeetAll bs v ↔ IsSuch (state_from d v)) →
    MakesTest t n id (λ u v. MeetAll cs v) → MakesSuch t n (λ u id. IsStateTerm u d IsSuch id) id
state_such t n d IsSuch bs cs id inputs same tells made = record {
  grown = made.grown;
  sound = made.sound;
  is = λ u more. record {
    term = term_along n u 1 id more made.term;
    holds = λ v are.
        let long : length v ≡ length (input_widths d) =
        are.count ∙ ap length (more.inputs ∙ made.grown.inputs ∙ inputs) in
        let many = inputs_many d in
        let told = tells v (omega (arith, long, many)) in
        let held = made.holds u more v are in (
          λ one. told.0 (subst (λ (l : List Bound). MeetAll l v) same (held.0 one)),
          λ such. held.1 (subst (λ (l : List Bound). MeetAll l v) (sym same) (told.1 such)),
        );
  };
}
