-- Where the driver stays in a set it is not forced out.
use Rattle.std.proofs.Common.{◌≡◌, Bool, true, false, not, refl}
use Rattle.tm_syntax.specs.Design.{DesignTree}
use Rattle.tm_sem.specs.State.{StateData}
use Rattle.tm_sem.specs.declared.state.Move.{Move}
use Rattle.tm_sem.specs.Step.{IsState}
use Rattle.tm_sem.specs.Forcing.{Leads, errs, lands, Forced, by_environment, by_driver, Keeps, Stays}
use Rattle.tm_sem.specs.Certificates.{IsIn}
use Rattle.tm_solve.specs.Sets.{StateSet, outside}
use Rattle.tm_solve.specs.Game.{Game}
use Rattle.tm_solve.specs.Operator.{Operator}
use Rattle.tm_solve.specs.Exact.{IsGameOf}
use Rattle.tm_solve.proofs.Operators.{keeps_more}

pub keeps_both : {d : DesignTree} {s : StateData} {move : Move} (P Q : StateData → Type 0) → Keeps d P s move →
    Keeps d Q s move → Keeps d (λ t. P t × Q t) s move
keeps_both P Q one other = record {
  no_error = one.no_error;
  ends_within = λ choices t step. (one.ends_within choices t step, other.ends_within choices t step);
}

pub stays_more : {d : DesignTree} {s : StateData} (P Q : StateData → Type 0) → ((t : StateData) → P t → Q t) →
    Stays d P s → Stays d Q s
stays_more P Q f stays = record {
  valid = stays.valid;
  calm = λ move is. keeps_more P Q f (stays.calm move is);
  driver = λ turn. let m = stays.driver turn in (m.0, m.1, keeps_more P Q f m.2);
}

keeps_not_leads : {d : DesignTree} {s : StateData} {move : Move} (P Q : StateData → Type 0) →
    ((t : StateData) → P t → Q t → ⊥) → Keeps d P s move → Leads d Q s move → ⊥
keeps_not_leads P Q none keeps (errs choices step) = keeps.no_error choices step
keeps_not_leads P Q none keeps (lands choices t step here) = none t (keeps.ends_within choices t step) here

pub stays_not_forced : {d : DesignTree} {s : StateData} (P Q : StateData → Type 0) →
    ((t : StateData) → P t → Q t → ⊥) → Stays d P s → Forced d Q s → ⊥
stays_not_forced P Q none stays (by_environment move is leads) =
    keeps_not_leads P Q none (stays.calm move is) leads
stays_not_forced P Q none stays (by_driver turn all) =
    let m = stays.driver turn in keeps_not_leads P Q none m.2 (all m.0 m.1)

not_both : (a : Bool) → a ≡ true → not a ≡ true → ⊥
not_both true e f = cc
not_both false e f = cc

module _ {d : DesignTree} {op : Operator} {g : Game} (exact : IsGameOf d op g) where
  pub stay_true : (a : StateSet) (s : StateData) → IsState d s → Stays d (IsIn d a) s → op.stay a s ≡ true
  stay_true a s valid stays = by (op.stay a s) refl
    where
      by : (b : Bool) → op.stay a s ≡ b → b ≡ true
      by true e = refl
      by false e = absurd (stays_not_forced (IsIn d a) (IsIn d (outside a))
          (λ t here out. not_both (a t) here.1 out.1) stays (exact.leave a s valid e))
