-- What the checkers ask of a certificate and the game in its order.
use Rattle.std.proofs.Common.{◌≡◌, ℕ, ◌≤◌, Result, Ok, Err, List, length, sym, subst, arith}
use Rattle.std.specs.Prelude.{IfOk, sum}
use Rattle.tm_check.specs.Reads.{IsSized}
use Rattle.tm_cert.specs.Cert.{DriverData, EnvData}
use Rattle.tm_check.specs.Checked as drivers
use Rattle.tm_cir.specs.Tree.{BlockTree}
use Rattle.tm_judge.specs.Ordered.{IsOrderedGame}
use Rattle.tm_envcheck.specs.Verdict as environments
use Rattle.tm_envcheck.specs.Verdict.{IsEnvironmentVerdict}
use Rattle.tm_verdict.specs.Regular.{IsRegular}
use Rattle.tm_game.specs.Game.{GameData}
use Rattle.tm_judge.specs.Judged.{CanJudgeDriver, CanJudgeEnvironment}
use Rattle.tm_judge.proofs.OneVerdict.{only_environment_verdict}
use Rattle.tm_flat_room.proofs.Room.{are_small}
use Rattle.tm_sem.specs.State.{StateData}
use Rattle.tm_sem.specs.StateBits.{state_widths}
use Rattle.tm_sem.specs.Step.{IsInitial}
use Rattle.tm_verdict.specs.Fitting.{FitsEnvironment}
use Rattle.tm_verdict.specs.Sets.{levels_of}
use Rattle.tm_syntax.specs.declared.design.Design.{Design}
use Rattle.tm_syntax.specs.Design.{DesignTree}
use Rattle.tm_syntax.specs.Design.View.{design_tree}
use Rattle.tm_syntax.specs.Faults.{IsOfText, IsSound}
use Rattle.tm_syntax.proofs.Limits as limits
use Rattle.tm_verdict.specs.declared.verdict.Verdict.{Verdict}

sized : (d : DesignTree) (order : List ℕ) (g : GameData) → IsOrderedGame d order g → IsSized g
sized d order g is = record { order = is.places; inputs = is.inputs; wide = is.wide; levels = is.few_levels }

-- an order that is lent is the same
pub same_game : (d : DesignTree) (lent order : List ℕ) (g : GameData) → lent ≡ order → IsOrderedGame d lent g →
    IsOrderedGame d order g
same_game d lent order g same is = subst (λ (o : List ℕ). IsOrderedGame d o g) same is

-- the levels of a state are some of all
enough_levels : (d : DesignTree) (order : List ℕ) (g : GameData) → IsOrderedGame d order g →
    length g.order ≤ g.diagrams.table.levels
enough_levels d order g is = omega (arith, is.levels)

pub can_check_driver : (d : DesignTree) (bs : List BlockTree) (c : DriverData) (g : GameData) →
    CanJudgeDriver d bs c → IsRegular d → ((s : StateData) × IsInitial d s) → IsOrderedGame d c.order g →
    drivers.CanCheck d bs c g
can_check_driver d bs c g can regular begins is = record {
  load = record {
    of = is.of;
    fits = can.cert;
    order = sym is.follows;
    levels = enough_levels d c.order g is;
  };
  sized = sized d c.order g is;
  blocks = can.blocks;
  regular = regular;
  begins = begins;
  few = omega (arith, limits.few_goals d can.sound);
}

-- the game of a design of a text, which is regular and begins somewhere, can be asked about certificates
pub can_check_environment : {d : DesignTree} {order : List ℕ} {c : EnvData} {g : GameData} →
    (IsSound d → IsOfText d.spec → IsRegular d) → (IsSound d → IsOfText d.spec → (s : StateData) × IsInitial d s) →
    CanJudgeEnvironment d c → IsOrderedGame d order g → environments.CanCheck d g
can_check_environment regular begins can is = record {
  of = is.of;
  regular = regular can.sound can.of_text;
  begins = begins can.sound can.of_text;
}

-- a certificate that fits a design fits the numbers of its game
pub fits_game : (d : DesignTree) (order : List ℕ) (c : EnvData) (g : GameData) → CanJudgeEnvironment d c →
    IsOrderedGame d order g → FitsEnvironment (length g.order) (length g.goals) (length g.fairs) c
fits_game d order c g can is =
    subst (λ (n : ℕ). FitsEnvironment n (length g.goals) (length g.fairs) c) (sym is.bits)
    (subst (λ (n : ℕ). FitsEnvironment (sum (state_widths d)) n (length g.fairs) c) (sym is.goals)
    (subst (λ (n : ℕ). FitsEnvironment (sum (state_widths d)) (length d.goals) n c) (sym is.fairs) can.cert))

-- the verdict of a check is one on the design
pub verdict_of : {E : Type 0} (d : DesignTree) (c : EnvData) (g : GameData) (answer : Result Verdict E) →
    environments.CanCheck d g →
    IfOk answer (λ v. (e : DesignTree) → environments.CanCheck e g → IsEnvironmentVerdict e (levels_of e c) v) →
    IfOk answer (IsEnvironmentVerdict d (levels_of d c))
verdict_of d c g (Ok v) check is = is d check
verdict_of d c g (Err e) check is = tt

-- and the only one
pub only_verdict_of : {E : Type 0} (d : Design) (c : EnvData) (g : GameData) (answer : Result Verdict E) →
    CanJudgeEnvironment (design_tree d) c → environments.CanCheck (design_tree d) g →
    IfOk answer (λ v. (e : DesignTree) → environments.CanCheck e g → IsEnvironmentVerdict e (levels_of e c) v) →
    IfOk answer (λ verdict. (other : Verdict) →
    IsEnvironmentVerdict (design_tree d) (levels_of (design_tree d) c) other → verdict ≡ other)
only_verdict_of d c g answer can check is =
    only_environment_verdict (design_tree d) (are_small d can.sound can.of_text) check.regular.initial
    (levels_of (design_tree d) c) answer (verdict_of (design_tree d) c g answer check is)
