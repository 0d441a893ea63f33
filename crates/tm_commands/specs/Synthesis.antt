-- What it means that `check` accepts, and what `synth` finds: over the contents of the files, and in words of plays
-- alone; and why `synth` tracked the predicates that it tells.
use Rattle.std.specs.Prelude.{◌≡◌, ℕ, ◌+◌, ◌*◌, ◌<◌, ◌≤◌, false, Option, None, Some, Result, Ok, Err, List, []}
use Rattle.std.specs.Prelude.{◌++◌, length, sum}
use Rattle.std.specs.Prelude.{Contains, IsTrue}
use Rattle.std.specs.List.{AllByRecursion}
use Rattle.tm_cert.specs.Cert.{DriverData, EnvData}
use Rattle.tm_cert.specs.CertValue.{IsCertText}
use Rattle.tm_cert.specs.declared.cert.Cert.TheVariants as certs
use Rattle.tm_cert.specs.declared.shape.Kind.TheVariants as kinds
use Rattle.tm_cir.specs.Answer.{Answers}
use Rattle.tm_cir.specs.Text.{IsDriverText}
use Rattle.tm_cir.specs.Tree.{BlockTree}
use Rattle.tm_flat_pool.specs.Cells.{AreDriverUnions, AreLevelUnions}
use Rattle.tm_flat_pool.specs.Predicates.{pool}
use Rattle.tm_game_pool.specs.Separating.{predicates_at}
use Rattle.tm_judge.specs.Shape.{shape_of}
use Rattle.tm_refine.specs.Decided.{IsHonest, IsSpent, numbers_of}
use Rattle.tm_refine.specs.declared.trace.Trace.{Trace}
use Rattle.tm_sem.specs.Fairness.{HasRounds}
use Rattle.tm_sem.specs.Loss.{Beats, Lost}
use Rattle.tm_sem.specs.Play.{Entry, goal_holds}
use Rattle.tm_sem.specs.State.{StateData}
use Rattle.tm_sem.specs.Step.{IsInitial}
use Rattle.tm_sem.specs.Strategy.{Good, IsDriven, states_of}
use Rattle.tm_syntax.specs.Design.{DesignTree}
use Rattle.tm_syntax.specs.Design.Atoms.{first_atoms}
use Rattle.tm_verdict.specs.Sets.{driver_sets, levels_of}
use Rattle.tm_report.specs.declared.ending.Ending.{Ending}
use Rattle.tm_report.specs.declared.ending.Ending.TheVariants.{Budget, Driver, Environment}
use Rattle.tm_report.specs.declared.ending.Ending.TheVariants.{Accepted, AcceptedEnvironment}
use Rattle.tm_report.specs.declared.ending.Failure.{Failure}
use Rattle.tm_report.specs.declared.ending.Failure.TheVariants.{Memory}
use Rattle.tm_report.specs.Output.{SinkData, HasFailedPut}
use Rattle.tm_commands.specs.Commands.{read_names, write_names}
use Rattle.tm_commands.specs.Inputs.{Tells, TellsSpecification, TellsBlocks}
use Rattle.tm_commands.specs.Synthesise.{cert_name, driver_name}
use Rattle.tm_commands.specs.Words.{Command, synthesise, check_driver, check_environment}
use Rattle.tm_commands.specs.World.{FilesData, HasFailedRead, HasFailedWrite}

-- SPEC tells a design, and DRIVER tells blocks over it that are a good driver: no play that they drive, whatever the
-- environment chooses, meets an error or a forbidden move, any stretch in which a goal is pending and holds nowhere has
-- fewer rounds than the rank of the goal, and one in which it holds nowhere, whatever is pending, fewer than all ranks
-- together
pub record TellsGood (contents : List ℕ → Option (List ℕ)) (spec driver : List ℕ) (ranks : List ℕ) : Type 0 where
  pub design : DesignTree
  pub blocks : List BlockTree
  pub specified : TellsSpecification contents spec design
  pub told : TellsBlocks contents driver design blocks
  pub good : Good design (Answers blocks) ranks
  pub waits : (first : StateData) (entries : List Entry) → IsDriven design (Answers blocks) first entries →
      (goal n : ℕ) (before stretch after : List StateData) → goal < length design.goals →
      states_of first entries ≡ before ++ (stretch ++ after) →
      AllByRecursion (λ s. goal_holds design s goal ≡ false) stretch → HasRounds design n stretch → n < sum ranks

-- SPEC tells a design, and OUT.c holds the C text of blocks over it, and of no others, that are a good driver: what is
-- said of DRIVER above holds of these
pub record WritesGood (old new : List ℕ → Option (List ℕ)) (spec out : List ℕ) (ranks : List ℕ) : Type 0 where
  pub design : DesignTree
  pub text : List ℕ
  pub blocks : List BlockTree
  pub specified : TellsSpecification old spec design
  pub told : Tells new (driver_name out) text
  pub is : IsDriverText design text blocks
  pub only : (bs : List BlockTree) → IsDriverText design text bs → bs ≡ blocks
  pub good : Good design (Answers blocks) ranks
  pub waits : (first : StateData) (entries : List Entry) → IsDriven design (Answers blocks) first entries →
      (goal n : ℕ) (before stretch after : List StateData) → goal < length design.goals →
      states_of first entries ≡ before ++ (stretch ++ after) →
      AllByRecursion (λ s. goal_holds design s goal ≡ false) stretch → HasRounds design n stretch → n < sum ranks

-- SPEC tells a design that is lost: against every driver and for any number of rounds the environment forces an error
-- or a stretch of so many rounds in which some goal never holds; the numbers bound how many steps it needs
pub record TellsLost (contents : List ℕ → Option (List ℕ)) (spec : List ℕ) (levels conditions chain : ℕ) :
    Type 0 where
  pub design : DesignTree
  pub specified : TellsSpecification contents spec design
  pub lost : Lost design
  pub within : (n : ℕ) → (first : StateData) × IsInitial design first
      × Beats design (levels * (n * (conditions * chain) + 1)) [] first n

-- a driver is accepted by `check SPEC DRIVER CERT` alone, and it is a good one
abbrev pub AcceptsGood : FilesData → Option Command → Result Ending Failure → Type 0
AcceptsGood old command outcome =
    IsTrue old.tells → (ranks : List ℕ) → outcome ≡ Ok (Accepted ranks) →
    (spec : List ℕ) × (driver : List ℕ) × (cert : List ℕ) × (command ≡ Some (check_driver spec driver cert))
    × TellsGood old.contents spec driver ranks

-- an environment is accepted by `check SPEC CERT` alone, and the design is lost
abbrev pub AcceptsLost : FilesData → Option Command → Result Ending Failure → Type 0
AcceptsLost old command outcome =
    IsTrue old.tells → (levels conditions chain : ℕ) → outcome ≡ Ok (AcceptedEnvironment levels conditions chain) →
    (spec : List ℕ) × (cert : List ℕ) × (command ≡ Some (check_environment spec cert))
    × TellsLost old.contents spec levels conditions chain

-- a driver is found by `synth SPEC OUT` alone, and OUT.c holds a good one
abbrev pub FindsGood : FilesData → FilesData → Option Command → Result Ending Failure → Type 0
FindsGood old new command outcome =
    IsTrue old.tells → (ranks : List ℕ) (trace : Trace) (nodes : ℕ) → outcome ≡ Ok (Driver ranks trace nodes) →
    (spec : List ℕ) × (out : List ℕ) × (budget : Option ℕ) × (command ≡ Some (synthesise spec out budget))
    × WritesGood old.contents new.contents spec out ranks

-- that there is no driver is found by `synth SPEC OUT` alone, and the design is lost
abbrev pub FindsLost : FilesData → Option Command → Result Ending Failure → Type 0
FindsLost old command outcome =
    IsTrue old.tells → (levels conditions chain : ℕ) (trace : Trace) →
    outcome ≡ Ok (Environment levels conditions chain trace) →
    (spec : List ℕ) × (out : List ℕ) × (budget : Option ℕ) × (command ≡ Some (synthesise spec out budget))
    × TellsLost old.contents spec levels conditions chain

-- SPEC tells a design of which the trace is honest: from the start the atoms of goals and declared fairness conditions
-- are tracked, and each predicate that was added is the first of the pool that tells apart the two states beside it,
-- which are in one cell of those before it, where these leave the design undecided; OUT.cert holds a driver's
-- certificate, and each of its sets is a union of cells of the predicates that are tracked at the end
pub record TracesDriver (old new : List ℕ → Option (List ℕ)) (spec out : List ℕ) (trace : Trace) : Type 0 where
  pub design : DesignTree
  pub text : List ℕ
  pub certificate : DriverData
  pub specified : TellsSpecification old spec design
  pub told : Tells new (cert_name out) text
  pub is : IsCertText (shape_of design kinds.Driver) text (certs.Driver certificate)
  pub honest : IsHonest design trace
  pub unions : AreDriverUnions design (predicates_at (pool design) (numbers_of trace)) (driver_sets design certificate)

-- so with a certificate of the environment
pub record TracesEnvironment (old new : List ℕ → Option (List ℕ)) (spec out : List ℕ) (trace : Trace) : Type 0 where
  pub design : DesignTree
  pub text : List ℕ
  pub certificate : EnvData
  pub specified : TellsSpecification old spec design
  pub told : Tells new (cert_name out) text
  pub is : IsCertText (shape_of design kinds.Environment) text (certs.Environment certificate)
  pub honest : IsHonest design trace
  pub unions : AreLevelUnions design (predicates_at (pool design) (numbers_of trace)) (levels_of design certificate)

-- so without a certificate, and the budget is spent: as many predicates were added, fewer are tracked at the end than
-- there are, and those leave the design undecided
pub record TracesBudget (contents : List ℕ → Option (List ℕ)) (spec : List ℕ) (n : ℕ) (trace : Trace) : Type 0 where
  pub design : DesignTree
  pub specified : TellsSpecification contents spec design
  pub honest : IsHonest design trace
  pub spent : IsSpent design (Some n) trace

-- the trace of predicates that an outcome of `synth` carries is honest
pub record TracesHonestly (old new : FilesData) (command : Option Command) (outcome : Result Ending Failure) :
    Type 0 where
  pub driver : (ranks : List ℕ) (trace : Trace) (nodes : ℕ) → outcome ≡ Ok (Driver ranks trace nodes) →
      (spec : List ℕ) × (out : List ℕ) × (budget : Option ℕ) × (command ≡ Some (synthesise spec out budget))
      × TracesDriver old.contents new.contents spec out trace
  pub environment : (levels conditions chain : ℕ) (trace : Trace) →
      outcome ≡ Ok (Environment levels conditions chain trace) →
      (spec : List ℕ) × (out : List ℕ) × (budget : Option ℕ) × (command ≡ Some (synthesise spec out budget))
      × TracesEnvironment old.contents new.contents spec out trace
  pub budget : (n : ℕ) (trace : Trace) → outcome ≡ Ok (Budget n trace) →
      (spec : List ℕ) × (out : List ℕ) × (command ≡ Some (synthesise spec out (Some n)))
      × TracesBudget old.contents spec n trace

-- no fault shows by a count: of no file that a command reads or writes, nor of the output
pub record ShowsNoFault (command : Option Command) (old new : FilesData) (out after : SinkData) : Type 0 where
  pub reads : (name : List ℕ) → Contains (read_names command) name → ¬ HasFailedRead old new name
  pub writes : (name : List ℕ) → Contains (write_names command) name → ¬ HasFailedWrite old new name
  pub puts : ¬ HasFailedPut out after

-- a driver was found, or that there is none, or memory ran out
pub data HasDecided : Result Ending Failure → Type 0 where
  found_driver : (ranks : List ℕ) (trace : Trace) (nodes : ℕ) → HasDecided (Ok (Driver ranks trace nodes))
  found_none : (levels conditions chain : ℕ) (trace : Trace) →
      HasDecided (Ok (Environment levels conditions chain trace))
  wants_memory : HasDecided (Err Memory)

-- so, or the budget is spent
pub data HasDecidedOrSpent : Option ℕ → Result Ending Failure → Type 0 where
  found_either : {budget : Option ℕ} {outcome : Result Ending Failure} → HasDecided outcome →
      HasDecidedOrSpent budget outcome
  found_neither : (n : ℕ) (trace : Trace) → HasDecidedOrSpent (Some n) (Ok (Budget n trace))

-- a budget allows to add all predicates that are not tracked from the start; without one all may be added
abbrev pub IsAmple : DesignTree → Option ℕ → Type 0
IsAmple d None = Unit {0}
IsAmple d (Some n) = length (pool d) ≤ first_atoms d + n

-- `synth SPEC OUT` decides the game of whatever design SPEC tells: unless a fault shows or memory runs out, it finds a
-- driver, or that there is none; a budget that is not ample may be spent
abbrev pub AlwaysDecides :
    FilesData → FilesData → SinkData → SinkData → Option Command → Result Ending Failure → Type 0
AlwaysDecides old new out after command outcome =
    IsTrue old.tells → (spec name : List ℕ) (budget : Option ℕ) (d : DesignTree) →
    command ≡ Some (synthesise spec name budget) → TellsSpecification old.contents spec d →
    ShowsNoFault command old new out after →
    HasDecidedOrSpent budget outcome × (IsAmple d budget → HasDecided outcome)
