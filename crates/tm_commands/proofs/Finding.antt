-- What `synth` finds, from what it leaves in the files, and that it finds a driver or that there is none, unless a
-- budget is spent.
use Rattle.std.proofs.Common.{◌≡◌, ◌∙◌, ℕ, Option, None, Some, Result, Ok, Err, List, [], ◌∷◌, ap, arith, length, map}
use Rattle.std.proofs.Common.{refl, subst, sym}
use Rattle.std.specs.Prelude.{IfErr, IfOk, IsTrue}
use Rattle.std.specs.List.{range_with_len}
use Rattle.std.proofs.lemmas.List.{length-append, length-map}
use Rattle.std.proofs.lemmas.List.FromFn.{length-range_with_len}
use Rattle.tm_cir.specs.Answer.{Answers}
use Rattle.tm_refine.specs.Decided.{IsHonest, IsSpent}
use Rattle.tm_refine.specs.declared.trace.Added.{Added}
use Rattle.tm_refine.specs.declared.trace.Trace.{Trace}
use Rattle.tm_sem.proofs.Sums.{waits_for_less_than_all}
use Rattle.tm_report.specs.declared.ending.Ending.{Ending}
use Rattle.tm_report.specs.declared.ending.Ending.TheVariants.{Budget, Driver, Environment}
use Rattle.tm_report.specs.declared.ending.Failure.{Failure}
use Rattle.tm_report.specs.declared.ending.Failure.TheVariants.{ReadFault, WriteFault, Memory}
use Rattle.tm_report.specs.Output.{SinkData}
use Rattle.tm_syntax.specs.Design.{DesignTree}
use Rattle.tm_synth.specs.Found.{IsBudgetSpent}
use Rattle.tm_verdict.specs.declared.verdict.Verdict.TheVariants as verdicts
use Rattle.tm_commands.specs.Check.{CheckDriverMayEnd, may_refuse_design, may_refuse_blocks, may_refuse_cert}
use Rattle.tm_commands.specs.Check.{may_judge_driver, CheckEnvironmentMayEnd, may_refuse_spec, may_refuse_levels}
use Rattle.tm_commands.specs.Check.{may_judge_environment}
use Rattle.tm_commands.specs.Commands.{MayEnd}
use Rattle.tm_commands.specs.Headline.{HasCause, IsShown, KeepsFiles}
use Rattle.tm_commands.specs.Inputs.{faulty_spec}
use Rattle.tm_commands.specs.Inputs.{RefusesSpecification, refuses_specification, RefusesBlocks, refuses_long_driver}
use Rattle.tm_commands.specs.Inputs.{refuses_bad_driver, RefusesScript, refuses_long_choices, refuses_bad_choices}
use Rattle.tm_commands.specs.Inputs.{RefusesCert, TellsSpecification, refuses_long_cert, refuses_bad_cert}
use Rattle.tm_commands.specs.Inputs.{RefusesStructured, refuses_long_struct, refuses_bad_struct}
use Rattle.tm_commands.specs.Migrate.{MigrateMayEnd, may_be_refused, may_migrate, refuses_spec, refuses_cert}
use Rattle.tm_commands.specs.Run as runs
use Rattle.tm_commands.specs.Run.{RunMayEnd}
use Rattle.tm_commands.specs.Synthesis.{AlwaysDecides, FindsGood, FindsLost, HasDecided, HasDecidedOrSpent, IsAmple}
use Rattle.tm_commands.specs.Synthesis.{ShowsNoFault, TellsLost, TracesBudget, TracesDriver, TracesEnvironment}
use Rattle.tm_commands.specs.Synthesis.{TracesHonestly, WritesGood, found_driver, found_either, found_neither}
use Rattle.tm_commands.specs.Synthesis.{found_none, wants_memory}
use Rattle.tm_commands.specs.Synthesise.{HoldsDriver, HoldsEnvironment, SynthesiseEnds, SynthesiseLeaves}
use Rattle.tm_commands.specs.Synthesise.{SynthesiseMayEnd, has_driver, has_none, has_spent, may_have_driver}
use Rattle.tm_commands.specs.Synthesise.{may_have_none, may_have_spent, may_not_be_specified, not_specified}
use Rattle.tm_commands.specs.Structure as structs
use Rattle.tm_commands.specs.Structure.{StructureMayEnd, UnstructureMayEnd, refuses_driver, refuses_struct}
use Rattle.tm_commands.specs.Words.{Command, run, synthesise, check_driver, check_environment, generate, migrate}
use Rattle.tm_commands.specs.Words.{structure, unstructure}
use Rattle.tm_commands.specs.World.{FilesData}
use Rattle.tm_commands.proofs.Telling.{specification_read, told_specification}

-- ---- ends of other commands
-- an end of `synth` that tells what was found
abbrev IsFinding : Ending → Type 0
IsFinding (Driver ranks trace nodes) = Unit {0}
IsFinding (Environment levels many chain trace) = Unit {0}
IsFinding (Budget n trace) = Unit {0}
IsFinding _ = ⊥

finding_spec : {ending : Ending} → RefusesSpecification ending → IsFinding ending → ⊥
finding_spec refuses_specification is = is

finding_blocks : {driver : List ℕ} {ending : Ending} → RefusesBlocks driver ending → IsFinding ending → ⊥
finding_blocks refuses_long_driver is = is
finding_blocks refuses_bad_driver is = is

finding_script : {choices : List ℕ} {ending : Ending} → RefusesScript choices ending → IsFinding ending → ⊥
finding_script refuses_long_choices is = is
finding_script refuses_bad_choices is = is

finding_cert : {cert : List ℕ} {ending : Ending} → RefusesCert cert ending → IsFinding ending → ⊥
finding_cert refuses_long_cert is = is
finding_cert refuses_bad_cert is = is

finding_struct : {struct : List ℕ} {ending : Ending} → RefusesStructured struct ending → IsFinding ending → ⊥
finding_struct refuses_long_struct is = is
finding_struct refuses_bad_struct is = is

finding_run : {driver choices : List ℕ} {ending : Ending} → RunMayEnd driver choices ending → IsFinding ending → ⊥
finding_run (runs.may_refuse_design refused) is = finding_spec refused is
finding_run (runs.may_refuse_blocks refused) is = finding_blocks refused is
finding_run (runs.may_refuse_script refused) is = finding_script refused is
finding_run runs.may_play is = is

finding_driver : {driver cert : List ℕ} {ending : Ending} → CheckDriverMayEnd driver cert ending →
    IsFinding ending → ⊥
finding_driver (may_refuse_design refused) is = finding_spec refused is
finding_driver (may_refuse_blocks refused) is = finding_blocks refused is
finding_driver (may_refuse_cert refused) is = finding_cert refused is
finding_driver (may_judge_driver ranks verdicts.Accepted) is = is
finding_driver (may_judge_driver ranks (verdicts.Refused condition goal s)) is = is

finding_levels : {cert : List ℕ} {ending : Ending} → CheckEnvironmentMayEnd cert ending → IsFinding ending → ⊥
finding_levels (may_refuse_spec refused) is = finding_spec refused is
finding_levels (may_refuse_levels refused) is = finding_cert refused is
finding_levels (may_judge_environment levels conditions chain verdicts.Accepted) is = is
finding_levels (may_judge_environment levels conditions chain (verdicts.Refused condition goal s)) is = is

finding_migration : {cert : List ℕ} {ending : Ending} → MigrateMayEnd cert ending → IsFinding ending → ⊥
finding_migration (may_be_refused (refuses_spec refused)) is = finding_spec refused is
finding_migration (may_be_refused (refuses_cert refused)) is = finding_cert refused is
finding_migration may_migrate is = is

finding_structure : {driver : List ℕ} {ending : Ending} → StructureMayEnd driver ending → IsFinding ending → ⊥
finding_structure (structs.may_be_refused (structs.refuses_spec refused)) is = finding_spec refused is
finding_structure (structs.may_be_refused (refuses_driver refused)) is = finding_blocks refused is
finding_structure structs.may_structure is = is

finding_unstructure : {struct : List ℕ} {ending : Ending} → UnstructureMayEnd struct ending → IsFinding ending → ⊥
finding_unstructure (structs.may_not_be_read (structs.refuses_specification refused)) is = finding_spec refused is
finding_unstructure (structs.may_not_be_read (refuses_struct refused)) is = finding_struct refused is
finding_unstructure structs.may_unstructure is = is

-- what is found is found by `synth`
synth_finds : (command : Option Command) (ending : Ending) → MayEnd command ending → IsFinding ending →
    (spec : List ℕ) × (out : List ℕ) × (budget : Option ℕ) × (command ≡ Some (synthesise spec out budget))
    × SynthesiseMayEnd budget ending
synth_finds None ending may is = absurd (subst IsFinding may is)
synth_finds (Some (run spec driver choices)) ending may is = absurd (finding_run may is)
synth_finds (Some (synthesise spec out budget)) ending may is = (spec, out, budget, refl, may)
synth_finds (Some (check_driver spec driver cert)) ending may is = absurd (finding_driver may is)
synth_finds (Some (check_environment spec cert)) ending may is = absurd (finding_levels may is)
synth_finds (Some (generate registers out)) ending may is = absurd (subst IsFinding may is)
synth_finds (Some (migrate spec cert out)) ending may is = absurd (finding_migration may is)
synth_finds (Some (structure spec driver out)) ending may is = absurd (finding_structure may is)
synth_finds (Some (unstructure spec struct out)) ending may is = absurd (finding_unstructure may is)

-- the budget that is spent is the one that was given
budget_given : (budget : Option ℕ) (n : ℕ) (trace : Trace) → SynthesiseMayEnd budget (Budget n trace) →
    budget ≡ Some n
budget_given budget n trace may = given (Budget n trace) may refl
  where
    given : (ending : Ending) → SynthesiseMayEnd budget ending → ending ≡ Budget n trace → budget ≡ Some n
    given _ (may_not_be_specified refuses_specification) is = absurd (cc)
    given _ (may_have_driver ranks track nodes within) is = absurd (cc)
    given _ (may_have_none levels many chain track within) is = absurd (cc)
    given _ (may_have_spent m track was) is = let same : m ≡ n = cc in was ∙ ap (λ (k : ℕ). Some k) same

-- ---- what is found
module _ (old new : List ℕ → Option (List ℕ)) (spec out : List ℕ) where
  holds_good : (ranks : List ℕ) (trace : Trace) (nodes : ℕ) → HoldsDriver old new spec out ranks trace nodes →
      WritesGood old new spec out ranks
  holds_good ranks trace nodes holds = record {
    design = holds.design;
    text = holds.driver;
    blocks = holds.found.blocks;
    specified = holds.specified;
    told = holds.driver_told;
    is = holds.found.reads_so;
    only = holds.found.reads_only_so;
    good = holds.found.good;
    waits = waits_for_less_than_all holds.design holds.specified.is.sound.numbered (Answers holds.found.blocks) ranks
        holds.found.good;
  }

  holds_lost : (levels many chain : ℕ) (trace : Trace) → HoldsEnvironment old new spec out levels many chain trace →
      TellsLost old spec levels many chain
  holds_lost levels many chain trace holds = record {
    design = holds.design;
    specified = holds.specified;
    lost = holds.found.lost;
    within = holds.found.within;
  }

  -- the trace of a driver is honest
  driver_traced : (ranks : List ℕ) (trace : Trace) (nodes : ℕ) → HoldsDriver old new spec out ranks trace nodes →
      TracesDriver old new spec out trace
  driver_traced ranks trace nodes holds = record {
    design = holds.design;
    text = holds.cert;
    certificate = holds.found.certificate;
    specified = holds.specified;
    told = holds.cert_told;
    is = holds.found.certifies;
    honest = holds.found.honest;
    unions = holds.found.unions;
  }

  -- and that of the environment
  environment_traced : (levels many chain : ℕ) (trace : Trace) →
      HoldsEnvironment old new spec out levels many chain trace → TracesEnvironment old new spec out trace
  environment_traced levels many chain trace holds = record {
    design = holds.design;
    text = holds.cert;
    certificate = holds.found.certificate;
    specified = holds.specified;
    told = holds.cert_told;
    is = holds.found.certifies;
    honest = holds.found.honest;
    unions = holds.found.unions;
  }

-- so is that of a budget that is spent
spent_traced : (contents : List ℕ → Option (List ℕ)) (spec : List ℕ) (budget : Option ℕ) (text : List ℕ)
    (ending : Ending) → SynthesiseEnds contents spec budget text ending → (n : ℕ) (trace : Trace) →
    ending ≡ Budget n trace → TracesBudget contents spec n trace
spent_traced contents spec budget _ _ (not_specified (faulty_spec fault)) n trace is = absurd (cc)
spent_traced contents spec budget _ _ (has_driver ranks track nodes told good honest) n trace is = absurd (cc)
spent_traced contents spec budget _ _ (has_none levels many chain track told lost honest) n trace is = absurd (cc)
spent_traced contents spec budget _ _ (has_spent {d = d} m track was told spent) n trace is =
    let number : m ≡ n = cc in
    let same : track ≡ trace = cc in
    record {
      design = d;
      specified = told;
      honest = subst (IsHonest d) same spent.honest;
      spent = subst (λ (t : Trace). IsSpent d (Some n) t) same
          (subst (λ (b : Option ℕ). IsSpent d b track) (was ∙ ap (λ (k : ℕ). Some k) number) spent.spent);
    }

module _ (command : Option Command) (old new : FilesData) where
  -- what an end of `synth` that tells what was found leaves in the files
  found_left : (outcome : Result Ending Failure) → IfOk outcome (MayEnd command) →
      KeepsFiles command old new outcome → IsTrue old.tells → (ending : Ending) → IsFinding ending →
      outcome ≡ Ok ending →
      (spec : List ℕ) × (out : List ℕ) × (budget : Option ℕ) × (command ≡ Some (synthesise spec out budget))
      × SynthesiseLeaves old.contents new.contents spec out ending
  found_left outcome may keeps tells ending finding is =
      let here = subst (λ (o : Result Ending Failure). IfOk o (MayEnd command)) is may in
      let by = synth_finds command ending here finding in
      let kept = subst (λ (o : Result Ending Failure). KeepsFiles command old new o) is keeps in
      let left = subst (λ (c : Option Command). KeepsFiles c old new (Ok ending)) by.3 kept in
      (by.0, by.1, by.2, by.3, left.left tells)

  -- a driver that is found is good
  pub finds_good : (outcome : Result Ending Failure) → IfOk outcome (MayEnd command) →
      KeepsFiles command old new outcome → FindsGood old new command outcome
  finds_good outcome may keeps tells ranks trace nodes is =
      let left = found_left outcome may keeps tells (Driver ranks trace nodes) tt is in (
        left.0,
        left.1,
        left.2,
        left.3,
        holds_good old.contents new.contents left.0 left.1 ranks trace nodes left.4,
      )

  -- a design without a driver is lost
  pub finds_lost : (outcome : Result Ending Failure) → IfOk outcome (MayEnd command) →
      KeepsFiles command old new outcome → FindsLost old command outcome
  finds_lost outcome may keeps tells levels many chain trace is =
      let left = found_left outcome may keeps tells (Environment levels many chain trace) tt is in (
        left.0,
        left.1,
        left.2,
        left.3,
        holds_lost old.contents new.contents left.0 left.1 levels many chain trace left.4,
      )

  -- a spent budget is the one that was given
  budget_traced : (outcome : Result Ending Failure) → IfOk outcome (MayEnd command) → HasCause old command outcome →
      IsTrue old.tells → (n : ℕ) (trace : Trace) → outcome ≡ Ok (Budget n trace) →
      (spec : List ℕ) × (out : List ℕ) × (command ≡ Some (synthesise spec out (Some n)))
      × TracesBudget old.contents spec n trace
  budget_traced outcome may cause tells n trace is =
      let here = subst (λ (o : Result Ending Failure). IfOk o (MayEnd command)) is may in
      let by = synth_finds command (Budget n trace) here tt in
      let given = budget_given by.2 n trace by.4 in
      let ends = subst (λ (c : Option Command). HasCause old c (Ok (Budget n trace))) by.3
      (subst (HasCause old command) is cause) tells in (
        by.0,
        by.1,
        by.3 ∙ ap (λ (b : Option ℕ). Some (synthesise by.0 by.1 b)) given,
        spent_traced old.contents by.0 by.2 ends.0 (Budget n trace) ends.1 n trace refl,
      )

  -- the trace is honest
  pub traces_honestly : (outcome : Result Ending Failure) → IfOk outcome (MayEnd command) →
      KeepsFiles command old new outcome → HasCause old command outcome → IsTrue old.tells →
      TracesHonestly old new command outcome
  traces_honestly outcome may keeps cause tells = record {
    driver = λ ranks trace nodes is.
        let left = found_left outcome may keeps tells (Driver ranks trace nodes) tt is in (
          left.0,
          left.1,
          left.2,
          left.3,
          driver_traced old.contents new.contents left.0 left.1 ranks trace nodes left.4,
        );
    environment = λ levels many chain trace is.
        let left = found_left outcome may keeps tells (Environment levels many chain trace) tt is in (
          left.0,
          left.1,
          left.2,
          left.3,
          environment_traced old.contents new.contents left.0 left.1 levels many chain trace left.4,
        );
    budget = budget_traced outcome may cause tells;
  }

-- ---- that something is found
-- an ample budget is not spent
not_ample : (d : DesignTree) (budget : Option ℕ) (trace : Trace) → IsBudgetSpent d budget trace → IsAmple d budget → ⊥
not_ample d None trace spent ample = let none : None ≡ Some (length trace.added.items) = spent.spent.all_spent in cc
not_ample d (Some n) trace spent ample =
    let all : Some n ≡ Some (length trace.added.items) = spent.spent.all_spent in
    let number : n ≡ length trace.added.items = cc in
    absurd (omega (
      arith,
      ample,
      number,
      spent.spent.fewer,
      spent.honest.first,
      length-append (range_with_len 0 trace.first) (map (λ (a : Added). a.predicate) trace.added.items),
      length-range_with_len 0 trace.first,
      length-map trace.added.items (λ (a : Added). a.predicate),
    ))

-- an end of `synth` over a design tells what was found
ended_so : (contents : List ℕ → Option (List ℕ)) (spec : List ℕ) (budget : Option ℕ) (d : DesignTree)
    (text : List ℕ) (ending : Ending) → TellsSpecification contents spec d →
    SynthesiseEnds contents spec budget text ending →
    HasDecidedOrSpent budget (Ok ending) × (IsAmple d budget → HasDecided (Ok ending))
ended_so contents spec budget d _ ending told (not_specified none) =
    absurd (specification_read contents spec d ending told none)
ended_so contents spec budget d _ _ told (has_driver ranks trace nodes specified good honest) =
    (found_either (found_driver ranks trace nodes), λ ample. found_driver ranks trace nodes)
ended_so contents spec budget d _ _ told (has_none levels many chain trace specified lost honest) =
    (found_either (found_none levels many chain trace), λ ample. found_none levels many chain trace)
ended_so contents spec budget d _ _ told (has_spent {d = e} n trace is specified spent) = (
  subst (λ (b : Option ℕ). HasDecidedOrSpent b (Ok (Budget n trace))) (sym is) (found_neither n trace),
  λ ample. absurd (not_ample d budget trace
      (subst (λ (x : DesignTree). IsBudgetSpent x budget trace) (told_specification contents spec e d specified told)
      spent) ample),
)

module _ (old new : FilesData) (out after : SinkData) where
  -- a failure that shows by no count is want of memory
  failed_so : (command : Option Command) (failure : Failure) → ShowsNoFault command old new out after →
      IsShown command old new out after failure → HasDecided (Err failure)
  failed_so command (ReadFault name) none shown = absurd (none.reads name shown.0 shown.1)
  failed_so command (WriteFault []) none shown = absurd (none.puts shown)
  failed_so command (WriteFault (b ∷ bs)) none shown = absurd (none.writes (b ∷ bs) shown.0 shown.1)
  failed_so command Memory none shown = wants_memory

  -- so `synth` decides
  pub always_decides : (command : Option Command) (outcome : Result Ending Failure) → HasCause old command outcome →
      IfErr outcome (IsShown command old new out after) → AlwaysDecides old new out after command outcome
  always_decides command (Ok ending) cause shown tells spec name budget d is told none =
      let ends = subst (λ (c : Option Command). HasCause old c (Ok ending)) is cause tells in
      ended_so old.contents spec budget d ends.0 ending told ends.1
  always_decides command (Err failure) cause shown tells spec name budget d is told none =
      let failed = failed_so command failure none shown in (found_either failed, λ ample. failed)
