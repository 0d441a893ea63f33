-- What it means that `check` accepts.
use Rattle.std.proofs.Common.{◌≡◌, ℕ, Option, None, Some, Result, Ok, Err, List, length, map, refl, sym, ◌∙◌, subst}
use Rattle.std.specs.Prelude.{IfOk}
use Rattle.std.proofs.lemmas.List.{length-map}
use Rattle.tm_cert.specs.declared.shape.Kind.{Kind}
use Rattle.tm_cert.specs.Cert.{DriverData, EnvData}
use Rattle.tm_check.specs.Verdict.{IsDriverVerdict}
use Rattle.tm_check.proofs.Checking.{ranks_same}
use Rattle.tm_cir.specs.Answer.{Answers}
use Rattle.tm_cir.specs.Tree.{BlockTree}
use Rattle.tm_cir.proofs.Deciding.{certified_blocks}
use Rattle.tm_envcheck.specs.Verdict.{IsEnvironmentVerdict}
use Rattle.tm_sem.specs.Certificates.{MeetsEnvironment, longest_chain}
use Rattle.tm_sem.specs.Fairness.{conditions}
use Rattle.tm_sem.specs.Strategy.{Good}
use Rattle.tm_sem.proofs.Losing.{certified_is_lost}
use Rattle.tm_sem.proofs.Sums.{waits_for_less_than_all}
use Rattle.tm_verdict.specs.Sets.{driver_sets, level_sets, levels_of}
use Rattle.tm_syntax.specs.Design.{DesignTree}
use Rattle.tm_verdict.specs.declared.verdict.Verdict.{Verdict}
use Rattle.tm_verdict.specs.declared.verdict.Verdict.TheVariants as verdicts
use Rattle.tm_report.specs.declared.ending.Ending.{Ending}
use Rattle.tm_report.specs.declared.ending.Ending.TheVariants.{Usage, Generated}
use Rattle.tm_report.specs.declared.ending.Ending.TheVariants.{Accepted, AcceptedEnvironment}
use Rattle.tm_report.specs.declared.ending.Failure.{Failure}
use Rattle.tm_commands.specs.Check.{TellsDriver, NoDriver, no_design, no_blocks, no_cert, driver_end}
use Rattle.tm_commands.specs.Check.{CheckDriverEnds, unread_driver, judged_driver, CheckDriverMayEnd}
use Rattle.tm_commands.specs.Check.{may_refuse_design, may_refuse_blocks, may_refuse_cert, may_judge_driver}
use Rattle.tm_commands.specs.Check.{TellsEnvironment, NoEnvironment, no_spec}
use Rattle.tm_commands.specs.Check.{no_levels, CheckEnvironmentEnds, unread_environment}
use Rattle.tm_commands.specs.Check.{judged_environment, CheckEnvironmentMayEnd, may_refuse_spec, may_refuse_levels}
use Rattle.tm_commands.specs.Check.{may_judge_environment}
use Rattle.tm_commands.specs.Commands.{read_names, CommandEnds, MayEnd}
use Rattle.tm_commands.specs.Headline.{HasCause}
use Rattle.tm_commands.specs.Inputs.{NoSpecification, faulty_spec, NoBlocks, long_driver, bad_driver, NoCert, long_cert}
use Rattle.tm_commands.specs.Inputs.{bad_cert, RefusesSpecification, refuses_specification, RefusesBlocks}
use Rattle.tm_commands.specs.Inputs.{refuses_long_driver, refuses_bad_driver, RefusesScript, refuses_long_choices}
use Rattle.tm_commands.specs.Inputs.{refuses_bad_choices, RefusesCert, refuses_long_cert, refuses_bad_cert}
use Rattle.tm_commands.specs.Inputs.{RefusesStructured, refuses_long_struct, refuses_bad_struct}
use Rattle.tm_commands.specs.Migrate.{MigrateMayEnd, may_be_refused, may_migrate, refuses_spec}
use Rattle.tm_commands.specs.Migrate.{refuses_cert}
use Rattle.tm_commands.specs.Run as runs
use Rattle.tm_commands.specs.Run.{RunMayEnd}
use Rattle.tm_commands.specs.Synthesis.{TellsGood, TellsLost, AcceptsGood, AcceptsLost}
use Rattle.tm_commands.specs.Synthesise.{SynthesiseMayEnd, may_have_driver, may_have_none, may_have_spent}
use Rattle.tm_commands.specs.Synthesise.{may_not_be_specified}
use Rattle.tm_commands.specs.Structure as structs
use Rattle.tm_commands.specs.Structure.{StructureMayEnd, UnstructureMayEnd, refuses_driver, refuses_struct}
use Rattle.tm_commands.specs.Words.{Command, run, synthesise, check_driver, check_environment, generate, migrate}
use Rattle.tm_commands.specs.Words.{structure, unstructure}
use Rattle.tm_commands.specs.World.{FilesData}
use Rattle.tm_commands.proofs.CheckingLevels.{end_on}
use Rattle.tm_commands.proofs.Running.{are_told}

-- the ends that accept a driver, and an environment
abbrev IsGoodEnd : Ending → Type 0
IsGoodEnd (Accepted ranks) = Unit {0}
IsGoodEnd _ = ⊥

abbrev IsLostEnd : Ending → Type 0
IsLostEnd (AcceptedEnvironment levels conditions chain) = Unit {0}
IsLostEnd _ = ⊥

-- a file that is refused accepts nothing
abbrev IsRefusing : Ending → Type 0
IsRefusing ending = (IsGoodEnd ending → ⊥) × (IsLostEnd ending → ⊥)

refused_spec : {ending : Ending} → RefusesSpecification ending → IsRefusing ending
refused_spec refuses_specification = (λ is. is, λ is. is)

refused_blocks : {driver : List ℕ} {ending : Ending} → RefusesBlocks driver ending → IsRefusing ending
refused_blocks refuses_long_driver = (λ is. is, λ is. is)
refused_blocks refuses_bad_driver = (λ is. is, λ is. is)

refused_script : {choices : List ℕ} {ending : Ending} → RefusesScript choices ending → IsRefusing ending
refused_script refuses_long_choices = (λ is. is, λ is. is)
refused_script refuses_bad_choices = (λ is. is, λ is. is)

refused_cert : {cert : List ℕ} {ending : Ending} → RefusesCert cert ending → IsRefusing ending
refused_cert refuses_long_cert = (λ is. is, λ is. is)
refused_cert refuses_bad_cert = (λ is. is, λ is. is)

refused_struct : {struct : List ℕ} {ending : Ending} → RefusesStructured struct ending → IsRefusing ending
refused_struct refuses_long_struct = (λ is. is, λ is. is)
refused_struct refuses_bad_struct = (λ is. is, λ is. is)

refusing_spec : {contents : List ℕ → Option (List ℕ)} {spec : List ℕ} {ending : Ending} →
    NoSpecification contents spec ending → IsRefusing ending
refusing_spec (faulty_spec fault) = (λ is. is, λ is. is)

refusing_blocks : {contents : List ℕ → Option (List ℕ)} {driver : List ℕ} {d : DesignTree} {ending : Ending} →
    NoBlocks contents driver d ending → IsRefusing ending
refusing_blocks (long_driver long) = (λ is. is, λ is. is)
refusing_blocks (bad_driver bad) = (λ is. is, λ is. is)

refusing_cert : {contents : List ℕ → Option (List ℕ)} {cert : List ℕ} {d : DesignTree} {wanted : Kind}
    {ending : Ending} → NoCert contents cert d wanted ending → IsRefusing ending
refusing_cert (long_cert long) = (λ is. is, λ is. is)
refusing_cert (bad_cert bad) = (λ is. is, λ is. is)

refusing_driver : {contents : List ℕ → Option (List ℕ)} {spec driver cert : List ℕ} {ending : Ending} →
    NoDriver contents spec driver cert ending → IsRefusing ending
refusing_driver (no_design none) = refusing_spec none
refusing_driver (no_blocks design none) = refusing_blocks none
refusing_driver (no_cert design blocks none) = refusing_cert none

refusing_levels : {contents : List ℕ → Option (List ℕ)} {spec cert : List ℕ} {ending : Ending} →
    NoEnvironment contents spec cert ending → IsRefusing ending
refusing_levels (no_spec none) = refusing_spec none
refusing_levels (no_levels design none) = refusing_cert none

refusing_migration : {cert : List ℕ} {ending : Ending} → MigrateMayEnd cert ending → IsRefusing ending
refusing_migration (may_be_refused (refuses_spec refused)) = refused_spec refused
refusing_migration (may_be_refused (refuses_cert refused)) = refused_cert refused
refusing_migration may_migrate = (λ is. is, λ is. is)

refusing_structure : {driver : List ℕ} {ending : Ending} → StructureMayEnd driver ending → IsRefusing ending
refusing_structure (structs.may_be_refused (structs.refuses_spec refused)) = refused_spec refused
refusing_structure (structs.may_be_refused (refuses_driver refused)) = refused_blocks refused
refusing_structure structs.may_structure = (λ is. is, λ is. is)

refusing_unstructure : {struct : List ℕ} {ending : Ending} → UnstructureMayEnd struct ending → IsRefusing ending
refusing_unstructure (structs.may_not_be_read (structs.refuses_specification refused)) = refused_spec refused
refusing_unstructure (structs.may_not_be_read (refuses_struct refused)) = refused_struct refused
refusing_unstructure structs.may_unstructure = (λ is. is, λ is. is)

refusing_run : {driver choices : List ℕ} {ending : Ending} → RunMayEnd driver choices ending → IsRefusing ending
refusing_run (runs.may_refuse_design refused) = refused_spec refused
refusing_run (runs.may_refuse_blocks refused) = refused_blocks refused
refusing_run (runs.may_refuse_script refused) = refused_script refused
refusing_run runs.may_play = (λ is. is, λ is. is)

refusing_synthesis : {budget : Option ℕ} {ending : Ending} → SynthesiseMayEnd budget ending → IsRefusing ending
refusing_synthesis (may_not_be_specified refused) = refused_spec refused
refusing_synthesis (may_have_driver ranks trace nodes within) = (λ is. is, λ is. is)
refusing_synthesis (may_have_none levels many chain trace within) = (λ is. is, λ is. is)
refusing_synthesis (may_have_spent n trace given) = (λ is. is, λ is. is)

-- a driver is no environment
no_lost_driver : {driver cert : List ℕ} {ending : Ending} → CheckDriverMayEnd driver cert ending → IsLostEnd ending →
    ⊥
no_lost_driver (may_refuse_design refused) is = (refused_spec refused).1 is
no_lost_driver (may_refuse_blocks refused) is = (refused_blocks refused).1 is
no_lost_driver (may_refuse_cert refused) is = (refused_cert refused).1 is
no_lost_driver (may_judge_driver ranks verdicts.Accepted) is = is
no_lost_driver (may_judge_driver ranks (verdicts.Refused condition goal s)) is = is

no_good_levels : {cert : List ℕ} {ending : Ending} → CheckEnvironmentMayEnd cert ending → IsGoodEnd ending → ⊥
no_good_levels (may_refuse_spec refused) is = (refused_spec refused).0 is
no_good_levels (may_refuse_levels refused) is = (refused_cert refused).0 is
no_good_levels (may_judge_environment levels conditions chain verdicts.Accepted) is = is
no_good_levels (may_judge_environment levels conditions chain (verdicts.Refused condition goal s)) is = is

good_end : (ranks : List ℕ) (ending : Ending) → ending ≡ Accepted ranks → IsGoodEnd ending
good_end ranks ending is = subst IsGoodEnd (sym is) tt

lost_end : (levels conditions chain : ℕ) (ending : Ending) → ending ≡ AcceptedEnvironment levels conditions chain →
    IsLostEnd ending
lost_end levels conditions chain ending is = subst IsLostEnd (sym is) tt

-- ---- a driver
same_ranks : (one other : List ℕ) → Accepted one ≡ Accepted other → one ≡ other
same_ranks one other is = cc

module _ (contents : List ℕ → Option (List ℕ)) (spec driver cert : List ℕ) (ranks : List ℕ) where
  good_verdict : (d : DesignTree) (bs : List BlockTree) (c : DriverData) →
      TellsDriver contents spec driver cert d bs c → (v : Verdict) →
      IsDriverVerdict d (Answers bs) (driver_sets d c) v → driver_end (map length c.goals) v ≡ Accepted ranks →
      TellsGood contents spec driver ranks
  good_verdict d bs c tells verdicts.Accepted meets is =
      let good : Good d (Answers bs) ranks =
      subst (Good d (Answers bs)) (ranks_same d c ∙ same_ranks (map length c.goals) ranks is)
      (certified_blocks d bs (driver_sets d c) tells.design.is.sound.numbered tells.blocks.is.is.fits meets) in
      record {
        design = d;
        blocks = bs;
        specified = tells.design;
        told = tells.blocks;
        good = good;
        waits = waits_for_less_than_all d tells.design.is.sound.numbered (Answers bs) ranks good;
      }
  good_verdict d bs c tells (verdicts.Refused condition goal s) refused is = absurd (cc)

  -- a driver that is accepted is good
  good_told : (text : List ℕ) (ending : Ending) → CheckDriverEnds contents spec driver cert text ending →
      ending ≡ Accepted ranks → TellsGood contents spec driver ranks
  good_told text ending (unread_driver none) is = absurd ((refusing_driver none).0 (good_end ranks ending is))
  good_told _ _ (judged_driver {d = d} {bs = bs} {c = c} v tells verdict) is =
      good_verdict d bs c tells v verdict is

-- ---- the environment
same_numbers : (a b c d e f : ℕ) → AcceptedEnvironment a b c ≡ AcceptedEnvironment d e f →
    (a ≡ d) × (b ≡ e) × (c ≡ f)
same_numbers a b c d e f is = (cc, cc, cc)

module _ (contents : List ℕ → Option (List ℕ)) (spec cert : List ℕ) (levels many chain : ℕ) where
  lost_numbers : (d : DesignTree) (c : EnvData) → TellsEnvironment contents spec cert d c →
      MeetsEnvironment d (levels_of d c) →
      TellsLost contents spec (length (levels_of d c)) (length (conditions d)) (longest_chain (levels_of d c))
  lost_numbers d c tells meets =
      let within = certified_is_lost d (levels_of d c) meets in
      record {
        design = d;
        specified = tells.design;
        lost = λ n. ((within n).0, _, (within n).1, (within n).2);
        within = within;
      }

  lost_verdict : (d : DesignTree) (c : EnvData) → TellsEnvironment contents spec cert d c → (v : Verdict) →
      IsEnvironmentVerdict d (levels_of d c) v → end_on d c v ≡ AcceptedEnvironment levels many chain →
      TellsLost contents spec levels many chain
  lost_verdict d c tells verdicts.Accepted meets is =
      let numbers = same_numbers (length c.levels) (length (conditions d)) (longest_chain (levels_of d c)) levels many
      chain is in
      subst (λ (k : ℕ). TellsLost contents spec k many chain)
      (length-map c.levels (level_sets d c.order c.nodes) ∙ numbers.0)
      (subst (λ (m : ℕ). TellsLost contents spec (length (levels_of d c)) m chain) numbers.1
      (subst (λ (l : ℕ). TellsLost contents spec (length (levels_of d c)) (length (conditions d)) l) numbers.2
      (lost_numbers d c tells meets)))
  lost_verdict d c tells (verdicts.Refused condition goal s) refused is = absurd (cc)

  -- a design whose environment is accepted is lost
  lost_told : (text : List ℕ) (ending : Ending) → CheckEnvironmentEnds contents spec cert text ending →
      ending ≡ AcceptedEnvironment levels many chain → TellsLost contents spec levels many chain
  lost_told text ending (unread_environment none) is =
      absurd ((refusing_levels none).1 (lost_end levels many chain ending is))
  lost_told _ _ (judged_environment {d = d} {c = c} v tells verdict) is =
      lost_verdict d c tells v verdict is

-- ---- all commands
module _ (contents : List ℕ → Option (List ℕ)) where
  good_command : (command : Option Command) (ranks text : List ℕ) (ending : Ending) → MayEnd command ending →
      CommandEnds contents command text ending → ending ≡ Accepted ranks →
      (spec : List ℕ) × (driver : List ℕ) × (cert : List ℕ) × (command ≡ Some (check_driver spec driver cert))
      × TellsGood contents spec driver ranks
  good_command None ranks text ending may ends is = let none : Usage ≡ Accepted ranks = sym may ∙ is in absurd (cc)
  good_command (Some (run spec driver choices)) ranks text ending may ends is =
      absurd ((refusing_run may).0 (good_end ranks ending is))
  good_command (Some (synthesise spec out budget)) ranks text ending may ends is =
      absurd ((refusing_synthesis may).0 (good_end ranks ending is))
  good_command (Some (check_driver spec driver cert)) ranks text ending may ends is =
      (spec, driver, cert, refl, good_told contents spec driver cert ranks text ending ends is)
  good_command (Some (check_environment spec cert)) ranks text ending may ends is =
      absurd (no_good_levels may (good_end ranks ending is))
  good_command (Some (generate registers out)) ranks text ending may ends is =
      let none : Generated registers ≡ Accepted ranks = sym may ∙ is in absurd (cc)
  good_command (Some (migrate spec cert out)) ranks text ending may ends is =
      absurd ((refusing_migration may).0 (good_end ranks ending is))
  good_command (Some (structure spec driver out)) ranks text ending may ends is =
      absurd ((refusing_structure may).0 (good_end ranks ending is))
  good_command (Some (unstructure spec struct out)) ranks text ending may ends is =
      absurd ((refusing_unstructure may).0 (good_end ranks ending is))

  lost_command : (command : Option Command) (levels many chain : ℕ) (text : List ℕ) (ending : Ending) →
      MayEnd command ending → CommandEnds contents command text ending →
      ending ≡ AcceptedEnvironment levels many chain →
      (spec : List ℕ) × (cert : List ℕ) × (command ≡ Some (check_environment spec cert))
      × TellsLost contents spec levels many chain
  lost_command None levels many chain text ending may ends is =
      let none : Usage ≡ AcceptedEnvironment levels many chain = sym may ∙ is in absurd (cc)
  lost_command (Some (run spec driver choices)) levels many chain text ending may ends is =
      absurd ((refusing_run may).1 (lost_end levels many chain ending is))
  lost_command (Some (synthesise spec out budget)) levels many chain text ending may ends is =
      absurd ((refusing_synthesis may).1 (lost_end levels many chain ending is))
  lost_command (Some (check_driver spec driver cert)) levels many chain text ending may ends is =
      absurd (no_lost_driver may (lost_end levels many chain ending is))
  lost_command (Some (check_environment spec cert)) levels many chain text ending may ends is =
      (spec, cert, refl, lost_told contents spec cert levels many chain text ending ends is)
  lost_command (Some (generate registers out)) levels many chain text ending may ends is =
      let none : Generated registers ≡ AcceptedEnvironment levels many chain = sym may ∙ is in absurd (cc)
  lost_command (Some (migrate spec cert out)) levels many chain text ending may ends is =
      absurd ((refusing_migration may).1 (lost_end levels many chain ending is))
  lost_command (Some (structure spec driver out)) levels many chain text ending may ends is =
      absurd ((refusing_structure may).1 (lost_end levels many chain ending is))
  lost_command (Some (unstructure spec struct out)) levels many chain text ending may ends is =
      absurd ((refusing_unstructure may).1 (lost_end levels many chain ending is))

module _ (command : Option Command) (old : FilesData) where
  -- a driver that is accepted is good
  pub accepts_good : (outcome : Result Ending Failure) → HasCause old command outcome →
      IfOk outcome (MayEnd command) → AcceptsGood old command outcome
  accepts_good (Ok ending) cause may tells ranks is =
      let ends = cause (are_told old (read_names command) tells) in
      good_command old.contents command ranks ends.0 ending may ends.1 (let same : ending ≡ Accepted ranks = cc in same)
  accepts_good (Err failure) cause may tells ranks is = absurd (cc)

  -- a design whose environment is accepted is lost
  pub accepts_lost : (outcome : Result Ending Failure) → HasCause old command outcome →
      IfOk outcome (MayEnd command) → AcceptsLost old command outcome
  accepts_lost (Ok ending) cause may tells levels many chain is =
      let ends = cause (are_told old (read_names command) tells) in
      lost_command old.contents command levels many chain ends.0 ending may ends.1
      (let same : ending ≡ AcceptedEnvironment levels many chain = cc in same)
  accepts_lost (Err failure) cause may tells levels many chain is = absurd (cc)
