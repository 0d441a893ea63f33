-- The command `synth`: how it ends, what it puts on the way, and what it leaves in the files. Here d is the design that
-- SPEC tells, and `old` and `new` are the contents of the files before and after.
use Rattle.std.specs.Prelude.{◌≡◌, ℕ, ◌+◌, ◌*◌, Option, Some, List, [], ◌++◌, codes}
use Rattle.tm_cir.specs.Answer.{Answers}
use Rattle.tm_cir.specs.Tree.{BlockTree}
use Rattle.tm_refine.specs.Decided.{IsHonest, IsWithin}
use Rattle.tm_refine.specs.declared.trace.Trace.{Trace}
use Rattle.tm_report.specs.Report.{budget_text, driver_found_text, environment_found_text}
use Rattle.tm_report.specs.declared.ending.Ending.{Ending}
use Rattle.tm_report.specs.declared.ending.Ending.TheVariants.{Budget, Driver, Environment}
use Rattle.tm_sem.specs.Loss.{Beats, Lost}
use Rattle.tm_sem.specs.State.{StateData}
use Rattle.tm_sem.specs.Step.{IsInitial}
use Rattle.tm_sem.specs.Strategy.{Good}
use Rattle.tm_synth.specs.Found.{IsBudgetSpent, IsDriverFound, IsEnvironmentFound}
use Rattle.tm_syntax.specs.Design.{DesignTree}
use Rattle.tm_commands.specs.Inputs.{Tells, TellsSpecification, NoSpecification, RefusesSpecification}

-- ---- how it ends
-- a design is lost, in as many steps as these numbers of levels, of fairness conditions and of sets in the longest
-- chain tell
pub record IsLostBy (d : DesignTree) (levels many chain : ℕ) : Type 0 where
  pub lost : Lost d
  pub within : (n : ℕ) → (first : StateData) × IsInitial d first
      × Beats d (levels * (n * (many * chain) + 1)) [] first n

-- how it ends, with its lines: SPEC has a fault, or there is a good driver with these ranks, or the design is lost, or
-- the budget is spent; the trace of the predicates that were tracked is honest
pub data SynthesiseEnds (contents : List ℕ → Option (List ℕ)) (spec : List ℕ) (budget : Option ℕ) :
    List ℕ → Ending → Type 0 where
  not_specified : {ending : Ending} → NoSpecification contents spec ending →
      SynthesiseEnds contents spec budget [] ending
  has_driver : {d : DesignTree} {bs : List BlockTree} (ranks : List ℕ) (trace : Trace) (nodes : ℕ) →
      TellsSpecification contents spec d → Good d (Answers bs) ranks → IsHonest d trace →
      SynthesiseEnds contents spec budget (driver_found_text d ranks trace nodes) (Driver ranks trace nodes)
  has_none : {d : DesignTree} (levels many chain : ℕ) (trace : Trace) → TellsSpecification contents spec d →
      IsLostBy d levels many chain → IsHonest d trace →
      SynthesiseEnds contents spec budget (environment_found_text d levels many chain trace)
      (Environment levels many chain trace)
  has_spent : {d : DesignTree} (n : ℕ) (trace : Trace) → budget ≡ Some n → TellsSpecification contents spec d →
      IsBudgetSpent d budget trace →
      SynthesiseEnds contents spec budget (budget_text d n trace) (Budget n trace)

-- the ends that it may have, whatever SPEC holds; no more predicates are added than the budget allows
pub data SynthesiseMayEnd (budget : Option ℕ) : Ending → Type 0 where
  may_not_be_specified : {ending : Ending} → RefusesSpecification ending → SynthesiseMayEnd budget ending
  may_have_driver : (ranks : List ℕ) (trace : Trace) (nodes : ℕ) → IsWithin budget trace →
      SynthesiseMayEnd budget (Driver ranks trace nodes)
  may_have_none : (levels many chain : ℕ) (trace : Trace) → IsWithin budget trace →
      SynthesiseMayEnd budget (Environment levels many chain trace)
  may_have_spent : (n : ℕ) (trace : Trace) → budget ≡ Some n → SynthesiseMayEnd budget (Budget n trace)

-- two of its ends are alike: which of many drivers or certificates is found is left open, and so are their numbers and
-- which predicates were tracked, so that a budget may be spent by one way to track them and suffice by another
abbrev pub AreAlike : Ending → Ending → Type 0
AreAlike (Driver ranks trace nodes) (Driver other_ranks other_trace other_nodes) = Unit {0}
AreAlike (Environment levels many chain trace) (Environment other_levels other_many other_chain other_trace) = Unit {0}
AreAlike (Budget n trace) (Budget other other_trace) = n ≡ other
AreAlike (Budget n trace) (Driver ranks other_trace nodes) = Unit {0}
AreAlike (Budget n trace) (Environment levels many chain other_trace) = Unit {0}
AreAlike (Driver ranks trace nodes) (Budget n other_trace) = Unit {0}
AreAlike (Environment levels many chain trace) (Budget n other_trace) = Unit {0}
AreAlike one other = one ≡ other

-- ---- what it leaves in the files
-- the name of the file of the C text
abbrev pub driver_name : List ℕ → List ℕ
driver_name out = out ++ codes ".c"

-- the name of the file of the certificate
abbrev pub cert_name : List ℕ → List ℕ
cert_name out = out ++ codes ".cert"

-- the files hold a driver and its certificate: OUT.c is blocks, OUT.cert is a certificate of theirs, whose sets are
-- unions of cells of the predicates that were tracked, and the blocks are a good driver with these ranks
pub record HoldsDriver (old new : List ℕ → Option (List ℕ)) (spec out : List ℕ) (ranks : List ℕ) (trace : Trace)
    (nodes : ℕ) : Type 0 where
  pub design : DesignTree
  pub driver : List ℕ
  pub cert : List ℕ
  pub specified : TellsSpecification old spec design
  pub driver_told : Tells new (driver_name out) driver
  pub cert_told : Tells new (cert_name out) cert
  pub found : IsDriverFound design driver cert ranks nodes trace

-- OUT.cert is a certificate of the environment, whose sets are unions of cells of the predicates that were tracked, and
-- OUT.c is as it was
pub record HoldsEnvironment (old new : List ℕ → Option (List ℕ)) (spec out : List ℕ) (levels many chain : ℕ)
    (trace : Trace) : Type 0 where
  pub design : DesignTree
  pub cert : List ℕ
  pub specified : TellsSpecification old spec design
  pub cert_told : Tells new (cert_name out) cert
  pub found : IsEnvironmentFound design cert levels many chain trace
  pub no_driver : new (driver_name out) ≡ old (driver_name out)

-- what its ends leave in the files; all is as it was where SPEC has a fault, and where the budget is spent
abbrev pub SynthesiseLeaves : (old new : List ℕ → Option (List ℕ)) → (spec out : List ℕ) → Ending → Type 0
SynthesiseLeaves old new spec out (Driver ranks trace nodes) = HoldsDriver old new spec out ranks trace nodes
SynthesiseLeaves old new spec out (Environment levels many chain trace) =
    HoldsEnvironment old new spec out levels many chain trace
SynthesiseLeaves old new spec out _ = new ≡ old

-- what a failed write leaves in the other file: OUT.c is written first, so where it is not, OUT.cert is as it was;
-- where OUT.cert is not written, OUT.c is a driver whole, or as it was where there is none
pub data SynthesiseBreaksOff (old new : List ℕ → Option (List ℕ)) (spec out name : List ℕ) : Type 0 where
  driver_unwritten : name ≡ driver_name out → new (cert_name out) ≡ old (cert_name out) →
      SynthesiseBreaksOff old new spec out name
  cert_unwritten : {d : DesignTree} {driver cert : List ℕ} (ranks : List ℕ) (trace : Trace) (nodes : ℕ) →
      name ≡ cert_name out → TellsSpecification old spec d → Tells new (driver_name out) driver →
      IsDriverFound d driver cert ranks nodes trace → SynthesiseBreaksOff old new spec out name
  loss_unwritten : {d : DesignTree} → name ≡ cert_name out → TellsSpecification old spec d → Lost d →
      new (driver_name out) ≡ old (driver_name out) → SynthesiseBreaksOff old new spec out name
