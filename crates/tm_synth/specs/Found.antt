-- What synthesis finds of a design, in words of the texts that it makes. Here d is the design, `driver` is the C text
-- of a driver, `cert` the text of a certificate, and `trace` the predicates that were tracked.
use Rattle.std.specs.Prelude.{◌≡◌, ℕ, ◌+◌, ◌*◌, List, [], length, map, Option}
use Rattle.tm_cert.specs.Cert.{DriverData, EnvData}
use Rattle.tm_cert.specs.CertValue.{IsCertText}
use Rattle.tm_cert.specs.declared.cert.Cert.TheVariants as certs
use Rattle.tm_cert.specs.declared.shape.Kind.TheVariants as kinds
use Rattle.tm_cir.specs.Answer.{Answers}
use Rattle.tm_cir.specs.Text.{IsDriverText}
use Rattle.tm_cir.specs.Tree.{BlockTree}
use Rattle.tm_flat_pool.specs.Cells.{AreDriverUnions, AreLevelUnions}
use Rattle.tm_flat_pool.specs.Predicates.{pool}
use Rattle.tm_game_pool.specs.Separating.{predicates_at}
use Rattle.tm_refine.specs.Decided.{IsHonest, IsSpent, IsWithin, numbers_of}
use Rattle.tm_refine.specs.declared.trace.Trace.{Trace}
use Rattle.tm_sem.specs.Certificates.{MeetsDriver, MeetsEnvironment, longest_chain}
use Rattle.tm_sem.specs.Fairness.{conditions}
use Rattle.tm_sem.specs.Loss.{Beats, Lost}
use Rattle.tm_sem.specs.State.{StateData}
use Rattle.tm_sem.specs.StateBits.{state_widths, weight_order}
use Rattle.tm_sem.specs.Step.{IsInitial}
use Rattle.tm_sem.specs.Strategy.{Good}
use Rattle.tm_verdict.specs.Sets.{driver_sets, levels_of}
use Rattle.tm_judge.specs.Shape.{shape_of}
use Rattle.tm_syntax.specs.Design.{DesignTree}
use Rattle.tm_synth.specs.declared.found.Synthesis.{Synthesis}
use Rattle.tm_synth.specs.declared.found.Synthesis.TheVariants.{Driver, Environment, Spent}

-- the texts are blocks and a certificate of theirs, in the weight order, and the blocks are a good driver with these
-- ranks; the certificate has so many nodes, and its sets are unions of cells of the predicates that an honest trace
-- tracks at its end
pub record IsDriverFound (d : DesignTree) (driver cert : List ℕ) (ranks : List ℕ) (nodes : ℕ) (trace : Trace) :
    Type 0 where
  pub blocks : List BlockTree
  pub certificate : DriverData
  pub reads_so : IsDriverText d driver blocks
  pub reads_only_so : (bs : List BlockTree) → IsDriverText d driver bs → bs ≡ blocks
  pub certifies : IsCertText (shape_of d kinds.Driver) cert (certs.Driver certificate)
  pub order : certificate.order ≡ weight_order (state_widths d)
  pub meets : MeetsDriver d (Answers blocks) (driver_sets d certificate)
  pub ranks_are : ranks ≡ map length certificate.goals
  pub nodes_are : nodes ≡ length certificate.nodes
  pub good : Good d (Answers blocks) ranks
  pub honest : IsHonest d trace
  pub unions : AreDriverUnions d (predicates_at (pool d) (numbers_of trace)) (driver_sets d certificate)

-- the text is a certificate of the environment, in the weight order, with these numbers of levels, of fairness
-- conditions and of sets in the longest chain, and the design is lost in as many steps as these tell; its sets are
-- unions of cells of the predicates that an honest trace tracks at its end
pub record IsEnvironmentFound (d : DesignTree) (cert : List ℕ) (levels many chain : ℕ) (trace : Trace) : Type 0 where
  pub certificate : EnvData
  pub certifies : IsCertText (shape_of d kinds.Environment) cert (certs.Environment certificate)
  pub order : certificate.order ≡ weight_order (state_widths d)
  pub meets : MeetsEnvironment d (levels_of d certificate)
  pub levels_are : levels ≡ length certificate.levels
  pub many_are : many ≡ length (conditions d)
  pub chain_is : chain ≡ longest_chain (levels_of d certificate)
  pub lost : Lost d
  pub within : (n : ℕ) → (first : StateData) × IsInitial d first
      × Beats d (levels * (n * (many * chain) + 1)) [] first n
  pub honest : IsHonest d trace
  pub unions : AreLevelUnions d (predicates_at (pool d) (numbers_of trace)) (levels_of d certificate)

-- as many predicates were added as the budget allows, for the reasons that an honest trace tells, and no certificate
-- has sets that are unions of cells of those that it tracks at its end
pub record IsBudgetSpent (d : DesignTree) (budget : Option ℕ) (trace : Trace) : Type 0 where
  pub honest : IsHonest d trace
  pub spent : IsSpent d budget trace

-- what is found of a design within a budget: a driver, that there is none, or neither
abbrev pub IsFound : DesignTree → Option ℕ → Synthesis → Type 0
IsFound d budget (Driver f) = IsDriverFound d f.driver.items f.cert.items f.ranks.items f.nodes f.trace
IsFound d budget (Environment f) = IsEnvironmentFound d f.cert.items f.levels f.conditions f.chain f.trace
IsFound d budget (Spent trace) = IsBudgetSpent d budget trace

-- no more predicates were added than the budget allows, whatever is found
abbrev pub KeepsTo : Option ℕ → Synthesis → Type 0
KeepsTo budget (Driver f) = IsWithin budget f.trace
KeepsTo budget (Environment f) = IsWithin budget f.trace
KeepsTo budget (Spent trace) = IsWithin budget trace
