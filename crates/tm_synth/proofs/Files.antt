-- What is found of a design, from what was made of an accepted certificate.
use Rattle.std.proofs.Common.{◌≡◌, ℕ, ◌+◌, ◌*◌, List, [], length, map, refl, sym, ◌∙◌, subst}
use Rattle.std.specs.Prelude.{sum}
use Rattle.std.proofs.lemmas.List.{length-map}
use Rattle.serde_json.specs.Data.{Data}
use Rattle.tm_agreement.specs.Agreement.{DriversAgree, LevelAgrees, LevelsAgree}
use Rattle.tm_agreement.proofs.Agreeing.{zip_length}
use Rattle.tm_agreement.proofs.DriversAgreeing as drivers
use Rattle.tm_agreement.proofs.LevelsAgreeing as level_laws
use Rattle.tm_cert.specs.Cert.{DriverData, EnvData}
use Rattle.tm_cert.specs.CertValue.{IsCert, IsCertText}
use Rattle.tm_cert.specs.Written.{driver_data, environment_data}
use Rattle.tm_cert.specs.declared.cert.Cert.TheVariants as certs
use Rattle.tm_cert.specs.declared.shape.CertShape.{CertShape}
use Rattle.tm_cert.specs.declared.shape.Kind.TheVariants as kinds
use Rattle.tm_cir.specs.Answer.{Answers}
use Rattle.tm_cir.specs.Text.{IsDriverText}
use Rattle.tm_cir.specs.Tree.{BlockTree}
use Rattle.tm_flat_pool.specs.Predicates.{pool}
use Rattle.tm_game_bits.proofs.Orders.{length_order}
use Rattle.tm_game_pool.specs.Separating.{predicates_at}
use Rattle.tm_judge.specs.Judged.{CanJudgeDriver, CanJudgeEnvironment}
use Rattle.tm_judge.specs.Shape.{shape_of}
use Rattle.tm_refine.specs.Decided.{numbers_of}
use Rattle.tm_refine.specs.declared.trace.Trace.{Trace}
use Rattle.tm_sem.specs.Certificates.{DriverSets, Level, longest_chain}
use Rattle.tm_sem.specs.Fairness.{conditions}
use Rattle.tm_sem.specs.Loss.{Beats}
use Rattle.tm_sem.specs.State.{StateData}
use Rattle.tm_sem.specs.StateBits.{state_widths}
use Rattle.tm_sem.specs.Step.{IsInitial}
use Rattle.tm_sem.specs.Strategy.{Good}
use Rattle.tm_syntax.specs.Design.{DesignTree}
use Rattle.tm_verdict.specs.Regular.{IsRegular}
use Rattle.tm_verdict.specs.Sets.{driver_sets, level_sets, levels_of}
use Rattle.tm_synth.specs.Found.{IsDriverFound, IsEnvironmentFound}
use Rattle.tm_synth.specs.Shown.{IsDriverShown, IsEnvironmentShown, IsWeightOrder}
use Rattle.tm_synth.specs.Traced.{TracesDriver, TracesLevels}
use Rattle.tm_synth.specs.Written.{IsWrittenDriver, IsWrittenLoss}
use Rattle.tm_synth.proofs.Agreed.{chains_agree, driver_unions, level_unions}
use Rattle.tm_synth.proofs.Certificates.{driver_is, environment_is}

-- ---- the text of a certificate that was put into the weight order
module _ (d : DesignTree) (weight : List ℕ) (is : IsWeightOrder d weight) (bits : ℕ) (many : bits ≡ length weight) where
  bits_are : sum (state_widths d) ≡ bits
  bits_are = sym (many ∙ length_order (sum (state_widths d)) weight is.order)

  pub driver_written : (bs : List BlockTree) (c moved : DriverData) (cert : List ℕ) (nodes : ℕ) →
      moved.order ≡ weight → DriversAgree d (driver_sets d moved) (driver_sets d c) →
      map length moved.goals ≡ map length c.goals →
      CanJudgeDriver d bs moved →
      ((shape : CertShape) (value : Data) → shape.bits ≡ bits → IsCert shape value (certs.Driver moved) →
      IsCertText shape cert (certs.Driver moved)) → nodes ≡ length moved.nodes → IsWrittenDriver d c cert nodes
  driver_written bs c moved cert nodes order sets lengths can written nodes_are = record {
    certificate = moved;
    certifies = written (shape_of d kinds.Driver) (driver_data (shape_of d kinds.Driver).bits moved) bits_are
        (driver_is (shape_of d kinds.Driver) moved refl can.cert);
    order = order ∙ is.is;
    sets = sets;
    ranks = lengths;
    nodes_are = nodes_are;
  }

  pub loss_written : (c moved : EnvData) (cert : List ℕ) → moved.order ≡ weight →
      LevelsAgree d (levels_of d moved) (levels_of d c) →
      CanJudgeEnvironment d moved →
      ((shape : CertShape) (value : Data) → shape.bits ≡ bits → IsCert shape value (certs.Environment moved) →
      IsCertText shape cert (certs.Environment moved)) → IsWrittenLoss d c cert
  loss_written c moved cert order sets can written = record {
    certificate = moved;
    certifies = written (shape_of d kinds.Environment) (environment_data (shape_of d kinds.Environment).bits moved)
        bits_are (environment_is (shape_of d kinds.Environment) moved refl can.cert);
    order = order ∙ is.is;
    sets = sets;
  }

-- ---- what is found
-- a driver
pub driver_found : (d : DesignTree) (bs : List BlockTree) (c : DriverData) (driver cert ranks : List ℕ) (nodes : ℕ) →
    IsRegular d → IsDriverShown d bs c → IsDriverText d driver bs →
    ((cs : List BlockTree) → IsDriverText d driver cs → cs ≡ bs) →
    IsWrittenDriver d c cert nodes → ranks ≡ map length c.goals → (trace : Trace) →
    TracesDriver d trace (driver_sets d c) → IsDriverFound d driver cert ranks nodes trace
driver_found d bs c driver cert ranks nodes regular shown reads only written ranks_are trace traced = record {
  blocks = bs;
  certificate = written.certificate;
  reads_so = reads;
  reads_only_so = only;
  certifies = written.certifies;
  order = written.order;
  meets = drivers.meets d regular.steady (Answers bs) (driver_sets d c) (driver_sets d written.certificate)
      (drivers.flipped d (driver_sets d written.certificate) (driver_sets d c) written.sets) shown.meets;
  ranks_are = ranks_are ∙ sym written.ranks;
  nodes_are = written.nodes_are;
  good = subst (λ (rs : List ℕ). Good d (Answers bs) rs) (sym ranks_are) shown.good;
  honest = traced.honest;
  unions = driver_unions d (predicates_at (pool d) (numbers_of trace)) (driver_sets d c)
      (driver_sets d written.certificate)
      (drivers.flipped d (driver_sets d written.certificate) (driver_sets d c) written.sets) traced.unions;
}

-- a driver's trace speaks of sets, and so of equal ones
pub driver_traced : (d : DesignTree) (trace : Trace) (x y : DriverSets) → x ≡ y → TracesDriver d trace y →
    TracesDriver d trace x
driver_traced d trace x y same traced = subst (λ (s : DriverSets). TracesDriver d trace s) (sym same) traced

-- the environment
module _ (d : DesignTree) (c : EnvData) (shown : IsEnvironmentShown d c) where
  steps : (l m k : ℕ) → Type 0
  steps l m k = (n : ℕ) → (first : StateData) × IsInitial d first
      × Beats d (l * (n * (m * k) + 1)) [] first n

  pub loss_found : (cert : List ℕ) (levels fairs chain : ℕ) → IsWrittenLoss d c cert → levels ≡ length c.levels →
      fairs ≡ length (conditions d) → chain ≡ longest_chain (levels_of d c) → (trace : Trace) →
      TracesLevels d trace (levels_of d c) → IsEnvironmentFound d cert levels fairs chain trace
  unfolding steps
  loss_found cert levels fairs chain written levels_are fairs_are chain_is trace traced =
      record {
        certificate = written.certificate;
        certifies = written.certifies;
        order = written.order;
        meets = level_laws.meets d (levels_of d c) (levels_of d written.certificate) back shown.meets;
        levels_are = levels_are ∙ sym (length-map c.levels (level_sets d c.order c.nodes))
            ∙ zip_length (LevelAgrees d) (levels_of d c) (levels_of d written.certificate) back
            ∙ length-map written.certificate.levels
            (level_sets d written.certificate.order written.certificate.nodes);
        many_are = fairs_are;
        chain_is = chain_is ∙ chains_agree d (levels_of d c) (levels_of d written.certificate) back;
        lost = shown.lost;
        within = within;
        honest = traced.honest;
        unions = level_unions d (predicates_at (pool d) (numbers_of trace)) (levels_of d c)
            (levels_of d written.certificate) back traced.unions;
      }
    where
      back : LevelsAgree d (levels_of d c) (levels_of d written.certificate)
      back = level_laws.flipped d (levels_of d written.certificate) (levels_of d c) written.sets

      within : steps levels fairs chain
      within =
          subst (λ (k : ℕ). steps levels fairs k) (sym chain_is)
          (subst (λ (m : ℕ). steps levels m (longest_chain (levels_of d c))) (sym fairs_are)
          (subst (λ (l : ℕ). steps l (length (conditions d)) (longest_chain (levels_of d c)))
          (length-map c.levels (level_sets d c.order c.nodes) ∙ sym levels_are) shown.within))

pub levels_traced : (d : DesignTree) (trace : Trace) (x y : List Level) → x ≡ y → TracesLevels d trace y →
    TracesLevels d trace x
levels_traced d trace x y same traced = subst (λ (s : List Level). TracesLevels d trace s) (sym same) traced
