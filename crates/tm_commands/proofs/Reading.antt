-- A certificate that is read is of the wanted kind, and fits the design.
use Rattle.std.proofs.Common.{◌≡◌, ℕ, List, length, sym, ap, ◌∙◌, subst, true≢false}
use Rattle.std.specs.Prelude.{sum}
use Rattle.tm_cert.specs.declared.cert.Cert.TheVariants as certs
use Rattle.tm_cert.specs.declared.head.Side.TheVariants as sides
use Rattle.tm_cert.specs.declared.shape.CertShape.{CertShape}
use Rattle.tm_cert.specs.declared.shape.Kind.{Kind}
use Rattle.tm_cert.specs.declared.shape.Kind.TheVariants.{Driver, Environment}
use Rattle.tm_cert.specs.Cert.{DriverData, EnvData}
use Rattle.tm_cert.specs.CertValue.{IsCertText}
use Rattle.tm_cert.specs.Judge.{wants}
use Rattle.tm_sem.specs.Fairness.{conditions}
use Rattle.tm_sem.specs.StateBits.{state_widths}
use Rattle.tm_verdict.specs.Fitting.{FitsDriver, FitsEnvironment}
use Rattle.tm_verdict.proofs.Read.{read_drivers_fit, read_environments_fit}
use Rattle.tm_judge.specs.Shape.{shape_of}
use Rattle.tm_syntax.specs.Design.{DesignTree}

module _ (d : DesignTree) (shape : CertShape) (text : List ℕ) where
  -- where a driver's is wanted none of the environment is read
  pub no_levels_read : (c : EnvData) → shape ≡ shape_of d Driver → IsCertText shape text (certs.Environment c) → ⊥
  no_levels_read c shaped is =
      let wanted : wants shape.wanted sides.Environment ≡ wants Driver sides.Environment =
      ap (λ (s : CertShape). wants s.wanted sides.Environment) shaped in
      true≢false (sym is.1.2.3.head.is_wanted ∙ wanted)

  -- and the other way round
  pub no_driver_read : (c : DriverData) → shape ≡ shape_of d Environment → IsCertText shape text (certs.Driver c) → ⊥
  no_driver_read c shaped is =
      let wanted : wants shape.wanted sides.Driver ≡ wants Environment sides.Driver =
      ap (λ (s : CertShape). wants s.wanted sides.Driver) shaped in
      true≢false (sym is.1.2.3.head.is_wanted ∙ wanted)

  pub driver_fits : (c : DriverData) (wanted : Kind) → shape ≡ shape_of d wanted →
      IsCertText shape text (certs.Driver c) →
      FitsDriver (sum (state_widths d)) (length d.goals) (length (conditions d)) c
  driver_fits c wanted shaped is =
      subst (λ (s : CertShape). FitsDriver s.bits s.goals s.fairs c) shaped (read_drivers_fit shape text c is)

  pub levels_fit : (c : EnvData) (wanted : Kind) → shape ≡ shape_of d wanted →
      IsCertText shape text (certs.Environment c) →
      FitsEnvironment (sum (state_widths d)) (length d.goals) (length (conditions d)) c
  levels_fit c wanted shaped is =
      subst (λ (s : CertShape). FitsEnvironment s.bits s.goals s.fairs c) shaped
      (read_environments_fit shape text c is)
