-- What is known of the text of a certificate, which is in the weight order. Here d is the design, and c the certificate
-- before it was put into that order.
use Rattle.std.specs.Prelude.{◌≡◌, ℕ, List, length, map}
use Rattle.tm_agreement.specs.Agreement.{DriversAgree, LevelsAgree}
use Rattle.tm_cert.specs.Cert.{DriverData, EnvData}
use Rattle.tm_cert.specs.CertValue.{IsCertText}
use Rattle.tm_cert.specs.declared.cert.Cert.TheVariants as certs
use Rattle.tm_cert.specs.declared.shape.Kind.TheVariants as kinds
use Rattle.tm_judge.specs.Shape.{shape_of}
use Rattle.tm_sem.specs.StateBits.{state_widths, weight_order}
use Rattle.tm_syntax.specs.Design.{DesignTree}
use Rattle.tm_verdict.specs.Sets.{driver_sets, levels_of}

-- the text is that of a driver's certificate, which has so many nodes, of sets that hold the same valid states
pub record IsWrittenDriver (d : DesignTree) (c : DriverData) (text : List ℕ) (nodes : ℕ) : Type 0 where
  pub certificate : DriverData
  pub certifies : IsCertText (shape_of d kinds.Driver) text (certs.Driver certificate)
  pub order : certificate.order ≡ weight_order (state_widths d)
  pub sets : DriversAgree d (driver_sets d certificate) (driver_sets d c)
  pub ranks : map length certificate.goals ≡ map length c.goals
  pub nodes_are : nodes ≡ length certificate.nodes

-- the text is that of an environment's certificate of sets that hold the same valid states
pub record IsWrittenLoss (d : DesignTree) (c : EnvData) (text : List ℕ) : Type 0 where
  pub certificate : EnvData
  pub certifies : IsCertText (shape_of d kinds.Environment) text (certs.Environment certificate)
  pub order : certificate.order ≡ weight_order (state_widths d)
  pub sets : LevelsAgree d (levels_of d certificate) (levels_of d c)
