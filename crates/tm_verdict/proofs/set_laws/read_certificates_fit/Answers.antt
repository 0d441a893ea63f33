use Rattle.tm_verdict.proofs.Read.{read_drivers_fit, read_environments_fit}
use Rattle.tm_verdict.proofs.set_laws.read_certificates_fit.Goals as goal

pub returns : goal.returns
returns c = record { driver = read_drivers_fit; environment = read_environments_fit }
