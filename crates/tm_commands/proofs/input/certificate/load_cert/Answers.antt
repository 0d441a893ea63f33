use Rattle.std.proofs.Common.{◌≡◌, rules}
use Rattle.tm_report.specs.declared.ending.Bad.TheVariants.{TooLong}
use Rattle.tm_report.specs.declared.ending.Ending.TheVariants.{BadText}
use Rattle.tm_commands.specs.Inputs.{NoCert, long_cert, RefusesCert, refuses_long_cert}
use Rattle.tm_commands.specs.World.{files_data}
use Rattle.tm_commands.specs.Inner.Stopping.{IsRefusal}
use Rattle.tm_commands.proofs.Loading.{refused_by}
use Rattle.tm_commands.proofs.Certifying.{cert_refuses, cert_told}
use Rattle.tm_commands.proofs.input.certificate.load_cert.Goals as goal

pub returns-in_default-clause-stopped : goal.returns-in_default-clause-stopped
returns-in_default-clause-stopped g c = λ d wanted shaped.
    let refusal : IsRefusal (NoCert (g.F.Files.contents c.args.files.now) c.args.cert.now d wanted)
    (RefusesCert c.args.cert.now) (files_data g.F.Files c.args.files.now)
    (files_data g.F.Files c.read_file.new.files) (BadText c.args.cert.now TooLong) =
    record {
      cause = λ told. long_cert (c.in_ok-text.ensures.long (cc) told);
      named = refuses_long_cert;
      long = record { specification = λ is. cc; file = λ name is. c.in_ok-text.ensures.taken (cc) };
    } in
    refused_by c.args.cert.now (BadText c.args.cert.now TooLong) c.bad_text.result refusal c.bad_text.ensures

pub returns-in-Ok-clause-told : goal.returns-in-Ok-clause-told
returns-in-Ok-clause-told g c = λ d wanted shaped.
    let same : c.deref.result.now ≡ c.in-Some.text.items = search rules in
    cert_told (files_data g.F.Files c.args.files.now) (files_data g.F.Files c.read_file.new.files) c.args.cert.now
    c.in-Some.text.items c.deref.result.now (rw c.in-Some.is at c.in_ok-text.ensures.whole)
    (rw c.in-Some.is at c.in_ok-text.ensures.within) same c.args.shape d wanted shaped c.in-Ok.cert c.in-Ok.ensures.ok

pub returns-clause-stopped : goal.returns-clause-stopped
returns-clause-stopped g c = λ d wanted shaped.
    let same : c.deref.result.now ≡ c.in-Some.text.items = search rules in
    cert_refuses (files_data g.F.Files c.args.files.now) (files_data g.F.Files c.read_file.new.files) c.args.cert.now
    c.in-Some.text.items c.deref.result.now (rw c.in-Some.is at c.in_ok-text.ensures.whole)
    (rw c.in-Some.is at c.in_ok-text.ensures.within) same c.args.shape d wanted shaped c.in-Err.error c.refusal.result
    c.in-Err.ensures.refused c.refusal.ensures

pub returns-in-Ok-clause-read : goal.returns-in-Ok-clause-read
returns-in-Ok-clause-read g c = (c.deref.result.now, c.in-Ok.ensures.ok)
