use Rattle.std.proofs.Common.{◌≡◌, ℕ, List, Some, ap, ◌∙◌, subst}
use Rattle.std.specs.Prelude.{IsTrue, OnOk}
use Rattle.std.proofs.lemmas.Result.{IfErr-weaker}
use Rattle.tm_commands.specs.Synthesise.{cert_name}
use Rattle.tm_commands.specs.World.{files_data}
use Rattle.tm_commands.proofs.Synthesising.{driver_stays, no_cert_written, no_driver_written, on_ok, touches_cert}
use Rattle.tm_commands.proofs.Synthesising.{touches_driver, touches_then}
use Rattle.tm_commands.proofs.commands.synthesise.write_driver.Goals as goal

pub returns-in-Ok-clause-driver : goal.returns-in-Ok-clause-driver
returns-in-Ok-clause-driver g c =
    on_ok c.write_with-in-Ok.result
    (driver_stays c.args.name.now c.args.made.now.driver.items g.F.Files c.args.files.now c.write_with.new.files
    c.write_with-in-Ok.new.files c.write_with-in-Ok.ensures.files
    (λ tells. c.in-Ok.ensures.written tells ∙ ap Some c.deref.ensures.value))

pub returns-in-Ok-clause-cert : goal.returns-in-Ok-clause-cert
returns-in-Ok-clause-cert g c =
    subst (λ (bytes : List ℕ). OnOk c.write_with-in-Ok.result (IsTrue g.F.Files.tells →
    g.F.Files.contents c.write_with-in-Ok.new.files (cert_name c.args.name.now) ≡ Some bytes))
    c.deref-in-Ok.ensures.value c.write_with-in-Ok.ensures.written

pub returns-in-Ok-clause-failure : goal.returns-in-Ok-clause-failure
returns-in-Ok-clause-failure g c =
    IfErr-weaker c.write_with-in-Ok.result _ _
    (λ failure failed. no_cert_written c.args.name.now c.args.made.now.driver.items g.F.Files c.args.files.now
    c.write_with.new.files c.write_with-in-Ok.new.files failure c.write_with.ensures.files
    c.write_with-in-Ok.ensures.files (λ tells. c.in-Ok.ensures.written tells ∙ ap Some c.deref.ensures.value) failed)
    c.write_with-in-Ok.ensures.failure

pub returns-in-Ok-clause-files : goal.returns-in-Ok-clause-files
returns-in-Ok-clause-files g c =
    touches_then
    (touches_driver c.args.name.now (files_data g.F.Files c.args.files.now)
    (files_data g.F.Files c.write_with.new.files) c.write_with.ensures.files)
    (touches_cert c.args.name.now (files_data g.F.Files c.write_with.new.files)
    (files_data g.F.Files c.write_with-in-Ok.new.files) c.write_with-in-Ok.ensures.files)

pub returns-in-Err-clause-failure : goal.returns-in-Err-clause-failure
returns-in-Err-clause-failure g c =
    no_driver_written c.args.name.now c.args.made.now.driver.items g.F.Files c.args.files.now c.write_with.new.files
    c.write_with.new.files c.in-Err.unwritten c.write_with.ensures.files c.in-Err.ensures.failure

pub returns-in-Err-clause-files : goal.returns-in-Err-clause-files
returns-in-Err-clause-files g c =
    touches_driver c.args.name.now (files_data g.F.Files c.args.files.now) (files_data g.F.Files c.write_with.new.files)
    c.write_with.ensures.files
