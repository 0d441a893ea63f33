use Rattle.std.proofs.Common.{◌≡◌, ◌++◌, ℕ, List, Some, ◌∙◌, subst}
use Rattle.std.specs.Prelude.{IfErr, IsTrue, OnOk}
use Rattle.tm_commands.specs.Inner.Stopping.{IsWriteFailure}
use Rattle.tm_commands.specs.World.{OnlyWrites, files_data}
use Rattle.tm_commands.proofs.Synthesising.{writes_none}
use Rattle.tm_commands.proofs.commands.synthesise.write_with.Goals as goal

pub returns-in_default-clause-files : goal.returns-in_default-clause-files
returns-in_default-clause-files g c =
    writes_none (c.args.name.now ++ c.args.ending.now) (files_data g.F.Files c.args.files.now)

pub returns-clause-written : goal.returns-clause-written
returns-clause-written g c =
    subst (λ (n : List ℕ). OnOk c.write_file.result (IsTrue g.F.Files.tells →
    g.F.Files.contents c.write_file.new.files n ≡ Some c.args.bytes.now))
    (c.as_str.ensures.value ∙ c.in-Ok.ensures) c.write_file.ensures.written

pub returns-clause-failure : goal.returns-clause-failure
returns-clause-failure g c =
    subst (λ (n : List ℕ). IfErr c.write_file.result (IsWriteFailure n (files_data g.F.Files c.args.files.now)
    (files_data g.F.Files c.write_file.new.files)))
    (c.as_str.ensures.value ∙ c.in-Ok.ensures) c.write_file.ensures.failure

pub returns-clause-files : goal.returns-clause-files
returns-clause-files g c =
    subst (λ (n : List ℕ). OnlyWrites n (files_data g.F.Files c.args.files.now)
    (files_data g.F.Files c.write_file.new.files)) (c.as_str.ensures.value ∙ c.in-Ok.ensures) c.write_file.ensures.files
