-- The commands: what each reads and writes, how it ends, what it puts on the way, and what its end leaves in the files.
use Rattle.std.specs.Prelude.{◌≡◌, ◌⊎◌, ℕ, Option, None, Some, List, [], ◌∷◌}
use Rattle.tm_gen.specs.Generated.{generated_text}
use Rattle.tm_report.specs.declared.ending.Ending.{Ending}
use Rattle.tm_report.specs.declared.ending.Ending.TheVariants.{Usage, Generated}
use Rattle.tm_commands.specs.Words.{Command, run, synthesise, check_driver, check_environment, generate, migrate}
use Rattle.tm_commands.specs.Words.{structure, unstructure}
use Rattle.tm_commands.specs.Check.{CheckDriverEnds, CheckDriverMayEnd, CheckEnvironmentEnds, CheckEnvironmentMayEnd}
use Rattle.tm_commands.specs.Inputs.{Tells}
use Rattle.tm_commands.specs.Run.{RunEnds, IsRunPart, RunMayEnd}
use Rattle.tm_commands.specs.Migrate.{MigrateEnds, MigrateLeaves, MigrateMayEnd}
use Rattle.tm_commands.specs.Structure.{StructureEnds, StructureLeaves, StructureMayEnd}
use Rattle.tm_commands.specs.Structure.{AreAlikeBlocks, UnstructureEnds, UnstructureLeaves, UnstructureMayEnd}
use Rattle.tm_commands.specs.Synthesise.{AreAlike, SynthesiseEnds, SynthesiseMayEnd, SynthesiseLeaves}
use Rattle.tm_commands.specs.Synthesise.{SynthesiseBreaksOff, driver_name, cert_name}

-- the files that a command reads, by name; words without a reading read none
abbrev pub read_names : Option Command → List (List ℕ)
read_names None = []
read_names (Some (run spec driver choices)) = spec ∷ driver ∷ choices ∷ []
read_names (Some (synthesise spec out budget)) = spec ∷ []
read_names (Some (check_driver spec driver cert)) = spec ∷ driver ∷ cert ∷ []
read_names (Some (check_environment spec cert)) = spec ∷ cert ∷ []
read_names (Some (generate registers out)) = []
read_names (Some (migrate spec cert out)) = spec ∷ cert ∷ []
read_names (Some (structure spec driver out)) = spec ∷ driver ∷ []
read_names (Some (unstructure spec struct out)) = spec ∷ struct ∷ []

-- the files that a command writes, by name
abbrev pub write_names : Option Command → List (List ℕ)
write_names None = []
write_names (Some (run spec driver choices)) = []
write_names (Some (synthesise spec out budget)) = driver_name out ∷ cert_name out ∷ []
write_names (Some (check_driver spec driver cert)) = []
write_names (Some (check_environment spec cert)) = []
write_names (Some (generate registers out)) = out ∷ []
write_names (Some (migrate spec cert out)) = out ∷ []
write_names (Some (structure spec driver out)) = out ∷ []
write_names (Some (unstructure spec struct out)) = out ∷ []

-- how a command ends over contents, with the lines that it puts before it tells so; words without a reading end with
-- the usage
abbrev pub CommandEnds : (List ℕ → Option (List ℕ)) → Option Command → List ℕ → Ending → Type 0
CommandEnds contents None text ending = (text ≡ []) × (ending ≡ Usage)
CommandEnds contents (Some (run spec driver choices)) text ending = RunEnds contents spec driver choices text ending
CommandEnds contents (Some (synthesise spec out budget)) text ending = SynthesiseEnds contents spec budget text ending
CommandEnds contents (Some (check_driver spec driver cert)) text ending =
    CheckDriverEnds contents spec driver cert text ending
CommandEnds contents (Some (check_environment spec cert)) text ending =
    CheckEnvironmentEnds contents spec cert text ending
CommandEnds contents (Some (generate registers out)) text ending = (text ≡ []) × (ending ≡ Generated registers)
CommandEnds contents (Some (migrate spec cert out)) text ending =
    (text ≡ []) × MigrateEnds contents spec cert ending
CommandEnds contents (Some (structure spec driver out)) text ending =
    (text ≡ []) × StructureEnds contents spec driver ending
CommandEnds contents (Some (unstructure spec struct out)) text ending =
    (text ≡ []) × UnstructureEnds contents spec struct ending

-- an end that a command has is the one that is answered; of `synth` and `unstructure` it is alike
abbrev pub IsAnswered : Option Command → (answered ending : Ending) → Type 0
IsAnswered (Some (synthesise spec out budget)) answered ending = AreAlike answered ending
IsAnswered (Some (unstructure spec struct out)) answered ending = AreAlikeBlocks answered ending
IsAnswered _ answered ending = answered ≡ ending

-- what a command has put so far
abbrev pub IsCommandPart : (List ℕ → Option (List ℕ)) → Option Command → List ℕ → Type 0
IsCommandPart contents (Some (run spec driver choices)) text = IsRunPart contents spec driver choices text
IsCommandPart contents (Some (synthesise spec out budget)) text =
    (text ≡ []) ⊎ ((ending : Ending) × SynthesiseEnds contents spec budget text ending)
IsCommandPart contents (Some (check_driver spec driver cert)) text =
    (text ≡ []) ⊎ ((ending : Ending) × CheckDriverEnds contents spec driver cert text ending)
IsCommandPart contents (Some (check_environment spec cert)) text =
    (text ≡ []) ⊎ ((ending : Ending) × CheckEnvironmentEnds contents spec cert text ending)
IsCommandPart contents _ text = text ≡ []

-- the ends that a command may have, whatever its files hold
abbrev pub MayEnd : Option Command → Ending → Type 0
MayEnd None ending = ending ≡ Usage
MayEnd (Some (run spec driver choices)) ending = RunMayEnd driver choices ending
MayEnd (Some (synthesise spec out budget)) ending = SynthesiseMayEnd budget ending
MayEnd (Some (check_driver spec driver cert)) ending = CheckDriverMayEnd driver cert ending
MayEnd (Some (check_environment spec cert)) ending = CheckEnvironmentMayEnd cert ending
MayEnd (Some (generate registers out)) ending = ending ≡ Generated registers
MayEnd (Some (migrate spec cert out)) ending = MigrateMayEnd cert ending
MayEnd (Some (structure spec driver out)) ending = StructureMayEnd driver ending
MayEnd (Some (unstructure spec struct out)) ending = UnstructureMayEnd struct ending

-- what an end of a command leaves in the files, from what they held at first: the text that was asked for, a
-- certificate, a driver, with its certificate where it is found, or all as it was
abbrev pub CommandLeaves : (old new : List ℕ → Option (List ℕ)) → Option Command → Ending → Type 0
CommandLeaves old new (Some (synthesise spec out budget)) ending = SynthesiseLeaves old new spec out ending
CommandLeaves old new (Some (generate registers out)) ending = Tells new out (generated_text registers)
CommandLeaves old new (Some (migrate spec cert out)) ending = MigrateLeaves old new spec cert out ending
CommandLeaves old new (Some (structure spec driver out)) ending = StructureLeaves old new spec driver out ending
CommandLeaves old new (Some (unstructure spec struct out)) ending = UnstructureLeaves old new spec struct out ending
CommandLeaves old new _ ending = new ≡ old

-- what a failed write of a file leaves in the other files that a command writes: only `synth` writes two
abbrev pub CommandBreaksOff : (old new : List ℕ → Option (List ℕ)) → Option Command → List ℕ → Type 0
CommandBreaksOff old new (Some (synthesise spec out budget)) name = SynthesiseBreaksOff old new spec out name
CommandBreaksOff old new _ name = Unit {0}
