-- What files in memory hold, and which of their calls failed.
use Rattle.std.specs.Prelude.{◌⊎◌, ℕ, List, Option, Result, IsErrOf, count_by}
use Rattle.std.specs.Option.{option_map}
use Rattle.std.specs.Str.{bytes_eq}
use Rattle.std.specs.BTreeMap.{get_by_text}
use Rattle.tm_base.specs.declared.mem_files.MemFiles.{MemFiles}
use Rattle.tm_base.specs.declared.files.FileError.{FileError}
use Rattle.tm_base.specs.declared.files.FileError.TheVariants.{Failed, Memory}

-- what the file of this name holds
abbrev pub contents_of : MemFiles → List ℕ → Option (List ℕ)
contents_of m name = option_map (λ bytes. bytes.items) (get_by_text m.files name)

-- how often this name stands among these names
abbrev pub times_in : List (List ℕ) → List ℕ → ℕ
times_in names name = count_by (bytes_eq name) names

-- how many reads of this name have failed
abbrev pub read_faults_of : MemFiles → List ℕ → ℕ
read_faults_of m name = times_in m.failed_reads.items name

-- how many writes of this name have failed
abbrev pub write_faults_of : MemFiles → List ℕ → ℕ
write_faults_of m name = times_in m.failed_writes.items name

-- how many calls of `read` and `write` there were
abbrev pub calls_of : MemFiles → ℕ
calls_of m = m.plan.calls

-- the numbers of the calls that fail
abbrev pub fails_of : MemFiles → List ℕ
fails_of m = m.plan.fails.items

-- the call failed, or there was no memory to keep the name of a call that fails
abbrev pub IsFault : {T : Type 0} → Result T FileError → Type 0
IsFault answer = IsErrOf answer Failed ⊎ IsErrOf answer Memory
