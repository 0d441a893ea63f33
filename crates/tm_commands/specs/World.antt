-- What files show: what they hold, and counts of what went wrong.
use Rattle.std.specs.Prelude.{◌≡◌, ◌≢◌, ℕ, ◌+◌, ◌≤◌, Bool, false, Option, List, [], Contains, IsTrue}
use Rattle.tm_base.specs.Count.{Rose, RoseBy}
use Rattle.tm_base.specs.declared.files.Files.{Ghosts as FilesGhosts}

-- counts and contents of files, by name; where the files do not tell, nothing is said of the contents
pub record FilesData : Type 0 where
  pub tells : Bool
  pub contents : List ℕ → Option (List ℕ)
  pub last_count : Option ℕ
  pub read_faults : List ℕ → ℕ
  pub write_faults : List ℕ → ℕ
  pub bytes_taken : ℕ

-- what these files show
abbrev pub files_data : {A : Type 0} → FilesGhosts A → A → FilesData
files_data F files = record {
  tells = F.tells;
  contents = F.contents files;
  last_count = F.last_count;
  read_faults = F.read_faults files;
  write_faults = F.write_faults files;
  bytes_taken = F.bytes_taken files;
}

-- reads leave all contents and what was counted of writes, and no count falls
pub record OnlyReads (old new : FilesData) : Type 0 where
  pub no_fewer_faults : (name : List ℕ) → old.read_faults name ≤ new.read_faults name
  pub no_fewer_bytes : old.bytes_taken ≤ new.bytes_taken
  pub same_writes : new.write_faults ≡ old.write_faults
  pub same_contents : new.contents ≡ old.contents

-- a write of this file leaves all other contents and what was counted of reads, and no count falls
pub record OnlyWrites (name : List ℕ) (old new : FilesData) : Type 0 where
  pub no_fewer_faults : (n : List ℕ) → old.write_faults n ≤ new.write_faults n
  pub same_reads : new.read_faults ≡ old.read_faults
  pub same_bytes : new.bytes_taken ≡ old.bytes_taken
  pub same_others : (n : List ℕ) → n ≢ name → new.contents n ≡ old.contents n

-- where some files are read and some written: no other file changes, no count falls, and none changes of what is not
-- done at all
pub record OnlyTouches (reads writes : List (List ℕ)) (old new : FilesData) : Type 0 where
  pub same_others : (name : List ℕ) → ¬ Contains writes name → new.contents name ≡ old.contents name
  pub no_fewer_read_faults : (name : List ℕ) → old.read_faults name ≤ new.read_faults name
  pub no_fewer_write_faults : (name : List ℕ) → old.write_faults name ≤ new.write_faults name
  pub no_fewer_bytes : old.bytes_taken ≤ new.bytes_taken
  pub nothing_read : reads ≡ [] → (new.read_faults ≡ old.read_faults) × (new.bytes_taken ≡ old.bytes_taken)
  pub nothing_written : writes ≡ [] → new.write_faults ≡ old.write_faults

-- where the files tell, the count of failed reads has changed of no file but those of which this holds
abbrev pub OnlyCounts : (List ℕ → Type 0) → FilesData → FilesData → Type 0
OnlyCounts IsOne old new =
    IsTrue old.tells → (name : List ℕ) → ¬ IsOne name → new.read_faults name ≡ old.read_faults name

-- a read of this file failed, which its count shows
abbrev pub HasFailedRead : FilesData → FilesData → List ℕ → Type 0
HasFailedRead old new name = Rose old.last_count (old.read_faults name) (new.read_faults name)

-- a write of this file failed, which its count shows
abbrev pub HasFailedWrite : FilesData → FilesData → List ℕ → Type 0
HasFailedWrite old new name = Rose old.last_count (old.write_faults name) (new.write_faults name)

-- where the files do not tell, more bytes than the limit were taken
abbrev pub TookMoreThan : ℕ → FilesData → FilesData → Type 0
TookMoreThan limit old new = old.tells ≡ false → RoseBy old.last_count (limit + 1) old.bytes_taken new.bytes_taken
