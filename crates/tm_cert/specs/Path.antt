-- How the place of a part of a certificate is written, as `goals[0].ranks[1][0]`.
use Rattle.std.specs.Prelude.{ℕ, List, ◌++◌, codes, decimal}
use Rattle.tm_cert.specs.declared.path.Path.{Path, fold-Path}
use Rattle.tm_cert.specs.declared.path.Path.TheOpen.{Path-F}

-- a place in the list at a path
abbrev pub index_path : List ℕ → ℕ → List ℕ
index_path path index = path ++ codes "[" ++ decimal index ++ codes "]"

-- a key of the object at a path
abbrev pub member_path : List ℕ → List ℕ → List ℕ
member_path path key = path ++ codes "." ++ key

-- one step of a path, behind the text of those before it
abbrev pub step_text : Path-F (List ℕ) → List ℕ
step_text (Path-F.Key key) = key.now
step_text (Path-F.Member parent key) = member_path parent.now key.now
step_text (Path-F.Index parent index) = index_path parent.now index

-- the text of a path
abbrev pub path_text : Path → List ℕ
path_text = fold-Path (List ℕ) step_text
