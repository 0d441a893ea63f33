-- The text of a path, step by step.
use Rattle.std.proofs.Common.{◌≡◌, ℕ, List, Bor, rules}
use Rattle.tm_cert.specs.Path.{index_path, member_path, path_text}
use Rattle.tm_cert.specs.declared.path.Path.{Path, Key, Member, Index, the_lemmas}

pub path_text-Key : (key : Bor (List ℕ)) → path_text (Key key) ≡ key.now
path_text-Key key = search (rules, the_lemmas)

pub path_text-Member : (parent : Bor Path) (key : Bor (List ℕ))
    → path_text (Member parent key) ≡ member_path (path_text parent.now) key.now
path_text-Member parent key = search (rules, the_lemmas)

pub path_text-Index : (parent : Bor Path) (index : ℕ)
    → path_text (Index parent index) ≡ index_path (path_text parent.now) index
path_text-Index parent index = search (rules, the_lemmas)
