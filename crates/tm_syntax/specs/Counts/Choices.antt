-- The choice bits on the paths of one step, whatever the conditions on these paths are. A path leads from the start of
-- a body or a location in it to the next location or to the body's end.
use Rattle.std.specs.Prelude.{ℕ, zero, suc, ◌+◌, ◌-◌, List, [], ◌∷◌, ◌++◌, map, length}
use Rattle.std.specs.Option.{option_map_or}
use Rattle.std.specs.List.{flat_map}
use Rattle.tm_syntax.specs.declared.tree.Ident.{Ident}
use Rattle.tm_syntax.specs.Tree.{star, result, plain, StmtTree, assign, invoke, branch, repeat, forever, choose, assert, assume, pause, wait, magic, StmtRow, nothing, then, row_of, BlockRow, nowhere, or_else, blocks_of, SpecTree}
use Rattle.tm_syntax.specs.Scopes.Pauses.{call_depth}
use Rattle.tm_syntax.specs.Scopes.Context.{Context}
use Rattle.tm_syntax.specs.Scopes.Types.{named_type}
use Rattle.tm_syntax.specs.Scopes.Parts.{BodyAt, body_stmts}
use Rattle.tm_syntax.specs.Scopes.Calls.{callee}
use Rattle.tm_syntax.specs.Design.Sizes.{type_bits, bits_of_number}
use Rattle.tm_syntax.specs.Counts.Instances.{greatest_of}
use Rattle.tm_syntax.specs.Counts.Bodies.{step_bodies}

-- the sums of choice bits on the paths of a part of a body
pub record Paths : Type 0 where
  -- from its start to its end
  pub across : List ℕ
  -- from its start to a location in it
  pub inward : List ℕ
  -- from a location in it to its end
  pub outward : List ℕ
  -- from a location in it to another one
  pub between : List ℕ

-- the sums of two paths, one behind the other
abbrev pub joined : List ℕ → List ℕ → List ℕ
joined firsts seconds = flat_map (λ m. map (λ n. m + n) seconds) firsts

-- one path across, on which so many bits are chosen
abbrev pub choosing : ℕ → Paths
choosing bits = record { across = bits ∷ []; inward = []; outward = []; between = [] }

-- a location: a path ends there, and another one begins
abbrev pub stopping : Paths
stopping = record { across = []; inward = 0 ∷ []; outward = 0 ∷ []; between = [] }

-- no path
abbrev pub pathless : Paths
pathless = record { across = []; inward = []; outward = []; between = [] }

-- one part behind another one
abbrev pub in_row : Paths → Paths → Paths
in_row p q = record {
  across = joined p.across q.across;
  inward = p.inward ++ joined p.across q.inward;
  outward = q.outward ++ joined p.outward q.across;
  between = p.between ++ q.between ++ joined p.outward q.inward;
}

-- one part or the other
abbrev pub either_part : Paths → Paths → Paths
either_part p q = record {
  across = p.across ++ q.across;
  inward = p.inward ++ q.inward;
  outward = p.outward ++ q.outward;
  between = p.between ++ q.between;
}

-- a part that begins again where it ends; each turn crosses a location
abbrev pub again : Paths → Paths
again p = record { across = []; inward = p.inward; outward = []; between = p.between ++ joined p.outward p.inward }

-- a loop that may be left before each turn
abbrev pub leavable : Paths → Paths
leavable p = record {
  across = 0 ∷ [];
  inward = p.inward;
  outward = p.outward;
  between = p.between ++ joined p.outward p.inward;
}

-- the bits of any value of the type of what is assigned
abbrev pub star_bits : Context → List Ident → ℕ
star_bits c names = option_map_or (type_bits c.spec) (named_type c names) 0

-- the paths of a statement, given those of calls
abbrev mutual
  pub stmt_paths : (List Ident → Paths) → Context → StmtTree → Paths
  stmt_paths within c (assign names _ (star _)) = choosing (star_bits c names)
  stmt_paths within c (assign _ _ (result path _)) = within path
  stmt_paths within c (assign _ _ (plain _)) = choosing 0
  stmt_paths within c (invoke path _) = within path
  stmt_paths within c (branch _ first second) = either_part (row_paths within c first) (row_paths within c second)
  stmt_paths within c (repeat _ _ body) = leavable (row_paths within c body)
  stmt_paths within c (forever _ body) = again (row_paths within c body)
  stmt_paths within c (choose _ blocks) =
      in_row (choosing (bits_of_number (length (blocks_of blocks) - 1))) (block_paths within c blocks)
  stmt_paths within c (assert _ _) = choosing 0
  stmt_paths within c (assume _ _) = choosing 0
  stmt_paths within c (pause _) = stopping
  stmt_paths within c (wait _ _) = stopping
  stmt_paths within c (magic _) = stopping

  pub row_paths : (List Ident → Paths) → Context → StmtRow → Paths
  row_paths within c nothing = choosing 0
  row_paths within c (then first others) = in_row (stmt_paths within c first) (row_paths within c others)

  pub block_paths : (List Ident → Paths) → Context → BlockRow → Paths
  block_paths within c nowhere = pathless
  block_paths within c (or_else first others) = either_part (row_paths within c first) (block_paths within c others)

-- the paths of a body, where calls nest at most so deep
abbrev pub body_paths : ℕ → BodyAt → Paths
body_paths zero b = choosing 0
body_paths (suc depth) b =
    row_paths (λ path. option_map_or (body_paths depth) (callee b.context path) (choosing 0)) b.context
    (row_of (body_stmts b.body))

-- the sums on all paths of a body
abbrev pub path_sums : Paths → List ℕ
path_sums p = p.across ++ p.inward ++ p.outward ++ p.between

-- the greatest number of choice bits on one path
abbrev pub count_choices : SpecTree → ℕ
count_choices spec =
    greatest_of spec (λ t. flat_map (λ (b : BodyAt). path_sums (body_paths (suc (call_depth spec)) b))
    (step_bodies spec t))
