-- That choices have alternatives, and no more than 64 bits can number.
use Rattle.std.specs.Prelude.{◌≤◌, ◌^◌, length}
use Rattle.std.specs.List.{AllByRecursion}
use Rattle.tm_syntax.specs.Tree.{StmtTree, choose, blocks_of, SpecTree}
use Rattle.tm_syntax.specs.Scopes.Parts.{BodyAt, bodies, stmts_in}

-- a choice has an alternative, and at most 2 to the power of 64 of them
abbrev pub HasAlternatives : StmtTree → Type 0
HasAlternatives (choose _ blocks) = (1 ≤ length (blocks_of blocks)) × (length (blocks_of blocks) ≤ 2 ^ 64)
HasAlternatives _ = Unit {0}

-- so has each choice of a text
abbrev pub HaveAlternatives : SpecTree → Type 0
HaveAlternatives spec = AllByRecursion (λ (b : BodyAt). AllByRecursion HasAlternatives (stmts_in b.body)) (bodies spec)
