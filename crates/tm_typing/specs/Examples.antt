-- A small text as a tree, on which the judgement of types is tried.
use Rattle.std.specs.Prelude.{ℕ, None, [], ◌∷◌, codes}
use Rattle.tm_syntax.specs.declared.tree.TypeName.TheVariants as written
use Rattle.tm_syntax.specs.declared.tree.BinaryOperator.TheVariants.{Add}
use Rattle.tm_syntax.specs.Tree.{ExprTree, number, path, binary, TemplateTree}
use Rattle.tm_syntax.specs.Examples.{at, name_at, num_at, template_of}
use Rattle.tm_syntax.specs.Scopes.Context.{Context, outside}

-- a template with a variable of two bits:
--     template main
--     uint<2> x;
--     endtemplate
abbrev pub counter : TemplateTree
counter = template_of (name_at (codes "main") 1 10) []
    (record {
      ty = written.Uint (at 2 1) (num_at 2 2 6);
      name = name_at (codes "x") 2 9;
      size = None;
      init = None;
    } ∷ []) [] []

-- its text, outside of all bodies
abbrev pub counting : Context
counting = record { spec = record { enums = []; templates = counter ∷ [] }; template = counter; body = outside }

-- `x + n`, as it would stand in the next line
abbrev pub x_plus : ℕ → ExprTree
x_plus n = binary (at 3 3) Add (path (name_at (codes "x") 3 1 ∷ [])) (number (num_at n 3 5))
