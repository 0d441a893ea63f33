-- A design whose process takes choices of several sorts:
--     typedef enum { red, green, blue } color;
--     template main
--     color c = red;
--     uint<2> n = 0;
--     bool b = false;
--     procedure uint<2> next(uint<2> x) { return x + 1; }
--     process p { forever { c = *; choice { n = next(n); } or { b = *; } or { assume(b); } n = *; pause; } }
--     endtemplate
use Rattle.std.specs.Prelude.{ℕ, false, None, Some, List, [], ◌∷◌, codes}
use Rattle.tm_base.specs.declared.place.Place.{Place}
use Rattle.tm_syntax.specs.declared.design.Var.{Var}
use Rattle.tm_syntax.specs.declared.design.Ty.{Ty}
use Rattle.tm_syntax.specs.declared.design.Ty.TheVariants as types
use Rattle.tm_syntax.specs.declared.tree.Ident.{Ident}
use Rattle.tm_syntax.specs.declared.tree.TypeName.{TypeName}
use Rattle.tm_syntax.specs.declared.tree.TypeName.TheVariants as written
use Rattle.tm_syntax.specs.declared.tree.TaskKind.TheVariants.{Procedure}
use Rattle.tm_syntax.specs.declared.tree.BinaryOperator.TheVariants.{Add}
use Rattle.tm_syntax.specs.Tree.{ExprTree, truth, number, path, binary, star, result, assign, forever, choose, assume, pause, StmtTree, StmtRow, row_of, alternatives_of, BodyTree, EnumTree, TaskTree, TemplateTree}
use Rattle.tm_syntax.specs.Design.{DesignTree}
use Rattle.tm_sem.specs.State.{StateData}

-- a place of the text
abbrev pub place_at : ℕ → ℕ → Place
place_at line column = record { line = line; column = column }

-- a name at a place
abbrev pub name_at : List ℕ → ℕ → ℕ → Ident
name_at text line column = record { text = text; place = place_at line column }

-- a variable that is read at a place
abbrev pub read_at : List ℕ → ℕ → ℕ → ExprTree
read_at text line column = path (name_at text line column ∷ [])

-- the type of numbers of two bits, at a place
abbrev pub two_bits : ℕ → ℕ → TypeName
two_bits line column = written.Uint (place_at line column) (record { value = Some 2; place = place_at line column })

-- any value is assigned at a place
abbrev pub takes : List ℕ → ℕ → ℕ → StmtTree
takes text line column = assign (name_at text line column ∷ []) None (star (place_at line column))

-- the procedure
abbrev pub next : TaskTree
next = record {
  kind = Procedure (Some (two_bits 6 11));
  name = name_at (codes "next") 6 19;
  params = record { ty = two_bits 6 24; name = name_at (codes "x") 6 32 } ∷ [];
  body = record {
    locals = [];
    stmts = [];
    answer = Some (binary (place_at 6 46) Add (read_at (codes "x") 6 44)
        (number (record { value = Some 1; place = place_at 6 48 })));
  };
}

-- the three alternatives of the choice
abbrev pub blocks : List StmtRow
blocks =
    row_of
    (assign (name_at (codes "n") 7 39 ∷ []) None
    (result (name_at (codes "next") 7 43 ∷ []) (read_at (codes "n") 7 48 ∷ [])) ∷ [])
    ∷ row_of (takes (codes "b") 7 59 ∷ [])
    ∷ row_of (assume (place_at 7 73) (read_at (codes "b") 7 80) ∷ [])
    ∷ []

-- a turn of the process
abbrev pub turn : List StmtTree
turn =
    takes (codes "c") 7 23 ∷ choose (place_at 7 30) (alternatives_of blocks) ∷ takes (codes "n") 7 86
    ∷ pause (place_at 7 93) ∷ []

-- the body of the process
abbrev pub body : BodyTree
body = record {
  locals = [];
  stmts = forever (place_at 7 13) (row_of turn) ∷ [];
  answer = None;
}

-- the template
abbrev pub main : TemplateTree
main = record {
  name = name_at (codes "main") 2 10;
  ports = [];
  instances = [];
  vars =
      record {
        ty = written.Enum (name_at (codes "color") 3 1);
        name = name_at (codes "c") 3 7;
        size = None;
        init = Some (read_at (codes "red") 3 11);
      }
      ∷ record {
        ty = two_bits 4 1;
        name = name_at (codes "n") 4 9;
        size = None;
        init = Some (number (record { value = Some 0; place = place_at 4 13 }));
      }
      ∷ record {
        ty = written.Bool (place_at 5 1);
        name = name_at (codes "b") 5 6;
        size = None;
        init = Some (truth (place_at 5 10) false);
      }
      ∷ [];
  goals = [];
  fairs = [];
  processes = record { lazy = false; name = name_at (codes "p") 7 9; body = body } ∷ [];
  tasks = next ∷ [];
}

-- the enum
abbrev pub color : EnumTree
color = record {
  name = name_at (codes "color") 1 36;
  constants =
      name_at (codes "red") 1 16 ∷ name_at (codes "green") 1 21 ∷ name_at (codes "blue") 1 28 ∷ [];
}

-- a state variable with the value 0 at first
abbrev pub variable : List ℕ → Ty → Var
variable name ty = record { path = name; ty = ty; init = Some 0; instance = 0 }

-- the design
abbrev pub sample : DesignTree
sample = record {
  spec = record { enums = color ∷ []; templates = main ∷ [] };
  instances = record { path = []; template = 0; ports = []; children = [] } ∷ [];
  vars =
      variable (codes "c") (types.Enum (codes "color")) ∷ variable (codes "n") (types.Uint 2)
      ∷ variable (codes "b") types.Bool ∷ [];
  processes = record { path = codes "p"; instance = 0; index = Some 0 } ∷ [];
  tasks = [];
  goals = record { path = codes "true"; instance = 0; index = None } ∷ [];
  fairs = [];
}

-- its initial state
abbrev pub sample_start : StateData
sample_start = record { values = 0 ∷ 0 ∷ 0 ∷ []; places = 0 ∷ []; last = 0 }

-- a state at the pause
abbrev pub sample_paused : ℕ → ℕ → ℕ → StateData
sample_paused c n b = record { values = c ∷ n ∷ b ∷ []; places = 1 ∷ []; last = 2 }
