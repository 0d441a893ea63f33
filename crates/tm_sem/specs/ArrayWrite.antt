-- A design that writes to an element of an array, whose number is chosen:
--     template main
--     uint<2> i = 0;
--     uint<8> a[3] = 7;
--     process p { i = *; a[i] = 9; pause; ...; }
--     endtemplate
use Rattle.std.specs.Prelude.{ℕ, false, None, Some, List, [], ◌∷◌, codes}
use Rattle.tm_base.specs.declared.place.Place.{Place}
use Rattle.tm_syntax.specs.declared.design.Var.{Var}
use Rattle.tm_syntax.specs.declared.design.Ty.TheVariants as types
use Rattle.tm_syntax.specs.declared.tree.Ident.{Ident}
use Rattle.tm_syntax.specs.declared.tree.Num.{Num}
use Rattle.tm_syntax.specs.declared.tree.TypeName.TheVariants as written
use Rattle.tm_syntax.specs.Tree.{number, path, star, plain, assign, pause, magic, BodyTree, VarTree, ProcessTree, TemplateTree}
use Rattle.tm_syntax.specs.Design.{DesignTree}
use Rattle.tm_sem.specs.State.{StateData}

-- a place of the text
abbrev pub place_at : ℕ → ℕ → Place
place_at line column = record { line = line; column = column }

-- a name at a place
abbrev pub name_at : List ℕ → ℕ → ℕ → Ident
name_at text line column = record { text = text; place = place_at line column }

-- a number at a place
abbrev pub number_at : ℕ → ℕ → ℕ → Num
number_at n line column = record { value = Some n; place = place_at line column }

-- the variable, and the array
abbrev pub declared : List VarTree
declared =
    record {
      ty = written.Uint (place_at 2 1) (number_at 2 2 6);
      name = name_at (codes "i") 2 9;
      size = None;
      init = Some (number (number_at 0 2 13));
    }
    ∷ record {
      ty = written.Uint (place_at 3 1) (number_at 8 3 6);
      name = name_at (codes "a") 3 9;
      size = Some (number_at 3 3 11);
      init = Some (number (number_at 7 3 16));
    }
    ∷ []

-- the body of the process
abbrev pub body : BodyTree
body = record {
  locals = [];
  stmts =
      assign (name_at (codes "i") 4 13 ∷ []) None (star (place_at 4 17))
      ∷ assign (name_at (codes "a") 4 20 ∷ []) (Some (path (name_at (codes "i") 4 22 ∷ [])))
      (plain (number (number_at 9 4 27)))
      ∷ pause (place_at 4 30)
      ∷ magic (place_at 4 37)
      ∷ [];
  answer = None;
}

-- the process
abbrev pub process : ProcessTree
process = record { lazy = false; name = name_at (codes "p") 4 9; body = body }

-- the template
abbrev pub main : TemplateTree
main = record {
  name = name_at (codes "main") 1 10;
  ports = [];
  instances = [];
  vars = declared;
  goals = [];
  fairs = [];
  processes = process ∷ [];
  tasks = [];
}

-- the state variable of an element
abbrev pub element_var : List ℕ → Var
element_var element = record { path = element; ty = types.Uint 8; init = Some 7; instance = 0 }

-- the design
abbrev pub array_design : DesignTree
array_design = record {
  spec = record { enums = []; templates = main ∷ [] };
  instances = record { path = []; template = 0; ports = []; children = [] } ∷ [];
  vars =
      record { path = codes "i"; ty = types.Uint 2; init = Some 0; instance = 0 }
      ∷ element_var (codes "a.0") ∷ element_var (codes "a.1") ∷ element_var (codes "a.2") ∷ [];
  processes = record { path = codes "p"; instance = 0; index = Some 0 } ∷ [];
  tasks = [];
  goals = record { path = codes "true"; instance = 0; index = None } ∷ [];
  fairs = [];
}

-- its initial state
abbrev pub array_start : StateData
array_start = record { values = 0 ∷ 7 ∷ 7 ∷ 7 ∷ []; places = 0 ∷ []; last = 0 }

-- the state after the last element was written
abbrev pub last_written : StateData
last_written = record { values = 2 ∷ 7 ∷ 7 ∷ 9 ∷ []; places = 1 ∷ []; last = 2 }
