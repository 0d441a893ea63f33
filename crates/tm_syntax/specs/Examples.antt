-- Small texts as trees, on which the definitions of faults are tried.
use Rattle.std.specs.Prelude.{ℕ, false, true, Some, None, List, [], ◌∷◌, codes}
use Rattle.tm_base.specs.declared.place.Place.{Place}
use Rattle.tm_syntax.specs.declared.tree.Ident.{Ident}
use Rattle.tm_syntax.specs.declared.tree.Num.{Num}
use Rattle.tm_syntax.specs.declared.tree.TypeName.TheVariants as written
use Rattle.tm_syntax.specs.declared.tree.BinaryOperator.TheVariants as operator
use Rattle.tm_syntax.specs.Tree.{truth, number, path, binary, element, plain, assign, forever, nothing, then, VarTree, NamedTree, ProcessTree, InstanceTree, TemplateTree, SpecTree}

-- a place
abbrev pub at : ℕ → ℕ → Place
at line column = record { line = line; column = column }

-- a name at a place
abbrev pub name_at : List ℕ → ℕ → ℕ → Ident
name_at text line column = record { text = text; place = at line column }

-- a number at a place
abbrev pub num_at : ℕ → ℕ → ℕ → Num
num_at n line column = record { value = Some n; place = at line column }

-- a template that declares these alone
abbrev pub template_of : Ident → List InstanceTree → List VarTree → List NamedTree → List ProcessTree → TemplateTree
template_of name instances vars goals processes = record {
  name = name;
  ports = [];
  instances = instances;
  vars = vars;
  goals = goals;
  fairs = [];
  processes = processes;
  tasks = [];
}

-- a loop that crosses no location:
--     template main
--     bool x;
--     process p { forever { x = true; } }
--     endtemplate
abbrev pub spinning : SpecTree
spinning = record {
  enums = [];
  templates = template_of (name_at (codes "main") 1 10) []
      (record { ty = written.Bool (at 2 1); name = name_at (codes "x") 2 6; size = None; init = None } ∷ [])
      []
      (record {
        lazy = false;
        name = name_at (codes "p") 3 9;
        body = record {
          locals = [];
          stmts = forever (at 3 13)
              (then (assign (name_at (codes "x") 3 23 ∷ []) None (plain (truth (at 3 27) true))) nothing) ∷ [];
          answer = None;
        };
      } ∷ []) ∷ [];
}

-- a goal with an index that is no number as it is written:
--     template main
--     uint<2> i = 0;
--     uint<8> a[3] = 7;
--     goal g = a[i] == 9;
--     endtemplate
abbrev pub indexed : SpecTree
indexed = record {
  enums = [];
  templates = template_of (name_at (codes "main") 1 10) []
      (record {
        ty = written.Uint (at 2 1) (num_at 2 2 6);
        name = name_at (codes "i") 2 9;
        size = None;
        init = Some (number (num_at 0 2 13));
      } ∷ record {
        ty = written.Uint (at 3 1) (num_at 8 3 6);
        name = name_at (codes "a") 3 9;
        size = Some (num_at 3 3 11);
        init = Some (number (num_at 7 3 16));
      } ∷ [])
      (record {
        name = name_at (codes "g") 4 6;
        expr = binary (at 4 15) operator.Equal
            (element (name_at (codes "a") 4 10 ∷ []) (path (name_at (codes "i") 4 12 ∷ [])))
            (number (num_at 9 4 18));
      } ∷ []) [] ∷ [];
}

-- a variable of 64 bits
abbrev pub word_at : List ℕ → ℕ → VarTree
word_at text line = record {
  ty = written.Uint (at line 1) (num_at 64 line 6);
  name = name_at text line 10;
  size = None;
  init = None;
}

-- one state bit too many, that of `last`:
--     template main
--     uint<64> a;
--     uint<64> b;
--     uint<64> c;
--     uint<64> d;
--     endtemplate
abbrev pub wide : SpecTree
wide = record {
  enums = [];
  templates = template_of (name_at (codes "main") 1 10) []
      (word_at (codes "a") 2 ∷ word_at (codes "b") 3 ∷ word_at (codes "c") 4 ∷ word_at (codes "d") 5 ∷ []) [] [] ∷ [];
}

-- an instance alone, named at the tenth column of a line
abbrev pub instance_at : List ℕ → List ℕ → ℕ → InstanceTree
instance_at template text line =
    record { template = name_at template line 10; name = name_at text line 12; args = [] }

-- templates that hold each other:
--     template main
--     instance A a;
--     endtemplate
--     template A
--     instance B b;
--     endtemplate
--     template B
--     instance A a;
--     endtemplate
abbrev pub circular : SpecTree
circular = record {
  enums = [];
  templates = template_of (name_at (codes "main") 1 10) (instance_at (codes "A") (codes "a") 2 ∷ []) [] [] []
      ∷ template_of (name_at (codes "A") 4 10) (instance_at (codes "B") (codes "b") 5 ∷ []) [] [] []
      ∷ template_of (name_at (codes "B") 7 10) (instance_at (codes "A") (codes "a") 8 ∷ []) [] [] [] ∷ [];
}
