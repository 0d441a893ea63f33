-- A design with one process of one pause, and its steps as guarded updates:
--     template main
--     lazy process p { pause; }
--     endtemplate
use Rattle.std.specs.Prelude.{ℕ, true, false, None, Some, List, [], ◌∷◌, ◌++◌, codes, replicate}
use Rattle.tm_base.specs.declared.place.Place.{Place}
use Rattle.tm_syntax.specs.declared.tree.Ident.{Ident}
use Rattle.tm_syntax.specs.Tree.{pause, TemplateTree}
use Rattle.tm_syntax.specs.Design.{DesignTree}
use Rattle.tm_term.specs.declared.term.TermId.{TermId}
use Rattle.tm_term.specs.declared.term.Term.TheVariants.{Const, Input, Eq, Less, And}
use Rattle.tm_term.specs.Table.{Table}
use Rattle.tm_flat.specs.Flat.{StepTerms, FlatTerms}

-- a place of the text
abbrev pub place_at : ℕ → ℕ → Place
place_at line column = record { line = line; column = column }

-- a name at a place
abbrev pub name_at : List ℕ → ℕ → ℕ → Ident
name_at text line column = record { text = text; place = place_at line column }

-- the template
abbrev pub main : TemplateTree
main = record {
  name = name_at (codes "main") 1 10;
  ports = [];
  instances = [];
  vars = [];
  goals = [];
  fairs = [];
  processes =
      record {
        lazy = true;
        name = name_at (codes "p") 2 14;
        body = record { locals = []; stmts = pause (place_at 2 18) ∷ []; answer = None };
      }
      ∷ [];
  tasks = [];
}

-- the design
abbrev pub tiny : DesignTree
tiny = record {
  spec = record { enums = []; templates = main ∷ [] };
  instances = record { path = []; template = 0; ports = []; children = [] } ∷ [];
  vars = [];
  processes = record { path = codes "p"; instance = 0; index = Some 0 } ∷ [];
  tasks = [];
  goals = record { path = codes "true"; instance = 0; index = None } ∷ [];
  fairs = [];
}

-- the id of this number
abbrev pub term_at : ℕ → TermId
term_at n = record { 0 = n }

-- the terms: the truths, the numbers from 0 to 3, the location and the last mover, whether both are 0, and whether both
-- are below 3
abbrev pub tiny_terms : Table
tiny_terms = record {
  inputs = 2 ∷ 2 ∷ replicate 64 1 ++ replicate 64 1;
  kept =
      (Const 1 0, 1) ∷ (Const 1 1, 1) ∷ (Const 2 1, 2) ∷ (Const 2 2, 2) ∷ (Const 2 0, 2) ∷ (Input 0, 2)
      ∷ (Input 1, 2) ∷ (Eq (term_at 5) (term_at 4), 1) ∷ (Eq (term_at 6) (term_at 4), 1)
      ∷ (And (term_at 7) (term_at 8), 1) ∷ (Const 2 3, 2) ∷ (Less (term_at 5) (term_at 10), 1)
      ∷ (Less (term_at 6) (term_at 10), 1) ∷ (And (term_at 11) (term_at 12), 1) ∷ [];
}

-- the steps from the start, from the pause and from the end, which has none
abbrev pub tiny_steps : List StepTerms
tiny_steps =
    record { legal = term_at 1; error = term_at 0; next = term_at 2 ∷ term_at 3 ∷ [] }
    ∷ record { legal = term_at 1; error = term_at 0; next = term_at 3 ∷ term_at 3 ∷ [] }
    ∷ record { legal = term_at 0; error = term_at 0; next = term_at 2 ∷ term_at 3 ∷ [] }
    ∷ []

-- the design as guarded updates; its goal and its one fairness condition always hold
abbrev pub tiny_flat : FlatTerms
tiny_flat = record {
  processes = tiny_steps ∷ [];
  tasks = [];
  parameters = [];
  magic = (false ∷ false ∷ false ∷ []) ∷ [];
  goals = term_at 1 ∷ [];
  fairs = term_at 1 ∷ [];
  initial = term_at 9;
  valid = term_at 13;
  pool = [];
  first = 0;
  widths = 2 ∷ 2 ∷ replicate 64 1 ++ replicate 64 1;
}
