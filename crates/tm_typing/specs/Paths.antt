-- The paths of what a design holds: names, and the numbers of elements, with dots between.
use Rattle.std.specs.Prelude.{ℕ, Bool, IsTrue, ◌==◌, ◌||◌, List, [], ◌∷◌, map, if◌then◌else◌}
use Rattle.std.specs.List.{All, AllPass}
use Rattle.tm_syntax.specs.declared.design.Var.{Var}
use Rattle.tm_syntax.specs.declared.design.Item.{Item}
use Rattle.tm_syntax.specs.Tokens.{begins_name, continues_name}
use Rattle.tm_syntax.specs.Design.{DesignTree}

-- a byte that continues a name, or a dot
abbrev pub continues_path : ℕ → Bool
continues_path b = continues_name b || b == 46

-- the text of a path: a byte that begins a name, and then bytes that continue one, and dots
abbrev pub IsPathText : List ℕ → Type 0
IsPathText [] = ⊥
IsPathText (b ∷ bs) = IsTrue (begins_name b) × AllPass continues_path bs

-- a design in which the path of each variable, process, controllable task, goal and fairness condition is such a text
pub record HasPathTexts (d : DesignTree) : Type 0 where
  pub vars : All (λ (v : Var). IsPathText v.path) d.vars
  pub processes : All (λ (p : Item). IsPathText p.path) d.processes
  pub tasks : All (λ (t : Item). IsPathText t.path) d.tasks
  pub goals : All (λ (g : Item). IsPathText g.path) d.goals
  pub fairs : All (λ (f : Item). IsPathText f.path) d.fairs

-- a path with `_` in the place of each dot
abbrev pub underscored : List ℕ → List ℕ
underscored path = map (λ b. if b == 46 then 95 else b) path
