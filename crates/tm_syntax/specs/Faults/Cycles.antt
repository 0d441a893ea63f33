-- F8: a task or procedure reaches itself by calls. F11: a template reaches itself by instances.
use Rattle.std.specs.Prelude.{ℕ, List, map}
use Rattle.std.specs.List.{flat_map, enumerate_from}
use Rattle.tm_syntax.specs.Tree.{TaskTree, TemplateTree, SpecTree}
use Rattle.tm_syntax.specs.declared.member.Member.{Member}
use Rattle.tm_syntax.specs.Scopes.Calls.{Reaches, ReachesTemplate}
use Rattle.tm_syntax.specs.Faults.Marks.{Mark, named}

-- a task or procedure, with the fault that it is if it reaches itself
pub record TaskMark : Type 0 where
  pub number : Member
  pub mark : Mark

-- the tasks and procedures of a template
abbrev pub template_tasks : ℕ × TemplateTree → List TaskMark
template_tasks t =
    map (λ (k : ℕ × TaskTree). record { number = record { template = t.0; index = k.0 }; mark = named k.1.name })
    (enumerate_from 0 t.1.tasks)

-- the tasks and procedures of a text
abbrev pub all_tasks : SpecTree → List TaskMark
all_tasks spec = flat_map template_tasks (enumerate_from 0 spec.templates)

-- F8
abbrev pub CallsItself : SpecTree → TaskMark → Type 0
CallsItself spec k = Reaches spec k.number k.number

-- a template, with the fault that it is if it reaches itself
pub record TemplateMark : Type 0 where
  pub number : ℕ
  pub mark : Mark

-- the templates of a text
abbrev pub all_templates : SpecTree → List TemplateMark
all_templates spec =
    map (λ (t : ℕ × TemplateTree). record { number = t.0; mark = named t.1.name }) (enumerate_from 0 spec.templates)

-- F11
abbrev pub HoldsItself : SpecTree → TemplateMark → Type 0
HoldsItself spec t = ReachesTemplate spec t.number t.number
