-- The items of a sound design of a text have names in C.
use Rattle.std.proofs.Common.{ℕ, ◌<◌, ◌≤◌, ◌^◌, List, map, length, arith}
use Rattle.std.specs.List.{All}
use Rattle.std.proofs.lemmas.List.Elements.{All-weaker}
use Rattle.tm_syntax.specs.declared.design.Var.{Var}
use Rattle.tm_syntax.specs.declared.design.Item.{Item}
use Rattle.tm_syntax.specs.Tokens.{IsWordLike}
use Rattle.tm_syntax.specs.Design.{DesignTree}
use Rattle.tm_syntax.specs.Faults.{IsOfText, IsSound}
use Rattle.tm_syntax.proofs.Limits.{few_processes, few_tasks}
use Rattle.tm_cir.specs.Text.Spelling.{name_byte}
use Rattle.tm_cparse.specs.Faults.{HasNames}
use Rattle.tm_typing.specs.Paths.{IsPathText}
use Rattle.tm_typing.proofs.PathTexts.{path_texts}
use Rattle.tm_typing.proofs.Underscored.{underscored_word}
use Rattle.tm_typing.proofs.FewVariables.{few_vars}

-- an item has such a name
item_name : (xs : List Item) → All (λ (x : Item). IsPathText x.path) xs →
    All (λ (x : Item). IsWordLike (map name_byte x.path)) xs
item_name xs texts =
    All-weaker (λ (x : Item). IsPathText x.path) (λ (x : Item). IsWordLike (map name_byte x.path))
    (λ x text. underscored_word x.path text) xs texts

pub has_names : (d : DesignTree) → IsOfText d.spec → IsSound d → HasNames d
has_names d of sound =
    let texts = path_texts d of sound.numbered in
    let vars = few_vars d sound in
    let processes = few_processes d sound in
    let tasks = few_tasks d sound in
    record {
      vars = All-weaker (λ (v : Var). IsPathText v.path) (λ (v : Var). IsWordLike (map name_byte v.path))
          (λ v text. underscored_word v.path text) d.vars texts.vars;
      processes = item_name d.processes texts.processes;
      tasks = item_name d.tasks texts.tasks;
      few_vars = omega arith;
      few_processes = omega arith;
      few_tasks = omega arith;
    }
