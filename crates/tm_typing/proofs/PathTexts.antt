-- In a design of a text each path has the text of one: that of an instance is empty or has it, and what an instance
-- holds is named by words.
use Rattle.std.proofs.Common.{◌≡◌, ℕ, zero, suc, ◌+◌, ◌<◌, ◌≤◌, ◌%◌, ◌^◌, Bool, true, Option, None, Some, List, [], ◌∷◌, ◌++◌, map, length, refl, sym, ap, ◌∙◌, subst, ⊎_elim, arith, ◌||◌, ◌==◌}
use Rattle.std.specs.Prelude.{slice_get, codes, ⊤}
use Rattle.std.specs.Fmt.{decimal}
use Rattle.std.specs.Option.{option_map}
use Rattle.std.specs.List.{AllByRecursion, AllPass, enumerate_from, range_with_len}
use Rattle.std.proofs.lemmas.Bool.{cases_lt}
use Rattle.std.proofs.lemmas.Bool.Decides.{nat_tests}
use Rattle.std.proofs.lemmas.Fmt.{decimal_by_steps}
use Rattle.std.proofs.lemmas.List.Elements.{All-from_recursion, All-nil, All-cons, All-append, All-weaker}
use Rattle.tm_syntax.specs.declared.design.Var.{Var}
use Rattle.tm_syntax.specs.declared.design.Item.{Item}
use Rattle.tm_syntax.specs.declared.tree.Ident.{Ident}
use Rattle.tm_syntax.specs.declared.tree.Num.{Num}
use Rattle.tm_syntax.specs.declared.tree.Param.{Param}
use Rattle.tm_syntax.specs.Tokens.{begins_name, continues_name, IsWordLike}
use Rattle.tm_syntax.specs.Tree.{LocalTree, VarTree, NamedTree, ProcessTree, TaskTree, InstanceTree, TemplateTree, SpecTree}
use Rattle.tm_syntax.specs.Scopes.Names.{number_of, type_of}
use Rattle.tm_syntax.specs.Scopes.Pauses.{is_controllable}
use Rattle.tm_syntax.specs.Design.{InstanceNode, DesignTree, member_path, IsSubtree, subtree, IsForest, none_left, one_more, AreInstances, literal_value, element_paths, declared_vars, kept_var, process_vars, with_goal, all_items, IsDesign}
use Rattle.tm_syntax.specs.Faults.{IsOfText}
use Rattle.tm_typing.specs.Paths.{continues_path, IsPathText, HasPathTexts}
use Rattle.tm_typing.proofs.Listed.{In, one_thing, no_thing, in_get, holds_in, all_hold, all_join, map_holds, each_get, in_numbered}
use Rattle.tm_typing.proofs.Words.{IsWord, IsShort, VarWords, ProcessWords, TaskWords, TemplateWords, text_words}
use Rattle.tm_typing.proofs.Held.{HoldsOf, slot_vars, all_vars, every_item}

-- what continues a path
abbrev Goes : ℕ → Type 0
Goes b = continues_path b ≡ true

begins_on : (b : ℕ) → begins_name b ≡ true → continues_path b ≡ true
begins_on b h = grind (arith, nat_tests)

continues_on : (b : ℕ) → continues_name b ≡ true → continues_path b ≡ true
continues_on b h = ap (λ (c : Bool). c || b == 46) h

digit_on : (n : ℕ) → n < 10 → continues_path (48 + n) ≡ true
digit_on n h = grind (arith, nat_tests)

name_on : (bs : List ℕ) → AllPass continues_name bs → AllPass continues_path bs
name_on bs all = All-weaker (λ b. continues_name b ≡ true) Goes continues_on bs all

-- a word continues a path
word_on : (bs : List ℕ) → IsWordLike bs → AllPass continues_path bs
word_on [] h = absurd h
word_on (b ∷ bs) h = All-cons Goes b bs (begins_on b h.0) (name_on bs h.1)

-- so does a number
number_on : (n : ℕ) → n < 2 ^ 64 → AllPass continues_path (decimal n)
number_on =
    decimal_by_steps (λ n ds. AllPass continues_path ds)
    (λ n below. All-cons Goes (48 + n) [] (digit_on n below) (All-nil Goes))
    (λ n ds more all. All-append Goes ds ((48 + n % 10) ∷ []) all
    (All-cons Goes (48 + n % 10) [] (digit_on (n % 10) (omega arith)) (All-nil Goes)))

-- a word is a path
word_text : (bs : List ℕ) → IsWordLike bs → IsPathText bs
word_text [] h = absurd h
word_text (b ∷ bs) h = (h.0, name_on bs h.1)

-- a path goes on behind a dot
longer_text : (base part : List ℕ) → IsPathText base → AllPass continues_path part → IsPathText (base ++ 46 ∷ part)
longer_text [] part text all = absurd text
longer_text (b ∷ bs) part text all = (text.0, All-append Goes bs (46 ∷ part) text.1 (All-cons Goes 46 part refl all))

-- the path of an instance: that of `main` is empty
abbrev IsBase : List ℕ → Type 0
IsBase [] = ⊤
IsBase (b ∷ bs) = IsPathText (b ∷ bs)

text_base : (path : List ℕ) → IsPathText path → IsBase path
text_base [] text = tt
text_base (b ∷ bs) text = text

member_text : (base name : List ℕ) → IsBase base → IsWordLike name → IsPathText (member_path base name)
member_text [] name of word = word_text name word
member_text (b ∷ bs) name of word = longer_text (b ∷ bs) name of (word_on name word)

module _ (spec : SpecTree) (ns : List InstanceNode) (words : AllByRecursion TemplateWords spec.templates) where
  mutual
    -- the instances below one have such paths where it has one
    below_based : (at end : ℕ) (n : InstanceNode) → slice_get ns at ≡ Some n → IsBase n.path →
        IsSubtree spec ns at end → (k : ℕ) (m : InstanceNode) → at ≤ k → k < end → slice_get ns k ≡ Some m →
        IsBase m.path
    below_based at end n here base (subtree {node = p} {t = t} is of all) k m low high there =
        let parent : n ≡ p = one_thing here is in
        ⊎_elim
        (λ below. forest_based p t t.instances p.children (at + 1) end
        (subst (λ (x : InstanceNode). IsBase x.path) parent base)
        (holds_in TemplateWords spec.templates words (in_get spec.templates p.template of)).instances all k m
        (omega arith) high there)
        (λ not. let same : at ≡ k = omega arith in
        subst (λ (x : InstanceNode). IsBase x.path) (one_thing here (ap (slice_get ns) same ∙ there)) base)
        (cases_lt at k)

    forest_based : (p : InstanceNode) (t : TemplateTree) (is : List InstanceTree) (cs : List ℕ) (at end : ℕ) →
        IsBase p.path → AllByRecursion (λ (i : InstanceTree). IsWord i.name) is → IsForest spec ns p t is cs at end →
        (k : ℕ) (m : InstanceNode) → at ≤ k → k < end → slice_get ns k ≡ Some m → IsBase m.path
    forest_based p t is cs at end base named none_left k m low high there = absurd (omega arith)
    forest_based p t is cs at end base named
        (one_more {child = n} {first = f} {others = o} {children = ds} {middle = c} here declared below others) k m low
        high there =
        let path = member_path p.path f.name.text in
        let child = subst IsBase (sym declared.path)
        (text_base path (member_text p.path f.name.text base named.0)) in
        ⊎_elim
        (λ within. below_based at c n here child below k m low within there)
        (λ beyond. forest_based p t o ds c end base named.1 others k m beyond high there)
        (cases_lt k c)

  all_based : AreInstances spec ns → AllByRecursion (λ (n : InstanceNode). IsBase n.path) ns
  all_based roots = of_root (slice_get ns 0) refl
    where
      of_root : (o : Option InstanceNode) → slice_get ns 0 ≡ o → AllByRecursion (λ (n : InstanceNode). IsBase n.path) ns
      of_root None here =
          no_thing (ap (option_map (λ (n : InstanceNode). n.path)) (sym here) ∙ roots.path)
      of_root (Some r) here =
          let empty : r.path ≡ [] =
          one_thing refl (ap (option_map (λ (n : InstanceNode). n.path)) (sym here) ∙ roots.path) in
          each_get (λ (n : InstanceNode). IsBase n.path) ns
          (λ k n below is. below_based 0 (length ns) r here (subst IsBase (sym empty) tt) roots.all k n (omega arith)
          below is)

-- the indices of elements are numbers of 64 bits
in_range : (count low : ℕ) → low + count ≤ 2 ^ 64 → AllByRecursion (λ k. k < 2 ^ 64) (range_with_len low count)
in_range zero low within = tt
in_range (suc count) low within = (omega arith, in_range count (low + 1) (omega arith))

element_texts : (size : Option Num) (base : List ℕ) → IsShort size → IsPathText base →
    AllByRecursion IsPathText (element_paths size base)
element_texts None base short text = (text, tt)
element_texts (Some n) base short text =
    let small : number_of n < 2 ^ 64 = short in
    map_holds IsPathText (λ k. base ++ 46 ∷ decimal k) (range_with_len 0 (number_of n))
    (λ k i. longer_text base (decimal k) text (number_on k
    (holds_in (λ k. k < 2 ^ 64) (range_with_len 0 (number_of n)) (in_range (number_of n) 0 (omega arith)) i)))

-- a variable has such a path
abbrev VarText : Var → Type 0
VarText v = IsPathText v.path

local_texts : (i : ℕ) (base : List ℕ) (ls : List LocalTree) → IsPathText base →
    AllByRecursion (λ (l : LocalTree). IsWord l.name) ls →
    AllByRecursion VarText (map (λ (l : LocalTree). kept_var i base l.ty l.name) ls)
local_texts i base ls text words =
    map_holds VarText (λ (l : LocalTree). kept_var i base l.ty l.name) ls
    (λ l j. longer_text base l.name.text text (word_on l.name.text
    (holds_in (λ (l : LocalTree). IsWord l.name) ls words j)))

param_texts : (i : ℕ) (base : List ℕ) (ps : List Param) → IsPathText base →
    AllByRecursion (λ (p : Param). IsWord p.name) ps →
    AllByRecursion VarText (map (λ (p : Param). kept_var i base p.ty p.name) ps)
param_texts i base ps text words =
    map_holds VarText (λ (p : Param). kept_var i base p.ty p.name) ps
    (λ p j. longer_text base p.name.text text (word_on p.name.text
    (holds_in (λ (p : Param). IsWord p.name) ps words j)))

module _ (spec : SpecTree) (i : ℕ) (base : List ℕ) (of : IsBase base) where
  declared_texts : (v : VarTree) → VarWords v → AllByRecursion VarText (declared_vars spec i base v)
  declared_texts v words =
      let paths = element_paths v.size (member_path base v.name.text) in
      map_holds VarText
      (λ p. record { path = p; ty = type_of v.ty; init = option_map (literal_value spec) v.init; instance = i }) paths
      (λ p j. holds_in IsPathText paths (element_texts v.size (member_path base v.name.text) words.size
      (member_text base v.name.text of words.name)) j)

  process_texts : (p : ProcessTree) → ProcessWords p → AllByRecursion VarText (process_vars i base p)
  process_texts p words =
      local_texts i (member_path base p.name.text) p.body.locals (member_text base p.name.text of words.name)
      words.locals

  slot_texts : (k : TaskTree) → TaskWords k → AllByRecursion VarText (slot_vars i base k)
  slot_texts k words =
      let path = member_path base k.name.text in
      let text = member_text base k.name.text of words.name in
      all_join VarText (map (λ (p : Param). kept_var i path p.ty p.name) k.params)
      (map (λ (l : LocalTree). kept_var i path l.ty l.name) k.body.locals)
      (param_texts i path k.params text words.params)
      (local_texts i path k.body.locals text words.locals)

  template_texts : (t : TemplateTree) → TemplateWords t → HoldsOf VarText spec i base t
  template_texts t words = record {
    vars = all_hold (λ (v : VarTree). AllByRecursion VarText (declared_vars spec i base v)) t.vars
        (λ v j. declared_texts v (holds_in VarWords t.vars words.vars j));
    processes = all_hold (λ (p : ProcessTree). AllByRecursion VarText (process_vars i base p)) t.processes
        (λ p j. process_texts p (holds_in ProcessWords t.processes words.processes j));
    tasks = all_hold (λ (k : TaskTree). AllByRecursion VarText (slot_vars i base k)) t.tasks
        (λ k j. slot_texts k (holds_in TaskWords t.tasks words.tasks j));
  }

-- an item has such a path
abbrev ItemText : Item → Type 0
ItemText x = IsPathText x.path

goal_texts : (gs : List Item) → AllByRecursion ItemText gs → AllByRecursion ItemText (with_goal gs)
goal_texts [] all = (
  word_text (codes "true") (
    refl,
    All-from_recursion (λ b. continues_name b ≡ true) (codes "rue")
        (refl, (refl, (refl, tt))),
  ),
  tt,
)
goal_texts (g ∷ gs) all = all

module _ (d : DesignTree) (of : IsOfText d.spec) (design : IsDesign d) where
  words_of : (t : TemplateTree) → In t d.spec.templates → TemplateWords t
  words_of t i = holds_in TemplateWords d.spec.templates (text_words d.spec of) i

  base_of : (i : ℕ × InstanceNode) → In i (enumerate_from 0 d.instances) → IsBase i.1.path
  base_of i at =
      holds_in (λ (n : InstanceNode). IsBase n.path) d.instances
      (all_based d.spec d.instances (text_words d.spec of) design.instances) (in_numbered 0 d.instances i at)

  var_texts : AllByRecursion VarText d.vars
  var_texts =
      subst (AllByRecursion VarText) (sym design.vars)
      (all_vars d.spec d.instances VarText
      (λ i at t j. template_texts d.spec i.0 i.1.path (base_of i at) t (words_of t j)))

  item_texts : {X : Type 0} (sort : TemplateTree → List X) (counts : X → Bool) (name : X → Ident) →
      ((t : TemplateTree) → TemplateWords t → (x : X) → In x (sort t) → IsWord (name x)) →
      AllByRecursion ItemText (all_items sort counts name d.spec d.instances)
  item_texts sort counts name word =
      every_item d.spec d.instances ItemText sort counts name
      (λ i at t j x k. member_text i.1.path (name x.1).text (base_of i at)
      (word t (words_of t j) x.1 (in_numbered 0 (sort t) x k)))

  process_item_texts : AllByRecursion ItemText d.processes
  process_item_texts =
      subst (AllByRecursion ItemText) (sym design.processes)
      (item_texts (λ t. t.processes) (λ _. true) (λ (p : ProcessTree). p.name)
      (λ t words p j. (holds_in ProcessWords t.processes words.processes j).name))

  task_item_texts : AllByRecursion ItemText d.tasks
  task_item_texts =
      subst (AllByRecursion ItemText) (sym design.tasks)
      (item_texts (λ t. t.tasks) (λ (k : TaskTree). is_controllable k.kind) (λ (k : TaskTree). k.name)
      (λ t words k j. (holds_in TaskWords t.tasks words.tasks j).name))

  goal_item_texts : AllByRecursion ItemText d.goals
  goal_item_texts =
      subst (AllByRecursion ItemText) (sym design.goals)
      (goal_texts (all_items (λ t. t.goals) (λ _. true) (λ (g : NamedTree). g.name) d.spec d.instances)
      (item_texts (λ t. t.goals) (λ _. true) (λ (g : NamedTree). g.name)
      (λ t words g j. holds_in (λ (n : NamedTree). IsWord n.name) t.goals words.goals j)))

  fairness_item_texts : AllByRecursion ItemText d.fairs
  fairness_item_texts =
      subst (AllByRecursion ItemText) (sym design.fairs)
      (item_texts (λ t. t.fairs) (λ _. true) (λ (f : NamedTree). f.name)
      (λ t words f j. holds_in (λ (n : NamedTree). IsWord n.name) t.fairs words.fairs j))

  pub path_texts : HasPathTexts d
  path_texts = record {
    vars = All-from_recursion VarText d.vars var_texts;
    processes = All-from_recursion ItemText d.processes process_item_texts;
    tasks = All-from_recursion ItemText d.tasks task_item_texts;
    goals = All-from_recursion ItemText d.goals goal_item_texts;
    fairs = All-from_recursion ItemText d.fairs fairness_item_texts;
  }
