-- The scopes of several parts, and the first repeat in them.
use Rattle.std.proofs.Common.{◌≡◌, ℕ, suc, ◌+◌, ◌<◌, Option, None, Some, List, [], ◌∷◌, ◌++◌, map, length, take, get_or, slice_get, refl, sym, ap, ◌∙◌, subst, arith}
use Rattle.std.specs.List.{flat_map, enumerate_from}
use Rattle.std.specs.Option.{option_map, option_map_or, option_to_list}
use Rattle.std.proofs.lemmas.List.{map-append, take_more}
use Rattle.std.proofs.lemmas.List.Concat.{flat_map-append}
use Rattle.std.proofs.lemmas.List.Folds.{flat_map-map}
use Rattle.tm_syntax.specs.Tree.{ProcessTree, TaskTree, TemplateTree, SpecTree}
use Rattle.tm_syntax.specs.Places.{earliest_of}
use Rattle.tm_syntax.specs.Scopes.Context.{process_body, task_body}
use Rattle.tm_syntax.specs.Scopes.Declared.{locals, members, slots, task_slots, text_names}
use Rattle.tm_syntax.specs.Scopes.Parts.{BodyAt, process_body_at, task_body_at, template_bodies, bodies}
use Rattle.tm_syntax.specs.Faults.Marks.{Mark, first_mark}
use Rattle.tm_syntax.specs.Faults.Names.{repeats, names_twice}
use Rattle.tm_syntax.proofs.Places.{earliest-append}
use Rattle.tm_names.specs.ScopeNames.{mark_of}
use Rattle.tm_names.specs.TextScopes.{AreTemplateScopes, AreTextScopes, Each, none, more, IsProcessScope, IsTaskScope}
use Rattle.tm_names.specs.Inner.Repeats.{body_repeats, member_repeat, repeat_of}
use Rattle.tm_names.specs.declared.scopes.text_scopes.TemplateScopes.{TemplateScopes}
use Rattle.tm_names.specs.declared.scopes.text_scopes.TextScopes.{TextScopes}
use Rattle.tm_names.proofs.BodyParts.{flat_map-flat_map}

-- one more of each at the end
each_last : {X Y : Type 0} (Is : X → Y → Type 0) (xs : List X) (ys : List Y) (x : X) (y : Y) → Is x y →
    Each Is xs ys → Each Is (xs ++ x ∷ []) (ys ++ y ∷ [])
each_last Is xs ys x y is none = more is none
each_last Is xs ys x y is (more {xs = us} {ys = vs} one others) = more one (each_last Is us vs x y is others)

-- one part more of a list, with what was made for it
pub each_more : {W X Y : Type 0} (Is : X → Y → Type 0) (view : W → X) (ws : List W) (i : ℕ) (w : W)
    (old new : List Y) (y : Y) → i < length ws → w ≡ get_or ws i w → new ≡ old ++ y ∷ [] → Is (view w) y →
    Each Is (map view (take i ws)) old → Each Is (map view (take (i + 1) ws)) new
each_more {X = X} {Y = Y} Is view ws i w old new y within is grown one others =
    subst (λ (ys : List Y). Each Is (map view (take (i + 1) ws)) ys) (sym grown)
    (subst (λ (xs : List X). Each Is xs (old ++ y ∷ [])) (sym split)
    (each_last Is (map view (take i ws)) old (view w) y one others))
  where
    split : map view (take (i + 1) ws) ≡ map view (take i ws) ++ view w ∷ []
    split =
        ap (map view) (take_more ws i w within)
        ∙ map-append view (take i ws) (get_or ws i w ∷ [])
        ∙ ap (λ v. map view (take i ws) ++ view v ∷ []) (sym is)

-- the first fault of all parts, found part by part
first_of_each : {X Y : Type 0} (Is : X → Y → Type 0) (f : X → List Mark) (r : Y → List Mark) →
    ((x : X) (y : Y) → Is x y → first_mark (r y) ≡ first_mark (f x)) →
    (xs : List X) (ys : List Y) → Each Is xs ys → first_mark (flat_map r ys) ≡ first_mark (flat_map f xs)
first_of_each Is f r same xs ys none = refl
first_of_each Is f r same xs ys (more {x = x} {y = y} {xs = us} {ys = vs} is others) =
    earliest-append (λ (m : Mark). m.place) (r y) (flat_map r vs)
    ∙ (λ i. earliest_of (λ (m : Mark). m.place) (same x y is i) (first_of_each Is f r same us vs others i))
    ∙ sym (earliest-append (λ (m : Mark). m.place) (f x) (flat_map f us))

-- the first fault of a scope
pub first_of_one : (o : Option Mark) → first_mark (option_to_list o) ≡ o
first_of_one None = refl
first_of_one (Some m) = refl

-- the first fault of two lists
first_of_two : (a b c d : List Mark) → first_mark a ≡ first_mark c → first_mark b ≡ first_mark d →
    first_mark (a ++ b) ≡ first_mark (c ++ d)
first_of_two a b c d one two =
    earliest-append (λ (m : Mark). m.place) a b
    ∙ (λ i. earliest_of (λ (m : Mark). m.place) (one i) (two i))
    ∙ sym (earliest-append (λ (m : Mark). m.place) c d)

-- what the parts of a list hold, found by their numbers
by_number : {X Y : Type 0} (whole : List X) (f : ℕ → List Y) (h : X → List Y) →
    ((k : ℕ) (x : X) → slice_get whole k ≡ Some x → f k ≡ h x) →
    (n : ℕ) (xs : List X) → ((k : ℕ) → slice_get whole (n + k) ≡ slice_get xs k) →
    flat_map (λ (p : ℕ × X). f p.0) (enumerate_from n xs) ≡ flat_map h xs
by_number whole f h same n [] there = refl
by_number whole f h same n (x ∷ xs) there = λ i.
    same n x (ap (slice_get whole) (sym (plus_none n)) ∙ there 0) i
    ++ by_number whole f h same (n + 1) xs (λ k. ap (slice_get whole) (plus_one n k) ∙ there (suc k)) i
  where
    plus_none : (m : ℕ) → m + 0 ≡ m
    plus_none m = omega arith

    plus_one : (m k : ℕ) → m + 1 + k ≡ m + suc k
    plus_one m k = omega arith

-- the repeats of a body
abbrev repeats_at : BodyAt → List Mark
repeats_at b = repeats (slots b.context.template b.context.body ++ members b.context.template)

-- the repeats of the bodies of a template, process by process and task by task
bodies_split : (spec : SpecTree) (t : TemplateTree) →
    flat_map repeats_at (template_bodies spec t)
    ≡ flat_map (λ (p : ProcessTree). repeats (locals p.body ++ members t)) t.processes
    ++ flat_map (λ (k : TaskTree). repeats (task_slots k ++ members t)) t.tasks
bodies_split spec t =
    flat_map-append repeats_at (map (process_body_at spec t) (enumerate_from 0 t.processes))
    (map (task_body_at spec t) (enumerate_from 0 t.tasks))
    ∙ (λ i. of_processes i ++ of_tasks i)
  where
    from_none : (k : ℕ) → 0 + k ≡ k
    from_none k = omega arith

    of_processes : flat_map repeats_at (map (process_body_at spec t) (enumerate_from 0 t.processes))
        ≡ flat_map (λ (p : ProcessTree). repeats (locals p.body ++ members t)) t.processes
    of_processes =
        flat_map-map repeats_at (process_body_at spec t) (enumerate_from 0 t.processes)
        ∙ by_number t.processes (λ k. repeats (slots t (process_body k) ++ members t))
        (λ (p : ProcessTree). repeats (locals p.body ++ members t))
        (λ k p there. ap (λ o. repeats (option_map_or (λ (q : ProcessTree). locals q.body) o [] ++ members t)) there)
        0 t.processes (λ k. ap (slice_get t.processes) (from_none k))

    of_tasks : flat_map repeats_at (map (task_body_at spec t) (enumerate_from 0 t.tasks))
        ≡ flat_map (λ (k : TaskTree). repeats (task_slots k ++ members t)) t.tasks
    of_tasks =
        flat_map-map repeats_at (task_body_at spec t) (enumerate_from 0 t.tasks)
        ∙ by_number t.tasks (λ k. repeats (slots t (task_body k) ++ members t))
        (λ (k : TaskTree). repeats (task_slots k ++ members t))
        (λ n k there. ap (λ o. repeats (option_map_or task_slots o [] ++ members t)) there)
        0 t.tasks (λ k. ap (slice_get t.tasks) (from_none k))

-- the first repeat of the bodies of a template
first_of_bodies : (spec : SpecTree) (t : TemplateTree) (s : TemplateScopes) → AreTemplateScopes t s →
    first_mark (body_repeats s) ≡ first_mark (flat_map repeats_at (template_bodies spec t))
first_of_bodies spec t s are =
    first_of_two (flat_map repeat_of s.processes.items) (flat_map repeat_of s.tasks.items)
    (flat_map (λ (p : ProcessTree). repeats (locals p.body ++ members t)) t.processes)
    (flat_map (λ (k : TaskTree). repeats (task_slots k ++ members t)) t.tasks)
    (first_of_each (IsProcessScope (members t) s.members) (λ p. repeats (locals p.body ++ members t)) repeat_of
    (λ p b is. first_of_one (option_map mark_of b.repeat) ∙ is.repeat) t.processes s.processes.items are.processes)
    (first_of_each (IsTaskScope (members t) s.members) (λ k. repeats (task_slots k ++ members t)) repeat_of
    (λ k b is. first_of_one (option_map mark_of b.repeat) ∙ is.repeat) t.tasks s.tasks.items are.tasks)
    ∙ ap first_mark (sym (bodies_split spec t))

-- the first repeat of a text is the first one that its scopes keep
pub first_kept : (spec : SpecTree) (s : TextScopes) → AreTextScopes spec s →
    first_mark (repeat_of s.text ++ flat_map member_repeat s.templates.items
    ++ flat_map body_repeats s.templates.items)
    ≡ first_mark (names_twice spec)
first_kept spec s are =
    first_of_two (repeat_of s.text ++ flat_map member_repeat s.templates.items)
    (flat_map body_repeats s.templates.items)
    (repeats (text_names spec) ++ flat_map (λ (t : TemplateTree). repeats (members t)) spec.templates)
    (flat_map repeats_at (bodies spec))
    (first_of_two (repeat_of s.text) (flat_map member_repeat s.templates.items) (repeats (text_names spec))
    (flat_map (λ (t : TemplateTree). repeats (members t)) spec.templates)
    (first_of_one (option_map mark_of s.text.repeat) ∙ are.names.repeat)
    (first_of_each AreTemplateScopes (λ t. repeats (members t)) member_repeat
    (λ t u is. first_of_one (option_map mark_of u.members.repeat) ∙ is.members.repeat)
    spec.templates s.templates.items are.templates))
    (first_of_each AreTemplateScopes (λ t. flat_map repeats_at (template_bodies spec t)) body_repeats
    (first_of_bodies spec) spec.templates s.templates.items are.templates
    ∙ ap first_mark (sym (flat_map-flat_map repeats_at (template_bodies spec) spec.templates)))

-- the earlier ones of the first repeats that the scopes of a text keep
pub twice_of_parts : (s : TextScopes) (declared result of_members of_bodies : Option Mark) →
    declared ≡ earliest_of (λ (m : Mark). m.place) (option_map mark_of s.text.repeat) of_members →
    result ≡ earliest_of (λ (m : Mark). m.place) declared of_bodies →
    of_members ≡ first_mark (flat_map member_repeat s.templates.items) →
    of_bodies ≡ first_mark (flat_map body_repeats s.templates.items) →
    (spec : SpecTree) → AreTextScopes spec s → result ≡ first_mark (names_twice spec)
twice_of_parts s declared result of_members of_bodies first last one two spec are =
    last
    ∙ (λ i. earliest_of (λ (m : Mark). m.place)
    ((first
    ∙ (λ j. earliest_of (λ (m : Mark). m.place) (sym (first_of_one (option_map mark_of s.text.repeat)) j) (one j))
    ∙ sym (earliest-append (λ (m : Mark). m.place) (repeat_of s.text) (flat_map member_repeat s.templates.items))) i)
    (two i))
    ∙ sym (earliest-append (λ (m : Mark). m.place)
    (repeat_of s.text ++ flat_map member_repeat s.templates.items) (flat_map body_repeats s.templates.items))
    ∙ first_kept spec s are
