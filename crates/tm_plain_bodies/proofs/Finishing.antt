-- What a machine does of a row or a body, where it has done all that was left of it.
use Rattle.std.proofs.Common.{◌≡◌, Result, List, [], ◌∷◌, ◌++◌, sym, ap, ◌∙◌, subst}
use Rattle.tm_base.specs.declared.place.Place.{Place}
use Rattle.tm_syntax.specs.declared.design.Design.{Design}
use Rattle.tm_syntax.specs.Tree.{BodyTree, StmtTree}
use Rattle.tm_syntax.specs.Design.Work.{WorkItem}
use Rattle.tm_plain_bodies.specs.declared.course.Course.{Course}
use Rattle.tm_plain_bodies.specs.declared.frame.Frame.{Frame}
use Rattle.tm_plain_bodies.specs.declared.halt.Halt.{Halt}
use Rattle.tm_plain_bodies.specs.declared.todo.Level.{Level}
use Rattle.tm_plain_bodies.specs.Frames.{BodyFits, RowFits, local_stmts}
use Rattle.tm_plain_bodies.specs.Inner.Owed.{frame_of, level_of, row}
use Rattle.tm_plain_bodies.specs.Inner.Steps.{Finishes}
use Rattle.tm_plain_bodies.specs.Runs.{Does, DoesBody, DoesRow, behind, body_work, items_of}
use Rattle.tm_plain_bodies.specs.Tables.{tables_of}
use Rattle.tm_plain_bodies.proofs.Bodies.{body_parts}
use Rattle.tm_plain_bodies.proofs.GoingOver.{nothing_behind}
use Rattle.tm_plain_bodies.proofs.Stepping.{same_frame}

module _ (d : Design) (f : Frame) where
  -- what may be done in a frame may be done where it stands
  pub fits_here : (ss : List StmtTree) → RowFits d f ss → (level : Level) → level ≡ level_of f →
      RowFits d (frame_of d level) ss
  fits_here ss h level is =
      subst (λ g. RowFits d g ss) (same_frame d f h.tables ∙ ap (frame_of d) (sym is)) h

  pub body_fits_here : (body : BodyTree) → BodyFits d f body → (level : Level) → level ≡ level_of f →
      BodyFits d (frame_of d level) body
  body_fits_here body h level is =
      subst (λ g. BodyFits d g body) (same_frame d f h.tables ∙ ap (frame_of d) (sym is)) h

  module _ {A : Type 0} (tables : f.reader.tables ≡ tables_of d) (level : Level) (is : level ≡ level_of f)
      (from to : Course) (r : Result A Halt) where
    -- by the tables of the frame, with no other work behind
    by_frame : (work : List Place → List WorkItem) →
        ((calls : List Place) → Does (tables_of d) (work (from.trail ++ calls) ++ []) (behind calls from)
        (behind calls to) r) → (calls : List Place) →
        Does f.reader.tables (work (from.trail ++ calls)) (behind calls from) (behind calls to) r
    by_frame work does calls =
        subst (λ x. Does x (work (from.trail ++ calls)) (behind calls from) (behind calls to) r) (sym tables)
        (subst (λ items. Does (tables_of d) items (behind calls from) (behind calls to) r)
        (nothing_behind (work (from.trail ++ calls))) (does calls))

    row_by_frame : (ss : List StmtTree) → Finishes d (row (level_of f) ss ∷ []) from to r →
        DoesRow f.reader ss from to r
    row_by_frame ss h = by_frame (λ trail. items_of f.reader trail ss) h

    body_by_frame : (body : BodyTree) →
        Finishes d (row (level_of f) (local_stmts body.locals) ∷ row (level_of f) body.stmts ∷ []) from to r →
        DoesBody f.reader from.trail body from to r
    body_by_frame body h =
        by_frame (λ trail. body_work f.reader trail body)
        (λ calls. subst (λ items. Does (tables_of d) items (behind calls from) (behind calls to) r)
        (ap (λ items. items_of f.reader (from.trail ++ calls) (local_stmts body.locals) ++ items)
        (nothing_behind (items_of f.reader (from.trail ++ calls) body.stmts))
        ∙ sym (body_parts f.reader (from.trail ++ calls) body)
        ∙ sym (nothing_behind (body_work f.reader (from.trail ++ calls) body))) (h calls))

  module _ {A : Type 0} where
    pub row_finished : (ss : List StmtTree) → f.reader.tables ≡ tables_of d → (level : Level) → level ≡ level_of f →
        (from to : Course) (r : Result A Halt) → Finishes d (row level ss ∷ []) from to r →
        DoesRow f.reader ss from to r
    row_finished ss tables level is from to r h =
        row_by_frame tables level is from to r ss (subst (λ l. Finishes d (row l ss ∷ []) from to r) is h)

    pub body_finished : (body : BodyTree) → f.reader.tables ≡ tables_of d → (level : Level) → level ≡ level_of f →
        (from to : Course) (r : Result A Halt) →
        Finishes d (row level (local_stmts body.locals) ∷ row level body.stmts ∷ []) from to r →
        DoesBody f.reader from.trail body from to r
    body_finished body tables level is from to r h =
        body_by_frame tables level is from to r body
        (subst (λ l. Finishes d (row l (local_stmts body.locals) ∷ row l body.stmts ∷ []) from to r) is h)
