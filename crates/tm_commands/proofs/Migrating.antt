-- The end of `migrate` is one, and how it is stopped.
use Rattle.std.proofs.Common.{◌≡◌, ℕ, Option, Some, Result, Err, List, [], ◌∷◌, refl}
use Rattle.tm_cert.specs.declared.shape.Kind.TheVariants.{Either}
use Rattle.tm_report.specs.declared.ending.Ending.{Ending}
use Rattle.tm_report.specs.declared.ending.Failure.{Failure}
use Rattle.tm_report.specs.declared.ending.Failure.TheVariants.{Memory}
use Rattle.tm_commands.specs.declared.stop.Stop.{Stop}
use Rattle.tm_commands.specs.Words.{migrate}
use Rattle.tm_commands.specs.World.{FilesData, OnlyReads}
use Rattle.tm_report.specs.Output.{SinkData}
use Rattle.tm_commands.specs.Inputs.{refuses_specification, refuses_long_cert, refuses_bad_cert}
use Rattle.tm_commands.specs.Migrate.{MigrateEnds, no_spec, no_cert, migrates, MigrateRefuses, refuses_spec}
use Rattle.tm_commands.specs.Migrate.{refuses_cert, may_be_refused, MigrateLeaves}
use Rattle.tm_commands.specs.Inner.Obeying.{Obeys}
use Rattle.tm_commands.specs.Inner.Stopping.{StopsBy, stop_outcome, IsLoadFailure, IsRefusal}
use Rattle.tm_commands.specs.Order.{IsDueOfTwo}
use Rattle.tm_commands.proofs.Certifying.{cert_of, cert_read, no_cert_of, one_no_cert}
use Rattle.tm_commands.proofs.Running.{stopped_obeys, unread_obeys}
use Rattle.tm_commands.proofs.Telling.{one_no_specification, specification_read}

-- `migrate` has one end
module _ (contents : List ℕ → Option (List ℕ)) (spec cert : List ℕ) where
  pub one_migrate_end : (one other : Ending) → MigrateEnds contents spec cert one →
      MigrateEnds contents spec cert other → one ≡ other
  one_migrate_end one other (no_spec p) (no_spec q) = one_no_specification contents spec one other p q
  one_migrate_end one other (no_spec p) (no_cert {d = d} read q) =
      absurd (specification_read contents spec d one read p)
  one_migrate_end one other (no_spec p) (migrates {d = d} read told) =
      absurd (specification_read contents spec d one read p)
  one_migrate_end one other (no_cert {d = d} read p) (no_spec q) =
      absurd (specification_read contents spec d other read q)
  one_migrate_end one other (no_cert {d = d} read p) (no_cert {d = e} also q) =
      one_no_cert contents cert d Either one other p (no_cert_of contents spec cert Either d e read also other q)
  one_migrate_end one other (no_cert {d = d} read p) (migrates {d = e} {c = c} also told) =
      absurd (cert_read contents cert d Either c one (cert_of contents spec cert Either d e read also c told) p)
  one_migrate_end one other (migrates {d = d} read told) (no_spec q) =
      absurd (specification_read contents spec d other read q)
  one_migrate_end one other (migrates {d = d} {c = c} read told) (no_cert {d = e} also q) =
      absurd (cert_read contents cert d Either c other told
      (no_cert_of contents spec cert Either d e read also other q))
  one_migrate_end one other (migrates p q) (migrates r s) = refl

module _ (spec cert out : List ℕ) (old new : FilesData) where
  refused_leaves : (ending : Ending) → MigrateRefuses cert ending → new.contents ≡ old.contents →
      MigrateLeaves old.contents new.contents spec cert out ending
  refused_leaves ending (refuses_spec refuses_specification) same = same
  refused_leaves ending (refuses_cert refuses_long_cert) same = same
  refused_leaves ending (refuses_cert refuses_bad_cert) same = same

  -- `migrate` was stopped before it wrote
  pub stopped_migrating : (sink : SinkData) (stop : Stop) (outcome : Result Ending Failure) →
      outcome ≡ stop_outcome stop → OnlyReads old new →
      StopsBy (IsRefusal (MigrateEnds old.contents spec cert) (MigrateRefuses cert) old new)
      (IsLoadFailure (spec ∷ cert ∷ []) (IsDueOfTwo old.contents spec cert) old new) stop →
      Obeys (Some (migrate spec cert out)) old new sink sink outcome
  stopped_migrating =
      stopped_obeys (Some (migrate spec cert out)) (MigrateEnds old.contents spec cert) (MigrateRefuses cert) old new
      (λ tells. tells) (λ is. cc) (λ ending cause. (refl, cause))
      (λ ending cause text other ends. one_migrate_end old.contents spec cert ending other cause ends.1)
      (λ ending named. may_be_refused named) refused_leaves

  -- memory ran out before `migrate` wrote
  pub wanting_migrating : (sink : SinkData) → OnlyReads old new →
      Obeys (Some (migrate spec cert out)) old new sink sink (Err Memory)
  wanting_migrating sink left =
      unread_obeys (Some (migrate spec cert out)) (MigrateEnds old.contents spec cert) (MigrateRefuses cert) old new
      (λ tells. tells) (λ is. cc) (λ ending cause. (refl, cause))
      (λ ending cause text other ends. one_migrate_end old.contents spec cert ending other cause ends.1)
      (λ ending named. may_be_refused named) refused_leaves sink Memory left tt
