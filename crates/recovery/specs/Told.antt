-- What is kept and what is told by a recovery.
use Rattle.std.specs.Prelude.{◌≡◌, ℕ, ◌&&◌, Bool, nat_eq, if◌then◌else◌, List, [], ◌∷◌, Option, None, Some, is_some, map}
use Rattle.std.specs.List.{AllByRecursion}
use Rattle.ids.specs.Names.{Grant}
use Rattle.ids.specs.Naming.{name_of_frame, name_of_record}
use Rattle.ids.specs.Ordered.{AreInOrder}
use Rattle.ids.specs.declared.member.Member.{Member}
use Rattle.ids.specs.declared.work.Record.{Record}
use Rattle.task_tree.specs.declared.tree.Program.{Program}
use Rattle.sub_rules.specs.Debts.{IsSound}
use Rattle.sub_rules.specs.Changes.{readied_in}
use Rattle.sub_rules.specs.Content.{ready_in}
use Rattle.sub_rules.specs.Readiness.{TellsReady, times_listed}
use Rattle.sub_rules.specs.declared.change.Readied.{Readied}
use Rattle.subcomputation.specs.Fitting.{Fits}
use Rattle.subcomputation.specs.Recovering.{Recovery, recovered}
use Rattle.subcomputation.specs.Subs.{SubOf, grants_of_subs, host_in, name_of_sub, put_sub, sub_in}
use Rattle.subcomputation.specs.declared.sub.ReadiedOf.{ReadiedOf}
use Rattle.subcomputation.specs.Told.{HasNoOthers}
pub use Rattle.ids.specs.Names.{same_grant}

-- a subcomputation as its type keeps it
pub record IsWhole (s : SubOf) : Type 0 where
  pub sound : IsSound s.content
  pub frames : AreInOrder name_of_frame s.content.frames
  pub records : AreInOrder name_of_record s.content.records

-- subcomputations as a store keeps them
pub record AreWhole (subs : List SubOf) : Type 0 where
  pub each : AllByRecursion IsWhole subs
  pub order : AreInOrder name_of_sub subs

-- the ready frames that are told of a grant's subcomputation
abbrev pub told_of : Grant → List ReadiedOf → List Readied
told_of g [] = []
told_of g (r ∷ rs) = if same_grant r.grant g then r.frame ∷ told_of g rs else told_of g rs

-- a subcomputation that is left was held before, what became ready in it is told, and it has no new
-- record and fits what it fitted
pub record IsLeft (g : Grant) (before : List SubOf) (s : SubOf) (again : List ReadiedOf) : Type 0 where
  pub was : SubOf
  pub there : sub_in g before ≡ Some was
  pub ready : TellsReady was.content s.content (told_of g again)
  pub records : HasNoOthers was.content.records s.content.records
  pub fits : (p : Program) → Fits p was.content → Fits p s.content

-- the ready frames of a subcomputation that comes are told, each once
pub record ComesTold (s : SubOf) (told : List Readied) : Type 0 where
  pub each : (r : Readied) → times_listed r (readied_in s.content.frames) ≡ if is_some (ready_in r.frame s.content) then times_listed r told else 0

-- those of an option
abbrev pub those : Option SubOf → List SubOf
those None = []
those (Some s) = s ∷ []

-- frames of a grant's subcomputation, as ready frames in it
abbrev pub all_in : Grant → List Readied → List ReadiedOf
all_in g told = map (λ r. record { grant = g; frame = r }) told

-- the same recovery, with what it leaves beside other subcomputations
abbrev pub all_put : List SubOf → List SubOf → List SubOf
all_put [] subs = subs
all_put (s ∷ ss) subs = all_put ss (put_sub s subs)

abbrev pub beside : Recovery → List SubOf → Recovery
beside r subs = record { subs = all_put r.subs subs; stopped = r.stopped; again = r.again }

-- none of its records is hosted by these
abbrev pub AreForeign : List Record → List SubOf → Type 0
AreForeign records subs = AllByRecursion (λ r. host_in r.grant subs ≡ None) records
