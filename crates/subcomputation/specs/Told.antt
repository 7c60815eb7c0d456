-- What a call of a subcomputation tells: the change of its content, as one of it.
use Rattle.std.specs.Prelude.{◌≡◌, List, Option, None, Some, Result, Ok, Err}
use Rattle.ids.specs.Names.{Grant}
use Rattle.ids.specs.declared.outcome.Progress.TheVariants.{Active}
use Rattle.ids.specs.declared.work.Record.{Record}
use Rattle.ids.specs.declared.work.Task.{Task}
use Rattle.victim_records.specs.Records.{record_in}
use Rattle.sub_rules.specs.declared.change.ContentChange.{ContentChange}
use Rattle.sub_rules.specs.declared.change.ContentRedo.{ContentRedo}
use Rattle.sub_rules.specs.declared.change.Filling.{Filling}
use Rattle.sub_rules.specs.declared.change.ContentGrant.{ContentGrant}
use Rattle.sub_rules.specs.declared.change.Opening.{Opening}
use Rattle.sub_rules.specs.declared.change.Readied.{Readied}
use Rattle.sub_rules.specs.declared.change.SubError.{SubError}
use Rattle.sub_rules.specs.declared.change.SubError.TheVariants.{Stale, Spent, Memory}
use Rattle.subcomputation.specs.declared.sub.SubRedo.{SubRedo}
use Rattle.sub_rules.specs.declared.updates.Prepared.{Prepared}
use Rattle.sub_rules.specs.declared.updates.Update.{Update}
use Rattle.sub_rules.specs.Updates.{change_by, opened_in, updated, MayUpdate}
use Rattle.subcomputation.specs.Subs.{IsBegun, SubOf, with_content}

-- what a change leads to: the subcomputation after it, the value that it put into a slot, the
-- frames that became ready, in the order in which they are posted, and the records that were
-- dropped, whose holders are told so
pub record SubChange : Type 0 where
  pub after : SubOf
  pub fill : Option Filling
  pub ready : List Readied
  pub dropped : List Record

abbrev pub changed : SubOf → ContentChange → SubChange
changed s c = record { after = with_content s c.after; fill = c.fill; ready = c.ready; dropped = c.dropped }

abbrev pub changed_by : SubOf → Option ContentChange → Option SubChange
changed_by s None = None
changed_by s (Some c) = Some (changed s c)

-- a frame that is given away: the subcomputation after it, and the task that the thief gets
pub record SubGrant : Type 0 where
  pub after : SubOf
  pub task : Task

abbrev pub given_by : SubOf → Option ContentGrant → Option SubGrant
given_by s None = None
given_by s (Some g) = Some (record { after = with_content s g.after; task = g.task })

abbrev pub again_by : SubOf → Option ContentRedo → Option SubRedo
again_by s None = None
again_by s (Some a) = Some (record { after = with_content s a.after; ready = a.ready })

abbrev pub carried_out : SubOf → Result ContentChange SubError → Result SubChange SubError
carried_out s (Ok c) = Ok (changed s c)
carried_out s (Err e) = Err e

-- what is prepared of a subcomputation, as a change of it
abbrev pub changed_of : SubOf → Prepared → SubChange
changed_of s p = changed s (change_by p s.content)

abbrev pub changed_of_some : SubOf → Option Prepared → Option SubChange
changed_of_some s None = None
changed_of_some s (Some p) = Some (changed_of s p)

-- a subcomputation in which a record stands in the place of its frame
abbrev pub opened_sub : Record → SubOf → SubOf
opened_sub x s = with_content s (opened_in x s.content)

-- what is prepared of a frame that is to be given away, as that
abbrev pub sub_grant_of : SubOf → Opening → SubGrant
sub_grant_of s p = record { after = opened_sub p.opened s; task = p.task }

abbrev pub given_of_some : SubOf → Option Opening → Option SubGrant
given_of_some s None = None
given_of_some s (Some p) = Some (sub_grant_of s p)

-- a subcomputation after an update of its content
abbrev pub updated_sub : Update → SubOf → SubOf
updated_sub u s = with_content s (updated u s.content)

-- what is prepared is what was to be answered, or there was no memory
abbrev pub IsPreparedAs : SubOf → Result ContentChange SubError → Result Prepared SubError → Type 0
IsPreparedAs s expected (Ok p) = carried_out s expected ≡ Ok (changed_of s p)
IsPreparedAs s expected (Err Stale) = expected ≡ Err Stale
IsPreparedAs s expected (Err Spent) = expected ≡ Err Spent
IsPreparedAs s expected (Err Memory) = Unit {0}

-- what is prepared may be made, of a subcomputation that goes on, and what is kept of that stays
pub record MayChange (s : SubOf) (p : Prepared) : Type 0 where
  pub may : MayUpdate p.update s.content
  pub begun : IsBegun (updated p.update s.content)
  pub active : s.content.progress ≡ Active

-- records of no grant but those of which there were some
abbrev pub HasNoOthers : List Record → List Record → Type 0
HasNoOthers before after = (g : Grant) → record_in g before ≡ None → record_in g after ≡ None

-- and of one more
abbrev pub HasNoOthersBut : Grant → List Record → List Record → Type 0
HasNoOthersBut granted before after = (g : Grant) → (g ≡ granted → ⊥) → record_in g before ≡ None → record_in g after ≡ None
