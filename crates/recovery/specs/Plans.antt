-- A plan of a recovery: what becomes of each subcomputation that changes, which holders are told to
-- stop, and which frames are ready again.
use Rattle.std.specs.Prelude.{◌≡◌, ℕ, List, ◌++◌, [], ◌∷◌, map, IsSome, Option, Some, None, option_map, if◌then◌else◌}
use Rattle.std.specs.List.{AllByRecursion}
use Rattle.ids.specs.Named.{item_in, put_in, without_in}
use Rattle.ids.specs.Names.{Grant}
use Rattle.ids.specs.Naming.{name_of_grant}
use Rattle.ids.specs.declared.member.Member.{Member}
use Rattle.ids.specs.declared.work.Record.{Record}
use Rattle.sub_rules.specs.Changes.{frame_of, readied, redone, with_thief}
use Rattle.subcomputation.specs.Subs.{SubOf, grants_of_subs, has_record, host_in, put_sub, sub_in, with_content, without_sub}
use Rattle.subcomputation.specs.declared.sub.ReadiedOf.{ReadiedOf}
use Rattle.subcomputation.specs.Recovering.{Recovery, for_each, recovered, settle_sub}
use Rattle.recovery.specs.declared.plan.Draft.{Draft}
use Rattle.recovery.specs.declared.plan.Hosted.{Hosted}
use Rattle.recovery.specs.declared.plan.Settled.{Settled}
use Rattle.recovery.specs.declared.plan.Settled.TheVariants.{Goes, Stays}
use Rattle.recovery.specs.declared.plan.Stopped.{Stopped}

pub record PlanOf : Type 0 where
  pub settled : List Settled
  pub stopped : List Stopped
  pub again : List ReadiedOf

-- the grant whose subcomputation is settled
abbrev pub grant_of : Settled → Grant
grant_of (Goes g) = g
grant_of (Stays s) = s.grant

-- it goes, or another stands in its place
abbrev pub carried : Settled → List SubOf → List SubOf
carried (Goes g) subs = without_sub g subs
carried (Stays s) subs = put_sub s subs

abbrev pub carried_out : List Settled → List SubOf → List SubOf
carried_out [] subs = subs
carried_out (x ∷ xs) subs = carried_out xs (carried x subs)

-- what is settled is held
abbrev pub AreHeld : List Settled → List SubOf → Type 0
AreHeld settled subs = AllByRecursion (λ x. IsSome (sub_in (grant_of x) subs)) settled

-- what is settled, and another with it
abbrev pub settled_with : Settled → List Settled → List Settled
settled_with x settled = put_in (λ s. name_of_grant (grant_of s)) x settled

-- what is settled of all others
abbrev pub settled_but : Grant → List Settled → List Settled
settled_but g settled = without_in (λ s. name_of_grant (grant_of s)) (name_of_grant g) settled

-- the grant of a record, and who is told to stop
abbrev pub stop_of : Record → Stopped
stop_of r = record { grant = r.grant; holder = r.holder }

-- a draft leads to what a recovery leads to
abbrev pub LeadsTo : List SubOf → Draft → Recovery → Type 0
LeadsTo subs d r = (carried_out d.settled subs ≡ r.subs) × (d.stopped ≡ map stop_of r.stopped) × (d.again ≡ r.again) × AreHeld d.settled subs

-- what is settled leads further, to what a recovery leads to
abbrev pub Furthers : List SubOf → (old new : Draft) → Recovery → Type 0
Furthers subs old new r = (carried_out new.settled subs ≡ r.subs) × (new.stopped ≡ old.stopped ++ map stop_of r.stopped) × (new.again ≡ old.again ++ r.again) × AreHeld new.settled subs

-- all subcomputations, each settled by its host
abbrev pub settled_by_hosts : List Member → List SubOf → Recovery
settled_by_hosts members subs = for_each (settle_sub members) (grants_of_subs subs) subs

-- the subcomputation that hosts the record of a grant is noted as its host
abbrev pub IsHosted : List SubOf → Hosted → Type 0
IsHosted left h = option_map (λ s. s.grant) (host_in h.grant left) ≡ Some h.host

-- who is noted as the host of the record of a grant
abbrev pub hosted_in : Grant → List Hosted → Option Hosted
hosted_in g hosts = item_in (λ h. name_of_grant h.grant) (name_of_grant g) hosts

-- the host of the record of a grant, if it is this subcomputation
abbrev pub hosted_by : SubOf → Grant → Option Hosted
hosted_by s g = if has_record g s then Some (record { grant = g; host = s.grant }) else None

-- a subcomputation stands in a draft in the place of another one
abbrev pub stands_for : SubOf → Grant → Draft → List Settled
stands_for s g old = settled_with (Stays s) (settled_but g old.settled)

-- a record is closed: its frame is ready again, and its holder is told to stop
abbrev pub Closes : SubOf → Record → Hosted → (holder : ℕ) → (old new : Draft) → Type 0
Closes s r h holder old new =
    (new.settled ≡ stands_for (with_content s (redone r s.content)) h.host old)
    × (new.stopped ≡ old.stopped ++ record { grant = h.grant; holder = holder } ∷ [])
    × (new.again ≡ old.again ++ record { grant = h.host; frame = readied (frame_of r) } ∷ [])

-- a record is held by an heir, and nothing else changes
abbrev pub Inherits : SubOf → Hosted → (heir : ℕ) → (old new : Draft) → Type 0
Inherits s h heir old new =
    (new.settled ≡ stands_for (with_content s (with_thief h.grant heir s.content)) h.host old)
    × (new.stopped ≡ old.stopped)
    × (new.again ≡ old.again)

-- a plan leads to what the recovery of all these subcomputations by a roster leads to
pub record IsPlan (members : List Member) (before : List SubOf) (plan : PlanOf) : Type 0 where
  pub held : AreHeld plan.settled before
  pub subs : carried_out plan.settled before ≡ (recovered members (grants_of_subs before) before).subs
  pub stopped : plan.stopped ≡ map stop_of (recovered members (grants_of_subs before) before).stopped
  pub again : plan.again ≡ (recovered members (grants_of_subs before) before).again
