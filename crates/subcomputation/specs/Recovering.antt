-- What a newer roster does to subcomputations. One whose host is dead is dropped, and one whose
-- host left waits for whoever has that one's work; then a record whose holder is dead is closed and
-- its frame done again, and one whose holder left is held by whoever has that one's work.
use Rattle.std.specs.Prelude.{ℕ, List, [], ◌∷◌, ◌++◌, Option, None, Some, map}
use Rattle.std.specs.List.{flat_map}
use Rattle.ids.specs.Members.{resolve}
use Rattle.ids.specs.Named.{put_in}
use Rattle.ids.specs.Names.{Grant}
use Rattle.ids.specs.Naming.{name_of_grant}
use Rattle.ids.specs.declared.member.Member.{Member}
use Rattle.ids.specs.declared.work.Record.{Record}
use Rattle.victim_records.specs.Records.{record_in}
use Rattle.sub_rules.specs.Changes.{redone, with_parent, with_thief, frame_of, readied}
use Rattle.subcomputation.specs.Subs.{SubOf, sub_in, put_sub, without_sub, with_content, host_in}
use Rattle.subcomputation.specs.declared.sub.ReadiedOf.{ReadiedOf}

-- what a recovery leads to: the subcomputations after it, the records whose holders are told to
-- stop, in the order of their Aborts, and the frames that are ready again, in their order
pub record Recovery : Type 0 where
  pub subs : List SubOf
  pub stopped : List Record
  pub again : List ReadiedOf

-- nothing but these subcomputations
abbrev pub settled : List SubOf → Recovery
settled subs = record { subs = subs; stopped = []; again = [] }

infixl 10 ◌then◌
-- one part of a recovery, and then another
abbrev pub ◌then◌ : Recovery → (List SubOf → Recovery) → Recovery
r then f = let s = f r.subs in record { subs = s.subs; stopped = r.stopped ++ s.stopped; again = r.again ++ s.again }

-- a part for each, in turn
abbrev pub for_each : {A : Type 0} → (A → List SubOf → Recovery) → List A → List SubOf → Recovery
for_each f [] subs = settled subs
for_each f (x ∷ xs) subs = f x subs then for_each f xs

-- a part with what is there, else none
unfoldable pub for_some : {A : Type 0} → Option A → (A → List SubOf → Recovery) → List SubOf → Recovery
for_some None f subs = settled subs
for_some (Some a) f subs = f a subs

-- a subcomputation is dropped where nobody has its host's work, else it waits for whoever has it
abbrev pub sub_settled : SubOf → Option ℕ → List SubOf → Recovery
sub_settled s None subs = record { subs = without_sub s.grant subs; stopped = s.content.records; again = [] }
sub_settled s (Some host) subs = settled (put_sub (with_content s (with_parent host s.content)) subs)

abbrev pub settle_sub : List Member → Grant → List SubOf → Recovery
settle_sub members g subs = for_some (sub_in g subs) (λ s. sub_settled s (resolve members s.content.parent)) subs

-- a record is closed and its frame ready again where nobody has its holder's work, else whoever has
-- it holds it
abbrev pub record_settled : SubOf → Record → Option ℕ → List SubOf → Recovery
record_settled s r None subs = record {
  subs = put_sub (with_content s (redone r s.content)) subs;
  stopped = r ∷ [];
  again = record { grant = s.grant; frame = readied (frame_of r) } ∷ [];
}
record_settled s r (Some holder) subs = settled (put_sub (with_content s (with_thief r.grant holder s.content)) subs)

abbrev pub settle_record : List Member → Grant → List SubOf → Recovery
settle_record members g subs =
    for_some (host_in g subs) (λ s. for_some (record_in g s.content.records) (λ r. record_settled s r (resolve members r.holder))) subs

-- grants in their order, each once
abbrev pub ordered : List Grant → List Grant
ordered [] = []
ordered (g ∷ gs) = put_in name_of_grant g (ordered gs)

-- the grants of the records of a subcomputation that may be there
abbrev pub record_grants : Option SubOf → List Grant
record_grants None = []
record_grants (Some s) = map (λ r. r.grant) s.content.records

-- the grants of all records of the subcomputations of these grants, in their order
abbrev pub their_records : List Grant → List SubOf → List Grant
their_records grants subs = ordered (flat_map (λ g. record_grants (sub_in g subs)) grants)

-- recovery of the subcomputations of these grants by a roster: each of them first, then each record
-- that those left have, by rising grant over all of them
abbrev pub recovered : List Member → List Grant → List SubOf → Recovery
recovered members grants subs =
    for_each (settle_sub members) grants subs then λ left.
    for_each (settle_record members) (their_records grants left) left
