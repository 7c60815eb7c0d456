-- The subcomputations that a node holds, by rising grant.
use Rattle.std.specs.Prelude.{ℕ, ◌<◌, Bool, List, Option, is_some, length, map, nat_eq}
use Rattle.std.specs.List.{find}
use Rattle.ids.specs.Names.{Grant}
use Rattle.ids.specs.Named.{Name, item_in, put_in, without_in}
use Rattle.ids.specs.Naming.{name_of_grant}
use Rattle.ids.specs.declared.work.Task.{Task}
use Rattle.victim_records.specs.Records.{record_in}
use Rattle.sub_rules.specs.declared.content.Content.{Content}
use Rattle.sub_rules.specs.Content.{granted_content}
use Rattle.sub_rules.specs.Changes.{readied_in}
use Rattle.subcomputation.specs.declared.sub.ReadiedOf.{ReadiedOf}
use Rattle.sub_rules.specs.Debts.{IsSound}
use Rattle.saved_values.specs.declared.value.SavedValue.{SavedValue}

-- what is kept of a content: it is sound, and the number of its first frame is given
pub record IsBegun (c : Content) : Type 0 where
  pub sound : IsSound c
  pub begun : 0 < c.next

-- a subcomputation: the grant under which its task came, how often it had moved when it came here,
-- its content, and the values that came with its task
pub record SubOf : Type 0 where
  pub grant : Grant
  pub hop : ℕ
  pub content : Content
  pub saved : List SavedValue

-- whether no values came with it
abbrev pub has_none : List SavedValue → Bool
has_none saved = nat_eq (length saved) 0

-- its name is its grant's
abbrev pub name_of_sub : SubOf → Name
name_of_sub s = name_of_grant s.grant

-- the subcomputation of a grant
abbrev pub sub_in : Grant → List SubOf → Option SubOf
sub_in g subs = item_in name_of_sub (name_of_grant g) subs

-- with a subcomputation in its place
abbrev pub put_sub : SubOf → List SubOf → List SubOf
put_sub s subs = put_in name_of_sub s subs

-- without the subcomputation of a grant
abbrev pub without_sub : Grant → List SubOf → List SubOf
without_sub g subs = without_in name_of_sub (name_of_grant g) subs

-- the same with another content
abbrev pub with_content : SubOf → Content → SubOf
with_content s c = record s { content = c }

-- whether a subcomputation has an open record of a grant
abbrev pub has_record : Grant → SubOf → Bool
has_record g s = is_some (record_in g s.content.records)

-- the subcomputation that has the open record of a grant
abbrev pub host_in : Grant → List SubOf → Option SubOf
host_in g subs = find (has_record g) subs

-- the grants of subcomputations
abbrev pub grants_of_subs : List SubOf → List Grant
grants_of_subs subs = map (λ s. s.grant) subs

-- the subcomputation that a granted task begins, for the host that granted it
abbrev pub granted_sub : Grant → Task → List SavedValue → SubOf
granted_sub g task saved = record { grant = g; hop = 0; content = granted_content g.minter task; saved = saved }

-- the ready frames of a subcomputation, by rising number
abbrev pub ready_frames : SubOf → List ReadiedOf
ready_frames s = map (λ r. record { grant = s.grant; frame = r }) (readied_in s.content.frames)
