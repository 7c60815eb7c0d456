-- The names under which frames, records and members are kept.
use Rattle.ids.specs.Names.{Grant}
use Rattle.ids.specs.Named.{Name}
use Rattle.ids.specs.declared.work.Frame.{Frame}
use Rattle.ids.specs.declared.work.Record.{Record}
use Rattle.ids.specs.declared.member.Member.{Member}

-- a frame's number
abbrev pub name_of_frame : Frame → Name
name_of_frame f = (f.number, 0)

-- a grant: its minter and its number
abbrev pub name_of_grant : Grant → Name
name_of_grant g = (g.minter, g.number)

-- a record's grant
abbrev pub name_of_record : Record → Name
name_of_record r = name_of_grant r.grant

-- a member's incarnation
abbrev pub name_of_member : Member → Name
name_of_member m = (m.incarnation, 0)
