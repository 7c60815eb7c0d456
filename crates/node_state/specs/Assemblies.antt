-- The parts of Offers that have come in Pieces, and were not put together yet.
use Rattle.std.specs.Prelude.{ℕ, Bool, true, false, not, List, [], ◌∷◌, Option, Some, None}
use Rattle.std.specs.List.{filter}
use Rattle.ids.specs.Members.{status_in}
use Rattle.ids.specs.Named.{Name, item_in, put_in, without_in}
use Rattle.ids.specs.Names.{Grant}
use Rattle.ids.specs.Naming.{name_of_grant}
use Rattle.ids.specs.declared.member.Member.{Member}
use Rattle.ids.specs.declared.member.Status.{Status}
use Rattle.ids.specs.declared.member.Status.TheVariants.{Live, Dead, Left}
use Rattle.codec.specs.Pieces.{PartOf, name_of_part}
use Rattle.codec.specs.declared.body.Piece.{Piece}

-- those of one Offer: its grant, who offers it, its hop, into how many parts it is cut, and those
-- that came, by rising number
pub record AssemblyOf : Type 0 where
  pub grant : Grant
  pub from : ℕ
  pub hop : ℕ
  pub pieces : ℕ
  pub parts : List PartOf

-- an assembly's name is its grant's
abbrev pub name_of_assembly : AssemblyOf → Name
name_of_assembly a = name_of_grant a.grant

abbrev pub assembly_in : Grant → List AssemblyOf → Option AssemblyOf
assembly_in g xs = item_in name_of_assembly (name_of_grant g) xs

abbrev pub put_assembly : AssemblyOf → List AssemblyOf → List AssemblyOf
put_assembly a xs = put_in name_of_assembly a xs

abbrev pub without_assembly : Grant → List AssemblyOf → List AssemblyOf
without_assembly g xs = without_in name_of_assembly (name_of_grant g) xs

abbrev pub part_in : ℕ → List PartOf → Option PartOf
part_in number parts = item_in name_of_part (number, 0) parts

abbrev pub put_part : PartOf → List PartOf → List PartOf
put_part y parts = put_in name_of_part y parts

-- the part that a Piece brings
abbrev pub part_of : Piece → PartOf
part_of b = record { number = b.number; bytes = b.bytes }

-- that of an Offer of which it is the first to come
abbrev pub begun : Piece → AssemblyOf
begun b = record { grant = b.grant; from = b.from; hop = b.hop; pieces = b.pieces; parts = part_of b ∷ [] }

-- with one part more
abbrev pub with_part : PartOf → AssemblyOf → AssemblyOf
with_part y a = record a { parts = put_part y a.parts }

-- those whose sender isn't shown dead
abbrev pub shows_dead : Option Status → Bool
shows_dead None = false
shows_dead (Some Live) = false
shows_dead (Some Dead) = true
shows_dead (Some (Left heir)) = false

abbrev pub of_living : List Member → List AssemblyOf → List AssemblyOf
of_living members xs = filter (λ a. not (shows_dead (status_in a.from members))) xs

-- without those of some names
abbrev pub without_all : List Name → List AssemblyOf → List AssemblyOf
without_all [] xs = xs
without_all (n ∷ ns) xs = without_all ns (without_in name_of_assembly n xs)
