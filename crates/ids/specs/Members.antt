-- Rosters: what the clearinghouse says of a worker, and who has the work of one that left.
use Rattle.std.specs.Prelude.{ℕ, zero, suc, Bool, true, false, List, length, Option, None, Some}
use Rattle.ids.specs.Named.{item_in, put_in}
use Rattle.ids.specs.Naming.{name_of_member}
use Rattle.ids.specs.Options.{◌>>=◌}
use Rattle.ids.specs.declared.member.Member.{Member}
use Rattle.ids.specs.declared.member.Status.{Status}
use Rattle.ids.specs.declared.member.Status.TheVariants.{Live, Dead, Left}

-- with a member in its place
abbrev pub put_member : Member → List Member → List Member
put_member m members = put_in name_of_member m members

-- what is said of a worker; none of one that isn't listed
abbrev pub status_in : ℕ → List Member → Option Status
status_in i members = do
  m ← item_in name_of_member (i, 0) members
  Some m.status

-- whether it is said that a worker lives
abbrev pub says_live : Option Status → Bool
says_live None = false
says_live (Some Live) = true
says_live (Some Dead) = false
says_live (Some (Left heir)) = false

-- whether a worker is listed as live
abbrev pub is_live : ℕ → List Member → Bool
is_live i members = says_live (status_in i members)

-- who has a worker's work, by what is said of it: itself where it lives or isn't listed, nobody
-- where it is dead, and where it left, whoever has its heir's
abbrev pub bearer : (ℕ → Option ℕ) → ℕ → Option Status → Option ℕ
bearer bearer_of_heir i None = Some i
bearer bearer_of_heir i (Some Live) = Some i
bearer bearer_of_heir i (Some Dead) = None
bearer bearer_of_heir i (Some (Left heir)) = bearer_of_heir heir

-- the same, over at most so many workers; a circle of heirs ends at nobody
unfoldable pub follow : ℕ → List Member → ℕ → Option ℕ
follow zero members i = None
follow (suc most) members i = bearer (follow most members) i (status_in i members)

-- who has a worker's work; nobody where it is dead
abbrev pub resolve : List Member → ℕ → Option ℕ
resolve members i = follow (suc (length members)) members i
