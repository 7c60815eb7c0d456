-- What a node holds.
use Rattle.std.specs.Prelude.{ℕ, Bool, false, List, [], Option, None, Some}
use Rattle.std.specs.Ordering.{eq_by_cmp}
use Rattle.ids.specs.Named.{Name, item_in, put_in}
use Rattle.ids.specs.Names.{Grant, grant_cmp}
use Rattle.ids.specs.Naming.{name_of_grant}
use Rattle.ids.specs.Options.{◌>>=◌}
use Rattle.codec.specs.declared.body.Roster.{Roster}
use Rattle.steal_protocol.specs.Requests.{AskerOf}
use Rattle.steal_protocol.specs.declared.replies.Reply.{Reply}
use Rattle.subcomputation.specs.Subs.{SubOf, put_sub}
use Rattle.node_state.specs.Assemblies.{AssemblyOf}
use Rattle.node_state.specs.declared.parts.Confirmed.{Confirmed}
use Rattle.node_state.specs.declared.parts.Seen.{Seen}
use Rattle.node_state.specs.declared.parts.State.{State}
use Rattle.node_state.specs.declared.parts.State.TheVariants.{Joining, Member, Leaving, Ended}

-- a node: its name, where it stands, its subcomputations by rising grant, its requests, how many
-- grants it has minted, its last answer to each thief, which grant each thief has said last that it
-- has, and which grants it has taken. What it has taken it remembers as long as it lives
pub record NodeOf : Type 0 where
  pub incarnation : ℕ
  pub state : State
  pub subs : List SubOf
  pub asker : AskerOf
  pub minted : ℕ
  pub replies : List Reply
  pub confirmed : List Confirmed
  pub seen : List Seen
  pub assemblies : List AssemblyOf

-- nothing was asked
abbrev pub silent : AskerOf
silent = record { pending = None; asked = 0 }

-- a node that starts
abbrev pub starting : ℕ → NodeOf
starting word = record { incarnation = word; state = Joining; subs = []; asker = silent; minted = 0; replies = []; confirmed = []; seen = []; assemblies = [] }

-- a node that has ended; its counts stay, which nothing looks at any more
abbrev pub ended : NodeOf → NodeOf
ended n = record n { state = Ended; subs = []; asker = record n.asker { pending = None }; replies = []; confirmed = []; seen = []; assemblies = [] }

-- by where a node stands
unfoldable pub by_state : {B : Type 0} → State → (joining : B) → (member : Roster → B) → (leaving : Roster → ℕ → B) → (ended : B) → B
by_state Joining joining member leaving ended = joining
by_state (Member r) joining member leaving ended = member r
by_state (Leaving r heir) joining member leaving ended = leaving r heir
by_state Ended joining member leaving ended = ended

-- the hop with which a grant was taken, if it was
abbrev pub name_of_seen : Seen → Name
name_of_seen s = name_of_grant s.grant

abbrev pub hop_in : Grant → List Seen → Option ℕ
hop_in g seen = do
  s ← item_in name_of_seen (name_of_grant g) seen
  Some s.hop

abbrev pub put_seen : Grant → ℕ → List Seen → List Seen
put_seen g hop seen = put_in name_of_seen (record { grant = g; hop = hop }) seen

-- what each thief has said last stands under its name
abbrev pub name_of_confirmed : Confirmed → Name
name_of_confirmed c = (c.thief, 0)

abbrev pub put_confirmed : Confirmed → List Confirmed → List Confirmed
put_confirmed c confirmed = put_in name_of_confirmed c confirmed

-- whether a grant is the one that a thief has said last that it has
abbrev pub is_grant_of : Grant → Option Confirmed → Bool
is_grant_of g None = false
is_grant_of g (Some c) = eq_by_cmp grant_cmp c.grant g

abbrev pub is_confirmed : ℕ → Grant → List Confirmed → Bool
is_confirmed thief g confirmed = is_grant_of g (item_in name_of_confirmed (thief, 0) confirmed)

-- a subcomputation comes to a node, and with which hop it came is remembered
abbrev pub holding : SubOf → NodeOf → NodeOf
holding s n = record n { subs = put_sub s n.subs; seen = put_seen s.grant s.hop n.seen }
