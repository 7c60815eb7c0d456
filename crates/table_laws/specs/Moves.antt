-- What may happen to a view, as updates of its tables. When each may happen is said in Acts.
use Rattle.std.specs.Prelude.{ℕ, ℤ, ◌+◌, List, [], ◌∷◌, ◌++◌, Option, Some, None}
use Rattle.ids.specs.Names.{Grant}
use Rattle.table_laws.specs.Tables.{put, put_at, put_grant, clear}
use Rattle.table_laws.specs.Content.{Content, Fill, filled, regrant}
use Rattle.table_laws.specs.View.{Transfer, Ack, Result, Roster, Sub, Request, Gone, Joining, Member, House, Leaving, View}
use Rattle.table_laws.specs.Facts.{steal_of, grant_of}

-- a worker starts under a new name: nothing of it is known
abbrev pub start : View → ℕ → View
start v i = record v { used = i ∷ v.used; mode = put v.mode i Joining; minted = put v.minted i 0; asked = put v.asked i 0; seen = clear v.seen i; subs = clear v.subs i; pending = put v.pending i None; kept = clear v.kept i; roster = put v.roster i None }

-- the clearinghouse opens, in a new epoch and so under a new name; who is lost to it is told anew
abbrev pub open_house : View → ℕ → List ℕ → Roster → View
open_house v i lost roster = record (start v i) { mode = put v.mode i House; lost = lost; root = None; house = Some roster; epoch = roster.epoch }

-- the clearinghouse is down, or stops
abbrev pub close_house : View → ℕ → View
close_house v i = record v { mode = put v.mode i Gone; root = None; house = None }

-- a joining worker is a member
abbrev pub admit : View → ℕ → View
admit v i = record v { mode = put v.mode i Member }

-- a node keeps another roster
abbrev pub adopt : View → ℕ → Roster → View
adopt v i roster = record v { roster = put v.roster i (Some roster) }

-- a worker ends or is down
abbrev pub stop : View → ℕ → View
stop v i = record v { mode = put v.mode i Gone }

-- the same of one that said no Leave: it is lost
abbrev pub fail : View → ℕ → View
fail v i = record (stop v i) { lost = i ∷ v.lost }

-- one that is up turns out to be lost: it was found dead, or is of an earlier epoch
abbrev pub mark_lost : View → ℕ → View
mark_lost v i = record v { lost = i ∷ v.lost }

-- a thief sends its next Steal
abbrev pub ask : View → ℕ → ℕ → View
ask v i victim = record v { asked = put v.asked i (v.asked i + 1); pending = put v.pending i (Some (record { victim = victim; seq = v.asked i + 1 })); steals = steal_of i (v.asked i + 1) victim ∷ v.steals }

-- a victim's last reply to a thief is a Refuse
abbrev pub keep_refuse : View → ℕ → ℕ → ℕ → View
keep_refuse v i thief seq = record v { kept = put_at v.kept i thief (Some (record { seq = seq; given = None })) }

-- which it sends
abbrev pub refuse : View → ℕ → ℕ → ℕ → View
refuse v i thief seq = record (keep_refuse v i thief seq) { refusals = steal_of thief seq i ∷ v.refusals }

-- a victim's last reply to a thief is its next Grant
abbrev pub mint : View → ℕ → ℕ → ℕ → Content → View
mint v i thief seq c =
    record v {
      transfers = grant_of v i thief seq c ∷ v.transfers;
      minted = put v.minted i (v.minted i + 1);
      kept = put_at v.kept i thief (Some (record { seq = seq; given = Some (grant_of v i thief seq c) }));
    }

-- a thief no longer waits on its Steal
abbrev pub unpend : View → ℕ → View
unpend v i = record v { pending = put v.pending i None }

-- i takes a transfer; request is what it waits on afterwards, new is what it acknowledges
abbrev pub take : View → ℕ → Transfer → Option Request → List Ack → View
take v i t request new =
    record v {
      acks = new ++ v.acks;
      pending = put v.pending i request;
      seen = put_grant v.seen i t.grant (Some t.hop);
      subs = put_grant v.subs i t.grant (Some (record { hop = t.hop; content = t.content }));
    }

-- an OfferAck
abbrev pub acknowledge : View → Ack → View
acknowledge v ack = record v { acks = ack ∷ v.acks }

-- i departs: all its subs are frozen and offered to its heir
abbrev pub freeze : View → ℕ → ℕ → List Transfer → View
freeze v i heir offers = record v { transfers = offers ++ v.transfers; mode = put v.mode i (Leaving heir) }

-- a sub goes, released or dropped, with Aborts
abbrev pub remove : View → ℕ → Grant → List Grant → View
remove v i g aborted = record v { subs = put_grant v.subs i g None; settled = aborted ++ v.settled }

-- a sub has another content; with it go a fill perhaps, Results, ResultAcks and Aborts
abbrev pub alter : View → ℕ → Grant → Sub → Content → Option Fill → List Result → List Grant → View
alter v i g s c fill results gone = record v { subs = put_grant v.subs i g (Some (record { hop = s.hop; content = c })); fills = filled fill v.fills; results = results ++ v.results; settled = gone ++ v.settled }

-- a victim grants frame n of a sub
abbrev pub grant_frame : View → ℕ → Grant → Sub → ℕ → ℕ → ℕ → Content → View
grant_frame v i g s n thief seq c = alter (mint v i thief seq c) i g s (regrant s.content n (Some (grant_of v i thief seq c).grant)) None [] []

-- the clearinghouse grants the root task
abbrev pub grant_root : View → ℕ → ℕ → ℕ → Content → View
grant_root v i thief seq c = record (mint v i thief seq c) { root = Some (grant_of v i thief seq c).grant }

-- a ResultAck or an Abort alone
abbrev pub settle : View → Grant → View
settle v g = record v { settled = g ∷ v.settled }

-- the root record goes
abbrev pub close_root : View → Grant → View
close_root v k = record (settle v k) { root = None }

-- and its outcome is recorded
abbrev pub commit : View → Grant → Option ℤ → View
commit v k o = record (close_root v k) { stored = Some o }

-- a Leave
abbrev pub leave : View → ℕ → ℕ → ℕ → View
leave v i heir epoch = record v { leaves = record { from = i; heir = heir; epoch = epoch } ∷ v.leaves }

-- the clearinghouse has another roster
abbrev pub publish : View → Roster → View
publish v roster = record v { rosters = roster ∷ v.rosters; house = Some roster }
