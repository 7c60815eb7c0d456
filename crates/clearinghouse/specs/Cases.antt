-- What a packet does at the clearinghouse, by its kind.
use Rattle.std.specs.Prelude.{ℕ, ◌+◌, ◌^◌, ◌&&◌, ◌||◌, Bool, not, nat_eq, nat_lt, if◌then◌else◌, [], ◌∷◌, length, Option, None, Some, is_some, Result, Ok, Err}
use Rattle.ids.specs.Members.{is_live, status_in}
use Rattle.ids.specs.declared.member.Status.{Status}
use Rattle.ids.specs.declared.member.Status.TheVariants.{Live, Dead, Left}
use Rattle.ids.specs.declared.work.Task.{Task}
use Rattle.packet_fields.specs.declared.fault.Fault.{Fault}
use Rattle.codec.specs.Table.{PacketOf, is_house}
use Rattle.codec.specs.declared.body.Beat.{Beat}
use Rattle.codec.specs.declared.body.Body.{Body}
use Rattle.codec.specs.declared.body.Body.TheVariants as body
use Rattle.codec.specs.declared.body.Leave.{Leave}
use Rattle.codec.specs.declared.body.Save.{Save}
use Rattle.codec.specs.declared.body.Steal.{Steal}
use Rattle.codec.specs.declared.body.TaskResult.{TaskResult}
use Rattle.saved_values.specs.Places.{is_saved_place}
use Rattle.saved_values.specs.Saved.{is_taken, put_saved}
use Rattle.saved_values.specs.declared.value.SavedValue.{SavedValue}
use Rattle.serial_meaning.specs.Job.{JobOf}
use Rattle.steal_protocol.specs.Replies.{by_reply, reply_in}
use Rattle.clearinghouse.specs.House.{HouseOf, is_root, members_of, name_of}
use Rattle.clearinghouse.specs.Moves
use Rattle.clearinghouse.specs.Steps.{HouseAnswer, Ignored, Refused, Does, sends, sends_before}
use Rattle.clearinghouse.specs.declared.error.HouseError.TheVariants as error

-- by what the roster says of a worker: it is live, dead or left, or isn't listed
unfoldable pub by_status : {B : Type 0} → Option Status → (live gone unlisted : B) → B
by_status None live gone unlisted = unlisted
by_status (Some Live) live gone unlisted = live
by_status (Some Dead) live gone unlisted = gone
by_status (Some (Left heir)) live gone unlisted = gone

-- a value may be saved: its place is one of a saved value, isn't saved yet, and wouldn't be dropped
-- at once
abbrev pub may_save : SavedValue → HouseOf → Bool
may_save x h = is_saved_place x.place && is_taken x h.saved

-- Save: of a sender that isn't listed as live, beside an outcome, or of what may not be saved it is
-- ignored; else the value is saved
abbrev pub saved : Save → HouseOf → HouseAnswer
saved b h =
    let x : SavedValue = record { place = b.place; value = b.value } in
    if not (is_live b.from (members_of h)) || (is_some h.outcome || not (may_save x h)) then Ignored
    else if nat_lt (h.sequence + 1) (2 ^ 64) then Does (Moves.saves (put_saved x h.saved) h)
    else Refused error.Spent

module _ (job : JobOf) where
  -- Join: a new worker is listed and heard, if there is room for one more; one that is listed as
  -- live is heard; and each is told who is listed
  abbrev pub new_joined : ℕ → HouseOf → HouseAnswer
  new_joined i h =
      if nat_lt (length h.workers) 4096 then Does (Moves.tells job i (Moves.lists i h))
      else Refused error.RosterFull

  abbrev pub joined : ℕ → HouseOf → HouseAnswer
  joined i h =
      by_status (status_in i (members_of h)) (Does (Moves.tells job i (Moves.hears i h))) (Does (Moves.tells job i h)) (new_joined i h)

  -- the root task may be granted while it isn't, and there is no outcome
  abbrev pub free_task : HouseOf → Option Task
  free_task h = if is_some h.root || is_some h.outcome then None else Moves.root_task job

  -- a request that is newer than the last one: the root task is granted if it may be, and else it
  -- is refused
  abbrev pub served : Steal → Option Task → HouseOf → HouseAnswer
  served b None h = Does (Moves.refuses job b h)
  served b (Some task) h = if nat_lt (h.minted + 1) (2 ^ 64) then Does (Moves.grants job b task h) else Refused error.Spent

  -- Steal: of a thief that isn't listed as live, or older than its last one, it is ignored; the
  -- same again gets the last answer
  abbrev pub stolen : Steal → HouseOf → HouseAnswer
  stolen b h =
      if is_live b.from (members_of h)
      then by_reply (reply_in b.from h.replies) b.seq Ignored (λ reply. Does (sends (reply ∷ []) h)) (served b (free_task h) h)
      else Ignored

  -- Result: that of the root's grant is the outcome, which is committed and then acknowledged; any
  -- other is acknowledged
  abbrev pub returned : TaskResult → HouseOf → HouseAnswer
  returned b h =
      let ack = Moves.packet job b.from (body.ResultAck (record { grant = b.grant })) ∷ [] in
      if not (is_root b.grant h.root) then Does (sends ack h)
      else if nat_lt (h.sequence + 1) (2 ^ 64) then Does (Moves.records b.outcome ack h)
      else Refused error.Spent

  -- Leave: a live member has left, or is dead where nobody else can have its work, and is told so;
  -- then the root's grant is settled. One that is dead or left is told so again
  abbrev pub leaves : Leave → HouseOf → HouseAnswer
  leaves b h =
      let new = Moves.says b.from (Moves.leaving_status b.from b.heir (members_of h)) h in
      Does (sends_before (Moves.roster_for job b.from new ∷ []) (Moves.settles job new))

  abbrev pub left : Leave → HouseOf → HouseAnswer
  left b h = by_status (status_in b.from (members_of h)) (leaves b h) (Does (Moves.tells job b.from h)) Ignored

  -- Beat, of this epoch: a live member is heard; one whose roster is older is told who is listed
  abbrev pub answered_beat : Beat → HouseOf → HouseAnswer
  answered_beat b h = if nat_lt b.version h.version then Does (Moves.tells job b.from h) else Does (sends [] h)

  abbrev pub own_beat : Beat → HouseOf → HouseAnswer
  own_beat b h = by_status (status_in b.from (members_of h)) (answered_beat b (Moves.hears b.from h)) (answered_beat b h) Ignored

  -- Beat: one of another epoch is told who is listed
  abbrev pub beats : ℕ → Beat → HouseOf → HouseAnswer
  beats to b h = if nat_eq to (name_of h) then own_beat b h else if is_house to then Does (Moves.tells job b.from h) else Ignored

  abbrev pub if_own : ℕ → HouseOf → HouseAnswer → HouseAnswer
  if_own to h answer = if nat_eq to (name_of h) then answer else Ignored

  -- the table: a row for each kind, with whom it has to go to. All other kinds are ignored
  unfoldable pub on_body : ℕ → Body → HouseOf → HouseAnswer
  on_body to (body.Join b) h = if nat_eq to (2 ^ 63) then joined b.from h else Ignored
  on_body to (body.Steal b) h = if_own to h (stolen b h)
  on_body to (body.Result b) h = if_own to h (returned b h)
  on_body to (body.Leave b) h = if_own to h (left b h)
  on_body to (body.Beat b) h = beats to b h
  on_body to (body.Save b) h = if_own to h (saved b h)
  on_body to other h = Ignored

  -- a packet of another job is ignored
  unfoldable pub on_packet : PacketOf → HouseOf → HouseAnswer
  on_packet p h = if nat_eq p.job job.number then on_body p.to p.body h else Ignored

  -- bytes that are no packet are refused
  abbrev pub on_read : Result PacketOf Fault → HouseOf → HouseAnswer
  on_read (Err fault) h = Refused (error.Bytes fault)
  on_read (Ok p) h = on_packet p h
