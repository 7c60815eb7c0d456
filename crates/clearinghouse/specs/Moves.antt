-- The moves of the clearinghouse, of which its steps are made.
use Rattle.std.specs.Prelude.{ℕ, ◌+◌, ◌-◌, ◌&&◌, Bool, not, nat_eq, nat_lt, if◌then◌else◌, List, [], ◌∷◌, Option, None, Some}
use Rattle.ids.specs.Members.{is_live, resolve, says_live}
use Rattle.ids.specs.Named.{changed_in, put_in}
use Rattle.ids.specs.Names.{Grant}
use Rattle.ids.specs.Options.{◌>>=◌}
use Rattle.ids.specs.declared.member.Member.{Member}
use Rattle.ids.specs.declared.member.Status.{Status}
use Rattle.ids.specs.declared.member.Status.TheVariants.{Live, Dead, Left}
use Rattle.ids.specs.declared.outcome.Outcome.{Outcome}
use Rattle.ids.specs.declared.work.Task.{Task}
use Rattle.codec.specs.Table.{PacketOf}
use Rattle.codec.specs.declared.body.Body.{Body}
use Rattle.codec.specs.declared.body.Body.TheVariants as body
use Rattle.codec.specs.declared.body.Steal.{Steal}
use Rattle.saved_values.specs.declared.value.SavedValue.{SavedValue}
use Rattle.serial_meaning.specs.Job.{JobOf}
use Rattle.serial_meaning.specs.Places.{root}
use Rattle.steal_protocol.specs.Replies.{put_reply}
use Rattle.clearinghouse.specs.House.{HouseOf, members_of, name_of, name_of_enlisted, roster_of}
use Rattle.clearinghouse.specs.Steps.{HouseStepOf, commits, sends}
use Rattle.clearinghouse.specs.declared.parts.Enlisted.{Enlisted}
use Rattle.clearinghouse.specs.declared.parts.RootGrant.{RootGrant}

-- other workers on the roster: that is another version of it
abbrev pub with_workers : List Enlisted → HouseOf → HouseOf
with_workers workers h = record h { version = h.version + 1; workers = workers }

-- a worker is listed as live, and heard now
abbrev pub lists : ℕ → HouseOf → HouseOf
lists i h = with_workers (put_in name_of_enlisted (record { incarnation = i; status = Live; heard = h.moment }) h.workers) h

-- a listed worker is changed
abbrev pub changed : (Enlisted → Enlisted) → ℕ → List Enlisted → List Enlisted
changed change i workers = changed_in name_of_enlisted change (i, 0) workers

-- it is heard now
abbrev pub hears : ℕ → HouseOf → HouseOf
hears i h = record h { workers = changed (λ w. record w { heard = h.moment }) i h.workers }

-- something else is said of it
abbrev pub says : ℕ → Status → HouseOf → HouseOf
says i status h = with_workers (changed (λ w. record w { status = status }) i h.workers) h

-- what becomes of a member that leaves: it left to whoever has its heir's work, if that is another
-- live member; else it is dead
abbrev pub left_to : ℕ → List Member → Option ℕ → Status
left_to i members None = Dead
left_to i members (Some heir) = if not (nat_eq heir i) && is_live heir members then Left heir else Dead

abbrev pub leaving_status : (from heir : ℕ) → List Member → Status
leaving_status from heir members = left_to from members (resolve members heir)

-- a live member is lost if it was last heard too long ago
abbrev pub is_lost : (limit now : ℕ) → Enlisted → Bool
is_lost limit now w = says_live (Some w.status) && nat_lt limit (now - w.heard)

-- those that are lost are dead
abbrev pub declared_dead : (limit now : ℕ) → Enlisted → Enlisted
declared_dead limit now w = record w { status = if is_lost limit now w then Dead else w.status }

-- the outcome comes: it is committed, the root's grant isn't out any more, and then packets are
-- sent
abbrev pub records : Outcome → List PacketOf → HouseOf → HouseStepOf
records o sent h = commits sent (record h { outcome = Some o; root = None })

-- a value is saved with the others: that is committed, and nothing is sent
abbrev pub saves : List SavedValue → HouseOf → HouseStepOf
saves saved h = commits [] (record h { saved = saved })

module _ (job : JobOf) where
  -- a packet of the job
  abbrev pub packet : ℕ → Body → PacketOf
  packet to b = record { job = job.number; to = to; body = b }

  -- a worker is told who is listed
  abbrev pub roster_for : ℕ → HouseOf → PacketOf
  roster_for i h = packet i (body.Roster (roster_of h))

  abbrev pub tells : ℕ → HouseOf → HouseStepOf
  tells i h = sends (roster_for i h ∷ []) h

  -- a thief is answered, and the answer kept
  abbrev pub answers : ℕ → ℕ → Body → HouseOf → HouseStepOf
  answers thief seq b h =
      let p = packet thief b in sends (p ∷ []) (record h { replies = put_reply (record { thief = thief; seq = seq; packet = p }) h.replies })

  abbrev pub refuses : Steal → HouseOf → HouseStepOf
  refuses b h = answers b.from b.seq (body.Refuse (record { seq = b.seq })) h

  -- the root task: thread `main` on the input
  abbrev pub root_task : Option Task
  root_task = do
    t ← root job.program job.input
    Some (record { place = []; thread = t.thread; numbers = t.numbers })

  -- a thief is granted the root task, under the next number, with all values that are saved
  abbrev pub grants : Steal → Task → HouseOf → HouseStepOf
  grants b task h =
      let g : Grant = record { minter = name_of h; number = h.minted + 1 } in
      answers b.from b.seq (body.Grant (record { seq = b.seq; grant = g; task = task; saved = h.saved })) (record h { root = Some (record { grant = g; holder = b.from }); minted = h.minted + 1 })

  -- the root's grant by a changed roster: if nobody has its holder's work it isn't out any more,
  -- and the holder is told to stop; else whoever has that work is its holder
  abbrev pub settles_to : RootGrant → Option ℕ → HouseOf → HouseStepOf
  settles_to r None h = sends (packet r.holder (body.Abort (record { grant = r.grant })) ∷ []) (record h { root = None })
  settles_to r (Some holder) h = sends [] (record h { root = Some (record r { holder = holder }) })

  abbrev pub settles_root : Option RootGrant → HouseOf → HouseStepOf
  settles_root None h = sends [] h
  settles_root (Some r) h = settles_to r (resolve (members_of h) r.holder) h

  abbrev pub settles : HouseOf → HouseStepOf
  settles h = settles_root h.root h
