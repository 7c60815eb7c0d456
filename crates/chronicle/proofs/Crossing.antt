-- Which values may cross threads: a world with its history and a seat may go to another thread
-- where its disk may, and so a chronicle is shared.
use denote.RattleType.{RattleType}
use denote.Enum.Declared.{shape as cases}
use denote.Builtin.{bool}
use denote.Ref.{NamedLft}
use denote.Param.Send.{AllSend, IsSend, IsSync, enum_send, plain_send, recorded_send, sendable}
use denote.Struct.Field.{shr_ref_field}
use Rattle.std.proofs.Common.{[], ◌∷◌}
use Rattle.std.specs.contracts.boxed.Box as Box
use Rattle.serial_meaning.specs.contracts.job.Job as Job
use Rattle.world_steps.specs.contracts.counts.RunCounts as RunCounts
use Rattle.std.proofs.Crossing.{Box-send, Vec-send, crosses}
use Rattle.chronicle.specs.contracts.chronicle.Chronicle as Chronicle
use Rattle.chronicle.specs.contracts.kept.Kept as History
use Rattle.chronicle.specs.contracts.seat.ActorSeat as ActorSeat
use Rattle.chronicle.specs.contracts.kept.Entry as Entry
use Rattle.chronicle.proofs.kept.Entry.TheSendSync as entry
use Rattle.turn_lock.proofs.seat.LockSeat.TheSendSync as lock_seat
use Rattle.turn_lock.proofs.lock.TurnLock.TheSendSync as lock
use Rattle.std.specs.contracts.vec.Vec as Vec
use Rattle.std.specs.contracts.alloc.Global as Heap
use Rattle.std.below.std_heap.specs.contracts.GlobalAllocator.TheImpl.{ghosts}
use Rattle.node_core.specs.contracts.node.Node as Node
use Rattle.node_steps.specs.contracts.node.JobNode as JobNode
use Rattle.node_state.proofs.node.Parts.TheSendSync as parts
use Rattle.clearinghouse.specs.contracts.house.House as House
use Rattle.clearinghouse.specs.contracts.book.Book as Book
use Rattle.clearinghouse.specs.contracts.parts.Stop as Stop
use Rattle.checkpoint.specs.contracts.store.Store as Store
use Rattle.clearinghouse.proofs.parts.Stop.TheSendSync as stop
use Rattle.clearinghouse.proofs.book.Book.TheSendSync as book
use Rattle.checkpoint.proofs.store.Store.TheSendSync as store
use Rattle.codec.specs.contracts.datagram.Datagram as Datagram
use Rattle.codec.proofs.datagram.Datagram.TheSendSync as datagram
use Rattle.std.specs.contracts.option.Option as Option
use Rattle.std.specs.contracts.snapshot.Snapshot as Snapshot
use Rattle.disk.specs.declared.device.Disk.{Ghosts}
use Rattle.disk.specs.declared.device.SteadyDisk.{Ghosts as SteadyGhosts}
use Rattle.ids.proofs.sorted_map.SortedMap.TheSendSync as words
use Rattle.ids.specs.contracts.sorted_map.SortedMap as SortedMap
use Rattle.node_steps.specs.contracts.parts.Fill as Fill
use Rattle.node_steps.proofs.parts.Fill.TheSendSync as fill
use Rattle.world_steps.specs.contracts.kept.Kept as Kept
use Rattle.world_steps.proofs.counts.RunCounts.TheSendSync as counts
use Rattle.world_steps.proofs.kept.Kept.TheSendSync as kept
use Rattle.world_steps.specs.contracts.house_slot.HouseSlot as HouseSlot
use Rattle.world_steps.specs.contracts.house_slot.HouseState as HouseState
use Rattle.world_steps.specs.contracts.world.World as World
use Rattle.world_steps.specs.contracts.parts.Word as Word
use Rattle.world_steps.specs.contracts.parts.WordNamed.TheImpl.{ghosts as named}
use Rattle.world_steps.proofs.parts.Word.TheSendSync as word
use Rattle.ids.proofs.listed.Listed.TheSendSync as listed
use Rattle.serial_meaning.specs.contracts.instr.Instr as Instr
use Rattle.serial_meaning.specs.contracts.instr.Source as Source
use Rattle.serial_meaning.specs.contracts.flat.Flat as Flat
use Rattle.serial_meaning.proofs.Crossing.{job}

-- a node, and a world

job_node : (a : NamedLft) → IsSend (JobNode.the_row a)
job_node a = search (sendable, job, parts.the_send) depth 20

node : (a : NamedLft) → IsSend (Node.the_row a)
node a = search (sendable, job_node) depth 20

house : (a : NamedLft) (D : RattleType) (g : Ghosts D.Denot) → IsSend D → IsSend (House.the_row a D g)
house a D g d =
    let fields : AllSend ((shr_ref_field a Job.the_row tt).row ∷ Book.the_row ∷ Store.the_row D g ∷
    (Option.the_field Stop.the_row).row ∷ []) = (
      search (sendable, job) depth 12,
      (
        book.the_send,
        (store.the_send D g d, (search (sendable, stop.the_send, stop.the_field_send) depth 20, tt)),
      ),
    ) in
    search (sendable, fields) depth 12

datagrams : IsSend (Kept.the_row Datagram.the_row)
datagrams = kept.the_send Datagram.the_row datagram.the_send

fills : IsSend (Kept.the_row Fill.the_row)
fills = kept.the_send Fill.the_row fill.the_send

used : IsSend (SortedMap.the_row Word.the_row named)
used = words.the_send Word.the_row named word.the_send

nodes : (a : NamedLft) → IsSend (Option.the_row (Node.the_row a))
nodes a = search (sendable, node) depth 20

stand : (a : NamedLft) (D : RattleType) (g : Ghosts D.Denot) → IsSend D → IsSend (HouseState.the_field a D g).row
stand a D g d = enum_send (cases (HouseState.the_type a D g))
    ((d, tt), ((stop.the_field_send, (d, tt)), ((house a D g d, tt), (tt, tt))))

seat : (a : NamedLft) (D : RattleType) (g : Ghosts D.Denot) → IsSend D → IsSend (HouseSlot.the_row a D g)
seat a D g d =
    let fields : AllSend ((shr_ref_field a Job.the_row tt).row ∷ (HouseState.the_field a D g).row ∷ []) =
    (search (sendable, job) depth 12, (stand a D g d, tt)) in
    search (sendable, fields) depth 12

all_nodes : (a : NamedLft) → IsSend (Vec.the_row (Option.the_row (Node.the_row a)) Heap.the_row ghosts)
all_nodes a = Vec-send (Option.the_row (Node.the_row a)) (nodes a)

source : IsSend (Source.the_field).row
source = enum_send (cases Source.the_type) (
  (plain_send _ _ _ _ _, tt),
  (
    (plain_send _ _ _ _ _, tt),
    (
      (search sendable depth 20, (plain_send _ _ _ _ _, (plain_send _ _ _ _ _, tt))),
      (
        (search sendable depth 20, (plain_send _ _ _ _ _, (plain_send _ _ _ _ _, tt))),
        (
          (search sendable depth 20, (plain_send _ _ _ _ _, tt)),
          (
            (search sendable depth 20, (plain_send _ _ _ _ _, tt)),
            (
              (search sendable depth 20, tt),
              tt,
            ),
          ),
        ),
      ),
    ),
  ),
)

instr_field : IsSend (Instr.the_field).row
instr_field = enum_send (cases Instr.the_type) (
  (source, tt),
  (
    (source, (plain_send _ _ _ _ _, tt)),
    (
      (source, tt),
      (
        (plain_send _ _ _ _ _, (plain_send _ _ _ _ _, tt)),
        (
          (plain_send _ _ _ _ _, (plain_send _ _ _ _ _, tt)),
          tt,
        ),
      ),
    ),
  ),
)

instr : IsSend Instr.the_row
instr = recorded_send (Instr.the_field).row _ _ (Instr.the_type).to_one instr_field

flat : IsSend Flat.the_row
flat = search (sendable, instr, listed.the_send) depth 25

world : (a : NamedLft) (D : RattleType) (g : Ghosts D.Denot) → IsSend D → IsSend (World.the_row a D g)
world a D g d =
    let fields : AllSend ((shr_ref_field a Job.the_row tt).row ∷ Flat.the_row ∷ Vec.the_row
    (Option.the_row (Node.the_row a)) Heap.the_row ghosts ∷ HouseSlot.the_row a D g ∷ Kept.the_row
    Datagram.the_row ∷ Kept.the_row Fill.the_row ∷ SortedMap.the_row Word.the_row named ∷ Box.the_row
    RunCounts.the_row Heap.the_row ghosts ∷ []) = (
      search (sendable, job) depth 12,
      (
        flat,
        (
          all_nodes a,
          (
            seat a D g d,
            (
              datagrams,
              (fills, (used, (search (sendable, Box-send, counts.the_send) depth 12, tt))),
            ),
          ),
        ),
      ),
    ) in
    search (sendable, fields) depth 12

-- a history with its world, a seat, and a chronicle

entries : IsSend (Vec.the_row Entry.the_row Heap.the_row ghosts)
entries = Vec-send Entry.the_row entry.the_send

history : (a : NamedLft) (D : RattleType) (g : Ghosts D.Denot) → IsSend D → IsSend (History.the_row a D g)
history a D g d =
    let fields : AllSend (Heap.the_row ∷ Vec.the_row Entry.the_row Heap.the_row ghosts ∷ Box.the_row
    (World.the_row a D g) Heap.the_row ghosts ∷ bool ∷ Snapshot.the_row D ∷ []) = (
      search (sendable, crosses) depth 12,
      (
        entries,
        (
          Box-send (World.the_row a D g) (world a D g d),
          (search sendable depth 12, (search (sendable, crosses) depth 12, tt)),
        ),
      ),
    ) in
    search (sendable, fields) depth 12

pub actor_seat : (a : NamedLft) (D : RattleType) (s : SteadyGhosts D.Denot) (g : Ghosts D.Denot) → IsSend D
    → IsSend (ActorSeat.the_row a D s g)
actor_seat a D s g d = search (sendable, history, lock_seat.the_send) depth 25

pub chronicle : (a : NamedLft) (D : RattleType) (s : SteadyGhosts D.Denot) (g : Ghosts D.Denot) → IsSend D
    → IsSync (Chronicle.the_row a D s g)
chronicle a D s g d = search (sendable, job, history, lock.the_sync, crosses) depth 25
