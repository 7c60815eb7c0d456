-- Which values of a run are shared by its threads, and which go to others.
use denote.RattleType.{RattleType}
use denote.Ref.{NamedLft}
use denote.Enum.Declared.{shape as cases}
use denote.Param.Send.{IsSend, IsSync, enum_send, recorded_send, recorded_sync, sendable, struct_send, struct_sync}
use denote.Struct.Declared.{shape}
use denote.Struct.Tuple.{TupleAt, type_at}
use denote.Param.SendFields.{declared_send, declared_sync}
use denote.Struct.Field.{shr_ref_field}
use denote.Param.{param}
use Rattle.std.proofs.Common.{[], ◌∷◌}
use Rattle.std.proofs.Crossing.{Vec-send, crosses, sync as heap}
use Rattle.std.specs.contracts.alloc.Global as Heap
use Rattle.std.specs.contracts.vec.Vec as Vec
use Rattle.std.below.std_heap.specs.contracts.GlobalAllocator.TheImpl.{ghosts}
use Rattle.board.specs.contracts.posting.Board as Board
use Rattle.chronicle.proofs.Crossing.{actor_seat, chronicle}
use Rattle.disk.specs.declared.device.Disk.{Ghosts}
use Rattle.disk.specs.declared.device.SteadyDisk.{Ghosts as SteadyGhosts}
use Rattle.ids.proofs.outcome.Outcome.TheSendSync as outcome
use Rattle.once_cell.proofs.race.once_box.OnceBox.TheSendSync as once
use Rattle.start_words.proofs.table.WordTable.TheSendSync as words
use Rattle.local_pool.proofs.owner.Owner.TheSendSync as owner
use Rattle.local_pool.proofs.worker.BodyWorker.TheSendSync as thief
use Rattle.local_pool.proofs.turns.TurnPass.TheSendSync as pass
use Rattle.local_pool.proofs.turns.TurnQueue.TheSendSync as queue
use Rattle.start_words.proofs.pen.Pen.TheSendSync as pen
use Rattle.node_runner.specs.contracts.crew.ActorContext as ActorContext
use Rattle.node_runner.specs.contracts.crew.NodeContext as NodeContext
use Rattle.node_runner.specs.contracts.crew.WorkerContext as WorkerContext
use Rattle.body_eval.specs.contracts.done.Done as Done
use Rattle.ids.proofs.listed.Listed.TheSendSync as listed
use Rattle.ids.proofs.short_list.ShortList.TheSendSync as short
use Rattle.local_pool.specs.contracts.owner.Owner as Owner
use Rattle.local_pool.specs.contracts.worker.BodyWorker as BodyWorker
use Rattle.runner_parts.specs.contracts.desk.Desk as Desk
use Rattle.runner_parts.specs.contracts.desk.Home as Home
use Rattle.event_script.specs.contracts.event.FrameOf as FrameOf
use Rattle.runner_parts.specs.contracts.desk.Ticket as Ticket
use Rattle.runner_parts.specs.contracts.turn.Evaluated as Evaluated
use Rattle.runner_parts.specs.contracts.turn.Found as Found
use Rattle.serial_meaning.specs.contracts.whole.Whole as Whole
use Rattle.serial_meaning.specs.contracts.keeping.UnderWay as UnderWay
use Rattle.runner_parts.specs.contracts.turn.Finished as Finished
use Rattle.grain.specs.contracts.kept.KeptValues as KeptValues
use Rattle.grain.specs.contracts.large.LargeTasks as LargeTasks
use Rattle.grain.specs.contracts.left.Left as Left
use Rattle.grain.specs.contracts.sizes.TaskSizes as TaskSizes
use Rattle.grain.specs.contracts.threads.Known as Known
use Rattle.grain.specs.contracts.threads.Threads as Threads
use Rattle.runner_parts.specs.contracts.bells.RunBells as RunBells
use Rattle.runner_parts.specs.contracts.leavers.Leavers as Leavers
use Rattle.runner_parts.specs.contracts.line.Line as Line
use Rattle.runner_parts.specs.contracts.pace.Pace as Pace
use Rattle.node_runner.specs.contracts.shared.Shared as Shared
use Rattle.runner_parts.proofs.bells.Bells.TheSendSync as bells
use Rattle.grain.proofs.budget.Budget.TheSendSync as budget
use Rattle.runner_parts.proofs.counts.Counts.TheSendSync as counts
use Rattle.runner_parts.proofs.config.RunConfig.TheSendSync as config

pub board : IsSync Board.the_row
board = search (sendable, once.the_sync, outcome.the_sync, outcome.the_send, crosses) depth 25

pub run_bells : IsSync RunBells.the_row
run_bells = search (sendable, crosses) depth 25

pub pace : IsSync Pace.the_row
pace = search (sendable, crosses) depth 25

pub leavers : IsSync Leavers.the_row
leavers = search (sendable, crosses) depth 25

pub shared : (s a : NamedLft) (G D : RattleType) (k : SteadyGhosts D.Denot) (h : Ghosts D.Denot) → IsSync G → IsSend D
    → IsSync (Shared.the_row s a G D k h)
shared s a G D k h y d = recorded_sync (Shared.the_field s a G D k h).row _ _ (Shared.the_type s a G D k h).to_one
    (struct_sync (shape (Shared.the_type s a G D k h)) (
      search (sendable, chronicle) depth 12,
      (
        search (sendable, words.the_sync) depth 12,
        (
          search (sendable, board) depth 12,
          (
            search (sendable, counts.the_sync) depth 12,
            (
              search (sendable, run_bells) depth 12,
              (
                search (sendable, pace) depth 12,
                (
                  search (sendable, leavers) depth 12,
                  (
                    search (sendable, config.the_sync) depth 12,
                    (
                      search (sendable, y) depth 12,
                      tt,
                    ),
                  ),
                ),
              ),
            ),
          ),
        ),
      ),
    ))

-- what the closure captures that is each thread's body: the runtime, the allocator, and what actors
-- share
pub captured : (l m n o p : NamedLft) (R G D : RattleType) (k : SteadyGhosts (param 2 D).Denot)
    (h : Ghosts (param 2 D).Denot) → IsSync (param 0 R) → IsSync (param 1 G) → IsSend (param 2 D)
    → IsSync (TupleAt [] ((shr_ref_field l (param 0 R) tt).row ∷ (shr_ref_field m Heap.the_row tt).row ∷
    (shr_ref_field n (Shared.the_row o p (param 1 G) (param 2 D) k h) tt).row ∷ []))
captured l m n o p R G D k h r g d =
    let one : IsSync (shr_ref_field l (param 0 R) tt).row = search (sendable, r) depth 12 in
    let two : IsSync (shr_ref_field m Heap.the_row tt).row = search (sendable, heap) depth 12 in
    let three : IsSync (shr_ref_field n (Shared.the_row o p (param 1 G) (param 2 D) k h) tt).row =
    search (sendable, shared o p (param 1 G) (param 2 D) k h g d) depth 12 in
    declared_sync (type_at [] ((shr_ref_field l (param 0 R) tt).row ∷ (shr_ref_field m Heap.the_row tt).row ∷
    (shr_ref_field n (Shared.the_row o p (param 1 G) (param 2 D) k h) tt).row ∷ []))
    (record { shared = one.shared }, (record { shared = two.shared }, (record { shared = three.shared }, tt)))

-- tickets, and turns that come back; what a node and a body worker begin with

ticket : IsSend Ticket.the_row
ticket = search (sendable, short.the_send, crosses) depth 25

done : IsSend Done.the_row
done = search (sendable, listed.the_send, short.the_send, crosses) depth 25

whole : IsSend Whole.the_row
whole = search (sendable, short.the_send, crosses) depth 25

wholes : IsSend (Vec.the_row Whole.the_row Heap.the_row ghosts)
wholes = Vec-send Whole.the_row whole

under_way : IsSend UnderWay.the_row
under_way = search (sendable, short.the_send, crosses) depth 25

under_ways : IsSend (Vec.the_row UnderWay.the_row Heap.the_row ghosts)
under_ways = Vec-send UnderWay.the_row under_way

found_field : IsSend (Found.the_field).row
found_field = enum_send (cases Found.the_type)
    ((search (sendable, done) depth 12, tt), ((search (sendable, whole) depth 12, tt), tt))

left_field : IsSend (Left.the_field).row
left_field = struct_send (shape Left.the_type) (
  search sendable depth 12,
  (
    search (sendable, wholes) depth 12,
    (search (sendable, under_ways) depth 12, (search sendable depth 12, tt)),
  ),
)

evaluated_field : IsSend (Evaluated.the_field).row
evaluated_field = struct_send (shape Evaluated.the_type)
    (search sendable depth 12, (search sendable depth 12, (found_field, (left_field, tt))))

evaluated : IsSend Evaluated.the_row
evaluated = recorded_send (Evaluated.the_field).row _ _ (Evaluated.the_type).to_one evaluated_field

finished : IsSend Finished.the_row
finished = search (sendable, evaluated, crosses) depth 25

line_field : IsSend (Line.the_field).row
line_field = struct_send (shape Line.the_type) (
  search (sendable, finished, queue.the_send, queue.the_sync, crosses) depth 25,
  (search (sendable, finished, pass.the_send) depth 25, tt),
)

kept : IsSend KeptValues.the_row
kept = search (sendable, wholes, crosses) depth 25

home_field : IsSend (Home.the_field).row
home_field = struct_send (shape Home.the_type) (line_field, (search (sendable, kept) depth 12, tt))

by_depth : IsSend (Vec.the_row (Vec.the_row UnderWay.the_row Heap.the_row ghosts) Heap.the_row ghosts)
by_depth = Vec-send (Vec.the_row UnderWay.the_row Heap.the_row ghosts) under_ways

large_field : IsSend (LargeTasks.the_field).row
large_field = struct_send (shape LargeTasks.the_type)
    (search (sendable, crosses) depth 12, (search (sendable, by_depth) depth 12, (search sendable depth 12, tt)))

known : IsSend (Vec.the_row Known.the_row Heap.the_row ghosts)
known = Vec-send Known.the_row (search sendable depth 20)

threads_field : IsSend (Threads.the_field).row
threads_field = struct_send (shape Threads.the_type) (search (sendable, known) depth 12, tt)

sizes_field : IsSend (TaskSizes.the_field).row
sizes_field = struct_send (shape TaskSizes.the_type)
    (search (sendable, budget.the_send) depth 12, (large_field, (threads_field, tt)))

own : IsSend (Owner.the_row Ticket.the_row)
own = search (sendable, owner.the_send, ticket) depth 25

steals : IsSend (BodyWorker.the_row Ticket.the_row)
steals = search (sendable, thief.the_send, ticket) depth 25

frames : IsSend (Vec.the_row FrameOf.the_row Heap.the_row ghosts)
frames = Vec-send FrameOf.the_row (search sendable depth 20)

desk_field : IsSend (Desk.the_field).row
desk_field = struct_send (shape Desk.the_type) (
  search (sendable, own) depth 12,
  (
    home_field,
    (
      search (sendable, bells.the_send, bells.the_sync, crosses) depth 25,
      (
        search sendable depth 12,
        (
          search sendable depth 12,
          (
            sizes_field,
            (
              search sendable depth 12,
              (
                search sendable depth 12,
                (search (sendable, crosses) depth 12, (search (sendable, frames) depth 12, tt)),
              ),
            ),
          ),
        ),
      ),
    ),
  ),
)

node_field : IsSend (NodeContext.the_field).row
node_field = struct_send (shape NodeContext.the_type) (search (sendable, pen.the_send) depth 12, (desk_field, tt))

pub node_context : IsSend NodeContext.the_row
node_context = recorded_send (NodeContext.the_field).row _ _ (NodeContext.the_type).to_one node_field

pub actor_context : (a : NamedLft) (D : RattleType) (k : SteadyGhosts D.Denot) (h : Ghosts D.Denot) → IsSend D
    → IsSend (ActorContext.the_row a D k h)
actor_context a D k h d = recorded_send (ActorContext.the_field a D k h).row _ _ (ActorContext.the_type a D k h).to_one
    (struct_send (shape (ActorContext.the_type a D k h))
    (actor_seat a D k h d, (search (sendable, node_context, crosses) depth 12, tt)))

worker_field : IsSend (WorkerContext.the_field).row
worker_field = struct_send (shape WorkerContext.the_type) (
  search (sendable, steals) depth 12,
  (line_field, (search (sendable, bells.the_send, bells.the_sync, crosses) depth 25, tt)),
)

pub worker_context : IsSend WorkerContext.the_row
worker_context = recorded_send (WorkerContext.the_field).row _ _ (WorkerContext.the_type).to_one worker_field

pub worker_contexts : IsSend (Vec.the_row WorkerContext.the_row Heap.the_row ghosts)
worker_contexts = Vec-send WorkerContext.the_row worker_context

-- what the closure captures that is all body workers' turns: the same, and their contexts
pub captured_workers : (l m n o p : NamedLft) (R G D : RattleType) (k : SteadyGhosts (param 2 D).Denot)
    (h : Ghosts (param 2 D).Denot) → IsSync (param 0 R) → IsSync (param 1 G) → IsSend (param 2 D)
    → IsSend (TupleAt [] ((shr_ref_field l (param 0 R) tt).row ∷ (shr_ref_field m Heap.the_row tt).row ∷
    (shr_ref_field n (Shared.the_row o p (param 1 G) (param 2 D) k h) tt).row ∷ Vec.the_row WorkerContext.the_row
    Heap.the_row ghosts ∷ []))
captured_workers l m n o p R G D k h r g d =
    let one : IsSend (shr_ref_field l (param 0 R) tt).row = search (sendable, r) depth 12 in
    let two : IsSend (shr_ref_field m Heap.the_row tt).row = search (sendable, heap) depth 12 in
    let three : IsSend (shr_ref_field n (Shared.the_row o p (param 1 G) (param 2 D) k h) tt).row =
    search (sendable, shared o p (param 1 G) (param 2 D) k h g d) depth 12 in
    declared_send (type_at [] ((shr_ref_field l (param 0 R) tt).row ∷ (shr_ref_field m Heap.the_row tt).row ∷
    (shr_ref_field n (Shared.the_row o p (param 1 G) (param 2 D) k h) tt).row ∷ Vec.the_row WorkerContext.the_row
    Heap.the_row ghosts ∷ [])) (
      record { owned = one.owned; leaving = one.leaving },
      (
        record { owned = two.owned; leaving = two.leaving },
        (
          record { owned = three.owned; leaving = three.leaving },
          (record { owned = worker_contexts.owned; leaving = worker_contexts.leaving }, tt),
        ),
      ),
    )
