-- The eight events of a newcomer, one after another.
use Rattle.std.proofs.Common.{codes, ◌≡◌, ◌+◌, ◌<◌, ◌≤◌, ◌^◌, ℕ, ℤ, Bool, true, false, cond, List, [], ◌∷◌, ◌++◌, length, map, slice_get, Option, None, Some, refl, sym, ap, subst, ◌∙◌, arith}
use Rattle.std.specs.Ordering.{eq_by_cmp, int_eq, is_eq}
use Rattle.std.proofs.lemmas.Bool.{and_from, eq-eqb, le-leb, lt-ltb}
use Rattle.std.proofs.lemmas.Bool.Decides.{Decides-int_eq}
use Rattle.std.proofs.lemmas.List.{append-nil}
use Rattle.ids.specs.Keyed.{has_key}
use Rattle.ids.specs.Members.{is_live, says_live, status_in}
use Rattle.ids.specs.Named.{item_in, name_cmp}
use Rattle.ids.specs.Names.{Grant, grant_cmp}
use Rattle.ids.specs.Naming.{name_of_grant, name_of_member}
use Rattle.ids.specs.Options.{◌>>=◌}
use Rattle.ids.specs.declared.member.Status.TheVariants as member
use Rattle.ids.specs.declared.outcome.Outcome.TheVariants.{Value}
use Rattle.ids.specs.declared.work.Task.{Task}
use Rattle.ids.proofs.NameOrder.{equal_to_itself}
use Rattle.ids.proofs.Replacing.{put_is_found}
use Rattle.codec.specs.Table.{PacketOf}
use Rattle.codec.specs.declared.body.Body.TheVariants as body
use Rattle.codec.specs.declared.body.Grant.{Grant as GrantBody}
use Rattle.codec.specs.declared.body.Steal.{Steal}
use Rattle.codec.specs.declared.body.TaskResult.{TaskResult}
use Rattle.serial_meaning.specs.Job.{JobOf, IsJob, meaning_of}
use Rattle.serial_meaning.specs.Places.{outcome_of, room, value_within}
use Rattle.serial_meaning.specs.Serial.{serial, serial_turns}
use Rattle.agreement_laws.proofs.Tasks.{numbers_given}
use Rattle.sub_rules.specs.Carrying.{holds_numbers}
use Rattle.sub_rules.specs.Changes.{ends}
use Rattle.sub_rules.specs.declared.change.ContentChange.{ContentChange}
use Rattle.subcomputation.specs.Subs.{SubOf, granted_sub, name_of_sub, sub_in}
use Rattle.steal_protocol.specs.Replies.{by_order, reply_in}
use Rattle.steal_protocol.specs.declared.asker.Request.{Request}
use Rattle.clearinghouse.specs.Cases as house_cases
use Rattle.clearinghouse.specs.House.{HouseOf, Open, Stopped, is_root, member_of, members_of, name_of, name_of_enlisted, roster_of}
use Rattle.clearinghouse.specs.Moves as moves
use Rattle.clearinghouse.specs.Steps as house
use Rattle.clearinghouse.specs.declared.parts.Enlisted.{Enlisted}
use Rattle.node_state.specs.Node.{NodeOf, by_state, starting}
use Rattle.node_state.specs.declared.parts.State.TheVariants.{Member}
use Rattle.node_steps.specs.Calls.{ask, asks, exec, join, start, whole_ready}
use Rattle.node_steps.specs.Cases.{Candidate, by_option, by_status, on_body, on_packet, saved_fit}
use Rattle.node_steps.specs.Moves.{changes, steal, takes}
use Rattle.node_steps.specs.Steps.{Does, StepOf, quiet}
use Rattle.node_steps.specs.declared.parts.Victim.TheVariants.{House}
use Rattle.kind_check.specs.Turns.{thread_of}
use Rattle.actor_laws.proofs.actor_agreement.Below.{root_fit}
use Rattle.actor_laws.specs.actor_agreement.Values.{AreBelowRoot}
use Rattle.actor_laws.proofs.next.Fitting.{arity_fits}
use Rattle.event_script.specs.declared.event.Asked.TheVariants as asked
use Rattle.event_script.specs.declared.event.Event.TheVariants.{Start, AtNode}
use Rattle.event_script.specs.declared.event.NodeEvent.TheVariants.{Deliver, Whole, Ask}
use Rattle.table_laws.proofs.Lists.{some_same}
use Rattle.world_steps.specs.Answers.{StepResult, stepped, with_some}
use Rattle.world_steps.specs.Nodes.{can_start, starts}
use Rattle.world_steps.specs.Steps.{CarriedOut}
use Rattle.world_steps.specs.World.{Down, HouseAt, IsUp, Up, WorldOf, node_in, open_house, recorded, with_used}
use Rattle.run_laws.specs.Right.{HouseIsRight}
use Rattle.run_laws.specs.Sound.{IsSound}
use Rattle.newcomer_laws.specs.Newcomers.{AllCarriedOut, CanCome, CanFinish, newcomers, turns_of}
use Rattle.newcomer_laws.proofs.Going.{HouseGoes, NodeGoes, house_goes, node_goes, one_more, sent_last, went}

-- what is said of a worker is what stands on the list
status_is : (i : ℕ) (ws : List Enlisted)
    → status_in i (map member_of ws) ≡ (item_in name_of_enlisted (i, 0) ws >>= (λ x. Some x.status))
status_is i [] = refl
status_is i (w ∷ ws) = by_test (status_is i ws) (has_key name_of_enlisted name_cmp (i, 0) w)
  where
    by_test : status_in i (map member_of ws) ≡ (item_in name_of_enlisted (i, 0) ws >>= (λ x. Some x.status))
        → (b : Bool)
        → (cond b (Some (member_of w)) (item_in name_of_member (i, 0) (map member_of ws)) >>= (λ m. Some m.status))
        ≡ (cond b (Some w) (item_in name_of_enlisted (i, 0) ws) >>= (λ x. Some x.status))
    by_test rest true = refl
    by_test rest false = rest

-- a grant is the same as itself
itself : (g : Grant) → eq_by_cmp grant_cmp g g ≡ true
itself g = ap is_eq (equal_to_itself (name_of_grant g))

-- slots of numbers hold these
held : (vs : List ℤ) → holds_numbers (map Some vs) vs ≡ true
held [] = refl
held (v ∷ vs) = and_from (int_eq v v) (holds_numbers (map Some vs) vs) ((Decides-int_eq v v).1 refl) (held vs)

-- the Result of the root's grant at the clearinghouse
outcome_heard : (job : JobOf) (b : TaskResult) (h : HouseOf) → is_root b.grant h.root ≡ true → h.sequence + 1 < 2 ^ 64
    → house_cases.on_packet job (moves.packet job (name_of h) (body.Result b)) h
    ≡ house.Does (moves.records b.outcome
    (moves.packet job b.from (body.ResultAck (record { grant = b.grant })) ∷ []) h)
unfolding house_cases.on_packet house_cases.on_body
outcome_heard job b h root room = rw (
  eq-eqb job.number job.number refl,
  eq-eqb (name_of h) (name_of h) refl,
  root,
  lt-ltb (h.sequence + 1) (2 ^ 64) room,
) refl

module _ (job : JobOf) (ok : IsJob job) (word : ℕ) (h : HouseOf) where
  -- the clearinghouse once the newcomer is listed, and the newcomer as a member, and once it asks
  abbrev listed : HouseOf
  listed = moves.lists word h

  abbrev enlisted : Enlisted
  enlisted = record { incarnation = word; status = member.Live; heard = h.moment }

  abbrev joined : NodeOf
  joined = record (starting word) { state = Member (roster_of listed) }

  abbrev request : Request
  request = record { victim = name_of h; seq = 1 }

  abbrev asking : NodeOf
  asking = record joined { asker = record { pending = Some request; asked = 1 } }

  -- the grant of the root's task
  abbrev its_steal : Steal
  its_steal = record { from = word; seq = 1 }

  abbrev first : Task
  first = record { place = []; thread = ok.takes.thread; numbers = job.input }

  abbrev grant : Grant
  grant = record { minter = name_of h; number = h.minted + 1 }

  abbrev granted : GrantBody
  granted = record { seq = 1; grant = grant; task = first; saved = h.saved }

  -- what it holds then
  abbrev sub : SubOf
  sub = granted_sub grant first h.saved

  abbrev holder : NodeOf
  holder = (takes job granted asking).after

  -- its Join
  is_listed : item_in name_of_enlisted (word, 0) h.workers ≡ None → length h.workers < 4096
      → house_cases.on_packet job (join job word) h ≡ house.Does (moves.tells job word listed)
  unfolding house_cases.on_packet house_cases.on_body house_cases.by_status
  is_listed none room =
      let unsaid : status_in word (members_of h) ≡ None =
      status_is word h.workers ∙ ap (λ (o : Option Enlisted). o >>= (λ x. Some x.status)) none in
      rw (eq-eqb job.number job.number refl, unsaid, lt-ltb (length h.workers) 4096 room) refl

  says_it : status_in word (members_of listed) ≡ Some member.Live
  says_it = status_is word listed.workers
      ∙ ap (λ (o : Option Enlisted). o >>= (λ x. Some x.status)) (put_is_found name_of_enlisted enlisted h.workers)

  -- the roster
  is_member : (choice : Option Candidate)
      → on_packet job choice (moves.roster_for job word listed) (starting word) ≡ Does (quiet joined)
  unfolding on_packet on_body by_state by_status
  is_member choice = rw (eq-eqb job.number job.number refl, eq-eqb word word refl, says_it) refl

  -- its request
  is_asked : ask job House joined ≡ Does (asks job (name_of h) joined)
  unfolding ask by_state
  is_asked = refl

  is_granted : h.root ≡ None → h.outcome ≡ None → reply_in word h.replies ≡ None → h.minted + 1 < 2 ^ 64
      → house_cases.on_packet job (steal job word request) listed ≡ house.Does (moves.grants job its_steal first listed)
  unfolding house_cases.on_packet house_cases.on_body by_order
  is_granted free none new room =
      let live : is_live word (members_of listed) ≡ true = ap says_live says_it in
      rw (
        eq-eqb job.number job.number refl,
        eq-eqb (name_of h) (name_of h) refl,
        live,
        free,
        none,
        new,
        ok.takes.found,
        lt-ltb (h.minted + 1) (2 ^ 64) room,
      ) refl

  -- the Grant
  is_taken : AreBelowRoot h.saved → (choice : Option Candidate)
      → on_packet job choice (moves.packet job word (body.Grant granted)) asking ≡ Does (takes job granted asking)
  unfolding on_packet on_body by_state
  is_taken below choice =
      let fits = arity_fits job.program ok.takes.thread (length job.input) ok.takes.takes in
      let saved : saved_fit first h.saved ≡ true = root_fit first h.saved refl below in
      rw (
        eq-eqb job.number job.number refl,
        eq-eqb word word refl,
        eq-eqb (name_of h) (name_of h) refl,
        fits,
        saved,
      ) refl

  -- its whole value
  module _ (v : ℤ) where
    abbrev change : ContentChange
    change = ends (Value v) (record sub.content { frames = [] })

    is_done : (most : ℕ) → serial job.program (room []) first.thread first.numbers ≡ Some v
        → serial_turns job.program (room []) first.thread first.numbers ≤ most
        → whole_ready job most grant 0 holder ≡ Does (changes job sub change holder)
    unfolding by_state by_option exec
    is_done most value enough =
        let there : sub_in grant holder.subs ≡ Some sub = put_is_found name_of_sub sub [] in
        rw (
          there,
          numbers_given first.numbers,
          le-leb (serial_turns job.program (room []) first.thread first.numbers) most enough,
          value,
          eq-eqb first.thread first.thread refl,
          held first.numbers,
        ) refl

    -- its Result
    abbrev result : TaskResult
    result = record { from = word; grant = grant; outcome = Value v }

    abbrev granting : HouseOf
    granting = (moves.grants job its_steal first listed).after

    is_recorded : h.sequence + 1 < 2 ^ 64
        → house_cases.on_packet job (moves.packet job (name_of h) (body.Result result)) granting
        ≡ house.Does (moves.records (Value v)
        (moves.packet job word (body.ResultAck (record { grant = grant })) ∷ []) granting)
    is_recorded commit = outcome_heard job result granting (itself grant) commit

-- its start
started : (job : JobOf) (a word : ℕ) (w : WorldOf) → can_start a word w ≡ true → (o : StepResult)
    → CarriedOut job (Start a word) w o → NodeGoes a (start job word) (with_used word w) o.world
started job a word w can o over =
    let all : starts job a word w ≡ stepped a (start job word) (with_used word w) = rw can refl in
    went a (start job word) (with_used word w) o (over ∙ all)

-- where a run of a newcomer stands: the open clearinghouse, its node, and how many packets were
-- sent
record Stage (a : ℕ) (h : HouseOf) (n : NodeOf) (sent : ℕ) (w : WorldOf) : Type 0 where
  house : open_house w.house ≡ Some h
  node : node_in a w.nodes ≡ Some n
  long : length w.net ≡ sent

-- the same with the packet that was sent last
record StageWith (a : ℕ) (h : HouseOf) (n : NodeOf) (p : PacketOf) (number sent : ℕ) (w : WorldOf) : Type 0 where
  stage : Stage a h n sent w
  last : slice_get w.net number ≡ Some p

quiet_stage : (a : ℕ) (h : HouseOf) (n : NodeOf) (s : StepOf) (k : ℕ) (w u : WorldOf) → Stage a h n k w
    → NodeGoes a s w u → s.sent ≡ [] → Stage a h s.after k u
quiet_stage a h n s k w u at goes none = record {
  house = ap open_house goes.house ∙ at.house;
  node = goes.node;
  long = ap (λ (l : List PacketOf). length l) (goes.net ∙ ap (λ (l : List PacketOf). w.net ++ l) none
      ∙ append-nil w.net) ∙ at.long;
}

said_stage : (a : ℕ) (h : HouseOf) (s : StepOf) (p : PacketOf) (k : ℕ) (w u : WorldOf) → open_house w.house ≡ Some h
    → length w.net ≡ k → NodeGoes a s w u → s.sent ≡ p ∷ [] → (j : ℕ) → k + 1 ≡ j → StageWith a h s.after p k j u
said_stage a h s p k w u open_now long goes one j next =
    let net : u.net ≡ w.net ++ p ∷ [] = goes.net ∙ ap (λ (l : List PacketOf). w.net ++ l) one in
    record {
      stage = record {
        house = ap open_house goes.house ∙ open_now;
        node = goes.node;
        long = ap (λ (l : List PacketOf). length l) net ∙ one_more w.net p k long ∙ next;
      };
      last = ap (λ (l : List PacketOf). slice_get l k) net ∙ sent_last w.net p k long;
    }

house_stage : (a : ℕ) (h : HouseOf) (n : NodeOf) (s : house.HouseStepOf) (p : PacketOf) (k : ℕ) (w u : WorldOf)
    → Stage a h n k w → HouseGoes s w u → s.sent ≡ p ∷ [] → (j : ℕ) → k + 1 ≡ j → StageWith a s.after n p k j u
house_stage a h n s p k w u at goes one j next =
    let net : u.net ≡ w.net ++ p ∷ [] = goes.net ∙ ap (λ (l : List PacketOf). w.net ++ l) one in
    record {
      stage = record {
        house = goes.house;
        node = ap (λ (l : List Up). node_in a l) goes.nodes ∙ at.node;
        long = ap (λ (l : List PacketOf). length l) net ∙ one_more w.net p k at.long ∙ next;
      };
      last = ap (λ (l : List PacketOf). slice_get l k) net ∙ sent_last w.net p k at.long;
    }

-- a packet that is delivered to the newcomer
comes_to : (job : JobOf) (a i : ℕ) (p : PacketOf) (n : NodeOf) (s : StepOf) (w : WorldOf) → node_in a w.nodes ≡ Some n
    → slice_get w.net i ≡ Some p → ((choice : Option Candidate) → on_packet job choice p n ≡ Does s) → (o : StepResult)
    → CarriedOut job (AtNode a (Deliver i)) w o → NodeGoes a s w o.world
unfolding with_some
comes_to job a i p n s w up sent answer o over =
    node_goes job a (Deliver i) n s w up (λ choice. rw (sent, answer choice) refl) o over

-- what a sound world's clearinghouse has saved is below the root
saved_right : (job : JobOf) (x : HouseAt) (h : HouseOf) → open_house x ≡ Some h → HouseIsRight job x
    → AreBelowRoot h.saved
saved_right job Down h e right = cc
saved_right job (IsUp (Stopped why)) h e right = cc
saved_right job (IsUp (Open k)) h e right = subst (λ (z : HouseOf). AreBelowRoot z.saved) (some_same e) right.2

saved_below_root : (job : JobOf) (w : WorldOf) (h : HouseOf) → IsSound job w → open_house w.house ≡ Some h
    → AreBelowRoot h.saved
saved_below_root job w h sound open_now =
    let same : w.house ≡ sound.whole.house = ap (λ (z : WorldOf). z.house) sound.from.cut in
    saved_right job sound.whole.house h (ap open_house (sym same) ∙ open_now) sound.right.house

-- a job's value is that of its first task, whose turns are the job's
value_is : (v : ℤ) (o : Option ℤ) → outcome_of o ≡ Value v → o ≡ Some v
value_is v None e = cc
value_is v (Some u) e = cc

module _ (job : JobOf) (ok : IsJob job) where
  first_value : (v : ℤ) → meaning_of job ≡ Value v → serial job.program (room []) ok.takes.thread job.input ≡ Some v
  unfolding value_within
  first_value v is = let found : thread_of job.program.threads (codes "main") ≡ Some ok.takes.thread = ok.takes.found in value_is v (serial job.program (room []) ok.takes.thread job.input) (rw found at is)

  first_turns : (most : ℕ) → turns_of job ≤ most → serial_turns job.program (room []) ok.takes.thread job.input ≤ most
  first_turns most few = let found : thread_of job.program.threads (codes "main") ≡ Some ok.takes.thread = ok.takes.found in rw found at few

pub finishes : (job : JobOf) (w : WorldOf) (h : HouseOf) (a word most : ℕ) (v : ℤ) (last : WorldOf) → IsJob job
    → IsSound job w → open_house w.house ≡ Some h → CanFinish h → CanCome w h a word → meaning_of job ≡ Value v
    → turns_of job ≤ most → AllCarriedOut job (newcomers a word most h w) w last → recorded last ≡ Some (Value v)
finishes job w h a word most v last ok sound open_now can comes value enough done =
    let n : ℕ = length w.net in
    let rest1 = done.2 in
    let rest2 = rest1.2 in
    let rest3 = rest2.2 in
    let rest4 = rest3.2 in
    let rest5 = rest4.2 in
    let rest6 = rest5.2 in
    let rest7 = rest6.2 in
    let first_step = started job a word w comes.starts done.0 done.1 in
    let at1 = said_stage a h (start job word) (join job word) n
    (with_used word w) done.0.world open_now refl first_step refl (n + 1) refl in
    let goes2 = house_goes job n (join job word) h
    (moves.tells job word (listed job ok word h)) done.0.world at1.last
    at1.stage.house (is_listed job ok word h comes.unlisted comes.room) rest1.0 rest1.1 in
    let at2 = house_stage a h (starting word) (moves.tells job word (listed job ok word h))
    (moves.roster_for job word (listed job ok word h)) (n + 1) done.0.world rest1.0.world at1.stage goes2 refl
    (n + 2) (omega arith) in
    let goes3 = comes_to job a (n + 1) (moves.roster_for job word (listed job ok word h)) (starting word)
    (quiet (joined job ok word h)) rest1.0.world at2.stage.node at2.last
    (is_member job ok word h) rest2.0 rest2.1 in
    let at3 = quiet_stage a (listed job ok word h) (starting word) (quiet (joined job ok word h))
    (n + 2) rest1.0.world rest2.0.world at2.stage goes3 refl in
    let goes4 = node_goes job a (Ask asked.House) (joined job ok word h)
    (asks job (name_of h) (joined job ok word h)) rest2.0.world at3.node
    (λ choice. rw (is_asked job ok word h) refl) rest3.0 rest3.1 in
    let at4 = said_stage a (listed job ok word h) (asks job (name_of h) (joined job ok word h))
    (steal job word (request job ok word h)) (n + 2) rest2.0.world rest3.0.world at3.house at3.long goes4 refl
    (n + 3) (omega arith) in
    let goes5 = house_goes job (n + 2) (steal job word (request job ok word h)) (listed job ok word h)
    (moves.grants job (its_steal job ok word h) (first job ok word h) (listed job ok word h)) rest3.0.world at4.last
    at4.stage.house (is_granted job ok word h can.root can.outcome comes.unanswered can.grant) rest4.0 rest4.1 in
    let at5 = house_stage a (listed job ok word h) (asking job ok word h)
    (moves.grants job (its_steal job ok word h) (first job ok word h) (listed job ok word h))
    (moves.packet job word (body.Grant (granted job ok word h)))
    (n + 3) rest3.0.world rest4.0.world at4.stage goes5 refl (n + 4) (omega arith) in
    let below = saved_below_root job w h sound open_now in
    let goes6 = comes_to job a (n + 3) (moves.packet job word (body.Grant (granted job ok word h)))
    (asking job ok word h) (takes job (granted job ok word h) (asking job ok word h)) rest4.0.world at5.stage.node
    at5.last (is_taken job ok word h below) rest5.0 rest5.1 in
    let at6 = quiet_stage a (granting job ok word h v) (asking job ok word h)
    (takes job (granted job ok word h) (asking job ok word h))
    (n + 4) rest4.0.world rest5.0.world at5.stage goes6 refl in
    let whole = is_done job ok word h v most (first_value job ok v value) (first_turns job ok most enough) in
    let goes7 = node_goes job a (Whole (record { minter = name_of h; number = h.minted + 1; frame = 0 }) most)
    (holder job ok word h) (changes job (sub job ok word h) (change job ok word h v) (holder job ok word h))
    rest5.0.world at6.node (λ choice. rw whole refl) rest6.0 rest6.1 in
    let at7 = said_stage a (granting job ok word h v)
    (changes job (sub job ok word h) (change job ok word h v) (holder job ok word h))
    (moves.packet job (name_of h) (body.Result (result job ok word h v)))
    (n + 4) rest5.0.world rest6.0.world at6.house at6.long goes7 refl (n + 5) (omega arith) in
    let goes8 = house_goes job (n + 4) (moves.packet job (name_of h) (body.Result (result job ok word h v)))
    (granting job ok word h v) (moves.records (Value v)
    (moves.packet job word (body.ResultAck (record { grant = grant job ok word h })) ∷ [])
    (granting job ok word h v)) rest6.0.world at7.last at7.stage.house (is_recorded job ok word h v can.commit)
    rest7.0 rest7.1 in
    let recorded_there : recorded rest7.0.world ≡ Some (Value v) =
    ap (λ (o : Option HouseOf). o >>= (λ x. x.outcome)) goes8.house in
    ap recorded rest7.2 ∙ recorded_there
