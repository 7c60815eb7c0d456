-- A transfer of the tables went in a packet of the world.
use Rattle.std.proofs.Common.{◌≡◌, ℕ, suc, Option, None, Some, refl, sym, ap, ◌∙◌}
use Rattle.std.specs.List.{slice_get}
use Rattle.ids.specs.Names.{Grant}
use Rattle.codec.specs.declared.body.Body.{Body}
use Rattle.codec.specs.declared.body.Body.TheVariants as body
use Rattle.serial_meaning.specs.Job.{JobOf}
use Rattle.steal_protocol.specs.declared.asker.Request.{Request}
use Rattle.table_laws.specs.Tables.{◌∈◌}
use Rattle.table_laws.specs.View.{Transfer, House, Works, View}
use Rattle.table_laws.specs.View as tables
use Rattle.table_laws.specs.Facts.{Came, request_of}
use Rattle.table_laws.specs.Names.{Names}
use Rattle.table_laws.specs.Requests.{Requests}
use Rattle.table_laws.proofs.Among.{placed}
use Rattle.actor_laws.specs.node_moves.Shows.{BodyShown, pending_of}
use Rattle.actor_laws.specs.node_moves.Steps.{Carries, IsSent}
use Rattle.world_steps.specs.Lost.{Answers, IsAwaited, IsTransfer, WasSent}
use Rattle.world_steps.specs.World.{WorldOf}
use Rattle.run_laws.specs.Shown.{Shown}
use Rattle.run_laws.proofs.Up.{NodeUp, node_up}

-- the packet of a transfer is one of its grant
transfer_body : (t : Transfer) (g : Grant) (b : Body) → t.grant ≡ g → Carries t b → IsTransfer g b
transfer_body t g (body.Grant b) of c = c.0 ∙ of
transfer_body t g (body.Offer b) of c = c.0 ∙ of
transfer_body t g other of c = absurd c

pub was_sent : (job : JobOf) (v : View) (w : WorldOf) → Shown job v w → (g : Grant) (i : ℕ) → Came v.transfers g i
    → WasSent w g i
was_sent job v w shown g i came =
    let t = came.transfer in
    let sent : IsSent job.number w.net t = shown.sent t came.sent in
    let at = placed w.net sent.packet sent.there in
    record {
      at = at.at;
      packet = sent.packet;
      sent = at.is;
      transfer = transfer_body t g sent.packet.body came.grant sent.carries;
      to = sent.to ∙ came.to;
    }

-- the request that a thief waits on
record Waits (t : Transfer) (o : Option Request) : Type 0 where
  request : Request
  is : o ≡ Some request
  victim : t.from ≡ request.victim
  seq : t.seq ≡ request.seq

waits : (t : Transfer) (o : Option Request) → pending_of o ≡ Some (request_of t) → Waits t o
waits t None e = cc
waits t (Some q) e =
    let same : record { victim = q.victim; seq = q.seq } ≡ request_of t = cc in
    record {
      request = q;
      is = refl;
      victim = sym (ap (λ (x : tables.Request). x.victim) same);
      seq = sym (ap (λ (x : tables.Request). x.seq) same);
    }

-- the packet of a Grant answers it
answers : (v : View) (t : Transfer) (q : Request) (to : ℕ) (b : Body) → t.hop ≡ 0 → t.grant.minter ≡ q.victim
    → t.seq ≡ q.seq → BodyShown v to b → Carries t b → Answers t.grant q b
answers v t q to (body.Grant b) first victim seq shown c = (c.0, c.1 ∙ seq, ap (λ (g : Grant). g.minter) c.0 ∙ victim)
answers v t q to (body.Offer b) first victim seq shown c =
    let later : suc shown.before ≡ 0 = sym shown.later ∙ shown.hop ∙ c.1 ∙ first in
    cc
answers v t q to other first victim seq shown c = absurd c

-- a thief that waits for a Grant does so in the world
pub awaits : (job : JobOf) (v : View) (w : WorldOf) → Shown job v w → Names v → Requests v → (t : Transfer)
    → t ∈ v.transfers → t.hop ≡ 0 → Works (v.mode t.to) → v.pending t.to ≡ Some (request_of t) → IsAwaited w t.grant
awaits job v w shown names requests t m first works pending =
    by_node (node_up job v w shown t.to works (λ e. let two : tables.Member ≡ House = sym member ∙ e in cc))
  where
    -- only a member waits
    member : v.mode t.to ≡ tables.Member
    member = requests.member_waits t.to (request_of t) works pending

    by_packet : (n : NodeUp v w t.to) → Waits t n.node.asker.pending → (sent : IsSent job.number w.net t) → (k : ℕ)
        → slice_get w.net k ≡ Some sent.packet → IsAwaited w t.grant
    by_packet n q sent k at =
        let victim : t.grant.minter ≡ q.request.victim = sym (names.minted_by t m first) ∙ q.victim in
        record {
          at = n.at;
          node = n.node;
          request = q.request;
          number = k;
          packet = sent.packet;
          up = n.there;
          pending = q.is;
          sent = at;
          to = sent.to ∙ sym n.name;
          answers = answers v t q.request sent.packet.to sent.packet.body first victim q.seq
              (shown.net sent.packet sent.there) sent.carries;
        }

    by_node : NodeUp v w t.to → IsAwaited w t.grant
    by_node n =
        let q : Waits t n.node.asker.pending =
        waits t n.node.asker.pending (sym n.parts.pending ∙ ap v.pending n.name ∙ pending) in
        let sent : IsSent job.number w.net t = shown.sent t m in
        let at = placed w.net sent.packet sent.there in
        by_packet n q sent at.at at.is
