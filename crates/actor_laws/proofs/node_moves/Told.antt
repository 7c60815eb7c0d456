-- What was sent stays shown.
use Rattle.std.proofs.Common.{◌≡◌, ℕ, List, [], ◌∷◌, ◌++◌, inl, inr, ⊎_elim, refl}
use Rattle.codec.specs.Table.{PacketOf}
use Rattle.codec.specs.declared.body.Body.{Body}
use Rattle.codec.specs.declared.body.Body.TheVariants as body
use Rattle.node_steps.specs.declared.parts.Fill.{Fill}
use Rattle.table_laws.specs.Content as tables
use Rattle.table_laws.specs.View.{Transfer, View}
use Rattle.table_laws.proofs.Lists.{early, later, either}
use Rattle.move_laws.specs.Beside.{KeepsSent}
use Rattle.actor_laws.specs.node_moves.Shows.{BodyShown, PacketShown}
use Rattle.actor_laws.specs.node_moves.Steps.{AllShown, IsSent, shown_fill, shown_fills}

pub packet_kept : {v w : View} → KeepsSent v w → (p : PacketOf) → PacketShown v p → PacketShown w p
packet_kept {v = v} {w = w} k p = by_body p.body
  where
    by_body : (b : Body) → BodyShown v p.to b → BodyShown w p.to b
    by_body (body.Join b) s = (k.used b.from s.0, s.1)
    by_body (body.Roster b) s = record {
      roster = s.roster;
      shows = s.shows;
      had = ⊎_elim (λ m. inl (k.rosters s.roster m)) (λ e. inr e) s.had;
    }
    by_body (body.Steal b) s = k.steals _ s
    by_body (body.Grant b) s = record {
      transfer = s.transfer;
      sent = k.transfers s.transfer s.sent;
      grant = s.grant;
      hop = s.hop;
      from = s.from;
      to_is = s.to_is;
      seq = s.seq;
      content = s.content;
    }
    by_body (body.Refuse b) s = record {
      steal = s.steal;
      sent = k.refusals s.steal s.sent;
      thief = s.thief;
      seq_is = s.seq_is;
    }
    by_body (body.Result b) s = k.results _ s
    by_body (body.ResultAck b) s = k.settled _ s
    by_body (body.Offer b) s = record {
      transfer = s.transfer;
      sent = k.transfers s.transfer s.sent;
      before = s.before;
      grant = s.grant;
      hop = s.hop;
      later = s.later;
      from = s.from;
      to_is = s.to_is;
      content = s.content;
      kept = s.kept;
    }
    by_body (body.OfferAck b) s = k.acks _ s
    by_body (body.Leave b) s = (s.0, s.1, k.leaves _ s.2)
    by_body (body.Abort b) s = k.settled _ s
    by_body (body.Beat b) s = tt
    by_body (body.Save b) s = tt
    by_body (body.Piece b) s = absurd s

pub all_shown : {v w : View} → KeepsSent v w → (ps : List PacketOf) → AllShown v ps → AllShown w ps
all_shown k ps s p m = packet_kept k p (s p m)

pub none_shown : (v : View) → AllShown v []
none_shown v p m = absurd m

pub one_shown : (v : View) (p : PacketOf) → PacketShown v p → AllShown v (p ∷ [])
one_shown v p s q (inl e) = rw e s
one_shown v p s q (inr m) = absurd m

pub both_shown : (v : View) (ps qs : List PacketOf) → AllShown v ps → AllShown v qs → AllShown v (ps ++ qs)
both_shown v ps qs a b p m = ⊎_elim (λ x. a p x) (λ x. b p x) (either ps qs p m)

pub sent_early : {job : ℕ} (ps qs : List PacketOf) (t : Transfer) → IsSent job ps t → IsSent job (ps ++ qs) t
sent_early ps qs t s = record {
  packet = s.packet;
  there = early ps qs s.packet s.there;
  job_is = s.job_is;
  to = s.to;
  carries = s.carries;
}

pub sent_late : {job : ℕ} (ps qs : List PacketOf) (t : Transfer) → IsSent job qs t → IsSent job (ps ++ qs) t
sent_late ps qs t s = record {
  packet = s.packet;
  there = later ps qs s.packet s.there;
  job_is = s.job_is;
  to = s.to;
  carries = s.carries;
}

pub fills_on : (xs ys : List Fill) (before : List tables.Fill)
    → shown_fills (xs ++ ys) before ≡ shown_fills ys (shown_fills xs before)
fills_on [] ys before = refl
fills_on (x ∷ xs) ys before = fills_on xs ys (shown_fill x ∷ before)
