-- A world that is cut from one of whole packets agrees as that one does.
use Rattle.std.proofs.Common.{◌≡◌, ℕ, ⊎_elim, Some, refl, sym, ap, ◌∙◌}
use Rattle.ids.specs.Names.{Grant}
use Rattle.ids.specs.declared.work.Task.{Task}
use Rattle.codec.specs.Pieces.{cut_all, piece_at}
use Rattle.codec.specs.Table.{PacketOf, packet}
use Rattle.codec.specs.declared.body.Body.{Body}
use Rattle.codec.specs.declared.body.Body.TheVariants as body
use Rattle.codec.specs.declared.body.Offer.{Offer}
use Rattle.serial_meaning.specs.Job.{JobOf}
use Rattle.departure.specs.Offers.{offered}
use Rattle.node_state.specs.Node.{NodeOf}
use Rattle.table_laws.specs.Tables.{◌∈◌}
use Rattle.table_laws.proofs.Among.{got, placed}
use Rattle.actor_laws.specs.actor_agreement.Values.{IsRight}
use Rattle.world_steps.specs.Agrees.{Agrees, BodyAgrees, PieceAgrees, WasGranted}
use Rattle.world_steps.specs.World.{Holder, WorldOf, node_in}
use Rattle.actor_laws.specs.whole_offers.Kept.{NodeKept}
use Rattle.actor_laws.specs.whole_offers.Whole.{IsPieceOf, Went, came_in}
use Rattle.actor_laws.proofs.whole_offers.Cutting.{arrives, goes}
use Rattle.run_laws.specs.Right.{WorldIsRight}
use Rattle.run_laws.specs.Shown.{Tied}
use Rattle.run_laws.specs.Sound.{cut_world}
use Rattle.run_laws.proofs.SentAgrees.{held_agrees, known_agrees, packet_agrees, stored_agrees}

module _ (job : JobOf) (v : WorldOf) (tied : Tied job v) (right : WorldIsRight job v) (kept : (a : ℕ) (n : NodeOf)
    → node_in a v.nodes ≡ Some n → NodeKept job.number v.net n) where
  -- Grants go as they are
  granted_whole : (g : Grant) (t : Task) → WasGranted job (cut_all v.net) g t → WasGranted job v.net g t
  granted_whole g t was =
      let p : PacketOf = record {
        job = job.number;
        to = was.to;
        body = body.Grant (record { seq = was.seq; grant = g; task = t; saved = was.saved });
      } in
      ⊎_elim
      (λ whole. (let at = placed v.net p whole in record {
        at = at.at;
        to = was.to;
        seq = was.seq;
        saved = was.saved;
        sent = at.is;
      }))
      (λ (k : IsPieceOf v.net p). absurd (let two : p.body
      ≡ body.Piece (piece_at k.offer (packet.write k.whole) k.index) = ap (λ (q : PacketOf). q.body) k.is in cc))
      (arrives v.net p (got (cut_all v.net) was.at p was.sent))

  granted_cut : (g : Grant) (t : Task) → WasGranted job v.net g t → WasGranted job (cut_all v.net) g t
  granted_cut g t was =
      let p : PacketOf = record {
        job = job.number;
        to = was.to;
        body = body.Grant (record { seq = was.seq; grant = g; task = t; saved = was.saved });
      } in
      by_what p was (goes v.net p (got v.net was.at p was.sent)) refl
    where
      by_what : (p : PacketOf) → (was : WasGranted job v.net g t) → (x : Went (cut_all v.net) p)
          → p ≡ record {
            job = job.number;
            to = was.to;
            body = body.Grant (record { seq = was.seq; grant = g; task = t; saved = was.saved });
          }
          → WasGranted job (cut_all v.net) g t
      by_what p was x is = ⊎_elim
          (λ same. (let at = placed (cut_all v.net) x.sent x.there in record {
            at = at.at;
            to = was.to;
            seq = was.seq;
            saved = was.saved;
            sent = at.is ∙ ap Some (same ∙ is);
          }))
          (λ (k : (o : Offer) × (p.body ≡ body.Offer o)
          × (x.sent.body ≡ body.Piece (piece_at o (packet.write p) 0))). absurd
          (let two : body.Grant (record { seq = was.seq; grant = g; task = t; saved = was.saved })
          ≡ body.Offer k.0 = sym (ap (λ (q : PacketOf). q.body) is) ∙ k.1 in cc))
          x.what

  body_cut : (x : Body) → BodyAgrees job v.net x → BodyAgrees job (cut_all v.net) x
  body_cut (body.Result b) a = ((a.0.0, granted_cut b.grant a.0.0 a.0.1), λ t was. a.1 t (granted_whole b.grant t was))
  body_cut (body.Grant b) a = a
  body_cut (body.Offer b) a = a
  body_cut (body.Piece b) a = a
  body_cut (body.Join b) a = tt
  body_cut (body.Roster b) a = tt
  body_cut (body.Steal b) a = tt
  body_cut (body.Refuse b) a = tt
  body_cut (body.ResultAck b) a = tt
  body_cut (body.OfferAck b) a = tt
  body_cut (body.Leave b) a = tt
  body_cut (body.Abort b) a = tt
  body_cut (body.Beat b) a = tt
  body_cut (body.Save b) a = a

  -- a Piece is one of an Offer that agrees
  piece_of_right : (p : PacketOf) → IsPieceOf v.net p → BodyAgrees job (cut_all v.net) p.body
  piece_of_right p k =
      let whole = right.net k.whole k.there in
      let offers : IsRight job (offered k.offer).content = rw k.says at whole in
      let agrees : PieceAgrees job (piece_at k.offer (packet.write k.whole) k.index) =
      record {
        whole = k.whole;
        offer = k.offer;
        index = k.index;
        says = k.says;
        large = k.large;
        below = k.below;
        is = refl;
        agrees = offers.agrees;
      } in
      rw (ap (λ (q : PacketOf). q.body) k.is) agrees

  pub cut_agrees : Agrees job (cut_world v)
  cut_agrees = record {
    packets = λ i p e. ⊎_elim
        (λ whole. body_cut p.body (packet_agrees job v tied right p whole))
        (λ piece. piece_of_right p piece)
        (arrives v.net p (got (cut_all v.net) i p e));
    held = λ a g at. (let here : Holder v a g =
        record { node = at.node; sub = at.sub; up = at.up; live = at.live } in held_agrees job v tied right a g here);
    known = λ a g at. (let here : Holder v a g =
        record { node = at.node; sub = at.sub; up = at.up; live = at.live } in known_agrees job v tied right a g here);
    stored = stored_agrees job v tied;
    parts = λ a i j n x y up of there. (
        let came : came_in job.number n.incarnation x y ∈ cut_all v.net =
        ((kept a n up).parts x (got n.assemblies i x of)).each y (got x.parts j y there) in
        let at = placed (cut_all v.net) (came_in job.number n.incarnation x y) came in
        record { at = at.at; sent = at.is });
  }
