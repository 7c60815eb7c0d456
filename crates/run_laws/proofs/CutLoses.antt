-- A world that is cut from one of whole packets has lost no more than that one.
use Rattle.std.proofs.Common.{◌≡◌, ℕ, inl, inr, ⊎_elim, Option, None, Some, sym, ap, subst, ◌∙◌}
use Rattle.ids.specs.Names.{Grant}
use Rattle.codec.specs.Pieces.{cut_all, piece_at}
use Rattle.codec.specs.Table.{PacketOf, packet}
use Rattle.codec.specs.declared.body.Body.{Body}
use Rattle.codec.specs.declared.body.Body.TheVariants as body
use Rattle.codec.specs.declared.body.Offer.{Offer}
use Rattle.steal_protocol.specs.declared.asker.Request.{Request}
use Rattle.clearinghouse.specs.House.{HouseOf}
use Rattle.table_laws.proofs.Among.{got, placed}
use Rattle.world_steps.specs.Lost.{Answers, Carried, Found, IsAwaited, IsFound, IsFrozen, IsLive, IsTransfer, NothingLost, NothingLostAt, SomeWork, Wanted, WasSent, awaited, cut_off, frozen, its_host, itself, live, of_record, of_root}
use Rattle.world_steps.specs.World.{Holder, WorldOf, open_house}
use Rattle.actor_laws.specs.whole_offers.Whole.{Went}
use Rattle.actor_laws.proofs.whole_offers.Cutting.{goes}
use Rattle.run_laws.specs.Sound.{cut_world}

module _ (v : WorldOf) where
  abbrev w : WorldOf
  w = cut_world v

  abbrev holder_in : (a : ℕ) (g : Grant) → Holder w a g → Holder v a g
  holder_in a g at = record { node = at.node; sub = at.sub; up = at.up; live = at.live }

  abbrev holder_out : (a : ℕ) (g : Grant) → Holder v a g → Holder w a g
  holder_out a g at = record { node = at.node; sub = at.sub; up = at.up; live = at.live }

  -- what was sent of a grant went, itself or a Piece of it
  sent_out : (g : Grant) (i : ℕ) → WasSent v g i → WasSent w g i
  sent_out g i was = by_what (goes v.net was.packet (got v.net was.at was.packet was.sent))
    where
      of_offer : (o : Offer) (b : Body) → b ≡ body.Offer o → IsTransfer g b → o.grant ≡ g
      of_offer o b says t = rw says at t

      by_what : Went (cut_all v.net) was.packet → WasSent w g i
      by_what x = ⊎_elim
          (λ same. (let at = placed (cut_all v.net) x.sent x.there in record {
            at = at.at;
            packet = x.sent;
            sent = at.is;
            transfer = subst (λ (p : PacketOf). IsTransfer g p.body) (sym same) was.transfer;
            to = x.to ∙ was.to;
          }))
          (λ (k : (o : Offer) × (was.packet.body ≡ body.Offer o)
          × (x.sent.body ≡ body.Piece (piece_at o (packet.write was.packet) 0))). (
          let at = placed (cut_all v.net) x.sent x.there in
          let its : IsTransfer g (body.Piece (piece_at k.0 (packet.write was.packet) 0)) =
          of_offer k.0 was.packet.body k.1 was.transfer in
          record {
            at = at.at;
            packet = x.sent;
            sent = at.is;
            transfer = subst (λ (b : Body). IsTransfer g b) (sym k.2) its;
            to = x.to ∙ was.to;
          }))
          x.what

  awaited_out : (g : Grant) → IsAwaited v g → IsAwaited w g
  awaited_out g is = by_what (goes v.net is.packet (got v.net is.number is.packet is.sent))
    where
      no_offer : (q : Request) (o : Offer) (b : Body) → b ≡ body.Offer o → Answers g q b → ⊥
      no_offer q o b says answers = rw says at answers

      by_what : Went (cut_all v.net) is.packet → IsAwaited w g
      by_what x = ⊎_elim
          (λ same. (let at = placed (cut_all v.net) x.sent x.there in record {
            at = is.at;
            node = is.node;
            request = is.request;
            number = at.at;
            packet = is.packet;
            up = is.up;
            pending = is.pending;
            sent = at.is ∙ ap Some same;
            to = is.to;
            answers = is.answers;
          }))
          (λ (k : (o : Offer) × (is.packet.body ≡ body.Offer o)
          × (x.sent.body ≡ body.Piece (piece_at o (packet.write is.packet) 0))). absurd
          (no_offer is.request k.0 is.packet.body k.1 is.answers))
          x.what

  frozen_out : (g : Grant) → IsFrozen v g → IsFrozen w g
  frozen_out g is = record {
    at = is.at;
    node = is.node;
    sub = is.sub;
    up = is.up;
    leaving = is.leaving;
    held = is.held;
  }

  carried_out : (g : Grant) (i : ℕ) → Carried v g i → Carried w g i
  carried_out g _ (itself {i = i} s) = itself (sent_out g i s)
  carried_out g _ (its_host {host = host} {a = a} {i = i} {r = r} at e s) =
      its_host (holder_out a host at) e (sent_out host i s)

  module _ (h : HouseOf) where
    wanted_in : (g : Grant) → Wanted w h g → Wanted v h g
    wanted_in _ (of_root {r = r} e) = of_root e
    wanted_in _ (of_record {host = host} {a = a} {r = r} up at e) =
        of_record (wanted_in host up) (holder_in a host at) e

    wanted_out : (g : Grant) → Wanted v h g → Wanted w h g
    wanted_out _ (of_root {r = r} e) = of_root e
    wanted_out _ (of_record {host = host} {a = a} {r = r} up at e) =
        of_record (wanted_out host up) (holder_out a host at) e

    found_out : (g : Grant) → Found v h g → Found w h g
    found_out g (live (a, at)) = live (a, holder_out a g at)
    found_out g (awaited is) = awaited (awaited_out g is)
    found_out g (frozen is) = frozen (frozen_out g is)
    found_out g (cut_off (i, carried, at)) = cut_off (i, carried_out g i carried, at)

    some_out : SomeWork v h → SomeWork w h
    some_out s = record {
      grant = s.grant;
      wanted = wanted_out s.grant s.wanted;
      at = s.at;
      holder = holder_out s.at s.grant s.holder;
      work = s.work;
    }

    is_found : IsFound v h → IsFound w h
    is_found f = record {
      found = λ g wanted. found_out g (f.found g (wanted_in g wanted));
      some = λ alive. some_out (f.some (λ g wanted. (let x : IsLive w g =
          alive g (wanted_out g wanted) in (x.0, holder_in x.0 g x.1))));
    }

  pub cut_loses : NothingLost v → NothingLost w
  cut_loses nothing = by_house (open_house v.house) nothing
    where
      by_house : (o : Option HouseOf) → NothingLostAt v o → NothingLostAt w o
      by_house None n = tt
      by_house (Some h) (inl recorded) = inl recorded
      by_house (Some h) (inr (inl none)) = inr (inl none)
      by_house (Some h) (inr (inr found)) = inr (inr (is_found h found))
