-- What a member holds was never offered at the next hop: who offers has stopped, and was sent the
-- hop before, as the member was.
use Rattle.std.proofs.Common.{◌≡◌, ◌+◌, ℕ, suc, Some, sym, ap, ◌∙◌, arith}
use Rattle.codec.specs.declared.body.Offer.{Offer}
use Rattle.codec.specs.declared.body.Roster.{Roster}
use Rattle.subcomputation.specs.Subs.{SubOf, sub_in}
use Rattle.node_state.specs.Node.{NodeOf}
use Rattle.node_state.specs.declared.parts.State.TheVariants.{Member}
use Rattle.table_laws.specs.View.{Transfer, Takes, Works, View}
use Rattle.table_laws.specs.Facts.{SentTo}
use Rattle.table_laws.specs.Names.{Handed}
use Rattle.table_laws.specs.Meaning.{Meaning}
use Rattle.table_laws.specs.Runs.{Run}
use Rattle.table_laws.proofs.NamesReached.{names_reached}
use Rattle.table_laws.proofs.ValuesKept.{run_reached}
use Rattle.actor_laws.specs.node_moves.Shows.{NodeShown, OfferShown}
use Rattle.actor_laws.proofs.node_moves.Held.{HeldAt, held_at}
use Rattle.actor_laws.proofs.node_moves.Members.{member_shown}

module _ (m : Meaning) (v : View) (n : NodeOf) (r : Roster) (run : Run m v) (is : n.state ≡ Member r)
    (shown : NodeShown v n) where
  pub never_offered : (x : SubOf) → sub_in x.grant n.subs ≡ Some x → (to : ℕ) (o : Offer) → OfferShown v.transfers to o
      → o.grant ≡ x.grant → o.hop ≡ x.hop + 1 → ⊥
  never_offered x there to o s grant hop =
      let i = n.incarnation in
      let g = x.grant in
      let h = member_shown v n r is shown in
      let held : HeldAt (v.subs i g) x = held_at (v.subs i g) (sub_in g n.subs) x (h.parts.subs g) there in
      let k = held.sub.hop in
      let names = names_reached (run_reached run) in
      let up : Works (v.mode i) = rw h.mode tt in
      let t : Transfer = s.transfer in
      let of_grant : t.grant ≡ g = s.grant ∙ grant in
      let next : t.hop ≡ suc k = (let a = s.hop in let b = held.shown.hop in omega (arith, a, b, hop)) in
      let handed : Handed v.mode v.transfers t k = names.path t k s.sent next in
      let mine : SentTo v.transfers g k i = names.seen_sent i k g up (names.held_seen i g held.sub up held.is) in
      let same : handed.before.transfer ≡ mine.transfer =
      names.one handed.before.transfer mine.transfer handed.before.sent mine.sent (handed.before.grant ∙ of_grant
      ∙ sym mine.grant) (handed.before.hop ∙ sym mine.hop) in
      let from : t.from ≡ i = sym handed.before.to ∙ ap (λ (u : Transfer). u.to) same ∙ mine.to in
      let takes : Takes (v.mode t.from) = rw (from, h.mode) tt in
      handed.stopped takes
