-- Packets that give nothing away agree, and so do lists of packets that do.
use Rattle.std.proofs.Common.{List, [], ◌∷◌, ◌++◌, map, inl, inr, ⊎_elim, refl, ℕ}
use Rattle.std.specs.List.{flat_map}
use Rattle.ids.specs.declared.outcome.Progress.{Progress}
use Rattle.ids.specs.declared.outcome.Progress.TheVariants.{Active, Finished}
use Rattle.ids.specs.declared.work.Record.{Record}
use Rattle.codec.specs.Table.{PacketOf}
use Rattle.serial_meaning.specs.Job.{JobOf}
use Rattle.departure.specs.Offers.{offer}
use Rattle.steal_protocol.specs.Replies.{name_of_reply, put_reply}
use Rattle.steal_protocol.specs.declared.replies.Reply.{Reply}
use Rattle.subcomputation.specs.Subs.{SubOf}
use Rattle.node_steps.specs.Moves.{aborts, result_by, results}
use Rattle.table_laws.specs.Tables.{◌∈◌}
use Rattle.table_laws.proofs.Lists.{either}
use Rattle.table_laws.proofs.Among.{put_among}
use Rattle.actor_laws.specs.actor_agreement.Values.{AllRight, BodyIsRight, RepliesAreRight, SubIsRight}

module _ (job : JobOf) where
  pub none_sent : AllRight job []
  none_sent p m = absurd m

  pub one_sent : (p : PacketOf) → BodyIsRight job p.body → AllRight job (p ∷ [])
  one_sent p right q (inl e) = rw e right
  one_sent p right q (inr m) = absurd m

  pub both_sent : (ps qs : List PacketOf) → AllRight job ps → AllRight job qs → AllRight job (ps ++ qs)
  both_sent ps qs a b p m = ⊎_elim (λ x. a p x) (λ x. b p x) (either ps qs p m)

  -- packets for each item
  pub each_sent : {X : Type 0} (f : X → List PacketOf) → ((x : X) → AllRight job (f x)) → (xs : List X)
      → AllRight job (flat_map f xs)
  each_sent f all [] = none_sent
  each_sent f all (x ∷ xs) = both_sent (f x) (flat_map f xs) (all x) (each_sent f all xs)

  -- Aborts
  pub aborts_right : (records : List Record) → AllRight job (aborts job records)
  aborts_right [] p m = absurd m
  aborts_right (r ∷ records) p (inl e) = rw e tt
  aborts_right (r ∷ records) p (inr m) = aborts_right records p m

  -- the Result of an outcome
  pub results_right : (i : ℕ) (s : SubOf) → AllRight job (results job i s)
  results_right i s = by_progress s.content.progress
    where
      by_progress : (x : Progress) → AllRight job (result_by job i s x)
      by_progress Active = none_sent
      by_progress (Finished o) = one_sent _ tt

  -- Offers of what is right
  pub offers_right : (number i heir : ℕ) (subs : List SubOf) → ((s : SubOf) → s ∈ subs → SubIsRight job s)
      → AllRight job (map (offer number i heir) subs)
  offers_right number i heir [] right p m = absurd m
  offers_right number i heir (s ∷ subs) right p (inl e) = rw e (right s (inl refl)).content
  offers_right number i heir (s ∷ subs) right p (inr m) = offers_right number i heir subs (λ x y. right x (inr y)) p m

  -- the last answers to thieves, with one more
  pub replies_put : (new : Reply) (replies : List Reply) → BodyIsRight job new.packet.body → RepliesAreRight job replies
      → RepliesAreRight job (put_reply new replies)
  replies_put new replies right all r m =
      ⊎_elim (λ same. rw same right) (λ was. all r was) (put_among name_of_reply new r replies m)
