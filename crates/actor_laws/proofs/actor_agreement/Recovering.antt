-- Recovery by a newer roster keeps what is right of each subcomputation.
use Rattle.std.proofs.Common.{◌≡◌, ℕ, List, [], ◌∷◌, Option, None, Some, refl}
use Rattle.ids.specs.Members.{resolve}
use Rattle.ids.specs.Names.{Grant}
use Rattle.ids.specs.declared.member.Member.{Member}
use Rattle.ids.specs.declared.work.Record.{Record}
use Rattle.serial_meaning.specs.Job.{JobOf}
use Rattle.victim_records.specs.Records.{record_in}
use Rattle.sub_rules.specs.Changes.{redone, with_parent, with_thief}
use Rattle.subcomputation.specs.Recovering.{Recovery, for_each, for_some, record_settled, recovered, settle_record, settle_sub, sub_settled, their_records}
use Rattle.subcomputation.specs.Subs.{SubOf, host_in, sub_in, with_content}
use Rattle.node_state.specs.Node.{NodeOf}
use Rattle.node_steps.specs.Moves.{recovers}
use Rattle.table_laws.specs.Tables.{◌∈◌}
use Rattle.table_laws.proofs.Among.{found_among}
use Rattle.content_laws.proofs.Apart.{own_grant}
use Rattle.actor_laws.specs.actor_agreement.Values.{NodeIsRight, StepIsRight}
use Rattle.actor_laws.proofs.actor_agreement.Contents.{parent_right, redone_right, thief_right}
use Rattle.actor_laws.proofs.actor_agreement.Sent.{aborts_right}
use Rattle.actor_laws.proofs.actor_agreement.Steps.{SubsAreRight, put_right, without_right}

module _ (job : JobOf) where
  -- a part that keeps them, for each
  each_right : {A : Type 0} (f : A → List SubOf → Recovery)
      → ((x : A) (subs : List SubOf) → SubsAreRight job subs → SubsAreRight job (f x subs).subs)
      → (xs : List A) (subs : List SubOf) → SubsAreRight job subs → SubsAreRight job (for_each f xs subs).subs
  each_right f all [] subs right = right
  each_right f all (x ∷ xs) subs right = each_right f all xs (f x subs).subs (all x subs right)

  module _ (members : List Member) where
    -- a subcomputation is dropped, or waits for another host
    sub_right : (g : Grant) (subs : List SubOf) → SubsAreRight job subs
        → SubsAreRight job (settle_sub members g subs).subs
    unfolding for_some
    sub_right g subs right = by_sub (sub_in g subs) refl
      where
        by_host : (s : SubOf) → s ∈ subs → (o : Option ℕ) → SubsAreRight job (sub_settled s o subs).subs
        by_host s held None = without_right job s.grant subs right
        by_host s held (Some host) = put_right job (with_content s (with_parent host s.content)) subs
            (record {
              content = parent_right job host s.content (right s held).content;
              saved = (right s held).saved;
            }) right

        by_sub : (o : Option SubOf) → sub_in g subs ≡ o
            → SubsAreRight job (for_some o (λ s. sub_settled s (resolve members s.content.parent)) subs).subs
        by_sub None e = right
        by_sub (Some s) e = by_host s (found_among _ s subs e) (resolve members s.content.parent)

    -- a record's frame is done again, or another holds it
    record_right : (g : Grant) (subs : List SubOf) → SubsAreRight job subs
        → SubsAreRight job (settle_record members g subs).subs
    unfolding for_some
    record_right g subs right = by_sub (host_in g subs) refl
      where
        by_holder : (s : SubOf) (r : Record) → s ∈ subs → record_in r.grant s.content.records ≡ Some r → (o : Option ℕ)
            → SubsAreRight job (record_settled s r o subs).subs
        by_holder s r held there None = put_right job (with_content s (redone r s.content)) subs
            (record {
              content = redone_right job s.content r (right s held).content there;
              saved = (right s held).saved;
            }) right
        by_holder s r held there (Some holder) =
            put_right job (with_content s (with_thief r.grant holder s.content)) subs
            (record {
              content = thief_right job r.grant holder s.content (right s held).content;
              saved = (right s held).saved;
            }) right

        by_record : (s : SubOf) → s ∈ subs → (o : Option Record) → record_in g s.content.records ≡ o
            → SubsAreRight job (for_some o (λ r. record_settled s r (resolve members r.holder)) subs).subs
        by_record s held None e = right
        by_record s held (Some r) e = by_holder s r held (rw (own_grant g r s.content.records e) at e)
            (resolve members r.holder)

        by_sub : (o : Option SubOf) → host_in g subs ≡ o
            → SubsAreRight job (for_some o (λ s.
            for_some (record_in g s.content.records) (λ r. record_settled s r (resolve members r.holder))) subs).subs
        by_sub None e = right
        by_sub (Some s) e = by_record s (found_among _ s subs e) (record_in g s.content.records) refl

    recovered_right : (grants : List Grant) (subs : List SubOf) → SubsAreRight job subs
        → SubsAreRight job (recovered members grants subs).subs
    recovered_right grants subs right =
        let left = (for_each (settle_sub members) grants subs).subs in
        each_right (settle_record members) record_right (their_records grants left) left
        (each_right (settle_sub members) sub_right grants subs right)

    -- so a node that recovers agrees
    pub recovers_right : (grants : List Grant) (n : NodeOf) → NodeIsRight job n
        → StepIsRight job (recovers job members grants n)
    recovers_right grants n right = record {
      after = record { subs = recovered_right grants n.subs right.subs; replies = right.replies };
      sent = aborts_right job (recovered members grants n.subs).stopped;
      fills = λ f m. absurd m;
    }
