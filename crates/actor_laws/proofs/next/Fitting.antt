-- A content that agrees with the serial meaning and is new to a node fits there, so its Offer is
-- taken.
use Rattle.std.proofs.Common.{◌≡◌, ℕ, ◌&&◌, Bool, true, false, not, nat_eq, List, [], ◌∷◌, length, Option, None, Some, is_some, inl, inr, refl, sym, ap, ◌∙◌}
use Rattle.std.specs.List.{list_all}
use Rattle.std.proofs.lemmas.Bool.{and_from, eq-eqb}
use Rattle.std.proofs.lemmas.Bool.Decides.{eqb_tells}
use Rattle.ids.specs.Names.{Grant}
use Rattle.ids.specs.Naming.{name_of_frame, name_of_record}
use Rattle.ids.specs.declared.outcome.Progress.{Progress}
use Rattle.ids.specs.declared.outcome.Progress.TheVariants.{Active, Finished}
use Rattle.ids.specs.declared.work.Frame.{Frame}
use Rattle.ids.specs.declared.work.Record.{Record}
use Rattle.ids.specs.Ordered.{AreInOrder}
use Rattle.task_tree.specs.declared.tree.Program.{Program}
use Rattle.kind_check.specs.Total.{Takes, arity_of}
use Rattle.codec.specs.declared.body.Offer.{Offer}
use Rattle.codec.specs.declared.body.Roster.{Roster}
use Rattle.departure.specs.Offers.{offered}
use Rattle.serial_meaning.specs.Job.{JobOf}
use Rattle.frames.specs.Frames.{frame_in}
use Rattle.victim_records.specs.Records.{record_in}
use Rattle.recovery.proofs.Orders.{all_there}
use Rattle.sub_rules.specs.declared.content.Content.{Content}
use Rattle.subcomputation.specs.Fitting.{content_fits, frame_fits, is_arity, is_foreign, is_linked, progress_fits, record_fits, task_fits}
use Rattle.subcomputation.specs.Subs.{SubOf, has_record, host_in, name_of_sub, sub_in}
use Rattle.subcomputation.proofs.Others.{found_by}
use Rattle.node_state.specs.Node.{NodeOf, hop_in}
use Rattle.node_steps.specs.Cases.{is_above}
use Rattle.table_laws.specs.Tables.{◌∈◌}
use Rattle.table_laws.proofs.Among.{of_each}
use Rattle.actor_laws.proofs.node_moves.Hearing.{passes_test}
use Rattle.actor_laws.specs.actor_agreement.Values.{IsRight}
use Rattle.actor_laws.specs.next.Taking.{AreForeign, NoRecord, TakesOffer}
use Rattle.actor_laws.proofs.next.Linked.{sound_linked}

-- a test that each item passes
all_pass : {X : Type 0} (test : X → Bool) (xs : List X) → ((x : X) → x ∈ xs → test x ≡ true) → list_all test xs ≡ true
all_pass test [] each = refl
all_pass test (x ∷ xs) each = and_from (test x) (list_all test xs) (each x (inl refl))
    (all_pass test xs (λ y m. each y (inr m)))

-- a thread that takes so many numbers
pub arity_fits : (p : Program) (t count : ℕ) → Takes p t count → is_arity (arity_of p t) count ≡ true
arity_fits p t count takes = ap (λ o. is_arity o count) takes.arity ∙ eq-eqb count count refl

other_number : (m n : ℕ) → (m ≡ n → ⊥) → not (nat_eq m n) ≡ true
other_number m n other = elim (eqb_tells m n) [
  | inl same ↦ absurd (other same.1)
  | inr apart ↦ ap not apart.0
]

module _ (job : JobOf) (c : Content) (right : IsRight job c) where
  frames_fit : list_all (frame_fits job.program) c.frames ≡ true
  frames_fit = all_pass (frame_fits job.program) c.frames (λ f m. (
      let there : frame_in f.number c.frames ≡ Some f =
      of_each (λ (y : Frame). frame_in y.number c.frames ≡ Some y) c.frames
      (all_there name_of_frame c.frames right.kept.frames) f m in
      arity_fits job.program f.thread (length f.slots) (right.agrees.frames f.number f there).takes))

  -- a record of a list is found under its grant
  record_there : (r : Record) → r ∈ c.records → record_in r.grant c.records ≡ Some r
  record_there r m = of_each (λ (y : Record). record_in y.grant c.records ≡ Some y) c.records
      (all_there name_of_record c.records right.kept.records) r m

  records_fit : list_all (record_fits job.program) c.records ≡ true
  records_fit = all_pass (record_fits job.program) c.records (λ r m.
      arity_fits job.program r.task.thread (length r.task.numbers)
      (right.agrees.records r.grant r (record_there r m)).task.takes)

  module _ (i : ℕ) (subs : List SubOf) (order : AreInOrder name_of_sub subs) (foreign : AreForeign i subs c) where
    -- nothing that is held has a record of it
    unhosted : (g : Grant) → NoRecord g subs → is_some (host_in g subs) ≡ false
    unhosted g none = by_host (host_in g subs) refl
      where
        by_host : (o : Option SubOf) → host_in g subs ≡ o → is_some o ≡ false
        by_host None e = refl
        by_host (Some s) e =
            let has : has_record g s ≡ true = passes_test (has_record g) s subs e in
            let has_not : has_record g s ≡ false =
            ap is_some (none s.grant s (found_by name_of_sub (has_record g) s subs order e)) in
            let two : true ≡ false = sym has ∙ has_not in
            cc

    records_foreign : list_all (is_foreign i subs) c.records ≡ true
    records_foreign = all_pass (is_foreign i subs) c.records (λ r m.
        and_from (not (nat_eq r.grant.minter i)) (not (is_some (host_in r.grant subs)))
        (other_number r.grant.minter i (foreign.minter r.grant r (record_there r m)))
        (ap not (unhosted r.grant (foreign.unrecorded r.grant r (record_there r m)))))

    progress_fit : progress_fits i subs c c.progress ≡ true
    progress_fit = by_progress c.progress refl
      where
        by_progress : (p : Progress) → c.progress ≡ p → progress_fits i subs c p ≡ true
        by_progress Active is = and_from (is_linked c) (list_all (is_foreign i subs) c.records)
            (sound_linked c is right.kept.sound) records_foreign
        by_progress (Finished o) is = refl

    pub content_fit : content_fits job.program i subs c ≡ true
    content_fit =
        let task : task_fits job.program c.task ≡ true =
        arity_fits job.program c.task.thread (length c.task.numbers) right.agrees.task.takes in
        let frames : (task_fits job.program c.task && list_all (frame_fits job.program) c.frames) ≡ true =
        and_from _ _ task frames_fit in
        let records : (task_fits job.program c.task && list_all (frame_fits job.program) c.frames
        && list_all (record_fits job.program) c.records) ≡ true = and_from _ _ frames records_fit in
        and_from (task_fits job.program c.task && list_all (frame_fits job.program) c.frames
        && list_all (record_fits job.program) c.records) (progress_fits i subs c c.progress) records progress_fit

-- so an Offer of it is taken
pub fitting_taken : (job : JobOf) (r : Roster) (o : Offer) (n : NodeOf) → is_above o.hop (hop_in o.grant n.seen) ≡ true
    → sub_in o.grant n.subs ≡ None → AreInOrder name_of_sub n.subs → IsRight job (offered o).content
    → AreForeign n.incarnation n.subs (offered o).content → TakesOffer job r o n
fitting_taken job r o n above none order right foreign parts =
    let fits : content_fits job.program n.incarnation n.subs (offered o).content ≡ true =
    content_fit job (offered o).content right n.incarnation n.subs order foreign in
    rw (above, none, fits) refl
