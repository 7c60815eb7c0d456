-- What a part of a recovery leaves: whom it waits for was waited for before, or stands.
use Rattle.std.proofs.Common.{◌≡◌, ℕ, true, false, is_some, List, ◌⊎◌, inl, inr, Option, None, Some, refl, ap, ◌∙◌}
use Rattle.ids.specs.Members.{resolve}
use Rattle.ids.specs.Names.{Grant}
use Rattle.ids.specs.Naming.{name_of_grant, name_of_record}
use Rattle.ids.specs.Named.{changed_of, put_in}
use Rattle.ids.proofs.Replacing.{put_is_found}
use Rattle.ids.specs.declared.member.Member.{Member}
use Rattle.ids.specs.declared.work.Record.{Record}
use Rattle.ids.specs.Ordered.{AreInOrder}
use Rattle.agreement_laws.proofs.Finding.{left, put_or_there}
use Rattle.victim_records.specs.Records.{record_in, renamed, with_holder}
use Rattle.sub_rules.specs.Changes.{redone, with_parent, with_thief}
use Rattle.subcomputation.specs.Recovering.{for_some, record_settled, settle_record, settle_sub, sub_settled}
use Rattle.subcomputation.specs.Subs.{SubOf, has_record, host_in, name_of_sub, put_sub, sub_in, with_content, without_sub}
use Rattle.subcomputation.proofs.Others.{found_by}
use Rattle.content_laws.proofs.Apart.{grant_named, own_grant}
use Rattle.content_laws.proofs.Orders.{put_order, without_order}
use Rattle.actor_laws.proofs.node_moves.Members.{own_sub}
use Rattle.actor_laws.proofs.node_moves.Hearing.{unfound, passes_test}
use Rattle.table_laws.proofs.Among.{found_among}
use Rattle.table_laws.proofs.Lists.{none_some, one_found}
use Rattle.actor_laws.specs.standing.Standing.{HaveOneHost, Stands}
use Rattle.actor_laws.proofs.standing.Heirs.{resolved_stands}

module _ (members : List Member) where
  -- a record that is there was there, and who holds it held it or stands
  pub record RecordWas (k : Grant) (r : Record) (before : List Record) : Type 0 where
    pub old : Record
    pub there : record_in k before ≡ Some old
    pub holder : (r.holder ≡ old.holder) ⊎ Stands members r.holder

  -- so was a subcomputation
  pub record SubWas (g : Grant) (t : SubOf) (subs : List SubOf) : Type 0 where
    pub was : SubOf
    pub there : sub_in g subs ≡ Some was
    pub host : (t.content.parent ≡ was.content.parent) ⊎ Stands members t.content.parent
    pub records : (k : Grant) (r : Record) → record_in k t.content.records ≡ Some r → RecordWas k r was.content.records

  abbrev pub Follows : List SubOf → List SubOf → Type 0
  Follows subs after = (g : Grant) (t : SubOf) → sub_in g after ≡ Some t → SubWas g t subs

  same_sub : (g : Grant) (t : SubOf) (subs : List SubOf) → sub_in g subs ≡ Some t → SubWas g t subs
  same_sub g t subs there =
      record {
        was = t;
        there = there;
        host = inl refl;
        records = λ k r e. record { old = r; there = e; holder = inl refl };
      }

  pub follows_none : (subs : List SubOf) → Follows subs subs
  follows_none subs g t there = same_sub g t subs there

  on : {a b c : ℕ} → (a ≡ b) ⊎ Stands members a → (b ≡ c) ⊎ Stands members b → (a ≡ c) ⊎ Stands members a
  on {a} {b} {c} first second = elim first [
    | inl same ↦
        elim second [ inl again ↦ inl (same ∙ again) | inr stands ↦ let x : Stands members a = rw same stands in inr x ]
    | inr stands ↦ inr stands
  ]

  pub follows_on : (a b c : List SubOf) → Follows a b → Follows b c → Follows a c
  follows_on a b c first second g t there =
      let y = second g t there in
      let x = first g y.was y.there in
      record {
        was = x.was;
        there = x.there;
        host = on y.host x.host;
        records = λ k r e.
            let s = y.records k r e in
            let z = x.records k s.old s.there in
            record { old = z.old; there = z.there; holder = on s.holder z.holder };
      }

  -- what stands goes on to
  pub host_on : (g : Grant) (a b : List SubOf) → Follows a b
      → ((s : SubOf) → sub_in g a ≡ Some s → Stands members s.content.parent) → (t : SubOf) → sub_in g b ≡ Some t
      → Stands members t.content.parent
  host_on g a b follows all t there =
      let x = follows g t there in
      elim x.host [ inl same ↦ rw same (all x.was x.there) | inr stands ↦ stands ]

  abbrev pub HolderStands : Grant → Grant → List SubOf → Type 0
  HolderStands g k subs =
      (s : SubOf)
      (r : Record) → sub_in g subs ≡ Some s → record_in k s.content.records ≡ Some r → Stands members r.holder

  pub holder_on : (g k : Grant) (a b : List SubOf) → Follows a b → HolderStands g k a → HolderStands g k b
  holder_on g k a b follows all t r there record_there =
      let x = follows g t there in
      let y = x.records k r record_there in
      elim y.holder [ inl same ↦ rw same (all x.was y.old x.there y.there) | inr stands ↦ stands ]

  pub one_host_on : (a b : List SubOf) → Follows a b → HaveOneHost a → HaveOneHost b
  one_host_on a b follows one g h k s t x y at_g at_h at_x at_y =
      let p = follows g s at_g in
      let q = follows h t at_h in
      let u = p.records k x at_x in
      let v = q.records k y at_y in
      one g h k p.was q.was u.old v.old p.there q.there u.there v.there

  -- one that is put in its own place
  pub put_follows : (new : SubOf) (subs : List SubOf) → SubWas new.grant new subs → Follows subs (put_sub new subs)
  put_follows new subs was g t there = elim (put_or_there name_of_sub (name_of_grant g) new t subs there) [
    | inl both ↦ let same : g ≡ new.grant = grant_named g new.grant both.0 in rw (same, both.1) was
    | inr both ↦ same_sub g t subs both.1
  ]

  pub without_follows : (g : Grant) (subs : List SubOf) → Follows subs (without_sub g subs)
  without_follows g subs h t there =
      same_sub h t subs (left name_of_sub (name_of_grant h) (name_of_grant g) t subs there).1

  -- a record whose holder is another one
  renamed_or : (x : Record) (heir : ℕ) (records : List Record) → record_in x.grant records ≡ Some x
      → (h : Grant) (r : Record) → record_in h (renamed x.grant heir records) ≡ Some r
      → ((h ≡ x.grant) × (r.holder ≡ heir)) ⊎ (record_in h records ≡ Some r)
  renamed_or x heir records here h r e =
      elim
      (put_or_there name_of_record (name_of_grant h) (with_holder heir x) r records (rw (changed_of_there here) at e)) [
        | inl both ↦ inl (grant_named h x.grant both.0, ap (λ (y : Record). y.holder) both.1)
        | inr both ↦ inr both.1
      ]
    where
      changed_of_there : record_in x.grant records ≡ Some x
          → renamed x.grant heir records ≡ put_in name_of_record (with_holder heir x) records
      changed_of_there e = ap (λ o. changed_of name_of_record (with_holder heir) records o) e

  renamed_was : (x : Record) (heir : ℕ) (records : List Record) → record_in x.grant records ≡ Some x
      → Stands members heir → (h : Grant) (r : Record) → record_in h (renamed x.grant heir records) ≡ Some r
      → RecordWas h r records
  renamed_was x heir records here stands h r e = elim (renamed_or x heir records here h r e) [
    | inl both ↦
        let there : record_in h records ≡ Some x = rw both.0 here in
        let s : Stands members r.holder = rw both.1 stands in
        record { old = x; there = there; holder = inr s }
    | inr there ↦ record { old = r; there = there; holder = inl refl }
  ]

  renamed_holder : (x : Record) (heir : ℕ) (records : List Record) → record_in x.grant records ≡ Some x
      → Stands members heir → (r : Record) → record_in x.grant (renamed x.grant heir records) ≡ Some r
      → Stands members r.holder
  renamed_holder x heir records here stands r e =
      let at : record_in x.grant (put_in name_of_record (with_holder heir x) records) ≡ Some r =
      rw (ap (λ o. changed_of name_of_record (with_holder heir) records o) here) at e in
      let same : r ≡ with_holder heir x = one_found at (put_is_found name_of_record (with_holder heir x) records) in
      rw same stands

  -- a subcomputation is dropped, or waits for another host: then that one stands
  pub record SubPart (g : Grant) (subs after : List SubOf) : Type 0 where
    pub follows : Follows subs after
    pub order : AreInOrder name_of_sub subs → AreInOrder name_of_sub after
    pub host : (t : SubOf) → sub_in g after ≡ Some t → Stands members t.content.parent

  pub sub_part : (g : Grant) (subs : List SubOf) → SubPart g subs (settle_sub members g subs).subs
  unfolding for_some
  sub_part g subs = by_sub (sub_in g subs) refl
    where
      by_host : (s : SubOf) → sub_in g subs ≡ Some s → (o : Option ℕ) → resolve members s.content.parent ≡ o
          → SubPart g subs (sub_settled s o subs).subs
      by_host s held None is =
          let own : g ≡ s.grant = own_sub g s subs held in
          record {
            follows = without_follows s.grant subs;
            order = λ order. without_order name_of_sub (name_of_grant s.grant) subs order;
            host =
                λ t there. absurd
                ((left name_of_sub (name_of_grant g) (name_of_grant s.grant) t subs there).0 (ap name_of_grant own));
          }
      by_host s held (Some host) is =
          let own : g ≡ s.grant = own_sub g s subs held in
          let new : SubOf = with_content s (with_parent host s.content) in
          let there : sub_in s.grant subs ≡ Some s = rw own at held in
          let stands : Stands members host = resolved_stands members s.content.parent host is in
          record {
            follows =
                put_follows new subs
                (record {
                  was = s;
                  there = there;
                  host = inr stands;
                  records = λ k r e. record { old = r; there = e; holder = inl refl };
                });
            order = λ order. put_order name_of_sub new subs order;
            host = λ t at. elim (put_or_there name_of_sub (name_of_grant g) new t subs at) [
              | inl both ↦ rw both.1 stands
              | inr both ↦ absurd (both.0 (ap name_of_grant own))
            ];
          }

      by_sub : (o : Option SubOf) → sub_in g subs ≡ o
          → SubPart g subs (for_some o (λ s. sub_settled s (resolve members s.content.parent)) subs).subs
      by_sub None e =
          record { follows = follows_none subs; order = λ order. order; host = λ t there. absurd (none_some e there) }
      by_sub (Some s) e = by_host s e (resolve members s.content.parent) refl

  -- a record's frame is done again, or another holds it: then that one stands
  pub record RecordPart (k : Grant) (subs after : List SubOf) : Type 0 where
    pub follows : Follows subs after
    pub order : AreInOrder name_of_sub after
    pub holder : (g : Grant) → HolderStands g k after

  pub record_part : (k : Grant) (subs : List SubOf) → AreInOrder name_of_sub subs → HaveOneHost subs
      → RecordPart k subs (settle_record members k subs).subs
  unfolding for_some
  record_part k subs order one = by_sub (host_in k subs) refl
    where
      no_record : (s : SubOf) (r : Record) → has_record k s ≡ false → record_in k s.content.records ≡ Some r → ⊥
      no_record s r none there = cc

      only : (s : SubOf) (x : Record) → sub_in s.grant subs ≡ Some s → record_in k s.content.records ≡ Some x
          → (g : Grant) (t : SubOf) (r : Record) → sub_in g subs ≡ Some t → record_in k t.content.records ≡ Some r
          → g ≡ s.grant
      only s x held there g t r at_g at_r = one g s.grant k t s r x at_g held at_r there

      by_holder : (s : SubOf) (x : Record) → sub_in s.grant subs ≡ Some s → record_in k s.content.records ≡ Some x
          → k ≡ x.grant → (o : Option ℕ) → resolve members x.holder ≡ o
          → RecordPart k subs (record_settled s x o subs).subs
      by_holder s x held there own None is =
          let new : SubOf = with_content s (redone x s.content) in
          record {
            follows =
                put_follows new subs
                (record {
                  was = s;
                  there = held;
                  host = inl refl;
                  records = λ h r e. record {
                    old = r;
                    there = (left name_of_record (name_of_grant h) (name_of_grant x.grant) r s.content.records e).1;
                    holder = inl refl;
                  };
                });
            order = put_order name_of_sub new subs order;
            holder = λ g t r at e. elim (put_or_there name_of_sub (name_of_grant g) new t subs at) [
              | inl both ↦
                  let f : record_in k (redone x s.content).records ≡ Some r = rw both.1 at e in
                  absurd ((left name_of_record (name_of_grant k) (name_of_grant x.grant) r s.content.records f).0
                  (ap name_of_grant own))
              | inr both ↦ absurd (both.0 (ap name_of_grant (only s x held there g t r both.1 e)))
            ];
          }
      by_holder s x held there own (Some heir) is =
          let new : SubOf = with_content s (with_thief x.grant heir s.content) in
          let stands : Stands members heir = resolved_stands members x.holder heir is in
          let here : record_in x.grant s.content.records ≡ Some x = rw own at there in
          let renamed_to : (h : Grant) (r : Record) → record_in h (with_thief x.grant heir s.content).records ≡ Some r
          → RecordWas h r s.content.records =
          renamed_was x heir s.content.records here stands in
          record {
            follows = put_follows new subs (record { was = s; there = held; host = inl refl; records = renamed_to });
            order = put_order name_of_sub new subs order;
            holder = λ g t r at e. elim (put_or_there name_of_sub (name_of_grant g) new t subs at) [
              | inl both ↦
                  let f : record_in k (with_thief x.grant heir s.content).records ≡ Some r = rw both.1 at e in
                  renamed_holder x heir s.content.records here stands r (rw own at f)
              | inr both ↦ absurd (both.0 (ap name_of_grant (only s x held there g t r both.1 e)))
            ];
          }

      by_record : (s : SubOf) → sub_in s.grant subs ≡ Some s → has_record k s ≡ true → (o : Option Record)
          → record_in k s.content.records ≡ o
          → RecordPart k subs (for_some o (λ x. record_settled s x (resolve members x.holder)) subs).subs
      by_record s held has None e = let none : has_record k s ≡ false = ap is_some e in cc
      by_record s held has (Some x) e =
          by_holder s x held e (own_grant k x s.content.records e) (resolve members x.holder) refl

      by_sub : (o : Option SubOf) → host_in k subs ≡ o
          → RecordPart k subs
          (for_some o (λ s. for_some (record_in k s.content.records)
          (λ x. record_settled s x (resolve members x.holder))) subs).subs
      by_sub None e = record {
        follows = follows_none subs;
        order = order;
        holder =
            λ g t r at there. absurd (no_record t r (unfound (has_record k) t subs e (found_among _ t subs at)) there);
      }
      by_sub (Some s) e =
          by_record s (found_by name_of_sub (has_record k) s subs order e) (passes_test (has_record k) s subs e)
          (record_in k s.content.records) refl
