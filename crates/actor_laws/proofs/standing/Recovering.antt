-- After a recovery by a roster all stand.
use Rattle.std.proofs.Common.{◌≡◌, List, [], ◌∷◌, ◌⊎◌, inl, inr, Some}
use Rattle.ids.specs.Names.{Grant}
use Rattle.ids.specs.Ordered.{AreInOrder}
use Rattle.ids.specs.declared.member.Member.{Member}
use Rattle.subcomputation.specs.Recovering.{for_each, recovered, settle_record, settle_sub, their_records}
use Rattle.subcomputation.specs.Subs.{SubOf, grants_of_subs, name_of_sub, sub_in}
use Rattle.table_laws.specs.Tables.{◌∈◌}
use Rattle.actor_laws.specs.standing.Standing.{AllStand, HaveOneHost, ContentStands, Stands}
use Rattle.actor_laws.proofs.standing.Covered.{grant_covered, record_covered}
use Rattle.actor_laws.proofs.standing.Parts.{Follows, HolderStands, follows_none, follows_on, holder_on, host_on, one_host_on, record_part, sub_part}

module _ (members : List Member) where
  record HostsDone (grants : List Grant) (subs after : List SubOf) : Type 0 where
    follows : Follows members subs after
    order : AreInOrder name_of_sub after
    hosts : (g : Grant) → g ∈ grants → (t : SubOf) → sub_in g after ≡ Some t → Stands members t.content.parent

  hosts_done : (grants : List Grant) (subs : List SubOf) → AreInOrder name_of_sub subs
      → HostsDone grants subs (for_each (settle_sub members) grants subs).subs
  hosts_done [] subs order = record { follows = follows_none members subs; order = order; hosts = λ g m. absurd m }
  hosts_done (g ∷ grants) subs order =
      let part = sub_part members g subs in
      let first : List SubOf = (settle_sub members g subs).subs in
      let rest = hosts_done grants first (part.order order) in
      let last : List SubOf = (for_each (settle_sub members) grants first).subs in
      record {
        follows = follows_on members subs first last part.follows rest.follows;
        order = rest.order;
        hosts = λ h m. elim m [
          | inl same ↦ host_on members h first last rest.follows (rw same part.host)
          | inr k ↦ rest.hosts h k
        ];
      }

  record HoldersDone (grants : List Grant) (subs after : List SubOf) : Type 0 where
    follows : Follows members subs after
    holders : (k : Grant) → k ∈ grants → (g : Grant) → HolderStands members g k after

  holders_done : (grants : List Grant) (subs : List SubOf) → AreInOrder name_of_sub subs → HaveOneHost subs
      → HoldersDone grants subs (for_each (settle_record members) grants subs).subs
  holders_done [] subs order one = record { follows = follows_none members subs; holders = λ k m. absurd m }
  holders_done (k ∷ grants) subs order one =
      let part = record_part members k subs order one in
      let first : List SubOf = (settle_record members k subs).subs in
      let rest = holders_done grants first part.order (one_host_on members subs first part.follows one) in
      let last : List SubOf = (for_each (settle_record members) grants first).subs in
      record {
        follows = follows_on members subs first last part.follows rest.follows;
        holders = λ h m g. elim m [
          | inl same ↦ holder_on members g h first last rest.follows (rw same (part.holder g))
          | inr n ↦ rest.holders h n g
        ];
      }

  -- a recovery of these: the others stood before
  pub recovery_stands : (grants : List Grant) (subs : List SubOf) → AreInOrder name_of_sub subs → HaveOneHost subs
      → ((g : Grant) (s : SubOf) → sub_in g subs ≡ Some s → (g ∈ grants) ⊎ ContentStands members s.content)
      → AllStand members (recovered members grants subs).subs
  recovery_stands grants subs order one covers g t there =
      let a = hosts_done grants subs order in
      let left : List SubOf = (for_each (settle_sub members) grants subs).subs in
      let b = holders_done (their_records grants left) left a.order (one_host_on members subs left a.follows one) in
      let last : List SubOf = (for_each (settle_record members) (their_records grants left) left).subs in
      let y = b.follows g t there in
      let x = a.follows g y.was y.there in
      elim (covers g x.was x.there) [
        | inl m ↦ record {
          host = host_on members g left last b.follows (a.hosts g m) t there;
          holders = λ k r e.
              let z = y.records k r e in
              b.holders k (record_covered g k y.was z.old grants left m y.there z.there) g t r there e;
        }
        | inr stood ↦ record {
          host = elim y.host [
            | inl same ↦ elim x.host [ inl again ↦ rw (same, again) stood.host | inr stands ↦ rw same stands ]
            | inr stands ↦ stands
          ];
          holders = λ k r e.
              let z = y.records k r e in
              let w = x.records k z.old z.there in
              elim z.holder [
                | inl same ↦
                    elim w.holder [
                      | inl again ↦ rw (same, again) (stood.holders k w.old w.there)
                      | inr stands ↦ rw same stands
                    ]
                | inr stands ↦ stands
              ];
        }
      ]

  pub all_recovered : (subs : List SubOf) → AreInOrder name_of_sub subs → HaveOneHost subs
      → AllStand members (recovered members (grants_of_subs subs) subs).subs
  all_recovered subs order one =
      recovery_stands (grants_of_subs subs) subs order one (λ g s there. inl (grant_covered g s subs there))
