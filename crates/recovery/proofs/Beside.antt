-- A subcomputation whose records nobody else has recovers among others as it does alone.
use Rattle.std.proofs.Common.{◌≡◌, Bool, true, false, List, [], ◌∷◌, ◌++◌, ℕ, cond, map, not, Option, Some, None, refl, sym, ap, ◌∙◌}
use Rattle.std.specs.List.{AllByRecursion}
use Rattle.std.specs.Ordering.{is_eq, match_ordering}
use Rattle.ids.specs.Members.{resolve}
use Rattle.ids.specs.Named.{name_cmp}
use Rattle.ids.specs.Names.{Grant}
use Rattle.ids.specs.Naming.{name_of_grant}
use Rattle.ids.specs.Ordered.{AreInOrder}
use Rattle.ids.specs.declared.member.Member.{Member}
use Rattle.ids.specs.declared.work.Record.{Record}
use Rattle.ids.proofs.NameOrder.{names_total}
use Rattle.ids.proofs.KeyedLaws.{put_found}
use Rattle.victim_records.specs.Records.{record_in}
use Rattle.sub_rules.specs.declared.content.Content.{Content}
use Rattle.sub_rules.specs.Changes.{frame_of, readied, redone, with_parent, with_thief}
use Rattle.sub_rules.proofs.Sums.{all_put}
use Rattle.subcomputation.specs.Subs.{SubOf, has_record, host_in, name_of_sub, put_sub, sub_in, with_content, without_sub}
use Rattle.subcomputation.specs.declared.sub.ReadiedOf.{ReadiedOf}
use Rattle.subcomputation.specs.Recovering.{Recovery, for_each, for_some, ordered, record_grants, record_settled, recovered, settle_record, settle_sub, sub_settled, their_records, ◌then◌}
use Rattle.subcomputation.proofs.Others.{equal_to_itself, put_goes}
use Rattle.recovery.specs.Told.{AreForeign, AreWhole, beside}
use Rattle.recovery.proofs.NamedLists.{find_put, put_again}

-- a part of a recovery
abbrev part : List SubOf → List Record → List ReadiedOf → Recovery
part subs stopped again = record { subs = subs; stopped = stopped; again = again }

-- one alone, and among others
pub found_alone : (s : SubOf) → sub_in s.grant (s ∷ []) ≡ Some s
found_alone s = ap (λ r. cond (is_eq r) (Some s) None) (equal_to_itself (name_of_sub s))

-- it is found among others
found_beside : (s : SubOf) (subs : List SubOf) → sub_in s.grant (put_sub s subs) ≡ Some s
found_beside s subs = put_found name_of_sub name_cmp names_total s subs

-- it has another content, alone
put_alone : (s : SubOf) (c : Content) → put_sub (with_content s c) (s ∷ []) ≡ with_content s c ∷ []
put_alone s c = ap (λ r. match_ordering r (with_content s c ∷ s ∷ []) (with_content s c ∷ [])
    (s ∷ with_content s c ∷ [])) (equal_to_itself (name_of_sub s))

-- and among others
put_beside : (s : SubOf) (c : Content) (subs : List SubOf)
    → put_sub (with_content s c) (put_sub s subs) ≡ put_sub (with_content s c) subs
put_beside s c subs = put_again name_of_sub (with_content s c) s subs (equal_to_itself (name_of_sub s))

-- it goes, alone
without_alone : (s : SubOf) → without_sub s.grant (s ∷ []) ≡ []
without_alone s = ap (λ r. cond (not (is_eq r)) (s ∷ []) []) (equal_to_itself (name_of_sub s))

-- a part that leaves one subcomputation alone, and the same beside others
record Agrees (subs : List SubOf) (one others : Recovery) : Type 0 where
  pub left : SubOf
  pub stopped : List Record
  pub again : List ReadiedOf
  pub alone : one ≡ part (left ∷ []) stopped again
  pub among : others ≡ part (put_sub left subs) stopped again

-- a record of it is closed, or has another holder
record_agrees : (s : SubOf) (subs : List SubOf) (r : Record) (holder : Option ℕ)
    → Agrees subs (record_settled s r holder (s ∷ [])) (record_settled s r holder (put_sub s subs))
record_agrees s subs r None =
    let told : List ReadiedOf = record { grant = s.grant; frame = readied (frame_of r) } ∷ [] in
    record {
      left = with_content s (redone r s.content);
      stopped = r ∷ [];
      again = told;
      alone = ap (λ left. part left (r ∷ []) told) (put_alone s (redone r s.content));
      among = ap (λ left. part left (r ∷ []) told) (put_beside s (redone r s.content) subs);
    }
record_agrees s subs r (Some holder) = record {
  left = with_content s (with_thief r.grant holder s.content);
  stopped = [];
  again = [];
  alone = ap (λ left. part left [] []) (put_alone s (with_thief r.grant holder s.content));
  among = ap (λ left. part left [] []) (put_beside s (with_thief r.grant holder s.content) subs);
}

module _ (members : List Member) (subs : List SubOf) where
  -- a record, by who has the work of its holder
  abbrev settle : SubOf → Record → List SubOf → Recovery
  settle s r = record_settled s r (resolve members r.holder)

  -- the record of a grant, if it is there
  abbrev settle_in : Grant → SubOf → List SubOf → Recovery
  settle_in g s = for_some (record_in g s.content.records) (settle s)

  -- the record that is found, if any
  found_agrees : (s : SubOf) (o : Option Record)
      → Agrees subs (for_some o (settle s) (s ∷ [])) (for_some o (settle s) (put_sub s subs))
  unfolding for_some
  found_agrees s None = record { left = s; stopped = []; again = []; alone = refl; among = refl }
  found_agrees s (Some r) = record_agrees s subs r (resolve members r.holder)

  -- the record of a grant, where it has one
  host_agrees : (g : Grant) (s : SubOf) (b : Bool)
      → Agrees subs (for_some (cond b (Some s) None) (settle_in g) (s ∷ []))
      (for_some (cond b (Some s) None) (settle_in g) (put_sub s subs))
  unfolding for_some
  host_agrees g s true = found_agrees s (record_in g s.content.records)
  host_agrees g s false = record { left = s; stopped = []; again = []; alone = refl; among = refl }

  -- a record that none of the others has
  settle_agrees : (g : Grant) (s : SubOf) → host_in g subs ≡ None
      → Agrees subs (settle_record members g (s ∷ [])) (settle_record members g (put_sub s subs))
  settle_agrees g s none =
      let agrees = host_agrees g s (has_record g s) in
      record {
        left = agrees.left;
        stopped = agrees.stopped;
        again = agrees.again;
        alone = agrees.alone;
        among = ap (λ o. for_some o (settle_in g) (put_sub s subs)) (find_put name_of_sub (has_record g) s subs none)
            ∙ agrees.among;
      }

  -- such records in turn
  records_beside : (grants : List Grant) (s : SubOf) → AllByRecursion (λ g. host_in g subs ≡ None) grants
      → for_each (settle_record members) grants (put_sub s subs)
      ≡ beside (for_each (settle_record members) grants (s ∷ [])) subs
  records_beside [] s none = refl
  records_beside (g ∷ grants) s none =
      let one = settle_agrees g s none.0 in
      let rest = records_beside grants one.left none.1 in
      ap (λ r. r then for_each (settle_record members) grants) one.among
      ∙ ap (λ r. part r.subs (one.stopped ++ r.stopped) (one.again ++ r.again)) rest
      ∙ sym (ap (λ r. beside (r then for_each (settle_record members) grants) subs) one.alone)

-- the grants of records that none of the others has
foreign_ordered : (P : Grant → Type 0) (grants : List Grant) → AllByRecursion P grants
    → AllByRecursion P (ordered grants)
foreign_ordered P [] all = tt
foreign_ordered P (g ∷ grants) all = all_put name_of_grant P g (ordered grants) all.0 (foreign_ordered P grants all.1)

-- the grants of records
foreign_grants : (P : Grant → Type 0) (records : List Record) → AllByRecursion (λ r. P r.grant) records
    → AllByRecursion P (map (λ r. r.grant) records ++ [])
foreign_grants P [] all = tt
foreign_grants P (r ∷ records) all = (all.0, foreign_grants P records all.1)

module _ (members : List Member) (s : SubOf) (subs : List SubOf) (new : sub_in s.grant subs ≡ None)
    (foreign : AreForeign s.content.records subs) where
  -- the records of those that are left, once the first part is done
  abbrev records_of : List SubOf → Recovery
  records_of left = for_each (settle_record members) (their_records (s.grant ∷ []) left) left

  -- the second part, after the first
  abbrev then_records : Recovery → Recovery
  then_records r = (r then for_each (settle_sub members) []) then records_of

  -- a subcomputation that may be there, by who has the work of its host
  abbrev of_sub : Option SubOf → List SubOf → Recovery
  of_sub o = for_some o (λ t. sub_settled t (resolve members t.content.parent))

  -- the records of a subcomputation that may be there
  abbrev of_grants : List SubOf → Option SubOf → Recovery
  of_grants left o = for_each (settle_record members) (ordered (record_grants o ++ [])) left

  -- it is dropped
  dropped : then_records (sub_settled s None (put_sub s subs))
      ≡ beside (then_records (sub_settled s None (s ∷ []))) subs
  dropped =
      ap (λ left. then_records (part left s.content.records [])) (put_goes name_of_sub s subs new)
      ∙ ap (λ o. part subs s.content.records [] then (λ left. for_each (settle_sub members) [] left) then (λ left.
      of_grants left o)) new
      ∙ sym (ap (λ left. beside (then_records (part left s.content.records [])) subs) (without_alone s))

  -- or it has another host, and its records follow
  renamed : (c : Content) → c.records ≡ s.content.records
      → then_records (part (put_sub (with_content s c) (put_sub s subs)) [] [])
      ≡ beside (then_records (part (put_sub (with_content s c) (s ∷ [])) [] [])) subs
  renamed c same =
      ap (λ left. then_records (part left [] [])) (put_beside s c subs)
      ∙ ap (of_grants (put_sub t subs)) (found_beside t subs)
      ∙ records_beside members subs (ordered (record_grants (Some t) ++ [])) t all
      ∙ sym (ap (λ o. beside (of_grants (t ∷ []) o) subs) (found_alone t))
      ∙ sym (ap (λ left. beside (then_records (part left [] [])) subs) (put_alone s c))
    where
      t : SubOf
      t = with_content s c

      all : AllByRecursion (λ g. host_in g subs ≡ None) (ordered (map (λ r. r.grant) c.records ++ []))
      all = foreign_ordered (λ g. host_in g subs ≡ None) (map (λ r. r.grant) c.records ++ [])
          (foreign_grants (λ g. host_in g subs ≡ None) c.records (rw same foreign))

  -- it is dropped, or has another host
  by_host : (host : Option ℕ) → then_records (sub_settled s host (put_sub s subs))
      ≡ beside (then_records (sub_settled s host (s ∷ []))) subs
  by_host None = dropped
  by_host (Some host) = renamed (with_parent host s.content) refl

  -- it is there
  itself : (left : List SubOf) → of_sub (Some s) left ≡ sub_settled s (resolve members s.content.parent) left
  unfolding for_some
  itself left = refl

  -- all of it
  alone_beside : recovered members (s.grant ∷ []) (put_sub s subs)
      ≡ beside (recovered members (s.grant ∷ []) (s ∷ [])) subs
  alone_beside =
      ap (λ o. then_records (of_sub o (put_sub s subs))) (found_beside s subs)
      ∙ ap then_records (itself (put_sub s subs))
      ∙ by_host (resolve members s.content.parent)
      ∙ sym (ap (λ r. beside (then_records r) subs) (itself (s ∷ [])))
      ∙ sym (ap (λ o. beside (then_records (of_sub o (s ∷ []))) subs) (found_alone s))

-- the law, over all rosters and subcomputations
pub recovered_beside : (members : List Member) (s : SubOf) (subs : List SubOf) → sub_in s.grant subs ≡ None
    → AreForeign s.content.records subs
    → recovered members (s.grant ∷ []) (put_sub s subs) ≡ beside (recovered members (s.grant ∷ []) (s ∷ [])) subs
recovered_beside = alone_beside
